-- What the turn of a child comes to that the director of its composite asked to fire, whichever director that is.
use Rattle.std.specs.Prelude.{◌≡◌, ℕ, ℤ, ◌<◌, [], ◌∷◌, ◌⊎◌, true, false, Option, Some, None}
use Rattle.pt_meaning.specs.Basics.{Tag, Streams}
use Rattle.pt_meaning.specs.Meetings.{Meets}
use Rattle.pt_meaning.specs.Tree as tree
use Rattle.pt_meaning.specs.NodeFacts.{need_of, next_of}
use Rattle.pt_meaning.specs.Step.{Step}
use Rattle.pt_value.specs.declared.token.Token.{Token}
use Rattle.pt_value.specs.declared.token.Token.TheVariants.{Int}
use Rattle.pt_firing.specs.declared.answer.Place.{Place}
use Rattle.pt_firing.specs.declared.fault.RunFault.{RunFault}
use Rattle.pt_records.specs.Made.{AreMade, AreMadeBefore, AreMadeWithin}
use Rattle.pt_records.specs.Fired.{FiresTo}
use Rattle.pt_core.specs.Acts.{Calls}
use Rattle.pt_library.specs.LibraryActor.{rows}
use Rattle.pt_node.specs.Shown.{Shown}
use Rattle.pt_node.specs.Firing.{noted, bare, recorded}
use Rattle.pt_node.specs.View.{Tree, node_of, kept_of, outline_of, text_at}
use Rattle.pt_node.specs.Live.{IsFit, HasFired, Takes}
use Rattle.pt_turns.specs.declared.turn.Turn.{Turn}
use Rattle.pt_turns.specs.declared.turn.Turn.TheVariants as turn
use Rattle.pt_turns.specs.Within.{outcome, IsLeftOff, IsStuck, IsFull, path_of, made_of}

module _ {D : Type 0} (c : Calls D) where
  -- child i, that was asked for, has fired and its firing is recorded: the director was told what it gave and which wake and need it has then, and accepts that
  pub record ChildFired (s : D) (child : Shown) (i : ℕ) (tag : Tag) (s' : D) (after : Shown) : Type 0 where
    pub out : Streams Token
    pub accepted : c.accepts s i out ≡ true
    pub told : s' ≡ c.told i out (next_of rows (node_of after)) (need_of rows (node_of after)) s
    pub fires : (m : Meets) → AreMadeBefore m (kept_of after) → FiresTo (λ k. Step k rows m (node_of child) tag (c.lent_of s)) (node_of after) out (kept_of child) (kept_of after)
    pub fit : IsFit after

  -- a child gave what isn't accepted
  pub record ChildRefused (s : D) (child : Shown) (i : ℕ) (tag : Tag) (place : Place) (after : Shown) : Type 0 where
    pub next : Tree
    pub out : Streams Token
    pub refused : c.accepts s i out ≡ false
    pub fires : (m : Meets) → AreMadeWithin m (kept_of after) → FiresTo (outcome m (node_of child) tag (c.lent_of s)) next out (kept_of child) (kept_of after)
    pub path : text_at (outline_of child) [] ≡ Some place.path
    pub firing : place.firing ≡ tree.made_of (node_of child)
    pub kind : place.kind ≡ c.refusal s

  -- what a turn of child i comes to
  abbrev pub TurnTo : D → Shown → ℕ → Tag → Turn → D → Shown → Type 0
  TurnTo s child i tag turn.Done s' after = ChildFired s child i tag s' after
  TurnTo s child i tag (turn.Fault place) s' after = ((m : Meets) → AreMade m (kept_of after) → IsStuck m (node_of child) tag (c.lent_of s) (outline_of child) place (kept_of child) (kept_of after)) ⊎ ChildRefused s child i tag place after
  TurnTo s child i tag turn.Spent s' after = (m : Meets) → AreMade m (kept_of after) → IsLeftOff m (node_of child) tag (c.lent_of s) (kept_of child) (kept_of after)
  TurnTo s child i tag (turn.Full blocked) s' after = (m : Meets) → AreMade m (kept_of after) → IsFull m (node_of child) tag (c.lent_of s) (outline_of child) blocked (kept_of child) (kept_of after)
  TurnTo s child i tag turn.Memory s' after = (m : Meets) → AreMade m (kept_of after) → IsLeftOff m (node_of child) tag (c.lent_of s) (kept_of child) (kept_of after)

  -- the director was told what child i gave and which wake and need it has once that is recorded: where it accepts what it gave, the firing is recorded; else the child is told as stuck; for want of memory nothing is recorded
  abbrev pub TellTo : D → Shown → ℕ → Tag → Streams Token → Turn → D → Shown → Type 0
  TellTo s mid i tag out turn.Done s' after = (c.accepts s i out ≡ true) × (s' ≡ c.told i out (next_of rows (node_of after)) (need_of rows (node_of after)) s) × (after ≡ recorded tag (noted tag out mid))
  TellTo s mid i tag out (turn.Fault place) s' after = (c.accepts s i out ≡ false) × (place.path ≡ path_of mid) × (place.firing ≡ made_of mid) × (place.kind ≡ c.refusal s) × (bare after ≡ bare mid)
  TellTo s mid i tag out turn.Spent s' after = ⊥
  TellTo s mid i tag out (turn.Full blocked) s' after = ⊥
  TellTo s mid i tag out turn.Memory s' after = bare after ≡ bare mid

  -- the turn of a child whose firing gave one number already, or of one that fires now
  abbrev pub TurnFrom : Option ℤ → D → Shown → ℕ → Tag → Turn → D → Shown → Type 0
  TurnFrom (Some n) s mid i tag t s' after = TellTo s mid i tag ((Int n ∷ []) ∷ []) t s' after
  TurnFrom None s child i tag t s' after = TurnTo s child i tag t s' after

-- a turn that goes on spends some of the allowance, and one that is told to have spent it spends all
abbrev pub TurnSpends : Turn → ℕ → ℕ → Type 0
TurnSpends turn.Done left left' = left' < left
TurnSpends (turn.Fault place) left left' = Unit {0}
TurnSpends turn.Spent left left' = left' ≡ 0
TurnSpends (turn.Full blocked) left left' = Unit {0}
TurnSpends turn.Memory left left' = Unit {0}

-- a child that isn't accepted is told as stuck, or there was no memory for that
abbrev pub RefusesTo : Shown → RunFault → Turn → Type 0
RefusesTo child kind turn.Done = ⊥
RefusesTo child kind (turn.Fault place) = (place.path ≡ path_of child) × (place.firing ≡ made_of child) × (place.kind ≡ kind)
RefusesTo child kind turn.Spent = ⊥
RefusesTo child kind (turn.Full blocked) = ⊥
RefusesTo child kind turn.Memory = Unit {0}

-- a child whose turn it is fits, once its firing is recorded if that is made, and takes these inputs if it fires now
abbrev pub MayFire : Option ℤ → Tag → Shown → Streams Token → Type 0
MayFire (Some n) tag child X = HasFired child
MayFire None tag child X = IsFit child × Takes tag child X
