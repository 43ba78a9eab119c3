-- Firings of one child in a row that are made at once.
use Rattle.std.specs.Prelude.{◌≡◌, ℕ, ℤ, zero, suc, ◌+◌, ◌≤◌, List, [], ◌∷◌, length, map, get_or, Bool, true, false, Option, Some, None, set}
use Rattle.pt_meaning.specs.Basics.{Tag, Streams}
use Rattle.pt_meaning.specs.Streams.{get}
use Rattle.pt_value.specs.declared.token.Token.{Token}
use Rattle.pt_value.specs.declared.token.Token.TheVariants.{Int}
use Rattle.pt_firing.specs.declared.ask.Ask.TheVariants as ask
use Rattle.pt_sdf.specs.Clauses as sdf
use Rattle.pt_sdf.specs.InARow.{TellsInTurn, AreAhead, given_by}
use Rattle.pt_directors.specs.Directors.{Director, of_sdf}
use Rattle.pt_node.specs.Acts.{acts}
use Rattle.pt_node.specs.Shown.{Shown}
use Rattle.pt_node.specs.Firing.{noted, recorded, recorded_times}
use Rattle.pt_node.specs.Reset.{KeepsRecords}
use Rattle.pt_turns.specs.Within.{Gave, made_of}
use Rattle.pt_turns.specs.Between.{At, Between}
use Rattle.pt_turns.specs.OwnMeetings.{OwnMeetings}

-- a firing of a node was made, and is recorded
pub record FiredOnce (tag : Tag) (old : Shown) (X out : Streams Token) (new : Shown) : Type 0 where
  pub own : Shown
  pub gave : Gave old X out own
  pub made : made_of own ≡ made_of old
  pub is : new ≡ recorded tag (noted tag out own)

-- so many were made, one after another, each on its inputs and with its outputs
abbrev pub FiresInTurn : Tag → (inputs outputs : ℕ → Streams Token) → ℕ → Shown → Shown → Type 0
FiresInTurn tag inputs outputs zero old new = new ≡ old
FiresInTurn tag inputs outputs (suc k) old new = (mid : Shown) × FiresInTurn tag inputs outputs k old mid × FiredOnce tag mid (inputs k) (outputs k) new

-- Where an SDF core asked for a child, which made firings in a row, and was told of them one after another, the firing of the composite has come so far as if each had been a turn of its own.
abbrev pub RowsGoOn : Type 0
RowsGoOn = (before : Director) (olds : List Shown) (tag : Tag) (X : Streams Token) (allowance : ℕ) (own : OwnMeetings) (s t : sdf.State) (kids : List Shown) (left left' i : ℕ) (when : Tag) (child new : Shown) (inputs outputs : ℕ → Streams Token) (k : ℕ) →
    Between acts before olds tag X allowance own (ask.Fire i when) (of_sdf s) kids left → get kids i ≡ Some child → TellsInTurn i inputs outputs (suc k) s t → FiresInTurn when inputs outputs (suc k) child new → left' + suc k ≡ left → At acts before olds tag X allowance own (of_sdf t) (set kids i new) left'

-- Child i, that an SDF core asked for, made so many of its next firings, `most` at most, each of which gave as many of these numbers. They are firings in turn, at whatever tag, once they are noted and recorded together. None of them is yet.
pub record MadeRow (s : sdf.State) (child : Shown) (i most firings rate : ℕ) (numbers : List ℤ) (mid : Shown) : Type 0 where
  pub inputs : List (Streams Token)
  pub ahead : AreAhead i inputs s
  pub few : firings ≤ length inputs
  pub within : firings ≤ most
  pub fires : (tag : Tag) → FiresInTurn tag (λ k. get_or inputs k []) (given_by rate numbers) firings child (recorded_times tag firings (noted tag (map Int numbers ∷ []) mid))
  pub keeps : KeepsRecords child mid

-- this is how many it made, and how many numbers each gave, or nothing was done
abbrev pub RowTo : sdf.State → Shown → (i most : ℕ) → Option (ℕ × ℕ) → List ℤ → Shown → Type 0
RowTo s child i most (Some row) numbers mid = MadeRow s child i most row.0 row.1 numbers mid
RowTo s child i most None numbers mid = mid ≡ child

-- Child i made firings in a row at a tag, each of which is recorded, and an SDF core was told of them one after another. The allowance is lowered by each of them.
pub record FiredInARow (s : sdf.State) (child : Shown) (i : ℕ) (tag : Tag) (left : ℕ) (t : sdf.State) (new : Shown) (left' : ℕ) : Type 0 where
  pub more : ℕ
  pub inputs : ℕ → Streams Token
  pub outputs : ℕ → Streams Token
  pub tells : TellsInTurn i inputs outputs (suc more) s t
  pub fires : FiresInTurn tag inputs outputs (suc more) child new
  pub spends : left' + suc more ≡ left

-- one or more were made so, or nothing was done
abbrev pub StretchTo : sdf.State → Shown → ℕ → Tag → (left : ℕ) → Bool → sdf.State → Shown → (left' : ℕ) → Type 0
StretchTo s child i tag left true t new left' = FiredInARow s child i tag left t new left'
StretchTo s child i tag left false t new left' = (t ≡ s) × (new ≡ child) × (left' ≡ left)
