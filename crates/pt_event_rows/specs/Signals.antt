-- Firings under DE that give one integer at most: what a node gives so, and what the turn of a child comes to that does.
use Rattle.std.specs.Prelude.{◌≡◌, ℕ, ℤ, ◌<◌, List, [], ◌∷◌, Option, Some, None}
use Rattle.pt_meaning.specs.Basics.{Tag, Streams}
use Rattle.pt_meaning.specs.Machine.{Partial, Known}
use Rattle.pt_meaning.specs.NodeFacts.{early_of}
use Rattle.pt_value.specs.declared.token.Token.{Token}
use Rattle.pt_firing.specs.declared.ask.Ask.TheVariants.{Finished}
use Rattle.pt_core.specs.Acts.{Calls}
use Rattle.pt_library.specs.LibraryActor.{rows, signal_of}
use Rattle.pt_node.specs.Shown.{Shown}
use Rattle.pt_node.specs.Reset.{KeepsRecords}
use Rattle.pt_node.specs.View.{node_of}
use Rattle.pt_turns.specs.Within.{GaveAt}
use Rattle.pt_turns.specs.Turns.{ChildFired}
use Rattle.pt_event_rows.specs.declared.events.Signalled.{Signalled}
use Rattle.pt_event_rows.specs.declared.events.Signalled.TheVariants as signalled

-- such a firing was made and gave one integer at most, on its one port, or nothing was done
abbrev pub SignalTo : Tag → Shown → Streams Token → Option (Option ℤ) → Shown → Type 0
SignalTo tag old X (Some given) new = GaveAt tag old X (signal_of given ∷ []) new
SignalTo tag old X None new = new ≡ old

-- Whatever is known of its inputs, the node gives early just that, one integer at most, on its one port. Where nothing is told nothing is said.
abbrev pub TellsAt : Tag → Shown → Option (Option ℤ) → Type 0
TellsAt tag s (Some given) = (vs : List (Partial Token)) → early_of rows tag (node_of s) vs ≡ Known (signal_of given) ∷ []
TellsAt tag s None = Unit {0}

module _ {D : Type 0} (c : Calls D) where
  -- the turn of child i is done, which gave one integer at most; or nothing was done; or memory was wanting for what is recorded of it, and the director isn't told
  abbrev pub SignalledTo : D → Shown → ℕ → Tag → Signalled → D → Shown → Type 0
  SignalledTo s child i tag signalled.Done s' after = ChildFired c s child i tag s' after
  SignalledTo s child i tag signalled.Open s' after = (s' ≡ s) × (after ≡ child)
  SignalledTo s child i tag signalled.Memory s' after = (s' ≡ s) × KeepsRecords child after

  -- A firing of a composite on these inputs, whatever its tag: as soon as it has begun its director is finished, and none of its children fires. It gives one integer at most, on its one own output. So the director is once that is handed out.
  pub record EndsAtOnce (s : D) (X : Streams Token) (given : Option ℤ) (s' : D) (tag : Tag) : Type 0 where
    pub finished : c.Gives (c.begun tag X s) Finished
    pub own : c.own_of (c.asking Finished (c.begun tag X s)) ≡ signal_of given ∷ []
    pub state : s' ≡ c.closed (c.asking Finished (c.begun tag X s))

  -- the director made such a firing, or nothing was done
  abbrev pub AtOnceTo : D → Streams Token → Option (Option ℤ) → D → Type 0
  AtOnceTo s X (Some given) s' = (tag : Tag) → EndsAtOnce s X given s' tag
  AtOnceTo s X None s' = s' ≡ s

-- a turn that is done spends some of the allowance, and another none
abbrev pub SignalSpends : Signalled → ℕ → ℕ → Type 0
SignalSpends signalled.Done left left' = left' < left
SignalSpends signalled.Open left left' = left' ≡ left
SignalSpends signalled.Memory left left' = left' ≡ left
