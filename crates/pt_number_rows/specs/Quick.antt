-- What the turn of a child comes to that may give one number, whichever director its composite has.
use Rattle.std.specs.Prelude.{◌≡◌, ℕ, ◌<◌}
use Rattle.pt_meaning.specs.Basics.{Tag}
use Rattle.pt_core.specs.Acts.{Calls}
use Rattle.pt_node.specs.Shown.{Shown}
use Rattle.pt_turns.specs.Within.{Given}
use Rattle.pt_turns.specs.Turns.{ChildFired}
use Rattle.pt_number_rows.specs.declared.numbers.Quick.{Quick}
use Rattle.pt_number_rows.specs.declared.numbers.Quick.TheVariants as quick

module _ {D : Type 0} (c : Calls D) where
  -- the turn of child i, which takes and gives numbers alone, is done, or its firing gave a number of which the director wasn't told yet, or none was made
  abbrev pub QuickTo : D → Shown → ℕ → Tag → Quick → D → Shown → Type 0
  QuickTo s child i tag quick.Done s' after = ChildFired c s child i tag s' after
  QuickTo s child i tag (quick.Open given) s' after = (s' ≡ s) × Given given child (c.lent_of s) after

-- a turn that is done spends some of the allowance, and another none
abbrev pub QuickSpends : Quick → ℕ → ℕ → Type 0
QuickSpends quick.Done left left' = left' < left
QuickSpends (quick.Open given) left left' = left' ≡ left
