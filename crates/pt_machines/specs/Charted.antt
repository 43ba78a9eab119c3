-- The machine of a Modal entity while it is made.
use Rattle.std.specs.Prelude.{◌≡◌, ℕ, List, [], ◌∷◌, ◌++◌, Bool, true, false}
use Rattle.std.specs.List.{AllZip}
use Rattle.pt_value.specs.declared.token.Token.{Token}
use Rattle.pt_document.specs.declared.job.Direction.TheVariants.{Input, Output}
use Rattle.pt_document.specs.Document.{TransitionTree}
use Rattle.pt_chart.specs.Machine.{TransitionTree as ChartTransition, ModeTree, NameTable}
use Rattle.pt_machine.specs.Machines.{Leaving, IsLeaving, modes_of, trees_of, seen_tokens}
use Rattle.pt_machine.specs.Typed.{typed_along, typed_variables}
use Rattle.pt_machines.specs.declared.site.Site.{Site}
use Rattle.pt_machines.specs.Sites.{entity_at, kids_at, values_at, typing_at, scope_at}

-- a state with one transition more of this kind
abbrev pub with_leaving : Bool → ChartTransition → ModeTree → ModeTree
with_leaving true t m = record { refinement = m.refinement; preemptive = m.preemptive ++ t ∷ []; others = m.others }
with_leaving false t m = record { refinement = m.refinement; preemptive = m.preemptive; others = m.others ++ t ∷ [] }

-- these transitions are read, and they are at the states that they leave, with the parameters that they name
pub record AreAdded (s : Site) (given : List TransitionTree) (xs : List Leaving) (modes : List ModeTree) (seen : List (List ℕ × Token)) : Type 0 where
  pub leave : AllZip (IsLeaving (scope_at s) (entity_at s)) given xs
  pub stand : modes ≡ modes_of (entity_at s) (kids_at s) xs
  pub named : seen ≡ seen_tokens (scope_at s).around (trees_of xs)

-- what may be named, with these parameters
pub record AreNames (s : Site) (seen : List (List ℕ × Token)) (names : NameTable) : Type 0 where
  pub inputs : names.inputs ≡ typed_along Input (typing_at s) s.number (entity_at s).ports
  pub outputs : names.outputs ≡ typed_along Output (typing_at s) s.number (entity_at s).ports
  pub variables : names.variables ≡ typed_variables (values_at s).variables (entity_at s).variables
  pub parameters : names.parameters ≡ seen
