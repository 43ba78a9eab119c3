-- Guards that are tested one after another.
use Rattle.std.specs.Prelude.{◌≡◌, ℕ, List, [], ◌∷◌, map, Result, Ok, Err}
use Rattle.pt_meaning.specs.Machine.{ambiguous_code}
use Rattle.pt_meaning.specs.Modal as modal
use Rattle.pt_meaning.specs.Modal.{Test, after_on}
use Rattle.pt_language.specs.Outcome.{Wrong}
use Rattle.pt_language.specs.Scope.{Scope}
use Rattle.pt_language.specs.Meaning.{value}
use Rattle.pt_firing.specs.RunFault.{code_of}
use Rattle.pt_firing.specs.declared.fault.RunFault.{RunFault}
use Rattle.pt_guards.specs.declared.evaluation.Test.{Test as Tested}
use Rattle.pt_guards.specs.declared.evaluation.Test.TheVariants as tested
use Rattle.pt_guards.specs.declared.choosing.Choice.{Choice}
use Rattle.pt_guards.specs.declared.choosing.Choice.TheVariants as choice
use Rattle.pt_guards.specs.declared.choosing.Enabled.{Enabled}
use Rattle.pt_guards.specs.declared.choosing.Enabled.TheVariants.{Nothing, One, Several}
use Rattle.pt_chart.specs.Machine.{TransitionTree}
use Rattle.pt_chart.specs.Chart.{test_of}

-- the guards of transitions where names stand for these
abbrev pub tests_in : Scope → List TransitionTree → List Test
tests_in scope ts = map (λ t. test_of (value scope t.guard)) ts

-- none is wrong
abbrev pub AreRightGuards : Scope → List TransitionTree → Type 0
AreRightGuards scope [] = Unit {0}
AreRightGuards scope (t ∷ ts) = (¬ (value scope t.guard ≡ Wrong)) × AreRightGuards scope ts

abbrev pub choice_view : Choice → modal.Choice
choice_view choice.Nothing = modal.Nothing
choice_view (choice.One n) = modal.One n
choice_view (choice.Wrong kind) = modal.Wrong (code_of kind)

-- with one more that is enabled
abbrev pub with_on : Enabled → ℕ → Enabled
with_on Nothing n = One n
with_on (One m) n = Several
with_on Several n = Several

-- once one more is tested, or its fault
abbrev pub and_test : Enabled → ℕ → Tested → Result Enabled RunFault
and_test e n tested.Off = Ok e
and_test e n tested.On = Ok (with_on e n)
and_test e n (tested.Bad kind) = Err kind

-- with several enabled guards before: a fault stays
abbrev pub after_several : modal.Choice → modal.Choice
after_several modal.Nothing = modal.Wrong ambiguous_code
after_several (modal.One n) = modal.Wrong ambiguous_code
after_several (modal.Wrong code) = modal.Wrong code

-- what is chosen of all, from what is chosen of those that weren't tested yet
abbrev pub joined : Enabled → modal.Choice → modal.Choice
joined Nothing rest = rest
joined (One n) rest = after_on n rest
joined Several rest = after_several rest
