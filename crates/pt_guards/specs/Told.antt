-- How an evaluation tells what a guard or an action comes to. Want of memory tells nothing.
use Rattle.std.specs.Prelude.{◌≡◌, Result, Ok, Err}
use Rattle.pt_meaning.specs.Modal as modal
use Rattle.pt_meaning.specs.Transitions as transitions
use Rattle.pt_value.specs.Token.{value_of}
use Rattle.pt_value.specs.declared.token.Token.{Token}
use Rattle.pt_language.specs.declared.eval_fault.EvalFault.{EvalFault}
use Rattle.pt_language.specs.declared.eval_fault.EvalFault.TheVariants.{Memory}
use Rattle.pt_language.specs.Outcome.{Gives, Stops}
use Rattle.pt_firing.specs.RunFault.{code_of}
use Rattle.pt_guards.specs.declared.evaluation.Test.{Test}
use Rattle.pt_guards.specs.declared.evaluation.Test.TheVariants.{Off, On, Bad}
use Rattle.pt_guards.specs.declared.evaluation.Reading.{Reading}
use Rattle.pt_guards.specs.declared.evaluation.Reading.TheVariants.{Reads, Absent, Faulty}
use Rattle.pt_chart.specs.Chart.{test_of, reading_of}

abbrev pub test_view : Test → modal.Test
test_view Off = modal.Off
test_view On = modal.On
test_view (Bad kind) = modal.Bad (code_of kind)

abbrev pub reading_view : Reading → transitions.Reading Token
reading_view (Reads token) = transitions.Reads token
reading_view Absent = transitions.Absent
reading_view (Faulty kind) = transitions.Faulty (code_of kind)

abbrev pub told_test : Result Token EvalFault → modal.Test → Type 0
told_test (Ok token) test = test ≡ test_of (Gives (value_of token))
told_test (Err Memory) test = ⊥
told_test (Err fault) test = test ≡ test_of (Stops fault)

abbrev pub told_reading : Result Token EvalFault → transitions.Reading Token → Type 0
told_reading (Ok token) reading = reading ≡ transitions.Reads token
told_reading (Err Memory) reading = ⊥
told_reading (Err fault) reading = reading ≡ reading_of (Stops fault)
