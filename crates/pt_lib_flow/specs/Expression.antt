-- Expression: what its tree comes to, where the names of its inputs stand for their tokens and others for the parameters in scope. An input hides a parameter of its name.
-- Its tree has a type where the inputs have theirs. On tokens of these types it is never wrong, and a token of another type counts as none.
use Rattle.std.specs.Prelude.{ℕ, List, [], ◌∷◌, length, Option, Some, None, Result, Ok, Err, codes, if◌then◌else◌}
use Rattle.pt_meaning.specs.Basics.{Tag, Streams}
use Rattle.pt_meaning.specs.Machine.{Need}
use Rattle.pt_meaning.specs.Node.{Answer, Fails}
use Rattle.pt_value.specs.Value.{Value}
use Rattle.pt_value.specs.Token.{token_of}
use Rattle.pt_value.specs.declared.token.Token.{Token}
use Rattle.pt_datatypes.specs.Datatype.{Datatype}
use Rattle.pt_language.specs.declared.expr.Expr.{Expr}
use Rattle.pt_language.specs.declared.eval_fault.EvalFault.{EvalFault}
use Rattle.pt_language.specs.declared.eval_fault.EvalFault.TheVariants.{DivideByZero, Overflow, Index, Size, Absent, Memory}
use Rattle.pt_language.specs.Outcome.{Outcome, Gives, Stops, Wrong}
use Rattle.pt_language.specs.Scope.{Scope}
use Rattle.pt_language.specs.Tree.{Tree}
use Rattle.pt_language.specs.Meaning.{value}
use Rattle.pt_language.specs.Expr.{tree_of}
use Rattle.pt_firing.specs.RunFault.{code_of}
use Rattle.pt_firing.specs.declared.fault.RunFault.TheVariants as run
use Rattle.pt_firing.specs.declared.step.Step.{Step}
use Rattle.pt_firing.specs.declared.step.Step.TheVariants as made
use Rattle.pt_firing.specs.Params.{names_but}
use Rattle.pt_firing.specs.Row.{one_each, gives, rests}
use Rattle.pt_flow_base.specs.declared.params.Params.{Params}
use Rattle.pt_flow_base.specs.PortTypes.{typed_names}
use Rattle.pt_formula.specs.Formula.{Formula, names, parameters, with_inputs, is_typed, are_of}

abbrev pub need : Formula → Need
need actor = one_each (length actor.inputs)

-- what its names stand for on these inputs
abbrev pub scope : Formula → Streams Token → Scope
scope actor X = with_inputs (names actor.inputs) X (parameters actor.values)

-- what its tree comes to
abbrev pub outcome : Formula → Streams Token → Outcome Value
outcome actor X = value (scope actor X) actor.tree

-- A firing whose tree comes to this. Where each input has a token no port is absent, want of memory is no outcome, and what has a type isn't wrong.
abbrev pub answer : Formula → Outcome Value → Answer Token Formula
answer actor (Gives v) = gives actor (token_of v)
answer actor (Stops DivideByZero) = Fails (code_of run.DivideByZero)
answer actor (Stops Overflow) = Fails (code_of run.Overflow)
answer actor (Stops Index) = Fails (code_of run.Index)
answer actor (Stops Size) = Fails (code_of run.Size)
answer actor (Stops Absent) = rests actor
answer actor (Stops Memory) = rests actor
answer actor Wrong = rests actor

-- it gives nothing where an input is absent, or its token isn't of its type
abbrev pub step : Tag → Formula → Streams Token → Answer Token Formula
step tag actor X = if are_of actor.inputs X then answer actor (outcome actor X) else rests actor

-- how a step tells what an evaluation comes to
abbrev pub told : Result Token EvalFault → Step
told (Ok token) = made.Done ((token ∷ []) ∷ [])
told (Err DivideByZero) = made.Fault run.DivideByZero
told (Err Overflow) = made.Fault run.Overflow
told (Err Index) = made.Fault run.Index
told (Err Size) = made.Fault run.Size
told (Err Absent) = made.Done ([] ∷ [])
told (Err Memory) = made.Memory

-- what has a type
abbrev pub typed : Formula → Option Formula
typed actor = if is_typed actor then Some actor else None

abbrev pub of_inputs : List (List ℕ × Token) → Tree → Option (List (List ℕ × Datatype)) → Option Formula
of_inputs values tree None = None
of_inputs values tree (Some inputs) = typed (record { inputs = inputs; values = values; tree = tree })

-- by its tree: each port but the output is an input, of the type that it has, and all parameters are in scope
abbrev pub start_by : Option Expr → Params → Option Formula
start_by None params = None
start_by (Some expr) params = of_inputs params.values (tree_of expr) (typed_names params.types (names_but (codes "output") params.ports))

abbrev pub start : Params → Option Formula
start params = start_by params.tree params
