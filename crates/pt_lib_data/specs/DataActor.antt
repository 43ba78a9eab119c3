-- The library of data actors, as the meaning of a model takes it.
use Rattle.std.specs.Prelude.{ℕ, List, [], Bool, true, false, Option, Some, None, codes}
use Rattle.pt_meaning.specs.Basics.{Tag, Streams}
use Rattle.pt_meaning.specs.Machine.{Need, Counts, Partial}
use Rattle.pt_meaning.specs.Node.{Answer, Rows, is_none}
use Rattle.pt_value.specs.declared.token.Token.{Token}
use Rattle.pt_firing.specs.Params.{channels_to}
use Rattle.pt_firing.specs.Strict.{strict}
use Rattle.pt_lib_data.specs.declared.data_actor.DataActor.{DataActor}
use Rattle.pt_lib_data.specs.declared.function.Class.{Class}
use Rattle.pt_lib_data.specs.declared.function.Function.{Function}
use Rattle.pt_lib_data.specs.Function as function
use Rattle.pt_lib_data.specs.Reply.{answer}

abbrev pub outputs : DataActor → ℕ
outputs actor = function.outputs actor.function

-- how many tokens a firing gives on each output
abbrev pub rates : DataActor → List ℕ
rates actor = function.rates actor.function

-- it needs the same at each firing, since it keeps nothing from one to the next
abbrev pub is_steady : DataActor → Bool
is_steady actor = true

-- it takes a token of each channel in one meeting, under Rendezvous
abbrev pub is_barrier : DataActor → Bool
is_barrier actor = function.is_barrier actor.function

abbrev pub need : DataActor → Need
need actor = Counts actor.needed

-- it stays as it is
abbrev pub step : Tag → DataActor → Streams Token → Answer Token DataActor
step tag actor X = answer actor (function.give actor.function X)

-- each of them is strict
abbrev pub early : Tag → DataActor → List (Partial Token) → List (Partial Token)
early tag actor vs = strict (outputs actor) step tag actor vs

-- The rows of the library. None of these actors has first tokens or wakes, or takes its lists whole.
abbrev pub rows : Rows Token DataActor
rows = record {
  first = λ actor. [];
  need = need;
  next = λ actor. None;
  react = step;
  early = early;
  whole = λ actor. false;
  begins = λ actor. is_none actor.needed;
}

abbrev pub with_needs : List (List ℕ × ℕ) → Option Function → Option DataActor
with_needs ports None = None
with_needs ports (Some f) = Some (record { function = f; needed = function.needed f (channels_to (codes "input") ports) })

abbrev pub started_as : Class → List (List ℕ × Token) → List (List ℕ × ℕ) → Option DataActor
started_as class values ports = with_needs ports (function.start_as class values ports)

abbrev pub start_in : Option Class → List (List ℕ × Token) → List (List ℕ × ℕ) → Option DataActor
start_in None values ports = None
start_in (Some class) values ports = started_as class values ports

-- the actor of a class that these parameters start, where so many channels come to each port, if they are such as its row has them
abbrev pub start : List ℕ → List (List ℕ × Token) → List (List ℕ × ℕ) → Option DataActor
start class values ports = start_in (function.class_of class) values ports
