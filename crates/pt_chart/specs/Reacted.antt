-- What comes of the guards of one kind: the machine stays, and gives what its refinement gave; a transition is taken, with what it gives and the values of the Variables then; or there is a fault.
use Rattle.std.specs.Prelude.{ℕ, List, Bool, true, false}
use Rattle.pt_meaning.specs.Streams.{Streams}
use Rattle.pt_meaning.specs.Modal.{Test, Choice, Nothing, One, Wrong, Acted, Acts, Fails, Chart, chosen}

pub data Reacted (T : Type 0) : Type 0 where
  Stays : (outputs : Streams T) → Reacted T
  Moves : (target : ℕ) (history : Bool) (outputs : Streams T) (values : List T) → Reacted T
  Stops : (code : ℕ) → Reacted T

abbrev pub by_actions : {T : Type 0} → (target : ℕ) (history : Bool) → Acted T → Reacted T
by_actions target history (Acts outputs values) = Moves target history outputs values
by_actions target history (Fails code) = Stops code

abbrev pub by_choice : {T : Type 0} → Chart T → (early : Bool) (mode : ℕ) → List T → Streams T → Streams T → Choice → Reacted T
by_choice chart early mode values inputs given Nothing = Stays given
by_choice chart early mode values inputs given (One n) = by_actions (chart.target early mode n) (chart.keeps_history early mode n) (chart.act early mode n values inputs given)
by_choice chart early mode values inputs given (Wrong code) = Stops code

-- the guards of a kind
abbrev pub guards : {T : Type 0} → Chart T → (early : Bool) (mode : ℕ) → List T → Streams T → Streams T → List Test
guards chart true mode values inputs given = chart.preemptive mode values inputs
guards chart false mode values inputs given = chart.others mode values inputs given

-- the guards of a kind in a mode, and the actions of the transition that is enabled
abbrev pub reacted : {T : Type 0} → Chart T → (early : Bool) (mode : ℕ) → List T → Streams T → Streams T → Reacted T
reacted chart early mode values inputs given = by_choice chart early mode values inputs given (chosen 0 (guards chart early mode values inputs given))
