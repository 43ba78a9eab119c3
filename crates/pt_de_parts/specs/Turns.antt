-- The turns of children bs marks: which have answered early, and which were asked for their turn.
use Rattle.std.specs.Prelude.{ℕ, zero, suc, List, [], ◌∷◌, Bool, true, false, refl, ◌≡◌}
use Rattle.std.specs.Coded.{Coded, code_by, coded_list, coded_ℕ}
use Rattle.pt_de_laws.specs.State.{Turn, Waits, Answered, Over}

abbrev pub turn_of : (answered over : Bool) → Turn
turn_of true true = Over
turn_of false true = Over
turn_of true false = Answered
turn_of false false = Waits

abbrev pub turns_in : (answered over : List Bool) → List Turn
turns_in [] over = []
turns_in (a ∷ bs) [] = []
turns_in (a ∷ bs) (o ∷ os) = turn_of a o ∷ turns_in bs os

abbrev from_turn : Turn → ℕ
from_turn Waits = 0
from_turn Answered = 1
from_turn Over = 2

abbrev to_turn : ℕ → Turn
to_turn zero = Waits
to_turn (suc zero) = Answered
to_turn (suc (suc k)) = Over

pub to_turn-from_turn : (t : Turn) → to_turn (from_turn t) ≡ t
to_turn-from_turn Waits = refl
to_turn-from_turn Answered = refl
to_turn-from_turn Over = refl

abbrev pub coded_turns : Coded (List Turn)
coded_turns = coded_list (code_by ℕ coded_ℕ from_turn to_turn to_turn-from_turn)
