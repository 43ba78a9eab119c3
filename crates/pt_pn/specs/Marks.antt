-- Marks of processes: which are settled, stopped since they were looked at, and which of these rest, so that they have no put to make; and how many aren't settled, and how many don't rest.
use Rattle.std.specs.Prelude.{ℕ, ◌+◌, List, [], ◌∷◌, Bool, true, false, set, replicate, refl}
use Rattle.std.specs.Coded.{Coded, code_by, coded×, coded_bool, coded_list}
use Rattle.pt_pn.specs.declared.marks.Mark.{Mark}
use Rattle.pt_pn.specs.declared.marks.Mark.TheVariants.{Awake, Waiting, Resting}

-- which are settled, and which of them rest
pub record Marked : Type 0 where
  pub settled : List Bool
  pub resting : List Bool

abbrev pub coded_marked : Coded Marked
coded_marked =
    code_by
    (List Bool × List Bool)
    (coded× (coded_list coded_bool) (coded_list coded_bool))
    (λ m. (m.settled, m.resting))
    (λ c. record { settled = c.0; resting = c.1 })
    (λ _. refl)

-- what one mark says
abbrev pub is_settled : Mark → Bool
is_settled Awake = false
is_settled Waiting = true
is_settled Resting = true

abbrev pub is_resting : Mark → Bool
is_resting Awake = false
is_resting Waiting = false
is_resting Resting = true

-- what marks say, one after another
abbrev pub settled_in : List Mark → List Bool
settled_in [] = []
settled_in (m ∷ ms) = is_settled m ∷ settled_in ms

abbrev pub resting_in : List Mark → List Bool
resting_in [] = []
resting_in (m ∷ ms) = is_resting m ∷ resting_in ms

abbrev pub seen_marks : List Mark → Marked
seen_marks ms = record { settled = settled_in ms; resting = resting_in ms }

-- how many are so
abbrev pub one_if_not : Bool → ℕ
one_if_not true = 0
one_if_not false = 1

abbrev pub awake_in : List Mark → ℕ
awake_in [] = 0
awake_in (m ∷ ms) = one_if_not (is_settled m) + awake_in ms

abbrev pub not_resting_in : List Mark → ℕ
not_resting_in [] = 0
not_resting_in (m ∷ ms) = one_if_not (is_resting m) + not_resting_in ms

-- so many of which none is settled
abbrev pub none_marked : ℕ → Marked
none_marked n = record { settled = replicate n false; resting = replicate n false }

-- process i is awake, it is settled, or it rests
abbrev pub marked_awake : ℕ → Marked → Marked
marked_awake i m = record { settled = set m.settled i false; resting = set m.resting i false }

abbrev pub marked_waiting : ℕ → Marked → Marked
marked_waiting i m = record { settled = set m.settled i true; resting = m.resting }

abbrev pub marked_resting : ℕ → Marked → Marked
marked_resting i m = record { settled = set m.settled i true; resting = set m.resting i true }
