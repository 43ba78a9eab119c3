-- Reactions worked by hand, call by call. Tokens are numbers.
use Rattle.std.proofs.Common.{◌≡◌, ℕ, [], ◌∷◌, true, false, Some, None, refl}
use Rattle.pt_meaning.specs.Tag.{Tag}
use Rattle.pt_meaning.specs.Machine.{Unknown, Known}
use Rattle.pt_meaning.specs.Net.{Output}
use Rattle.pt_meaning.specs.Valuation.{TickPlan}
use Rattle.pt_de_laws.specs.State.{Roles, DeState, Open, Asked, Between, started, at_rest, begun, asked, asked_on, after_told, after_heard, closed, partial_of, own_of, wake_of, is_due_child, is_last_child, asked_row}

abbrev time : ℕ → ℕ → Tag
time t n = record { time = t; step = n }

-- A clock of period 2 and value 1 and one of period 3 and value 10 feed a sum, whose output is the own one. Each has fired for the times before 2, so that their wakes are 2.0 and 3.0.
abbrev sum : TickPlan
sum = record { net = record { sources = Output 0 0 ∷ Output 1 0 ∷ Output 2 0 ∷ []; places = 0 ∷ 0 ∷ 2 ∷ [] }; inputs = 0 }

abbrev sum-roles : Roles
sum-roles = record { depths = 0 ∷ 0 ∷ 1 ∷ []; delayed = false ∷ false ∷ false ∷ []; early = false ∷ false ∷ false ∷ []; whole = false ∷ false ∷ false ∷ []; starts = Some (time 0 0) ∷ Some (time 0 0) ∷ None ∷ [] }

abbrev at-two : DeState ℕ
at-two = begun (time 2 0) [] (at_rest sum sum-roles (Some (time 2 0) ∷ Some (time 3 0) ∷ None ∷ []))

-- the first clock is due at 2.0, and the second isn't
first-due : is_due_child at-two 0 ≡ true
first-due = refl

second-rests : is_due_child at-two 1 ≡ false
second-rests = refl

sum-rests : is_due_child at-two 2 ≡ false
sum-rests = refl

-- it fires on one row without places, and gives 1: then the sum is due, and takes 1 and absence
abbrev one-told : DeState ℕ
one-told = after_told 0 ((1 ∷ []) ∷ []) (Some (time 4 0)) (asked 0 at-two)

one-row : asked_row (asked 0 at-two).stage ≡ []
one-row = refl

sum-due : is_due_child one-told 2 ≡ true
sum-due = refl

sum-takes : asked_row (asked 2 one-told).stage ≡ (1 ∷ []) ∷ [] ∷ []
sum-takes = refl

-- the sum gives 1 at 2.0, and the next reaction is at 3.0
abbrev sum-told : DeState ℕ
sum-told = after_told 2 ((1 ∷ []) ∷ []) None (asked 2 one-told)

gives-one : own_of sum-told ≡ (1 ∷ []) ∷ []
gives-one = refl

then-three : wake_of (closed sum-told) ≡ Some (time 3 0)
then-three = refl

-- at 0.0 both are due, and the sum gives 11
abbrev both : DeState ℕ
both = after_told 1 ((10 ∷ []) ∷ []) (Some (time 3 0)) (asked 1 (after_told 0 ((1 ∷ []) ∷ []) (Some (time 2 0)) (asked 0 (begun (time 0 0) [] (started sum sum-roles)))))

takes-both : asked_row (asked 2 both).stage ≡ (1 ∷ []) ∷ (10 ∷ []) ∷ []
takes-both = refl

-- A clock of period 2 feeds a delay of 0, whose output is the own one.
abbrev delay : TickPlan
delay = record { net = record { sources = Output 0 0 ∷ Output 1 0 ∷ []; places = 0 ∷ 1 ∷ [] }; inputs = 0 }

abbrev delay-roles : Roles
delay-roles = record { depths = 0 ∷ 0 ∷ []; delayed = true ∷ false ∷ []; early = false ∷ true ∷ []; whole = false ∷ true ∷ []; starts = Some (time 0 0) ∷ None ∷ [] }

abbrev clock-told : DeState ℕ
clock-told = after_told 0 ((1 ∷ []) ∷ []) (Some (time 2 0)) (asked 0 (begun (time 0 0) [] (started delay delay-roles)))

-- the token at its delay doesn't make the delay due at its depth: it fires last, and has given nothing
delay-not-due : is_due_child clock-told 1 ≡ false
delay-not-due = refl

delay-last : is_last_child clock-told 1 ≡ true
delay-last = refl

delay-takes : asked_row (asked 1 clock-told).stage ≡ (1 ∷ []) ∷ []
delay-takes = refl

abbrev at-zero : DeState ℕ
at-zero = after_told 1 ([] ∷ []) (Some (time 0 1)) (asked 1 clock-told)

gives-nothing : own_of at-zero ≡ [] ∷ []
gives-nothing = refl

-- one microstep later it is due: it tells 1 early, from nothing known of its delay, and fires last
then-one-later : wake_of (closed at-zero) ≡ Some (time 0 1)
then-one-later = refl

abbrev later : DeState ℕ
later = begun (time 0 1) [] (closed at-zero)

asks-early : partial_of later 1 ≡ Unknown ∷ []
asks-early = refl

abbrev heard : DeState ℕ
heard = after_heard 1 (Known (1 ∷ []) ∷ []) later

heard-last : is_last_child heard 1 ≡ true
heard-last = refl

abbrev delay-told : DeState ℕ
delay-told = after_told 1 ((1 ∷ []) ∷ []) None (asked 1 heard)

gives-once : own_of delay-told ≡ (1 ∷ []) ∷ []
gives-once = refl

then-two : wake_of (closed delay-told) ≡ Some (time 2 0)
then-two = refl

-- A clock of period 2 feeds a server of service time 3, which gave at 3.0 and is due at 6.0, as the clock is: it tells 1 early, though a token comes at that tag, and takes that token last. Then it serves those of 4 and 6 in turn, until 9.0 and 12.0.
abbrev at-six : DeState ℕ
at-six = begun (time 6 0) [] (at_rest delay delay-roles (Some (time 6 0) ∷ Some (time 6 0) ∷ []))

abbrev desk : DeState ℕ
desk = after_heard 1 (Known (1 ∷ []) ∷ []) (after_told 0 ((1 ∷ []) ∷ []) (Some (time 8 0)) (asked 0 at-six))

desk-asked : partial_of at-six 1 ≡ Unknown ∷ []
desk-asked = refl

desk-takes : asked_row (asked 1 desk).stage ≡ (1 ∷ []) ∷ []
desk-takes = refl

abbrev served : DeState ℕ
served = after_told 1 ((1 ∷ []) ∷ []) (Some (time 9 0)) (asked 1 desk)

serves-one : own_of served ≡ (1 ∷ []) ∷ []
serves-one = refl

then-eight : wake_of (closed served) ≡ Some (time 8 0)
then-eight = refl

-- A clock feeds a composite that gives its token twice, which feeds a running sum. Both outputs are own ones.
abbrev twice : TickPlan
twice = record { net = record { sources = Output 0 0 ∷ Output 1 0 ∷ Output 1 0 ∷ Output 2 0 ∷ []; places = 0 ∷ 1 ∷ 1 ∷ [] }; inputs = 0 }

abbrev twice-roles : Roles
twice-roles = record { depths = 0 ∷ 1 ∷ 2 ∷ []; delayed = false ∷ false ∷ false ∷ false ∷ []; early = false ∷ false ∷ false ∷ []; whole = false ∷ true ∷ false ∷ []; starts = Some (time 0 0) ∷ None ∷ None ∷ [] }

abbrev doubled : DeState ℕ
doubled = after_told 1 ((1 ∷ 1 ∷ []) ∷ []) None (asked 1 (after_told 0 ((1 ∷ []) ∷ []) (Some (time 3 0)) (asked 0 (begun (time 0 0) [] (started twice twice-roles)))))

-- the sum fires on two rows, one after another, at one tag
two-rows : (asked 2 doubled).stage ≡ Asked 2 (((1 ∷ []) ∷ []) ∷ ((1 ∷ []) ∷ []) ∷ [])
two-rows = refl

abbrev half-told : DeState ℕ
half-told = after_told 2 ((1 ∷ []) ∷ []) None (asked 2 doubled)

one-left : half-told.stage ≡ Between 2 (((1 ∷ []) ∷ []) ∷ [])
one-left = refl

abbrev all-told : DeState ℕ
all-told = after_told 2 ((2 ∷ []) ∷ []) None (asked_on half-told.stage 2 half-told)

gives-two : own_of all-told ≡ (1 ∷ 1 ∷ []) ∷ (1 ∷ 2 ∷ []) ∷ []
gives-two = refl

opens : all-told.stage ≡ Open
opens = refl
