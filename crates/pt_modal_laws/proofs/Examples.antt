-- Reactions worked by hand, call by call. Tokens are numbers.
use Rattle.std.proofs.Common.{◌≡◌, ℕ, [], ◌∷◌, List, Bool, true, false, Option, Some, None, nat_eq, refl}
use Rattle.pt_meaning.specs.Tag.{Tag}
use Rattle.pt_meaning.specs.Modal.{Test, Off, On, Bad, Chart}
use Rattle.pt_meaning.specs.Transitions.{Scope, Reading, Reads, Absent, Faulty, Action, Transition, Mode, chart_of, input_in, output_in, variable_in}
use Rattle.pt_modal_laws.specs.State.{ModalPlan, Due, Asked, Resets, Over, Failed, ModalState, taken_by, started, in_stage, begun, after_told, after_reset, closed, wake_of}
use Rattle.pt_modal_laws.specs.Chain.{local_of}

abbrev time : ℕ → ℕ → Tag
time t n = record { time = t; step = n }

abbrev if_on : Bool → Test
if_on true = On
if_on false = Off

-- a guard that reads an absent port isn't enabled
abbrev is-token : ℕ → Option ℕ → Test
is-token n None = Off
is-token n (Some x) = if_on (nat_eq x n)

abbrev input-is : ℕ → Scope ℕ → Test
input-is n scope = is-token n (input_in scope 0)

abbrev is-there : Option ℕ → Test
is-there None = Off
is-there (Some x) = On

abbrev output-is-there : Scope ℕ → Test
output-is-there scope = is-there (output_in scope 0)

-- a transition without actions
abbrev goes : (Scope ℕ → Test) → ℕ → (history : Bool) → Transition ℕ
goes guard to history = record { guard = guard; outputs = []; sets = []; target = to; history = history }

-- one input and one output, which the refinement has too
abbrev chart : List (Mode ℕ) → Chart ℕ
chart modes = chart_of 1 1 0 [] modes (λ i. 0 ∷ []) (λ i. Some 0 ∷ [])

-- The machine is the chart itself.
abbrev as-chart : Chart ℕ → Chart ℕ
as-chart c = c

-- A counter runs in mode 0, and holds in mode 1. Preemptive on 1 it goes to hold, and on 0 back to run.
abbrev run-hold : (history : Bool) → ModalPlan (Chart ℕ)
run-hold history = record {
  machine = chart (record { refinement = Some 0; preemptive = goes (input-is 1) 1 history ∷ []; others = [] } ∷ record { refinement = None; preemptive = []; others = goes (input-is 0) 0 history ∷ [] } ∷ []);
  starts = None ∷ [];
}

abbrev on-zero : (history : Bool) → (t : ℕ) → ModalState ℕ (Chart ℕ) → ModalState ℕ (Chart ℕ)
on-zero history t s = begun as-chart (time t 0) ((0 ∷ []) ∷ []) s

-- tick 0: no preemptive guard is enabled, and the counter fires on the token 0 at the local tag 0.0
zero-due : (on-zero true 0 (started as-chart (run-hold true))).stage ≡ Due 0
zero-due = refl

zero-takes : taken_by as-chart (on-zero true 0 (started as-chart (run-hold true))) (Some 0) ≡ (0 ∷ []) ∷ []
zero-takes = refl

-- it gives 0, and so does the composite, which stays in mode 0
abbrev counted : (n : ℕ) → ModalState ℕ (Chart ℕ) → ModalState ℕ (Chart ℕ)
counted n s = after_told as-chart 0 ((n ∷ []) ∷ []) None (in_stage (Asked 0) s)

zero-gives : (counted 0 (on-zero true 0 (started as-chart (run-hold true)))).outputs ≡ (0 ∷ []) ∷ []
zero-gives = refl

zero-over : (counted 0 (on-zero true 0 (started as-chart (run-hold true)))).stage ≡ Over
zero-over = refl

-- tick 2, on 1: the preemptive transition is taken, the counter isn't fired, and the composite gives nothing; the counter has stood for 2
abbrev held : (history : Bool) → ModalState ℕ (Chart ℕ)
held history = begun as-chart (time 2 0) ((1 ∷ []) ∷ []) (started as-chart (run-hold history))

two-over : (held true).stage ≡ Over
two-over = refl

two-gives-nothing : (held true).outputs ≡ [] ∷ []
two-gives-nothing = refl

two-modes : (held true).modes ≡ record { mode = 1; values = []; stays = record { standing = 2; lag = 0 } ∷ [] }
two-modes = refl

-- tick 3, on 0: with history the counter's lag is 3 less 2, and nothing is reset; it fires next at the local tag of 4.0, which is 3.0
abbrev back : (history : Bool) → ModalState ℕ (Chart ℕ)
back history = on-zero history 3 (closed (held history))

three-over : (back true).stage ≡ Over
three-over = refl

three-modes : (back true).modes ≡ record { mode = 0; values = []; stays = record { standing = 2; lag = 1 } ∷ [] }
three-modes = refl

four-due : (on-zero true 4 (closed (back true))).stage ≡ Due 0
four-due = refl

four-local : local_of (closed (back true)) (time 4 0) 0 ≡ time 3 0
four-local = refl

-- without history it is reset, and its time starts again at 0: 4.0 is its 1.0
three-resets : (back false).stage ≡ Resets 0
three-resets = refl

three-fresh : (back false).modes ≡ record { mode = 0; values = []; stays = record { standing = 0; lag = 3 } ∷ [] }
three-fresh = refl

reset-over : (after_reset 0 (back false)).stage ≡ Over
reset-over = refl

four-fresh : local_of (closed (after_reset 0 (back false))) (time 4 0) 0 ≡ time 1 0
four-fresh = refl

-- A DE composite around a clock of period 3 is the refinement of mode 0. Once it has fired the Modal goes off on 1, and on again on 1. A clock of period 2 gives 1.
abbrev on-off : (guard : Scope ℕ → Test) → (history : Bool) → ModalPlan (Chart ℕ)
on-off guard history = record {
  machine = chart (record { refinement = Some 0; preemptive = []; others = goes guard 1 history ∷ [] } ∷ record { refinement = None; preemptive = []; others = goes (input-is 1) 0 history ∷ [] } ∷ []);
  starts = Some (time 0 0) ∷ [];
}

abbrev on-one : (t : ℕ) → ModalState ℕ (Chart ℕ) → ModalState ℕ (Chart ℕ)
on-one t s = begun as-chart (time t 0) ((1 ∷ []) ∷ []) s

-- at first the wake is that of the refinement
first-wake : wake_of as-chart (started as-chart (on-off (input-is 1) true)) ≡ Some (time 0 0)
first-wake = refl

-- at 0.0 the refinement fires and gives 1, its next wake is its 3.0, and the Modal goes off, where it has no wake
abbrev off : (guard : Scope ℕ → Test) → (history : Bool) → ModalState ℕ (Chart ℕ)
off guard history = after_told as-chart 0 ((1 ∷ []) ∷ []) (Some (time 3 0)) (in_stage (Asked 0) (on-one 0 (started as-chart (on-off guard history))))

off-gives : (off (input-is 1) true).outputs ≡ (1 ∷ []) ∷ []
off-gives = refl

off-modes : (off (input-is 1) true).modes ≡ record { mode = 1; values = []; stays = record { standing = 0; lag = 0 } ∷ [] }
off-modes = refl

off-wake : wake_of as-chart (closed (off (input-is 1) true)) ≡ None
off-wake = refl

-- at 2.0 it is on again with lag 2, so that it wakes at 5.0
abbrev on-again : (guard : Scope ℕ → Test) → (history : Bool) → ModalState ℕ (Chart ℕ)
on-again guard history = on-one 2 (closed (off guard history))

on-lag : (on-again (input-is 1) true).modes ≡ record { mode = 0; values = []; stays = record { standing = 0; lag = 2 } ∷ [] }
on-lag = refl

on-wake : wake_of as-chart (closed (on-again (input-is 1) true)) ≡ Some (time 5 0)
on-wake = refl

-- at 4.0 it fires at its 2.0 and gives nothing, and the Modal goes off: it has stood for 2
abbrev quiet : (guard : Scope ℕ → Test) → ModalState ℕ (Chart ℕ)
quiet guard = after_told as-chart 0 ([] ∷ []) (Some (time 3 0)) (in_stage (Asked 0) (on-one 4 (closed (on-again guard true))))

at-two : local_of (closed (on-again (input-is 1) true)) (time 4 0) 0 ≡ time 2 0
at-two = refl

quiet-modes : (quiet (input-is 1)).modes ≡ record { mode = 1; values = []; stays = record { standing = 2; lag = 2 } ∷ [] }
quiet-modes = refl

-- where the guard asks whether the refinement gave something, it stays on, and wakes at 5.0
stays-on : (quiet output-is-there).modes.mode ≡ 0
stays-on = refl

stays-wake : wake_of as-chart (closed (quiet output-is-there)) ≡ Some (time 5 0)
stays-wake = refl

-- without history it is reset at 2.0, and has the wake of its start, which is 2.0 by the time of the Modal
on-resets : (on-again (input-is 1) false).stage ≡ Resets 0
on-resets = refl

reset-wake : wake_of as-chart (closed (after_reset 0 (on-again (input-is 1) false))) ≡ Some (time 2 0)
reset-wake = refl

-- A mode without a refinement, with these preemptive transitions.
abbrev preemptive-ones : List (Scope ℕ → Test) → List (Transition ℕ)
preemptive-ones [] = []
preemptive-ones (g ∷ gs) = goes g 0 true ∷ preemptive-ones gs

abbrev guarded : List (Scope ℕ → Test) → ModalState ℕ (Chart ℕ)
guarded guards = on-one 0 (started as-chart (record { machine = chart (record { refinement = None; preemptive = preemptive-ones guards; others = [] } ∷ []); starts = [] }))

abbrev always : Scope ℕ → Test
always scope = On

abbrev never : Scope ℕ → Test
never scope = Off

abbrev faulty : ℕ → Scope ℕ → Test
faulty code scope = Bad code

-- two that are enabled are a fault, and the first faulty one decides, wherever it is
two-enabled : (guarded (always ∷ always ∷ [])).stage ≡ Failed 37
two-enabled = refl

one-enabled : (guarded (never ∷ always ∷ never ∷ [])).stage ≡ Over
one-enabled = refl

faulty-first : (guarded (faulty 30 ∷ always ∷ [])).stage ≡ Failed 30
faulty-first = refl

faulty-later : (guarded (always ∷ always ∷ faulty 30 ∷ faulty 31 ∷ [])).stage ≡ Failed 30
faulty-later = refl

-- One Variable, which is 5. The last token that the refinement gave is 8, so the transition is taken: it puts the Variable on the output, in the place of 7 and 8, and then sets it to the input, which is 1.
abbrev read : Option ℕ → Reading ℕ
read None = Absent
read (Some x) = Reads x

abbrev variable-out : Action ℕ
variable-out = record { target = 0; value = λ scope. read (variable_in scope 0) }

abbrev input-in : Action ℕ
input-in = record { target = 0; value = λ scope. read (input_in scope 0) }

abbrev fault-in : Action ℕ
fault-in = record { target = 0; value = λ scope. Faulty 31 }

abbrev on-eight : List (Action ℕ) → Transition ℕ
on-eight sets = record { guard = λ scope. is-token 8 (output_in scope 0); outputs = variable-out ∷ []; sets = sets; target = 0; history = true }

abbrev one-variable : List (Action ℕ) → ModalPlan (Chart ℕ)
one-variable sets = record { machine = chart_of 1 1 0 (5 ∷ []) (record { refinement = Some 0; preemptive = []; others = on-eight sets ∷ [] } ∷ []) (λ i. 0 ∷ []) (λ i. Some 0 ∷ []); starts = None ∷ [] }

abbrev acted : List (Action ℕ) → ModalState ℕ (Chart ℕ)
acted sets = after_told as-chart 0 ((7 ∷ 8 ∷ []) ∷ []) None (in_stage (Asked 0) (on-one 0 (started as-chart (one-variable sets))))

acts-give : (acted (input-in ∷ [])).outputs ≡ (5 ∷ []) ∷ []
acts-give = refl

acts-set : (acted (input-in ∷ [])).modes.values ≡ 1 ∷ []
acts-set = refl

-- a fault of an action makes the composite stuck
acts-fail : (acted (input-in ∷ fault-in ∷ [])).stage ≡ Failed 31
acts-fail = refl
