-- What comes of the guards of one kind is what the chart says.
use Rattle.std.proofs.Common.{◌≡◌, ℕ, zero, suc, ◌<◌, ◌≤◌, List, [], ◌∷◌, length, get_or, map, replicate, Bool, true, false, Option, Some, None, refl, sym, ap, ◌∙◌, arith}
use Rattle.pt_meaning.specs.Streams.{Streams, at, get}
use Rattle.pt_meaning.specs.Modal.{Choice, Nothing, One, Wrong, chosen, unfired_outputs}
use Rattle.pt_meaning.specs.Transitions.{Transition, Mode, tests, mode_in, of_kind, acted_by, target_by, keeps_by, last_of}
use Rattle.pt_meaning.specs.Transitions.{Scope as Scoped}
use Rattle.pt_value.specs.declared.token.Token.{Token}
use Rattle.pt_language.specs.Scope.{Scope}
use Rattle.pt_formula.specs.Formula.{parameters}
use Rattle.pt_chart.specs.declared.written.Transition.{Transition as Given}
use Rattle.pt_chart.specs.Machine.{TransitionTree, ModeTree, NameTable, Machine}
use Rattle.pt_chart.specs.Names.{with_names, names_in}
use Rattle.pt_language.specs.Meaning.{value}
use Rattle.pt_chart.specs.Chart.{chart_of, transition_of, mode_of, test_of}
use Rattle.pt_guards.specs.Choose.{tests_in}
use Rattle.pt_chart.specs.Reacted.{Reacted, by_actions, by_choice, guards, reacted}
use Rattle.pt_guards.specs.Acts.{acted, taken, by_found, reacted_by}
use Rattle.pt_chart.specs.Machine.{mode_at, kind_of, still}
use Rattle.pt_chart.specs.Views.{transition_view}
use Rattle.pt_guards.proofs.ActLaws.{acts-are}

-- a state by number
pub mode-in : (table : NameTable) (modes : List ModeTree) (mode : ℕ) → mode_in (map (mode_of table) modes) mode ≡ mode_of table (mode_at modes mode)
mode-in table [] mode = refl
mode-in table (m ∷ modes) zero = refl
mode-in table (m ∷ modes) (suc mode) = mode-in table modes mode

tests-are : (table : NameTable) (ts : List TransitionTree) (scope : Scoped Token) → tests (map (transition_of table) ts) scope ≡ tests_in (names_in table scope) ts
tests-are table [] scope = refl
tests-are table (t ∷ ts) scope = ap (λ us. test_of (value (names_in table scope) t.guard) ∷ us) (tests-are table ts scope)

-- a transition by number
taken-is : (table : NameTable) (mode n : ℕ) (ts : List TransitionTree) (scope : Scoped Token) → by_actions (target_by (get (map (transition_of table) ts) n) mode) (keeps_by (get (map (transition_of table) ts) n)) (acted_by (get (map (transition_of table) ts) n) scope) ≡ taken table mode scope (get ts n)
taken-is table mode n [] scope = refl
taken-is table mode zero (t ∷ ts) scope = ap (by_actions t.target t.history) (acts-are table t.outputs t.sets scope.values scope.inputs scope.given scope.given)
taken-is table mode (suc n) (t ∷ ts) scope = taken-is table mode n ts scope

kind-is : (table : NameTable) (early : Bool) (m : ModeTree) → of_kind early (mode_of table m) ≡ map (transition_of table) (kind_of early m)
kind-is table true m = refl
kind-is table false m = refl

-- an absent port is none, and one without tokens
nothing-there : (n p : ℕ) → last_of {T = Token} (at {T = Token} (replicate n []) p) ≡ None
nothing-there zero p = refl
nothing-there (suc n) zero = refl
nothing-there (suc n) (suc p) = nothing-there n p

-- the same names, whether the refinement gave nothing or wasn't fired
pub unfired-names : (table : NameTable) (n : ℕ) (values : List Token) (inputs : Streams Token) → names_in table (record { values = values; inputs = inputs; given = [] }) ≡ names_in table (record { values = values; inputs = inputs; given = replicate n [] })
unfired-names table n values inputs =
    let none : ℕ → Option Token = λ p. None in
    let found : ℕ → Option Token = λ p. last_of {T = Token} (at {T = Token} (replicate n []) p) in
    let same : none ≡ found = λ i p. sym (nothing-there n p) i in
    ap (λ (read : ℕ → Option Token). with_names 0 table.inputs (λ p. last_of (at inputs p)) (with_names 0 table.outputs read (with_names 0 table.variables (get values) (parameters table.parameters)))) same

module _ (m : Machine) (mode : ℕ) (values : List Token) (inputs : Streams Token) where
  by-kind : (early : Bool) (given : Streams Token) (c : Choice) → by_choice (chart_of m) early mode values inputs given c ≡ by_found m.names mode (record { values = values; inputs = inputs; given = given }) (kind_of early (mode_at m.modes mode)) c
  by-kind early given Nothing = refl
  by-kind early given (One n) =
      ap (λ (ts : List (Transition Token)). by_actions (target_by (get ts n) mode) (keeps_by (get ts n)) (acted_by (get ts n) (record { values = values; inputs = inputs; given = given }))) (ap (of_kind early) (mode-in m.names m.modes mode) ∙ kind-is m.names early (mode_at m.modes mode))
      ∙ taken-is m.names mode n (kind_of early (mode_at m.modes mode)) (record { values = values; inputs = inputs; given = given })
  by-kind early given (Wrong code) = refl

  pub others-are : (given : Streams Token) → reacted_by m.names mode (kind_of false (mode_at m.modes mode)) (record { values = values; inputs = inputs; given = given }) ≡ reacted (chart_of m) false mode values inputs given
  others-are given =
      sym (by-kind false given (chosen 0 (guards (chart_of m) false mode values inputs given)) ∙ ap (λ us. by_found m.names mode (record { values = values; inputs = inputs; given = given }) (kind_of false (mode_at m.modes mode)) (chosen 0 us)) tested)
    where
      tested : guards (chart_of m) false mode values inputs given ≡ tests_in (names_in m.names (record { values = values; inputs = inputs; given = given })) (mode_at m.modes mode).others
      tested = ap (λ (u : Mode Token). tests u.others (record { values = values; inputs = inputs; given = given })) (mode-in m.names m.modes mode) ∙ tests-are m.names (mode_at m.modes mode).others (record { values = values; inputs = inputs; given = given })

  pub preemptive-are : (n : ℕ) → n ≡ length m.names.outputs → reacted_by m.names mode (kind_of true (mode_at m.modes mode)) (record { values = values; inputs = inputs; given = replicate n [] }) ≡ reacted (chart_of m) true mode values inputs (unfired_outputs (chart_of m))
  preemptive-are n is =
      ap (λ k. reacted_by m.names mode (kind_of true (mode_at m.modes mode)) (record { values = values; inputs = inputs; given = replicate k [] })) is
      ∙ sym (by-kind true unfired (chosen 0 (guards (chart_of m) true mode values inputs unfired)) ∙ ap (λ us. by_found m.names mode (record { values = values; inputs = inputs; given = unfired }) (kind_of true (mode_at m.modes mode)) (chosen 0 us)) tested)
    where
      unfired : Streams Token
      unfired = replicate (length m.names.outputs) []

      tested : guards (chart_of m) true mode values inputs unfired ≡ tests_in (names_in m.names (record { values = values; inputs = inputs; given = unfired })) (mode_at m.modes mode).preemptive
      tested =
          ap (λ (u : Mode Token). tests u.preemptive (record { values = values; inputs = inputs; given = [] })) (mode-in m.names m.modes mode)
          ∙ tests-are m.names (mode_at m.modes mode).preemptive (record { values = values; inputs = inputs; given = [] })
          ∙ ap (λ (u : Scope). tests_in u (mode_at m.modes mode).preemptive) (unfired-names m.names (length m.names.outputs) values inputs)

-- ---- the transition that is chosen

pub get-view : (ts : List Given) (n : ℕ) (x : Given) → n < length ts → x ≡ get_or ts n x → get (map transition_view ts) n ≡ Some (transition_view x)
get-view [] n x short is = absurd (omega (arith, short))
get-view (t ∷ ts) zero x short is = ap (λ (u : Given). Some (transition_view u)) (sym is)
get-view (t ∷ ts) (suc n) x short is = get-view ts n x (omega (arith, short)) is

pub mode-view : {A : Type 0} (view : A → ModeTree) (xs : List A) (n : ℕ) (x : A) → n < length xs → x ≡ get_or xs n x → view x ≡ mode_at (map view xs) n
mode-view view [] n x short is = absurd (omega (arith, short))
mode-view view (y ∷ xs) zero x short is = ap view is
mode-view view (y ∷ xs) (suc n) x short is = mode-view view xs n x (omega (arith, short)) is

pub mode-past : {A : Type 0} (view : A → ModeTree) (xs : List A) (n : ℕ) → length xs ≤ n → still ≡ mode_at (map view xs) n
mode-past view [] n past = refl
mode-past view (y ∷ xs) zero past = absurd (omega (arith, past))
mode-past view (y ∷ xs) (suc n) past = mode-past view xs n (omega (arith, past))

-- what comes of transitions by what is chosen
pub nothing-chosen : (table : NameTable) (mode : ℕ) (ts : List TransitionTree) (reads : Scoped Token) (s : Scope) (c : Choice) → s ≡ names_in table reads → c ≡ chosen 0 (tests_in s ts) → by_found table mode reads ts c ≡ reacted_by table mode ts reads
nothing-chosen table mode ts reads s c bound made = ap (by_found table mode reads ts) (made ∙ ap (λ (u : Scope). chosen 0 (tests_in u ts)) bound)

pub one-chosen : (table : NameTable) (mode : ℕ) (ts : List Given) (reads : Scoped Token) (s : Scope) (n : ℕ) (x : Given) → s ≡ names_in table reads → One n ≡ chosen 0 (tests_in s (map transition_view ts)) → n < length ts → x ≡ get_or ts n x →
    by_actions x.target x.history (acted table (transition_view x) reads) ≡ reacted_by table mode (map transition_view ts) reads
one-chosen table mode ts reads s n x bound made short is =
    sym (ap (taken table mode reads) (get-view ts n x short is)) ∙ nothing-chosen table mode (map transition_view ts) reads s (One n) bound made

pub preempted : (m self : Machine) (mode : ℕ) (values : List Token) (inputs given : Streams Token) (ts : List TransitionTree) (n : ℕ) (r : Reacted Token) → m ≡ self → ts ≡ kind_of true (mode_at m.modes mode) → given ≡ replicate n [] → n ≡ length m.names.outputs → r ≡ reacted_by m.names mode ts (record { values = values; inputs = inputs; given = given }) →
    r ≡ reacted (chart_of self) true mode values inputs (unfired_outputs (chart_of self))
preempted m self mode values inputs given ts n r same kinds unfired as-many made =
    made
    ∙ ap (λ (us : List TransitionTree). reacted_by m.names mode us (record { values = values; inputs = inputs; given = given })) kinds
    ∙ ap (λ (g : Streams Token). reacted_by m.names mode (kind_of true (mode_at m.modes mode)) (record { values = values; inputs = inputs; given = g })) unfired
    ∙ preemptive-are m mode values inputs n as-many
    ∙ ap (λ (x : Machine). reacted (chart_of x) true mode values inputs (unfired_outputs (chart_of x))) same

pub followed : (m self : Machine) (mode : ℕ) (values : List Token) (inputs given : Streams Token) (ts : List TransitionTree) (r : Reacted Token) → m ≡ self → ts ≡ kind_of false (mode_at m.modes mode) → r ≡ reacted_by m.names mode ts (record { values = values; inputs = inputs; given = given }) → r ≡ reacted (chart_of self) false mode values inputs given
followed m self mode values inputs given ts r same kinds made =
    made
    ∙ ap (λ (us : List TransitionTree). reacted_by m.names mode us (record { values = values; inputs = inputs; given = given })) kinds
    ∙ others-are m mode values inputs given
    ∙ ap (λ (x : Machine). reacted (chart_of x) false mode values inputs given) same
