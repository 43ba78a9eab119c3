-- The chart of a Modal as its transitions are written: guards, output actions and set actions, in listed order (the book, "Finite State Machines" and "Modal Models"; the order of the actions is by the profile).
use Rattle.std.specs.Prelude.{ℕ, List, [], ◌∷◌, Bool, true, false, Option, Some, None}
use Rattle.pt_meaning.specs.Streams.{Streams, at, get, change_at}
use Rattle.pt_meaning.specs.Modal.{Test, Acted, Acts, Fails, Chart}

-- what guards and actions read: the Variables, the inputs, and what the refinement gave
pub record Scope (T : Type 0) : Type 0 where
  pub values : List T
  pub inputs : Streams T
  pub given : Streams T

-- the token that the name of a port stands for: the last of those on it, and none where it is absent
abbrev pub last_of : {T : Type 0} → List T → Option T
last_of [] = None
last_of (x ∷ []) = Some x
last_of (x ∷ y ∷ xs) = last_of (y ∷ xs)

-- the name of an input
abbrev pub input_in : {T : Type 0} → Scope T → ℕ → Option T
input_in scope port = last_of (at scope.inputs port)

-- the name of an output: the refinement's token on it
abbrev pub output_in : {T : Type 0} → Scope T → ℕ → Option T
output_in scope port = last_of (at scope.given port)

-- the name of a Variable
abbrev pub variable_in : {T : Type 0} → Scope T → ℕ → Option T
variable_in scope i = get scope.values i

-- what the expression of an action comes to: a token, nothing where it reads an absent port, or a fault
pub data Reading (T : Type 0) : Type 0 where
  Reads : T → Reading T
  Absent : Reading T
  Faulty : ℕ → Reading T

-- an action gives a value to an own output or to a Variable, by its number
pub record Action (T : Type 0) : Type 0 where
  pub target : ℕ
  pub value : Scope T → Reading T

-- a transition: its guard, its actions in listed order, the mode to which it leads, and whether it keeps history
pub record Transition (T : Type 0) : Type 0 where
  pub guard : Scope T → Test
  pub outputs : List (Action T)
  pub sets : List (Action T)
  pub target : ℕ
  pub history : Bool

-- a mode with its refinement and its transitions, preemptive and not, each kind in listed order
pub record Mode (T : Type 0) : Type 0 where
  pub refinement : Option ℕ
  pub preemptive : List (Transition T)
  pub others : List (Transition T)

-- the guards of these transitions
abbrev pub tests : {T : Type 0} → List (Transition T) → Scope T → List Test
tests [] scope = []
tests (t ∷ ts) scope = t.guard scope ∷ tests ts scope

-- goes on with the token that an action gives, or with none where it does nothing; a fault ends it
abbrev pub on_reading : {T : Type 0} → (Option T → Acted T) → Reading T → Acted T
on_reading more (Reads x) = more (Some x)
on_reading more Absent = more None
on_reading more (Faulty code) = Fails code

-- a Variable has a new value, where there is one
abbrev pub with_variable : {T : Type 0} → ℕ → Option T → Scope T → Scope T
with_variable i None scope = scope
with_variable i (Some x) scope = record scope { values = change_at i (λ old. x) scope.values }

-- a port has a token in the place of what it had, where there is one
abbrev pub with_port : {T : Type 0} → ℕ → Option T → Streams T → Streams T
with_port p None out = out
with_port p (Some x) out = change_at p (λ old. x ∷ []) out

-- the set actions in listed order, each seeing the Variables as the earlier ones left them
abbrev pub with_sets : {T : Type 0} → List (Action T) → Scope T → (out : Streams T) → Acted T
with_sets [] scope out = Acts out scope.values
with_sets (a ∷ sets) scope out = on_reading (λ x. with_sets sets (with_variable a.target x scope) out) (a.value scope)

-- The output actions in listed order: each puts its token in the place of what the port has, so that of two on one port the later one gives. Then the set actions.
abbrev pub with_outputs : {T : Type 0} → List (Action T) → List (Action T) → Scope T → (out : Streams T) → Acted T
with_outputs [] sets scope out = with_sets sets scope out
with_outputs (a ∷ outputs) sets scope out = on_reading (λ x. with_outputs outputs sets scope (with_port a.target x out)) (a.value scope)

-- the mode, or one in which nothing happens
abbrev pub no_transitions : {T : Type 0} → Option (Mode T) → Mode T
no_transitions None = record { refinement = None; preemptive = []; others = [] }
no_transitions (Some m) = m

-- the mode of a number
abbrev pub mode_in : {T : Type 0} → List (Mode T) → ℕ → Mode T
mode_in modes mode = no_transitions (get modes mode)

-- the transitions of a kind
abbrev pub of_kind : {T : Type 0} → (early : Bool) → Mode T → List (Transition T)
of_kind true m = m.preemptive
of_kind false m = m.others

-- the transition of a number, of its kind and mode
abbrev pub transition_in : {T : Type 0} → List (Mode T) → (early : Bool) (mode transition : ℕ) → Option (Transition T)
transition_in modes early mode n = get (of_kind early (mode_in modes mode)) n

-- what a transition's actions come to
abbrev pub acted_by : {T : Type 0} → Option (Transition T) → Scope T → Acted T
acted_by None scope = Acts scope.given scope.values
acted_by (Some t) scope = with_outputs t.outputs t.sets scope scope.given

-- the mode to which a transition leads
abbrev pub target_by : {T : Type 0} → Option (Transition T) → ℕ → ℕ
target_by None mode = mode
target_by (Some t) mode = t.target

-- whether a transition keeps history
abbrev pub keeps_by : {T : Type 0} → Option (Transition T) → Bool
keeps_by None = true
keeps_by (Some t) = t.history

-- The chart of these modes. Preemptive guards and actions see no output of the refinement, since it isn't fired.
abbrev pub chart_of : {T : Type 0} → (inputs outputs : ℕ) → (initial : ℕ) → (values : List T) → List (Mode T) → (in_ports : ℕ → List ℕ) → (out_ports : ℕ → List (Option ℕ)) → Chart T
chart_of inputs outputs initial values modes in_ports out_ports = record {
  inputs = inputs;
  outputs = outputs;
  initial = initial;
  values = values;
  preemptive = λ mode values got. tests (mode_in modes mode).preemptive (record { values = values; inputs = got; given = [] });
  others = λ mode values got given. tests (mode_in modes mode).others (record { values = values; inputs = got; given = given });
  act = λ early mode n values got given. acted_by (transition_in modes early mode n) (record { values = values; inputs = got; given = given });
  target = λ early mode n. target_by (transition_in modes early mode n) mode;
  keeps_history = λ early mode n. keeps_by (transition_in modes early mode n);
  refinement = λ mode. (mode_in modes mode).refinement;
  in_ports = in_ports;
  out_ports = out_ports;
}
