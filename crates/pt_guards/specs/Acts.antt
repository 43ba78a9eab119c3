-- Actions that run one after another, each kind in listed order, and what comes of the transitions of a kind.
use Rattle.std.specs.Prelude.{◌≡◌, ℕ, List, [], ◌∷◌, Option, Some, None, true}
use Rattle.pt_meaning.specs.Streams.{Streams, get, change_at}
use Rattle.pt_meaning.specs.Modal.{Acted, Acts, Fails, Choice, Nothing, One, chosen}
use Rattle.pt_meaning.specs.Modal as modal
use Rattle.pt_meaning.specs.Transitions.{Reading, Reads, Absent, Faulty}
use Rattle.pt_meaning.specs.Transitions.{Scope as Scoped}
use Rattle.pt_value.specs.declared.token.Token.{Token}
use Rattle.pt_language.specs.Outcome.{Wrong}
use Rattle.pt_language.specs.Scope.{Scope}
use Rattle.pt_language.specs.Meaning.{value}
use Rattle.pt_chart.specs.Machine.{ActionTree, TransitionTree, NameTable}
use Rattle.pt_chart.specs.Names.{names_in}
use Rattle.pt_chart.specs.Chart.{reading_of}
use Rattle.pt_guards.specs.Choose.{tests_in}
use Rattle.pt_chart.specs.Reacted.{Reacted, Stays, Moves, Stops, by_actions}

-- none is wrong
abbrev pub AreRight : Scope → List ActionTree → Type 0
AreRight scope [] = Unit {0}
AreRight scope (a ∷ actions) = (¬ (value scope a.tree ≡ Wrong)) × AreRight scope actions

-- what an action leaves, and its fault, if it has one
abbrev pub put_one : Reading Token → (port : ℕ) → Streams Token → Option ℕ × Streams Token
put_one (Reads x) port out = (None, change_at port (λ old. x ∷ []) out)
put_one Absent port out = (None, out)
put_one (Faulty code) port out = (Some code, out)

abbrev pub set_one : Reading Token → (variable : ℕ) → List Token → Option ℕ × List Token
set_one (Reads x) i values = (None, change_at i (λ old. x) values)
set_one Absent i values = (None, values)
set_one (Faulty code) i values = (Some code, values)

-- goes on where there is no fault
abbrev pub go_on : {X : Type 0} → (X → Option ℕ × X) → Option ℕ × X → Option ℕ × X
go_on more (None, x) = more x
go_on more (Some code, x) = (Some code, x)

-- the output actions where names stand for these
abbrev pub put_all : Scope → List ActionTree → Streams Token → Option ℕ × Streams Token
put_all scope [] out = (None, out)
put_all scope (a ∷ actions) out = go_on (λ o. put_all scope actions o) (put_one (reading_of (value scope a.tree)) a.target out)

-- the set actions, each seeing the Variables as the earlier ones left them
abbrev pub set_all : NameTable → List ActionTree → (inputs given : Streams Token) → List Token → Option ℕ × List Token
set_all table [] inputs given values = (None, values)
set_all table (a ∷ actions) inputs given values =
    go_on (λ vs. set_all table actions inputs given vs) (set_one (reading_of (value (names_in table (record { values = values; inputs = inputs; given = given })) a.tree)) a.target values)

abbrev pub by_sets : Streams Token → Option ℕ × List Token → Acted Token
by_sets out (None, values) = Acts out values
by_sets out (Some code, values) = Fails code

abbrev pub by_outputs : (Streams Token → Acted Token) → Option ℕ × Streams Token → Acted Token
by_outputs more (None, out) = more out
by_outputs more (Some code, out) = Fails code

-- the actions of a transition
abbrev pub acted : NameTable → TransitionTree → Scoped Token → Acted Token
acted table t reads = by_outputs (λ out. by_sets out (set_all table t.sets reads.inputs reads.given reads.values)) (put_all (names_in table reads) t.outputs reads.given)

-- a transition that is taken; where there is none, nothing changes
abbrev pub taken : NameTable → (mode : ℕ) → Scoped Token → Option TransitionTree → Reacted Token
taken table mode reads None = Moves mode true reads.given reads.values
taken table mode reads (Some t) = by_actions t.target t.history (acted table t reads)

abbrev pub by_found : NameTable → (mode : ℕ) → Scoped Token → List TransitionTree → Choice → Reacted Token
by_found table mode reads ts Nothing = Stays reads.given
by_found table mode reads ts (One n) = taken table mode reads (get ts n)
by_found table mode reads ts (modal.Wrong code) = Stops code

-- what comes of some transitions
abbrev pub reacted_by : NameTable → (mode : ℕ) → List TransitionTree → Scoped Token → Reacted Token
reacted_by table mode ts reads = by_found table mode reads ts (chosen 0 (tests_in (names_in table reads) ts))
