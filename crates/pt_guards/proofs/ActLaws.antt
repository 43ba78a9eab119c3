-- Actions one after another.
use Rattle.std.proofs.Common.{◌≡◌, ℕ, zero, suc, ◌<◌, ◌≤◌, ◌+◌, List, [], ◌∷◌, length, get_or, drop, map, Option, Some, None, refl, sym, ap, subst, ◌∙◌, arith}
use Rattle.pt_meaning.specs.Streams.{Streams, change_at}
use Rattle.pt_meaning.specs.Modal.{Acts, Fails}
use Rattle.pt_meaning.specs.Transitions.{Reading, Reads, Absent, Faulty, with_sets, with_outputs, with_variable, with_port, on_reading}
use Rattle.pt_meaning.specs.Transitions.{Scope as Scoped}
use Rattle.pt_value.specs.declared.token.Token.{Token}
use Rattle.pt_language.specs.Outcome.{Wrong}
use Rattle.pt_language.specs.Scope.{Scope}
use Rattle.pt_language.specs.Meaning.{value}
use Rattle.pt_language.specs.Expr.{tree_of}
use Rattle.pt_flow_base.proofs.TypedPorts.{front}
use Rattle.pt_chart.specs.declared.written.Action.{Action as Given}
use Rattle.pt_chart.specs.Machine.{ActionTree, TransitionTree, NameTable}
use Rattle.pt_chart.specs.Names.{names_in}
use Rattle.pt_chart.specs.Chart.{reading_of, action_of}
use Rattle.pt_chart.specs.Views.{action_view}
use Rattle.pt_guards.specs.Acts.{AreRight, put_one, set_one, go_on, put_all, set_all, by_sets, by_outputs, acted}

pub right-action : (s : Scope) (acts : List Given) (n : ℕ) (x : Given) → AreRight s (map action_view acts) → n < length acts → x ≡ get_or acts n x → ¬ (value s (tree_of x.value) ≡ Wrong)
right-action s [] n x right short is = absurd (omega (arith, short))
right-action s (a ∷ acts) zero x right short is = subst (λ (u : Given). ¬ (value s (tree_of u.value) ≡ Wrong)) (sym is) right.0
right-action s (a ∷ acts) (suc n) x right short is = right-action s acts n x right.1 (omega (arith, short)) is

-- the output action that is next
pub put-next : (s : Scope) (acts : List Given) (n : ℕ) (x : Given) (out : Streams Token) (r : Option ℕ × Streams Token) → n < length acts → x ≡ get_or acts n x → put_one (reading_of (value s (tree_of x.value))) x.target out ≡ r → put_all s (map action_view (drop n acts)) out ≡ go_on (λ o. put_all s (map action_view (drop (n + 1) acts)) o) r
put-next s acts n x out r short is made =
    ap (λ xs. put_all s (map action_view xs) out) (front acts n x short is) ∙ ap (λ p. go_on (λ o. put_all s (map action_view (drop (n + 1) acts)) o) p) made

-- the set action that is next
pub set-next : (table : NameTable) (inputs given : Streams Token) (s : Scope) (acts : List Given) (n : ℕ) (x : Given) (values : List Token) (r : Option ℕ × List Token) → n < length acts → x ≡ get_or acts n x → s ≡ names_in table (record { values = values; inputs = inputs; given = given }) → set_one (reading_of (value s (tree_of x.value))) x.target values ≡ r →
    set_all table (map action_view (drop n acts)) inputs given values ≡ go_on (λ vs. set_all table (map action_view (drop (n + 1) acts)) inputs given vs) r
set-next table inputs given s acts n x values r short is bound made =
    ap (λ xs. set_all table (map action_view xs) inputs given values) (front acts n x short is)
    ∙ ap (λ u. go_on (λ vs. set_all table (map action_view (drop (n + 1) acts)) inputs given vs) (set_one (reading_of (value u (tree_of x.value))) x.target values)) (sym bound)
    ∙ ap (λ p. go_on (λ vs. set_all table (map action_view (drop (n + 1) acts)) inputs given vs) p) made

pub none-left : {A : Type 0} (xs : List A) (n : ℕ) → length xs ≤ n → drop n xs ≡ []
none-left [] zero past = refl
none-left [] (suc n) past = refl
none-left (x ∷ xs) zero past = absurd (omega (arith, past))
none-left (x ∷ xs) (suc n) past = none-left xs n (omega (arith, past))

-- ---- the actions of a transition are those of the definition

sets-step : (table : NameTable) (a : ActionTree) (acts : List ActionTree) (values : List Token) (inputs given out : Streams Token) → ((vs : List Token) → with_sets (map (action_of table) acts) (record { values = vs; inputs = inputs; given = given }) out ≡ by_sets out (set_all table acts inputs given vs)) → (r : Reading Token) →
    on_reading (λ x. with_sets (map (action_of table) acts) (with_variable a.target x (record { values = values; inputs = inputs; given = given })) out) r ≡ by_sets out (go_on (λ vs. set_all table acts inputs given vs) (set_one r a.target values))
sets-step table a acts values inputs given out more (Reads x) = more (change_at a.target (λ old. x) values)
sets-step table a acts values inputs given out more Absent = more values
sets-step table a acts values inputs given out more (Faulty code) = refl

sets-are : (table : NameTable) (acts : List ActionTree) (values : List Token) (inputs given out : Streams Token) → with_sets (map (action_of table) acts) (record { values = values; inputs = inputs; given = given }) out ≡ by_sets out (set_all table acts inputs given values)
sets-are table [] values inputs given out = refl
sets-are table (a ∷ acts) values inputs given out = sets-step table a acts values inputs given out (λ vs. sets-are table acts vs inputs given out) (reading_of (value (names_in table (record { values = values; inputs = inputs; given = given })) a.tree))

outputs-step : (table : NameTable) (a : ActionTree) (outputs sets : List ActionTree) (values : List Token) (inputs given out : Streams Token) →
    ((o : Streams Token) → with_outputs (map (action_of table) outputs) (map (action_of table) sets) (record { values = values; inputs = inputs; given = given }) o ≡ by_outputs (λ u. by_sets u (set_all table sets inputs given values)) (put_all (names_in table (record { values = values; inputs = inputs; given = given })) outputs o)) → (r : Reading Token) →
    on_reading (λ x. with_outputs (map (action_of table) outputs) (map (action_of table) sets) (record { values = values; inputs = inputs; given = given }) (with_port a.target x out)) r
    ≡ by_outputs (λ u. by_sets u (set_all table sets inputs given values)) (go_on (λ o. put_all (names_in table (record { values = values; inputs = inputs; given = given })) outputs o) (put_one r a.target out))
outputs-step table a outputs sets values inputs given out more (Reads x) = more (change_at a.target (λ old. x ∷ []) out)
outputs-step table a outputs sets values inputs given out more Absent = more out
outputs-step table a outputs sets values inputs given out more (Faulty code) = refl

pub acts-are : (table : NameTable) (outputs sets : List ActionTree) (values : List Token) (inputs given out : Streams Token) →
    with_outputs (map (action_of table) outputs) (map (action_of table) sets) (record { values = values; inputs = inputs; given = given }) out ≡ by_outputs (λ o. by_sets o (set_all table sets inputs given values)) (put_all (names_in table (record { values = values; inputs = inputs; given = given })) outputs out)
acts-are table [] sets values inputs given out = sets-are table sets values inputs given out
acts-are table (a ∷ outputs) sets values inputs given out = outputs-step table a outputs sets values inputs given out (λ o. acts-are table outputs sets values inputs given o) (reading_of (value (names_in table (record { values = values; inputs = inputs; given = given })) a.tree))

-- what the actions of a transition come to, by what each kind of them comes to
pub acted-put-fails : (table : NameTable) (t : TransitionTree) (reads : Scoped Token) (code : ℕ) (out : Streams Token) → put_all (names_in table reads) t.outputs reads.given ≡ (Some code, out) → acted table t reads ≡ Fails code
acted-put-fails table t reads code out put = ap (by_outputs (λ o. by_sets o (set_all table t.sets reads.inputs reads.given reads.values))) put

acted-put : (table : NameTable) (t : TransitionTree) (reads : Scoped Token) (out : Streams Token) (r : Option ℕ × List Token) → put_all (names_in table reads) t.outputs reads.given ≡ (None, out) → set_all table t.sets reads.inputs reads.given reads.values ≡ r → acted table t reads ≡ by_sets out r
acted-put table t reads out r put set = ap (by_outputs (λ o. by_sets o (set_all table t.sets reads.inputs reads.given reads.values))) put ∙ ap (by_sets out) set

pub acted-set-fails : (table : NameTable) (t : TransitionTree) (reads : Scoped Token) (code : ℕ) (out : Streams Token) (values : List Token) → put_all (names_in table reads) t.outputs reads.given ≡ (None, out) → set_all table t.sets reads.inputs reads.given reads.values ≡ (Some code, values) → acted table t reads ≡ Fails code
acted-set-fails table t reads code out values put set = acted-put table t reads out (Some code, values) put set

pub acted-all : (table : NameTable) (t : TransitionTree) (reads : Scoped Token) (out : Streams Token) (values : List Token) → put_all (names_in table reads) t.outputs reads.given ≡ (None, out) → set_all table t.sets reads.inputs reads.given reads.values ≡ (None, values) → acted table t reads ≡ Acts out values
acted-all table t reads out values put set = acted-put table t reads out (None, values) put set

-- from what was run on what is equal
pub put-as : (s s' : Scope) (acts acts' : List ActionTree) (out out' : Streams Token) (r : Option ℕ × Streams Token) → s' ≡ s → acts' ≡ acts → out' ≡ out → put_all s' acts' out' ≡ r → put_all s acts out ≡ r
put-as s s' acts acts' out out' r p q o made = sym (ap (λ u. put_all u acts out) p) ∙ sym (ap (λ xs. put_all s' xs out) q) ∙ sym (ap (λ x. put_all s' acts' x) o) ∙ made

pub set-as : (table : NameTable) (inputs given : Streams Token) (acts acts' : List ActionTree) (values values' : List Token) (r : Option ℕ × List Token) → acts' ≡ acts → values' ≡ values → set_all table acts' inputs given values' ≡ r → set_all table acts inputs given values ≡ r
set-as table inputs given acts acts' values values' r q o made = sym (ap (λ xs. set_all table xs inputs given values) q) ∙ sym (ap (λ x. set_all table acts' inputs given x) o) ∙ made
