-- Reactions in place: actions one after another, and what comes of the guards of both kinds.
use Rattle.std.proofs.Common.{◌≡◌, ℕ, ℤ, zero, suc, ◌<◌, ◌+◌, List, [], ◌∷◌, length, get_or, set, drop, map, true, false, Option, Some, None, IfSome, is_some, true≢false, refl, sym, ap, subst, ◌∙◌, arith, replicate}
use Rattle.pt_meaning.specs.Streams.{Streams, change_at}
use Rattle.pt_meaning.specs.Modal.{Nothing, One, Acts, chosen, unfired_outputs}
use Rattle.pt_value.specs.Value.{Value}
use Rattle.pt_value.specs.Value as value
use Rattle.pt_value.specs.declared.token.Token.{Token}
use Rattle.pt_value.specs.declared.token.Token.TheVariants as token
use Rattle.pt_language.specs.Expr.{tree_of}
use Rattle.pt_language.specs.Meaning as meaning
use Rattle.pt_language.specs.Outcome.{Outcome, Gives}
use Rattle.pt_language.specs.Scope.{Scope}
use Rattle.pt_transitions.specs.declared.signal.Signal.{Signal}
use Rattle.pt_chart.specs.declared.written.Action.{Action}
use Rattle.pt_chart.specs.declared.written.Transition.{Transition}
use Rattle.pt_guards.specs.declared.kept.PlacedTransition.{PlacedTransition}
use Rattle.pt_guards.specs.Placed.{SayTransitions}
use Rattle.pt_chart.specs.Machine.{ActionTree, TransitionTree, ModeTree, NameTable, Machine}
use Rattle.pt_chart.specs.Names.{names_in}
use Rattle.pt_chart.specs.Chart.{reading_of, chart_of}
use Rattle.pt_guards.specs.Choose.{tests_in}
use Rattle.pt_guards.specs.Acts.{put_one, set_one, go_on, put_all, set_all, acted, reacted_by}
use Rattle.pt_chart.specs.Machine.{mode_at}
use Rattle.pt_chart.specs.Reacted.{Reacted, Moves, by_actions, reacted}
use Rattle.pt_chart.specs.Views.{action_view, transition_view}
use Rattle.pt_transitions.specs.Alone.{signal_of, by_both, reads_alone, ComesTo, AloneTo, IsOf}
use Rattle.pt_guards.proofs.ActLaws.{put-next, set-next, acted-all}
use Rattle.pt_transitions.proofs.ReactLaws.{mode-in, unfired-names, nothing-chosen, one-chosen, preemptive-are, others-are}

-- ---- actions

-- an output action of a machine with one output
pub put-alone-next : (s : Scope) (acts : List Action) (n : ℕ) (x : Action) (i : ℤ) (g g' : Option ℤ) → n < length acts → x ≡ get_or acts n x → meaning.value s (tree_of x.value) ≡ Gives (value.Int i) → signal_of g' ∷ [] ≡ change_at x.target (λ old. token.Int i ∷ []) (signal_of g ∷ []) →
    put_all s (map action_view (drop n acts)) (signal_of g ∷ []) ≡ put_all s (map action_view (drop (n + 1) acts)) (signal_of g' ∷ [])
put-alone-next s acts n x i g g' short is gives put =
    let out : Streams Token = signal_of g ∷ [] in
    let out' : Streams Token = signal_of g' ∷ [] in
    let made : put_one (reading_of (meaning.value s (tree_of x.value))) x.target out ≡ (None, out') = ap (λ (o : Outcome Value). put_one (reading_of o) x.target out) gives ∙ ap (λ (os : Streams Token). let r : Option ℕ × Streams Token = (None, os) in r) (sym put) in
    put-next s acts n x out (None, out') short is made

-- a set action, of which the values that it reads are those of now
pub set-alone-next : (table : NameTable) (inputs given : Streams Token) (acts : List Action) (n : ℕ) (x : Action) (i : ℤ) (us vs vs' : List Token) → n < length acts → x ≡ get_or acts n x → us ≡ vs → meaning.value (names_in table (record { values = us; inputs = inputs; given = given })) (tree_of x.value) ≡ Gives (value.Int i) → vs' ≡ change_at x.target (λ old. token.Int i) vs →
    set_all table (map action_view (drop n acts)) inputs given vs ≡ set_all table (map action_view (drop (n + 1) acts)) inputs given vs'
set-alone-next table inputs given acts n x i us vs vs' short is same gives put =
    let s = names_in table (record { values = us; inputs = inputs; given = given }) in
    let made : set_one (reading_of (meaning.value s (tree_of x.value))) x.target vs ≡ (None, vs') = ap (λ (o : Outcome Value). set_one (reading_of o) x.target vs) gives ∙ ap (λ (ws : List Token). let r : Option ℕ × List Token = (None, ws) in r) (sym put) in
    set-next table inputs given s acts n x vs (None, vs') short is (ap (λ (ws : List Token). names_in table (record { values = ws; inputs = inputs; given = given })) same) made

-- what is put back is as it was
pub set-back : {A : Type 0} (xs : List A) (i : ℕ) (x y d : A) → i < length xs → y ≡ get_or xs i d → set (set xs i x) i y ≡ xs
set-back [] i x y d short is = absurd (omega (arith, short))
set-back (z ∷ xs) zero x y d short is = ap (λ w. w ∷ xs) is
set-back (z ∷ xs) (suc i) x y d short is = ap (λ ws. z ∷ ws) (set-back xs i x y d (omega (arith, short)) is)

-- ---- the same names, whether nothing is on the own outputs or nothing is said of them

names-alone : (table : NameTable) (values : List Token) (inputs : Streams Token) → names_in table (record { values = values; inputs = inputs; given = [] }) ≡ names_in table (record { values = values; inputs = inputs; given = [] ∷ [] })
names-alone table values inputs = unfired-names table (suc zero) values inputs

go-as : {X : Type 0} (f g : X → Option ℕ × X) → ((x : X) → f x ≡ g x) → (r : Option ℕ × X) → go_on f r ≡ go_on g r
go-as f g same (None, x) = same x
go-as f g same (Some code, x) = refl

sets-alone : (table : NameTable) (acts : List ActionTree) (inputs : Streams Token) (values : List Token) → set_all table acts inputs ([] ∷ []) values ≡ set_all table acts inputs [] values
sets-alone table [] inputs values = refl
sets-alone table (a ∷ acts) inputs values =
    let s = names_in table (record { values = values; inputs = inputs; given = [] }) in
    ap (λ (u : Scope). go_on (λ vs. set_all table acts inputs ([] ∷ []) vs) (set_one (reading_of (meaning.value u a.tree)) a.target values)) (sym (names-alone table values inputs))
    ∙ go-as (λ vs. set_all table acts inputs ([] ∷ []) vs) (λ vs. set_all table acts inputs [] vs) (λ vs. sets-alone table acts inputs vs) (set_one (reading_of (meaning.value s a.tree)) a.target values)

-- ---- the transitions of one kind

module _ (table : NameTable) (mode : ℕ) (modes : List ModeTree) (us values : List Token) (inputs : Streams Token) (same : us ≡ values) where
  read : names_in table (record { values = us; inputs = inputs; given = [] }) ≡ names_in table (reads_alone values inputs)
  read = ap (λ (vs : List Token). names_in table (record { values = vs; inputs = inputs; given = [] })) same ∙ names-alone table values inputs

  pub stays-alone : (ts : List TransitionTree) → Nothing ≡ chosen 0 (tests_in (names_in table (record { values = us; inputs = inputs; given = [] })) ts) → IsOf modes values (reacted_by table mode ts (reads_alone values inputs)) None values
  stays-alone ts made = (sym (nothing-chosen table mode ts (reads_alone values inputs) (names_in table (record { values = us; inputs = inputs; given = [] })) Nothing read made), refl)

  pub moves-alone : (ts : List Transition) (n : ℕ) (x : Transition) (s : Signal) (values' : List Token) → One n ≡ chosen 0 (tests_in (names_in table (record { values = us; inputs = inputs; given = [] })) (map transition_view ts)) → n < length ts → x ≡ get_or ts n x →
      s.target ≡ x.target → (mode_at modes s.target).refinement ≡ None → put_all (names_in table (record { values = values; inputs = inputs; given = [] })) (transition_view x).outputs ([] ∷ []) ≡ (None, signal_of s.given ∷ []) → set_all table (transition_view x).sets inputs [] values ≡ (None, values') →
      IsOf modes values (reacted_by table mode (map transition_view ts) (reads_alone values inputs)) (Some s) values'
  moves-alone ts n x s values' made short is leads none puts sets =
      let t = transition_view x in
      let out : Streams Token = signal_of s.given ∷ [] in
      let put : put_all (names_in table (reads_alone values inputs)) t.outputs ([] ∷ []) ≡ (None, out) = sym (ap (λ (u : Scope). put_all u t.outputs ([] ∷ [])) (names-alone table values inputs)) ∙ puts in
      let set : set_all table t.sets inputs ([] ∷ []) values ≡ (None, values') = sets-alone table t.sets inputs values ∙ sets in
      let acts : acted table t (reads_alone values inputs) ≡ Acts out values' = acted-all table t (reads_alone values inputs) out values' put set in
      let one = one-chosen table mode ts (reads_alone values inputs) (names_in table (record { values = us; inputs = inputs; given = [] })) n x read made short is in
      (x.history, sym one ∙ ap (by_actions x.target x.history) acts ∙ ap (λ (to : ℕ). let r : Reacted Token = Moves to x.history out values' in r) (sym leads), none)

-- ---- both kinds

module _ (modes : List ModeTree) (mode : ℕ) (values : List Token) where
  pub comes-stay : (r : Reacted Token) (s : Signal) (values' : List Token) → s ≡ record { target = mode; given = None } → IsOf modes values r None values' → ComesTo mode values r s values'
  comes-stay r s values' is of = subst (λ (u : Signal). ComesTo mode values r u values') (sym is) (subst (λ (q : Reacted Token). ComesTo mode values q (record { target = mode; given = None }) values') (sym of.0) (refl, of.1, refl))

  pub comes-move : (r : Reacted Token) (s : Signal) (values' : List Token) → IsOf modes values r (Some s) values' → ComesTo mode values r s values'
  comes-move r s values' of = subst (λ (q : Reacted Token). ComesTo mode values q s values') (sym of.1) (refl, refl, refl)

  pub both-move : (r o : Reacted Token) (s : Signal) (values' : List Token) → IsOf modes values r (Some s) values' → ComesTo mode values (by_both r o) s values'
  both-move r o s values' of = subst (λ (q : Reacted Token). ComesTo mode values (by_both q o) s values') (sym of.1) (refl, refl, refl)

  pub both-stay : (r : Reacted Token) (o : List Token → Reacted Token) (s : Signal) (kept values' : List Token) → IsOf modes values r None kept → ComesTo mode kept (o kept) s values' → ComesTo mode values (by_both r (o values)) s values'
  both-stay r o s kept values' of comes =
      subst (λ (vs : List Token). ComesTo mode vs (by_both r (o vs)) s values') of.1
      (subst (λ (q : Reacted Token). ComesTo mode kept (by_both q (o kept)) s values') (sym of.0) comes)

-- ---- what is said of an Option

pub is-none : {A : Type 0} (o : Option A) → is_some o ≡ false → o ≡ None
is-none None said = refl
is-none (Some x) said = absurd (true≢false said)

pub some-then : {A : Type 0} (P Q : A → Type 0) → ((a : A) → P a → Q a) → (o : Option A) → IfSome o P → IfSome o Q
some-then P Q more None said = tt
some-then P Q more (Some a) said = more a said

-- ---- a chart

pub says-as : (table : NameTable) (ps ps' : List PlacedTransition) (ts ts' : List Transition) → ps' ≡ ps → ts' ≡ ts → SayTransitions table ps (map transition_view ts) → SayTransitions table ps' (map transition_view ts')
says-as table ps ps' ts ts' p t says =
    subst (λ (us : List Transition). SayTransitions table ps' (map transition_view us)) (sym t)
    (subst (λ (qs : List PlacedTransition). SayTransitions table qs (map transition_view ts)) (sym p) says)

unrefined : (m : Machine) (mode : ℕ) → (mode_at m.modes mode).refinement ≡ None → (chart_of m).refinement mode ≡ None
unrefined m mode none = ap (λ u. u.refinement) (mode-in m.names m.modes mode) ∙ none

pub alone-to : (m self : Machine) (mode : ℕ) (written : ModeTree) (values values' : List Token) (inputs : Streams Token) (s : Signal) → m ≡ self → written ≡ mode_at m.modes mode → suc zero ≡ length m.names.outputs → (mode_at m.modes mode).refinement ≡ None → (mode_at m.modes s.target).refinement ≡ None →
    ComesTo mode values (by_both (reacted_by m.names mode written.preemptive (reads_alone values inputs)) (reacted_by m.names mode written.others (reads_alone values inputs))) s values' → AloneTo (chart_of self) mode values inputs s values'
alone-to m self mode written values values' inputs s same is one none leads comes =
    let early : reacted_by m.names mode written.preemptive (reads_alone values inputs) ≡ reacted (chart_of m) true mode values inputs (unfired_outputs (chart_of m)) =
    ap (λ (w : ModeTree). reacted_by m.names mode w.preemptive (reads_alone values inputs)) is ∙ preemptive-are m mode values inputs (suc zero) one in
    let late : reacted_by m.names mode written.others (reads_alone values inputs) ≡ reacted (chart_of m) false mode values inputs (unfired_outputs (chart_of m)) =
    ap (λ (w : ModeTree). reacted_by m.names mode w.others (reads_alone values inputs)) is
    ∙ others-are m mode values inputs ([] ∷ [])
    ∙ ap (λ (k : ℕ). reacted (chart_of m) false mode values inputs (replicate k [])) one in
    subst (λ (c : Machine). AloneTo (chart_of c) mode values inputs s values') same (record {
      unrefined = unrefined m mode none;
      enters_none = unrefined m s.target leads;
      comes = subst (λ (r : Reacted Token). ComesTo mode values (by_both r (reacted (chart_of m) false mode values inputs (unfired_outputs (chart_of m)))) s values') early
          (subst (λ (r : Reacted Token). ComesTo mode values (by_both (reacted_by m.names mode written.preemptive (reads_alone values inputs)) r) s values') late comes);
    })
