-- All inequalities of output actions hold exactly where each of them holds, and the charts of a net one entity after the other.
use Rattle.std.proofs.Common.{◌≡◌, ◌⊎◌, inl, inr, ℕ, ◌+◌, ◌<◌, Bool, true, false, if◌then◌else◌, List, [], ◌∷◌, ◌++◌, length, map, get_or, Option, Some, None, refl, sym, ap, subst, ◌∙◌, arith}
use Rattle.std.specs.Prelude.{All, slice_get, option_map}
use Rattle.std.specs.List.{Contains, AllZip, list_all}
use Rattle.std.proofs.Math.Nat.{eq-or-lt_of_le}
use Rattle.std.proofs.lemmas.Bool.{both_ways}
use Rattle.std.proofs.lemmas.Option.{slice_get-map, slice_get_read}
use Rattle.std.proofs.lemmas.List.Elements.{All-nil, All-cons, All-head, All-append, Contains-append_left, Contains-push, Contains-push_cases}
use Rattle.pt_document.specs.declared.job.OutputAction.{OutputAction}
use Rattle.pt_document.specs.Document.{TransitionTree}
use Rattle.pt_language.specs.Tree.{Tree}
use Rattle.pt_net.specs.declared.net.NetEntity.{NetEntity}
use Rattle.pt_net.specs.Net.{NetEntityTree, entity_view}
use Rattle.pt_net.proofs.Members.{contains_here, contains_later, contains_cases}
use Rattle.pt_scopes.specs.Texts.{names_in}
use Rattle.pt_scopes.specs.Valued.{EntityView}
use Rattle.pt_typing.specs.declared.variable.Variable.TheVariants.{Port}
use Rattle.pt_typing.specs.Views.{Inequality}
use Rattle.pt_inequalities.specs.Frames.{Frames}
use Rattle.pt_inequalities.specs.Inequalities.{below}
use Rattle.pt_inequalities.specs.ModalScopes.{ModalScope, modal_term, is_in_scope, IsReadIn}
use Rattle.pt_inequalities.specs.Modals.{IsParsedAs, IsReadAs, ActionTree, TransitionTrees, IsOutputRead, IsTransitionRead, Chart, of_action_at, of_action, of_actions, of_transitions, of_charts, IsModalAt, IsChartOf, IsChartIn, HasChart, AreCharts, IsChartAdded, kept, added}
use Rattle.pt_inequalities.proofs.Steps.{some-same}
use Rattle.pt_inequalities.proofs.Joined.{All-left, All-right}

-- ---- what texts read as

pub read-as : (s : ModalScope) (text : List ℕ) (o : Option Tree) (t : Tree) → IsReadAs s text o → IsReadIn s text t → o ≡ Some t
read-as s text None t r h = absurd (r t h)
read-as s text (Some u) t r h = ap Some (sym (r.1 t h))

pub is-read : (s : ModalScope) (text : List ℕ) (o : Option Tree) (t : Tree) → IsReadAs s text o → o ≡ Some t → IsReadIn s text t
is-read s text o t r e = (subst (λ q. IsReadAs s text q) e r).0

-- what is read, where its names are in scope
pub read-in : (s : ModalScope) (text : List ℕ) (t : Tree) → IsParsedAs text (Some t) → (o : Option Tree) → o ≡ (if list_all (is_in_scope s) (names_in t) then Some t else None) → IsReadAs s text o
read-in s text t r o is = subst (IsReadAs s text) (sym is) (by_test (list_all (is_in_scope s) (names_in t)) refl)
  where
    by_test : (b : Bool) → list_all (is_in_scope s) (names_in t) ≡ b → IsReadAs s text (if b then Some t else None)
    by_test true named = (record { is_read = r.0; named = named }, λ other q. r.1 other q.is_read)
    by_test false strange = λ other q. both_ways (list_all (is_in_scope s) (names_in t)) strange (subst (λ u. list_all (is_in_scope s) (names_in u) ≡ true) (r.1 other q.is_read) q.named)

-- ---- inequalities of output actions

module _ (P : Inequality → Type 0) where
  -- what the action gives is below its port
  abbrev pub Gives : ModalScope → OutputAction → Type 0
  Gives s a = (i : ℕ) (t : Tree) → s.ports a.port ≡ Some i → IsReadIn s a.value t → P (below (Port s.number i) (modal_term s t))

  action-each : (s : ModalScope) (a : OutputAction) (x : ActionTree) → IsOutputRead s a x → All P (of_action s x) → Gives s a
  action-each s a x r h i t port read =
      let tree : x.1 ≡ Some t = read-as s a.value x.1 t r.1 read in
      let one : of_action s x ≡ below (Port s.number i) (modal_term s t) ∷ [] = ap (λ o. of_action_at s o x.1) (ap s.ports r.0 ∙ port) ∙ ap (of_action_at s (Some i)) tree in
      All-head P (below (Port s.number i) (modal_term s t)) [] (subst (All P) one h)

  action-all : (s : ModalScope) (a : OutputAction) (x : ActionTree) → IsOutputRead s a x → Gives s a → All P (of_action s x)
  action-all s a x r h = by_parts (s.ports x.0) x.1 refl refl
    where
      by_parts : (p : Option ℕ) (o : Option Tree) → s.ports x.0 ≡ p → x.1 ≡ o → All P (of_action_at s p o)
      by_parts None o e f = All-nil P
      by_parts (Some i) None e f = All-nil P
      by_parts (Some i) (Some t) e f = All-cons P (below (Port s.number i) (modal_term s t)) [] (h i t (ap s.ports (sym r.0) ∙ e) (is-read s a.value x.1 t r.1 f)) (All-nil P)

  actions-each : (s : ModalScope) (acts : List OutputAction) (xs : List ActionTree) → AllZip (IsOutputRead s) acts xs → All P (of_actions s xs) → (a : OutputAction) → Contains acts a → Gives s a
  actions-each s [] [] z h a (k, short, is) = absurd (omega (arith, short))
  actions-each s [] (x ∷ xs) z h a c = absurd z
  actions-each s (b ∷ acts) [] z h a c = absurd z
  actions-each s (b ∷ acts) (x ∷ xs) z h a c =
      elim (contains_cases b acts a c) [
        | inl e ↦ action-each s a x (subst (λ d. IsOutputRead s d x) e z.0) (All-left P (of_action s x) (of_actions s xs) h)
        | inr later ↦ actions-each s acts xs z.1 (All-right P (of_action s x) (of_actions s xs) h) a later
      ]

  actions-all : (s : ModalScope) (acts : List OutputAction) (xs : List ActionTree) → AllZip (IsOutputRead s) acts xs → ((a : OutputAction) → Contains acts a → Gives s a) → All P (of_actions s xs)
  actions-all s [] [] z h = All-nil P
  actions-all s [] (x ∷ xs) z h = absurd z
  actions-all s (b ∷ acts) [] z h = absurd z
  actions-all s (b ∷ acts) (x ∷ xs) z h =
      All-append P (of_action s x) (of_actions s xs)
      (action-all s b x z.0 (h b (contains_here b acts)))
      (actions-all s acts xs z.1 (λ a c. h a (contains_later b acts a c)))

  -- what the output actions of these transitions give is below their ports
  abbrev pub AllGive : ModalScope → List TransitionTree → Type 0
  AllGive s trs = (tr : TransitionTree) (a : OutputAction) → Contains trs tr → Contains tr.output a → Gives s a

  pub transitions-each : (s : ModalScope) (trs : List TransitionTree) (xs : List TransitionTrees) → AllZip (IsTransitionRead s) trs xs → All P (of_transitions s xs) → AllGive s trs
  transitions-each s [] [] z h tr a (k, short, is) d = absurd (omega (arith, short))
  transitions-each s [] (x ∷ xs) z h tr a c d = absurd z
  transitions-each s (b ∷ trs) [] z h tr a c d = absurd z
  transitions-each s (b ∷ trs) (x ∷ xs) z h tr a c d =
      elim (contains_cases b trs tr c) [
        | inl e ↦ actions-each s b.output x.output z.0.output (All-left P (of_actions s x.output) (of_transitions s xs) h) a (subst (λ r. Contains r.output a) (sym e) d)
        | inr later ↦ transitions-each s trs xs z.1 (All-right P (of_actions s x.output) (of_transitions s xs) h) tr a later d
      ]

  pub transitions-all : (s : ModalScope) (trs : List TransitionTree) (xs : List TransitionTrees) → AllZip (IsTransitionRead s) trs xs → AllGive s trs → All P (of_transitions s xs)
  transitions-all s [] [] z h = All-nil P
  transitions-all s [] (x ∷ xs) z h = absurd z
  transitions-all s (b ∷ trs) [] z h = absurd z
  transitions-all s (b ∷ trs) (x ∷ xs) z h =
      All-append P (of_actions s x.output) (of_transitions s xs)
      (actions-all s b.output x.output z.0.output (λ a d. h b a (contains_here b trs) d))
      (transitions-all s trs xs z.1 (λ tr a c d. h tr a (contains_later b trs tr c) d))

  pub charts-each : (cs : List Chart) → All P (of_charts cs) → (c : Chart) → Contains cs c → All P (of_transitions c.scope c.transitions)
  charts-each [] h c (k, short, is) = absurd (omega (arith, short))
  charts-each (b ∷ cs) h c there =
      elim (contains_cases b cs c there) [
        | inl e ↦ subst (λ d. All P (of_transitions d.scope d.transitions)) e (All-left P (of_transitions b.scope b.transitions) (of_charts cs) h)
        | inr later ↦ charts-each cs (All-right P (of_transitions b.scope b.transitions) (of_charts cs) h) c later
      ]

  pub charts-all : (cs : List Chart) → ((c : Chart) → Contains cs c → All P (of_transitions c.scope c.transitions)) → All P (of_charts cs)
  charts-all [] h = All-nil P
  charts-all (b ∷ cs) h =
      All-append P (of_transitions b.scope b.transitions) (of_charts cs) (h b (contains_here b cs)) (charts-all cs (λ c there. h c (contains_later b cs c there)))

-- ---- the charts of entities

pub entity-at : (es : List NetEntity) (i : ℕ) (e : NetEntity) → i < length es → e ≡ get_or es i e → slice_get (map entity_view es) i ≡ Some (entity_view e)
entity-at es i e short is = slice_get-map entity_view es i ∙ ap (option_map entity_view) (slice_get_read es (length es) i e refl short is)

pub no-charts : (frames : Frames) (es : List NetEntityTree) (vs : List EntityView) → AreCharts frames es vs 0 []
no-charts frames es vs = record {
  each = λ c there. absurd (omega (arith, there.1));
  whole = λ m e v short modal. absurd (omega (arith, short));
}

before : (m n : ℕ) → m < n + 1 → (m ≡ n) ⊎ (m < n)
before m n h = eq-or-lt_of_le (omega (arith, h))

pub charts-more : (frames : Frames) (es : List NetEntityTree) (vs : List EntityView) (n : ℕ) (e : NetEntityTree) (o : Option EntityView) (old new : List Chart) → slice_get es n ≡ Some e → slice_get vs n ≡ o → AreCharts frames es vs n old → IsChartAdded frames n e o old new → AreCharts frames es vs (n + 1) new
charts-more frames es vs n e o old new at there h (kept none same) = subst (AreCharts frames es vs (n + 1)) (sym same) all
  where
    all : AreCharts frames es vs (n + 1) old
    all = record {
      each = h.each;
      whole = λ m f v short modal.
          elim (before m n short) [
            | inl here ↦ absurd (none v (ap (λ g. g.class) (some-same e f (sym at ∙ ap (slice_get es) (sym here) ∙ modal.at)) ∙ modal.is_modal) (sym there ∙ ap (slice_get vs) (sym here) ∙ modal.values_at))
            | inr earlier ↦ h.whole m f v earlier modal
          ];
    }
charts-more frames es vs n e o old new at there h (added v c class values own more) = subst (AreCharts frames es vs (n + 1)) (sym more) all
  where
    modal-here : IsModalAt es vs n e v
    modal-here = record { at = at; is_modal = class; values_at = there ∙ values }

    has-own : (m : ℕ) (f : NetEntityTree) (w : EntityView) → m ≡ n → IsModalAt es vs m f w → HasChart frames m f w (old ++ c ∷ [])
    has-own m f w here modal =
        let same : e ≡ f = some-same e f (sym at ∙ ap (slice_get es) (sym here) ∙ modal.at) in
        let held : v ≡ w = some-same v w (sym values ∙ sym there ∙ ap (slice_get vs) (sym here) ∙ modal.values_at) in
        record { chart = c; there = Contains-push old c; is = subst (λ k. IsChartOf frames k f w c) (sym here) (subst (λ g. IsChartOf frames n g w c) same (subst (λ u. IsChartOf frames n e u c) held own)) }

    has-earlier : (m : ℕ) (f : NetEntityTree) (w : EntityView) → HasChart frames m f w old → HasChart frames m f w (old ++ c ∷ [])
    has-earlier m f w r = record { chart = r.chart; there = Contains-append_left old (c ∷ []) r.chart r.there; is = r.is }

    all : AreCharts frames es vs (n + 1) (old ++ c ∷ [])
    all = record {
      each = λ d here.
          elim (Contains-push_cases old c d here) [
            | inl earlier ↦ h.each d earlier
            | inr e' ↦ subst (IsChartIn frames es vs) e' (record { number = n; entity = e; values = v; modal = modal-here; is = own })
          ];
      whole = λ m f w short modal.
          elim (before m n short) [
            | inl here ↦ has-own m f w here modal
            | inr earlier ↦ has-earlier m f w (h.whole m f w earlier modal)
          ];
    }
