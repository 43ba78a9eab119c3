-- The tests tell where the typing breaks in guards and actions.
use Rattle.std.proofs.Common.{◌≡◌, inl, inr, ℕ, true, false, ◌||◌, List, [], ◌∷◌, length, map, Option, Some, None, refl, sym, ap, ◌∙◌, arith}
use Rattle.std.specs.Prelude.{option_map, slice_get}
use Rattle.std.specs.List.{Contains, list_any}
use Rattle.std.proofs.lemmas.Bool.{or_cases, or_parts, not-true, not-false}
use Rattle.std.proofs.lemmas.Option.{slice_get_within}
use Rattle.pt_value.specs.Value.{Value}
use Rattle.pt_document.specs.declared.job.OutputAction.{OutputAction}
use Rattle.pt_document.specs.declared.job.SetAction.{SetAction}
use Rattle.pt_document.specs.Document.{TransitionTree}
use Rattle.pt_datatypes.specs.Datatype.{Datatype, Boolean}
use Rattle.pt_datatypes.specs.Order.{is_below}
use Rattle.pt_datatypes.specs.Token.{type_of_value}
use Rattle.pt_language.specs.Tree.{Tree}
use Rattle.pt_language.specs.Rule.{type_or_general}
use Rattle.pt_net.specs.declared.net.Net.{Net}
use Rattle.pt_net.specs.Net.{NetEntityTree, entity_view}
use Rattle.pt_net.proofs.Members.{contains_here, contains_later, contains_cases, zip_left, zip_right}
use Rattle.pt_scopes.specs.declared.values.Values.{Values}
use Rattle.pt_scopes.specs.Valued.{EntityView}
use Rattle.pt_scopes.specs.Valued as valued
use Rattle.pt_typing.specs.Terms.{has_type}
use Rattle.pt_typing.specs.Least.{Assignment}
use Rattle.pt_inequalities.specs.Frames.{frames_of}
use Rattle.pt_inequalities.specs.ModalScopes.{ModalScope, variable_values, modal_types, IsReadIn}
use Rattle.pt_inequalities.specs.Modals.{IsReadAs, ActionTree, TransitionTrees, IsOutputRead, IsSetRead, IsTransitionRead, Chart, AreCharts}
use Rattle.pt_inequalities.specs.Typing.{IsModal, scope_of, HasTypeIn}
use Rattle.pt_resolve.specs.Faults.{IsTextIn, of_guard, of_output, of_set, IsBroken, guard, set_action, clash_in}
use Rattle.pt_resolve.specs.Broken.{is_over_type}
use Rattle.pt_resolve.specs.ModalFaults.{is_untyped, is_no_truth, guard_fails, output_fails, is_over_variable, set_fails, transition_fails, chart_fails, first_failing}
use Rattle.pt_resolve.proofs.Passing.{one-passes, none-passes, some-now, none-now}
use Rattle.pt_inequalities.proofs.ChartLaws.{read-as, is-read}

module _ (a : Assignment) where
  -- ---- one text

  abbrev type_in : ModalScope → Tree → Datatype
  type_in s t = type_or_general (modal_types a s t) t

  record Untyped (s : ModalScope) (o : Option Tree) : Type 0 where
    tree : Tree
    is : o ≡ Some tree
    wrong : has_type (modal_types a s tree) tree ≡ false

  untyped : (s : ModalScope) (o : Option Tree) → is_untyped a s o ≡ true → Untyped s o
  untyped s None h = cc
  untyped s (Some t) h = record { tree = t; is = refl; wrong = not-true (has_type (modal_types a s t) t) h }

  typed : (s : ModalScope) (text : List ℕ) (o : Option Tree) (t : Tree) → IsReadAs s text o → IsReadIn s text t → is_untyped a s o ≡ false → has_type (modal_types a s t) t ≡ true
  typed s text o t r read h = not-false (has_type (modal_types a s t) t) (ap (is_untyped a s) (sym (read-as s text o t r read)) ∙ h)

  record NoTruth (s : ModalScope) (o : Option Tree) : Type 0 where
    tree : Tree
    is : o ≡ Some tree
    wrong : is_below (type_in s tree) Boolean ≡ false

  no-truth : (s : ModalScope) (o : Option Tree) → is_no_truth a s o ≡ true → NoTruth s o
  no-truth s None h = cc
  no-truth s (Some t) h = record { tree = t; is = refl; wrong = not-true (is_below (type_in s t) Boolean) h }

  truth : (s : ModalScope) (text : List ℕ) (o : Option Tree) (t : Tree) → IsReadAs s text o → IsReadIn s text t → is_no_truth a s o ≡ false → is_below (type_in s t) Boolean ≡ true
  truth s text o t r read h = not-false (is_below (type_in s t) Boolean) (ap (is_no_truth a s) (sym (read-as s text o t r read)) ∙ h)

  record OverVariable (s : ModalScope) (name : List ℕ) (o : Option Tree) : Type 0 where
    tree : Tree
    is : o ≡ Some tree
    held : Value
    variable : s.variables name ≡ Some held
    wrong : is_below (type_in s tree) (type_of_value held) ≡ false

  over-variable : (s : ModalScope) (name : List ℕ) (o : Option Tree) → is_over_variable a s name o ≡ true → OverVariable s name o
  over-variable s name None h = cc
  over-variable s name (Some t) h = by_value (s.variables name) refl h
    where
      by_value : (w : Option Value) → s.variables name ≡ w → is_over_type (type_in s t) (option_map type_of_value w) ≡ true → OverVariable s name (Some t)
      by_value None e k = cc
      by_value (Some w) e k = record { tree = t; is = refl; held = w; variable = e; wrong = not-true (is_below (type_in s t) (type_of_value w)) k }

  within-variable : (s : ModalScope) (name : List ℕ) (o : Option Tree) (text : List ℕ) (t : Tree) (w : Value) → IsReadAs s text o → IsReadIn s text t → s.variables name ≡ Some w → is_over_variable a s name o ≡ false → is_below (type_in s t) (type_of_value w) ≡ true
  within-variable s name o text t w r read e h =
      not-false (is_below (type_in s t) (type_of_value w))
      (ap (λ u. is_over_type (type_in s t) (option_map type_of_value u)) (sym e) ∙ ap (is_over_variable a s name) (sym (read-as s text o t r read)) ∙ h)

  -- ---- the first that fails

  record FailingChart (cs : List Chart) (k : ℕ) : Type 0 where
    chart : Chart
    there : Contains cs chart
    fails : chart_fails a chart ≡ true
    number : chart.scope.number ≡ k

  failing-chart : (cs : List Chart) (k : ℕ) → first_failing a cs ≡ Some k → FailingChart cs k
  failing-chart [] k h = cc
  failing-chart (c ∷ cs) k h =
      elim (some-now (chart_fails a c) c.scope.number k (first_failing a cs) h) [
        | inl b ↦ record { chart = c; there = contains_here c cs; fails = b.0; number = b.1 }
        | inr rest ↦ let r = failing-chart cs k rest in record { chart = r.chart; there = contains_later c cs r.chart r.there; fails = r.fails; number = r.number }
      ]

  none-failing : (cs : List Chart) → first_failing a cs ≡ None → (c : Chart) → Contains cs c → chart_fails a c ≡ false
  none-failing [] h c (k, short, is) = absurd (omega (arith, short))
  none-failing (b ∷ cs) h c there =
      let n = none-now (chart_fails a b) b.scope.number (first_failing a cs) h in
      elim (contains_cases b cs c there) [
        | inl e ↦ ap (chart_fails a) (sym e) ∙ n.0
        | inr later ↦ none-failing cs n.1 c later
      ]

  -- ---- the net

  module _ (net : Net) (values : Values) where
    abbrev entities : List NetEntityTree
    entities = map entity_view net.entities.items

    abbrev given : List EntityView
    given = map valued.entity_view values.entities.items

    module _ (m : ℕ) (e : NetEntityTree) (v : EntityView) (modal : IsModal net values m e v) where
      abbrev s : ModalScope
      s = scope_of net values m e v

      abbrev Broken : Type 0
      Broken = IsBroken net values a e

      abbrev typed_as : (text : List ℕ) (t : Tree) → IsReadIn s text t → HasTypeIn a s text (type_in s t)
      typed_as text t read = record { read = t; is_read = read; is = refl }

      clash : (text : List ℕ) (o : Option Tree) → IsTextIn e text → IsReadAs s text o → is_untyped a s o ≡ true → Broken
      clash text o there r h = let u = untyped s o h in clash_in m e v text u.tree modal there (is-read s text o u.tree r u.is) u.wrong

      guard-broken : (tr : TransitionTree) (o : Option Tree) → Contains e.transitions tr → IsReadAs s tr.guard o → guard_fails a s o ≡ true → Broken
      guard-broken tr o c r h =
          elim (or_cases (is_untyped a s o) (is_no_truth a s o) h) [
            | inl w ↦ clash tr.guard o (of_guard tr c) r w
            | inr w ↦ let u = no-truth s o w in guard m e v tr (type_in s u.tree) modal c (typed_as tr.guard u.tree (is-read s tr.guard o u.tree r u.is)) u.wrong
          ]

      output-broken : (tr : TransitionTree) (x : TransitionTrees) → Contains e.transitions tr → IsTransitionRead s tr x → list_any (output_fails a s) x.output ≡ true → Broken
      output-broken tr x c r h =
          let y = one-passes (output_fails a s) x.output h in
          let act = zip_right (IsOutputRead s) tr.output x.output y.0 r.output y.1 in
          clash act.0.value y.0.1 (of_output tr act.0 c act.1) act.2.1 y.2

      set-broken : (tr : TransitionTree) (x : TransitionTrees) → Contains e.transitions tr → IsTransitionRead s tr x → list_any (set_fails a s) x.set ≡ true → Broken
      set-broken tr x c r h =
          let y = one-passes (set_fails a s) x.set h in
          let act = zip_right (IsSetRead s) tr.set x.set y.0 r.set y.1 in
          elim (or_cases (is_untyped a s y.0.1) (is_over_variable a s y.0.0 y.0.1) y.2) [
            | inl w ↦ clash act.0.value y.0.1 (of_set tr act.0 c act.1) act.2.1 w
            | inr w ↦
                let u = over-variable s y.0.0 y.0.1 w in
                set_action m e v tr act.0 (type_in s u.tree) u.held modal c act.1 (typed_as act.0.value u.tree (is-read s act.0.value y.0.1 u.tree act.2.1 u.is)) (ap s.variables (sym act.2.0) ∙ u.variable) u.wrong
          ]

      transition-broken : (tr : TransitionTree) (x : TransitionTrees) → Contains e.transitions tr → IsTransitionRead s tr x → transition_fails a s x ≡ true → Broken
      transition-broken tr x c r h =
          elim (or_cases (guard_fails a s x.guard || list_any (output_fails a s) x.output) (list_any (set_fails a s) x.set) h) [
            | inl front ↦
                elim (or_cases (guard_fails a s x.guard) (list_any (output_fails a s) x.output) front) [
                  | inl w ↦ guard-broken tr x.guard c r.guard w
                  | inr w ↦ output-broken tr x c r w
                ]
            | inr w ↦ set-broken tr x c r w
          ]

      -- ---- where no transition fails

      module _ (tr : TransitionTree) (x : TransitionTrees) (r : IsTransitionRead s tr x) (h : transition_fails a s x ≡ false) where
        front-whole : (guard_fails a s x.guard ≡ false) × (list_any (output_fails a s) x.output ≡ false)
        front-whole = or_parts (guard_fails a s x.guard) (list_any (output_fails a s) x.output) (or_parts (guard_fails a s x.guard || list_any (output_fails a s) x.output) (list_any (set_fails a s) x.set) h).0

        guard-whole : (is_untyped a s x.guard ≡ false) × (is_no_truth a s x.guard ≡ false)
        guard-whole = or_parts (is_untyped a s x.guard) (is_no_truth a s x.guard) front-whole.0

        sets-whole : list_any (set_fails a s) x.set ≡ false
        sets-whole = (or_parts (guard_fails a s x.guard || list_any (output_fails a s) x.output) (list_any (set_fails a s) x.set) h).1

        guard-typed : (t : Tree) → IsReadIn s tr.guard t → has_type (modal_types a s t) t ≡ true
        guard-typed t read = typed s tr.guard x.guard t r.guard read guard-whole.0

        guard-true : (t : Tree) → IsReadIn s tr.guard t → is_below (type_in s t) Boolean ≡ true
        guard-true t read = truth s tr.guard x.guard t r.guard read guard-whole.1

        output-typed : (act : OutputAction) (t : Tree) → Contains tr.output act → IsReadIn s act.value t → has_type (modal_types a s t) t ≡ true
        output-typed act t d read =
            let y = zip_left (IsOutputRead s) tr.output x.output act r.output d in
            typed s act.value y.0.1 t y.2.1 read (none-passes (output_fails a s) x.output front-whole.1 y.0 y.1)

        module _ (act : SetAction) (t : Tree) (d : Contains tr.set act) (read : IsReadIn s act.value t) where
          own : (y : ActionTree) × Contains x.set y × IsSetRead s act y
          own = zip_left (IsSetRead s) tr.set x.set act r.set d

          set-whole : (is_untyped a s own.0.1 ≡ false) × (is_over_variable a s own.0.0 own.0.1 ≡ false)
          set-whole = or_parts (is_untyped a s own.0.1) (is_over_variable a s own.0.0 own.0.1) (none-passes (set_fails a s) x.set sets-whole own.0 own.1)

          set-typed : has_type (modal_types a s t) t ≡ true
          set-typed = typed s act.value own.0.1 t own.2.1 read set-whole.0

          set-within : (w : Value) → s.variables act.name ≡ Some w → is_below (type_in s t) (type_of_value w) ≡ true
          set-within w e' = within-variable s own.0.0 own.0.1 act.value t w own.2.1 read (ap s.variables own.2.0 ∙ e') set-whole.1

    module _ (cs : List Chart) (are : AreCharts (frames_of net values) entities given (length entities) cs) where
      -- the entity of the first chart that fails is broken
      pub failing-broken : (k : ℕ) → first_failing a cs ≡ Some k → (e : NetEntityTree) × (slice_get entities k ≡ Some e) × IsBroken net values a e
      failing-broken k h =
          let f = failing-chart cs k h in
          let r = are.each f.chart f.there in
          let modal : IsModal net values r.number r.entity r.values = record { at = r.modal.at; is_modal = r.modal.is_modal; values_at = r.modal.values_at } in
          let scope : ModalScope = scope_of net values r.number r.entity r.values in
          let fails : list_any (transition_fails a scope) f.chart.transitions ≡ true = ap (λ s. list_any (transition_fails a s) f.chart.transitions) (sym r.is.scope) ∙ f.fails in
          let x = one-passes (transition_fails a scope) f.chart.transitions fails in
          let tr = zip_right (IsTransitionRead scope) r.entity.transitions f.chart.transitions x.0 r.is.read x.1 in
          let number : r.number ≡ k = ap (λ s. s.number) (sym r.is.scope) ∙ f.number in
          (r.entity, ap (slice_get entities) (sym number) ∙ r.modal.at, transition-broken r.number r.entity r.values modal tr.0 x.0 tr.1 tr.2 x.2)

      record Whole (m : ℕ) (e : NetEntityTree) (v : EntityView) (tr : TransitionTree) : Type 0 where
        trees : TransitionTrees
        read : IsTransitionRead (scope_of net values m e v) tr trees
        whole : transition_fails a (scope_of net values m e v) trees ≡ false

      whole-transition : first_failing a cs ≡ None → (m : ℕ) (e : NetEntityTree) (v : EntityView) (tr : TransitionTree) → IsModal net values m e v → Contains e.transitions tr → Whole m e v tr
      whole-transition h m e v tr modal c =
          let has = are.whole m e v (slice_get_within entities m e modal.at) (record { at = modal.at; is_modal = modal.is_modal; values_at = modal.values_at }) in
          let scope : ModalScope = scope_of net values m e v in
          let x = zip_left (IsTransitionRead scope) e.transitions has.chart.transitions tr has.is.read c in
          let own : list_any (transition_fails a scope) has.chart.transitions ≡ false = ap (λ s. list_any (transition_fails a s) has.chart.transitions) (sym has.is.scope) ∙ none-failing cs h has.chart has.there in
          record { trees = x.0; read = x.2; whole = none-passes (transition_fails a scope) has.chart.transitions own x.0 x.1 }

      module _ (h : first_failing a cs ≡ None) (m : ℕ) (e : NetEntityTree) (v : EntityView) (modal : IsModal net values m e v) where
        -- then guards are truth values, set actions are within their Variables, and all have types
        pub guards-true : (tr : TransitionTree) (t : Datatype) → Contains e.transitions tr → HasTypeIn a (scope_of net values m e v) tr.guard t → is_below t Boolean ≡ true
        guards-true tr t c ty =
            let w = whole-transition h m e v tr modal c in
            ap (λ u. is_below u Boolean) ty.is ∙ guard-true m e v modal tr w.trees w.read w.whole ty.read ty.is_read

        pub sets-within : (tr : TransitionTree) (act : SetAction) (t : Datatype) (first : Value) → Contains e.transitions tr → Contains tr.set act → HasTypeIn a (scope_of net values m e v) act.value t → variable_values e v act.name ≡ Some first → is_below t (type_of_value first) ≡ true
        sets-within tr act t first c d ty variable =
            let w = whole-transition h m e v tr modal c in
            ap (λ u. is_below u (type_of_value first)) ty.is ∙ set-within m e v modal tr w.trees w.read w.whole act ty.read d ty.is_read first variable

        pub texts-typed : (text : List ℕ) (t : Tree) → IsTextIn e text → IsReadIn (scope_of net values m e v) text t → has_type (modal_types a (scope_of net values m e v) t) t ≡ true
        texts-typed text t (of_guard tr c) read = let w = whole-transition h m e v tr modal c in guard-typed m e v modal tr w.trees w.read w.whole t read
        texts-typed text t (of_output tr act c d) read = let w = whole-transition h m e v tr modal c in output-typed m e v modal tr w.trees w.read w.whole act t d read
        texts-typed text t (of_set tr act c d) read = let w = whole-transition h m e v tr modal c in set-typed m e v modal tr w.trees w.read w.whole act t d read
