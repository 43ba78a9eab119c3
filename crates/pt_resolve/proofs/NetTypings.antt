-- The least types that meet all inequalities are the typing of a net.
use Rattle.std.proofs.Common.{◌≡◌, ℕ, List, ◌++◌, length, map, Some, refl, sym, ap, subst, ◌∙◌}
use Rattle.std.specs.Prelude.{All, slice_get}
use Rattle.std.specs.List.{Contains}
use Rattle.std.proofs.lemmas.Option.{slice_get_within}
use Rattle.std.proofs.lemmas.List.Elements.{All-append}
use Rattle.pt_document.specs.declared.job.Direction.{Direction}
use Rattle.pt_document.specs.declared.job.Direction.TheVariants.{Input, Output}
use Rattle.pt_document.specs.declared.job.OutputAction.{OutputAction}
use Rattle.pt_document.specs.Document.{PortTree, TransitionTree}
use Rattle.pt_datatypes.specs.Datatype.{Datatype}
use Rattle.pt_datatypes.specs.Order.{IsBelow}
use Rattle.pt_net.specs.declared.net.Net.{Net}
use Rattle.pt_net.specs.declared.net.NetEntity.{NetEntity}
use Rattle.pt_net.specs.Net.{NetEntityTree, entity_view}
use Rattle.pt_scopes.specs.declared.values.EntityValues.{EntityValues}
use Rattle.pt_scopes.specs.declared.values.Values.{Values}
use Rattle.pt_scopes.specs.Valued.{EntityView}
use Rattle.pt_scopes.specs.Valued as valued
use Rattle.pt_typing.specs.declared.variable.Variable.TheVariants.{Port}
use Rattle.pt_typing.specs.Views.{Inequality}
use Rattle.pt_typing.specs.Least.{Assignment, IsMet, Meets, IsLeast}
use Rattle.pt_inequalities.specs.Frames.{Frames, frames_of}
use Rattle.pt_inequalities.specs.Inequalities.{inequalities, below}
use Rattle.pt_inequalities.specs.Passing.{all_ports, port_counts, passing}
use Rattle.pt_resolve.specs.DeclaredTypes.{declared_from, declared}
use Rattle.pt_inequalities.specs.ModalScopes.{ModalScope, own_ports, modal_term}
use Rattle.pt_inequalities.specs.Modals.{like, refined, of_transitions, of_charts, Chart, AreCharts}
use Rattle.pt_resolve.specs.AllInequalities.{AreAll}
use Rattle.pt_inequalities.specs.Typing.{IsRefinement, IsModal, scope_of, HasTypeIn, IsLowerByModal, of_input, of_output, of_action, AreAbove, IsTyping}
use Rattle.pt_inequalities.proofs.Joined.{All-left, All-right}
use Rattle.pt_resolve.proofs.DeclaredLaws.{declared-all, declared-each}
use Rattle.pt_inequalities.proofs.RefinementLaws.{refined-all, refined-each}
use Rattle.pt_inequalities.proofs.ChartLaws.{charts-all, charts-each, transitions-all, transitions-each}

module _ (net : Net) (values : Values) where
  abbrev entities : List NetEntityTree
  entities = map entity_view net.entities.items

  abbrev given : List EntityView
  given = map valued.entity_view values.entities.items

  abbrev pub AreChartsOf : List Chart → Type 0
  AreChartsOf cs = AreCharts (frames_of net values) entities given (length entities) cs

  -- what Modal entities ask is met
  abbrev pub IsModalMet : Assignment → Type 0
  IsModalMet a = (k i : ℕ) (t : Datatype) → IsLowerByModal net values a k i t → IsBelow t (a.types (Port k i))

  action-met : (a : Assignment) (cs : List Chart) → AreChartsOf cs → All (IsMet a) (of_charts cs) → (m i : ℕ) (e : NetEntityTree) (v : EntityView) (tr : TransitionTree) (act : OutputAction) (t : Datatype) → IsModal net values m e v → Contains e.transitions tr → Contains tr.output act → own_ports e act.port ≡ Some i → HasTypeIn a (scope_of net values m e v) act.value t → IsBelow t (a.types (Port m i))
  action-met a cs are met m i e v tr act t modal c d port ty =
      let s : ModalScope = scope_of net values m e v in
      let has = are.whole m e v (slice_get_within entities m e modal.at) (record { at = modal.at; is_modal = modal.is_modal; values_at = modal.values_at }) in
      let all : All (IsMet a) (of_transitions has.chart.scope has.chart.transitions) = charts-each (IsMet a) cs met has.chart has.there in
      let own : All (IsMet a) (of_transitions s has.chart.transitions) = subst (λ r. All (IsMet a) (of_transitions r has.chart.transitions)) has.is.scope all in
      let one : IsMet a (below (Port m i) (modal_term s ty.read)) = transitions-each (IsMet a) s e.transitions has.chart.transitions has.is.read own tr act c d i ty.read port ty.is_read in
      subst (λ u. IsBelow u (a.types (Port m i))) (sym ty.is) one

  modal-met : (a : Assignment) (cs : List Chart) → AreChartsOf cs → All (IsMet a) (refined entities) → All (IsMet a) (of_charts cs) → IsModalMet a
  modal-met a cs are met more k i t (of_input m k' i' j modal e q r at d there) =
      subst (λ f. IsMet a (like f (Port k' j) (Port m i'))) d (refined-each (IsMet a) entities met m k' i' j modal e q r at there)
  modal-met a cs are met more k i t (of_output m k' i' j modal e q r at d there) =
      subst (λ f. IsMet a (like f (Port k' j) (Port m i'))) d (refined-each (IsMet a) entities met m k' i' j modal e q r at there)
  modal-met a cs are met more k i t (of_action m i' e v tr act t' modal c d port ty) = action-met a cs are more m i' e v tr act t' modal c d port ty

  refinements-met : (a : Assignment) → IsModalMet a → All (IsMet a) (refined entities)
  refinements-met a h = refined-all (IsMet a) entities (λ m k i j modal e q r at there. by_direction m k i j modal e q r at there q.direction refl)
    where
      by_direction : (m k i j : ℕ) (modal e : NetEntityTree) (q : PortTree) → IsRefinement entities m k modal e → slice_get e.ports j ≡ Some q → own_ports modal q.name ≡ Some i → (d : Direction) → q.direction ≡ d → IsMet a (like d (Port k j) (Port m i))
      by_direction m k i j modal e q r at there Input d = h k j (a.types (Port m i)) (of_input m k i j modal e q r at d there)
      by_direction m k i j modal e q r at there Output d = h m i (a.types (Port k j)) (of_output m k i j modal e q r at d there)

  charts-met : (a : Assignment) (cs : List Chart) → AreChartsOf cs → IsModalMet a → All (IsMet a) (of_charts cs)
  charts-met a cs are h =
      charts-all (IsMet a) cs
      (λ c there.
      let r = are.each c there in
      let s : ModalScope = scope_of net values r.number r.entity r.values in
      let modal : IsModal net values r.number r.entity r.values = record { at = r.modal.at; is_modal = r.modal.is_modal; values_at = r.modal.values_at } in
      subst (λ u. All (IsMet a) (of_transitions u c.transitions)) (sym r.is.scope)
      (transitions-all (IsMet a) s r.entity.transitions c.transitions r.is.read
      (λ tr act d f i t port read. h r.number i _ (of_action r.number i r.entity r.values tr act _ modal d f port (record { read = t; is_read = read; is = refl })))))

  -- ---- what the program holds

  pub charts-told : (frames : Frames) (es : List NetEntity) (vs : List EntityValues) (cs : List Chart) → frames ≡ frames_of net values → es ≡ net.entities.items → vs ≡ values.entities.items → AreCharts frames (map entity_view es) (map valued.entity_view vs) (length (map entity_view es)) cs → AreChartsOf cs
  charts-told frames es vs cs f e v h =
      subst (λ ws. AreCharts (frames_of net values) entities (map valued.entity_view ws) (length entities) cs) v
      (subst (λ ds. AreCharts (frames_of net values) (map entity_view ds) (map valued.entity_view vs) (length (map entity_view ds)) cs) e
      (subst (λ g. AreCharts g (map entity_view es) (map valued.entity_view vs) (length (map entity_view es)) cs) f h))

  pub all-made : (cs : List Chart) → AreChartsOf cs → (pss : List (List PortTree)) (fs : List NetEntity) (first second third fourth fifth : List Inequality) → pss ≡ all_ports net → fs ≡ net.entities.items → first ≡ inequalities net values → second ≡ first ++ declared_from 0 pss → third ≡ second ++ refined (map entity_view fs) → fourth ≡ third ++ of_charts cs → fifth ≡ fourth ++ passing net → AreAll net values fifth
  all-made cs are pss fs first second third fourth fifth e f one two three four five = record {
    charts = cs;
    are = are;
    is = five ∙ ap (λ qs. qs ++ passing net) (four ∙ ap (λ qs. qs ++ of_charts cs) (three ∙ (λ j. (two ∙ (λ k. one k ++ declared_from 0 (e k))) j ++ refined (map entity_view (f j)))));
  }

  -- ---- all inequalities

  -- meeting all inequalities is being above all that there is
  module _ (cs : List Chart) (are : AreChartsOf cs) where
    abbrev own : List Inequality
    own = inequalities net values ++ declared net

    abbrev most : List Inequality
    most = (own ++ refined entities) ++ of_charts cs

    abbrev all : List Inequality
    all = most ++ passing net

    above : (a : Assignment) → Meets (port_counts net) all a → AreAbove net values a
    above a m =
        let near : All (IsMet a) most = All-left (IsMet a) most (passing net) m.met in
        let front : All (IsMet a) (own ++ refined entities) = All-left (IsMet a) (own ++ refined entities) (of_charts cs) near in
        let first : All (IsMet a) own = All-left (IsMet a) own (refined entities) front in
        record {
          meets = record { are_types = m.are_types; is_type = m.is_type; outside = m.outside; met = All-left (IsMet a) (inequalities net values) (declared net) first };
          passes = All-right (IsMet a) most (passing net) m.met;
          declared = declared-each (IsMet a) net (All-right (IsMet a) (inequalities net values) (declared net) first);
          modal = modal-met a cs are (All-right (IsMet a) own (refined entities) front) (All-right (IsMet a) (own ++ refined entities) (of_charts cs) near);
        }

    meets : (a : Assignment) → AreAbove net values a → Meets (port_counts net) all a
    meets a m = record {
      are_types = m.meets.are_types;
      is_type = m.meets.is_type;
      outside = m.meets.outside;
      met =
          All-append (IsMet a) most (passing net)
          (All-append (IsMet a) (own ++ refined entities) (of_charts cs)
          (All-append (IsMet a) own (refined entities)
          (All-append (IsMet a) (inequalities net values) (declared net) m.meets.met (declared-all (IsMet a) net m.declared))
          (refinements-met a m.modal))
          (charts-met a cs are m.modal))
          m.passes;
    }

  pub net-typing : (a : Assignment) (qs : List Inequality) → AreAll net values qs → IsLeast (port_counts net) qs a → IsTyping net values a
  net-typing a qs m h =
      let own = subst (λ rs. IsLeast (port_counts net) rs a) m.is h in
      record { above = above m.charts m.are a own.meets; least = λ b n. own.least b (meets m.charts m.are b n) }
