-- Each library actor of the net of a document starts.
use Rattle.std.proofs.Common.{◌≡◌, ℕ, List, ◌++◌, map, Bool, true, false, ◌||◌, Option, Some, None, refl, sym, ap, subst, ◌∙◌, append-nil}
use Rattle.std.specs.Prelude.{codes, bytes_eq, option_map, is_some}
use Rattle.std.specs.Option.{option_or}
use Rattle.std.proofs.lemmas.Bool.{true≢false}
use Rattle.std.proofs.lemmas.Option.{none-some, same_Some}
use Rattle.std.proofs.lemmas.Slice.Eq.{bytes_eq-Decides}
use Rattle.pt_value.specs.Token.{value_of}
use Rattle.pt_document.specs.Document.{property_name}
use Rattle.pt_document.specs.Names.{is_among}
use Rattle.pt_net.specs.declared.net.Net.{Net}
use Rattle.pt_net.specs.declared.net.NetEntity.{NetEntity}
use Rattle.pt_net.specs.Net.{NetEntityTree, entity_view}
use Rattle.pt_firing.specs.Params.{value_under}
use Rattle.pt_scopes.specs.declared.parameter_value.ParameterValue.{ParameterValue}
use Rattle.pt_scopes.specs.declared.values.Values.{Values}
use Rattle.pt_scopes.specs.Forms.{form_of}
use Rattle.pt_scopes.specs.Agreement.{named}
use Rattle.pt_scopes.specs.Given.{held_view, names_port}
use Rattle.pt_scopes.specs.Sites.{inputs_of}
use Rattle.pt_scopes.specs.Scopes.{Bindings, net_view, bound, is_composite_class}
use Rattle.pt_scopes.specs.ClassParameters.{AreParametersOf}
use Rattle.pt_scopes.specs.Valued.{EntityView, AreOwn, IsEntityValued, IsValued}
use Rattle.pt_scopes.specs.Valued as valued
use Rattle.pt_typing.specs.Least.{Assignment}
use Rattle.pt_inequalities.specs.Typing.{IsTyping}
use Rattle.pt_resolve.specs.Faults.{IsWhole}
use Rattle.pt_start.specs.Started.{own_tokens, given_tree, seen_tokens, PortTyping, IsStartedFrom}
use Rattle.pt_start.proofs.Outward.{view-at}
use Rattle.pt_flow_base.specs.declared.params.Params.{Params}
use Rattle.pt_lib_flow.specs.declared.flow_actor.Class.{Class as FlowClass}
use Rattle.pt_lib_flow.specs.declared.flow_actor.FlowActor.TheVariants as flow
use Rattle.pt_lib_flow.specs.FlowActor as flow_actor
use Rattle.pt_lib_flow.specs.Expression as expression
use Rattle.pt_lib_data.specs.declared.function.Class.{Class as DataClass}
use Rattle.pt_lib_data.specs.Function as function
use Rattle.pt_lib_data.specs.DataActor as data_actor
use Rattle.pt_lib_time.specs.declared.time_actor.Class.{Class as TimeClass}
use Rattle.pt_lib_time.specs.TimeActor as time_actor
use Rattle.pt_lib_timed.specs.declared.timed_actor.Class.{Class as TimedClass}
use Rattle.pt_lib_timed.specs.TimedActor as timed_actor
use Rattle.pt_library.specs.declared.library_actor.LibraryActor.TheVariants.{Flow, Data, Time, Timed}
use Rattle.pt_library.specs.LibraryActor.{start}
use Rattle.pt_trees.specs.Trees.{IsEntity}
use Rattle.pt_order.specs.Laws.{IsNetOfDocument}
use Rattle.pt_typed.specs.RowLaw.{types_of_ports}
use Rattle.pt_typed.proofs.SeenFrames.{zip-at}
use Rattle.pt_typed.proofs.FlowStarts as flows
use Rattle.pt_typed.proofs.DataStarts as functions
use Rattle.pt_typed.proofs.TimeStarts as signals
use Rattle.pt_typed.proofs.TimedStarts as timers
use Rattle.pt_startable.specs.Classes.{is_of_library}
use Rattle.pt_startable.specs.Laws.{LibraryActorsStart}
use Rattle.pt_startable.proofs.Held.{token-fits, word-found, token-there, no-tree, plain-form, value-found}
use Rattle.pt_startable.proofs.Required.{IsAsked, required-there}
use Rattle.pt_startable.proofs.Found.{IsThere, mapped-there}
use Rattle.pt_startable.proofs.Facts.{AreOfClass}
use Rattle.pt_startable.proofs.FlowStarts.{flow-starts}
use Rattle.pt_startable.proofs.DataStarts.{data-starts, time-starts}
use Rattle.pt_startable.proofs.TimedStarts.{timed-starts}
use Rattle.pt_startable.proofs.Known.{classes-of-libraries, actor-class}
use Rattle.pt_startable.proofs.ExpressionStarts.{expression-starts}

-- ---- no library starts it

none-of-four : {F D T M A : Type 0} (f : F → A) (d : D → A) (t : T → A) (m : M → A) (o : Option F) (p : Option D) (q : Option T) (r : Option M) → option_or (option_map f o) (option_or (option_map d p) (option_or (option_map t q) (option_map m r))) ≡ None → (o ≡ None) × (p ≡ None) × (q ≡ None) × (r ≡ None)
none-of-four f d t m (Some x) p q r e = absurd (none-some (f x) (sym e))
none-of-four f d t m None (Some y) q r e = absurd (none-some (d y) (sym e))
none-of-four f d t m None None (Some z) r e = absurd (none-some (t z) (sym e))
none-of-four f d t m None None None (Some w) e = absurd (none-some (m w) (sym e))
none-of-four f d t m None None None None e = (refl, refl, refl, refl)

none-of-libraries : (a b c d : Bool) → a ≡ false → b ≡ false → c ≡ false → d ≡ false → (a || (b || (c || d))) ≡ false
none-of-libraries false false false false p q r s = refl
none-of-libraries true b c d p q r s = p
none-of-libraries false true c d p q r s = q
none-of-libraries false false true d p q r s = r
none-of-libraries false false false true p q r s = s

module _ (params : Params) (other : bytes_eq params.class (codes "Expression") ≡ false) (of : AreOfClass params.class params) where
  no-flow : (o : Option FlowClass) → flow_actor.class_of params.class ≡ o → flow_actor.start_in o params ≡ None → is_some o ≡ false
  no-flow None is e = refl
  no-flow (Some c) is e =
      let named = flows.class-named params.class c is in
      absurd (flow-starts c params (λ same. (true≢false (ap (λ n. bytes_eq n (codes "Expression")) (sym (ap flows.name_of same) ∙ sym named) ∙ other))) (subst (λ n. AreOfClass n params) named of) e)

  no-data : (o : Option DataClass) → function.class_of params.class ≡ o → data_actor.start_in o params.values params.ports ≡ None → is_some o ≡ false
  no-data None is e = refl
  no-data (Some c) is e = absurd (data-starts c params (subst (λ n. AreOfClass n params) (functions.class-named params.class c is) of) e)

  no-time : (o : Option TimeClass) → time_actor.class_of params.class ≡ o → time_actor.start_in o params ≡ None → is_some o ≡ false
  no-time None is e = refl
  no-time (Some c) is e = absurd (time-starts c params (subst (λ n. AreOfClass n params) (signals.class-named params.class c is) of) e)

  no-timed : (o : Option TimedClass) → timed_actor.class_of params.class ≡ o → timed_actor.start_in o params ≡ None → is_some o ≡ false
  no-timed None is e = refl
  no-timed (Some c) is e = absurd (timed-starts c params (subst (λ n. AreOfClass n params) (timers.class-named params.class c is) of) e)

  no-library : start params ≡ None → is_of_library params.class ≡ false
  no-library e =
      let w = none-of-four Flow Data Time Timed (flow_actor.start params) (data_actor.start params.class params.values params.ports) (time_actor.start params) (timed_actor.start params) e in
      none-of-libraries (is_some (flow_actor.class_of params.class)) (is_some (function.class_of params.class)) (is_some (time_actor.class_of params.class)) (is_some (timed_actor.class_of params.class))
      (no-flow (flow_actor.class_of params.class) refl w.0) (no-data (function.class_of params.class) refl w.1) (no-time (time_actor.class_of params.class) refl w.2) (no-timed (timed_actor.class_of params.class) refl w.3)

-- ---- an actor of a net

module _ (net : Net) (values : Values) (typing : PortTyping) (k : ℕ) (e : NetEntity) (doc : IsNetOfDocument net) (is : IsValued (net_view net) values) (there : IsEntity net k e) (plain : is_composite_class e.class ≡ false) (other : bytes_eq e.class (codes "Expression") ≡ false) (params : Params) (from : IsStartedFrom net values typing k params) where
  abbrev t : NetEntityTree
  t = from.entity

  abbrev vs : List ParameterValue
  vs = from.held.parameters.items

  view : entity_view e ≡ t
  view = same_Some (entity_view e) t (sym (view-at entity_view net.entities.items k e there) ∙ from.at)

  classed : e.class ≡ t.class
  classed = ap (λ (x : NetEntityTree). x.class) view

  -- what it was given
  was-given : (around : Bindings) × AreParametersOf (names_port (inputs_of t)) (bound around) None t.class t.parameters (map held_view vs)
  was-given =
      let z = zip-at (IsEntityValued (net_view net)) (net_view net).entities (map valued.entity_view values.entities.items) k t is.entities from.at in
      let same : z.0 ≡ valued.entity_view from.held = same_Some z.0 (valued.entity_view from.held) (sym z.1 ∙ view-at valued.entity_view values.entities.items k from.held from.held_at) in
      let own : AreOwn false t z.2.around z.0.parameters z.2.inner = subst (λ b. AreOwn b t z.2.around z.0.parameters z.2.inner) (ap is_composite_class (sym classed) ∙ plain) z.2.parameters in
      (z.2.around, subst (λ (v : EntityView). AreParametersOf (names_port (inputs_of t)) (bound z.2.around) None t.class t.parameters v.parameters) same own.1)

  treeless : given_tree vs ≡ None
  treeless = no-tree (names_port (inputs_of t)) (bound was-given.0) (form_of t.class) t.parameters vs was-given.1.each (λ name. plain-form t.class name (ap (λ c. bytes_eq c (codes "Expression")) (sym classed) ∙ other))

  values-are : params.values ≡ own_tokens t.parameters vs
  values-are = from.from.values_are ∙ ap (λ o. own_tokens t.parameters vs ++ seen_tokens from.seen o) treeless ∙ append-nil (own_tokens t.parameters vs)

  under : (name : List ℕ) → value_under name params.values ≡ value_under name (own_tokens t.parameters vs)
  under name = ap (value_under name) values-are

  of-class : AreOfClass t.class params
  of-class = record {
    fit = λ name e x h. token-fits (names_port (inputs_of t)) (bound was-given.0) (form_of t.class) name t.parameters vs was-given.1.each e x (sym (under name) ∙ h);
    words = λ name allowed e x h. word-found (names_port (inputs_of t)) (bound was-given.0) (form_of t.class) name allowed t.parameters vs was-given.1.each e x (sym (under name) ∙ h);
    there = λ name evaluated asked. (let w = token-there (names_port (inputs_of t)) (bound was-given.0) (form_of t.class) name t.parameters vs was-given.1.each evaluated
        (ap (λ (x : NetEntityTree). is_among (map property_name x.parameters) name) (sym view) ∙ required-there net k e name doc there (subst (λ c. IsAsked c name) (sym classed) asked)) in (w.0, under name ∙ w.1));
    parameters = named t.parameters (map held_view vs);
    agreed = was-given.1.agreed;
    same = λ name e. value-found (names_port (inputs_of t)) (bound was-given.0) (form_of t.class) name t.parameters vs was-given.1.each e ∙ ap (option_map value_of) (sym (under name));
  }

  unbuilt-class : start params ≡ None → is_of_library e.class ≡ false
  unbuilt-class none =
      let class : params.class ≡ t.class = from.from.class_is in
      ap is_of_library (classed ∙ sym class) ∙ no-library params (ap (λ c. bytes_eq c (codes "Expression")) (class ∙ sym classed) ∙ other) (subst (λ c. AreOfClass c params) (sym class) of-class) none

-- ---- an Expression

unstarted-expression : (params : Params) → params.class ≡ codes "Expression" → IsThere (expression.start params) → start params ≡ None → ⊥
unstarted-expression params named there none =
    let w = none-of-four Flow Data Time Timed (flow_actor.start params) (data_actor.start params.class params.values params.ports) (time_actor.start params) (timed_actor.start params) none in
    mapped-there flow.Expression (expression.start params) there (ap (λ n. flow_actor.start_in (flow_actor.class_of n) params) (sym named) ∙ w.0)

-- ---- both

module _ (net : Net) (values : Values) (typing : Assignment) (k : ℕ) (e : NetEntity) (doc : IsNetOfDocument net) (is : IsValued (net_view net) values) (typed : IsTyping net values typing) (whole : IsWhole net values typing) (at : IsEntity net k e) (plain : is_composite_class e.class ≡ false) (params : Params)
    (from : IsStartedFrom net values (types_of_ports typing) k params) where
  class-is : params.class ≡ e.class
  class-is = from.from.class_is ∙ ap (λ (x : NetEntityTree). x.class) (sym (same_Some (entity_view e) from.entity (sym (view-at entity_view net.entities.items k e at) ∙ from.at)))

  not-unstarted : start params ≡ None → ⊥
  not-unstarted none = by_class (bytes_eq e.class (codes "Expression")) refl
    where
      by_class : (b : Bool) → bytes_eq e.class (codes "Expression") ≡ b → ⊥
      by_class true same =
          let named = (bytes_eq-Decides e.class (codes "Expression")).0 same in
          unstarted-expression params (class-is ∙ named) (expression-starts net values typing k e doc is typed whole at named params from) none
      by_class false other =
          let row = actor-class net k e doc at plain in
          true≢false (sym (classes-of-libraries e.class row.0 row.1) ∙ unbuilt-class net values (types_of_ports typing) k e doc is at plain other params from none)

pub library-actors-start : LibraryActorsStart
library-actors-start net values typing k e doc is typed whole at plain started = not-unstarted net values typing k e doc is typed whole at plain started.params started.started_from started.is
