-- The typing of a net meets the row of an Expression: its tree has the type that the net gives it.
use Rattle.std.proofs.Common.{◌≡◌, inl, inr, ℕ, ◌+◌, List, [], ◌∷◌, ◌++◌, length, map, Bool, true, false, Option, Some, None, refl, sym, ap, subst, ◌∙◌, slice_get, if◌then◌else◌, arith}
use Rattle.std.specs.Prelude.{codes, bytes_eq, option_map}
use Rattle.std.specs.List.{AllByRecursion, filter_map}
use Rattle.std.proofs.lemmas.Option.{same_Some}
use Rattle.std.proofs.lemmas.Slice.Eq.{bytes_eq-Decides}
use Rattle.pt_document.specs.declared.job.Direction.{Direction}
use Rattle.pt_document.specs.declared.job.Direction.TheVariants.{Input, Output}
use Rattle.pt_document.specs.Classes.{ClassPort, Kind, Composite, Modal, Actor, kind_of, class_row, classes}
use Rattle.pt_document.specs.Document.{PropertyTree, property_name, PortTree}
use Rattle.pt_document.specs.Names.{is_among}
use Rattle.pt_moml.specs.Rules.{parameter_names}
use Rattle.pt_value.specs.Value.{Value}
use Rattle.pt_datatypes.specs.Datatype.{Datatype}
use Rattle.pt_datatypes.specs.Order.{IsBelow}
use Rattle.pt_datatypes.specs.Token.{type_of_value}
use Rattle.pt_datatypes.proofs.Order.{below-trans}
use Rattle.pt_language.specs.Tree.{Tree}
use Rattle.pt_language.specs.Expr.{tree_of}
use Rattle.pt_language.specs.declared.expr.Expr.{Expr}
use Rattle.pt_language.specs.Types.{Types}
use Rattle.pt_language.specs.Rule.{type_or_general}
use Rattle.pt_net.specs.declared.net.Net.{Net}
use Rattle.pt_net.specs.declared.net.NetEntity.{NetEntity}
use Rattle.pt_net.specs.Table.{joined_ports}
use Rattle.pt_net.specs.Net.{NetEntityTree, row_port, entity_view}
use Rattle.pt_firing.specs.Params.{names_but}
use Rattle.pt_scopes.specs.Texts.{names_in}
use Rattle.pt_scopes.specs.Given.{held_view}
use Rattle.pt_scopes.specs.declared.parameter_value.ParameterValue.{ParameterValue}
use Rattle.pt_scopes.specs.declared.parameter_value.ParameterValue.TheVariants as parameter
use Rattle.pt_scopes.specs.declared.values.Values.{Values}
use Rattle.pt_scopes.specs.Scopes.{Bindings, bound, net_view, is_composite_class, Sees}
use Rattle.pt_scopes.specs.Valued.{IsValued}
use Rattle.pt_scopes.specs.Valued as valued
use Rattle.pt_typing.specs.declared.variable.Variable.{Variable}
use Rattle.pt_typing.specs.declared.variable.Variable.TheVariants as variable
use Rattle.pt_typing.specs.Least.{Assignment, IsMet}
use Rattle.pt_typing.specs.Terms.{entry_in, meaning}
use Rattle.pt_inequalities.specs.declared.row.PortType.TheVariants as port
use Rattle.pt_inequalities.specs.Rows.{port_type, port_rows, seedings}
use Rattle.pt_inequalities.specs.Frames.{frames_of, seen, seen_types}
use Rattle.pt_inequalities.specs.Inequalities.{inputs_of, inputs_from, of_tree, of_trees, of_port, of_ports, of_parameters, of_standards}
use Rattle.pt_inequalities.specs.Typing.{IsTyping}
use Rattle.pt_start.specs.Nested.{IsNested}
use Rattle.pt_start.specs.Started.{given_tree, seen_token, seen_tokens, ports_of, types_of, IsFrom, IsStart}
use Rattle.pt_flow_base.specs.declared.params.Params.{Params}
use Rattle.pt_flow_numbers.specs.declared.extreme.Side.TheVariants.{Greatest, Least}
use Rattle.pt_lib_flow.specs.declared.flow_actor.FlowActor.TheVariants as flow
use Rattle.pt_lib_flow.specs.declared.flow_actor.Class.{Class as FlowClass}
use Rattle.pt_lib_flow.specs.declared.flow_actor.Class.TheVariants as class
use Rattle.pt_lib_flow.specs.FlowActor as flow_actor
use Rattle.pt_formula.specs.Formula.{Formula, parameter_types, with_types, is_typed}
use Rattle.pt_formula.specs.Formula as formula
use Rattle.pt_flow_base.specs.PortTypes.{typed_names}
use Rattle.pt_flow_numbers.specs.AbsoluteValue as absolute_value
use Rattle.pt_flow_numbers.specs.Accumulator as accumulator
use Rattle.pt_flow_numbers.specs.AddSubtract as add_subtract
use Rattle.pt_flow_streams.specs.BooleanSelect as boolean_select
use Rattle.pt_flow_streams.specs.BooleanSwitch as boolean_switch
use Rattle.pt_flow_streams.specs.Const as constant
use Rattle.pt_flow_numbers.specs.Counter as counter
use Rattle.pt_flow_streams.specs.DownSample as down_sample
use Rattle.pt_lib_flow.specs.Expression as expression
use Rattle.pt_flow_numbers.specs.Extreme as extreme
use Rattle.pt_flow_numbers.specs.MultiplyDivide as multiply_divide
use Rattle.pt_flow_numbers.specs.Ramp as ramp
use Rattle.pt_flow_streams.specs.Repeat as repeat
use Rattle.pt_flow_streams.specs.SampleDelay as sample_delay
use Rattle.pt_flow_numbers.specs.Scale as scale
use Rattle.pt_flow_streams.specs.Sequence as sequence
use Rattle.pt_flow_streams.specs.UpSample as up_sample
use Rattle.pt_lib_data.specs.DataActor as data_actor
use Rattle.pt_lib_time.specs.TimeActor as time_actor
use Rattle.pt_lib_timed.specs.TimedActor as timed_actor
use Rattle.pt_library.specs.declared.library_actor.LibraryActor.TheVariants.{Flow, Data, Time, Timed}
use Rattle.pt_library.specs.LibraryActor.{start}
use Rattle.pt_typed.specs.TokenTypes.{ToFirst}
use Rattle.pt_typed.specs.TypedActor.{MeetsRow}
use Rattle.pt_typed.specs.NetTypes.{port_types, types_of as entity_types, types_below}
use Rattle.pt_typed.specs.NetRows.{HasClassPorts}
use Rattle.pt_typed.specs.InputLaw.{HaveOwnNames}
use Rattle.pt_typed.specs.OwnNames.{HaveClassParameters}
use Rattle.pt_typed.specs.RowLaw.{types_of_ports}
use Rattle.pt_typed.specs.ExpressionLaw.{ExpressionRowsAreMet}
use Rattle.pt_typed.proofs.PortFacts.{head_type, all-front, entity-met}
use Rattle.pt_typed.proofs.ClassPorts.{class_head, heads_in, declares_in, outs_from}
use Rattle.pt_typed.proofs.FlowStarts as flows
use Rattle.pt_typed.proofs.FlowStarts.{mapped}
use Rattle.pt_typed.proofs.FlowClasses as flow_classes
use Rattle.pt_typed.proofs.RowsMet.{viewed, outputs-numbered, one-of-four, flow-in}
use Rattle.pt_typed.proofs.RecordRows.{one-row, directions-all, outs-behind}
use Rattle.pt_typed.proofs.RecordsMet.{type-by-head, port-at, last-at, directions-behind}
use Rattle.pt_typed.proofs.HeldLaws.{given-all, expression-alone}
use Rattle.pt_typed.proofs.SeenFrames.{AreFree, seen-is-bound, seen-free}
use Rattle.pt_typed.proofs.FormulaTypes.{tree-below}
use Rattle.pt_typed.proofs.FormulaNames.{net_types, formula_types, names-typed}
use Rattle.pt_typed.proofs.ExpressionPorts.{inputs-typed}

-- ---- the class

expression-declares : declares_in (kind_of (codes "Expression")) ≡ Some Input
unfolding kind_of class_row classes
expression-declares = refl

abbrev parameters_in : Option Kind → List (List ℕ)
parameters_in (Some (Actor c)) = parameter_names c.parameters
parameters_in (Some Composite) = []
parameters_in (Some Modal) = []
parameters_in None = []

expression-parameters : parameters_in (kind_of (codes "Expression")) ≡ codes "expression" ∷ []
unfolding kind_of class_row classes
expression-parameters = refl

expression-port : head_type (codes "Expression") (codes "output", Output) ≡ port.Tree
unfolding head_type port_rows
expression-port = refl

named-alone : (name : List ℕ) (ps : List PropertyTree) → AllByRecursion (λ (p : PropertyTree). is_among (name ∷ []) (property_name p) ≡ true) ps → AllByRecursion (λ (p : PropertyTree). property_name p ≡ name) ps
named-alone name [] a = tt
named-alone name (p ∷ ps) a = (by_test (bytes_eq name (property_name p)) refl a.0, named-alone name ps a.1)
  where
    by_test : (b : Bool) → bytes_eq name (property_name p) ≡ b → (if b then true else false) ≡ true → property_name p ≡ name
    by_test true d e = sym ((bytes_eq-Decides name (property_name p)).0 d)
    by_test false d e = absurd (cc)

-- ---- what starts

started-so : (c : FlowClass) (params : Params) (f : Formula) → flow_actor.start_as c params ≡ Some (flow.Expression f) → (c ≡ class.Expression) × (expression.start params ≡ Some f)
started-so class.Expression params f e = let w = mapped flow.Expression (expression.start params) (flow.Expression f) e in let same : w.0 ≡ f = (let h = w.2 in cc) in (refl, w.1 ∙ ap Some same)
started-so class.AbsoluteValue params f e = let w = mapped flow.AbsoluteValue (absolute_value.start params) (flow.Expression f) e in let h = w.2 in absurd (cc)
started-so class.Accumulator params f e = let w = mapped flow.Accumulator (accumulator.start params) (flow.Expression f) e in let h = w.2 in absurd (cc)
started-so class.AddSubtract params f e = let w = mapped flow.AddSubtract (add_subtract.start params) (flow.Expression f) e in let h = w.2 in absurd (cc)
started-so class.BooleanSelect params f e = let w = mapped flow.BooleanSelect (boolean_select.start params) (flow.Expression f) e in let h = w.2 in absurd (cc)
started-so class.BooleanSwitch params f e = let w = mapped flow.BooleanSwitch (boolean_switch.start params) (flow.Expression f) e in let h = w.2 in absurd (cc)
started-so class.Const params f e = let w = mapped flow.Const (constant.start params) (flow.Expression f) e in let h = w.2 in absurd (cc)
started-so class.Counter params f e = let w = mapped flow.Counter (counter.start params) (flow.Expression f) e in let h = w.2 in absurd (cc)
started-so class.DownSample params f e = let w = mapped flow.DownSample (down_sample.start params) (flow.Expression f) e in let h = w.2 in absurd (cc)
started-so class.Maximum params f e = let w = mapped flow.Extreme (extreme.start Greatest params) (flow.Expression f) e in let h = w.2 in absurd (cc)
started-so class.Minimum params f e = let w = mapped flow.Extreme (extreme.start Least params) (flow.Expression f) e in let h = w.2 in absurd (cc)
started-so class.MultiplyDivide params f e = let w = mapped flow.MultiplyDivide (multiply_divide.start params) (flow.Expression f) e in let h = w.2 in absurd (cc)
started-so class.Ramp params f e = let w = mapped flow.Ramp (ramp.start params) (flow.Expression f) e in let h = w.2 in absurd (cc)
started-so class.Repeat params f e = let w = mapped flow.Repeat (repeat.start params) (flow.Expression f) e in let h = w.2 in absurd (cc)
started-so class.SampleDelay params f e = let w = mapped flow.SampleDelay (sample_delay.start params) (flow.Expression f) e in let h = w.2 in absurd (cc)
started-so class.Scale params f e = let w = mapped flow.Scale (scale.start params) (flow.Expression f) e in let h = w.2 in absurd (cc)
started-so class.Sequence params f e = let w = mapped flow.Sequence (sequence.start params) (flow.Expression f) e in let h = w.2 in absurd (cc)
started-so class.UpSample params f e = let w = mapped flow.UpSample (up_sample.start params) (flow.Expression f) e in let h = w.2 in absurd (cc)

-- an Expression is started by the class of that name
expression-started : (params : Params) (f : Formula) → start params ≡ Some (Flow (flow.Expression f)) → (params.class ≡ codes "Expression") × (expression.start params ≡ Some f)
expression-started params f e = elim (one-of-four Flow Data Time Timed (flow_actor.start params) (data_actor.start params.class params.values params.ports) (time_actor.start params) (timed_actor.start params) (Flow (flow.Expression f)) e) [
  | inl w ↦ (
      let same : w.0 ≡ flow.Expression f = (let h = w.2 in cc) in
      let c = flow-in (flow_actor.class_of params.class) params (flow.Expression f) (w.1 ∙ ap Some same) in
      let s = started-so c.0 params f c.2 in
      (flows.class-named params.class class.Expression (c.1 ∙ ap Some s.0), s.1))
  | inr (inl w) ↦ (let h = w.2 in absurd (cc))
  | inr (inr (inl w)) ↦ (let h = w.2 in absurd (cc))
  | inr (inr (inr w)) ↦ (let h = w.2 in absurd (cc))
]

-- it has the tree of its parameters, with these inputs and their values
pub record IsFormula (params : Params) (f : Formula) : Type 0 where
  pub inputs_are : typed_names params.types (names_but (codes "output") params.ports) ≡ Some f.inputs
  pub values_are : f.values ≡ params.values
  pub tree_is : option_map tree_of params.tree ≡ Some f.tree

typed-so : (b : Bool) (g f : Formula) → (if b then Some g else None) ≡ Some f → g ≡ f
typed-so true g f e = same_Some g f e
typed-so false g f e = absurd (cc)

formula-of : (params : Params) (tree : Option Expr) (o : Option (List (List ℕ × Datatype))) (f : Formula) → params.tree ≡ tree → typed_names params.types (names_but (codes "output") params.ports) ≡ o → expression.start_by tree params ≡ Some f → IsFormula params f
formula-of params None o f t is e = absurd (cc)
formula-of params (Some x) o f t is e = by_inputs o is (ap (expression.of_inputs params.values (tree_of x)) (sym is) ∙ e)
  where
    by_inputs : (o : Option (List (List ℕ × Datatype))) → typed_names params.types (names_but (codes "output") params.ports) ≡ o → expression.of_inputs params.values (tree_of x) o ≡ Some f → IsFormula params f
    by_inputs None is g = absurd (cc)
    by_inputs (Some inputs) is g =
        let h : record { inputs = inputs; values = params.values; tree = tree_of x } ≡ f = typed-so (is_typed (record { inputs = inputs; values = params.values; tree = tree_of x })) (record { inputs = inputs; values = params.values; tree = tree_of x }) f g in
        record { inputs_are = is ∙ ap (λ (y : Formula). Some y.inputs) h; values_are = ap (λ (y : Formula). y.values) (sym h); tree_is = ap (option_map tree_of) t ∙ ap (λ (y : Formula). Some y.tree) h }

-- ---- its inequality

trees-met : (typing : Assignment) (k : ℕ) (e : NetEntityTree) (types : Types) (v : Variable) (vs : List ParameterValue) (t : Tree) → AllByRecursion (IsMet typing) (of_trees k e types v (map held_view vs)) → given_tree vs ≡ Some t → IsBelow (meaning typing.types (of_tree k e types t)) (typing.types v)
trees-met typing k e types v [] t a g = absurd (cc)
trees-met typing k e types v (parameter.Token x ∷ vs) t a g = trees-met typing k e types v vs t a g
trees-met typing k e types v (parameter.Word ∷ vs) t a g = trees-met typing k e types v vs t a g
trees-met typing k e types v (parameter.Tree x ∷ vs) t a g = subst (λ u. IsBelow (meaning typing.types (of_tree k e types u)) (typing.types v)) (same_Some (tree_of x) t g) a.0

-- ---- the row

module _ (net : Net) (values : Values) (typing : Assignment) (k : ℕ) (e : NetEntity) (f : Formula) (at : slice_get net.entities.items k ≡ Some e) (has : HasClassPorts net k e) (own : HaveOwnNames (entity_view e).ports) (is : IsValued (net_view net) values) (nested : IsNested (net_view net)) (have : HaveClassParameters (net_view net))
    (typed : IsTyping net values typing) (started : IsStart net values (types_of_ports typing) k (Some (Flow (flow.Expression f)))) where
  abbrev types : ℕ → Datatype
  types n = typing.types (variable.Port k n)

  abbrev t : NetEntityTree
  t = entity_view e

  abbrev from-frames : Types
  from-frames = seen_types (frames_of net values) t.within t.parent

  abbrev ways : List PortTree → List Direction
  ways ps = map (λ (p : PortTree). p.direction) ps

  view-at : slice_get (map entity_view net.entities.items) k ≡ Some t
  view-at = viewed entity_view net.entities.items k e at

  view-is : started.started_from.entity ≡ t
  view-is = same_Some started.started_from.entity t (sym started.started_from.at ∙ view-at)

  abbrev vs : List ParameterValue
  vs = started.started_from.held.parameters.items

  abbrev around : Bindings
  around = started.started_from.seen

  from : IsFrom net.channels.items (types_of_ports typing) k t vs around started.params
  from = subst (λ (d : NetEntityTree). IsFrom net.channels.items (types_of_ports typing) k d vs around started.params) view-is started.started_from.from

  sees : Sees (net_view net) t.within t.parent around
  sees = subst (λ (d : NetEntityTree). Sees (net_view net) d.within d.parent around) view-is started.started_from.sees

  by-class : (started.params.class ≡ codes "Expression") × (expression.start started.params ≡ Some f)
  by-class = expression-started started.params f started.is

  named : e.class ≡ codes "Expression"
  named = sym from.class_is ∙ by-class.0

  kind : kind_of (codes "Expression") ≡ Some (Actor has.class)
  kind = ap kind_of (sym named) ∙ has.kind

  is-formula : IsFormula started.params f
  is-formula = formula-of started.params started.params.tree (typed_names started.params.types (names_but (codes "output") started.params.ports)) f refl refl by-class.1

  tree-given : given_tree vs ≡ Some f.tree
  tree-given = sym from.tree_is ∙ is-formula.tree_is

  own-names : AllByRecursion (λ (p : PropertyTree). property_name p ≡ codes "expression") t.parameters
  own-names = named-alone (codes "expression") t.parameters (subst (λ ns. AllByRecursion (λ (p : PropertyTree). is_among ns (property_name p) ≡ true) t.parameters) (sym (ap parameters_in kind) ∙ expression-parameters) (have.actors k t has.class view-at has.kind))

  values-are : f.values ≡ filter_map (seen_token around) (names_in f.tree)
  values-are =
      is-formula.values_are ∙ from.values_are
      ∙ ap (λ ts. ts ++ seen_tokens around (given_tree vs)) (expression-alone t vs named own-names (given-all net values k t started.started_from.held is view-at started.started_from.held_at (ap is_composite_class named)))
      ∙ ap (seen_tokens around) tree-given

  -- ---- the ports

  declares : has.class.declares ≡ Some Input
  declares = sym (ap declares_in kind) ∙ expression-declares

  row : (q : ClassPort) × (has.class.ports ≡ q ∷ []) × (class_head q ≡ (codes "output", Output))
  row = one-row has.class.ports (codes "output", Output) (sym (ap heads_in kind) ∙ flow_classes.heads-are class.Expression)

  abbrev q : PortTree
  q = row_port row.0

  abbrev ds : List PortTree
  ds = has.declared

  out : q.direction ≡ Output
  out = ap (λ (h : List ℕ × Direction). h.1) row.2

  called : q.name ≡ codes "output"
  called = ap (λ (h : List ℕ × Direction). h.0) row.2

  ports-are : t.ports ≡ ds ++ (q ∷ [])
  ports-are = has.ports ∙ ap (λ o. joined_ports o ds (map row_port has.class.ports)) declares ∙ ap (λ qs. ds ++ map row_port qs) row.1

  fit : AllByRecursion (λ (p : PortTree). (has.class.declares ≡ Some p.direction) × AllByRecursion (λ (r : ClassPort). bytes_eq p.name r.name ≡ false) (row.0 ∷ [])) ds
  fit = subst (λ qs. AllByRecursion (λ (p : PortTree). (has.class.declares ≡ Some p.direction) × AllByRecursion (λ (r : ClassPort). bytes_eq p.name r.name ≡ false) qs) ds) row.1 has.fit

  apart : (ps : List PortTree) → AllByRecursion (λ (p : PortTree). (has.class.declares ≡ Some p.direction) × AllByRecursion (λ (r : ClassPort). bytes_eq p.name r.name ≡ false) (row.0 ∷ [])) ps → AllByRecursion (λ (p : PortTree). bytes_eq p.name (codes "output") ≡ false) ps
  apart [] a = tt
  apart (p ∷ ps) a = (subst (λ n. bytes_eq p.name n ≡ false) called a.0.1.0, apart ps a.1)

  ins : AllByRecursion (λ (p : PortTree). Input ≡ p.direction) ds
  ins = directions-all has.class.declares Input (row.0 ∷ []) ds declares fit

  inputs-are : f.inputs ≡ map (entry_in typing.types) (inputs_of k t)
  inputs-are =
      let found = inputs-typed net.channels.items typing k ds q ins out (apart ds fit) ((bytes_eq-Decides q.name (codes "output")).1 called) (subst HaveOwnNames ports-are own) in
      let here = subst (λ ps. typed_names (types_of (types_of_ports typing) k (record t { ports = ps })) (names_but (codes "output") (ports_of net.channels.items k (record t { ports = ps }))) ≡ Some (map (entry_in typing.types) (inputs_from k 0 ps))) (sym ports-are) found in
      same_Some f.inputs (map (entry_in typing.types) (inputs_of k t)) (sym is-formula.inputs_are ∙ ap (λ ts. typed_names ts (names_but (codes "output") started.params.ports)) from.types_are ∙ ap (λ ps. typed_names (types_of (types_of_ports typing) k t) (names_but (codes "output") ps)) from.ports_are ∙ here)

  -- ---- the tree

  visible : (name : List ℕ) (u : Datatype) → from-frames name ≡ Some u → (v : Value) × (bound around name ≡ Some (Some v)) × (u ≡ type_of_value v)
  visible name u h = by_value (seen (frames_of net values) t.within t.parent name) refl h
    where
      by_value : (o : Option Value) → seen (frames_of net values) t.within t.parent name ≡ o → option_map type_of_value o ≡ Some u → (v : Value) × (bound around name ≡ Some (Some v)) × (u ≡ type_of_value v)
      by_value None found g = absurd (cc)
      by_value (Some v) found g = (v, seen-is-bound net values is nested 16 t.within t.parent around sees (nested.entities k t view-at) name v found, sym (same_Some (type_of_value v) u g))

  free : AreFree around
  free = seen-free (net_view net) t.within t.parent around nested have (nested.entities k t view-at) sees

  types-are : formula.types_of f ≡ formula_types typing.types (inputs_of k t) from-frames around (names_in f.tree) free visible
  types-are = ap (λ xs. with_types xs (parameter_types f.values)) inputs-are ∙ ap (λ ts. with_types (map (entry_in typing.types) (inputs_of k t)) (parameter_types ts)) values-are

  no-greater : IsBelow (type_or_general (formula.types_of f) f.tree) (meaning typing.types (of_tree k t from-frames f.tree))
  no-greater =
      subst (λ ts. IsBelow (type_or_general ts f.tree) (meaning typing.types (of_tree k t from-frames f.tree))) (sym types-are)
      (tree-below (net_types typing.types (inputs_of k t) from-frames around (names_in f.tree) free visible) (formula_types typing.types (inputs_of k t) from-frames around (names_in f.tree) free visible) (names-typed typing.types (inputs_of k t) from-frames around (names_in f.tree) free visible) f.tree)

  -- ---- the output

  abbrev view : valued.EntityView
  view = valued.entity_view started.started_from.held

  output-met : AllByRecursion (IsMet typing) (of_trees k t from-frames (variable.Port k (length ds)) (map held_view vs))
  output-met =
      let ports-met = all-front (IsMet typing) (of_ports k t view from-frames 0 t.ports) (of_parameters k e.class t.parameters view.parameters ++ of_standards k e.class t.parameters seedings)
      (entity-met net values typing k t view typed view-at (viewed valued.entity_view values.entities.items k started.started_from.held started.started_from.held_at)) in
      let met = port-at typing k t view from-frames 0 t.ports (length ds) q ports-met (ap (λ ps. slice_get ps (length ds)) ports-are ∙ last-at ds q) in
      let passes : port_type e.class q ≡ port.Tree = type-by-head e.class q ∙ ap (λ c. head_type c (class_head row.0)) named ∙ ap (head_type (codes "Expression")) row.2 ∙ expression-port in
      subst (λ p. AllByRecursion (IsMet typing) (of_port k t view from-frames (length ds) q.name p)) passes
      (subst (λ m. AllByRecursion (IsMet typing) (of_port k t view from-frames m q.name (port_type e.class q))) (let z : 0 + length ds ≡ length ds = omega arith in z) met)

  outputs-are : (types_below net typing k []).outputs ≡ types (length ds) ∷ []
  outputs-are =
      ap (λ (o : Option NetEntity). (entity_types net typing k o).outputs) at
      ∙ ap (port_types typing k)
      (
      outputs-numbered 0 e.ports.items ∙ ap (λ ps. outs_from 0 (ways ps)) ports-are ∙ ap (outs_from 0) (directions-behind ds q ∙ ap (λ d. ways ds ++ (d ∷ [])) out) ∙ outs-behind 0 ds ins
      ∙ ap (λ m. m ∷ []) (let z : 0 + length ds ≡ length ds = omega arith in z)
      )

  pub expression-meets : MeetsRow (types_below net typing k []) (Flow (flow.Expression f))
  expression-meets =
      subst (λ us. ToFirst (λ u. IsBelow (type_or_general (formula.types_of f) f.tree) u) us) (sym outputs-are)
      (below-trans (type_or_general (formula.types_of f) f.tree) (meaning typing.types (of_tree k t from-frames f.tree)) (types (length ds)) no-greater (trees-met typing k t from-frames (variable.Port k (length ds)) vs f.tree output-met tree-given))

pub expression-rows-met : ExpressionRowsAreMet
expression-rows-met net values typing k e f at has own is nested have typed started = expression-meets net values typing k e f at has own is nested have typed started
