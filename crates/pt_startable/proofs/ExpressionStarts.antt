-- An Expression starts where the typing of its net breaks nowhere: its output isn't general, so its tree has a type by the types of its inputs and of what it sees.
use Rattle.std.proofs.Common.{◌≡◌, ℕ, ◌+◌, List, [], ◌∷◌, ◌++◌, length, map, Bool, true, false, ◌&&◌, Option, Some, None, refl, sym, ap, subst, ◌∙◌, slice_get, if◌then◌else◌, codes, bytes_eq, arith}
use Rattle.std.specs.Prelude.{option_map}
use Rattle.std.specs.List.{AllByRecursion, filter_map}
use Rattle.std.proofs.lemmas.Bool.{false≢true, true≢false}
use Rattle.std.proofs.lemmas.Option.{none-some, same_Some}
use Rattle.std.proofs.lemmas.Slice.Eq.{bytes_eq-Decides}
use Rattle.pt_value.specs.Value.{Value}
use Rattle.pt_datatypes.specs.Datatype.{Datatype, Unknown, Int, Boolean, Words, Array, Record, General}
use Rattle.pt_datatypes.specs.Order.{IsBelow}
use Rattle.pt_datatypes.specs.Token.{type_of_value}
use Rattle.pt_datatypes.proofs.Order.{below-trans}
use Rattle.pt_language.specs.declared.expr.Expr.{Expr}
use Rattle.pt_language.specs.Comparable.{is_general}
use Rattle.pt_language.specs.Tree.{Tree}
use Rattle.pt_language.specs.Expr.{tree_of}
use Rattle.pt_language.specs.Typing.{Typing, Has, Clash, or_general}
use Rattle.pt_language.specs.Types.{Types}
use Rattle.pt_language.specs.TreeType.{tree_type, are_bound}
use Rattle.pt_language.specs.Rule.{type_or_general}
use Rattle.pt_document.specs.declared.job.Direction.TheVariants.{Output}
use Rattle.pt_document.specs.Classes.{Class, Kind, Composite, Modal, Actor, kind_of, class_row, classes}
use Rattle.pt_document.specs.Document.{PropertyTree, property_name}
use Rattle.pt_document.specs.Names.{is_among}
use Rattle.pt_moml.specs.Rules.{parameter_names}
use Rattle.pt_net.specs.declared.net.Net.{Net}
use Rattle.pt_net.specs.declared.net.NetEntity.{NetEntity}
use Rattle.pt_net.specs.Net.{NetEntityTree, entity_view}
use Rattle.pt_firing.specs.Params.{names_but}
use Rattle.pt_scopes.specs.declared.form.Form.TheVariants as form
use Rattle.pt_scopes.specs.Forms.{forms, form_of}
use Rattle.pt_scopes.specs.Texts.{names_in}
use Rattle.pt_scopes.specs.Given.{held_view, names_port}
use Rattle.pt_scopes.specs.Sites as sites
use Rattle.pt_scopes.specs.declared.parameter_value.ParameterValue.{ParameterValue}
use Rattle.pt_scopes.specs.declared.parameter_value.ParameterValue.TheVariants as parameter
use Rattle.pt_scopes.specs.declared.values.Values.{Values}
use Rattle.pt_scopes.specs.Scopes.{Bindings, bound, net_view, is_composite_class, Sees}
use Rattle.pt_scopes.specs.Valued.{IsValued}
use Rattle.pt_scopes.specs.Valued as valued
use Rattle.pt_typing.specs.declared.variable.Variable.{Variable}
use Rattle.pt_typing.specs.declared.variable.Variable.TheVariants as variable
use Rattle.pt_typing.specs.Least.{Assignment, IsMet}
use Rattle.pt_typing.specs.Terms.{entry_in, meaning}
use Rattle.pt_inequalities.specs.declared.row.PortType.TheVariants as port
use Rattle.pt_inequalities.specs.Rows.{port_type, port_rows, seedings}
use Rattle.pt_inequalities.specs.Frames.{frames_of, seen, seen_types}
use Rattle.pt_inequalities.specs.Inequalities.{inputs_of, inputs_from, of_tree, of_trees, of_port, of_ports, of_parameters, of_standards}
use Rattle.pt_inequalities.specs.Typing.{IsTyping}
use Rattle.pt_resolve.specs.Faults.{is_above, IsWhole, at_port}
use Rattle.pt_start.specs.Nested.{IsNested}
use Rattle.pt_start.specs.Started.{given_tree, seen_token, seen_tokens, ports_of, types_of, IsFrom, IsStartedFrom}
use Rattle.pt_flow_base.specs.declared.params.Params.{Params}
use Rattle.pt_flow_base.specs.PortTypes.{typed_names}
use Rattle.pt_formula.specs.Formula.{Formula, parameter_types, with_types, has_type, is_typed}
use Rattle.pt_formula.specs.Formula as formula
use Rattle.pt_lib_flow.specs.Expression as expression
use Rattle.pt_cover.proofs.Reading.{documents-leaves}
use Rattle.pt_cover.proofs.Nesting.{net-nested}
use Rattle.pt_order.specs.Laws.{IsNetOfDocument}
use Rattle.pt_order.specs.ClassPorts.{HaveOwnNames}
use Rattle.pt_typed.specs.OwnNames.{HaveClassParameters}
use Rattle.pt_typed.specs.RowLaw.{types_of_ports}
use Rattle.pt_typed.proofs.PortFacts.{head, head_type, all-front, entity-met}
use Rattle.pt_typed.proofs.RowsMet.{viewed}
use Rattle.pt_typed.proofs.RecordsMet.{type-by-head, port-at, last-at}
use Rattle.pt_typed.proofs.HeldLaws.{IsGivenAll, given-all, expression-alone}
use Rattle.pt_typed.proofs.SeenFrames.{AreFree, seen-is-bound, seen-free}
use Rattle.pt_typed.proofs.FormulaTypes.{tree-below}
use Rattle.pt_typed.proofs.FormulaNames.{net_types, formula_types, names-typed}
use Rattle.pt_typed.proofs.ExpressionPorts.{inputs-typed}
use Rattle.pt_typed.proofs.DocumentNames.{documents-named}
use Rattle.pt_startable.proofs.Held.{tree-there}
use Rattle.pt_startable.proofs.Required.{IsAsked, expression-tree, required-there}
use Rattle.pt_startable.proofs.Found.{IsThere}
use Rattle.pt_startable.proofs.Known.{actor-class}
use Rattle.pt_startable.proofs.ExpressionPorts.{AreExpressionPorts, expression-ports}

-- ---- types

-- what is below a type that isn't general isn't general
below-special : (s u : Datatype) → IsBelow s u → is_general u ≡ false → is_general s ≡ false
below-special General Unknown b n = absurd (false≢true b)
below-special General Int b n = absurd (false≢true b)
below-special General Boolean b n = absurd (false≢true b)
below-special General Words b n = absurd (false≢true b)
below-special General (Array t) b n = absurd (false≢true b)
below-special General (Record fs) b n = absurd (false≢true b)
below-special General General b n = absurd (true≢false n)
below-special Unknown u b n = refl
below-special Int u b n = refl
below-special Boolean u b n = refl
below-special Words u b n = refl
below-special (Array t) u b n = refl
below-special (Record fs) u b n = refl

-- a tree that isn't general has a type
special-typed : (types : Types) (t : Tree) → is_general (type_or_general types t) ≡ false → (are_bound types t && has_type (tree_type types t)) ≡ true
special-typed types t e = by_test (are_bound types t) (tree_type types t) e
  where
    by_test : (b : Bool) (y : Typing Datatype) → is_general (if b then or_general y else General) ≡ false → (b && has_type y) ≡ true
    by_test true (Has u) g = refl
    by_test true Clash g = absurd (true≢false g)
    by_test false y g = absurd (true≢false g)

-- ---- the class

abbrev parameters_in : Option Kind → List (List ℕ)
parameters_in (Some (Actor c)) = parameter_names c.parameters
parameters_in (Some Composite) = []
parameters_in (Some Modal) = []
parameters_in None = []

expression-parameters : parameters_in (kind_of (codes "Expression")) ≡ codes "expression" ∷ []
unfolding kind_of class_row classes
expression-parameters = refl

expression-port : head_type (codes "Expression") (codes "output", Output) ≡ port.Tree
unfolding head_type port_rows
expression-port = refl

expression-form : form_of (codes "Expression") (codes "expression") ≡ form.Tree
unfolding form_of forms
expression-form = refl

named-alone : (name : List ℕ) (ps : List PropertyTree) → AllByRecursion (λ (p : PropertyTree). is_among (name ∷ []) (property_name p) ≡ true) ps → AllByRecursion (λ (p : PropertyTree). property_name p ≡ name) ps
named-alone name [] a = tt
named-alone name (p ∷ ps) a = (by_test (bytes_eq name (property_name p)) refl a.0, named-alone name ps a.1)
  where
    by_test : (b : Bool) → bytes_eq name (property_name p) ≡ b → (if b then true else false) ≡ true → property_name p ≡ name
    by_test true d e = sym ((bytes_eq-Decides name (property_name p)).0 d)
    by_test false d e = absurd (false≢true e)

-- ---- its start

abbrev started_by : Params → Tree → List (List ℕ × Datatype) → Formula
started_by params t inputs = record { inputs = inputs; values = params.values; tree = t }

tree-held : (o : Option Expr) (t : Tree) → option_map tree_of o ≡ Some t → (x : Expr) × (o ≡ Some x) × (tree_of x ≡ t)
tree-held None t e = absurd (none-some t e)
tree-held (Some x) t e = (x, refl, same_Some (tree_of x) t e)

-- one that has a tree and typed inputs, by which the tree has a type, starts
typed-start : (params : Params) (t : Tree) (inputs : List (List ℕ × Datatype)) → option_map tree_of params.tree ≡ Some t → typed_names params.types (names_but (codes "output") params.ports) ≡ Some inputs → is_typed (started_by params t inputs) ≡ true → IsThere (expression.start params)
typed-start params t inputs held named typed =
    let x = tree-held params.tree t held in (
      started_by params t inputs,
      ap (λ o. expression.start_by o params) x.1 ∙ ap (λ u. expression.of_inputs params.values u (typed_names params.types (names_but (codes "output") params.ports))) x.2 ∙ ap (expression.of_inputs params.values t) named
          ∙ ap (λ b. if b then Some (started_by params t inputs) else None) typed,
    )

-- ---- its inequality

tree-met : (typing : Assignment) (k : ℕ) (e : NetEntityTree) (types : Types) (v : Variable) (vs : List ParameterValue) (t : Tree) → AllByRecursion (IsMet typing) (of_trees k e types v (map held_view vs)) → given_tree vs ≡ Some t → IsBelow (meaning typing.types (of_tree k e types t)) (typing.types v)
tree-met typing k e types v [] t a g = absurd (none-some t g)
tree-met typing k e types v (parameter.Token x ∷ vs) t a g = tree-met typing k e types v vs t a g
tree-met typing k e types v (parameter.Word ∷ vs) t a g = tree-met typing k e types v vs t a g
tree-met typing k e types v (parameter.Tree x ∷ vs) t a g = subst (λ u. IsBelow (meaning typing.types (of_tree k e types u)) (typing.types v)) (same_Some (tree_of x) t g) a.0

-- ---- an Expression of a net

module _ (net : Net) (values : Values) (typing : Assignment) (k : ℕ) (e : NetEntity) (doc : IsNetOfDocument net) (is : IsValued (net_view net) values) (typed : IsTyping net values typing) (whole : IsWhole net values typing) (at : slice_get net.entities.items k ≡ Some e) (named : e.class ≡ codes "Expression") (params : Params)
    (started : IsStartedFrom net values (types_of_ports typing) k params) where
  abbrev t : NetEntityTree
  t = entity_view e

  abbrev from-frames : Types
  from-frames = seen_types (frames_of net values) t.within t.parent

  abbrev types : ℕ → Datatype
  types n = typing.types (variable.Port k n)

  nested : IsNested (net_view net)
  nested = net-nested doc.job net (documents-leaves doc.bytes doc.job doc.read) doc.made

  names : HaveClassParameters (net_view net) × HaveOwnNames t.ports
  names = let w = documents-named doc.bytes doc.job net doc.read doc.made in (w.0, w.1 k e at)

  row : (c : Class) × (kind_of e.class ≡ Some (Actor c))
  row = actor-class net k e doc at (ap is_composite_class named)

  view-at : slice_get (map entity_view net.entities.items) k ≡ Some t
  view-at = viewed entity_view net.entities.items k e at

  view-is : started.entity ≡ t
  view-is = same_Some started.entity t (sym started.at ∙ view-at)

  abbrev vs : List ParameterValue
  vs = started.held.parameters.items

  abbrev around : Bindings
  around = started.seen

  from : IsFrom net.channels.items (types_of_ports typing) k t vs around params
  from = subst (λ (d : NetEntityTree). IsFrom net.channels.items (types_of_ports typing) k d vs around params) view-is started.from

  sees : Sees (net_view net) t.within t.parent around
  sees = subst (λ (d : NetEntityTree). Sees (net_view net) d.within d.parent around) view-is started.sees

  given : IsGivenAll t vs
  given = given-all net values k t started.held is view-at started.held_at (ap is_composite_class named)

  -- its tree
  tree : (u : Tree) × (given_tree vs ≡ Some u)
  tree = tree-there (names_port (sites.inputs_of t)) given.scope (form_of t.class) (codes "expression") t.parameters vs given.given (ap (λ c. form_of c (codes "expression")) named ∙ expression-form) (required-there net k e (codes "expression") doc at (subst (λ c. IsAsked c (codes "expression")) (sym named) expression-tree))

  -- its parameters are what it sees
  own-names : AllByRecursion (λ (p : PropertyTree). property_name p ≡ codes "expression") t.parameters
  own-names = named-alone (codes "expression") t.parameters (subst (λ ns. AllByRecursion (λ (p : PropertyTree). is_among ns (property_name p) ≡ true) t.parameters) (sym (ap parameters_in row.1) ∙ ap (λ c. parameters_in (kind_of c)) named ∙ expression-parameters) (names.0.actors k t row.0 view-at row.1))

  values-are : params.values ≡ filter_map (seen_token around) (names_in tree.0)
  values-are = from.values_are ∙ ap (λ ts. ts ++ seen_tokens around (given_tree vs)) (expression-alone t vs named own-names given) ∙ ap (seen_tokens around) tree.1

  -- its ports
  ports : AreExpressionPorts t.ports
  ports = expression-ports net k e row.0 doc at named row.1

  inputs-found : typed_names params.types (names_but (codes "output") params.ports) ≡ Some (map (entry_in typing.types) (inputs_of k t))
  inputs-found =
      let found = inputs-typed net.channels.items typing k ports.declared ports.output ports.inputs ports.way ports.others ((bytes_eq-Decides ports.output.name (codes "output")).1 ports.named) (subst HaveOwnNames ports.are names.1) in
      let here = subst (λ ps. typed_names (types_of (types_of_ports typing) k (record t { ports = ps })) (names_but (codes "output") (ports_of net.channels.items k (record t { ports = ps }))) ≡ Some (map (entry_in typing.types) (inputs_from k 0 ps))) (sym ports.are) found in
      ap (λ ts. typed_names ts (names_but (codes "output") params.ports)) from.types_are ∙ ap (λ ps. typed_names (types_of (types_of_ports typing) k t) (names_but (codes "output") ps)) from.ports_are ∙ here

  -- the type of its tree
  visible : (name : List ℕ) (u : Datatype) → from-frames name ≡ Some u → (v : Value) × (bound around name ≡ Some (Some v)) × (u ≡ type_of_value v)
  visible name u h = by_value (seen (frames_of net values) t.within t.parent name) refl h
    where
      by_value : (o : Option Value) → seen (frames_of net values) t.within t.parent name ≡ o → option_map type_of_value o ≡ Some u → (v : Value) × (bound around name ≡ Some (Some v)) × (u ≡ type_of_value v)
      by_value None found g = absurd (none-some u g)
      by_value (Some v) found g = (v, seen-is-bound net values is nested 16 t.within t.parent around sees (nested.entities k t view-at) name v found, sym (same_Some (type_of_value v) u g))

  free : AreFree around
  free = seen-free (net_view net) t.within t.parent around nested names.0 (nested.entities k t view-at) sees

  abbrev f : Formula
  f = started_by params tree.0 (map (entry_in typing.types) (inputs_of k t))

  types-are : formula.types_of f ≡ formula_types typing.types (inputs_of k t) from-frames around (names_in tree.0) free visible
  types-are = ap (λ ts. with_types (map (entry_in typing.types) (inputs_of k t)) (parameter_types ts)) values-are

  no-greater : IsBelow (type_or_general (formula.types_of f) tree.0) (meaning typing.types (of_tree k t from-frames tree.0))
  no-greater =
      subst (λ ts. IsBelow (type_or_general ts tree.0) (meaning typing.types (of_tree k t from-frames tree.0))) (sym types-are)
      (tree-below (net_types typing.types (inputs_of k t) from-frames around (names_in tree.0) free visible) (formula_types typing.types (inputs_of k t) from-frames around (names_in tree.0) free visible) (names-typed typing.types (inputs_of k t) from-frames around (names_in tree.0) free visible) tree.0)

  -- its output
  abbrev last : ℕ
  last = length ports.declared

  output-at : slice_get t.ports last ≡ Some ports.output
  output-at = ap (λ ps. slice_get ps last) ports.are ∙ last-at ports.declared ports.output

  output-row : port_type t.class ports.output ≡ port.Tree
  output-row = type-by-head t.class ports.output ∙ ap (λ c. head_type c (head ports.output)) named ∙ ap (λ n. head_type (codes "Expression") (n, ports.output.direction)) ports.named ∙ ap (λ d. head_type (codes "Expression") (codes "output", d)) ports.way ∙ expression-port

  output-special : is_general (types last) ≡ false
  output-special = by_test (is_general (types last)) refl
    where
      by_test : (b : Bool) → is_general (types last) ≡ b → b ≡ false
      by_test false g = refl
      by_test true g = absurd (whole.entities t (at_port k last t ports.output view-at output-at (ap (λ p. is_above p (types last)) output-row ∙ g)))

  abbrev view : valued.EntityView
  view = valued.entity_view started.held

  output-met : AllByRecursion (IsMet typing) (of_trees k t from-frames (variable.Port k last) (map held_view vs))
  output-met =
      let ports-met = all-front (IsMet typing) (of_ports k t view from-frames 0 t.ports) (of_parameters k e.class t.parameters view.parameters ++ of_standards k e.class t.parameters seedings)
      (entity-met net values typing k t view typed view-at (viewed valued.entity_view values.entities.items k started.held started.held_at)) in
      let met = port-at typing k t view from-frames 0 t.ports last ports.output ports-met output-at in
      subst (λ p. AllByRecursion (IsMet typing) (of_port k t view from-frames last ports.output.name p)) output-row
      (subst (λ m. AllByRecursion (IsMet typing) (of_port k t view from-frames m ports.output.name (port_type e.class ports.output))) (let z : 0 + last ≡ last = omega arith in z) met)

  tree-typed : is_typed f ≡ true
  tree-typed =
      let below = below-trans (type_or_general (formula.types_of f) tree.0) (meaning typing.types (of_tree k t from-frames tree.0)) (types last) no-greater (tree-met typing k t from-frames (variable.Port k last) vs tree.0 output-met tree.1) in
      special-typed (formula.types_of f) tree.0 (below-special (type_or_general (formula.types_of f) tree.0) (types last) below output-special)

  pub expression-starts : IsThere (expression.start params)
  expression-starts = typed-start params tree.0 (map (entry_in typing.types) (inputs_of k t)) (from.tree_is ∙ tree.1) inputs-found tree-typed
