-- What the parameters of a library actor have: tokens where the forms of all its parameters are of values, and of an Expression a tree.
use Rattle.std.proofs.Common.{◌≡◌, ℕ, suc, List, [], ◌∷◌, map, Bool, true, false, not, ◌&&◌, ◌||◌, Some, refl, sym, ap, subst, ◌∙◌, slice_get, if◌then◌else◌}
use Rattle.std.specs.Prelude.{codes, bytes_eq}
use Rattle.std.specs.List.{list_all, AllByRecursion, AllZip}
use Rattle.std.proofs.lemmas.Option.{same_Some}
use Rattle.std.proofs.lemmas.Bool.{false≢true}
use Rattle.pt_datatypes.proofs.Fields.{and_left, and_right}
use Rattle.pt_language.specs.Scope.{Scope}
use Rattle.pt_language.specs.declared.expr.Expr.{Expr}
use Rattle.pt_document.specs.Document.{PropertyTree, property_name}
use Rattle.pt_net.specs.declared.net.Net.{Net}
use Rattle.pt_net.specs.Net.{NetEntityTree, entity_view}
use Rattle.pt_scopes.specs.declared.form.Form.{Form}
use Rattle.pt_scopes.specs.declared.form.Form.TheVariants as form
use Rattle.pt_scopes.specs.declared.parameter_value.ParameterValue.{ParameterValue}
use Rattle.pt_scopes.specs.declared.parameter_value.ParameterValue.TheVariants as parameter
use Rattle.pt_scopes.specs.Forms.{ParameterForm, forms, form_in, form_of}
use Rattle.pt_scopes.specs.Given.{held_view, names_port, IsGiven}
use Rattle.pt_scopes.specs.declared.values.EntityValues.{EntityValues}
use Rattle.pt_scopes.specs.declared.values.Values.{Values}
use Rattle.pt_scopes.specs.Scopes.{net_view, bound, text_of, is_composite_class}
use Rattle.pt_scopes.specs.Sites.{inputs_of}
use Rattle.pt_scopes.specs.ClassParameters.{IsParameterOf}
use Rattle.pt_scopes.specs.Valued.{EntityView, AreOwn, IsEntityValued, IsValued}
use Rattle.pt_scopes.specs.Valued as valued
use Rattle.pt_start.specs.Started.{own_tokens}
use Rattle.pt_typed.specs.NetRows.{IsTokenHeld, HoldsTokens}
use Rattle.pt_typed.proofs.RowsMet.{viewed}
use Rattle.pt_typed.proofs.SeenFrames.{zip-at}

-- ---- forms

-- a parameter of this form is evaluated
abbrev pub is_evaluated : Form → Bool
is_evaluated form.Tree = false
is_evaluated form.Comparison = false
is_evaluated form.Function = false
is_evaluated form.Gate = false
is_evaluated form.Ignored = false
is_evaluated f = true

-- so is each parameter of a class that the table lists
abbrev has_value : List ℕ → ParameterForm → Bool
has_value class r = not (bytes_eq r.class class) || is_evaluated r.form

values-in : (rows : List ParameterForm) (class name : List ℕ) → list_all (has_value class) rows ≡ true → is_evaluated (form_in rows class name) ≡ true
values-in [] class name e = refl
values-in (r ∷ rows) class name e = by_test (bytes_eq r.class class) refl (bytes_eq r.name name) (and_left (has_value class r) (list_all (has_value class) rows) e) (values-in rows class name (and_right (has_value class r) (list_all (has_value class) rows) e))
  where
    by_test : (b : Bool) → bytes_eq r.class class ≡ b → (c : Bool) → (not b || is_evaluated r.form) ≡ true → is_evaluated (form_in rows class name) ≡ true → is_evaluated (if b && c then r.form else form_in rows class name) ≡ true
    by_test true d true h more = h
    by_test true d false h more = more
    by_test false d c h more = more

pub const-values : (name : List ℕ) → is_evaluated (form_of (codes "Const") name) ≡ true
unfolding form_of forms
const-values name = values-in forms (codes "Const") name refl

pub sequence-values : (name : List ℕ) → is_evaluated (form_of (codes "Sequence") name) ≡ true
unfolding form_of forms
sequence-values name = values-in forms (codes "Sequence") name refl

pub delay-values : (name : List ℕ) → is_evaluated (form_of (codes "SampleDelay") name) ≡ true
unfolding form_of forms
delay-values name = values-in forms (codes "SampleDelay") name refl

pub non-strict-delay-values : (name : List ℕ) → is_evaluated (form_of (codes "NonStrictDelay") name) ≡ true
unfolding form_of forms
non-strict-delay-values name = values-in forms (codes "NonStrictDelay") name refl

pub pre-values : (name : List ℕ) → is_evaluated (form_of (codes "Pre") name) ≡ true
unfolding form_of forms
pre-values name = values-in forms (codes "Pre") name refl

pub clock-values : (name : List ℕ) → is_evaluated (form_of (codes "DiscreteClock") name) ≡ true
unfolding form_of forms
clock-values name = values-in forms (codes "DiscreteClock") name refl

pub event-values : (name : List ℕ) → is_evaluated (form_of (codes "SingleEvent") name) ≡ true
unfolding form_of forms
event-values name = values-in forms (codes "SingleEvent") name refl

pub sampler-values : (name : List ℕ) → is_evaluated (form_of (codes "Sampler") name) ≡ true
unfolding form_of forms
sampler-values name = values-in forms (codes "Sampler") name refl

pub register-values : (name : List ℕ) → is_evaluated (form_of (codes "Register") name) ≡ true
unfolding form_of forms
register-values name = values-in forms (codes "Register") name refl

expression-tree : form_of (codes "Expression") (codes "expression") ≡ form.Tree
unfolding form_of forms
expression-tree = refl

-- ---- what is given

given-token : (is_port : List ℕ → Bool) (scope : Scope) (f : Form) (text : List ℕ) (v : ParameterValue) → is_evaluated f ≡ true → IsGiven is_port scope f text (held_view v) → IsTokenHeld v
given-token is_port scope f text (parameter.Token t) e g = tt
given-token is_port scope form.Tree text v e g = absurd (false≢true e)
given-token is_port scope form.Comparison text v e g = absurd (false≢true e)
given-token is_port scope form.Function text v e g = absurd (false≢true e)
given-token is_port scope form.Gate text v e g = absurd (false≢true e)
given-token is_port scope form.Ignored text v e g = absurd (false≢true e)
given-token is_port scope form.Any text (parameter.Tree x) e g = absurd g
given-token is_port scope form.Truth text (parameter.Tree x) e g = absurd g
given-token is_port scope (form.Integer least most) text (parameter.Tree x) e g = absurd g
given-token is_port scope form.Array text (parameter.Tree x) e g = absurd g
given-token is_port scope form.FullArray text (parameter.Tree x) e g = absurd g
given-token is_port scope form.Offsets text (parameter.Tree x) e g = absurd g
given-token is_port scope form.Any text parameter.Word e g = absurd g
given-token is_port scope form.Truth text parameter.Word e g = absurd g
given-token is_port scope (form.Integer least most) text parameter.Word e g = absurd g
given-token is_port scope form.Array text parameter.Word e g = absurd g
given-token is_port scope form.FullArray text parameter.Word e g = absurd g
given-token is_port scope form.Offsets text parameter.Word e g = absurd g

given-tree : (is_port : List ℕ → Bool) (scope : Scope) (f : Form) (text : List ℕ) (v : ParameterValue) → f ≡ form.Tree → IsGiven is_port scope f text (held_view v) → (x : Expr) × (v ≡ parameter.Tree x)
given-tree is_port scope f text (parameter.Tree x) e g = (x, refl)
given-tree is_port scope f text (parameter.Token t) e g = absurd (false≢true (subst (λ h. IsGiven is_port scope h text (held_view (parameter.Token t))) e g).1)
given-tree is_port scope f text parameter.Word e g = absurd (subst (λ h. IsGiven is_port scope h text (held_view parameter.Word)) e g)

module _ (is_port : List ℕ → Bool) (scope : Scope) (form_named : List ℕ → Form) where
  -- where all are evaluated, each has a token
  all-tokens : (ps : List PropertyTree) (vs : List ParameterValue) → ((name : List ℕ) → is_evaluated (form_named name) ≡ true) → AllZip (IsParameterOf is_port scope form_named) ps (map held_view vs) → HoldsTokens ps vs
  all-tokens [] [] h z = record { counted = refl; held = tt }
  all-tokens [] (v ∷ vs) h z = absurd z
  all-tokens (p ∷ ps) [] h z = absurd z
  all-tokens (p ∷ ps) (v ∷ vs) h z =
      let rest = all-tokens ps vs h z.1 in
      record { counted = ap (λ n. suc n) rest.counted; held = (given-token is_port scope (form_named (property_name p)) (text_of p) v (h (property_name p)) z.0, rest.held) }

  -- where all are trees, none has
  no-tokens : (ps : List PropertyTree) (vs : List ParameterValue) → AllByRecursion (λ (p : PropertyTree). form_named (property_name p) ≡ form.Tree) ps → AllZip (IsParameterOf is_port scope form_named) ps (map held_view vs) → own_tokens ps vs ≡ []
  no-tokens [] vs h z = refl
  no-tokens (p ∷ ps) [] h z = absurd z
  no-tokens (p ∷ ps) (v ∷ vs) h z =
      let w = given-tree is_port scope (form_named (property_name p)) (text_of p) v h.0 z.0 in
      ap (λ u. own_tokens (p ∷ ps) (u ∷ vs)) w.1 ∙ no-tokens ps vs h.1 z.1

-- ---- of an entity of a net

-- what an actor of a net was given
pub record IsGivenAll (e : NetEntityTree) (vs : List ParameterValue) : Type 0 where
  pub scope : Scope
  pub given : AllZip (IsParameterOf (names_port (inputs_of e)) scope (form_of e.class)) e.parameters (map held_view vs)

pub given-all : (net : Net) (values : Values) (k : ℕ) (e : NetEntityTree) (held : EntityValues) → IsValued (net_view net) values → slice_get (map entity_view net.entities.items) k ≡ Some e → slice_get values.entities.items k ≡ Some held → is_composite_class e.class ≡ false → IsGivenAll e held.parameters.items
given-all net values k e held is at held-at actor =
    let z = zip-at (IsEntityValued (net_view net)) (net_view net).entities (map valued.entity_view values.entities.items) k e is.entities at in
    let same : z.0 ≡ valued.entity_view held = same_Some z.0 (valued.entity_view held) (sym z.1 ∙ viewed valued.entity_view values.entities.items k held held-at) in
    let own : AreOwn false e z.2.around z.0.parameters z.2.inner = subst (λ b. AreOwn b e z.2.around z.0.parameters z.2.inner) actor z.2.parameters in
    record { scope = bound z.2.around; given = subst (λ (v : EntityView). AllZip (IsParameterOf (names_port (inputs_of e)) (bound z.2.around) (form_of e.class)) e.parameters v.parameters) same own.1.each }

-- each parameter has a token
pub holds-tokens : (e : NetEntityTree) (vs : List ParameterValue) → ((name : List ℕ) → is_evaluated (form_of e.class name) ≡ true) → IsGivenAll e vs → HoldsTokens e.parameters vs
holds-tokens e vs h g = all-tokens (names_port (inputs_of e)) g.scope (form_of e.class) e.parameters vs h g.given

-- an Expression has no token, since what it is given is its tree
pub expression-alone : (e : NetEntityTree) (vs : List ParameterValue) → e.class ≡ codes "Expression" → AllByRecursion (λ (p : PropertyTree). property_name p ≡ codes "expression") e.parameters → IsGivenAll e vs → own_tokens e.parameters vs ≡ []
expression-alone e vs named all g = no-tokens (names_port (inputs_of e)) g.scope (form_of e.class) e.parameters vs (are-trees e.parameters all) g.given
  where
    are-trees : (ps : List PropertyTree) → AllByRecursion (λ (p : PropertyTree). property_name p ≡ codes "expression") ps → AllByRecursion (λ (p : PropertyTree). form_of e.class (property_name p) ≡ form.Tree) ps
    are-trees [] a = tt
    are-trees (p ∷ ps) a = (ap (form_of e.class) a.0 ∙ ap (λ c. form_of c (codes "expression")) named ∙ expression-tree, are-trees ps a.1)
