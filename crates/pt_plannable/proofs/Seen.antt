-- The tokens that an actor of a net is started from have only short arrays: its own parameters, and those that it sees round it.
use Rattle.std.proofs.Common.{◌≡◌, ℕ, List, [], ◌∷◌, map, Bool, true, false, Option, Some, None, sym, subst, ◌∙◌, if◌then◌else◌}
use Rattle.std.specs.Prelude.{bytes_eq}
use Rattle.std.specs.List.{AllByRecursion, AllZip, filter_map, cons_option}
use Rattle.std.proofs.lemmas.Option.{none-some, same_Some}
use Rattle.pt_value.specs.Value.{Value}
use Rattle.pt_value.specs.Token.{value_of, value_of-token_of}
use Rattle.pt_value.specs.declared.token.Token.{Token}
use Rattle.pt_document.specs.Document.{PropertyTree, property_name}
use Rattle.pt_firing.specs.Params.{value_under}
use Rattle.pt_language.specs.Tree.{Tree}
use Rattle.pt_net.specs.declared.net.Net.{Net}
use Rattle.pt_scopes.specs.declared.form.Form.{Form}
use Rattle.pt_scopes.specs.declared.parameter_value.ParameterValue.{ParameterValue}
use Rattle.pt_scopes.specs.declared.parameter_value.ParameterValue.TheVariants as parameter
use Rattle.pt_scopes.specs.declared.values.Values.{Values}
use Rattle.pt_scopes.specs.ClassParameters.{IsParameterOf}
use Rattle.pt_scopes.specs.Given.{held_view, names_port}
use Rattle.pt_scopes.specs.Scopes.{NetTree, Bindings, bound, net_view, text_of, ComesTo, Extends, is_composite_class, Sees, at_top, in_transparent, in_opaque, seen_parameters}
use Rattle.pt_scopes.specs.Sites.{inputs_of, director_form}
use Rattle.pt_scopes.specs.Texts.{HasValue, names_in}
use Rattle.pt_scopes.specs.Valued.{EntityView, AreOwn, IsEntityValued, IsValued}
use Rattle.pt_scopes.specs.Valued as valued
use Rattle.pt_start.specs.Started.{own_tokens, given_tree, token_under, seen_token, seen_tokens, PortTyping, IsStartedFrom}
use Rattle.pt_flow_base.specs.declared.params.Params.{Params}
use Rattle.pt_order.proofs.Blocks.{all-append}
use Rattle.pt_typed.proofs.RowsMet.{viewed}
use Rattle.pt_typed.proofs.SeenFrames.{zip-at}
use Rattle.pt_plannable.proofs.Values.{IsShort, IsShortHeld, IsShortEntry, given-short}

-- ---- names

-- each value that is bound is short
abbrev pub AreShortBound : Bindings → Type 0
AreShortBound bs = AllByRecursion (λ (b : List ℕ × Option Value). IsShortHeld b.1) bs

pub bound-short : (bs : Bindings) → AreShortBound bs → (name : List ℕ) → IsShortEntry (bound bs name)
bound-short [] a name = tt
bound-short (b ∷ bs) a name = by_test (bytes_eq b.0 name) (bound-short bs a.1 name)
  where
    by_test : (c : Bool) → IsShortEntry (bound bs name) → IsShortEntry (if c then Some b.1 else bound bs name)
    by_test true h = a.0
    by_test false h = h

value-of-text : (bs : Bindings) (text : List ℕ) (v : Value) → AreShortBound bs → HasValue (bound bs) text v → IsShort v
value-of-text bs text v a h = given-short (bound bs) (bound-short bs a) h.read v h.gives

comes-short : (bs : Bindings) (text : List ℕ) (o : Option Value) → AreShortBound bs → ComesTo (bound bs) text o → IsShortHeld o
comes-short bs text None a h = tt
comes-short bs text (Some v) a h = value-of-text bs text v a h

extends-short : (around : Bindings) (ps : List PropertyTree) (inner : Bindings) → AreShortBound around → Extends around ps inner → AreShortBound inner
extends-short around [] inner a e = subst AreShortBound (sym e) a
extends-short around (p ∷ ps) inner a e = extends-short ((property_name p, e.0) ∷ around) ps inner (comes-short around (text_of p) e.0 a e.1, a) e.2

-- what is seen in composites is short
pub sees-short : {net : NetTree} {within parent : Option ℕ} {inner : Bindings} → Sees net within parent inner → AreShortBound inner
sees-short at_top = tt
sees-short (in_transparent t c parent around inner at sees extends) = extends-short around c.parameters inner (sees-short sees) extends
sees-short (in_opaque k e around inner at sees extends) = extends-short around (seen_parameters e) inner (sees-short sees) extends

-- ---- tokens

abbrev pub IsShortToken : List ℕ × Token → Type 0
IsShortToken t = IsShort (value_of t.1)

own-short : (is_port : List ℕ → Bool) (bs : Bindings) (form_named : List ℕ → Form) (ps : List PropertyTree) (vs : List ParameterValue) → AreShortBound bs → AllZip (IsParameterOf is_port (bound bs) form_named) ps (map held_view vs) → AllByRecursion IsShortToken (own_tokens ps vs)
own-short is_port bs form_named [] vs a z = tt
own-short is_port bs form_named (p ∷ ps) [] a z = tt
own-short is_port bs form_named (p ∷ ps) (parameter.Token t ∷ vs) a z = (value-of-text bs (text_of p) (value_of t) a z.0.0, own-short is_port bs form_named ps vs a z.1)
own-short is_port bs form_named (p ∷ ps) (parameter.Tree e ∷ vs) a z = own-short is_port bs form_named ps vs a z.1
own-short is_port bs form_named (p ∷ ps) (parameter.Word ∷ vs) a z = (tt, own-short is_port bs form_named ps vs a z.1)

named-short : (seen : Bindings) (names : List (List ℕ)) → AreShortBound seen → AllByRecursion IsShortToken (filter_map (seen_token seen) names)
named-short seen [] a = tt
named-short seen (name ∷ names) a = by_entry (bound seen name) (bound-short seen a name) (named-short seen names a)
  where
    by_entry : (o : Option (Option Value)) → IsShortEntry o → AllByRecursion IsShortToken (filter_map (seen_token seen) names) → AllByRecursion IsShortToken (cons_option (token_under name o) (filter_map (seen_token seen) names))
    by_entry (Some (Some v)) h more = (subst IsShort (sym (value_of-token_of v)) h, more)
    by_entry (Some None) h more = more
    by_entry None h more = more

seen-short : (seen : Bindings) (t : Option Tree) → AreShortBound seen → AllByRecursion IsShortToken (seen_tokens seen t)
seen-short seen None a = tt
seen-short seen (Some t) a = named-short seen (names_in t) a

-- so it is with the token under a name
pub under-short : (name : List ℕ) (ts : List (List ℕ × Token)) (t : Token) → AllByRecursion IsShortToken ts → value_under name ts ≡ Some t → IsShort (value_of t)
unfolding value_under
under-short name [] t a e = absurd (none-some t e)
under-short name (x ∷ ts) t a e = by_test (bytes_eq x.0 name) e (under-short name ts t a.1)
  where
    by_test : (b : Bool) → (if b then Some x.1 else value_under name ts) ≡ Some t → (value_under name ts ≡ Some t → IsShort (value_of t)) → IsShort (value_of t)
    by_test true h more = subst (λ (u : Token). IsShort (value_of u)) (same_Some x.1 t h) a.0
    by_test false h more = more h

-- ---- an actor of a net

-- what an actor is given, and what it sees
pub tokens-short : (net : Net) (values : Values) (typing : PortTyping) (k : ℕ) (params : Params) → IsValued (net_view net) values → (from : IsStartedFrom net values typing k params) → is_composite_class from.entity.class ≡ false → AllByRecursion IsShortToken params.values
tokens-short net values typing k params is from actor =
    let e = from.entity in
    let vs = from.held.parameters.items in
    let z = zip-at (IsEntityValued (net_view net)) (net_view net).entities (map valued.entity_view values.entities.items) k e is.entities from.at in
    let same : z.0 ≡ valued.entity_view from.held = same_Some z.0 (valued.entity_view from.held) (sym z.1 ∙ viewed valued.entity_view values.entities.items k from.held from.held_at) in
    let own : AreOwn false e z.2.around z.0.parameters z.2.inner = subst (λ b. AreOwn b e z.2.around z.0.parameters z.2.inner) actor z.2.parameters in
    let given : AllZip (IsParameterOf (names_port (inputs_of e)) (bound z.2.around) (director_form None e.class)) e.parameters (map held_view vs) = subst (λ (v : EntityView). AllZip (IsParameterOf (names_port (inputs_of e)) (bound z.2.around) (director_form None e.class)) e.parameters v.parameters) same own.1.each in
    subst (AllByRecursion IsShortToken) (sym from.from.values_are)
    (all-append IsShortToken (own_tokens e.parameters vs) (seen_tokens from.seen (given_tree vs)) (own-short (names_port (inputs_of e)) z.2.around (director_form None e.class) e.parameters vs (sees-short z.2.sees) given) (seen-short from.seen (given_tree vs) (sees-short from.sees)))
