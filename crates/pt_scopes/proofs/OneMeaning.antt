-- The texts of a net come to one thing.
use Rattle.std.proofs.Common.{◌≡◌, ℕ, List, [], ◌∷◌, map, Bool, true, false, Option, Some, None, refl, sym, ap, subst, ◌∙◌}
use Rattle.std.specs.List.{AllZip}
use Rattle.pt_value.specs.Value.{Value}
use Rattle.pt_document.specs.Document.{PropertyTree, PortTree, InputTree, property_name}
use Rattle.pt_net.specs.Net.{NetEntityTree, TransparentTree, DirectorTree}
use Rattle.pt_language.specs.Scope.{Scope}
use Rattle.pt_scopes.specs.Given.{Held, Token, names_port}
use Rattle.pt_scopes.specs.declared.values.Values.{Values}
use Rattle.pt_scopes.specs.Scopes.{NetTree, Bindings, bound, text_of, is_composite_class, seen_parameters, Extends}
use Rattle.pt_scopes.specs.Sites.{inputs_of, rate_of, texts_of_supply, director_form}
use Rattle.pt_scopes.specs.Valued.{EntityView, AreInTurn, AreOwn, AreOfDirector, IsVariable, IsRateIn, IsRate, IsEntityValued, IsTransparentValued, IsSupplied, IsInputValued, entity_view, transparent_values, inputs_view, IsValued}
use Rattle.pt_scopes.specs.ClassParameters.{IsParameterOf, AreParametersOf}
use Rattle.pt_scopes.specs.Laws.{AreSame}
use Rattle.pt_scopes.proofs.SeenLaws.{own-extends}
use Rattle.pt_scopes.proofs.Unique.{one-value, one-given, one-extension, one-sight}
use Rattle.pt_scopes.proofs.Clean.{zip-same}

one-turn : (around : Bindings) (ps : List PropertyTree) (vs us : List Value) (a b : Bindings) → AreInTurn around ps vs a → AreInTurn around ps us b → vs ≡ us
one-turn around [] [] [] a b h k = refl
one-turn around [] (v ∷ vs) us a b h k = absurd h
one-turn around [] [] (u ∷ us) a b h k = absurd k
one-turn around (p ∷ ps) [] us a b h k = absurd h
one-turn around (p ∷ ps) (v ∷ vs) [] a b h k = absurd k
one-turn around (p ∷ ps) (v ∷ vs) (u ∷ us) a b h k =
    let first : v ≡ u = one-value (bound around) (text_of p) v u h.0 k.0 in
    λ j. first j ∷ one-turn ((property_name p, Some u) ∷ around) ps vs us a b (subst (λ (x : Value). AreInTurn ((property_name p, Some x) ∷ around) ps vs a) first h.1) k.1 j

one-class : (is_port : List ℕ → Bool) (scope : Scope) (parent : Option ℕ) (class : List ℕ) (ps : List PropertyTree) (hs ks : List Held) → AreParametersOf is_port scope parent class ps hs → AreParametersOf is_port scope parent class ps ks → hs ≡ ks
one-class is_port scope parent class ps hs ks p q =
    zip-same (IsParameterOf is_port scope (director_form parent class)) ps hs ks (λ r h k. one-given is_port scope (director_form parent class (property_name r)) (text_of r) h k) p.each q.each

one-own : (c : Bool) (e : NetEntityTree) (around a b : Bindings) (hs ks : List Held) → AreOwn c e around hs a → AreOwn c e around ks b → hs ≡ ks
one-own true e around a b hs ks h k = h.1 ∙ ap (map Token) (one-turn around e.parameters h.0 k.0 a b h.2 k.2) ∙ sym k.1
one-own false e around a b hs ks h k = one-class (names_port (inputs_of e)) (bound around) None e.class e.parameters hs ks h.1 k.1

one-director : (parent : Option ℕ) (d : Option DirectorTree) (scope : Scope) (hs ks : List Held) → AreOfDirector parent d scope hs → AreOfDirector parent d scope ks → hs ≡ ks
one-director parent None scope hs ks h k = h ∙ sym k
one-director parent (Some d) scope hs ks h k = one-class (names_port []) scope parent d.class d.parameters hs ks h k

one-rate : (t : Option (List ℕ)) (v u : Option Value) → IsRateIn t v → IsRateIn t u → v ≡ u
one-rate None None None h k = refl
one-rate None (Some v) u h k = absurd h
one-rate None None (Some u) h k = absurd k
one-rate (Some text) None u h k = absurd h
one-rate (Some text) (Some v) None h k = absurd k
one-rate (Some text) (Some v) (Some u) h k = ap Some (one-value (bound []) text v u h.0 k.0)

one-supply : (t : Option (List ℕ)) (v u : Option Value) → IsSupplied t v → IsSupplied t u → v ≡ u
one-supply None None None h k = refl
one-supply None (Some v) u h k = absurd h
one-supply None None (Some u) h k = absurd k
one-supply (Some text) None u h k = absurd h
one-supply (Some text) (Some v) None h k = absurd k
one-supply (Some text) (Some v) (Some u) h k = ap Some (one-value (bound []) text v u h k)

same-view : (v w : EntityView) → v.parameters ≡ w.parameters → v.director ≡ w.director → v.variables ≡ w.variables → v.rates ≡ w.rates → v ≡ w
same-view v w p d u r = λ j. record { parameters = p j; director = d j; variables = u j; rates = r j }

module _ (net : NetTree) where
  one-entity : (e : NetEntityTree) (v w : EntityView) → IsEntityValued net e v → IsEntityValued net e w → v ≡ w
  one-entity e v w x y =
      let around : x.around ≡ y.around = one-sight net e.within e.parent x.around y.around x.sees y.sees in
      let own : AreOwn (is_composite_class e.class) e y.around v.parameters x.inner = subst (λ (r : Bindings). AreOwn (is_composite_class e.class) e r v.parameters x.inner) around x.parameters in
      let inner : x.inner ≡ y.inner =
      one-extension y.around (seen_parameters e) x.inner y.inner (own-extends e y.around x.inner v.parameters own) (own-extends e y.around y.inner w.parameters y.parameters) in
      same-view v w
      (one-own (is_composite_class e.class) e y.around x.inner y.inner v.parameters w.parameters own y.parameters)
      (one-director e.parent e.director (bound y.inner) v.director w.director (subst (λ (r : Bindings). AreOfDirector e.parent e.director (bound r) v.director) inner x.director) y.director)
      (zip-same (IsVariable (bound y.inner)) e.variables v.variables w.variables (λ q h k. one-value (bound y.inner) (text_of q) h k) (subst (λ (r : Bindings). AllZip (IsVariable (bound r)) e.variables v.variables) inner x.variables) y.variables)
      (zip-same IsRate e.ports v.rates w.rates (λ p h k. one-rate (rate_of p) h k) x.rates y.rates)

  one-composite : (c : TransparentTree) (vs us : List Value) → IsTransparentValued net c vs → IsTransparentValued net c us → vs ≡ us
  one-composite c vs us x y =
      let around : x.around ≡ y.around = one-sight net c.within c.parent x.around y.around x.sees y.sees in
      one-turn y.around c.parameters vs us x.inner y.inner (subst (λ (r : Bindings). AreInTurn r c.parameters vs x.inner) around x.parameters) y.parameters

  one-input : (i : InputTree) (vs us : List (Option Value)) → IsInputValued i vs → IsInputValued i us → vs ≡ us
  one-input i vs us h k = zip-same IsSupplied (texts_of_supply i.supply) vs us one-supply h k

  pub one-meaning : (v w : Values) → IsValued net v → IsValued net w → AreSame v w
  one-meaning v w x y = record {
    entities = zip-same (IsEntityValued net) net.entities (map entity_view v.entities.items) (map entity_view w.entities.items) one-entity x.entities y.entities;
    transparent = zip-same (IsTransparentValued net) net.transparent (transparent_values v.transparent.items) (transparent_values w.transparent.items) one-composite x.transparent y.transparent;
    inputs = zip-same IsInputValued net.inputs (inputs_view v) (inputs_view w) one-input x.inputs y.inputs;
  }
