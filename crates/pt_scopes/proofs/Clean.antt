-- Where the texts of a net come to values, no cause to refuse stands.
use Rattle.std.proofs.Common.{◌≡◌, ◌⊎◌, inl, inr, ℕ, zero, suc, ◌<◌, List, [], ◌∷◌, length, map, Bool, true, false, Option, Some, None, refl, sym, ap, subst, ◌∙◌, arith}
use Rattle.std.specs.Prelude.{IsTrue}
use Rattle.std.specs.List.{Contains, AllZip}
use Rattle.std.proofs.lemmas.Bool.{false≢true}
use Rattle.pt_value.specs.Value.{Value}
use Rattle.pt_document.specs.declared.code.Code.{Code}
use Rattle.pt_document.specs.Document.{PropertyTree, PortTree, InputTree, property_name}
use Rattle.pt_net.specs.Net.{NetEntityTree, TransparentTree, DirectorTree}
use Rattle.pt_language.specs.Scope.{Scope}
use Rattle.pt_scopes.specs.declared.form.Form.TheVariants as form
use Rattle.pt_scopes.specs.declared.tables.TheConstants.{RATE}
use Rattle.pt_scopes.specs.Forms.{form_of}
use Rattle.pt_scopes.specs.Given.{Held, IsGiven, names_port}
use Rattle.pt_scopes.specs.Agreement.{agree, named}
use Rattle.pt_scopes.specs.declared.values.Values.{Values}
use Rattle.pt_scopes.specs.Scopes.{NetTree, Bindings, bound, text_of, is_composite_class, seen_parameters, Extends, Sees, IsSeenBy}
use Rattle.pt_scopes.specs.Sites.{inputs_of, rate_of, texts_of_supply, director_form, Site, HasSite, of_transparent, of_composite, of_actor, of_director, of_variable, of_port, of_input, IsFaultAt}
use Rattle.pt_scopes.specs.Valued.{EntityView, AreInTurn, AreOwn, AreOfDirector, IsVariable, IsRateIn, IsRate, IsEntityValued, IsTransparentValued, IsSupplied, IsInputValued, entity_view, transparent_values, inputs_view, IsValued, IsDisagreement, Stands, in_text, in_parameters}
use Rattle.pt_scopes.specs.Valued as disagreement
use Rattle.pt_scopes.specs.ClassParameters.{IsParameterOf, AreParametersOf, AreApart}
use Rattle.pt_scopes.proofs.SeenLaws.{own-extends}
use Rattle.pt_scopes.proofs.Unique.{fitting-sound, given-sound, one-given, one-extension, one-sight, turn-value}

pub zip-has : {A B : Type 0} (R : A → B → Type 0) (xs : List A) (ys : List B) (x : A) → AllZip R xs ys → Contains xs x → (y : B) × R x y
zip-has R [] ys x z w = absurd (omega (arith, w.1))
zip-has R (a ∷ xs) [] x z w = absurd z
zip-has R (a ∷ xs) (b ∷ ys) x z (zero, short, is) = (b, subst (λ u. R u b) is z.0)
zip-has R (a ∷ xs) (b ∷ ys) x z (suc k, short, is) = zip-has R xs ys x z.1 (k, omega arith, is)

pub zip-same : {A B : Type 0} (R : A → B → Type 0) (xs : List A) (ys zs : List B) → ((x : A) (y z : B) → R x y → R x z → y ≡ z) → AllZip R xs ys → AllZip R xs zs → ys ≡ zs
zip-same R [] [] [] same h k = refl
zip-same R [] (y ∷ ys) zs same h k = absurd h
zip-same R [] [] (z ∷ zs) same h k = absurd k
zip-same R (x ∷ xs) [] zs same h k = absurd h
zip-same R (x ∷ xs) (y ∷ ys) [] same h k = absurd k
zip-same R (x ∷ xs) (y ∷ ys) (z ∷ zs) same h k = λ j. same x y z h.0 k.0 j ∷ zip-same R xs ys zs same h.1 k.1 j

own-turn : (b : Bool) (e : NetEntityTree) (around inner : Bindings) (hs : List Held) → IsTrue b → AreOwn b e around hs inner → (vs : List Value) × AreInTurn around e.parameters vs inner
own-turn true e around inner hs t h = (h.0, h.2)
own-turn false e around inner hs t h = absurd (false≢true t)

own-class : (b : Bool) (e : NetEntityTree) (around inner : Bindings) (hs : List Held) → b ≡ false → AreOwn b e around hs inner → AreParametersOf (names_port (inputs_of e)) (bound around) None e.class e.parameters hs
own-class true e around inner hs is h = absurd (false≢true (sym is))
own-class false e around inner hs is h = h.1

-- parameters that agree aren't apart
not-apart : (is_port : List ℕ → Bool) (scope : Scope) (parent : Option ℕ) (class : List ℕ) (ps : List PropertyTree) (hs : List Held) → AreParametersOf is_port scope parent class ps hs → AreApart is_port scope parent class ps → ⊥
not-apart is_port scope parent class ps hs p a =
    let R : PropertyTree → Held → Type 0 = IsParameterOf is_port scope (director_form parent class) in
    let same : hs ≡ a.held = zip-same R ps hs a.held (λ q h k. one-given is_port scope (director_form parent class (property_name q)) (text_of q) h k) p.each a.each in
    false≢true (sym a.apart ∙ ap (λ (ks : List Held). agree class (named ps ks)) (sym same) ∙ p.agreed)

-- parameters that have what they are given aren't at fault
given-clean : (is_port : List ℕ → Bool) (scope : Scope) (parent : Option ℕ) (class : List ℕ) (ps : List PropertyTree) (hs : List Held) → AreParametersOf is_port scope parent class ps hs → (q : PropertyTree) → Contains ps q → (h : Held) × IsGiven is_port scope (director_form parent class (property_name q)) (text_of q) h
given-clean is_port scope parent class ps hs p q there = zip-has (IsParameterOf is_port scope (director_form parent class)) ps hs q p.each there

supply-value : (text : List ℕ) (o : Option Value) (cause : Code) → IsSupplied (Some text) o → IsFaultAt record { path = []; ports = []; seen = []; form = form.Any; text = text } cause → ⊥
supply-value text None cause h f = absurd h
supply-value text (Some v) cause h f = fitting-sound (bound []) form.Any text v cause h refl f

rate-value : (text : List ℕ) (o : Option Value) (cause : Code) → IsRateIn (Some text) o → IsFaultAt record { path = []; ports = []; seen = []; form = RATE; text = text } cause → ⊥
rate-value text None cause h f = absurd h
rate-value text (Some v) cause h f = fitting-sound (bound []) RATE text v cause h.0 h.1 f

module _ (net : NetTree) (values : Values) (valued : IsValued net values) where
  entity-has : (e : NetEntityTree) → Contains net.entities e → (v : EntityView) × IsEntityValued net e v
  entity-has e there = zip-has (IsEntityValued net) net.entities (map entity_view values.entities.items) e valued.entities there

  module _ (e : NetEntityTree) (v : EntityView) (x : IsEntityValued net e v) (around : Bindings) (sees : Sees net e.within e.parent around) where
    same-around : x.around ≡ around
    same-around = one-sight net e.within e.parent x.around around x.sees sees

    same-inner : (inner : Bindings) → Extends around (seen_parameters e) inner → x.inner ≡ inner
    same-inner inner behind =
        one-extension around (seen_parameters e) x.inner inner
        (subst (λ (r : Bindings). Extends r (seen_parameters e) x.inner) same-around (own-extends e x.around x.inner v.parameters x.parameters)) behind

    own-site : IsTrue (is_composite_class e.class) → (p : PropertyTree) (seen : Bindings) → IsSeenBy p seen around e.parameters → (cause : Code) → IsFaultAt record { path = e.path; ports = []; seen = seen; form = form.Any; text = text_of p } cause → ⊥
    own-site is p seen by cause f =
        let t = own-turn (is_composite_class e.class) e x.around x.inner v.parameters is x.parameters in
        let w = turn-value x.around e.parameters t.0 x.inner seen p t.1 (subst (λ (r : Bindings). IsSeenBy p seen r e.parameters) (sym same-around) by) in
        fitting-sound (bound seen) form.Any (text_of p) w.0 cause w.1 refl f

    actor-has : is_composite_class e.class ≡ false → AreParametersOf (names_port (inputs_of e)) (bound around) None e.class e.parameters v.parameters
    actor-has is =
        subst (λ (r : Bindings). AreParametersOf (names_port (inputs_of e)) (bound r) None e.class e.parameters v.parameters) same-around
        (own-class (is_composite_class e.class) e x.around x.inner v.parameters is x.parameters)

    director-has : (d : DirectorTree) (inner : Bindings) → e.director ≡ Some d → Extends around (seen_parameters e) inner → AreParametersOf (names_port []) (bound inner) e.parent d.class d.parameters v.director
    director-has d inner is behind =
        subst (λ (r : Bindings). AreParametersOf (names_port []) (bound r) e.parent d.class d.parameters v.director) (same-inner inner behind)
        (subst (λ (o : Option DirectorTree). AreOfDirector e.parent o (bound x.inner) v.director) is x.director)

    variable-has : (inner : Bindings) → Extends around (seen_parameters e) inner → AllZip (IsVariable (bound inner)) e.variables v.variables
    variable-has inner behind = subst (λ (r : Bindings). AllZip (IsVariable (bound r)) e.variables v.variables) (same-inner inner behind) x.variables

  clean-site : (s : Site) (cause : Code) → HasSite net s → IsFaultAt s cause → ⊥
  clean-site s cause (of_transparent c around seen p there sees by) f =
      let w = zip-has (IsTransparentValued net) net.transparent (transparent_values values.transparent.items) c valued.transparent there in
      let x : IsTransparentValued net c w.0 = w.1 in
      let same : x.around ≡ around = one-sight net c.within c.parent x.around around x.sees sees in
      let u = turn-value x.around c.parameters w.0 x.inner seen p x.parameters (subst (λ (r : Bindings). IsSeenBy p seen r c.parameters) (sym same) by) in
      fitting-sound (bound seen) form.Any (text_of p) u.0 cause u.1 refl f
  clean-site s cause (of_composite e around seen p there is sees by) f =
      let w = entity-has e there in
      own-site e w.0 w.1 around sees is p seen by cause f
  clean-site s cause (of_actor e around p there is sees in') f =
      let w = entity-has e there in
      let g = given-clean (names_port (inputs_of e)) (bound around) None e.class e.parameters w.0.parameters (actor-has e w.0 w.1 around sees is) p in' in
      given-sound (names_port (inputs_of e)) (bound around) (form_of e.class (property_name p)) (text_of p) g.0 cause g.1 f
  clean-site s cause (of_director e d around inner p there is sees behind in') f =
      let w = entity-has e there in
      let g = given-clean (names_port []) (bound inner) e.parent d.class d.parameters w.0.director (director-has e w.0 w.1 around sees d inner is behind) p in' in
      given-sound (names_port []) (bound inner) (director_form e.parent d.class (property_name p)) (text_of p) g.0 cause g.1 f
  clean-site s cause (of_variable e around inner p there sees behind in') f =
      let w = entity-has e there in
      let g = zip-has (IsVariable (bound inner)) e.variables w.0.variables p (variable-has e w.0 w.1 around sees inner behind) in' in
      fitting-sound (bound inner) form.Any (text_of p) g.0 cause g.1 refl f
  clean-site s cause (of_port e p text there in' declared) f =
      let w = entity-has e there in
      let x : IsEntityValued net e w.0 = w.1 in
      let g = zip-has IsRate e.ports w.0.rates p x.rates in' in
      rate-value text g.0 cause (subst (λ (o : Option (List ℕ)). IsRateIn o g.0) declared g.1) f
  clean-site s cause (of_input i text there in') f =
      let w = zip-has IsInputValued net.inputs (inputs_view values) i valued.inputs there in
      let g = zip-has IsSupplied (texts_of_supply i.supply) w.0 (Some text) w.1 in' in
      supply-value text g.0 cause g.1 f

  clean-agreement : (path : List ℕ) → IsDisagreement net path → ⊥
  clean-agreement path (disagreement.of_actor e around there is sees apart) =
      let w = entity-has e there in
      not-apart (names_port (inputs_of e)) (bound around) None e.class e.parameters w.0.parameters (actor-has e w.0 w.1 around sees is) apart
  clean-agreement path (disagreement.of_director e d around inner there is sees behind apart) =
      let w = entity-has e there in
      not-apart (names_port []) (bound inner) e.parent d.class d.parameters w.0.director (director-has e w.0 w.1 around sees d inner is behind) apart

  pub clean : (cause : Code) (path : List ℕ) → Stands net cause path → ⊥
  clean cause path (in_text s c has f) = clean-site s c has f
  clean cause path (in_parameters p d) = clean-agreement p d
