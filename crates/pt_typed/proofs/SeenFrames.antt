-- What the frames of the typing of a net have under a name is what is seen there among the parameters of composites, and none of these names is reserved.
use Rattle.std.proofs.Common.{◌≡◌, ℕ, zero, suc, List, [], ◌∷◌, map, Bool, true, false, Option, Some, None, refl, sym, ap, subst, ◌∙◌, slice_get, if◌then◌else◌}
use Rattle.std.specs.Prelude.{option_map, bytes_eq, Vec}
use Rattle.std.specs.Global.{Global}
use Rattle.std.specs.List.{AllByRecursion, AllZip}
use Rattle.std.proofs.lemmas.Option.{same_Some}
use Rattle.std.proofs.lemmas.Slice.Eq.{bytes_eq-Decides}
use Rattle.pt_value.specs.Value.{Value}
use Rattle.pt_value.specs.Token.{value_of}
use Rattle.pt_value.specs.declared.token.Token.{Token as HeldToken}
use Rattle.pt_language.specs.Types.{or_else}
use Rattle.pt_document.specs.Document.{PropertyTree, property_name}
use Rattle.pt_document.specs.View.{properties_view}
use Rattle.pt_document.specs.Names.{is_reserved}
use Rattle.pt_net.specs.declared.net.Net.{Net}
use Rattle.pt_net.specs.declared.net.NetEntity.{NetEntity}
use Rattle.pt_net.specs.declared.net.Transparent.{Transparent}
use Rattle.pt_net.specs.Net.{NetEntityTree, TransparentTree, entity_view, transparent_view}
use Rattle.pt_scopes.specs.Given.{Token, held_view}
use Rattle.pt_scopes.specs.declared.parameter_value.ParameterValue.{ParameterValue}
use Rattle.pt_scopes.specs.declared.values.EntityValues.{EntityValues}
use Rattle.pt_scopes.specs.declared.values.Values.{Values}
use Rattle.pt_scopes.specs.Scopes.{NetTree, net_view, Bindings, bound, is_composite_class, Extends, Sees, at_top, in_transparent, in_opaque}
use Rattle.pt_scopes.specs.Valued.{EntityView, AreInTurn, AreOwn, IsEntityValued, IsTransparentValued, transparent_values, IsValued}
use Rattle.pt_scopes.specs.Valued as valued
use Rattle.pt_scopes.proofs.SeenLaws.{turn-extends}
use Rattle.pt_scopes.proofs.Unique.{one-extension, one-sight}
use Rattle.pt_start.specs.Nested.{AreRound, IsNested}
use Rattle.pt_inequalities.specs.Frames.{Names, put, with_given, no_names, value_held, values_held, Frame, Frames, entity_frame, transparent_frame, entity_frames, transparent_frames, frames_of, innermost, seen_from, seen_within}
use Rattle.pt_typed.specs.OwnNames.{HaveClassParameters}

-- ---- lists

pub unviewed : {X Y : Type 0} (f : X → Y) (xs : List X) (n : ℕ) (y : Y) → slice_get (map f xs) n ≡ Some y → (x : X) × (slice_get xs n ≡ Some x) × (f x ≡ y)
unviewed f [] n y e = absurd (cc)
unviewed f (x ∷ xs) zero y e = (x, refl, same_Some (f x) y e)
unviewed f (x ∷ xs) (suc n) y e = unviewed f xs n y e

-- to each of one list belongs one of the other
pub zip-at : {X Y : Type 0} (R : X → Y → Type 0) (xs : List X) (ys : List Y) (n : ℕ) (x : X) → AllZip R xs ys → slice_get xs n ≡ Some x → (y : Y) × (slice_get ys n ≡ Some y) × R x y
zip-at R [] ys n x z e = absurd (cc)
zip-at R (w ∷ xs) [] n x z e = absurd z
zip-at R (w ∷ xs) (y ∷ ys) zero x z e = (y, refl, subst (λ v. R v y) (same_Some w x e) z.0)
zip-at R (w ∷ xs) (y ∷ ys) (suc n) x z e = zip-at R xs ys n x z.1 e

map-twice : {X Y Z : Type 0} (f : X → Y) (g : Y → Z) (xs : List X) → map g (map f xs) ≡ map (λ x. g (f x)) xs
map-twice f g [] = refl
map-twice f g (x ∷ xs) = ap (λ zs. g (f x) ∷ zs) (map-twice f g xs)

-- ---- the parameters of one composite

abbrev some : Value → Option Value
some v = Some v

-- what is bound in a composite is what its parameters have, before what is bound round it
abbrev Covers : Bindings → Names → Bindings → Type 0
Covers base names inner = (name : List ℕ) → bound inner name ≡ or_else (option_map some (names name)) (bound base name)

one-more : (base around : Bindings) (names : Names) (first : List ℕ) (v : Value) → Covers base names around → Covers base (put first v names) ((first, Some v) ∷ around)
one-more base around names first v h name = by_test (bytes_eq first name)
  where
    by_test : (b : Bool) → (if b then Some (Some v) else bound around name) ≡ or_else (option_map some (if b then Some v else names name)) (bound base name)
    by_test true = refl
    by_test false = h name

in-turn : (base around : Bindings) (names : Names) (ps : List PropertyTree) (vs : List Value) (inner : Bindings) → Covers base names around → AreInTurn around ps vs inner → Covers base (with_given names ps (map some vs)) inner
in-turn base around names [] [] inner h t = λ name. ap (λ bs. bound bs name) t ∙ h name
in-turn base around names [] (v ∷ vs) inner h t = absurd t
in-turn base around names (p ∷ ps) [] inner h t = absurd t
in-turn base around names (p ∷ ps) (v ∷ vs) inner h t = in-turn base ((property_name p, Some v) ∷ around) (put (property_name p) v names) ps vs inner (one-more base around names (property_name p) v h) t.1

-- a value is that of the nearest
found : (base inner : Bindings) (o : Option Value) (outer : Option Value) (name : List ℕ) (v : Value) → bound inner name ≡ or_else (option_map some o) (bound base name) → or_else o outer ≡ Some v → (outer ≡ Some v → bound base name ≡ Some (Some v)) → bound inner name ≡ Some (Some v)
found base inner (Some w) outer name v is e further = is ∙ ap Some e
found base inner None outer name v is e further = is ∙ further e

-- ---- frames

entity-frame-at : (es : List NetEntity) (vs : List EntityValues) (k : ℕ) (e : NetEntity) (v : EntityValues) → slice_get es k ≡ Some e → slice_get vs k ≡ Some v → slice_get (entity_frames es vs) k ≡ Some (entity_frame e (Some v))
entity-frame-at [] vs k e v at held = absurd (cc)
entity-frame-at (d ∷ es) [] k e v at held = absurd (cc)
entity-frame-at (d ∷ es) (w ∷ vs) zero e v at held = ap (λ x. Some (entity_frame x (Some w))) (same_Some d e at) ∙ ap (λ x. Some (entity_frame e (Some x))) (same_Some w v held)
entity-frame-at (d ∷ es) (w ∷ vs) (suc k) e v at held = entity-frame-at es vs k e v at held

transparent-frame-at : (cs : List Transparent) (vs : List (Vec HeldToken Global)) (t : ℕ) (c : Transparent) (v : Vec HeldToken Global) → slice_get cs t ≡ Some c → slice_get vs t ≡ Some v → slice_get (transparent_frames cs vs) t ≡ Some (transparent_frame c (Some v))
transparent-frame-at [] vs t c v at held = absurd (cc)
transparent-frame-at (d ∷ cs) [] t c v at held = absurd (cc)
transparent-frame-at (d ∷ cs) (w ∷ vs) zero c v at held = ap (λ x. Some (transparent_frame x (Some w))) (same_Some d c at) ∙ ap (λ x. Some (transparent_frame c (Some x))) (same_Some w v held)
transparent-frame-at (d ∷ cs) (w ∷ vs) (suc t) c v at held = transparent-frame-at cs vs t c v at held

-- the values that the program holds for tokens
held-values : (ps : List ParameterValue) (vs : List Value) → map held_view ps ≡ map Token vs → map values_held ps ≡ map some vs
held-values ps vs e = sym (map-twice held_view value_held ps) ∙ ap (map value_held) e ∙ map-twice Token value_held vs

-- ---- the whole net

module _ (net : Net) (values : Values) (is : IsValued (net_view net) values) (nested : IsNested (net_view net)) where
  abbrev frames : Frames
  frames = frames_of net values

  -- one step outward, where the frame of the innermost composite has what its parameters came to
  step : (m : ℕ) (within parent : Option ℕ) (f : Frame) (around inner : Bindings) (names : Names) (name : List ℕ) (v : Value) → innermost frames within parent ≡ Some f → f.values ≡ names → Covers around names inner → seen_within (suc m) frames within parent name ≡ Some v →
      (seen_within m frames f.within f.parent name ≡ Some v → bound around name ≡ Some (Some v)) → bound inner name ≡ Some (Some v)
  step m within parent f around inner names name v at has covers e further =
      let there : seen_from (seen_within m frames) (Some f) name ≡ Some v = ap (λ o. seen_from (seen_within m frames) o name) (sym at) ∙ e in
      found around inner (f.values name) (seen_within m frames f.within f.parent name) name v (covers name ∙ ap (λ (n : Names). or_else (option_map some (n name)) (bound around name)) (sym has)) there further

  pub seen-is-bound : (m : ℕ) (within parent : Option ℕ) (seen : Bindings) → Sees (net_view net) within parent seen → AreRound (net_view net) within parent → (name : List ℕ) (v : Value) → seen_within m frames within parent name ≡ Some v → bound seen name ≡ Some (Some v)
  seen-is-bound zero within parent seen sees round name v e = absurd (cc)
  seen-is-bound (suc m) within parent seen at_top round name v e = absurd (cc)
  seen-is-bound (suc m) within parent seen (in_transparent t c p around inner at sees extends) round name v e =
      let g = unviewed transparent_view net.transparent.items t c at in
      let z = zip-at (IsTransparentValued (net_view net)) (net_view net).transparent (transparent_values values.transparent.items) t c is.transparent at in
      let held = unviewed (λ (ts : Vec HeldToken Global). map value_of ts.items) values.transparent.items t z.0 z.1 in
      let w = z.2 in
      let same : w.around ≡ around = one-sight (net_view net) c.within c.parent w.around around w.sees sees in
      let turn : AreInTurn around c.parameters z.0 w.inner = subst (λ bs. AreInTurn bs c.parameters z.0 w.inner) same w.parameters in
      let whole : w.inner ≡ inner = one-extension around c.parameters w.inner inner (turn-extends around c.parameters z.0 w.inner turn) extends in
      let covers = in-turn around around no_names c.parameters z.0 inner (λ n. refl) (subst (λ bs. AreInTurn around c.parameters z.0 bs) whole turn) in
      let f = transparent_frame g.0 (Some held.0) in
      let has : f.values ≡ with_given no_names c.parameters (map some z.0) =
      ap (with_given no_names (properties_view g.0.parameters.items)) (sym (map-twice value_of some held.0.items) ∙ ap (map some) held.2) ∙ ap (λ (x : TransparentTree). with_given no_names x.parameters (map some z.0)) g.2 in
      step m (Some t) p f around inner (with_given no_names c.parameters (map some z.0)) name v (transparent-frame-at net.transparent.items values.transparent.items t g.0 held.0 g.1 held.1) has covers e
      (λ h. seen-is-bound m c.within c.parent around sees (nested.transparent t c at) name v (ap (λ (x : TransparentTree). seen_within m frames x.within x.parent name) (sym g.2) ∙ h))
  seen-is-bound (suc m) within parent seen (in_opaque k t around inner at sees extends) round name v e =
      let g = unviewed entity_view net.entities.items k t at in
      let z = zip-at (IsEntityValued (net_view net)) (net_view net).entities (map valued.entity_view values.entities.items) k t is.entities at in
      let held = unviewed valued.entity_view values.entities.items k z.0 z.1 in
      let w = z.2 in
      let composite : is_composite_class t.class ≡ true = round.opaque k t refl at in
      let own : AreOwn true t w.around z.0.parameters w.inner = subst (λ b. AreOwn b t w.around z.0.parameters w.inner) composite w.parameters in
      let ps = t.parameters in
      let same : w.around ≡ around = one-sight (net_view net) t.within t.parent w.around around w.sees sees in
      let turn : AreInTurn around ps own.0 w.inner = subst (λ bs. AreInTurn bs ps own.0 w.inner) same own.2 in
      let behind : Extends around ps inner = subst (λ b. Extends around (if b then ps else []) inner) composite extends in
      let whole : w.inner ≡ inner = one-extension around ps w.inner inner (turn-extends around ps own.0 w.inner turn) behind in
      let covers = in-turn around around no_names ps own.0 inner (λ n. refl) (subst (λ bs. AreInTurn around ps own.0 bs) whole turn) in
      let f = entity_frame g.0 (Some held.0) in
      let tokens : map held_view held.0.parameters.items ≡ map Token own.0 = ap (λ (x : EntityView). x.parameters) held.2 ∙ own.1 in
      let has : f.values ≡ with_given no_names ps (map some own.0) =
      ap (with_given no_names (properties_view g.0.parameters.items)) (held-values held.0.parameters.items own.0 tokens) ∙ ap (λ (x : NetEntityTree). with_given no_names x.parameters (map some own.0)) g.2 in
      step m None (Some k) f around inner (with_given no_names ps (map some own.0)) name v (entity-frame-at net.entities.items values.entities.items k g.0 held.0 g.1 held.1) has covers e
      (λ h. seen-is-bound m t.within t.parent around sees (nested.entities k t at) name v (ap (λ (x : NetEntityTree). seen_within m frames x.within x.parent name) (sym g.2) ∙ h))

-- ---- names

-- no name that is bound is reserved
abbrev pub AreFree : Bindings → Type 0
AreFree seen = (name : List ℕ) (o : Option Value) → bound seen name ≡ Some o → is_reserved name ≡ false

one-free : (first : List ℕ) (entry : Option Value) (around : Bindings) → is_reserved first ≡ false → AreFree around → AreFree ((first, entry) ∷ around)
one-free first entry around free h name o e = by_test (bytes_eq first name) refl e
  where
    by_test : (b : Bool) → bytes_eq first name ≡ b → (if b then Some entry else bound around name) ≡ Some o → is_reserved name ≡ false
    by_test true d g = ap is_reserved (sym ((bytes_eq-Decides first name).0 d)) ∙ free
    by_test false d g = h name o g

extended-free : (around : Bindings) (ps : List PropertyTree) (inner : Bindings) → AllByRecursion (λ p. is_reserved (property_name p) ≡ false) ps → AreFree around → Extends around ps inner → AreFree inner
extended-free around [] inner a h x = subst AreFree (sym x) h
extended-free around (p ∷ ps) inner a h x = extended-free ((property_name p, x.0) ∷ around) ps inner a.1 (one-free (property_name p) x.0 around a.0 h) x.2

pub seen-free : (net : NetTree) (within parent : Option ℕ) (seen : Bindings) → IsNested net → HaveClassParameters net → AreRound net within parent → Sees net within parent seen → AreFree seen
seen-free net within parent seen nested have round at_top = λ name o e. absurd (cc)
seen-free net within parent seen nested have round (in_transparent t c p around inner at sees extends) =
    extended-free around c.parameters inner (have.transparent t c at) (seen-free net c.within c.parent around nested have (nested.transparent t c at) sees) extends
seen-free net within parent seen nested have round (in_opaque k e around inner at sees extends) =
    let composite : is_composite_class e.class ≡ true = round.opaque k e refl at in
    extended-free around e.parameters inner (have.composites k e at composite) (seen-free net e.within e.parent around nested have (nested.entities k e at) sees) (subst (λ b. Extends around (if b then e.parameters else []) inner) composite extends)
