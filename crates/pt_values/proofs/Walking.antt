-- A walk through a net, step by step.
use Rattle.std.proofs.Common.{◌≡◌, ◌≢◌, ◌⊎◌, inl, inr, ℕ, zero, suc, ◌+◌, ◌<◌, ◌≤◌, ◌++◌, List, [], ◌∷◌, length, get_or, map, take, Option, Some, None, refl, sym, ap, subst, ◌∙◌, arith}
use Rattle.std.specs.Prelude.{option_map, Vec}
use Rattle.std.specs.Global.{Global}
use Rattle.std.specs.List.{All, AllZip, Contains, slice_get}
use Rattle.std.proofs.lemmas.List.{length-append, take_all}
use Rattle.std.proofs.lemmas.List.Elements.{length_all_zip}
use Rattle.std.proofs.lemmas.Option.{none-some, same_Some, slice_get_within, slice_get-map, slice_get_read}
use Rattle.std.proofs.lemmas.Bool.{cases_lt}
use Rattle.pt_value.specs.declared.token.Token.{Token as HeldToken}
use Rattle.pt_value.specs.Value.{Value}
use Rattle.pt_value.specs.Token.{value_of}
use Rattle.pt_document.specs.declared.refusal.DocFault.{DocFault}
use Rattle.pt_document.specs.declared.job.Input.{Input}
use Rattle.pt_document.specs.Document.{InputTree}
use Rattle.pt_document.specs.View.{input_view, supply_view}
use Rattle.pt_net.specs.Net.{NetEntityTree, TransparentTree}
use Rattle.pt_net.specs.Table.{shown}
use Rattle.pt_scopes.specs.Sites.{texts_of_supply}
use Rattle.pt_scopes.specs.declared.names.Names.{Names}
use Rattle.pt_scopes.specs.declared.scopes.Scopes.{Scopes}
use Rattle.pt_scopes.specs.declared.values.EntityValues.{EntityValues}
use Rattle.pt_values.specs.declared.walk.Walk.{Walk}
use Rattle.pt_scopes.specs.Scopes.{NetTree, Bindings, bound, is_composite_class, seen_parameters, Extends, Sees, in_transparent, in_opaque}
use Rattle.pt_scopes.specs.Order.{IsBehind, IsOrdered}
use Rattle.pt_scopes.specs.Frames.{chain_at, Means, IsSeenIn, AreScopes}
use Rattle.pt_scopes.specs.Valued.{EntityView, entity_view, transparent_values, IsEntityValued, IsTransparentValued, IsFaultOf}
use Rattle.pt_scopes.specs.Told.{IsTurn, IsEntityIn, IsFaultWhere, IsFaultInTurn, IsToldAt, IsSupplyFault}
use Rattle.pt_scopes.specs.declared.scopes.Inside.{Inside}
use Rattle.pt_values.specs.Walk.{IsWalk, IsHeldUp, IsInside, IsFaultFrom, IsTransparentInside, IsTransparentFault}
use Rattle.pt_scopes.proofs.SeenLaws.{turn-extends, own-extends, seen-inside, more-opaque, more-transparent}
use Rattle.pt_scopes.proofs.Standing.{get-contains, told-stands, turn-stands, input-stands}

zip-next : {A B C : Type 0} (R : A → B → Type 0) (f : C → B) (xs : List A) (ys : List C) (x : A) (y : C) → AllZip R (take (length ys) xs) (map f ys) → slice_get xs (length ys) ≡ Some x → R x (f y) → AllZip R (take (length (ys ++ y ∷ [])) xs) (map f (ys ++ y ∷ []))
zip-next R f [] ys x y h at r = absurd (none-some x at)
zip-next R f (z ∷ xs) [] x y h at r = (subst (λ a. R a (f y)) (sym (same_Some z x at)) r, tt)
zip-next R f (z ∷ xs) (w ∷ ys) x y h at r = (h.0, zip-next R f xs ys x y h.1 at r)

-- ---- an entity more

module _ (net : NetTree) (w : Walk) (walk : IsWalk net w) (e : NetEntityTree) (at : slice_get net.entities (length w.entities.items) ≡ Some e) where
  pub entity-fault : (told : DocFault) → IsFaultFrom w.scopes e told → IsFaultOf net told
  entity-fault told h =
      let i : IsSeenIn net w.scopes.frames.items e.within e.parent h.chain = walk.scopes e.within e.parent h.chain h.seen in
      h.fault net i.bindings (get-contains net.entities (length w.entities.items) e at) i.sees i.means

  pub entity-more : (w' : Walk) (x : Inside) (v : EntityValues) → IsInside w.scopes e x (entity_view v) → w'.scopes.frames.items ≡ w.scopes.frames.items ++ x.own ∷ [] → w'.scopes.opaque.items ≡ w.scopes.opaque.items ++ x.chain ∷ [] → w'.scopes.transparent.items ≡ w.scopes.transparent.items → w'.entities.items ≡ w.entities.items ++ v ∷ [] → w'.transparent.items ≡ w.transparent.items → IsWalk net w'
  entity-more w' x v found frames opaque transparent entities others =
      let chain : List ℕ = found.chain in
      let own : Names = x.own in
      let inside : Vec ℕ Global = x.chain in
      let is : inside.items ≡ length w.scopes.frames.items ∷ chain = found.chained in
      let valued : (around : Bindings) → Means w.scopes.frames.items chain around → IsEntityIn around w.scopes.frames.items chain e own (entity_view v) = found.values in
      let i : IsSeenIn net w.scopes.frames.items e.within e.parent chain = walk.scopes e.within e.parent chain found.seen in
      let h : IsEntityIn i.bindings w.scopes.frames.items chain e own (entity_view v) = valued i.bindings i.means in
      let behind : Extends i.bindings (seen_parameters e) h.inner = own-extends e i.bindings h.inner (entity_view v).parameters h.parameters in
      let k = length w.entities.items in
      let sees : Sees net None (Some k) h.inner = in_opaque k e i.bindings h.inner at i.sees behind in
      let here : IsSeenIn net (w.scopes.frames.items ++ own ∷ []) None (Some k) (length w.scopes.frames.items ∷ chain) = seen-inside net w.scopes.frames.items own None (Some k) chain h.inner i.inside h.means sees in
      let here' : IsSeenIn net (w.scopes.frames.items ++ own ∷ []) None (Some (length w.scopes.opaque.items)) inside.items =
      subst (λ (n : ℕ). IsSeenIn net (w.scopes.frames.items ++ own ∷ []) None (Some n) inside.items) (sym walk.opaque_count)
      (subst (λ (c : List ℕ). IsSeenIn net (w.scopes.frames.items ++ own ∷ []) None (Some k) c) (sym is) here) in
      let value : IsEntityValued net e (entity_view v) = record { around = i.bindings; sees = i.sees; inner = h.inner; parameters = h.parameters; director = h.rest.director; variables = h.rest.variables; rates = h.rest.rates } in
      record {
        scopes = more-opaque net w.scopes w'.scopes own inside frames walk.scopes opaque transparent here';
        opaque_count = ap (λ (cs : List (Vec ℕ Global)). length cs) opaque ∙ length-append w.scopes.opaque.items (inside ∷ []) ∙ ap (λ n. n + 1) walk.opaque_count ∙ sym (length-append w.entities.items (v ∷ [])) ∙ ap (λ (vs : List EntityValues). length vs) (sym entities);
        transparent_count = ap (λ (cs : List (Vec ℕ Global)). length cs) transparent ∙ walk.transparent_count ∙ ap (λ (ts : List (Vec HeldToken Global)). length ts) (sym others);
        entities = subst (λ (vs : List EntityValues). AllZip (IsEntityValued net) (take (length vs) net.entities) (map entity_view vs)) (sym entities) (zip-next (IsEntityValued net) entity_view net.entities w.entities.items e v walk.entities at value);
        transparent = subst (λ (ts : List (Vec HeldToken Global)). AllZip (IsTransparentValued net) (take (length ts) net.transparent) (transparent_values ts)) (sym others) walk.transparent;
      }

-- ---- a transparent composite more

module _ (net : NetTree) (w : Walk) (walk : IsWalk net w) (c : TransparentTree) (at : slice_get net.transparent (length w.transparent.items) ≡ Some c) where
  pub transparent-fault : (told : DocFault) → IsTransparentFault w.scopes c told → IsFaultOf net told
  transparent-fault told h =
      let i : IsSeenIn net w.scopes.frames.items c.within c.parent h.chain = walk.scopes c.within c.parent h.chain h.seen in
      told-stands net c.path (IsFaultInTurn i.bindings c.parameters) (turn-stands net c i.bindings (get-contains net.transparent (length w.transparent.items) c at) i.sees) told (h.fault i.bindings i.means)

  pub transparent-more : (w' : Walk) (x : Inside) (ts : Vec HeldToken Global) → IsTransparentInside w.scopes c x (map value_of ts.items) → w'.scopes.frames.items ≡ w.scopes.frames.items ++ x.own ∷ [] → w'.scopes.opaque.items ≡ w.scopes.opaque.items → w'.scopes.transparent.items ≡ w.scopes.transparent.items ++ x.chain ∷ [] → w'.entities.items ≡ w.entities.items → w'.transparent.items ≡ w.transparent.items ++ ts ∷ [] → IsWalk net w'
  transparent-more w' x ts found frames opaque transparent entities others =
      let chain : List ℕ = found.chain in
      let own : Names = x.own in
      let inside : Vec ℕ Global = x.chain in
      let is : inside.items ≡ length w.scopes.frames.items ∷ chain = found.chained in
      let valued : (around : Bindings) → Means w.scopes.frames.items chain around → IsTurn around c.parameters w.scopes.frames.items chain own (map value_of ts.items) = found.values in
      let i : IsSeenIn net w.scopes.frames.items c.within c.parent chain = walk.scopes c.within c.parent chain found.seen in
      let h : IsTurn i.bindings c.parameters w.scopes.frames.items chain own (map value_of ts.items) = valued i.bindings i.means in
      let behind : Extends i.bindings c.parameters h.inner = turn-extends i.bindings c.parameters (map value_of ts.items) h.inner h.in_turn in
      let t = length w.transparent.items in
      let here : (parent : Option ℕ) → IsSeenIn net (w.scopes.frames.items ++ own ∷ []) (Some t) parent (length w.scopes.frames.items ∷ chain) =
      λ parent. seen-inside net w.scopes.frames.items own (Some t) parent chain h.inner i.inside h.means (in_transparent t c parent i.bindings h.inner at i.sees behind) in
      let here' : (parent : Option ℕ) → IsSeenIn net (w.scopes.frames.items ++ own ∷ []) (Some (length w.scopes.transparent.items)) parent inside.items =
      λ parent. subst (λ (n : ℕ). IsSeenIn net (w.scopes.frames.items ++ own ∷ []) (Some n) parent inside.items) (sym walk.transparent_count)
      (subst (λ (d : List ℕ). IsSeenIn net (w.scopes.frames.items ++ own ∷ []) (Some t) parent d) (sym is) (here parent)) in
      let value : IsTransparentValued net c (map value_of ts.items) = record { around = i.bindings; sees = i.sees; inner = h.inner; parameters = h.in_turn } in
      record {
        scopes = more-transparent net w.scopes w'.scopes own inside frames walk.scopes opaque transparent here';
        opaque_count = ap (λ (cs : List (Vec ℕ Global)). length cs) opaque ∙ walk.opaque_count ∙ ap (λ (vs : List EntityValues). length vs) (sym entities);
        transparent_count = ap (λ (cs : List (Vec ℕ Global)). length cs) transparent ∙ length-append w.scopes.transparent.items (inside ∷ []) ∙ ap (λ n. n + 1) walk.transparent_count ∙ sym (length-append w.transparent.items (ts ∷ [])) ∙ ap (λ (us : List (Vec HeldToken Global)). length us) (sym others);
        entities = subst (λ (vs : List EntityValues). AllZip (IsEntityValued net) (take (length vs) net.entities) (map entity_view vs)) (sym entities) walk.entities;
        transparent = subst (λ (us : List (Vec HeldToken Global)). AllZip (IsTransparentValued net) (take (length us) net.transparent) (transparent_values us)) (sym others) (zip-next (IsTransparentValued net) (λ (us : Vec HeldToken Global). map value_of us.items) net.transparent w.transparent.items c ts walk.transparent at value);
      }

-- ---- the walk comes to its end

get-some : {X : Type 0} (xs : List X) (k : ℕ) → k < length xs → slice_get xs k ≢ None
get-some [] k h e = absurd (omega arith)
get-some (x ∷ xs) zero h e = none-some x (sym e)
get-some (x ∷ xs) (suc k) h e = get-some xs k (omega arith) e

-- a chain of a composite that is gone through
is-chain : (chains : List (Vec ℕ Global)) (k : ℕ) → k < length chains → option_map (λ chain. chain.items) (slice_get chains k) ≢ None
is-chain [] k h e = absurd (omega arith)
is-chain (v ∷ vs) zero h e = none-some v.items (sym e)
is-chain (v ∷ vs) (suc k) h e = is-chain vs k (omega arith) e

module _ (net : NetTree) (w : Walk) (walk : IsWalk net w) (order : IsOrdered net) where
  -- what comes after nothing but what is gone through is seen from a chain
  behind-seen : (within parent : Option ℕ) (place : ℕ) → IsBehind net order.entity_at order.transparent_at within parent place → ((t : ℕ) → t < length net.transparent → order.transparent_at t < place → t < length w.transparent.items) → ((k : ℕ) → k < length net.entities → order.entity_at k < place → k < length w.entities.items) → chain_at w.scopes within parent ≢ None
  behind-seen (Some t) parent place h before-t before-k e =
      is-chain w.scopes.transparent.items t (subst (λ n. t < n) (sym walk.transparent_count) (before-t t h.0 h.1)) e
  behind-seen None (Some k) place h before-t before-k e =
      is-chain w.scopes.opaque.items k (subst (λ n. k < n) (sym walk.opaque_count) (before-k k h.0 h.1)) e
  behind-seen None None place h before-t before-k e = none-some [] (sym e)

  rising : (at : ℕ → ℕ) → ((i j : ℕ) → i < j → at i < at j) → (k i : ℕ) → at k < at i → k < i
  rising at rise k i h = elim (cases_lt k i) [ inl l ↦ l | inr ge ↦ absurd (again ge (cases_lt i k)) ]
    where
      again : i ≤ k → (i < k) ⊎ (k ≤ i) → ⊥
      again ge (inl l) = let r = rise i k l in omega (arith, r, h)
      again ge (inr m) = let same : i ≡ k = omega (arith, ge, m) in let r = ap at same in omega (arith, r, h)

  -- the next entity is held up, so it isn't before the next transparent composite
  pub entity-late : IsHeldUp net w → (place : ℕ) → ((t : ℕ) → t < length net.transparent → order.transparent_at t < place → t < length w.transparent.items) → length w.entities.items < length net.entities → order.entity_at (length w.entities.items) ≤ place → ⊥
  entity-late held place before short h = found (slice_get net.entities (length w.entities.items)) refl
    where
      found : (o : Option NetEntityTree) → slice_get net.entities (length w.entities.items) ≡ o → ⊥
      found None is = get-some net.entities (length w.entities.items) short is
      found (Some e) is =
          let i = length w.entities.items in
          behind-seen e.within e.parent (order.entity_at i) (order.entities i e is)
          (λ t l m. before t l (omega (arith, m, h)))
          (λ k l m. rising order.entity_at order.entities_rise k i m)
          (held e is)

  pub composite-seen : IsHeldUp net w → (c : TransparentTree) → slice_get net.transparent (length w.transparent.items) ≡ Some c → chain_at w.scopes c.within c.parent ≢ None
  composite-seen held c at =
      let j = length w.transparent.items in
      let place = order.transparent_at j in
      let before-t : (t : ℕ) → t < length net.transparent → order.transparent_at t < place → t < j = λ t l m. rising order.transparent_at order.transparent_rise t j m in
      behind-seen c.within c.parent place (order.transparent j c at) before-t
      (λ k l m. elim (cases_lt k (length w.entities.items)) [ inl s ↦ s | inr ge ↦ absurd (late before-t k l m ge) ])
    where
      late : ((t : ℕ) → t < length net.transparent → order.transparent_at t < order.transparent_at (length w.transparent.items) → t < length w.transparent.items) → (k : ℕ) → k < length net.entities → order.entity_at k < order.transparent_at (length w.transparent.items) → length w.entities.items ≤ k → ⊥
      late before-t k l m ge =
          entity-late held (order.transparent_at (length w.transparent.items)) before-t (omega (arith, l, ge))
          (elim (cases_lt (length w.entities.items) k) [ inl s ↦ (let r = order.entities_rise (length w.entities.items) k s in omega (arith, r, m)) | inr s ↦ (let r = ap order.entity_at (let same : length w.entities.items ≡ k = omega (arith, s, ge) in same) in omega (arith, r, m)) ])

  pub all-entities : IsHeldUp net w → length net.transparent ≤ length w.transparent.items → length net.entities ≤ length w.entities.items
  all-entities held whole = elim (cases_lt (length w.entities.items) (length net.entities)) [ inl l ↦ absurd (entity-late held (order.entity_at (length w.entities.items)) (λ t s m. omega (arith, s, whole)) l (omega arith)) | inr ge ↦ ge ]

zip-whole : {A B C : Type 0} (R : A → B → Type 0) (f : C → B) (xs : List A) (ys : List C) → length xs ≤ length ys → AllZip R (take (length ys) xs) (map f ys) → AllZip R xs (map f ys)
zip-whole R f xs ys h z = subst (λ us. AllZip R us (map f ys)) (take_all (length ys) xs h) z

pub entities-whole : (net : NetTree) (w : Walk) → IsWalk net w → length net.entities ≤ length w.entities.items → AllZip (IsEntityValued net) net.entities (map entity_view w.entities.items)
entities-whole net w walk h = zip-whole (IsEntityValued net) entity_view net.entities w.entities.items h walk.entities

pub transparent-whole : (net : NetTree) (w : Walk) → IsWalk net w → length net.transparent ≤ length w.transparent.items → AllZip (IsTransparentValued net) net.transparent (transparent_values w.transparent.items)
transparent-whole net w walk h = zip-whole (IsTransparentValued net) (λ (us : Vec HeldToken Global). map value_of us.items) net.transparent w.transparent.items h walk.transparent

-- at first nothing is gone through
pub no-walk : (net : NetTree) (w : Walk) → AreScopes net w.scopes → w.scopes.opaque.items ≡ [] → w.scopes.transparent.items ≡ [] → w.entities.items ≡ [] → w.transparent.items ≡ [] → IsWalk net w
no-walk net w scopes o t e c = record {
  scopes = scopes;
  opaque_count = ap (λ (cs : List (Vec ℕ Global)). length cs) o ∙ ap (λ (vs : List EntityValues). length vs) (sym e);
  transparent_count = ap (λ (cs : List (Vec ℕ Global)). length cs) t ∙ ap (λ (us : List (Vec HeldToken Global)). length us) (sym c);
  entities = subst (λ (vs : List EntityValues). AllZip (IsEntityValued net) (take (length vs) net.entities) (map entity_view vs)) (sym e) tt;
  transparent = subst (λ (us : List (Vec HeldToken Global)). AllZip (IsTransparentValued net) (take (length us) net.transparent) (transparent_values us)) (sym c) tt;
}

-- ---- what stands in the lists of the net

pub view-at : {A B : Type 0} (f : A → B) (xs : List A) (i k : ℕ) (x : A) → i < length xs → x ≡ get_or xs i x → k ≡ i → slice_get (map f xs) k ≡ Some (f x)
view-at f xs i k x short is same = ap (slice_get (map f xs)) same ∙ slice_get-map f xs i ∙ ap (option_map f) (slice_get_read xs (length xs) i x refl short is)

pub view-some : {A B : Type 0} (f : A → B) (xs : List A) (k : ℕ) (x : A) → slice_get xs k ≡ Some x → slice_get (map f xs) k ≡ Some (f x)
view-some f xs k x at = slice_get-map f xs k ∙ ap (option_map f) at

pub view-none : {A B : Type 0} (f : A → B) (xs : List A) (k : ℕ) (y : B) → slice_get xs k ≡ None → slice_get (map f xs) k ≡ Some y → ⊥
view-none f xs k y at e = none-some y (sym (slice_get-map f xs k ∙ ap (option_map f) at) ∙ e)

-- the next entity can't be gone through, or there is none
pub held-up : (net : NetTree) (w : Walk) (e : NetEntityTree) → slice_get net.entities (length w.entities.items) ≡ Some e → chain_at w.scopes e.within e.parent ≡ None → IsHeldUp net w
held-up net w e at none f is = let same : e ≡ f = same_Some e f (sym at ∙ is) in subst (λ (x : NetEntityTree). chain_at w.scopes x.within x.parent ≡ None) same none

-- ---- inputs

pub input-fault : (net : NetTree) (inputs : List Input) → net.inputs ≡ map input_view inputs → (i : ℕ) (input : Input) → i < length inputs → input ≡ get_or inputs i input → (told : DocFault) → IsToldAt (shown input.port) (IsSupplyFault (texts_of_supply (supply_view input.supply))) told → IsFaultOf net told
input-fault net inputs is i input short item told h =
    let there : Contains net.inputs (input_view input) = subst (λ (is' : List InputTree). Contains is' (input_view input)) (sym is) (get-contains (map input_view inputs) i (input_view input) (view-at input_view inputs i i input short item refl)) in
    told-stands net (shown input.port) (IsSupplyFault (texts_of_supply (supply_view input.supply))) (input-stands net (input_view input) there) told h
