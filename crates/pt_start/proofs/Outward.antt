-- From what is round one thing to what is round that.
use Rattle.std.proofs.Common.{◌≡◌, ℕ, zero, suc, ◌+◌, ◌*◌, ◌<◌, ◌≤◌, List, [], ◌∷◌, length, map, Bool, true, false, refl, sym, ap, subst, ◌∙◌, if◌then◌else◌, arith}
use Rattle.std.specs.Prelude.{Option, Some, None, option_map, slice_get, IsTrue, Vec}
use Rattle.std.specs.Global.{Global}
use Rattle.std.specs.List.{AllZip}
use Rattle.std.proofs.Math.Nat.{mul-le-mul_left}
use Rattle.std.proofs.lemmas.Option.{slice_get-map, slice_get_within, none-some}
use Rattle.pt_value.specs.Value.{Value}
use Rattle.pt_value.specs.Token.{value_of}
use Rattle.pt_value.specs.declared.token.Token.{Token}
use Rattle.pt_document.specs.Document.{PropertyTree}
use Rattle.pt_document.specs.View.{properties_view}
use Rattle.pt_net.specs.declared.net.NetEntity.{NetEntity}
use Rattle.pt_net.specs.declared.net.Transparent.{Transparent}
use Rattle.pt_net.specs.Net.{NetEntityTree, TransparentTree, entity_view, transparent_view}
use Rattle.pt_scopes.specs.declared.names.Names.{Names}
use Rattle.pt_scopes.specs.declared.parameter_value.ParameterValue.{ParameterValue}
use Rattle.pt_scopes.specs.Given.{held_view}
use Rattle.pt_scopes.specs.Given as given
use Rattle.pt_scopes.specs.declared.values.EntityValues.{EntityValues}
use Rattle.pt_scopes.specs.Scopes.{NetTree, Bindings, bound, net_view, Sees, Extends, is_composite_class, seen_parameters}
use Rattle.pt_scopes.specs.Valued.{IsEntityValued, IsTransparentValued, AreOwn, AreInTurn}
use Rattle.pt_scopes.specs.Valued as valued
use Rattle.pt_start.specs.declared.round.Round.{Round}
use Rattle.pt_start.specs.declared.starts.Starts.{Starts}
use Rattle.pt_start.specs.Nested.{AreRound}
use Rattle.pt_start.specs.Started.{given_tokens}
use Rattle.pt_start.specs.Frames.{behind, named_tokens, IsKept, IsTransparentKept}
use Rattle.pt_start.specs.Seen.{IsReady, number_or_none, depth, SeesIn, SeesNothing, IsBefore, IsOutward}
use Rattle.pt_start.proofs.Once.{extends-once, sees-once, by-innermost, IsInTransparent, IsInOpaque}
use Rattle.pt_start.proofs.Behind.{turn-extends, turn-named, turn-given}

some-same : {A : Type 0} (x y : A) → Some x ≡ Some y → x ≡ y
some-same x y e = cc

-- elements of one number are related
pub zip-at : {A B : Type 0} (R : A → B → Type 0) (xs : List A) (ys : List B) (k : ℕ) (x : A) (y : B) → AllZip R xs ys → slice_get xs k ≡ Some x → slice_get ys k ≡ Some y → R x y
zip-at R [] ys k x y h at there = cc
zip-at R (z ∷ xs) [] k x y h at there = cc
zip-at R (z ∷ xs) (w ∷ ys) zero x y h at there = subst (λ u. R u y) (some-same z x at) (subst (λ v. R z v) (some-same w y there) h.0)
zip-at R (z ∷ xs) (w ∷ ys) (suc k) x y h at there = zip-at R xs ys k x y h.1 at there

-- an element of the one list has one of its number in the other
pub zip-other : {A B : Type 0} (R : A → B → Type 0) (xs : List A) (ys : List B) (k : ℕ) (x : A) → AllZip R xs ys → slice_get xs k ≡ Some x → slice_get ys k ≡ None → ⊥
zip-other R [] ys k x h at none = cc
zip-other R (z ∷ xs) [] k x h at none = h
zip-other R (z ∷ xs) (w ∷ ys) zero x h at none = cc
zip-other R (z ∷ xs) (w ∷ ys) (suc k) x h at none = zip-other R xs ys k x h.1 at none

pub view-at : {A B : Type 0} (f : A → B) (xs : List A) (k : ℕ) (x : A) → slice_get xs k ≡ Some x → slice_get (map f xs) k ≡ Some (f x)
view-at f xs k x at = slice_get-map f xs k ∙ ap (option_map f) at

pub view-none : {A B : Type 0} (f : A → B) (xs : List A) (k : ℕ) → slice_get xs k ≡ None → slice_get (map f xs) k ≡ None
view-none f xs k at = slice_get-map f xs k ∙ ap (option_map f) at

-- ---- depths

same-falls : (n p q w v : ℕ) → p ≡ q → w < v → p * n + w < q * n + v
same-falls n p q w v e h = subst (λ (r : ℕ). p * n + w < r * n + v) e (omega (arith, h))

parent-falls : (n p q w : ℕ) → p < q → w < n → p * n + w < q * n + 0
parent-falls n p q w h small =
    let more : n * (p + 1) ≤ n * q = mul-le-mul_left n (omega (arith, h)) in
    omega (arith, more, small)

number-less : (o : Option ℕ) (t : ℕ) → ((u : ℕ) → o ≡ Some u → u < t) → number_or_none o < t + 1
number-less None t less = omega arith
number-less (Some u) t less = omega (arith, less u refl)

-- ---- transparent composites

module _ (s : Starts) (here : Round) (t : ℕ) (c : Transparent) (names : Names) (ready : IsReady s) (round : AreRound (net_view s.net.now) here.within here.parent) (is : here.within ≡ Some t) (at : slice_get s.net.now.transparent.items t ≡ Some c) (kept : slice_get s.transparent.items t ≡ Some names) where
  transparent-view : slice_get (map transparent_view s.net.now.transparent.items) t ≡ Some (transparent_view c)
  transparent-view = view-at transparent_view s.net.now.transparent.items t c at

  transparent-parent : c.parent ≡ here.parent
  transparent-parent =
      let inside = round.transparent t is in
      let same : inside.composite ≡ transparent_view c = some-same inside.composite (transparent_view c) (sym inside.at ∙ transparent-view) in
      ap (λ (d : TransparentTree). d.parent) (sym same) ∙ inside.parent_is

  transparent-falls : depth (net_view s.net.now) (record { within = c.within; parent = c.parent }) < depth (net_view s.net.now) here
  transparent-falls =
      let n = length (map transparent_view s.net.now.transparent.items) + 1 in
      let less : number_or_none c.within < t + 1 = number-less c.within t (λ u h. ready.nested.within_before t u (transparent_view c) transparent-view h) in
      subst (λ (w : Option ℕ). number_or_none c.parent * n + number_or_none c.within < number_or_none here.parent * n + number_or_none w) (sym is)
      (same-falls n (number_or_none c.parent) (number_or_none here.parent) (number_or_none c.within) (t + 1) (ap number_or_none transparent-parent) less)

  module _ (seen : Bindings) (sees : SeesIn (net_view s.net.now) here seen) where
    inside-transparent : IsInTransparent (net_view s.net.now) t seen
    inside-transparent = by-innermost (subst (λ (w : Option ℕ). Sees (net_view s.net.now) w here.parent seen) is sees)

    same-transparent : inside-transparent.composite ≡ transparent_view c
    same-transparent = some-same inside-transparent.composite (transparent_view c) (sym inside-transparent.at ∙ transparent-view)

    out-of-transparent : Sees (net_view s.net.now) c.within c.parent inside-transparent.around
    out-of-transparent = subst (λ (d : TransparentTree). Sees (net_view s.net.now) d.within d.parent inside-transparent.around) same-transparent inside-transparent.sees

    transparent-before : (o : Option (Vec Token Global)) → slice_get s.values.now.transparent.items t ≡ o → IsTransparentKept (Some c) o (Some names) → IsBefore (net_view s.net.now) names (record { within = c.within; parent = c.parent }) seen
    transparent-before None none holds = absurd (zip-other (IsTransparentValued (net_view s.net.now)) (map transparent_view s.net.now.transparent.items) (map (λ ts. map value_of ts.items) s.values.now.transparent.items) t (transparent_view c) ready.valued.transparent transparent-view (view-none (λ ts. map value_of ts.items) s.values.now.transparent.items t none))
    transparent-before (Some ts) there holds =
        let ps = properties_view c.parameters.items in
        let around = inside-transparent.around in
        let v : IsTransparentValued (net_view s.net.now) (transparent_view c) (map value_of ts.items) = zip-at (IsTransparentValued (net_view s.net.now)) (map transparent_view s.net.now.transparent.items) (map (λ us. map value_of us.items) s.values.now.transparent.items) t (transparent_view c) (map value_of ts.items) ready.valued.transparent transparent-view (view-at (λ us. map value_of us.items) s.values.now.transparent.items t ts there) in
        let e : v.around ≡ around = sees-once v.sees out-of-transparent in
        let turn : AreInTurn around ps (map value_of ts.items) v.inner = subst (λ (bs : Bindings). AreInTurn bs ps (map value_of ts.items) v.inner) e v.parameters in
        let ext : Extends around ps seen = subst (λ (d : TransparentTree). Extends around d.parameters seen) same-transparent inside-transparent.extends in
        let is : seen ≡ behind around (named_tokens ps ts.items) = extends-once ps around seen v.inner ext (turn-extends ps (map value_of ts.items) around v.inner turn) ∙ turn-named ps ts.items around v.inner turn in
        record { around = around; sees = out-of-transparent; is = λ name. holds around name ∙ ap (λ (bs : Bindings). bound bs name) (sym is) }

  pub transparent-out : IsOutward (net_view s.net.now) here names (record { within = c.within; parent = c.parent })
  transparent-out =
      let holds : IsTransparentKept (Some c) (slice_get s.values.now.transparent.items t) (Some names) = subst (λ (n : Option Names). IsTransparentKept (Some c) (slice_get s.values.now.transparent.items t) n) kept (subst (λ (d : Option Transparent). IsTransparentKept d (slice_get s.values.now.transparent.items t) (slice_get s.transparent.items t)) at (ready.prepared.transparent t)) in
      record {
        round = ready.nested.transparent t (transparent_view c) transparent-view;
        falls = transparent-falls;
        before = λ seen sees. transparent-before seen sees (slice_get s.values.now.transparent.items t) refl holds;
      }

-- ---- opaque composites

module _ (s : Starts) (here : Round) (k : ℕ) (e : NetEntity) (names : Names) (ready : IsReady s) (round : AreRound (net_view s.net.now) here.within here.parent) (is : here.within ≡ None) (parent_is : here.parent ≡ Some k) (at : slice_get s.net.now.entities.items k ≡ Some e) (kept : slice_get s.opaque.items k ≡ Some names) where
  entity-at : slice_get (map entity_view s.net.now.entities.items) k ≡ Some (entity_view e)
  entity-at = view-at entity_view s.net.now.entities.items k e at

  within-small : (o : Option ℕ) → e.within ≡ o → number_or_none o < length (map transparent_view s.net.now.transparent.items) + 1
  within-small None none = omega arith
  within-small (Some t) some =
      let inside = (ready.nested.entities k (entity_view e) entity-at).transparent t some in
      let short : t < length (map transparent_view s.net.now.transparent.items) = slice_get_within (map transparent_view s.net.now.transparent.items) t inside.composite inside.at in
      omega (arith, short)

  opaque-falls : depth (net_view s.net.now) (record { within = e.within; parent = e.parent }) < depth (net_view s.net.now) here
  opaque-falls =
      let n = length (map transparent_view s.net.now.transparent.items) + 1 in
      let less : number_or_none e.parent < k + 1 = number-less e.parent k (λ j h. ready.nested.parent_before k j (entity_view e) entity-at h) in
      subst (λ (w : Option ℕ). number_or_none e.parent * n + number_or_none e.within < number_or_none here.parent * n + number_or_none w) (sym is)
      (subst (λ (p : Option ℕ). number_or_none e.parent * n + number_or_none e.within < number_or_none p * n + 0) (sym parent_is)
      (parent-falls n (number_or_none e.parent) (k + 1) (number_or_none e.within) less (within-small e.within refl)))

  module _ (seen : Bindings) (sees : SeesIn (net_view s.net.now) here seen) where
    inside-opaque : IsInOpaque (net_view s.net.now) k seen
    inside-opaque =
        let bare : Sees (net_view s.net.now) None here.parent seen = subst (λ (w : Option ℕ). Sees (net_view s.net.now) w here.parent seen) is sees in
        by-innermost (subst (λ (p : Option ℕ). Sees (net_view s.net.now) None p seen) parent_is bare)

    same-opaque : inside-opaque.entity ≡ entity_view e
    same-opaque = some-same inside-opaque.entity (entity_view e) (sym inside-opaque.at ∙ entity-at)

    out-of-opaque : Sees (net_view s.net.now) e.within e.parent inside-opaque.around
    out-of-opaque = subst (λ (d : NetEntityTree). Sees (net_view s.net.now) d.within d.parent inside-opaque.around) same-opaque inside-opaque.sees

    own-turn : (b : Bool) (around : Bindings) (hs : List ParameterValue) (inner : Bindings) → b ≡ true → AreOwn b (entity_view e) around (map held_view hs) inner → (vs : List Value) × (map held_view hs ≡ map given.Token vs) × AreInTurn around (properties_view e.parameters.items) vs inner
    own-turn true around hs inner composite own = own
    own-turn false around hs inner composite own = cc

    opaque-before : (o : Option EntityValues) → slice_get s.values.now.entities.items k ≡ o → IsKept (Some e) o (Some names) → IsBefore (net_view s.net.now) names (record { within = e.within; parent = e.parent }) seen
    opaque-before None none holds = absurd (zip-other (IsEntityValued (net_view s.net.now)) (map entity_view s.net.now.entities.items) (map valued.entity_view s.values.now.entities.items) k (entity_view e) ready.valued.entities entity-at (view-none valued.entity_view s.values.now.entities.items k none))
    opaque-before (Some vs) there holds =
        let ps = properties_view e.parameters.items in
        let around = inside-opaque.around in
        let composite : IsTrue (is_composite_class e.class) = round.opaque k (entity_view e) parent_is entity-at in
        let v : IsEntityValued (net_view s.net.now) (entity_view e) (valued.entity_view vs) = zip-at (IsEntityValued (net_view s.net.now)) (map entity_view s.net.now.entities.items) (map valued.entity_view s.values.now.entities.items) k (entity_view e) (valued.entity_view vs) ready.valued.entities entity-at (view-at valued.entity_view s.values.now.entities.items k vs there) in
        let same : v.around ≡ around = sees-once v.sees out-of-opaque in
        let own = own-turn (is_composite_class e.class) v.around vs.parameters.items v.inner composite v.parameters in
        let turn : AreInTurn around ps own.0 v.inner = subst (λ (bs : Bindings). AreInTurn bs ps own.0 v.inner) same own.2 in
        let all : seen_parameters (entity_view e) ≡ ps = ap (λ (b : Bool). if b then ps else []) composite in
        let ext : Extends around ps seen = subst (λ (qs : List PropertyTree). Extends around qs seen) all (subst (λ (d : NetEntityTree). Extends around (seen_parameters d) seen) same-opaque inside-opaque.extends) in
        let is : seen ≡ behind around (given_tokens ps vs.parameters.items) = extends-once ps around seen v.inner ext (turn-extends ps own.0 around v.inner turn) ∙ turn-given ps vs.parameters.items own.0 around v.inner own.1 turn in
        record { around = around; sees = out-of-opaque; is = λ name. holds composite around name ∙ ap (λ (bs : Bindings). bound bs name) (sym is) }

  pub opaque-out : IsOutward (net_view s.net.now) here names (record { within = e.within; parent = e.parent })
  opaque-out =
      let holds : IsKept (Some e) (slice_get s.values.now.entities.items k) (Some names) = subst (λ (n : Option Names). IsKept (Some e) (slice_get s.values.now.entities.items k) n) kept (subst (λ (d : Option NetEntity). IsKept d (slice_get s.values.now.entities.items k) (slice_get s.opaque.items k)) at (ready.prepared.opaque k)) in
      record {
        round = ready.nested.entities k (entity_view e) entity-at;
        falls = opaque-falls;
        before = λ seen sees. opaque-before seen sees (slice_get s.values.now.entities.items k) refl holds;
      }

-- ---- nothing round

module _ (s : Starts) (here : Round) (ready : IsReady s) where
  transparent-kept : (t : ℕ) (c : TransparentTree) (d : Option Transparent) (o : Option (Vec Token Global)) (n : Option Names) → slice_get (map transparent_view s.net.now.transparent.items) t ≡ Some c → slice_get s.net.now.transparent.items t ≡ d → slice_get s.values.now.transparent.items t ≡ o → n ≡ None → IsTransparentKept d o n → ⊥
  transparent-kept t c None o n at is there none kept = none-some c (sym (view-none transparent_view s.net.now.transparent.items t is) ∙ at)
  transparent-kept t c (Some d) None n at is there none kept = zip-other (IsTransparentValued (net_view s.net.now)) (map transparent_view s.net.now.transparent.items) (map (λ ts. map value_of ts.items) s.values.now.transparent.items) t c ready.valued.transparent at (view-none (λ ts. map value_of ts.items) s.values.now.transparent.items t there)
  transparent-kept t c (Some d) (Some ts) None at is there none kept = kept
  transparent-kept t c (Some d) (Some ts) (Some names) at is there none kept = cc

  pub no-transparent : (t : ℕ) → here.within ≡ Some t → slice_get s.transparent.items t ≡ None → SeesNothing (net_view s.net.now) here
  no-transparent t is none seen sees name =
      let inside : IsInTransparent (net_view s.net.now) t seen = by-innermost (subst (λ (w : Option ℕ). Sees (net_view s.net.now) w here.parent seen) is sees) in
      absurd (transparent-kept t inside.composite (slice_get s.net.now.transparent.items t) (slice_get s.values.now.transparent.items t) (slice_get s.transparent.items t) inside.at refl refl none (ready.prepared.transparent t))

  pub strange-transparent : (t : ℕ) → here.within ≡ Some t → slice_get s.net.now.transparent.items t ≡ None → SeesNothing (net_view s.net.now) here
  strange-transparent t is none seen sees name =
      let inside : IsInTransparent (net_view s.net.now) t seen = by-innermost (subst (λ (w : Option ℕ). Sees (net_view s.net.now) w here.parent seen) is sees) in
      absurd (none-some inside.composite (sym (view-none transparent_view s.net.now.transparent.items t none) ∙ inside.at))

  opaque-kept : (k : ℕ) (e : NetEntityTree) (d : Option NetEntity) (o : Option EntityValues) (n : Option Names) → slice_get (map entity_view s.net.now.entities.items) k ≡ Some e → slice_get s.net.now.entities.items k ≡ d → slice_get s.values.now.entities.items k ≡ o → n ≡ None → IsKept d o n → ⊥
  opaque-kept k e None o n at is there none kept = none-some e (sym (view-none entity_view s.net.now.entities.items k is) ∙ at)
  opaque-kept k e (Some d) None n at is there none kept = zip-other (IsEntityValued (net_view s.net.now)) (map entity_view s.net.now.entities.items) (map valued.entity_view s.values.now.entities.items) k e ready.valued.entities at (view-none valued.entity_view s.values.now.entities.items k there)
  opaque-kept k e (Some d) (Some vs) None at is there none kept = kept
  opaque-kept k e (Some d) (Some vs) (Some names) at is there none kept = cc

  inside : (k : ℕ) → here.within ≡ None → here.parent ≡ Some k → (seen : Bindings) → SeesIn (net_view s.net.now) here seen → IsInOpaque (net_view s.net.now) k seen
  inside k is parent_is seen sees =
      let bare : Sees (net_view s.net.now) None here.parent seen = subst (λ (w : Option ℕ). Sees (net_view s.net.now) w here.parent seen) is sees in
      by-innermost (subst (λ (p : Option ℕ). Sees (net_view s.net.now) None p seen) parent_is bare)

  pub no-opaque : (k : ℕ) → here.within ≡ None → here.parent ≡ Some k → slice_get s.opaque.items k ≡ None → SeesNothing (net_view s.net.now) here
  no-opaque k is parent_is none seen sees name =
      let in_there = inside k is parent_is seen sees in
      absurd (opaque-kept k in_there.entity (slice_get s.net.now.entities.items k) (slice_get s.values.now.entities.items k) (slice_get s.opaque.items k) in_there.at refl refl none (ready.prepared.opaque k))

  pub strange-opaque : (k : ℕ) → here.within ≡ None → here.parent ≡ Some k → slice_get s.net.now.entities.items k ≡ None → SeesNothing (net_view s.net.now) here
  strange-opaque k is parent_is none seen sees name =
      let in_there = inside k is parent_is seen sees in
      absurd (none-some in_there.entity (sym (view-none entity_view s.net.now.entities.items k none) ∙ in_there.at))

-- at the top nothing is seen
pub top-nothing : (net : NetTree) (here : Round) → here.within ≡ None → here.parent ≡ None → SeesNothing net here
top-nothing net here is parent_is seen sees name =
    let bare : Sees net None here.parent seen = subst (λ (w : Option ℕ). Sees net w here.parent seen) is sees in
    let empty : seen ≡ [] = by-innermost (subst (λ (p : Option ℕ). Sees net None p seen) parent_is bare) in
    ap (λ (bs : Bindings). bound bs name) empty
