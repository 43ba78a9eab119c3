-- What is seen where, one entity or transparent composite more.
use Rattle.std.proofs.Common.{◌≡◌, ◌⊎◌, inl, inr, ℕ, zero, suc, ◌+◌, ◌<◌, ◌++◌, List, [], ◌∷◌, length, Option, Some, None, refl, sym, ap, subst, ◌∙◌, arith}
use Rattle.std.specs.Prelude.{option_map, Vec, Bool, true, false, if◌then◌else◌}
use Rattle.std.specs.Global.{Global}
use Rattle.std.specs.List.{All, slice_get}
use Rattle.std.proofs.lemmas.List.{length-append}
use Rattle.std.proofs.lemmas.List.Elements.{All-nil, All-cons, All-head, All-tail, All-weaker}
use Rattle.std.proofs.lemmas.Option.{none-some, same_Some}
use Rattle.pt_value.specs.Value.{Value}
use Rattle.pt_document.specs.Document.{PropertyTree, property_name}
use Rattle.pt_net.specs.Net.{NetEntityTree}
use Rattle.pt_scopes.specs.declared.names.Names.{Names}
use Rattle.pt_scopes.specs.Names.{held, held_at, or_else, in_chain}
use Rattle.pt_scopes.specs.Given.{Held}
use Rattle.pt_scopes.specs.declared.scopes.Scopes.{Scopes}
use Rattle.pt_scopes.specs.Scopes.{NetTree, Bindings, bound, is_composite_class, seen_parameters, Extends, Sees, at_top}
use Rattle.pt_scopes.specs.Frames.{chain_at, Means, IsSeenIn, AreScopes}
use Rattle.pt_scopes.specs.Valued.{AreInTurn, AreOwn}
use Rattle.pt_scopes.specs.Told.{MeansWith}
use Rattle.pt_scopes.proofs.Document.{get-last, get-cases}

-- ---- bindings

pub turn-extends : (around : Bindings) (ps : List PropertyTree) (vs : List Value) (inner : Bindings) → AreInTurn around ps vs inner → Extends around ps inner
turn-extends around [] [] inner h = h
turn-extends around [] (v ∷ vs) inner h = absurd h
turn-extends around (p ∷ ps) [] inner h = absurd h
turn-extends around (p ∷ ps) (v ∷ vs) inner h = (Some v, h.0, turn-extends ((property_name p, Some v) ∷ around) ps vs inner h.1)

pub own-extends : (e : NetEntityTree) (around inner : Bindings) (hs : List Held) → AreOwn (is_composite_class e.class) e around hs inner → Extends around (seen_parameters e) inner
own-extends e around inner hs h = chosen (is_composite_class e.class) h
  where
    chosen : (b : Bool) → AreOwn b e around hs inner → Extends around (if b then e.parameters else []) inner
    chosen true g = turn-extends around e.parameters g.0 inner g.2
    chosen false g = g.0

-- ---- frames

get-stays : {X : Type 0} (xs : List X) (y : X) (k : ℕ) → k < length xs → slice_get (xs ++ y ∷ []) k ≡ slice_get xs k
get-stays [] y k h = absurd (omega arith)
get-stays (x ∷ xs) y zero h = refl
get-stays (x ∷ xs) y (suc k) h = get-stays xs y k (omega arith)

chain-stays : (frames : List Names) (own : Names) (chain : List ℕ) (name : List ℕ) → All (λ k. k < length frames) chain → in_chain (frames ++ own ∷ []) chain name ≡ in_chain frames chain name
chain-stays frames own [] name h = refl
chain-stays frames own (k ∷ ks) name h =
    ap (λ f. or_else (held_at f name) (in_chain (frames ++ own ∷ []) ks name)) (get-stays frames own k (All-head (λ j. j < length frames) k ks h))
    ∙ ap (λ o. or_else (held_at (slice_get frames k) name) o) (chain-stays frames own ks name (All-tail (λ j. j < length frames) k ks h))

wider : (frames : List Names) (own : Names) (chain : List ℕ) → All (λ k. k < length frames) chain → All (λ k. k < length (frames ++ own ∷ [])) chain
wider frames own chain h = All-weaker (λ k. k < length frames) (λ k. k < length (frames ++ own ∷ [])) (λ k below. omega (arith, length-append frames (own ∷ []), below)) chain h

seen-stays : (net : NetTree) (frames : List Names) (own : Names) (within parent : Option ℕ) (chain : List ℕ) → IsSeenIn net frames within parent chain → IsSeenIn net (frames ++ own ∷ []) within parent chain
seen-stays net frames own within parent chain h = record {
  bindings = h.bindings;
  sees = h.sees;
  means = λ name. ap (option_map Some) (chain-stays frames own chain name h.inside) ∙ h.means name;
  inside = wider frames own chain h.inside;
}

-- the new frame before those of a chain
pub seen-inside : (net : NetTree) (frames : List Names) (own : Names) (within parent : Option ℕ) (chain : List ℕ) (inner : Bindings) → All (λ k. k < length frames) chain → MeansWith own frames chain inner → Sees net within parent inner → IsSeenIn net (frames ++ own ∷ []) within parent (length frames ∷ chain)
seen-inside net frames own within parent chain inner h means sees = record {
  bindings = inner;
  sees = sees;
  means =
      λ name.
      ap (option_map Some) (ap (λ f. or_else (held_at f name) (in_chain (frames ++ own ∷ []) chain name)) (get-last frames own) ∙ ap (or_else (held own name)) (chain-stays frames own chain name h))
      ∙ means name;
  inside = All-cons (λ k. k < length (frames ++ own ∷ [])) (length frames) chain (omega (arith, length-append frames (own ∷ []))) (wider frames own chain h);
}

-- ---- scopes

top-seen : (net : NetTree) (frames : List Names) (chain : List ℕ) → Some [] ≡ Some chain → IsSeenIn net frames None None chain
top-seen net frames chain e = subst (λ (c : List ℕ). IsSeenIn net frames None None c) (same_Some [] chain e) record { bindings = []; sees = at_top; means = λ name. refl; inside = All-nil (λ k. k < length frames) }

abbrev Chains : Type 0
Chains = List (Vec ℕ Global)

abbrev chain_in : Chains → ℕ → Option (List ℕ)
chain_in chains k = option_map (λ chain. chain.items) (slice_get chains k)

no-chain : (chains : Chains) (k : ℕ) (chain : List ℕ) → chains ≡ [] → chain_in chains k ≡ Some chain → ⊥
no-chain chains k chain is e = none-some chain (sym (ap (λ (cs : Chains). chain_in cs k) is) ∙ e)

pub no-scopes : (net : NetTree) (s : Scopes) → s.opaque.items ≡ [] → s.transparent.items ≡ [] → AreScopes net s
no-scopes net s o t (Some n) parent chain e = absurd (no-chain s.transparent.items n chain t e)
no-scopes net s o t None (Some k) chain e = absurd (no-chain s.opaque.items k chain o e)
no-scopes net s o t None None chain e = top-seen net s.frames.items chain e

-- a chain among those with one more is one of them, or the one more
chain-cases : (chains : Chains) (last : Vec ℕ Global) (k : ℕ) (chain : List ℕ) → chain_in (chains ++ last ∷ []) k ≡ Some chain → (chain_in chains k ≡ Some chain) ⊎ ((k ≡ length chains) × (last.items ≡ chain))
chain-cases chains last k chain e = found (slice_get (chains ++ last ∷ []) k) refl e
  where
    placed : (v : Vec ℕ Global) → v.items ≡ chain → (slice_get chains k ≡ Some v) ⊎ ((k ≡ length chains) × (last ≡ v)) → (chain_in chains k ≡ Some chain) ⊎ ((k ≡ length chains) × (last.items ≡ chain))
    placed v is (inl l) = inl (ap (option_map (λ (c : Vec ℕ Global). c.items)) l ∙ ap Some is)
    placed v is (inr r) = inr (r.0, ap (λ (c : Vec ℕ Global). c.items) r.1 ∙ is)

    found : (o : Option (Vec ℕ Global)) → slice_get (chains ++ last ∷ []) k ≡ o → option_map (λ c. c.items) o ≡ Some chain → (chain_in chains k ≡ Some chain) ⊎ ((k ≡ length chains) × (last.items ≡ chain))
    found None is f = absurd (none-some chain f)
    found (Some v) is f = placed v (same_Some v.items chain f) (get-cases chains last k v is)

module _ (net : NetTree) (s s' : Scopes) (own : Names) (last : Vec ℕ Global) (frames_are : s'.frames.items ≡ s.frames.items ++ own ∷ []) (old : AreScopes net s) where
  still : (within parent : Option ℕ) (chain : List ℕ) → chain_at s within parent ≡ Some chain → IsSeenIn net s'.frames.items within parent chain
  still within parent chain e = subst (λ (fs : List Names). IsSeenIn net fs within parent chain) (sym frames_are) (seen-stays net s.frames.items own within parent chain (old within parent chain e))

  pub more-opaque : s'.opaque.items ≡ s.opaque.items ++ last ∷ [] → s'.transparent.items ≡ s.transparent.items → IsSeenIn net (s.frames.items ++ own ∷ []) None (Some (length s.opaque.items)) last.items → AreScopes net s'
  more-opaque o t new (Some n) parent chain e = still (Some n) parent chain (ap (λ (cs : Chains). chain_in cs n) (sym t) ∙ e)
  more-opaque o t new None (Some k) chain e =
      placed (chain-cases s.opaque.items last k chain (ap (λ (cs : Chains). chain_in cs k) (sym o) ∙ e))
    where
      placed : (chain_in s.opaque.items k ≡ Some chain) ⊎ ((k ≡ length s.opaque.items) × (last.items ≡ chain)) → IsSeenIn net s'.frames.items None (Some k) chain
      placed (inl l) = still None (Some k) chain l
      placed (inr r) =
          subst (λ (fs : List Names). IsSeenIn net fs None (Some k) chain) (sym frames_are)
          (subst (λ (j : ℕ). IsSeenIn net (s.frames.items ++ own ∷ []) None (Some j) chain) (sym r.0)
          (subst (λ (c : List ℕ). IsSeenIn net (s.frames.items ++ own ∷ []) None (Some (length s.opaque.items)) c) r.1 new))
  more-opaque o t new None None chain e = top-seen net s'.frames.items chain e

  pub more-transparent : s'.opaque.items ≡ s.opaque.items → s'.transparent.items ≡ s.transparent.items ++ last ∷ [] → ((parent : Option ℕ) → IsSeenIn net (s.frames.items ++ own ∷ []) (Some (length s.transparent.items)) parent last.items) → AreScopes net s'
  more-transparent o t new (Some n) parent chain e =
      placed (chain-cases s.transparent.items last n chain (ap (λ (cs : Chains). chain_in cs n) (sym t) ∙ e))
    where
      placed : (chain_in s.transparent.items n ≡ Some chain) ⊎ ((n ≡ length s.transparent.items) × (last.items ≡ chain)) → IsSeenIn net s'.frames.items (Some n) parent chain
      placed (inl l) = still (Some n) parent chain l
      placed (inr r) =
          subst (λ (fs : List Names). IsSeenIn net fs (Some n) parent chain) (sym frames_are)
          (subst (λ (j : ℕ). IsSeenIn net (s.frames.items ++ own ∷ []) (Some j) parent chain) (sym r.0)
          (subst (λ (c : List ℕ). IsSeenIn net (s.frames.items ++ own ∷ []) (Some (length s.transparent.items)) parent c) r.1 (new parent)))
  more-transparent o t new None (Some k) chain e = still None (Some k) chain (ap (λ (cs : Chains). chain_in cs k) (sym o) ∙ e)
  more-transparent o t new None None chain e = top-seen net s'.frames.items chain e
