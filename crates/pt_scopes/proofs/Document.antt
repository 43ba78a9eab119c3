-- The net of a job is in the order of the document.
use Rattle.std.proofs.Common.{◌≡◌, ◌⊎◌, inl, inr, ◌≤◌, ◌<◌, ◌+◌, ◌-◌, ℕ, zero, suc, List, [], ◌∷◌, ◌++◌, Bool, true, false, not, cond, Option, Some, None, length, map, take, filter, refl, sym, ap, subst, ◌∙◌, arith}
use Rattle.std.specs.Prelude.{option_map}
use Rattle.std.proofs.lemmas.List.{length-map, length-append, take-append-le, take_at}
use Rattle.std.proofs.lemmas.Option.{none-some, same_Some, slice_get-map, slice_get_within}
use Rattle.std.specs.List.{count_by, slice_get}
use Rattle.pt_document.specs.Document.{EntityTree, EntityTrees, entity, no_entities, one_entity, entity_name, JobTree}
use Rattle.pt_document.specs.Names.{top_path, below}
use Rattle.pt_net.specs.declared.net.Net.{Net}
use Rattle.pt_net.specs.Standing.{Standing, Round, is_kept, standing, kept_count, round_in, no_round, with_entity, with_entities, entities}
use Rattle.pt_net.specs.Net.{NetEntityTree, TransparentTree, IsNetOf, entity_tree, transparent_tree}
use Rattle.pt_scopes.specs.Scopes.{NetTree, net_view}
use Rattle.pt_scopes.specs.Order.{IsBehind, IsOrdered}
use Rattle.pt_scopes.proofs.Places.{place, rises, filter-place, place-count, count-below, counts}

-- ---- lists

pub get-left : {X : Type 0} (xs ys : List X) (n : ℕ) (x : X) → slice_get xs n ≡ Some x → slice_get (xs ++ ys) n ≡ Some x
get-left [] ys n x e = absurd (none-some x e)
get-left (z ∷ xs) ys zero x e = e
get-left (z ∷ xs) ys (suc n) x e = get-left xs ys n x e

pub get-last : {X : Type 0} (xs : List X) (y : X) → slice_get (xs ++ y ∷ []) (length xs) ≡ Some y
get-last [] y = refl
get-last (x ∷ xs) y = get-last xs y

-- an element of a list with one more is one of the list, or the one more
pub get-cases : {X : Type 0} (xs : List X) (y : X) (n : ℕ) (x : X) → slice_get (xs ++ y ∷ []) n ≡ Some x → (slice_get xs n ≡ Some x) ⊎ ((n ≡ length xs) × (y ≡ x))
get-cases [] y zero x e = inr (refl, same_Some y x e)
get-cases [] y (suc n) x e = absurd (none-some x e)
get-cases (z ∷ xs) y zero x e = inl e
get-cases (z ∷ xs) y (suc n) x e = elim (get-cases xs y n x e) [ inl l ↦ inl l | inr r ↦ inr (ap suc r.0, r.1) ]

-- ---- what stands round an entity comes before it

-- the entity round it, at its place in the document
record IsInside (all : List Standing) (n : ℕ) (round : Round) : Type 0 where
  outer : ℕ
  outer_at : Standing
  before : outer < n
  is_there : slice_get all outer ≡ Some outer_at
  is : round ≡ round_in outer outer_at

abbrev IsOutside : Round → Type 0
IsOutside round = (round.within ≡ None) × (round.parent ≡ None)

record IsPlaced (all : List Standing) (n : ℕ) (s : Standing) : Type 0 where
  number : s.number ≡ kept_count (take n all)
  round : IsOutside s.round ⊎ IsInside all n s.round

abbrev ArePlaced : List Standing → Type 0
ArePlaced all = (n : ℕ) (s : Standing) → slice_get all n ≡ Some s → IsPlaced all n s

-- a list goes on
record GoesOn (old new : List Standing) : Type 0 where
  longer : length old ≤ length new
  same : (n : ℕ) (s : Standing) → slice_get old n ≡ Some s → slice_get new n ≡ Some s

goes-on : (xs : List Standing) (s : Standing) → GoesOn xs (xs ++ s ∷ [])
goes-on xs s = record { longer = omega (arith, length-append xs (s ∷ [])); same = get-left xs (s ∷ []) }

goes-further : (xs ys zs : List Standing) → GoesOn xs ys → GoesOn ys zs → GoesOn xs zs
goes-further xs ys zs f g = record { longer = omega (arith, f.longer, g.longer); same = λ n s e. g.same n s (f.same n s e) }

stays-inside : (old new : List Standing) (n m : ℕ) (round : Round) → GoesOn old new → n ≤ m → IsOutside round ⊎ IsInside old n round → IsOutside round ⊎ IsInside new m round
stays-inside old new n m round g h (inl o) = inl o
stays-inside old new n m round g h (inr i) = inr record { outer = i.outer; outer_at = i.outer_at; before = omega (arith, i.before, h); is_there = g.same i.outer i.outer_at i.is_there; is = i.is }

one-more : (before : List Standing) (round : Round) (path : List ℕ) (e : EntityTree) → ArePlaced before → IsOutside round ⊎ IsInside before (length before) round → ArePlaced (before ++ standing before round path e ∷ [])
one-more before round path e all round_is n s at = elim (get-cases before st n s at) [ inl l ↦ old l | inr r ↦ new r ]
  where
    st : Standing
    st = standing before round path e

    grows : GoesOn before (before ++ st ∷ [])
    grows = goes-on before st

    old : slice_get before n ≡ Some s → IsPlaced (before ++ st ∷ []) n s
    old l =
        let p = all n s l in
        let short : n ≤ length before = omega (arith, slice_get_within before n s l) in
        record {
          number = p.number ∙ ap kept_count (sym (take-append-le n before (st ∷ []) short));
          round = stays-inside before (before ++ st ∷ []) n n s.round grows (omega arith) p.round;
        }

    first : IsPlaced (before ++ st ∷ []) (length before) st
    first = record {
      number = ap kept_count (sym (take_at before (st ∷ []) (length before) refl));
      round = stays-inside before (before ++ st ∷ []) (length before) (length before) round grows (omega arith) round_is;
    }

    new : (n ≡ length before) × (st ≡ s) → IsPlaced (before ++ st ∷ []) n s
    new r = subst (λ (k : ℕ). IsPlaced (before ++ st ∷ []) k s) (sym r.0) (subst (λ (x : Standing). IsPlaced (before ++ st ∷ []) (length before) x) r.1 first)

mutual
  unfolding with_entity with_entities

  entity-placed : (before : List Standing) (round : Round) (path : List ℕ) (e : EntityTree) → ArePlaced before → IsOutside round ⊎ IsInside before (length before) round → ArePlaced (with_entity before round path e) × GoesOn before (with_entity before round path e)
  entity-placed before round path (entity own inner) all round_is =
      let s = standing before round path (entity own inner) in
      let now = before ++ s ∷ [] in
      let placed : ArePlaced now = one-more before round path (entity own inner) all round_is in
      let here : IsInside now (length now) (round_in (length before) s) = record { outer = length before; outer_at = s; before = omega (arith, length-append before (s ∷ [])); is_there = get-last before s; is = refl } in
      let rest = entities-placed now (round_in (length before) s) path inner placed (inr here) in
      (rest.0, goes-further before now (with_entities now (round_in (length before) s) path inner) (goes-on before s) rest.1)

  entities-placed : (before : List Standing) (round : Round) (path : List ℕ) (es : EntityTrees) → ArePlaced before → IsOutside round ⊎ IsInside before (length before) round → ArePlaced (with_entities before round path es) × GoesOn before (with_entities before round path es)
  entities-placed before round path no_entities all round_is = (all, record { longer = omega arith; same = λ n s e. e })
  entities-placed before round path (one_entity e es) all round_is =
      let now = with_entity before round (below path (entity_name e)) e in
      let first = entity-placed before round (below path (entity_name e)) e all round_is in
      let rest = entities-placed now round path es first.0 (stays-inside before now (length before) (length now) round first.1 first.1.longer round_is) in
      (rest.0, goes-further before now (with_entities now round path es) first.1 rest.1)

all-placed : (job : JobTree) → ArePlaced (entities job)
unfolding entities
all-placed job = (entity-placed [] no_round top_path job.model (λ n s e. absurd (none-some s e)) (inl (refl, refl))).0

-- ---- the order of a net

-- an element of a list of views
viewed : {X Y : Type 0} (f : X → Y) (o : Option X) (y : Y) → option_map f o ≡ Some y → (x : X) × (o ≡ Some x) × (f x ≡ y)
viewed f None y e = absurd (none-some y e)
viewed f (Some x) y e = (x, refl, same_Some (f x) y e)

module _ (all : List Standing) (net : NetTree) (placed : ArePlaced all) (are_entities : net.entities ≡ map entity_tree (filter is_kept all)) (are_transparent : net.transparent ≡ map transparent_tree (filter (λ s. not (is_kept s)) all)) where
  abbrev is_left : Standing → Bool
  is_left s = not (is_kept s)

  abbrev Behind : Option ℕ → Option ℕ → ℕ → Type 0
  Behind = IsBehind net (place is_kept all) (place is_left all)

  entity_count : length net.entities ≡ length (filter is_kept all)
  entity_count = ap (λ (es : List NetEntityTree). length es) are_entities ∙ length-map (filter is_kept all) entity_tree

  transparent_count : length net.transparent ≡ length (filter is_left all)
  transparent_count = ap (λ (cs : List TransparentTree). length cs) are_transparent ∙ length-map (filter is_left all) transparent_tree

  behind-kept : (n o : ℕ) (u : Standing) → o < n → slice_get all o ≡ Some u → is_kept u ≡ true → Behind None (Some u.number) n
  behind-kept n o u h at k =
      let number = (placed o u at).number in
      let below' : u.number < length net.entities = subst (λ m. m < length net.entities) (sym number) (subst (λ m. kept_count (take o all) < m) (sym entity_count) (count-below is_kept all o u at k)) in
      let place' : place is_kept all u.number ≡ o = ap (place is_kept all) number ∙ place-count is_kept all o u at k in
      (below', subst (λ m. m < n) (sym place') h)

  behind-left : (n o : ℕ) (u : Standing) (parent : Option ℕ) → o < n → slice_get all o ≡ Some u → is_kept u ≡ false → Behind (Some (o - u.number)) parent n
  behind-left n o u parent h at k =
      let number = (placed o u at).number in
      let both = counts is_kept all o u at in
      let is : o - u.number ≡ count_by is_left (take o all) = omega (arith, number, both) in
      let left : is_left u ≡ true = ap not k in
      let below' : (o - u.number) < length net.transparent = subst (λ m. m < length net.transparent) (sym is) (subst (λ m. count_by is_left (take o all) < m) (sym transparent_count) (count-below is_left all o u at left)) in
      let place' : place is_left all (o - u.number) ≡ o = ap (place is_left all) is ∙ place-count is_left all o u at left in
      (below', subst (λ m. m < n) (sym place') h)

  behind : (n : ℕ) (round : Round) → IsOutside round ⊎ IsInside all n round → Behind round.within round.parent n
  behind n round (inl o) = subst (λ (w : Option ℕ). Behind w round.parent n) (sym o.0) (subst (λ (p : Option ℕ). Behind None p n) (sym o.1) tt)
  behind n round (inr i) = subst (λ (r : Round). Behind r.within r.parent n) (sym i.is) (chosen (is_kept i.outer_at) refl)
    where
      u : Standing
      u = i.outer_at

      chosen : (b : Bool) → is_kept i.outer_at ≡ b → Behind (round_in i.outer i.outer_at).within (round_in i.outer i.outer_at).parent n
      chosen true k =
          subst (λ (b : Bool). Behind (cond b None (Some (i.outer - i.outer_at.number))) (cond b (Some i.outer_at.number) i.outer_at.round.parent) n) (sym k)
          (behind-kept n i.outer i.outer_at i.before i.is_there k)
      chosen false k =
          subst (λ (b : Bool). Behind (cond b None (Some (i.outer - i.outer_at.number))) (cond b (Some i.outer_at.number) i.outer_at.round.parent) n) (sym k)
          (behind-left n i.outer i.outer_at i.outer_at.round.parent i.before i.is_there k)

  entity-behind : (k : ℕ) (e : NetEntityTree) → slice_get net.entities k ≡ Some e → Behind e.within e.parent (place is_kept all k)
  entity-behind k e at =
      let seen : option_map entity_tree (slice_get (filter is_kept all) k) ≡ Some e = sym (slice_get-map entity_tree (filter is_kept all) k) ∙ ap (λ (es : List NetEntityTree). slice_get es k) (sym are_entities) ∙ at in
      let w = viewed entity_tree (slice_get (filter is_kept all) k) e seen in
      let there = filter-place is_kept all k w.0 w.1 in
      subst (λ (x : NetEntityTree). Behind x.within x.parent (place is_kept all k)) w.2 (behind (place is_kept all k) w.0.round (placed (place is_kept all k) w.0 there).round)

  transparent-behind : (t : ℕ) (c : TransparentTree) → slice_get net.transparent t ≡ Some c → Behind c.within c.parent (place is_left all t)
  transparent-behind t c at =
      let seen : option_map transparent_tree (slice_get (filter is_left all) t) ≡ Some c = sym (slice_get-map transparent_tree (filter is_left all) t) ∙ ap (λ (cs : List TransparentTree). slice_get cs t) (sym are_transparent) ∙ at in
      let w = viewed transparent_tree (slice_get (filter is_left all) t) c seen in
      let there = filter-place is_left all t w.0 w.1 in
      subst (λ (x : TransparentTree). Behind x.within x.parent (place is_left all t)) w.2 (behind (place is_left all t) w.0.round (placed (place is_left all t) w.0 there).round)

  in-order : IsOrdered net
  in-order = record {
    entity_at = place is_kept all;
    transparent_at = place is_left all;
    entities_rise = rises is_kept all;
    transparent_rise = rises is_left all;
    entities = entity-behind;
    transparent = transparent-behind;
  }

pub net-ordered : (job : JobTree) (net : Net) → IsNetOf job net → IsOrdered (net_view net)
net-ordered job net is = in-order (entities job) (net_view net) (all-placed job) is.each_entity is.each_transparent
