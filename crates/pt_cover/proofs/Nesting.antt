-- The net of a job whose actors are leaves: its composites are nested, and all its entities stand in the top.
use Rattle.std.proofs.Common.{◌≡◌, ◌⊎◌, inl, inr, ◌<◌, ◌-◌, ℕ, List, Bool, true, false, not, Option, Some, None, length, map, take, filter, refl, sym, ap, subst, ◌∙◌, arith}
use Rattle.std.specs.Prelude.{IsTrue, option_map}
use Rattle.std.proofs.lemmas.Bool.{cases_order}
use Rattle.std.proofs.lemmas.Option.{none-some, same_Some, slice_get-map, slice_get_cases}
use Rattle.std.specs.List.{count_by, slice_get}
use Rattle.pt_document.specs.Document.{JobTree}
use Rattle.pt_net.specs.declared.net.Net.{Net}
use Rattle.pt_net.specs.Standing.{Standing, Round, is_kept, entities}
use Rattle.pt_net.specs.Net.{NetEntityTree, TransparentTree, IsNetOf, entity_tree, transparent_tree}
use Rattle.pt_scopes.specs.Scopes.{NetTree, net_view, is_composite_class}
use Rattle.pt_scopes.proofs.Places.{place, rises, filter-place, place-count, count-below, counts}
use Rattle.pt_start.specs.Nested.{IsTransparentIn, AreRound, IsNested}
use Rattle.pt_cover.specs.Leaves.{ActorsAreLeaves}
use Rattle.pt_cover.proofs.Walk.{IsHolder, IsLeft, IsWithin, IsTop, ArePlaced, all-placed}

-- ---- what passes a test, by its number among what passes

pub get-within : {X : Type 0} (xs : List X) (i : ℕ) → i < length xs → (x : X) × (slice_get xs i ≡ Some x)
get-within xs i l = elim (slice_get_cases xs i).1 [ inl w ↦ (w.0, w.2) | inr w ↦ absurd (omega (arith, l, w.0)) ]

pub passing-at : {X : Type 0} (p : X → Bool) (xs : List X) (o : ℕ) (x : X) → slice_get xs o ≡ Some x → p x ≡ true → slice_get (filter p xs) (count_by p (take o xs)) ≡ Some x
passing-at p xs o x at passes =
    let w = get-within (filter p xs) (count_by p (take o xs)) (count-below p xs o x at passes) in
    let there : slice_get xs (place p xs (count_by p (take o xs))) ≡ Some w.0 = filter-place p xs (count_by p (take o xs)) w.0 w.1 in
    let both : Some x ≡ Some w.0 = sym at ∙ ap (slice_get xs) (sym (place-count p xs o x at passes)) ∙ there in
    w.1 ∙ sym both

-- places rise with numbers
place-order : {X : Type 0} (p : X → Bool) (xs : List X) (i j : ℕ) → place p xs i < place p xs j → i < j
place-order p xs i j l = elim (cases_order i j) [
  | inl same ↦ (let e : place p xs i ≡ place p xs j = ap (place p xs) same in absurd (omega (arith, e, l)))
  | inr other ↦ elim other as (λ o. i < j) [ inl below ↦ below | inr above ↦ (let r = rises p xs j i above in absurd (omega (arith, r, l))) ]
]

-- an element of a list of views
pub viewed : {X Y : Type 0} (f : X → Y) (o : Option X) (y : Y) → option_map f o ≡ Some y → (x : X) × (o ≡ Some x) × (f x ≡ y)
viewed f None y e = absurd (none-some y e)
viewed f (Some x) y e = (x, refl, same_Some (f x) y e)

-- each entity but the first stands in one before it
pub record IsRooted (net : NetTree) : Type 0 where
  pub top : (e : NetEntityTree) → slice_get net.entities 0 ≡ Some e → e.parent ≡ None
  pub others : (k : ℕ) (e : NetEntityTree) → 0 < k → slice_get net.entities k ≡ Some e → (j : ℕ) × (e.parent ≡ Some j) × (j < k)

module _ (all : List Standing) (net : NetTree) (placed : ArePlaced all) (are_entities : net.entities ≡ map entity_tree (filter is_kept all)) (are_transparent : net.transparent ≡ map transparent_tree (filter (λ s. not (is_kept s)) all)) where
  abbrev is_left : Standing → Bool
  is_left s = not (is_kept s)

  -- ---- from a place in the document to the net

  pub entity-there : (o : ℕ) (u : Standing) → slice_get all o ≡ Some u → is_kept u ≡ true → slice_get net.entities u.number ≡ Some (entity_tree u)
  entity-there o u at kept =
      ap (λ (es : List NetEntityTree). slice_get es u.number) are_entities ∙ slice_get-map entity_tree (filter is_kept all) u.number ∙
      ap (λ (n : ℕ). option_map entity_tree (slice_get (filter is_kept all) n)) (placed o u at).number ∙ ap (option_map entity_tree) (passing-at is_kept all o u at kept)

  left-number : (o : ℕ) (u : Standing) → slice_get all o ≡ Some u → o - u.number ≡ count_by is_left (take o all)
  left-number o u at = let number = (placed o u at).number in let both = counts is_kept all o u at in omega (arith, number, both)

  transparent-there : (o : ℕ) (u : Standing) → slice_get all o ≡ Some u → is_kept u ≡ false → slice_get net.transparent (o - u.number) ≡ Some (transparent_tree u)
  transparent-there o u at out =
      let left : is_left u ≡ true = ap not out in
      ap (λ (cs : List TransparentTree). slice_get cs (o - u.number)) are_transparent ∙ slice_get-map transparent_tree (filter is_left all) (o - u.number) ∙
      ap (λ (n : ℕ). option_map transparent_tree (slice_get (filter is_left all) n)) (left-number o u at) ∙ ap (option_map transparent_tree) (passing-at is_left all o u at left)

  -- ---- and back

  record IsEntityOf (k : ℕ) (e : NetEntityTree) : Type 0 where
    from : Standing
    at : slice_get all (place is_kept all k) ≡ Some from
    is : entity_tree from ≡ e

  entity-from : (k : ℕ) (e : NetEntityTree) → slice_get net.entities k ≡ Some e → IsEntityOf k e
  entity-from k e at =
      let seen : option_map entity_tree (slice_get (filter is_kept all) k) ≡ Some e = sym (slice_get-map entity_tree (filter is_kept all) k) ∙ ap (λ (es : List NetEntityTree). slice_get es k) (sym are_entities) ∙ at in
      let w = viewed entity_tree (slice_get (filter is_kept all) k) e seen in
      record { from = w.0; at = filter-place is_kept all k w.0 w.1; is = w.2 }

  record IsTransparentOf (t : ℕ) (c : TransparentTree) : Type 0 where
    from : Standing
    at : slice_get all (place is_left all t) ≡ Some from
    is : transparent_tree from ≡ c

  transparent-from : (t : ℕ) (c : TransparentTree) → slice_get net.transparent t ≡ Some c → IsTransparentOf t c
  transparent-from t c at =
      let seen : option_map transparent_tree (slice_get (filter is_left all) t) ≡ Some c = sym (slice_get-map transparent_tree (filter is_left all) t) ∙ ap (λ (cs : List TransparentTree). slice_get cs t) (sym are_transparent) ∙ at in
      let w = viewed transparent_tree (slice_get (filter is_left all) t) c seen in
      record { from = w.0; at = filter-place is_left all t w.0 w.1; is = w.2 }

  -- ---- what stands round them

  around-within : (n : ℕ) (round : Round) → IsWithin all n round → AreRound net round.within round.parent
  around-within n round w = record { transparent = λ t is. left t (w.transparent t is); opaque = λ k e is at. held k e is at w.holder }
    where
      left : (t : ℕ) → IsLeft all n t round.parent → IsTransparentIn net t round.parent
      left t l = record { composite = transparent_tree l.left; at = subst (λ (m : ℕ). slice_get net.transparent m ≡ Some (transparent_tree l.left)) l.number_is (transparent-there l.place l.left l.at l.left_out); parent_is = l.parent_is }

      held : (k : ℕ) (e : NetEntityTree) → round.parent ≡ Some k → slice_get net.entities k ≡ Some e → IsHolder all n w.parent → IsTrue (is_composite_class e.class)
      held k e is at h =
          let same : w.parent ≡ k = same_Some w.parent k (sym w.parent_is ∙ is) in
          let both : Some (entity_tree h.holder) ≡ Some e = sym (entity-there h.place h.holder h.at h.kept) ∙ ap (slice_get net.entities) (h.number_is ∙ same) ∙ at in
          subst (λ (x : NetEntityTree). IsTrue (is_composite_class x.class)) (same_Some (entity_tree h.holder) e both) h.holds

  around : (n : ℕ) (round : Round) → IsTop n round ⊎ IsWithin all n round → AreRound net round.within round.parent
  around n round (inl top) = subst (λ (r : Round). AreRound net r.within r.parent) (sym top.1) (record { transparent = λ t is. absurd (none-some t is); opaque = λ k e is at. absurd (none-some k is) })
  around n round (inr w) = around-within n round w

  -- what an entity of this place stands in has a smaller number
  holder-before : (k j : ℕ) (round : Round) → IsTop (place is_kept all k) round ⊎ IsWithin all (place is_kept all k) round → round.parent ≡ Some j → j < k
  holder-before k j round (inl top) is = absurd (none-some j (sym (ap (λ (r : Round). r.parent) top.1) ∙ is))
  holder-before k j round (inr w) is =
      let h = w.holder in
      let same : h.holder.number ≡ j = h.number_is ∙ same_Some w.parent j (sym w.parent_is ∙ is) in
      let back : place is_kept all j ≡ h.place = ap (place is_kept all) (sym same ∙ (placed h.place h.holder h.at).number) ∙ place-count is_kept all h.place h.holder h.at h.kept in
      place-order is_kept all j k (subst (λ (m : ℕ). m < place is_kept all k) (sym back) h.before)

  left-before : (t u : ℕ) (round : Round) → IsTop (place is_left all t) round ⊎ IsWithin all (place is_left all t) round → round.within ≡ Some u → u < t
  left-before t u round (inl top) is = absurd (none-some u (sym (ap (λ (r : Round). r.within) top.1) ∙ is))
  left-before t u round (inr w) is =
      let l = w.transparent u is in
      let out : is_left l.left ≡ true = ap not l.left_out in
      let back : place is_left all u ≡ l.place = ap (place is_left all) (sym l.number_is ∙ left-number l.place l.left l.at) ∙ place-count is_left all l.place l.left l.at out in
      place-order is_left all u t (subst (λ (m : ℕ). m < place is_left all t) (sym back) l.before)

  pub nested : IsNested net
  nested = record {
    entities = λ k e at. (let f = entity-from k e at in subst (λ (x : NetEntityTree). AreRound net x.within x.parent) f.is (around (place is_kept all k) f.from.round (placed (place is_kept all k) f.from f.at).round));
    transparent = λ t c at. (let f = transparent-from t c at in subst (λ (x : TransparentTree). AreRound net x.within x.parent) f.is (around (place is_left all t) f.from.round (placed (place is_left all t) f.from f.at).round));
    parent_before = λ k j e at is. (let f = entity-from k e at in holder-before k j f.from.round (placed (place is_kept all k) f.from f.at).round (ap (λ (x : NetEntityTree). x.parent) f.is ∙ is));
    within_before = λ t u c at is. (let f = transparent-from t c at in left-before t u f.from.round (placed (place is_left all t) f.from f.at).round (ap (λ (x : TransparentTree). x.within) f.is ∙ is));
  }

  -- ---- the top

  top-alone : (e : NetEntityTree) → slice_get net.entities 0 ≡ Some e → e.parent ≡ None
  top-alone e at = of-parent e.parent refl
    where
      of-parent : (o : Option ℕ) → e.parent ≡ o → e.parent ≡ None
      of-parent None is = is
      of-parent (Some j) is = absurd (omega (arith, nested.parent_before 0 j e at is))

  stands-in : (k : ℕ) (e : NetEntityTree) → 0 < k → slice_get net.entities k ≡ Some e → (j : ℕ) × (e.parent ≡ Some j) × (j < k)
  stands-in k e later at =
      let f = entity-from k e at in
      let past : 0 < place is_kept all k = omega (arith, rises is_kept all 0 k later) in
      of-round f.from f.is (placed (place is_kept all k) f.from f.at).round past
    where
      of-round : (s : Standing) → entity_tree s ≡ e → IsTop (place is_kept all k) s.round ⊎ IsWithin all (place is_kept all k) s.round → 0 < place is_kept all k → (j : ℕ) × (e.parent ≡ Some j) × (j < k)
      of-round s is (inl top) past = absurd (omega (arith, top.0, past))
      of-round s is (inr w) past = let p : e.parent ≡ Some w.parent = ap (λ (x : NetEntityTree). x.parent) (sym is) ∙ w.parent_is in (w.parent, p, nested.parent_before k w.parent e at p)

  pub rooted : IsRooted net
  rooted = record { top = top-alone; others = stands-in }

pub net-nested : (job : JobTree) (net : Net) → ActorsAreLeaves job → IsNetOf job net → IsNested (net_view net)
net-nested job net leaves is = nested (entities job) (net_view net) (all-placed job leaves) is.each_entity is.each_transparent

pub net-rooted : (job : JobTree) (net : Net) → ActorsAreLeaves job → IsNetOf job net → IsRooted (net_view net)
net-rooted job net leaves is = rooted (entities job) (net_view net) (all-placed job leaves) is.each_entity is.each_transparent
