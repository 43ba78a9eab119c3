-- The least of a list, and the least tag of entries.
use Rattle.std.proofs.Common.{◌≡◌, zero, suc, Bool, true, cond, List, [], ◌∷◌, ◌++◌, length, map, Option, Some, None, All, Contains, refl, sym, ap, subst, ◌∙◌, arith, inl, inr, ◌⊎◌}
use Rattle.std.proofs.lemmas.Bool.{cases_Bool}
use Rattle.std.proofs.lemmas.List.{append-nil, map-append, length-map, get_or-map, nil_from_length}
use Rattle.std.proofs.lemmas.List.Elements.{All-nil, All-cons, All-weaker, All-append, All-map, All-contains, Contains-append_left, Contains-append_right}
use Rattle.std.proofs.lemmas.List.Sorted.{IsPermutation-map, All-permutation, Contains-permutation, length_permutation}
use Rattle.std.specs.List.Sorted.{IsPermutation}
use Rattle.pt_meaning.specs.Tag.{Tag, tag_le, earlier}
use Rattle.pt_events.specs.Placed.{lesser, least_of}
use Rattle.pt_events.specs.Entries.{Entry}
use Rattle.pt_events.specs.Queue.{first}
use Rattle.pt_events.specs.Stores.{IsLeastTag}
use Rattle.pt_events.proofs.Orders.{IsOrder, itself, tag_le-order}

-- an element that comes before all
pub record IsLeast {X : Type 0} (before : X → X → Bool) (xs : List X) (x : X) : Type 0 where
  pub there : Contains xs x
  pub least : All (λ y. before x y ≡ true) xs

pub contains-head : {X : Type 0} (x : X) (xs : List X) → Contains (x ∷ xs) x
contains-head x xs = (0, omega arith, refl)

pub contains-tail : {X : Type 0} (y : X) (xs : List X) (x : X) → Contains xs x → Contains (y ∷ xs) x
contains-tail y xs x h = (suc h.0, omega (arith, h.1), h.2)

-- an element is the head or in the tail
pub contains-cases : {X : Type 0} (y : X) (ys : List X) (x : X) → Contains (y ∷ ys) x → (y ≡ x) ⊎ Contains ys x
contains-cases y ys x (zero, l, at) = inl at
contains-cases y ys x (suc k, l, at) = inr (k, omega (arith, l), at)

pub contains-map : {X Y : Type 0} (f : X → Y) (xs : List X) (x : X) → Contains xs x → Contains (map f xs) (f x)
contains-map f xs x h = (h.0, omega (arith, h.1, length-map xs f), get_or-map f xs h.0 x (f x) h.1 ∙ ap f h.2)

module _ {X : Type 0} (before : X → X → Bool) (o : IsOrder before) where
  pub is_least : (x : X) (xs : List X) → IsLeast before (x ∷ xs) (lesser before x (least_of before xs))
  is_least x [] = record { there = contains-head x []; least = All-cons (λ y. before x y ≡ true) x [] (itself o x) (All-nil (λ y. before x y ≡ true)) }
  is_least x (y ∷ ys) =
      let m : X = lesser before y (least_of before ys) in
      let rest : IsLeast before (y ∷ ys) m = is_least y ys in
      elim (cases_Bool (before x m)) [
        | inl e ↦ subst (λ b. IsLeast before (x ∷ y ∷ ys) (cond b x m)) (sym e) (record {
          there = contains-head x (y ∷ ys);
          least = All-cons (λ z. before x z ≡ true) x (y ∷ ys) (itself o x) (All-weaker (λ z. before m z ≡ true) (λ z. before x z ≡ true) (λ z h. o.trans x m z e h) (y ∷ ys) rest.least);
        })
        | inr e ↦ subst (λ b. IsLeast before (x ∷ y ∷ ys) (cond b x m)) (sym e) (record {
          there = contains-tail x (y ∷ ys) m rest.there;
          least = All-cons (λ z. before m z ≡ true) x (y ∷ ys) (o.total x m e) rest.least;
        })
      ]

  -- there is one least element at most
  pub least_alone : (xs : List X) (x y : X) → IsLeast before xs x → IsLeast before xs y → x ≡ y
  least_alone xs x y h k = o.antisymm x y (All-contains (λ z. before x z ≡ true) xs y h.least k.there) (All-contains (λ z. before y z ≡ true) xs x k.least h.there)

  pub least_of-is : (xs : List X) (x : X) → IsLeast before xs x → least_of before xs ≡ Some x
  least_of-is [] x h = absurd (omega (arith, h.there.1))
  least_of-is (y ∷ ys) x h = ap Some (least_alone (y ∷ ys) (lesser before y (least_of before ys)) x (is_least y ys) h)

-- the first tag is the least of the tags
sooner : (t : Tag) (o : Option Tag) → earlier (Some t) o ≡ Some (lesser tag_le t o)
sooner t None = refl
sooner t (Some u) = elim (cases_Bool (tag_le t u)) [
  | inl e ↦ ap (λ b. cond b (Some t) (Some u)) e ∙ sym (ap (λ b. Some (cond b t u)) e)
  | inr e ↦ ap (λ b. cond b (Some t) (Some u)) e ∙ sym (ap (λ b. Some (cond b t u)) e)
]

pub first-least_of : (queue : List Entry) → first queue ≡ least_of tag_le (map (λ e. e.tag) queue)
first-least_of [] = refl
first-least_of (e ∷ queue) = ap (earlier (Some e.tag)) (first-least_of queue) ∙ sooner e.tag (least_of tag_le (map (λ e. e.tag) queue))

pub first-is : (entries queue : List Entry) (result : Option Tag) → IsPermutation entries queue → IsLeastTag entries result → result ≡ first queue
first-is entries queue None p h =
    let short : length queue ≡ 0 = length_permutation entries queue p ∙ ap length h in
    sym (ap first (nil_from_length queue short))
first-is entries queue (Some tag) p h =
    let l : IsLeast tag_le (map (λ e. e.tag) queue) tag = record {
      there = Contains-permutation (map (λ e. e.tag) entries) (map (λ e. e.tag) queue) tag (IsPermutation-map (λ e. e.tag) entries queue p) h.0;
      least = All-map (λ t. tag_le tag t ≡ true) (λ e. e.tag) queue (All-permutation (λ e. tag_le tag e.tag ≡ true) entries queue p h.1);
    } in
    sym (first-least_of queue ∙ least_of-is tag_le tag_le-order (map (λ e. e.tag) queue) tag l)

-- the lesser of the least tags of two lists is that of both
pub earlier-least : (xs ys : List Entry) (a b : Option Tag) → IsLeastTag xs a → IsLeastTag ys b → IsLeastTag (xs ++ ys) (earlier a b)
earlier-least xs ys None b h k = subst (λ l. IsLeastTag (l ++ ys) b) (sym h) k
earlier-least xs ys (Some a) None h k = subst (λ l. IsLeastTag (xs ++ l) (Some a)) (sym k) (subst (λ l. IsLeastTag l (Some a)) (sym (append-nil xs)) h)
earlier-least xs ys (Some a) (Some b) h k = elim (cases_Bool (tag_le a b)) [
  | inl e ↦ subst (λ t. IsLeastTag (xs ++ ys) (cond t (Some a) (Some b))) (sym e) (
    subst (λ l. Contains l a) (sym (map-append (λ e. e.tag) xs ys)) (Contains-append_left (map (λ e. e.tag) xs) (map (λ e. e.tag) ys) a h.0),
    All-append (λ e. tag_le a e.tag ≡ true) xs ys h.1 (All-weaker (λ e. tag_le b e.tag ≡ true) (λ e. tag_le a e.tag ≡ true) (λ z l. tag_le-order.trans a b z.tag e l) ys k.1),
  )
  | inr e ↦ subst (λ t. IsLeastTag (xs ++ ys) (cond t (Some a) (Some b))) (sym e) (
    subst (λ l. Contains l b) (sym (map-append (λ e. e.tag) xs ys)) (Contains-append_right (map (λ e. e.tag) xs) (map (λ e. e.tag) ys) b k.0),
    All-append (λ e. tag_le b e.tag ≡ true) xs ys (All-weaker (λ e. tag_le a e.tag ≡ true) (λ e. tag_le b e.tag ≡ true) (λ z l. tag_le-order.trans b a z.tag (tag_le-order.total a b e) l) xs h.1) k.1,
  )
]

pub least-one : (e : Entry) → IsLeastTag (e ∷ []) (Some e.tag)
least-one e = (contains-head e.tag [], All-cons (λ f. tag_le e.tag f.tag ≡ true) e [] (itself tag_le-order e.tag) (All-nil (λ f. tag_le e.tag f.tag ≡ true)))
