-- What is in a list that is made of others.
use Rattle.std.proofs.Common.{◌≡◌, ℕ, zero, suc, ◌+◌, ◌<◌, ◌⊎◌, inl, inr, Option, Some, None, List, [], ◌∷◌, ◌++◌, length, get_or, take, map, refl, sym, ap, subst, ◌∙◌, arith}
use Rattle.std.proofs.lemmas.List.{take_more, append-nil, length-take-le}
use Rattle.std.proofs.lemmas.List.Concat.{flat_map-append}
use Rattle.std.proofs.lemmas.List.Elements.{Contains-append_left, Contains-append_right, Contains-append_cases}
use Rattle.std.proofs.lemmas.Option.{slice_get-get_or, slice_get_within, get_or_from_slice_get}
use Rattle.std.specs.List.{AllZip, Contains, filter_map, cons_option, flat_map, enumerate_from, slice_get}

pub contains_here : {X : Type 0} (x : X) (xs : List X) → Contains (x ∷ xs) x
contains_here x xs = (0, omega arith, refl)

pub contains_later : {X : Type 0} (x : X) (xs : List X) (y : X) → Contains xs y → Contains (x ∷ xs) y
contains_later x xs y w = (suc w.0, omega (arith, w.1), w.2)

none_in_nil : {X : Type 0} (y : X) → Contains [] y → ⊥
none_in_nil y w = omega (arith, w.1)

pub contains_cases : {X : Type 0} (x : X) (xs : List X) (y : X) → Contains (x ∷ xs) y → (x ≡ y) ⊎ Contains xs y
contains_cases x xs y w = Contains-append_cases_one (Contains-append_cases (x ∷ []) xs y w)
  where
    Contains-append_cases_one : Contains (x ∷ []) y ⊎ Contains xs y → (x ≡ y) ⊎ Contains xs y
    Contains-append_cases_one (inl h) = inl (at h.0 h.1 h.2)
      where
        at : (k : ℕ) → k < 1 → get_or (x ∷ []) k y ≡ y → x ≡ y
        at zero below e = e
        at (suc k) below e = absurd (omega (arith, below))
    Contains-append_cases_one (inr h) = inr h

pub contains_map : {X Y : Type 0} (f : X → Y) (xs : List X) (x : X) → Contains xs x → Contains (map f xs) (f x)
contains_map f [] x w = absurd (none_in_nil x w)
contains_map f (z ∷ zs) x w = elim (contains_cases z zs x w) [ inl e ↦ subst (λ u. Contains (map f (z ∷ zs)) (f u)) e (contains_here (f z) (map f zs)) | inr h ↦ contains_later (f z) (map f zs) (f x) (contains_map f zs x h) ]

pub map_contains : {X Y : Type 0} (f : X → Y) (xs : List X) (y : Y) → Contains (map f xs) y → (x : X) × Contains xs x × (f x ≡ y)
map_contains f [] y w = absurd (none_in_nil y w)
map_contains f (z ∷ zs) y w =
    elim (contains_cases (f z) (map f zs) y w) [
      | inl e ↦ (z, contains_here z zs, e)
      | inr h ↦ (let v = map_contains f zs y h in (v.0, contains_later z zs v.0 v.1, v.2))
    ]

pub contains_filter_map : {X Y : Type 0} (f : X → Option Y) (xs : List X) (x : X) (y : Y) → Contains xs x → f x ≡ Some y → Contains (filter_map f xs) y
contains_filter_map f [] x y w e = absurd (none_in_nil x w)
contains_filter_map {Y = Y} f (z ∷ zs) x y w e = elim (contains_cases z zs x w) [ inl h ↦ now (ap f h ∙ e) | inr h ↦ later (f z) (contains_filter_map f zs x y h e) ]
  where
    now : f z ≡ Some y → Contains (cons_option (f z) (filter_map f zs)) y
    now g = subst (λ (o : Option Y). Contains (cons_option o (filter_map f zs)) y) (sym g) (contains_here y (filter_map f zs))

    later : (o : Option Y) → Contains (filter_map f zs) y → Contains (cons_option o (filter_map f zs)) y
    later None h = h
    later (Some v) h = contains_later v (filter_map f zs) y h

pub filter_map_contains : {X Y : Type 0} (f : X → Option Y) (xs : List X) (y : Y) → Contains (filter_map f xs) y → (x : X) × Contains xs x × (f x ≡ Some y)
filter_map_contains f [] y w = absurd (none_in_nil y w)
filter_map_contains {X = X} {Y = Y} f (z ∷ zs) y w = chosen (f z) refl w (λ h. filter_map_contains f zs y h)
  where
    chosen : (o : Option Y) → f z ≡ o → Contains (cons_option o (filter_map f zs)) y → (Contains (filter_map f zs) y → (x : X) × Contains zs x × (f x ≡ Some y)) → (x : X) × Contains (z ∷ zs) x × (f x ≡ Some y)
    chosen None e v rest = let r = rest v in (r.0, contains_later z zs r.0 r.1, r.2)
    chosen (Some u) e v rest =
        elim (contains_cases u (filter_map f zs) y v) [
          | inl h ↦ (z, contains_here z zs, e ∙ ap Some h)
          | inr h ↦ (let r = rest h in (r.0, contains_later z zs r.0 r.1, r.2))
        ]

pub contains_flat_map : {X Y : Type 0} (f : X → List Y) (xs : List X) (x : X) (y : Y) → Contains xs x → Contains (f x) y → Contains (flat_map f xs) y
contains_flat_map f [] x y w h = absurd (none_in_nil x w)
contains_flat_map f (z ∷ zs) x y w h =
    elim (contains_cases z zs x w) [
      | inl e ↦ Contains-append_left (f z) (flat_map f zs) y (subst (λ u. Contains (f u) y) (sym e) h)
      | inr v ↦ Contains-append_right (f z) (flat_map f zs) y (contains_flat_map f zs x y v h)
    ]

pub flat_map_contains : {X Y : Type 0} (f : X → List Y) (xs : List X) (y : Y) → Contains (flat_map f xs) y → (x : X) × Contains xs x × Contains (f x) y
flat_map_contains f [] y w = absurd (none_in_nil y w)
flat_map_contains f (z ∷ zs) y w =
    elim (Contains-append_cases (f z) (flat_map f zs) y w) [
      | inl h ↦ (z, contains_here z zs, h)
      | inr h ↦ (let r = flat_map_contains f zs y h in (r.0, contains_later z zs r.0 r.1, r.2))
    ]

pub contains_slice : {X : Type 0} (xs : List X) (i : ℕ) (x : X) → slice_get xs i ≡ Some x → Contains xs x
contains_slice xs i x e = (i, slice_get_within xs i x e, get_or_from_slice_get xs i x x e)

pub slice_contains : {X : Type 0} (xs : List X) (x : X) → Contains xs x → (i : ℕ) × (slice_get xs i ≡ Some x)
slice_contains xs x w = (w.0, slice_get-get_or xs w.0 x w.1 ∙ ap Some w.2)

pub contains_enumerate : {X : Type 0} (n : ℕ) (xs : List X) (i : ℕ) (x : X) → slice_get xs i ≡ Some x → Contains (enumerate_from n xs) (n + i, x)
contains_enumerate n [] i x e = let h : None ≡ Some x = e in absurd cc
contains_enumerate n (z ∷ zs) zero x e =
    let h : z ≡ x = cc in
    let k : n ≡ n + 0 = omega arith in
    subst (λ m. Contains (enumerate_from n (z ∷ zs)) (m, x)) k (subst (λ u. Contains (enumerate_from n (z ∷ zs)) (n, u)) h (contains_here (n, z) (enumerate_from (n + 1) zs)))
contains_enumerate n (z ∷ zs) (suc i) x e =
    let k : n + 1 + i ≡ n + suc i = omega arith in
    contains_later (n, z) (enumerate_from (n + 1) zs) (n + suc i, x) (subst (λ m. Contains (enumerate_from (n + 1) zs) (m, x)) k (contains_enumerate (n + 1) zs i x e))

pub enumerate_contains : {X : Type 0} (n : ℕ) (xs : List X) (q : ℕ × X) → Contains (enumerate_from n xs) q → (i : ℕ) × (q.0 ≡ n + i) × (slice_get xs i ≡ Some q.1)
enumerate_contains n [] q w = absurd (none_in_nil q w)
enumerate_contains n (z ∷ zs) q w =
    elim (contains_cases (n, z) (enumerate_from (n + 1) zs) q w) [
      | inl e ↦ (let a : n ≡ q.0 = ap (λ p. p.0) e in (0, omega (arith, a), ap (λ p. Some p.1) e))
      | inr h ↦ (let r = enumerate_contains (n + 1) zs q h in (suc r.0, omega (arith, r.1), r.2))
    ]

pub enumerate-push : {X : Type 0} (n : ℕ) (xs : List X) (y : X) → enumerate_from n (xs ++ y ∷ []) ≡ enumerate_from n xs ++ (n + length xs, y) ∷ []
enumerate-push n [] y = ap (λ m. (m, y) ∷ []) (let e : n ≡ n + 0 = omega arith in e)
enumerate-push n (x ∷ xs) y = ap (λ zs. (n, x) ∷ zs) (enumerate-push (n + 1) xs y ∙ ap (λ m. enumerate_from (n + 1) xs ++ (m, y) ∷ []) (let e : n + 1 + length xs ≡ n + length (x ∷ xs) = omega arith in e))

-- what the items so far give, with one item more
pub flat_more : {X Y : Type 0} (f : ℕ × X → List Y) (xs : List X) (i : ℕ) (x : X) → i < length xs → get_or xs i x ≡ x → flat_map f (enumerate_from 0 (take (i + 1) xs)) ≡ flat_map f (enumerate_from 0 (take i xs)) ++ f (i, x)
flat_more {X = X} {Y = Y} f xs i x within is =
    ap (λ (ps : List X). flat_map f (enumerate_from 0 ps)) (take_more xs i x within)
    ∙ ap (λ (q : X). flat_map f (enumerate_from 0 (take i xs ++ q ∷ []))) is
    ∙ ap (λ (qs : List (ℕ × X)). flat_map f qs) (enumerate-push 0 (take i xs) x)
    ∙ flat_map-append f (enumerate_from 0 (take i xs)) ((0 + length (take i xs), x) ∷ [])
    ∙ ap (λ (ys : List Y). flat_map f (enumerate_from 0 (take i xs)) ++ ys) (append-nil (f (0 + length (take i xs), x)))
    ∙ ap (λ (n : ℕ). flat_map f (enumerate_from 0 (take i xs)) ++ f (n, x)) (let l = length-take-le i xs (omega arith) in let z : 0 + length (take i xs) ≡ i = omega (arith, l) in z)

-- ---- two lists place by place

pub zip_append : {A B : Type 0} (R : A → B → Type 0) (xs xs' : List A) (ys ys' : List B) → AllZip R xs ys → AllZip R xs' ys' → AllZip R (xs ++ xs') (ys ++ ys')
zip_append R [] xs' [] ys' z w = w
zip_append R [] xs' (y ∷ ys) ys' z w = absurd z
zip_append R (x ∷ xs) xs' [] ys' z w = absurd z
zip_append R (x ∷ xs) xs' (y ∷ ys) ys' z w = (z.0, zip_append R xs xs' ys ys' z.1 w)

pub zip_push : {A B : Type 0} (R : A → B → Type 0) (xs : List A) (ys : List B) (x : A) (y : B) → AllZip R xs ys → R x y → AllZip R (xs ++ x ∷ []) (ys ++ y ∷ [])
zip_push R xs ys x y z r = zip_append R xs (x ∷ []) ys (y ∷ []) z (r, tt)

pub zip_weaker : {A B : Type 0} (R S : A → B → Type 0) → ((x : A) (y : B) → R x y → S x y) → (xs : List A) (ys : List B) → AllZip R xs ys → AllZip S xs ys
zip_weaker R S f [] [] z = tt
zip_weaker R S f [] (y ∷ ys) z = absurd z
zip_weaker R S f (x ∷ xs) [] z = absurd z
zip_weaker R S f (x ∷ xs) (y ∷ ys) z = (f x y z.0, zip_weaker R S f xs ys z.1)

pub zip_length : {A B : Type 0} (R : A → B → Type 0) (xs : List A) (ys : List B) → AllZip R xs ys → length xs ≡ length ys
zip_length R [] [] z = refl
zip_length R [] (y ∷ ys) z = absurd z
zip_length R (x ∷ xs) [] z = absurd z
zip_length R (x ∷ xs) (y ∷ ys) z = ap suc (zip_length R xs ys z.1)

pub zip_left : {A B : Type 0} (R : A → B → Type 0) (xs : List A) (ys : List B) (x : A) → AllZip R xs ys → Contains xs x → (y : B) × Contains ys y × R x y
zip_left R [] ys x z w = absurd (none_in_nil x w)
zip_left R (a ∷ as') [] x z w = absurd z
zip_left R (a ∷ as') (b ∷ bs) x z w =
    elim (contains_cases a as' x w) [
      | inl e ↦ (b, contains_here b bs, subst (λ u. R u b) e z.0)
      | inr h ↦ (let r = zip_left R as' bs x z.1 h in (r.0, contains_later b bs r.0 r.1, r.2))
    ]

pub zip_right : {A B : Type 0} (R : A → B → Type 0) (xs : List A) (ys : List B) (y : B) → AllZip R xs ys → Contains ys y → (x : A) × Contains xs x × R x y
zip_right R [] [] y z w = absurd (none_in_nil y w)
zip_right R [] (b ∷ bs) y z w = absurd z
zip_right R (a ∷ as') [] y z w = absurd z
zip_right R (a ∷ as') (b ∷ bs) y z w =
    elim (contains_cases b bs y w) [
      | inl e ↦ (a, contains_here a as', subst (λ u. R a u) e z.0)
      | inr h ↦ (let r = zip_right R as' bs y z.1 h in (r.0, contains_later a as' r.0 r.1, r.2))
    ]
