-- Lists of which one element is changed.
use Rattle.std.proofs.Common.{◌≡◌, ℕ, zero, suc, ◌<◌, List, [], ◌∷◌, false, nat_eq, length, map, set, get_or, Result, Ok, Err, OnOk, OnErr, refl, ap, ◌∙◌, arith}
use Rattle.std.proofs.lemmas.Bool.Decides.{nat_tests}
use Rattle.pt_meaning.specs.Streams.{change_at}

pub change-set : {A : Type 0} (xs : List A) (i : ℕ) (x y : A) (f : A → A) → i < length xs → x ≡ get_or xs i x → y ≡ f x → set xs i y ≡ change_at i f xs
change-set [] i x y f h e z = absurd (omega (arith, h))
change-set (w ∷ xs) zero x y f h e z = ap (λ v. v ∷ xs) (z ∙ ap f e)
change-set (w ∷ xs) (suc i) x y f h e z = ap (λ v. w ∷ v) (change-set xs i x y f (omega (arith, h)) e z)

pub set-same : {A : Type 0} (xs : List A) (i : ℕ) (x y : A) → x ≡ get_or xs i x → y ≡ x → set xs i y ≡ xs
set-same [] i x y e z = refl
set-same (w ∷ xs) zero x y e z = ap (λ v. v ∷ xs) (z ∙ e)
set-same (w ∷ xs) (suc i) x y e z = ap (λ v. w ∷ v) (set-same xs i x y e z)

pub read-as : {A : Type 0} (xs : List A) (i : ℕ) (x d : A) → i < length xs → x ≡ get_or xs i x → x ≡ get_or xs i d
read-as [] i x d h e = absurd (omega (arith, h))
read-as (w ∷ xs) zero x d h e = e
read-as (w ∷ xs) (suc i) x d h e = read-as xs i x d (omega (arith, h)) e

pub change-at : {A : Type 0} (xs : List A) (i : ℕ) (d : A) (f : A → A) → i < length xs → get_or (change_at i f xs) i d ≡ f (get_or xs i d)
change-at [] i d f h = absurd (omega (arith, h))
change-at (w ∷ xs) zero d f h = refl
change-at (w ∷ xs) (suc i) d f h = change-at xs i d f (omega (arith, h))

pub change-other : {A : Type 0} (xs : List A) (i j : ℕ) (d : A) (f : A → A) → nat_eq i j ≡ false → get_or (change_at i f xs) j d ≡ get_or xs j d
change-other [] i j d f e = refl
change-other (w ∷ xs) zero zero d f e = absurd (cc)
change-other (w ∷ xs) zero (suc j) d f e = refl
change-other (w ∷ xs) (suc i) zero d f e = refl
change-other (w ∷ xs) (suc i) (suc j) d f e = change-other xs i j d f (next i j e)
  where
    next : (c d : ℕ) → nat_eq (suc c) (suc d) ≡ false → nat_eq c d ≡ false
    next c d e = grind (arith, nat_tests)

pub change-long : {A : Type 0} (xs : List A) (i : ℕ) (f : A → A) → length (change_at i f xs) ≡ length xs
change-long [] i f = refl
change-long (w ∷ xs) zero f = refl
change-long (w ∷ xs) (suc i) f = ap (λ v. suc v) (change-long xs i f)

pub map-change : {A B : Type 0} (m : A → B) (g : A → A) (h : B → B) (xs : List A) (i : ℕ) → ((x : A) → m (g x) ≡ h (m x)) → map m (change_at i g xs) ≡ change_at i h (map m xs)
map-change m g h [] i e = refl
map-change m g h (w ∷ xs) zero e = ap (λ v. v ∷ map m xs) (e w)
map-change m g h (w ∷ xs) (suc i) e = ap (λ v. m w ∷ v) (map-change m g h xs i e)

pub map-kept : {A B : Type 0} (m : A → B) (g : A → A) (xs : List A) (i : ℕ) → ((x : A) → m (g x) ≡ m x) → map m (change_at i g xs) ≡ map m xs
map-kept m g [] i e = refl
map-kept m g (w ∷ xs) zero e = ap (λ v. v ∷ map m xs) (e w)
map-kept m g (w ∷ xs) (suc i) e = ap (λ v. m w ∷ v) (map-kept m g xs i e)

-- what follows from success, or from failure
pub where-ok : {A E : Type 0} (r : Result A E) {P Q : Type 0} → (P → Q) → OnOk r P → OnOk r Q
where-ok (Ok x) f p = f p
where-ok (Err e) f p = tt

pub where-err : {A E : Type 0} (r : Result A E) {P Q : Type 0} → (P → Q) → OnErr r P → OnErr r Q
where-err (Ok x) f p = tt
where-err (Err e) f p = f p
