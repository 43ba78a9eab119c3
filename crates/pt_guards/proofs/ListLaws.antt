-- Lists that are copied one after another.
use Rattle.std.proofs.Common.{◌≡◌, ℕ, zero, suc, ◌<◌, ◌≤◌, ◌+◌, List, [], ◌∷◌, ◌++◌, length, take, map, get_or, Option, refl, ap, ◌∙◌, arith}
use Rattle.pt_meaning.specs.Streams.{Streams, at, change_at}
use Rattle.pt_meaning.specs.Modal.{picked, shown, at_port}
use Rattle.std.specs.Prelude.{set}

pub picked-map : {T : Type 0} (ps : List ℕ) (X : Streams T) → map (λ p. at X p) ps ≡ picked ps X
picked-map [] X = refl
picked-map (p ∷ ps) X = ap (λ r. at X p ∷ r) (picked-map ps X)

pub shown-map : {T : Type 0} (ps : List (Option ℕ)) (X : Streams T) → map (λ p. at_port p X) ps ≡ shown ps X
shown-map [] X = refl
shown-map (p ∷ ps) X = ap (λ r. at_port p X ∷ r) (shown-map ps X)

-- one list more
pub next-list : {T : Type 0} (X : Streams T) (n : ℕ) → n < length X → take n X ++ (at X n ∷ []) ≡ take (n + 1) X
next-list [] n short = absurd (omega (arith, short))
next-list (x ∷ X) zero short = refl
next-list (x ∷ X) (suc n) short = ap (λ r. x ∷ r) (next-list X n (omega (arith, short))) ∙ ap (λ m. take m (x ∷ X)) (more n)
  where
    more : (n : ℕ) → suc (n + 1) ≡ suc n + 1
    more n = omega arith

-- an element that is changed is set, where it is there
pub change-there : {A : Type 0} (i : ℕ) (f : A → A) (xs : List A) (x y : A) → i < length xs → x ≡ get_or xs i x → y ≡ f x → set xs i y ≡ change_at i f xs
change-there i f [] x y short is new = absurd (omega (arith, short))
change-there zero f (z ∷ xs) x y short is new = ap (λ w. w ∷ xs) (new ∙ ap f is)
change-there (suc i) f (z ∷ xs) x y short is new = ap (λ ws. z ∷ ws) (change-there i f xs x y (omega (arith, short)) is new)

pub change-past : {A : Type 0} (i : ℕ) (f : A → A) (xs : List A) → length xs ≤ i → xs ≡ change_at i f xs
change-past i f [] past = refl
change-past zero f (x ∷ xs) past = absurd (omega (arith, past))
change-past (suc i) f (x ∷ xs) past = ap (λ ws. x ∷ ws) (change-past i f xs (omega (arith, past)))

-- a constant needs no element that is there
pub change-const : {A : Type 0} (i : ℕ) (y : A) (xs : List A) → i < length xs → set xs i y ≡ change_at i (λ old. y) xs
change-const i y [] short = absurd (omega (arith, short))
change-const zero y (z ∷ xs) short = refl
change-const (suc i) y (z ∷ xs) short = ap (λ ws. z ∷ ws) (change-const i y xs (omega (arith, short)))

-- the ports of a refinement
pub ports-there : {A B : Type 0} (view : A → B) (xs : List A) (n : ℕ) (x : A) (d : B) → n < length xs → x ≡ get_or xs n x → view x ≡ get_or (map view xs) n d
ports-there view [] n x d short is = absurd (omega (arith, short))
ports-there view (y ∷ xs) zero x d short is = ap view is
ports-there view (y ∷ xs) (suc n) x d short is = ports-there view xs n x d (omega (arith, short)) is

pub ports-past : {A B : Type 0} (view : A → B) (xs : List A) (n : ℕ) (d : B) → length xs ≤ n → d ≡ get_or (map view xs) n d
ports-past view [] n d past = refl
ports-past view (y ∷ xs) zero d past = absurd (omega (arith, past))
ports-past view (y ∷ xs) (suc n) d past = ports-past view xs n d (omega (arith, past))

pub next-copy : {T : Type 0} (X : Streams T) (n : ℕ) (copies : Streams T) (x : List T) → n < length X → copies ≡ take n X → x ≡ at X n → (copies' : Streams T) → copies' ≡ copies ++ (x ∷ []) → copies' ≡ take (n + 1) X
next-copy {T} X n copies x short so-far is copies' pushed = pushed ∙ ap (λ (v : Streams T). v ++ (x ∷ [])) so-far ∙ ap (λ (y : List T). take n X ++ (y ∷ [])) is ∙ next-list X n short

pub whole : {T : Type 0} (xs : List T) (n : ℕ) → length xs ≤ n → take n xs ≡ xs
whole [] zero past = refl
whole [] (suc n) past = refl
whole (x ∷ xs) zero past = absurd (omega (arith, past))
whole (x ∷ xs) (suc n) past = ap (λ r. x ∷ r) (whole xs n (omega (arith, past)))
