-- Streams of tokens of given kinds.
use Rattle.std.proofs.Common.{◌≡◌, ℕ, zero, suc, ◌+◌, ◌≤◌, ◌<◌, List, [], ◌∷◌, ◌++◌, length, take, drop, Option, Some, None, refl, ap, subst, arith, ◌∙◌}
use Rattle.std.specs.List.{AllByRecursion}
use Rattle.pt_meaning.specs.Basics.{Streams, at}
use Rattle.pt_meaning.specs.Streams.{get}
use Rattle.pt_meaning.specs.Machine.{Partial, Unknown, Known, partial_at}
use Rattle.pt_meaning.specs.Closed.{Has as IsOneOf}
use Rattle.pt_kinds.specs.Signature.{AllOf, AreOf, AreKnownOf}
use Rattle.pt_kinds.proofs.MemberLaws.{all-has, all-of-has}

module _ {T : Type 0} (P : T → Type 0) where
  pub all-append : (xs ys : List T) → AllByRecursion P xs → AllByRecursion P ys → AllByRecursion P (xs ++ ys)
  all-append [] ys a b = b
  all-append (x ∷ xs) ys a b = (a.0, all-append xs ys a.1 b)

  pub all-take : (n : ℕ) (xs : List T) → AllByRecursion P xs → AllByRecursion P (take n xs)
  all-take zero xs a = tt
  all-take (suc n) [] a = tt
  all-take (suc n) (x ∷ xs) a = (a.0, all-take n xs a.1)

  pub all-drop : (n : ℕ) (xs : List T) → AllByRecursion P xs → AllByRecursion P (drop n xs)
  all-drop zero xs a = a
  all-drop (suc n) [] a = tt
  all-drop (suc n) (x ∷ xs) a = all-drop n xs a.1

pub all-mono : {T : Type 0} (P Q : T → Type 0) → ((x : T) → P x → Q x) → (xs : List T) → AllByRecursion P xs → AllByRecursion Q xs
all-mono P Q h [] a = tt
all-mono P Q h (x ∷ xs) a = (h x a.0, all-mono P Q h xs a.1)

module _ {T K : Type 0} (Has : K → T → Type 0) where
  -- the tokens of a port: none where there is no such port
  abbrev pub AreGiven : Option K → List T → Type 0
  AreGiven None xs = xs ≡ []
  AreGiven (Some k) xs = AllOf Has k xs

  pub at-given : (ks : List K) (X : Streams T) (n : ℕ) → AreOf Has ks X → AreGiven (get ks n) (at X n)
  at-given [] [] n a = refl
  at-given [] (xs ∷ X) n a = absurd a
  at-given (k ∷ ks) [] zero a = tt
  at-given (k ∷ ks) [] (suc n) a = at-given ks [] n tt
  at-given (k ∷ ks) (xs ∷ X) zero a = a.0
  at-given (k ∷ ks) (xs ∷ X) (suc n) a = at-given ks X n a.1

  -- ---- token by token

  -- a token of a port, which has to be there
  abbrev pub IsGiven : Option K → T → Type 0
  IsGiven None x = ⊥
  IsGiven (Some k) x = Has k x

  pub one-given : (o : Option K) (xs : List T) (x : T) → AreGiven o xs → IsOneOf x xs → IsGiven o x
  one-given None xs x a h = subst (λ ys. IsOneOf x ys) a h
  one-given (Some k) xs x a h = all-has (Has k) x xs a h

  pub known-given : (ks : List K) (vs : List (Partial T)) (n : ℕ) (xs : List T) (x : T) → AreKnownOf Has ks vs → partial_at vs n ≡ Known xs → IsOneOf x xs → IsGiven (get ks n) x
  known-given ks [] n xs x a e h = absurd (cc)
  known-given [] (Unknown ∷ vs) zero xs x a e h = absurd (cc)
  known-given [] (Unknown ∷ vs) (suc n) xs x a e h = known-given [] vs n xs x a e h
  known-given [] (Known ys ∷ vs) n xs x a e h = absurd a
  known-given (k ∷ ks) (Unknown ∷ vs) zero xs x a e h = absurd (cc)
  known-given (k ∷ ks) (Unknown ∷ vs) (suc n) xs x a e h = known-given ks vs n xs x a e h
  known-given (k ∷ ks) (Known ys ∷ vs) zero xs x a e h = let same : xs ≡ ys = cc in all-has (Has k) x ys a.0 (subst (λ zs. IsOneOf x zs) same h)
  known-given (k ∷ ks) (Known ys ∷ vs) (suc n) xs x a e h = known-given ks vs n xs x a.1 e h

  pub of-count : (ks : List K) (X : Streams T) → AreOf Has ks X → length X ≤ length ks
  of-count ks [] a = omega arith
  of-count [] (xs ∷ X) a = absurd a
  of-count (k ∷ ks) (xs ∷ X) a = let r = of-count ks X a.1 in omega (arith, r)

  -- a token of streams of these kinds is of the kind of its stream
  pub on-of : (ks : List K) (X : Streams T) → AreOf Has ks X → (n : ℕ) (k : K) (x : T) → IsOneOf x (at X n) → get ks n ≡ Some k → Has k x
  on-of ks X a n k x h e = subst (λ o. IsGiven o x) e (one-given (get ks n) (at X n) x (at-given ks X n a) h)

  -- no more streams than kinds, whose tokens are of these
  pub each-of : (ks : List K) (X : Streams T) → length X ≤ length ks → ((n : ℕ) (k : K) (x : T) → get ks n ≡ Some k → IsOneOf x (at X n) → Has k x) → AreOf Has ks X
  each-of ks [] l h = tt
  each-of [] (xs ∷ X) l h = absurd (omega (arith, l))
  each-of (k ∷ ks) (xs ∷ X) l h = (all-of-has (Has k) xs (λ x m. h 0 k x refl m), each-of ks X (omega (arith, l)) (λ n j x e m. h (suc n) j x e m))

  pub each-known : (ks : List K) (vs : List (Partial T)) → length vs ≤ length ks → ((n : ℕ) (k : K) (xs : List T) (x : T) → get ks n ≡ Some k → partial_at vs n ≡ Known xs → IsOneOf x xs → Has k x) → AreKnownOf Has ks vs
  each-known ks [] l h = tt
  each-known [] (v ∷ vs) l h = absurd (omega (arith, l))
  each-known (k ∷ ks) (Unknown ∷ vs) l h = each-known ks vs (omega (arith, l)) (λ n j xs x e f m. h (suc n) j xs x e f m)
  each-known (k ∷ ks) (Known ys ∷ vs) l h = (all-of-has (Has k) ys (λ x m. h 0 k ys x refl refl m), each-known ks vs (omega (arith, l)) (λ n j xs x e f m. h (suc n) j xs x e f m))

-- ---- what lists have at numbers

pub get-left : {A : Type 0} (xs ys : List A) (n : ℕ) (x : A) → get xs n ≡ Some x → get (xs ++ ys) n ≡ Some x
get-left [] ys n x e = absurd (cc)
get-left (y ∷ xs) ys zero x e = e
get-left (y ∷ xs) ys (suc n) x e = get-left xs ys n x e

pub get-right : {A : Type 0} (xs ys : List A) (n : ℕ) → get (xs ++ ys) (length xs + n) ≡ get ys n
get-right [] ys n = let e : 0 + n ≡ n = omega arith in ap (λ m. get ys m) e
get-right (y ∷ xs) ys n = let e : suc (length xs) + n ≡ suc (length xs + n) = omega arith in ap (λ m. get (y ∷ (xs ++ ys)) m) e ∙ get-right xs ys n

pub get-within : {A : Type 0} (xs : List A) (n : ℕ) (x : A) → get xs n ≡ Some x → n < length xs
get-within [] n x e = absurd (cc)
get-within (y ∷ xs) zero x e = omega arith
get-within (y ∷ xs) (suc n) x e = let r = get-within xs n x e in omega (arith, r)
