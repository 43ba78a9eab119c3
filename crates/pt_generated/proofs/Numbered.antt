-- Names with a number behind them: they are names, and differ where their numbers do.
use Rattle.std.proofs.Common.{◌≡◌, ℕ, zero, suc, ◌+◌, ◌%◌, ◌^◌, ◌<◌, ◌≤◌, List, [], ◌∷◌, ◌++◌, Bool, true, false, ◌&&◌, ◌||◌, cond, length, map, refl, sym, ap, ap₂, ◌∙◌, bytes_eq, nat_le, nat_lt, decimal, arith, append_assoc, append-nil}
use Rattle.std.specs.List.{list_all, range_with_len, AllByRecursion}
use Rattle.std.proofs.lemmas.Bool.{false_from_ne_true, le-leb, lt-leb, lt-ltb}
use Rattle.std.proofs.lemmas.Fmt.{decimal_by_steps, decimal_injective, length-decimal-le}
use Rattle.std.proofs.lemmas.List.Folds.{list_all-append, list_any-append}
use Rattle.std.proofs.lemmas.Slice.Eq.{bytes_eq-Decides}
use Rattle.pt_document.specs.Names.{is_first, is_later, is_name, has_name, are_distinct_after}

-- ---- they are names

or-true : (b : Bool) → (b || true) ≡ true
or-true true = refl
or-true false = refl

both : (a b : Bool) → a ≡ true → b ≡ true → (a && b) ≡ true
both true b p q = q
both false b p q = p

digit_is_later : (d : ℕ) → d < 10 → is_later (48 + d) ≡ true
digit_is_later d h =
    ap₂ (λ (a b : Bool). is_first (48 + d) || (a && b)) (le-leb 48 (48 + d) (omega arith)) (le-leb (48 + d) 57 (omega (arith, h))) ∙ or-true (is_first (48 + d))

-- what each digit keeps, each digit of a number keeps
module _ (p : ℕ → Bool) (each : (d : ℕ) → d < 10 → p (48 + d) ≡ true) where
  pub digits_keep : (n : ℕ) → n < 2 ^ 64 → list_all p (decimal n) ≡ true
  digits_keep = decimal_by_steps (λ _ ds. list_all p ds ≡ true) one more
    where
      one : (n : ℕ) → n < 10 → list_all p ((48 + n) ∷ []) ≡ true
      one n h = both (p (48 + n)) true (each n h) refl

      more : (n : ℕ) (ds : List ℕ) → 10 ≤ n → list_all p ds ≡ true → list_all p (ds ++ ((48 + n % 10) ∷ [])) ≡ true
      more n ds some h =
          let small : n % 10 < 10 = omega arith in
          list_all-append p ds ((48 + n % 10) ∷ []) ∙ both (list_all p ds) (list_all p ((48 + n % 10) ∷ [])) h (both (p (48 + n % 10)) true (each (n % 10) small) refl)

-- a letter with a number behind it
pub lettered : (c n : ℕ) → is_first c ≡ true → n ≤ 9000 → is_name (c ∷ decimal n) ≡ true
unfolding is_name
lettered c n first small =
    let short : length (decimal n) ≤ 4 = length-decimal-le 4 n (omega arith) (omega (arith, small)) (omega (arith, small)) in
    both (nat_lt 0 (length (c ∷ decimal n)) && nat_le (length (c ∷ decimal n)) 64 && is_first c) (list_all is_later (c ∷ decimal n))
    (both (nat_lt 0 (length (c ∷ decimal n)) && nat_le (length (c ∷ decimal n)) 64) (is_first c)
    (both (nat_lt 0 (length (c ∷ decimal n))) (nat_le (length (c ∷ decimal n)) 64) (lt-ltb 0 (length (c ∷ decimal n)) (omega arith)) (le-leb (length (c ∷ decimal n)) 64 (omega (arith, short)))) first)
    (both (is_later c) (list_all is_later (decimal n)) (ap (λ (b : Bool). b || (nat_le 48 c && nat_le c 57)) first) (digits_keep is_later digit_is_later n (omega (arith, small))))

-- ---- they differ

unequal : (xs ys : List ℕ) → (xs ≡ ys → ⊥) → bytes_eq xs ys ≡ false
unequal xs ys differ = false_from_ne_true (bytes_eq xs ys) (λ e. differ ((bytes_eq-Decides xs ys).0 e))

tail_of : (c : ℕ) (xs ys : List ℕ) → c ∷ xs ≡ c ∷ ys → xs ≡ ys
tail_of c xs ys e = cc

-- a text whose second character is behind the digits is no such name
abbrev is_low : ℕ → Bool
is_low c = nat_le c 57

pub no_number : (c letter : ℕ) (rest : List ℕ) (i : ℕ) → 58 ≤ letter → i ≤ 9000 → bytes_eq (c ∷ letter ∷ rest) (c ∷ decimal i) ≡ false
no_number c letter rest i behind few =
    unequal (c ∷ letter ∷ rest) (c ∷ decimal i) (λ e.
    let low : list_all is_low (decimal i) ≡ true = digits_keep is_low (λ d h. le-leb (48 + d) 57 (omega (arith, h))) i (omega (arith, few)) in
    let same : list_all is_low (letter ∷ rest) ≡ true = ap (list_all is_low) (tail_of c (letter ∷ rest) (decimal i) e) ∙ low in
    let high : is_low letter ≡ false = lt-leb letter 57 (omega (arith, behind)) in
    let never : false ≡ true = sym (ap (λ (b : Bool). b && list_all is_low rest) high) ∙ same in
    cc)

numbers_differ : (c m n : ℕ) → m ≤ 9000 → n ≤ 9000 → (m ≡ n → ⊥) → bytes_eq (c ∷ decimal m) (c ∷ decimal n) ≡ false
numbers_differ c m n k l differ = unequal (c ∷ decimal m) (c ∷ decimal n) (λ e. differ (decimal_injective m n (omega (arith, k)) (omega (arith, l)) (tail_of c (decimal m) (decimal n) e)))

-- ---- lists of them

abbrev pub row : ℕ → ℕ → ℕ → List (List ℕ)
row c a n = map (λ i. c ∷ decimal i) (range_with_len a n)

one_more : (seen : List (List ℕ)) (m n : List ℕ) → has_name seen n ≡ false → bytes_eq n m ≡ false → has_name (seen ++ m ∷ []) n ≡ false
one_more seen m n h differ = list_any-append (bytes_eq n) seen (m ∷ []) ∙ ap₂ (λ (a b : Bool). a || (b || false)) h differ

-- those of a row are new behind names that are none of them, and what is new behind them is so behind all
pub row_is_new : (c a n : ℕ) (seen tail : List (List ℕ)) → a + n ≤ 9001 → ((i : ℕ) → a ≤ i → i ≤ 9000 → has_name seen (c ∷ decimal i) ≡ false) → are_distinct_after (seen ++ row c a n) tail ≡ true → are_distinct_after seen (row c a n ++ tail) ≡ true
row_is_new c a zero seen tail few other h = ap (λ (s : List (List ℕ)). are_distinct_after s tail) (sym (append-nil seen)) ∙ h
row_is_new c a (suc n) seen tail few other h =
    let here : has_name seen (c ∷ decimal a) ≡ false = other a (omega arith) (omega (arith, few)) in
    ap (λ (b : Bool). cond b false (are_distinct_after (seen ++ (c ∷ decimal a) ∷ []) (row c (a + 1) n ++ tail))) here
    ∙ row_is_new c (a + 1) n (seen ++ (c ∷ decimal a) ∷ []) tail (omega (arith, few))
    (λ i from to. one_more seen (c ∷ decimal a) (c ∷ decimal i) (other i (omega (arith, from)) to) (numbers_differ c i a to (omega (arith, few)) (λ e. omega (arith, e, from))))
    (ap (λ (s : List (List ℕ)). are_distinct_after s tail) (append_assoc seen ((c ∷ decimal a) ∷ []) (row c (a + 1) n)) ∙ h)

-- a name that is none of a row
pub not_in_row : (name : List ℕ) (c a n : ℕ) → a + n ≤ 9001 → ((i : ℕ) → i ≤ 9000 → bytes_eq name (c ∷ decimal i) ≡ false) → has_name (row c a n) name ≡ false
not_in_row name c a zero few other = refl
not_in_row name c a (suc n) few other = ap₂ (λ (x y : Bool). x || y) (other a (omega (arith, few))) (not_in_row name c (a + 1) n (omega (arith, few)) other)

-- all of a row keep what each keeps
pub all_of_range : {A : Type 0} (f : ℕ → A) (P : A → Type 0) (a n most : ℕ) (rest : List A) → a + n ≤ most + 1 → ((i : ℕ) → i ≤ most → P (f i)) → AllByRecursion P rest → AllByRecursion P (map f (range_with_len a n) ++ rest)
all_of_range f P a zero most rest few each h = h
all_of_range f P a (suc n) most rest few each h = (each a (omega (arith, few)), all_of_range f P (a + 1) n most rest (omega (arith, few)) each h)
