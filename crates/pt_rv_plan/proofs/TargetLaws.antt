-- Where channels end, row by row.
use Rattle.std.proofs.Common.{◌≡◌, ℕ, zero, suc, ◌+◌, ◌-◌, ◌<◌, ◌≤◌, List, [], ◌∷◌, ◌++◌, Bool, true, false, nat_lt, length, map, take, get_or, Option, Some, if◌then◌else◌, refl, sym, ap, ap₂, ◌∙◌, arith, append-nil, zero-add, add-one, length-append}
use Rattle.std.proofs.lemmas.Bool.{ltb-true, ltb-false}
use Rattle.std.proofs.lemmas.List.{length-map}
use Rattle.pt_meaning.specs.Streams.{get}
use Rattle.pt_meaning.specs.Meetings.{Target, Place, Outlet, target_from}
use Rattle.pt_meaning.specs.Running.{total}
use Rattle.pt_rv_plan.specs.declared.targets.Target as declared
use Rattle.pt_rv_plan.specs.Targets.{places_row, outlets_row, targets_to}
use Rattle.pt_rv_plan.specs.Plan.{AreTargets, target_of}

joined-up : {A : Type 0} (X Y Z : List A) → (X ++ Y) ++ Z ≡ X ++ (Y ++ Z)
joined-up [] Y Z = refl
joined-up (x ∷ X) Y Z = ap (λ v. x ∷ v) (joined-up X Y Z)

-- one place more
row-more : (p q k : ℕ) → places_row p q (suc k) ≡ places_row p q k ++ (Place p (q + k) ∷ [])
row-more p q zero = ap (λ j. Place p j ∷ []) (plus q)
  where
    plus : (q : ℕ) → q ≡ q + 0
    plus q = omega arith
row-more p q (suc k) = ap (λ v. Place p q ∷ v) (row-more p (suc q) k ∙ ap (λ j. places_row p (suc q) k ++ (Place p j ∷ [])) (moved q k))
  where
    moved : (q k : ℕ) → suc q + k ≡ q + suc k
    moved q k = omega arith

pub places-more : (p k : ℕ) (before now after : List Target) → now ≡ before ++ places_row p 0 k → after ≡ now ++ (Place p k ∷ []) → after ≡ before ++ places_row p 0 (k + 1)
places-more p k before now after e f =
    f ∙ ap (λ v. v ++ (Place p k ∷ [])) e ∙ joined-up before (places_row p 0 k) (Place p k ∷ []) ∙ ap (λ j. before ++ (places_row p 0 k ++ (Place p j ∷ []))) (sym (zero-add k)) ∙ ap (λ v. before ++ v) (sym (row-more p 0 k)) ∙ ap (λ j. before ++ places_row p 0 j) (sym (add-one k))

outlet-more : (o k : ℕ) → outlets_row o (suc k) ≡ outlets_row o k ++ (Outlet (o + k) ∷ [])
outlet-more o zero = ap (λ j. Outlet j ∷ []) (plus o)
  where
    plus : (q : ℕ) → q ≡ q + 0
    plus q = omega arith
outlet-more o (suc k) = ap (λ v. Outlet o ∷ v) (outlet-more (suc o) k ∙ ap (λ j. outlets_row (suc o) k ++ (Outlet j ∷ [])) (moved o k))
  where
    moved : (q k : ℕ) → suc q + k ≡ q + suc k
    moved q k = omega arith

pub outlets-more : (k : ℕ) (before now after : List Target) → now ≡ before ++ outlets_row 0 k → after ≡ now ++ (Outlet k ∷ []) → after ≡ before ++ outlets_row 0 (k + 1)
outlets-more k before now after e f =
    f ∙ ap (λ v. v ++ (Outlet k ∷ [])) e ∙ joined-up before (outlets_row 0 k) (Outlet k ∷ []) ∙ ap (λ j. before ++ (outlets_row 0 k ++ (Outlet j ∷ []))) (sym (zero-add k)) ∙ ap (λ v. before ++ v) (sym (outlet-more 0 k)) ∙ ap (λ j. before ++ outlets_row 0 j) (sym (add-one k))

-- one more behind those of the code
pub mapped-more : (ts : List declared.Target) (t : declared.Target) → map target_of (ts ++ (t ∷ [])) ≡ map target_of ts ++ (target_of t ∷ [])
mapped-more [] t = refl
mapped-more (x ∷ ts) t = ap (λ v. target_of x ∷ v) (mapped-more ts t)

pub none-behind : {A : Type 0} (xs : List A) → xs ≡ xs ++ []
none-behind xs = sym (append-nil xs)

-- one process more
next-row : (i : ℕ) (ns : List ℕ) (k : ℕ) → k < length ns → targets_to i (take (suc k) ns) ≡ targets_to i (take k ns) ++ places_row (i + k) 0 (get_or ns k 0)
next-row i [] k h = absurd (omega (arith, h))
next-row i (n ∷ ns) zero h = append-nil (places_row i 0 n) ∙ ap (λ j. places_row j 0 n) (plus i)
  where
    plus : (q : ℕ) → q ≡ q + 0
    plus q = omega arith
next-row i (n ∷ ns) (suc k) h =
    ap (λ v. places_row i 0 n ++ v) (next-row (suc i) ns k (omega (arith, h))) ∙ sym (joined-up (places_row i 0 n) (targets_to (suc i) (take k ns)) (places_row (suc i + k) 0 (get_or ns k 0))) ∙
    ap (λ j. (places_row i 0 n ++ targets_to (suc i) (take k ns)) ++ places_row j 0 (get_or ns k 0)) (moved i k)
  where
    moved : (q k : ℕ) → suc q + k ≡ q + suc k
    moved q k = omega arith

pub rows-more : (ns : List ℕ) (k n : ℕ) (now after : List Target) → k < length ns → n ≡ get_or ns k 0 → now ≡ targets_to 0 (take k ns) → after ≡ now ++ places_row k 0 n → after ≡ targets_to 0 (take (k + 1) ns)
rows-more ns k n now after h z e f =
    f ∙ ap₂ (λ v m. v ++ places_row k 0 m) e z ∙ ap (λ j. targets_to 0 (take k ns) ++ places_row j 0 (get_or ns k 0)) (sym (zero-add k)) ∙ sym (next-row 0 ns k h) ∙ ap (λ j. targets_to 0 (take j ns)) (sym (add-one k))

-- what the rows have at a number
outlet-at : (o m c : ℕ) → c < m → get (outlets_row o m) c ≡ Some (Outlet (o + c))
outlet-at o zero c h = absurd (omega (arith, h))
outlet-at o (suc m) zero h = ap (λ j. Option.Some (Outlet j)) (plus o)
  where
    plus : (q : ℕ) → q ≡ q + 0
    plus q = omega arith
outlet-at o (suc m) (suc c) h = outlet-at (suc o) m c (omega (arith, h)) ∙ ap (λ j. Option.Some (Outlet j)) (moved o c)
  where
    moved : (q k : ℕ) → suc q + k ≡ q + suc k
    moved q k = omega arith

place-at : (i q n c : ℕ) (rest : List Target) → c < n → get (places_row i q n ++ rest) c ≡ Some (Place i (q + c))
place-at i q zero c rest h = absurd (omega (arith, h))
place-at i q (suc n) zero rest h = ap (λ j. Option.Some (Place i j)) (plus q)
  where
    plus : (q : ℕ) → q ≡ q + 0
    plus q = omega arith
place-at i q (suc n) (suc c) rest h = place-at i (suc q) n c rest (omega (arith, h)) ∙ ap (λ j. Option.Some (Place i j)) (moved q c)
  where
    moved : (q k : ℕ) → suc q + k ≡ q + suc k
    moved q k = omega arith

place-past : (i q n c : ℕ) (rest : List Target) → n ≤ c → get (places_row i q n ++ rest) c ≡ get rest (c - n)
place-past i q zero c rest h = ap (λ j. get rest j) (less c)
  where
    less : (c : ℕ) → c ≡ c - 0
    less c = omega arith
place-past i q (suc n) zero rest h = absurd (omega (arith, h))
place-past i q (suc n) (suc c) rest h = place-past i (suc q) n c rest (omega (arith, h)) ∙ ap (λ j. get rest j) (less c n)
  where
    less : (c n : ℕ) → c - n ≡ suc c - suc n
    less c n = omega arith

targets-at : (i : ℕ) (ns : List ℕ) (m c : ℕ) → c < total ns + m → get (targets_to i ns ++ outlets_row 0 m) c ≡ Some (target_from i ns c)
targets-at i [] m c h = outlet-at 0 m c (omega (arith, h)) ∙ ap (λ j. Option.Some (Outlet j)) (zero-add c)
targets-at i (n ∷ ns) m c h = ap (λ v. get v c) (joined-up (places_row i 0 n) (targets_to (suc i) ns) (outlets_row 0 m)) ∙ by (λ l. targets-at (suc i) ns m (c - n) (omega (arith, h, l))) (nat_lt c n) refl
  where
    by : (n ≤ c → get (targets_to (suc i) ns ++ outlets_row 0 m) (c - n) ≡ Some (target_from (suc i) ns (c - n))) → (b : Bool) → nat_lt c n ≡ b → get (places_row i 0 n ++ (targets_to (suc i) ns ++ outlets_row 0 m)) c ≡ Some (if b then Place i c else target_from (suc i) ns (c - n))
    by ih true e = place-at i 0 n c (targets_to (suc i) ns ++ outlets_row 0 m) (ltb-true c n e) ∙ ap (λ j. Option.Some (Place i j)) (zero-add c)
    by ih false e = let l = ltb-false c n e in place-past i 0 n c (targets_to (suc i) ns ++ outlets_row 0 m) l ∙ ih l

row-long : (p q n : ℕ) → length (places_row p q n) ≡ n
row-long p q zero = refl
row-long p q (suc n) = ap (λ v. suc v) (row-long p (suc q) n)

rows-long : (i : ℕ) (ns : List ℕ) → length (targets_to i ns) ≡ total ns
rows-long i [] = refl
rows-long i (n ∷ ns) = length-append (places_row i 0 n) (targets_to (suc i) ns) ∙ ap₂ (λ a b. a + b) (row-long i 0 n) (rows-long (suc i) ns)

pub targets-are : (ns : List ℕ) (channels m : ℕ) (before after : List declared.Target) → map target_of before ≡ targets_to 0 ns → m ≡ channels - length before → map target_of after ≡ map target_of before ++ outlets_row 0 m → AreTargets ns channels after
targets-are ns channels m before after e z f c h =
    let l : length before ≡ total ns = sym (length-map before target_of) ∙ ap (λ v. length v) e ∙ rows-long 0 ns in
    ap (λ v. get v c) (f ∙ ap (λ v. v ++ outlets_row 0 m) e) ∙ targets-at 0 ns m c (omega (arith, h, l, z))
