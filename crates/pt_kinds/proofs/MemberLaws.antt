-- What lists and streams have, and the parts of them.
use Rattle.std.proofs.Common.{◌≡◌, ◌⊎◌, ℕ, zero, suc, ◌+◌, ◌≤◌, List, [], ◌∷◌, ◌++◌, Bool, true, false, length, take, drop, inl, inr, refl, sym, ap, subst, arith, ◌∙◌, nat_le}
use Rattle.std.specs.List.{AllByRecursion}
use Rattle.pt_meaning.specs.Basics.{Streams, at, joined}
use Rattle.pt_meaning.specs.Machine.{Need, Over, Counts, Any, Front, Lacks, Ends, Takes, if_long, counted, front}
use Rattle.pt_meaning.specs.Running.{total}
use Rattle.pt_meaning.specs.Kahn.{skip_places, firsts, behind}
use Rattle.pt_meaning.specs.Closed.{Has}

-- ---- lists

pub has-append : {A : Type 0} (x : A) (xs ys : List A) → Has x (xs ++ ys) → Has x xs ⊎ Has x ys
has-append x [] ys h = inr h
has-append x (y ∷ xs) ys (inl e) = inl (inl e)
has-append {A} x (y ∷ xs) ys (inr h) = go (has-append x xs ys h)
  where
    go : Has x xs ⊎ Has x ys → Has x (y ∷ xs) ⊎ Has x ys
    go (inl k) = inl (inr k)
    go (inr k) = inr k

pub has-left : {A : Type 0} (x : A) (xs ys : List A) → Has x xs → Has x (xs ++ ys)
has-left x [] ys h = absurd h
has-left x (y ∷ xs) ys (inl e) = inl e
has-left x (y ∷ xs) ys (inr h) = inr (has-left x xs ys h)

has-take : {A : Type 0} (n : ℕ) (x : A) (xs : List A) → Has x (take n xs) → Has x xs
has-take zero x xs h = absurd h
has-take (suc n) x [] h = absurd h
has-take (suc n) x (y ∷ xs) (inl e) = inl e
has-take (suc n) x (y ∷ xs) (inr h) = inr (has-take n x xs h)

has-drop : {A : Type 0} (n : ℕ) (x : A) (xs : List A) → Has x (drop n xs) → Has x xs
has-drop zero x xs h = h
has-drop (suc n) x [] h = absurd h
has-drop (suc n) x (y ∷ xs) h = inr (has-drop n x xs h)

pub all-has : {A : Type 0} (P : A → Type 0) (x : A) (xs : List A) → AllByRecursion P xs → Has x xs → P x
all-has P x [] a h = absurd h
all-has P x (y ∷ xs) a (inl e) = subst P (sym e) a.0
all-has P x (y ∷ xs) a (inr h) = all-has P x xs a.1 h

pub all-of-has : {A : Type 0} (P : A → Type 0) (xs : List A) → ((x : A) → Has x xs → P x) → AllByRecursion P xs
all-of-has P [] h = tt
all-of-has P (x ∷ xs) h = (h x (inl refl), all-of-has P xs (λ y k. h y (inr k)))

pub length-take-within : {A : Type 0} (n : ℕ) (xs : List A) → n ≤ length xs → length (take n xs) ≡ n
length-take-within zero xs h = refl
length-take-within (suc n) [] h = absurd (omega (arith, h))
length-take-within (suc n) (x ∷ xs) h = ap (λ v. suc v) (length-take-within n xs (omega (arith, h)))

-- ---- streams

pub in-joined : {T : Type 0} (X Y : Streams T) (q : ℕ) (x : T) → Has x (at (joined X Y) q) → Has x (at X q) ⊎ Has x (at Y q)
in-joined [] Y q x h = inr h
in-joined (xs ∷ X) [] q x h = inl h
in-joined (xs ∷ X) (ys ∷ Y) zero x h = has-append x xs ys h
in-joined (xs ∷ X) (ys ∷ Y) (suc q) x h = in-joined X Y q x h

pub in-first : {T : Type 0} (n : ℕ) (X : Streams T) (q : ℕ) (x : T) → Has x (at (take n X) q) → Has x (at X q)
in-first zero X q x h = absurd h
in-first (suc n) [] q x h = h
in-first (suc n) (xs ∷ X) zero x h = h
in-first (suc n) (xs ∷ X) (suc q) x h = in-first n X q x h

pub at-drop : {T : Type 0} (n : ℕ) (X : Streams T) (q : ℕ) → at (drop n X) q ≡ at X (n + q)
at-drop zero X q = let a : q ≡ 0 + q = omega arith in ap (λ v. at X v) a
at-drop (suc n) [] q = refl
at-drop (suc n) (xs ∷ X) q = let a : suc (n + q) ≡ suc n + q = omega arith in at-drop n X q ∙ ap (λ v. at (xs ∷ X) v) a

-- behind so many streams
pub in-append : {T : Type 0} (X Y : Streams T) (q : ℕ) (x : T) → Has x (at (X ++ Y) q) → Has x (at X q) ⊎ ((d : ℕ) × (q ≡ length X + d) × Has x (at Y d))
in-append [] Y q x h = inr (q, omega arith, h)
in-append (xs ∷ X) Y zero x h = inl h
in-append {T} (xs ∷ X) Y (suc q) x h = go (in-append X Y q x h)
  where
    go : Has x (at X q) ⊎ ((d : ℕ) × (q ≡ length X + d) × Has x (at Y d)) → Has x (at X q) ⊎ ((d : ℕ) × (suc q ≡ suc (length X) + d) × Has x (at Y d))
    go (inl k) = inl k
    go (inr k) = inr (k.0, omega (arith, k.1), k.2)

pub at-skip : {T : Type 0} (ns : List ℕ) (X : Streams T) (q : ℕ) → at (skip_places ns X) q ≡ at X (total ns + q)
at-skip [] X q = let a : q ≡ 0 + q = omega arith in ap (λ v. at X v) a
at-skip (n ∷ ns) X q = let a : n + (total ns + q) ≡ (n + total ns) + q = omega arith in at-skip ns (drop n X) q ∙ at-drop n X (total ns + q) ∙ ap (λ v. at X v) a

pub in-firsts : {T : Type 0} (ns : List ℕ) (X : Streams T) (q : ℕ) (x : T) → Has x (at (firsts ns X) q) → Has x (at X q)
in-firsts [] X q x h = absurd h
in-firsts (n ∷ ns) [] q x h = h
in-firsts (n ∷ ns) (xs ∷ X) zero x h = has-take n x xs h
in-firsts (n ∷ ns) (xs ∷ X) (suc q) x h = in-firsts ns X q x h

pub in-behind : {T : Type 0} (ns : List ℕ) (X : Streams T) (q : ℕ) (x : T) → Has x (at (behind ns X) q) → Has x (at X q)
in-behind [] X q x h = absurd h
in-behind (n ∷ ns) [] q x h = h
in-behind (n ∷ ns) (xs ∷ X) zero x h = has-drop n x xs h
in-behind (n ∷ ns) (xs ∷ X) (suc q) x h = in-behind ns X q x h

pub firsts-length : {T : Type 0} (ns : List ℕ) (X : Streams T) → (length (firsts ns X) ≤ length ns) × (length (firsts ns X) ≤ length X)
firsts-length [] X = (omega arith, omega arith)
firsts-length (n ∷ ns) [] = (omega arith, omega arith)
firsts-length (n ∷ ns) (xs ∷ X) = let r = firsts-length ns X in (omega (arith, r.0), omega (arith, r.1))

pub behind-length : {T : Type 0} (ns : List ℕ) (X : Streams T) → length (behind ns X) ≤ length X
behind-length [] X = omega arith
behind-length (n ∷ ns) [] = omega arith
behind-length (n ∷ ns) (xs ∷ X) = let r = behind-length ns X in omega (arith, r)

-- ---- the front tokens, and what is left, of as many places

abbrev pub FrontIn : {T : Type 0} → Streams T → Front T → Type 0
FrontIn X Lacks = Unit {0}
FrontIn X Ends = Unit {0}
FrontIn {T} X (Takes got left) = (length got ≡ length X) × (length left ≡ length X) × ((q : ℕ) (x : T) → Has x (at got q) → Has x (at X q)) × ((q : ℕ) (x : T) → Has x (at left q) → Has x (at X q))

if-long-in : {T : Type 0} (b : Bool) (n : ℕ) (xs : List T) (X : Streams T) (f : Front T) → FrontIn X f → FrontIn (xs ∷ X) (if_long b n xs f)
if-long-in {T} true n xs X (Takes got left) h = (ap (λ v. suc v) h.0, ap (λ v. suc v) h.1, got-in, left-in)
  where
    got-in : (q : ℕ) (x : T) → Has x (at (take n xs ∷ got) q) → Has x (at (xs ∷ X) q)
    got-in zero x k = has-take n x xs k
    got-in (suc q) x k = h.2 q x k

    left-in : (q : ℕ) (x : T) → Has x (at (drop n xs ∷ left) q) → Has x (at (xs ∷ X) q)
    left-in zero x k = has-drop n x xs k
    left-in (suc q) x k = h.3 q x k
if-long-in true n xs X Lacks h = tt
if-long-in true n xs X Ends h = tt
if-long-in false n xs X f h = tt

counted-in : {T : Type 0} (ns : List ℕ) (X : Streams T) → FrontIn X (counted ns X)
counted-in [] [] = (refl, refl, λ q x h. h, λ q x h. h)
counted-in (n ∷ ns) (xs ∷ X) = if-long-in (nat_le n (length xs)) n xs X (counted ns X) (counted-in ns X)
counted-in [] (xs ∷ X) = tt
counted-in (n ∷ ns) [] = tt

pub front-in : {T : Type 0} (need : Need) (X : Streams T) → FrontIn X (front need X)
front-in Over X = tt
front-in (Counts ns) X = counted-in ns X
front-in Any X = tt
