-- The lines in which a process gathers, place by place.
use Rattle.std.proofs.Common.{◌≡◌, ◌⊎◌, inl, inr, ℕ, zero, suc, ◌+◌, ◌<◌, ◌≤◌, List, [], ◌∷◌, ◌++◌, Bool, true, false, nat_eq, nat_lt, length, map, set, take, drop, replicate, get_or, Option, Some, None, if◌then◌else◌, refl, sym, ap, ap₂, subst, ◌∙◌, arith, add-one}
use Rattle.std.proofs.lemmas.Bool.{ltb-true, ltb-false}
use Rattle.std.proofs.lemmas.Bool.Decides.{nat_tests}
use Rattle.std.proofs.lemmas.List.{length-map, map_more}
use Rattle.pt_meaning.specs.Streams.{Streams, at, change_at}
use Rattle.pt_meaning.specs.Process.{lacking, emptied}
use Rattle.pt_reaction.specs.Spared.{Spared}
use Rattle.pt_reaction.specs.Channels.{lists_of}
use Rattle.pt_value.specs.declared.token.Token.{Token}
use Rattle.pt_pn_laws.proofs.GatherLaws.{lacking-below}

-- the first place that lacks a token
pub lacking-some : {T : Type 0} (ns : List ℕ) (X : Streams T) (b q : ℕ) → ((k : ℕ) → k < q → get_or ns k 0 ≤ length (at X k)) → q < length ns → length ns ≡ length X → length (at X q) < get_or ns q 0 → lacking b ns X ≡ Some (b + q)
lacking-some [] X b q f l e a = absurd (omega (arith, l))
lacking-some (n ∷ ns) [] b q f l e a = absurd (omega (arith, e))
lacking-some (n ∷ ns) (xs ∷ X) b zero f l e a = by (nat_lt (length xs) n) refl
  where
    same : (b : ℕ) → b ≡ b + 0
    same b = omega arith

    by : (t : Bool) → nat_lt (length xs) n ≡ t → (if t then Some b else lacking (suc b) ns X) ≡ Some (b + 0)
    by true t = ap (λ v. Option.Some v) (same b)
    by false t = let z = ltb-false (length xs) n t in absurd (omega (arith, z, a))
lacking-some (n ∷ ns) (xs ∷ X) b (suc q) f l e a =
    by (lacking-some ns X (suc b) q (λ k h. f (suc k) (omega (arith, h))) (omega (arith, l)) (omega (arith, e)) a) (nat_lt (length xs) n) refl
  where
    moved : (b q : ℕ) → suc b + q ≡ b + suc q
    moved b q = omega arith

    by : lacking (suc b) ns X ≡ Some (suc b + q) → (t : Bool) → nat_lt (length xs) n ≡ t → (if t then Some b else lacking (suc b) ns X) ≡ Some (b + suc q)
    by r true t = let z = ltb-true (length xs) n t in let y = f 0 (omega arith) in absurd (omega (arith, z, y))
    by r false t = r ∙ ap (λ v. Option.Some v) (moved b q)

pub lacking-none : {T : Type 0} (ns : List ℕ) (X : Streams T) (b : ℕ) → ((k : ℕ) → k < length ns → get_or ns k 0 ≤ length (at X k)) → lacking b ns X ≡ None
lacking-none [] X b f = refl
lacking-none (n ∷ ns) [] b f = refl
lacking-none (n ∷ ns) (xs ∷ X) b f = by (lacking-none ns X (suc b) (λ k h. f (suc k) (omega (arith, h)))) (nat_lt (length xs) n) refl
  where
    by : lacking (suc b) ns X ≡ None → (t : Bool) → nat_lt (length xs) n ≡ t → (if t then Some b else lacking (suc b) ns X) ≡ None
    by r true t = let z = ltb-true (length xs) n t in let y = f 0 (omega arith) in absurd (omega (arith, z, y))
    by r false t = r

-- there it lacks one
pub lacks-there : {T : Type 0} (ns : List ℕ) (X : Streams T) (b q : ℕ) → lacking b ns X ≡ Some (b + q) → length (at X q) < get_or ns q 0
lacks-there [] X b q e = absurd (cc)
lacks-there (n ∷ ns) [] b q e = absurd (cc)
lacks-there {T} (n ∷ ns) (xs ∷ X) b q e = by (λ j h. lacks-there ns X (suc b) j h) (nat_lt (length xs) n) refl q e
  where
    some-is : (a c : ℕ) → Option.Some a ≡ Option.Some c → a ≡ c
    some-is a c e = cc

    behind : (ns : List ℕ) (X : Streams T) (b q : ℕ) → lacking b ns X ≡ Some q → b ≤ q
    behind [] X b q e = absurd (cc)
    behind (n ∷ ns) [] b q e = absurd (cc)
    behind (n ∷ ns) (xs ∷ X) b q e = next (λ h. behind ns X (suc b) q h) (nat_lt (length xs) n) e
      where
        next : (lacking (suc b) ns X ≡ Some q → suc b ≤ q) → (t : Bool) → (if t then Some b else lacking (suc b) ns X) ≡ Some q → b ≤ q
        next ih true e = let z = some-is b q e in omega (arith, z)
        next ih false e = let r = ih e in omega (arith, r)

    moved : (b q : ℕ) → b + suc q ≡ suc b + q
    moved b q = omega arith

    by : ((j : ℕ) → lacking (suc b) ns X ≡ Some (suc b + j) → length (at X j) < get_or ns j 0) → (t : Bool) → nat_lt (length xs) n ≡ t → (q : ℕ) → (if t then Some b else lacking (suc b) ns X) ≡ Some (b + q) → length (at (xs ∷ X) q) < get_or (n ∷ ns) q 0
    by ih true t zero e = ltb-true (length xs) n t
    by ih true t (suc q) e = let z = some-is b (b + suc q) e in absurd (omega (arith, z))
    by ih false t zero e = let z = behind ns X (suc b) (b + 0) e in absurd (omega (arith, z))
    by ih false t (suc q) e = ih q (e ∙ ap (λ v. Option.Some v) (moved b q))

-- lines by number
module _ {T : Type 0} where
  pub line-list : (L : List (Spared T)) (q : ℕ) (l : Spared T) → q < length L → l ≡ get_or L q l → at (lists_of L) q ≡ l.list
  line-list [] q l h e = absurd (omega (arith, h))
  line-list (x ∷ L) zero l h e = ap (λ (v : Spared T). v.list) (sym e)
  line-list (x ∷ L) (suc q) l h e = line-list L q l (omega (arith, h)) e

  abbrev pub spares_of : List (Spared T) → List ℕ
  spares_of L = map (λ (l : Spared T). l.spare) L

  pub line-spare : (L : List (Spared T)) (q : ℕ) (l : Spared T) → q < length L → l ≡ get_or L q l → get_or (spares_of L) q 0 ≡ l.spare
  line-spare [] q l h e = absurd (omega (arith, h))
  line-spare (x ∷ L) zero l h e = ap (λ (v : Spared T). v.spare) (sym e)
  line-spare (x ∷ L) (suc q) l h e = line-spare L q l (omega (arith, h)) e

  pub lines-long : (L : List (Spared T)) → length (lists_of L) ≡ length L
  lines-long L = length-map L (λ (l : Spared T). l.list)

  -- a line that gets one token more
  pub line-more : (L : List (Spared T)) (q : ℕ) (l m : Spared T) (x : T) → q < length L → l ≡ get_or L q l → m.list ≡ l.list ++ (x ∷ []) → lists_of (set L q m) ≡ change_at q (λ xs. xs ++ (x ∷ [])) (lists_of L)
  line-more [] q l m x h e f = absurd (omega (arith, h))
  line-more (y ∷ L) zero l m x h e f = ap (λ v. v ∷ lists_of L) (f ∙ ap (λ (v : Spared T). v.list ++ (x ∷ [])) e)
  line-more (y ∷ L) (suc q) l m x h e f = ap (λ v. y.list ∷ v) (line-more L q l m x (omega (arith, h)) e f)

  pub spare-set : (L : List (Spared T)) (q : ℕ) (m : Spared T) → q < length L → get_or (spares_of (set L q m)) q 0 ≡ m.spare
  spare-set [] q m h = absurd (omega (arith, h))
  spare-set (y ∷ L) zero m h = refl
  spare-set (y ∷ L) (suc q) m h = spare-set L q m (omega (arith, h))

  pub spare-other : (L : List (Spared T)) (q k : ℕ) (m : Spared T) → nat_eq q k ≡ false → get_or (spares_of (set L q m)) k 0 ≡ get_or (spares_of L) k 0
  spare-other [] q k m e = refl
  spare-other (y ∷ L) zero zero m e = absurd (cc)
  spare-other (y ∷ L) zero (suc k) m e = refl
  spare-other (y ∷ L) (suc q) zero m e = refl
  spare-other (y ∷ L) (suc q) (suc k) m e = spare-other L q k m (next q k e)
    where
      next : (c d : ℕ) → nat_eq (suc c) (suc d) ≡ false → nat_eq c d ≡ false
      next c d e = grind (arith, nat_tests)

-- a row that is filled from lines
pub row-more : {T : Type 0} (L : List (Spared T)) (R now : Streams T) (k : ℕ) (xs : List T) → k < length L → length R ≡ length L → now ≡ lists_of (take k L) ++ drop k R → xs ≡ at (lists_of L) k → set now k xs ≡ lists_of (take (k + 1) L) ++ drop (k + 1) R
row-more L R now k xs h e f g = ap₂ (λ v w. set v k w) f g ∙ front L R k h e ∙ ap (λ j. lists_of (take j L) ++ drop j R) (sym (add-one k))
  where
    front : {T : Type 0} (L : List (Spared T)) (R : Streams T) (k : ℕ) → k < length L → length R ≡ length L → set (lists_of (take k L) ++ drop k R) k (at (lists_of L) k) ≡ lists_of (take (suc k) L) ++ drop (suc k) R
    front [] R k h e = absurd (omega (arith, h))
    front (l ∷ L) [] k h e = absurd (omega (arith, e))
    front (l ∷ L) (r ∷ R) zero h e = refl
    front (l ∷ L) (r ∷ R) (suc k) h e = ap (λ v. l.list ∷ v) (front L R k (omega (arith, h)) (omega (arith, e)))

pub row-all : {T : Type 0} (L : List (Spared T)) (R now : Streams T) (k : ℕ) → length L ≤ k → length R ≡ length L → now ≡ lists_of (take k L) ++ drop k R → now ≡ lists_of L
row-all L R now k h e f = f ∙ all L R k h e
  where
    all : {T : Type 0} (L : List (Spared T)) (R : Streams T) (k : ℕ) → length L ≤ k → length R ≡ length L → lists_of (take k L) ++ drop k R ≡ lists_of L
    all [] [] zero h e = refl
    all [] [] (suc k) h e = refl
    all [] (r ∷ R) k h e = absurd (omega (arith, e))
    all (l ∷ L) [] k h e = absurd (omega (arith, e))
    all (l ∷ L) (r ∷ R) zero h e = absurd (omega (arith, h))
    all (l ∷ L) (r ∷ R) (suc k) h e = ap (λ v. l.list ∷ v) (all L R k (omega (arith, h)) (omega (arith, e)))

abbrev tail_of : {A : Type 0} → List A → List A
tail_of [] = []
tail_of (x ∷ xs) = xs

-- the lines behind one that is taken
pub behind-taken : {T : Type 0} (L now : List (Spared T)) (k : ℕ) (m : Spared T) → drop k now ≡ drop k L → drop (k + 1) (set now k m) ≡ drop (k + 1) L
behind-taken L now k m e = ap (λ j. drop j (set now k m)) (add-one k) ∙ kept now k m ∙ next now L k e ∙ ap (λ j. drop j L) (sym (add-one k))
  where
    kept : {A : Type 0} (xs : List A) (k : ℕ) (x : A) → drop (suc k) (set xs k x) ≡ drop (suc k) xs
    kept [] k x = refl
    kept (y ∷ xs) zero x = refl
    kept (y ∷ xs) (suc k) x = kept xs k x

    tail-drop : {A : Type 0} (xs : List A) (k : ℕ) → tail_of (drop k xs) ≡ drop (suc k) xs
    tail-drop [] zero = refl
    tail-drop [] (suc k) = refl
    tail-drop (x ∷ xs) zero = refl
    tail-drop (x ∷ xs) (suc k) = tail-drop xs k

    next : {A : Type 0} (xs ys : List A) (k : ℕ) → drop k xs ≡ drop k ys → drop (suc k) xs ≡ drop (suc k) ys
    next xs ys k e = sym (tail-drop xs k) ∙ ap (λ v. tail_of v) e ∙ tail-drop ys k

-- the line of a number behind
pub line-behind : {T : Type 0} (L now : List (Spared T)) (k : ℕ) (l : Spared T) → k < length now → drop k now ≡ drop k L → l ≡ get_or now k l → l.list ≡ at (lists_of L) k
line-behind L now k l h d e = sym (line-list now k l h e) ∙ first now k ∙ ap (λ v. at (lists_of v) 0) d ∙ sym (first L k)
  where
    first : {T : Type 0} (L : List (Spared T)) (k : ℕ) → at (lists_of L) k ≡ at (lists_of (drop k L)) 0
    first [] zero = refl
    first [] (suc k) = refl
    first (l ∷ L) zero = refl
    first (l ∷ L) (suc k) = first L k

-- one place more that lacks nothing
pub full-next : {T : Type 0} (ns : List ℕ) (X : Streams T) (k : ℕ) → ((q : ℕ) → q < k → get_or ns q 0 ≤ length (at X q)) → get_or ns k 0 ≤ length (at X k) → (q : ℕ) → q < k + 1 → get_or ns q 0 ≤ length (at X q)
full-next ns X k f h q w = by (split q k w)
  where
    split : (q k : ℕ) → q < k + 1 → (q < k) ⊎ (k ≡ q)
    split q k w = grind arith

    by : (q < k) ⊎ (k ≡ q) → get_or ns q 0 ≤ length (at X q)
    by (inl l) = f q l
    by (inr e) = subst (λ j. get_or ns j 0 ≤ length (at X j)) e h

-- the length of a line, and its count
pub line-lacks : {T : Type 0} (L : List (Spared T)) (k : ℕ) (l : Spared T) (have : ℕ) → k < length L → l ≡ get_or L k l → have ≡ length l.list → have ≡ length (at (lists_of L) k)
line-lacks L k l have h e f = f ∙ ap (λ v. length v) (sym (line-list L k l h e))

-- the place that lacks a token is there
pub gets-next : (ns : List ℕ) (X : Streams Token) (place : ℕ) → lacking 0 ns X ≡ Some place → place < length X
gets-next ns X place e = let r = (lacking-below ns X 0 place e).1 in omega (arith, r)

pub list-set : {T : Type 0} (L : List (Spared T)) (q : ℕ) (m : Spared T) → q < length L → at (lists_of (set L q m)) q ≡ m.list
list-set [] q m h = absurd (omega (arith, h))
list-set (y ∷ L) zero m h = refl
list-set (y ∷ L) (suc q) m h = list-set L q m (omega (arith, h))

pub list-other : {T : Type 0} (L : List (Spared T)) (q k : ℕ) (m : Spared T) → nat_eq q k ≡ false → at (lists_of (set L q m)) k ≡ at (lists_of L) k
list-other [] q k m e = refl
list-other (y ∷ L) zero zero m e = absurd (cc)
list-other (y ∷ L) zero (suc k) m e = refl
list-other (y ∷ L) (suc q) zero m e = refl
list-other (y ∷ L) (suc q) (suc k) m e = list-other L q k m (next q k e)
  where
    next : (c d : ℕ) → nat_eq (suc c) (suc d) ≡ false → nat_eq c d ≡ false
    next c d e = grind (arith, nat_tests)

-- one line more
pub lines-next : (L R : List (Spared Token)) (k : ℕ) (l w : Spared Token) → k < length L → l ≡ get_or L k l → w.list ≡ l.list → lists_of R ≡ lists_of (take k L) → lists_of (R ++ (w ∷ [])) ≡ lists_of (take (k + 1) L)
lines-next L R k l w h e z f = behind R ∙ ap₂ (λ x y. x ++ (y ∷ [])) f (z ∙ ap (λ (v : Spared Token). v.list) e) ∙ sym (map_more (λ (v : Spared Token). v.list) L k l h)
  where
    behind : (R : List (Spared Token)) → lists_of (R ++ (w ∷ [])) ≡ lists_of R ++ (w.list ∷ [])
    behind [] = refl
    behind (x ∷ R) = ap (λ v. x.list ∷ v) (behind R)

pub same-lines : (L M : List (Spared Token)) → lists_of M ≡ lists_of L → length M ≡ length L
same-lines L M e = sym (lines-long M) ∙ ap (λ v. length v) e ∙ lines-long L

pub at-past : {T : Type 0} (X : Streams T) (i : ℕ) → length X ≤ i → at X i ≡ []
at-past [] i h = refl
at-past (y ∷ X) zero h = absurd (omega (arith, h))
at-past (y ∷ X) (suc i) h = at-past X i (omega (arith, h))

pub are-empty : {T : Type 0} (X : Streams T) → ((q : ℕ) → q < length X → at X q ≡ []) → X ≡ replicate (length X) []
are-empty [] h = refl
are-empty {T} (xs ∷ X) h = ap (λ (v : List T). v ∷ X) (h 0 (omega arith)) ∙ ap (λ (v : Streams T). [] ∷ v) (are-empty X (λ q l. h (suc q) (omega (arith, l))))

pub emptied-is : {T : Type 0} (X : Streams T) → emptied X ≡ replicate (length X) []
emptied-is [] = refl
emptied-is {T} (xs ∷ X) = ap (λ (v : Streams T). [] ∷ v) (emptied-is X)
