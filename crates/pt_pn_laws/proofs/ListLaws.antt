-- Streams of which one is changed, or those of one process.
use Rattle.std.proofs.Common.{◌≡◌, ◌⊎◌, inl, inr, ℕ, zero, suc, ◌+◌, ◌-◌, ◌<◌, ◌≤◌, List, [], ◌∷◌, ◌++◌, Bool, true, false, nat_eq, length, map, set, take, drop, get_or, refl, sym, ap, ◌∙◌, arith, append-nil, length-append, zero-add, suc-add}
use Rattle.std.proofs.lemmas.List.{length-take-le}
use Rattle.std.proofs.lemmas.Bool.Decides.{nat_tests}
use Rattle.pt_meaning.specs.Streams.{Streams, at, joined, change_at}
use Rattle.pt_meaning.specs.Net.{Source}
use Rattle.pt_meaning.specs.Kahn.{arrival, arrived, behind, lengths}
use Rattle.pt_meaning.specs.Process.{emptied}
use Rattle.pt_meaning.specs.Running.{total}
use Rattle.pt_laws.specs.TickRuns.{places_at}
use Rattle.pt_laws.proofs.Indexed.{streams-same}
use Rattle.pt_pn_laws.specs.State.{offset_of, with_places}

pub nat-same : (c : ℕ) → nat_eq c c ≡ true
nat-same c = grind (arith, nat_tests)

pub nat-apart : (c d : ℕ) → nat_eq c d ≡ false → c ≡ d → ⊥
nat-apart c d e z = grind (arith, nat_tests)

pub nat-other : (c d : ℕ) → (c ≡ d → ⊥) → nat_eq c d ≡ false
nat-other c d h = by (nat_eq c d) refl
  where
    by : (b : Bool) → nat_eq c d ≡ b → nat_eq c d ≡ false
    by false e = e
    by true e = absurd (h (grind (arith, nat_tests)))

pub either-nat : (i j : ℕ) → (i ≡ j) ⊎ (nat_eq i j ≡ false)
either-nat i j = by (nat_eq i j) refl
  where
    by : (b : Bool) → nat_eq i j ≡ b → (i ≡ j) ⊎ (nat_eq i j ≡ false)
    by true e = inl (grind (arith, nat_tests))
    by false e = inr e

next-apart : (c d : ℕ) → nat_eq (suc c) (suc d) ≡ false → nat_eq c d ≡ false
next-apart c d e = grind (arith, nat_tests)

pub past-end : {T : Type 0} (X : Streams T) (c : ℕ) → length X ≤ c → at X c ≡ []
past-end [] c l = refl
past-end (x ∷ X) zero l = absurd (omega (arith, l))
past-end (x ∷ X) (suc c) l = past-end X c (omega (arith, l))

pub there-if : {T : Type 0} (X : Streams T) (c : ℕ) → 0 < length (at X c) → c < length X
there-if [] c l = absurd (omega (arith, l))
there-if (x ∷ X) zero l = omega arith
there-if (x ∷ X) (suc c) l = let r = there-if X c l in omega (arith, r)

pub at-set : {T : Type 0} (X : Streams T) (i : ℕ) (xs : List T) → i < length X → at (set X i xs) i ≡ xs
at-set [] i xs l = absurd (omega (arith, l))
at-set (x ∷ X) zero xs l = refl
at-set (x ∷ X) (suc i) xs l = at-set X i xs (omega (arith, l))

pub at-set-other : {T : Type 0} (X : Streams T) (i j : ℕ) (xs : List T) → nat_eq i j ≡ false → at (set X i xs) j ≡ at X j
at-set-other [] i j xs e = refl
at-set-other (x ∷ X) zero zero xs e = absurd (cc)
at-set-other (x ∷ X) zero (suc j) xs e = refl
at-set-other (x ∷ X) (suc i) zero xs e = refl
at-set-other (x ∷ X) (suc i) (suc j) xs e = at-set-other X i j xs (next-apart i j e)

pub at-change : {T : Type 0} (X : Streams T) (c : ℕ) (f : List T → List T) → c < length X → at (change_at c f X) c ≡ f (at X c)
at-change [] c f l = absurd (omega (arith, l))
at-change (x ∷ X) zero f l = refl
at-change (x ∷ X) (suc c) f l = at-change X c f (omega (arith, l))

pub at-change-other : {T : Type 0} (X : Streams T) (c d : ℕ) (f : List T → List T) → nat_eq c d ≡ false → at (change_at c f X) d ≡ at X d
at-change-other [] c d f e = refl
at-change-other (x ∷ X) zero zero f e = absurd (cc)
at-change-other (x ∷ X) zero (suc d) f e = refl
at-change-other (x ∷ X) (suc c) zero f e = refl
at-change-other (x ∷ X) (suc c) (suc d) f e = at-change-other X c d f (next-apart c d e)

pub length-change : {A : Type 0} (X : List A) (c : ℕ) (f : A → A) → length (change_at c f X) ≡ length X
length-change [] c f = refl
length-change (x ∷ X) zero f = refl
length-change (x ∷ X) (suc c) f = ap (λ v. suc v) (length-change X c f)

pub get-or-set : {A : Type 0} (xs : List A) (i : ℕ) (x d : A) → i < length xs → get_or (set xs i x) i d ≡ x
get-or-set [] i x d l = absurd (omega (arith, l))
get-or-set (y ∷ xs) zero x d l = refl
get-or-set (y ∷ xs) (suc i) x d l = get-or-set xs i x d (omega (arith, l))

pub get-or-set-other : {A : Type 0} (xs : List A) (i j : ℕ) (x d : A) → nat_eq i j ≡ false → get_or (set xs i x) j d ≡ get_or xs j d
get-or-set-other [] i j x d e = refl
get-or-set-other (y ∷ xs) zero zero x d e = absurd (cc)
get-or-set-other (y ∷ xs) zero (suc j) x d e = refl
get-or-set-other (y ∷ xs) (suc i) zero x d e = refl
get-or-set-other (y ∷ xs) (suc i) (suc j) x d e = get-or-set-other xs i j x d (next-apart i j e)

pub map-set : {A B : Type 0} (f : A → B) (xs : List A) (i : ℕ) (x : A) → map f (set xs i x) ≡ set (map f xs) i (f x)
map-set f [] i x = refl
map-set f (y ∷ xs) zero x = refl
map-set f (y ∷ xs) (suc i) x = ap (λ v. f y ∷ v) (map-set f xs i x)

pub get-or-map : {A B : Type 0} (f : A → B) (xs : List A) (i : ℕ) (d : A) (e : B) → i < length xs → get_or (map f xs) i e ≡ f (get_or xs i d)
get-or-map f [] i d e l = absurd (omega (arith, l))
get-or-map f (x ∷ xs) zero d e l = refl
get-or-map f (x ∷ xs) (suc i) d e l = get-or-map f xs i d e (omega (arith, l))

-- parts of lists of streams
pub at-take : {T : Type 0} (n : ℕ) (X : Streams T) (c : ℕ) → c < n → at (take n X) c ≡ at X c
at-take zero X c l = absurd (omega (arith, l))
at-take (suc n) [] c l = refl
at-take (suc n) (x ∷ X) zero l = refl
at-take (suc n) (x ∷ X) (suc c) l = at-take n X c (omega (arith, l))

pub at-drop : {T : Type 0} (n : ℕ) (X : Streams T) (c : ℕ) → at (drop n X) c ≡ at X (n + c)
at-drop zero X c = ap (λ v. at X v) (sym (zero-add c))
at-drop (suc n) [] c = refl
at-drop (suc n) (x ∷ X) c = at-drop n X c ∙ ap (λ v. at (x ∷ X) v) (sym (suc-add n c))

pub at-append-first : {T : Type 0} (X Y : Streams T) (c : ℕ) → c < length X → at (X ++ Y) c ≡ at X c
at-append-first [] Y c l = absurd (omega (arith, l))
at-append-first (x ∷ X) Y zero l = refl
at-append-first (x ∷ X) Y (suc c) l = at-append-first X Y c (omega (arith, l))

pub at-append-then : {T : Type 0} (X Y : Streams T) (c : ℕ) → at (X ++ Y) (length X + c) ≡ at Y c
at-append-then [] Y c = ap (λ v. at Y v) (zero-add c)
at-append-then (x ∷ X) Y c = ap (λ v. at ((x ∷ X) ++ Y) v) (suc-add (length X) c) ∙ at-append-then X Y c

pub length-drop-plus : {A : Type 0} (n : ℕ) (X : List A) → n ≤ length X → n + length (drop n X) ≡ length X
length-drop-plus zero X l = zero-add (length X)
length-drop-plus (suc n) [] l = absurd (omega (arith, l))
length-drop-plus (suc n) (x ∷ X) l = suc-add n (length (drop n X)) ∙ ap (λ v. suc v) (length-drop-plus n X (omega (arith, l)))

-- the places of a process are within those of all
pub part-fits : (ns : List ℕ) (i : ℕ) → i < length ns → offset_of ns i + get_or ns i 0 ≤ total ns
part-fits [] i l = absurd (omega (arith, l))
part-fits (n ∷ ns) zero l = omega arith
part-fits (n ∷ ns) (suc i) l = let r = part-fits ns i (omega (arith, l)) in omega (arith, r)

-- those of a later one lie behind
pub parts-apart : (ns : List ℕ) (i j : ℕ) → i < j → offset_of ns i + get_or ns i 0 ≤ offset_of ns j
parts-apart [] i j l = let e = no-offset i in omega (arith, e)
  where
    no-offset : (i : ℕ) → offset_of [] i ≡ 0
    no-offset zero = refl
    no-offset (suc i) = refl
parts-apart (n ∷ ns) i zero l = absurd (omega (arith, l))
parts-apart (n ∷ ns) zero (suc j) l = omega arith
parts-apart (n ∷ ns) (suc i) (suc j) l = let r = parts-apart ns i j (omega (arith, l)) in omega (arith, r)

pub length-part : {A : Type 0} (ns : List ℕ) (i : ℕ) (X : List A) → i < length ns → total ns ≤ length X → length (places_at ns i X) ≡ get_or ns i 0
length-part ns i X l h =
    let f = part-fits ns i l in
    let d = length-drop-plus (offset_of ns i) X (omega (arith, f, h)) in
    length-take-le (get_or ns i 0) (drop (offset_of ns i) X) (omega (arith, f, h, d))

pub at-part : {T : Type 0} (ns : List ℕ) (i q : ℕ) (X : Streams T) → q < get_or ns i 0 → at (places_at ns i X) q ≡ at X (offset_of ns i + q)
at-part ns i q X l = at-take (get_or ns i 0) (drop (offset_of ns i) X) q l ∙ at-drop (offset_of ns i) X q

-- two lists of streams that agree at the places of a process have the same there
pub same-part : {T : Type 0} (ns : List ℕ) (i : ℕ) (X Y : Streams T) → i < length ns → total ns ≤ length X → total ns ≤ length Y → ((q : ℕ) → q < get_or ns i 0 → at X (offset_of ns i + q) ≡ at Y (offset_of ns i + q)) → places_at ns i X ≡ places_at ns i Y
same-part ns i X Y l x y h =
    let a = length-part ns i X l x in
    let b = length-part ns i Y l y in
    streams-same (places_at ns i X) (places_at ns i Y) (a ∙ sym b) (λ q w. let v : q < get_or ns i 0 = omega (arith, w, a) in at-part ns i q X v ∙ h q v ∙ sym (at-part ns i q Y v))

-- what other streams at the places of a process make of all
module _ {T : Type 0} (ns : List ℕ) (i : ℕ) (L X : Streams T) (there : i < length ns) (long : total ns ≤ length X) (count : length L ≡ get_or ns i 0) where
  first-long : length (take (offset_of ns i) X) ≡ offset_of ns i
  first-long = let f = part-fits ns i there in length-take-le (offset_of ns i) X (omega (arith, f, long))

  pub with-length : length (with_places ns i L X) ≡ length X
  with-length =
      let o : ℕ = offset_of ns i in
      let f = part-fits ns i there in
      let a = length-drop-plus o X (omega (arith, f, long)) in
      let b = length-drop-plus (get_or ns i 0) (drop o X) (omega (arith, f, long, a)) in
      let c = length-append (take o X) (L ++ drop (get_or ns i 0) (drop o X)) in
      let d = length-append L (drop (get_or ns i 0) (drop o X)) in
      let e = first-long in
      omega (arith, a, b, c, d, e, count)

  pub with-before : (c : ℕ) → c < offset_of ns i → at (with_places ns i L X) c ≡ at X c
  with-before c l = at-append-first (take (offset_of ns i) X) (L ++ drop (get_or ns i 0) (drop (offset_of ns i) X)) c (let e = first-long in omega (arith, e, l)) ∙ at-take (offset_of ns i) X c l

  behind-first : (c : ℕ) → at (with_places ns i L X) (offset_of ns i + c) ≡ at (L ++ drop (get_or ns i 0) (drop (offset_of ns i) X)) c
  behind-first c =
      ap (λ o. at (with_places ns i L X) (o + c)) (sym first-long) ∙ at-append-then (take (offset_of ns i) X) (L ++ drop (get_or ns i 0) (drop (offset_of ns i) X)) c

  pub with-at : (q : ℕ) → q < get_or ns i 0 → at (with_places ns i L X) (offset_of ns i + q) ≡ at L q
  with-at q l = behind-first q ∙ at-append-first L (drop (get_or ns i 0) (drop (offset_of ns i) X)) q (omega (arith, l, count))

  pub with-after : (c : ℕ) → offset_of ns i + get_or ns i 0 ≤ c → at (with_places ns i L X) c ≡ at X c
  with-after c l =
      let o : ℕ = offset_of ns i in
      let n : ℕ = get_or ns i 0 in
      let d = further c o n l in
      ap (λ v. at (with_places ns i L X) v) d.1 ∙ behind-first (n + d.0) ∙ ap (λ v. at (L ++ drop n (drop o X)) (v + d.0)) (sym count) ∙ at-append-then L (drop n (drop o X)) d.0 ∙ at-drop n (drop o X) d.0 ∙ at-drop o X (n + d.0) ∙ ap (λ v. at X v) (sym d.1)
    where
      further : (c o n : ℕ) → o + n ≤ c → (d : ℕ) × (c ≡ o + (n + d))
      further c o n l = (c - (o + n), omega (arith, l))

-- streams that are joined
pub length-joined : {T : Type 0} (X Y : Streams T) → length X ≤ length Y → length (joined X Y) ≡ length Y
length-joined [] Y l = refl
length-joined (x ∷ X) [] l = absurd (omega (arith, l))
length-joined (x ∷ X) (y ∷ Y) l = ap (λ v. suc v) (length-joined X Y (omega (arith, l)))

pub joined-part : {T : Type 0} (X Y : Streams T) → length X ≤ length Y → joined X Y ≡ joined X (take (length X) Y) ++ drop (length X) Y
joined-part [] Y l = refl
joined-part (x ∷ X) [] l = absurd (omega (arith, l))
joined-part (x ∷ X) (y ∷ Y) l = ap (λ v. (x ++ y) ∷ v) (joined-part X Y (omega (arith, l)))

pub joined-before : {T : Type 0} (X Y Z : Streams T) → length X ≤ length Y → joined X (take (length X) Y ++ Z) ≡ joined X (take (length X) Y) ++ Z
joined-before [] Y Z l = refl
joined-before (x ∷ X) [] Z l = absurd (omega (arith, l))
joined-before (x ∷ X) (y ∷ Y) Z l = ap (λ v. (x ++ y) ∷ v) (joined-before X Y Z (omega (arith, l)))

pub length-joined-part : {T : Type 0} (X Y : Streams T) → length X ≤ length Y → length (joined X (take (length X) Y)) ≡ length X
length-joined-part X Y l = let a = length-take-le (length X) Y l in length-joined X (take (length X) Y) (omega (arith, a)) ∙ a

pub joined-nothing : {T : Type 0} (n : ℕ) (X : Streams T) → joined (emptied (take n X)) X ≡ X
joined-nothing zero X = refl
joined-nothing (suc n) [] = refl
joined-nothing (suc n) (x ∷ X) = ap (λ v. x ∷ v) (joined-nothing n X)

pub length-emptied : {T : Type 0} (X : Streams T) → length (emptied X) ≡ length X
length-emptied [] = refl
length-emptied (x ∷ X) = ap (λ v. suc v) (length-emptied X)

pub at-emptied : {T : Type 0} (X : Streams T) (c : ℕ) → at (emptied X) c ≡ []
at-emptied [] c = refl
at-emptied (x ∷ X) zero = refl
at-emptied (x ∷ X) (suc c) = at-emptied X c

-- what has arrived
abbrev pub arrival_at : {T : Type 0} → List Source → Streams T → ℕ → List T
arrival_at [] inputs c = []
arrival_at (s ∷ cs) inputs zero = arrival s inputs
arrival_at (s ∷ cs) inputs (suc c) = arrival_at cs inputs c

pub arrived-at : {T : Type 0} (cs : List Source) (inputs X : Streams T) (c : ℕ) → length X ≡ length cs → at (arrived cs inputs X) c ≡ at X c ++ arrival_at cs inputs c
arrived-at [] inputs X c e = sym (append-nil (at X c))
arrived-at (s ∷ cs) inputs [] c e = absurd (omega (arith, e))
arrived-at (s ∷ cs) inputs (x ∷ X) zero e = refl
arrived-at (s ∷ cs) inputs (x ∷ X) (suc c) e = arrived-at cs inputs X c (omega (arith, e))

pub length-behind : {T : Type 0} (ns : List ℕ) (X : Streams T) → length ns ≡ length X → length (behind ns X) ≡ length X
length-behind [] X e = e
length-behind (n ∷ ns) [] e = absurd (omega (arith, e))
length-behind (n ∷ ns) (x ∷ X) e = ap (λ v. suc v) (length-behind ns X (omega (arith, e)))

pub length-lengths : {T : Type 0} (X : Streams T) → length (lengths X) ≡ length X
length-lengths [] = refl
length-lengths (x ∷ X) = ap (λ v. suc v) (length-lengths X)
