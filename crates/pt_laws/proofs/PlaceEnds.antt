-- Where all processes stop without a put to make, no child can fire; and what a firing's outputs give to each channel.
use Rattle.std.proofs.Common.{◌≡◌, ℕ, zero, suc, ◌+◌, ◌≤◌, ◌<◌, List, [], ◌∷◌, ◌++◌, Bool, true, false, ◌&&◌, nat_eq, nat_le, nat_lt, length, take, drop, Option, Some, None, refl, sym, ap, ap₂, subst, arith, ◌∙◌, append-nil, eqb-true, eq-eqb, leb-true, inr, if◌then◌else◌}
use Rattle.std.proofs.lemmas.Bool.{ltb-true}
use Rattle.pt_meaning.specs.Basics.{Streams, at}
use Rattle.pt_meaning.specs.Machine.{Need, Over, Counts, Any, Facts, Front, Lacks, Ends, Takes, front, counted, if_long}
use Rattle.pt_meaning.specs.Rounds.{Source, Own, Output, Net}
use Rattle.pt_meaning.specs.Dataflow.{pn_limits}
use Rattle.pt_meaning.specs.Modal.{get}
use Rattle.pt_meaning.specs.Process.{Put, lacking, is_source, listed_if, channels_from, to_each, puts_of_port, puts_of}
use Rattle.pt_meaning.specs.Running.{IsDry, NoneCanFire}
use Rattle.pt_meaning.specs.Places.{Halfway, taken_if, tokens_on, due_from, due, puts_from, ArePuts, StopsBy, AllStop}
use Rattle.pt_laws.proofs.Indexed.{drop-more}

dry-long : {T : Type 0} (b : Bool) (n : ℕ) (xs : List T) (f : Front T) → IsDry f → IsDry (if_long b n xs f)
dry-long true n xs Lacks h = tt
dry-long true n xs Ends h = tt
dry-long true n xs (Takes got left) h = absurd h
dry-long false n xs f h = tt

dry-short : {T : Type 0} (n : ℕ) (xs : List T) (f : Front T) → length xs < n → (b : Bool) → nat_le n (length xs) ≡ b → IsDry (if_long b n xs f)
dry-short n xs f h true e = let a : n ≤ length xs = leb-true n (length xs) e in absurd (omega (arith, a, h))
dry-short n xs f h false e = tt

lacking-case : {T : Type 0} (n : ℕ) (ns : List ℕ) (g x : List T) (G X : Streams T) (b q : ℕ) (c : Bool) → nat_lt (length g) n ≡ c → (if c then Some b else lacking (suc b) ns G) ≡ Some q → (q ≡ b + 0 → x ≡ g) → (lacking (suc b) ns G ≡ Some q → IsDry (counted ns X)) →
    IsDry (if_long (nat_le n (length x)) n x (counted ns X))
lacking-case n ns g x G X b q true l e h k =
    let a : length g < n = ltb-true (length g) n l in
    let z : b ≡ q = cc in
    dry-short n x (counted ns X) (subst (λ v. length v < n) (sym (h (omega (arith, z)))) a) (nat_le n (length x)) refl
lacking-case n ns g x G X b q false l e h k = dry-long (nat_le n (length x)) n x (counted ns X) (k e)

-- a place that lacks tokens keeps a child from firing
lacking-dry : {T : Type 0} (ns : List ℕ) (G X : Streams T) (b q : ℕ) → lacking b ns G ≡ Some q → ((d : ℕ) → q ≡ b + d → at X d ≡ at G d) → IsDry (counted ns X)
lacking-dry [] G X b q e h = absurd (cc)
lacking-dry (n ∷ ns) [] X b q e h = absurd (cc)
lacking-dry (n ∷ ns) (g ∷ G) [] b q e h = tt
lacking-dry (n ∷ ns) (g ∷ G) (x ∷ X) b q e h = lacking-case n ns g x G X b q (nat_lt (length g) n) refl e (h 0) (λ z. lacking-dry ns G X (suc b) q z (λ d w. h (suc d) (omega (arith, w))))

nil-take : {T : Type 0} (n d : ℕ) → at {T = T} (take n []) d ≡ []
nil-take zero d = refl
nil-take (suc n) d = refl

at-take : {T : Type 0} (n : ℕ) (X Y : Streams T) (d : ℕ) → at X d ≡ at Y d → at (take n X) d ≡ at (take n Y) d
at-take zero X Y d e = refl
at-take (suc n) [] [] d e = refl
at-take (suc n) [] (y ∷ Y) zero e = e
at-take (suc n) [] (y ∷ Y) (suc d) e = sym (nil-take n d) ∙ at-take n [] Y d e
at-take (suc n) (x ∷ X) [] zero e = e
at-take (suc n) (x ∷ X) [] (suc d) e = at-take n X [] d e ∙ nil-take n d
at-take (suc n) (x ∷ X) (y ∷ Y) zero e = e
at-take (suc n) (x ∷ X) (y ∷ Y) (suc d) e = at-take n X Y d e

at-drop : {T : Type 0} (n : ℕ) (X : Streams T) (d : ℕ) → at (drop n X) d ≡ at X (n + d)
at-drop zero X d = let e : d ≡ 0 + d = omega arith in ap (λ v. at X v) e
at-drop (suc n) [] d = refl
at-drop (suc n) (x ∷ X) d = let e : suc (n + d) ≡ suc n + d = omega arith in at-drop n X d ∙ ap (λ v. at (x ∷ X) v) e

module _ {T S : Type 0} (facts : Facts T S) (net : Net) (h : Halfway T) (held : Streams T) (split : (c : ℕ) → at held c ≡ at h.gathered c ++ (at h.queued c ++ due net h.puts c)) (none : (i : ℕ) → at h.puts i ≡ []) where
  nothing-due : (c : ℕ) (o : Option Source) → due_from h.puts o c ≡ []
  nothing-due c None = refl
  nothing-due c (Some (Own j)) = refl
  nothing-due c (Some (Output i p)) = ap (λ us. tokens_on c us) (none i)

  only-gathered : (c : ℕ) → at h.queued c ≡ [] → at held c ≡ at h.gathered c
  only-gathered c e = split c ∙ ap₂ (λ v w. at h.gathered c ++ (v ++ w)) e (nothing-due c (get net.sources c)) ∙ append-nil (at h.gathered c)

  stops-dry : (capacity : ℕ → ℕ) (offset n : ℕ) (us : List (Put T)) (need : Need) → us ≡ [] → StopsBy capacity h offset (take n (drop offset h.gathered)) us need → IsDry (front need (take n (drop offset held)))
  stops-dry capacity offset n (u ∷ us) need e s = absurd (cc)
  stops-dry capacity offset n [] Over e s = tt
  stops-dry capacity offset n [] (Counts ns) e s =
      lacking-dry ns (take n (drop offset h.gathered)) (take n (drop offset held)) 0 s.0 s.1
      (λ d w. let z : offset + s.0 ≡ offset + d = omega (arith, w) in
      at-take n (drop offset held) (drop offset h.gathered) d (at-drop offset held d ∙ only-gathered (offset + d) (ap (λ v. at h.queued v) (sym z) ∙ s.2) ∙ sym (at-drop offset h.gathered d)))
  stops-dry capacity offset n [] Any e s = absurd s

  pub none-can-fire : (capacity : ℕ → ℕ) (i offset : ℕ) (ns ms : List ℕ) (ss : List S) → AllStop facts capacity h i offset ns ss → NoneCanFire facts ns (pn_limits ns) ms ss (drop offset held)
  none-can-fire capacity i offset [] ms ss a = tt
  none-can-fire capacity i offset (n ∷ ns) [] ss a = tt
  none-can-fire capacity i offset (n ∷ ns) (m ∷ ms) [] a = tt
  none-can-fire capacity i offset (n ∷ ns) (m ∷ ms) (s ∷ ss) a = (
    inr (stops-dry capacity offset n (at h.puts i) (facts.need s) (none i) a.0),
    subst (λ X. NoneCanFire facts ns (pn_limits ns) ms ss X) (drop-more offset n held) (none-can-fire capacity (suc i) (offset + n) ns ms ss a.1),
  )

-- the puts of a firing's outputs give each channel what its port gave
pub tokens-append : {T : Type 0} (c : ℕ) (us vs : List (Put T)) → tokens_on c (us ++ vs) ≡ tokens_on c us ++ tokens_on c vs
tokens-append c [] vs = refl
tokens-append c (u ∷ us) vs = go (nat_eq u.channel c) (tokens-append c us vs)
  where
    go : (b : Bool) → tokens_on c (us ++ vs) ≡ tokens_on c us ++ tokens_on c vs → taken_if b u.token (tokens_on c (us ++ vs)) ≡ taken_if b u.token (tokens_on c us) ++ tokens_on c vs
    go true e = ap (λ v. u.token ∷ v) e
    go false e = e

-- a token for each channel of a source
abbrev pub if_from : {A : Type 0} → Source → Option Source → List A → List A
if_from s None xs = []
if_from s (Some d) xs = if is_source s d then xs else []

later-channel : (a b : ℕ) → a < b → nat_eq b a ≡ false
later-channel a b l = go (nat_eq b a) refl
  where
    go : (c : Bool) → nat_eq b a ≡ c → nat_eq b a ≡ false
    go false e = e
    go true e = let x : b ≡ a = eqb-true b a e in absurd (omega (arith, x, l))

none-before : {T : Type 0} (x : T) (s : Source) (ds : List Source) (b c : ℕ) → c < b → tokens_on c (to_each x (channels_from b s ds)) ≡ []
none-before x s [] b c l = refl
none-before {T} x s (d ∷ ds) b c l = go (is_source s d) (none-before x s ds (suc b) c (omega arith))
  where
    go : (y : Bool) → tokens_on c (to_each x (channels_from (suc b) s ds)) ≡ [] → tokens_on c (to_each x (listed_if y b (channels_from (suc b) s ds))) ≡ []
    go true e = ap (λ v. taken_if v x (tokens_on c (to_each x (channels_from (suc b) s ds)))) (later-channel c b l) ∙ e
    go false e = e

one-each : {T : Type 0} (x : T) (s : Source) (ds : List Source) (b e : ℕ) → tokens_on (b + e) (to_each x (channels_from b s ds)) ≡ if_from s (get ds e) (x ∷ [])
one-each x s [] b e = refl
one-each {T} x s (d ∷ ds) b zero = go (is_source s d) (none-before x s ds (suc b) (b + 0) (omega arith))
  where
    same : nat_eq b (b + 0) ≡ true
    same = eq-eqb b (b + 0) (omega arith)

    go : (y : Bool) → tokens_on (b + 0) (to_each x (channels_from (suc b) s ds)) ≡ [] → tokens_on (b + 0) (to_each x (listed_if y b (channels_from (suc b) s ds))) ≡ (if y then x ∷ [] else [])
    go true e = ap (λ v. taken_if v x (tokens_on (b + 0) (to_each x (channels_from (suc b) s ds)))) same ∙ ap (λ v. x ∷ v) e
    go false e = e
one-each {T} x s (d ∷ ds) b (suc e) = go (is_source s d) (let a : b + suc e ≡ suc b + e = omega arith in ap (λ v. tokens_on v (to_each x (channels_from (suc b) s ds))) a ∙ one-each x s ds (suc b) e)
  where
    other : nat_eq b (b + suc e) ≡ false
    other = diff (nat_eq b (b + suc e)) refl
      where
        diff : (c : Bool) → nat_eq b (b + suc e) ≡ c → nat_eq b (b + suc e) ≡ false
        diff false z = z
        diff true z = let w : b ≡ b + suc e = eqb-true b (b + suc e) z in absurd (omega (arith, w))

    go : (y : Bool) → tokens_on (b + suc e) (to_each x (channels_from (suc b) s ds)) ≡ if_from s (get ds e) (x ∷ []) → tokens_on (b + suc e) (to_each x (listed_if y b (channels_from (suc b) s ds))) ≡ if_from s (get ds e) (x ∷ [])
    go true z = ap (λ v. taken_if v x (tokens_on (b + suc e) (to_each x (channels_from (suc b) s ds)))) other ∙ z
    go false z = z

from-append : {A : Type 0} (s : Source) (o : Option Source) (xs ys : List A) → if_from s o xs ++ if_from s o ys ≡ if_from s o (xs ++ ys)
from-append s None xs ys = refl
from-append {A} s (Some d) xs ys = go (is_source s d)
  where
    go : (b : Bool) → (if b then xs else []) ++ (if b then ys else []) ≡ (if b then xs ++ ys else [])
    go true = refl
    go false = refl

from-none : {A : Type 0} (s : Source) (o : Option Source) → if_from {A = A} s o [] ≡ []
from-none s None = refl
from-none {A} s (Some d) = go (is_source s d)
  where
    go : (b : Bool) → ◌≡◌ {A = List A} (if b then [] else []) []
    go true = refl
    go false = refl

pub port-puts : {T : Type 0} (s : Source) (ds : List Source) (c : ℕ) (xs : List T) → tokens_on c (puts_of_port (channels_from 0 s ds) xs) ≡ if_from s (get ds c) xs
port-puts s ds c [] = sym (from-none s (get ds c))
port-puts s ds c (x ∷ xs) =
    let z : c ≡ 0 + c = omega arith in
    tokens-append c (to_each x (channels_from 0 s ds)) (puts_of_port (channels_from 0 s ds) xs) ∙
    ap₂ (λ v w. v ++ w) (ap (λ v. tokens_on v (to_each x (channels_from 0 s ds))) z ∙ one-each x s ds 0 c) (port-puts s ds c xs) ∙ from-append s (get ds c) (x ∷ []) xs

-- the outputs from port p on, as a source sees them
abbrev pub seen : {T : Type 0} → ℕ → ℕ → Streams T → Option Source → List T
seen i p [] o = []
seen i p (xs ∷ X) o = if_from (Output i p) o xs ++ seen i (suc p) X o

all-puts : {T : Type 0} (ds : List Source) (i p c : ℕ) (X : Streams T) → tokens_on c (puts_of ds i p X) ≡ seen i p X (get ds c)
all-puts ds i p c [] = refl
all-puts ds i p c (xs ∷ X) = tokens-append c (puts_of_port (channels_from 0 (Output i p) ds) xs) (puts_of ds i (suc p) X) ∙ ap₂ (λ v w. v ++ w) (port-puts (Output i p) ds c xs) (all-puts ds i (suc p) c X)

seen-none : {T : Type 0} (i p : ℕ) (X : Streams T) → seen i p X None ≡ []
seen-none i p [] = refl
seen-none i p (xs ∷ X) = seen-none i (suc p) X

seen-own : {T : Type 0} (i p j : ℕ) (X : Streams T) → seen i p X (Some (Own j)) ≡ []
seen-own i p j [] = refl
seen-own i p j (xs ∷ X) = seen-own i (suc p) j X

seen-before : {T : Type 0} (i p j q : ℕ) (X : Streams T) → q < p → seen i p X (Some (Output j q)) ≡ []
seen-before i p j q [] l = refl
seen-before {T} i p j q (xs ∷ X) l = go (nat_eq i j) (nat_eq p q) refl ∙ seen-before i (suc p) j q X (omega arith)
  where
    go : (a b : Bool) → nat_eq p q ≡ b → (if a && b then xs else []) ++ seen i (suc p) X (Some (Output j q)) ≡ seen i (suc p) X (Some (Output j q))
    go true true e = let x : p ≡ q = eqb-true p q e in absurd (omega (arith, x, l))
    go true false e = refl
    go false b e = refl

seen-at : {T : Type 0} (i p j e : ℕ) (X : Streams T) → seen i p X (Some (Output j (p + e))) ≡ (if nat_eq i j then at X e else [])
seen-at {T} i p j e [] = go (nat_eq i j)
  where
    go : (b : Bool) → ◌≡◌ {A = List T} [] (if b then [] else [])
    go true = refl
    go false = refl
seen-at {T} i p j zero (xs ∷ X) =
    ap₂ (λ v w. (if nat_eq i j && v then xs else []) ++ w) (eq-eqb p (p + 0) (omega arith)) (seen-before i (suc p) j (p + 0) X (omega arith)) ∙ go (nat_eq i j)
  where
    go : (b : Bool) → (if b && true then xs else []) ++ [] ≡ (if b then xs else [])
    go true = append-nil xs
    go false = refl
seen-at {T} i p j (suc e) (xs ∷ X) =
    ap (λ v. (if nat_eq i j && v then xs else []) ++ seen i (suc p) X (Some (Output j (p + suc e)))) other ∙ go (nat_eq i j) (let a : p + suc e ≡ suc p + e = omega arith in ap (λ v. seen i (suc p) X (Some (Output j v))) a ∙ seen-at i (suc p) j e X)
  where
    other : nat_eq p (p + suc e) ≡ false
    other = diff (nat_eq p (p + suc e)) refl
      where
        diff : (c : Bool) → nat_eq p (p + suc e) ≡ c → nat_eq p (p + suc e) ≡ false
        diff false z = z
        diff true z = let w : p ≡ p + suc e = eqb-true p (p + suc e) z in absurd (omega (arith, w))

    go : (b : Bool) → seen i (suc p) X (Some (Output j (p + suc e))) ≡ (if nat_eq i j then at X e else []) → (if b && false then xs else []) ++ seen i (suc p) X (Some (Output j (p + suc e))) ≡ (if nat_eq i j then at X e else [])
    go true z = z
    go false z = z

eq-sym : (a b : ℕ) → nat_eq a b ≡ nat_eq b a
eq-sym a b = go (nat_eq a b) (nat_eq b a) refl refl
  where
    go : (x y : Bool) → nat_eq a b ≡ x → nat_eq b a ≡ y → x ≡ y
    go true true p q = refl
    go false false p q = refl
    go true false p q = sym (eq-eqb b a (sym (eqb-true a b p))) ∙ q
    go false true p q = sym p ∙ eq-eqb a b (sym (eqb-true b a q))

pub puts-are : {T : Type 0} (net : Net) (i : ℕ) (out : Streams T) → ArePuts net i out (puts_of net.sources i 0 out)
puts-are {T} net i out c = all-puts net.sources i 0 c out ∙ go (get net.sources c)
  where
    go : (o : Option Source) → seen i 0 out o ≡ puts_from i out o
    go None = seen-none i 0 out
    go (Some (Own j)) = seen-own i 0 j out
    go (Some (Output j q)) = let a : q ≡ 0 + q = omega arith in ap (λ v. seen i 0 out (Some (Output j v))) a ∙ seen-at i 0 j q out ∙ ap (λ b. if b then at out q else []) (eq-sym i j)
