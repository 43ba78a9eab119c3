-- Which channels of a composite end at delays, place by place.
use Rattle.std.proofs.Common.{◌≡◌, ℕ, zero, suc, ◌+◌, ◌<◌, ◌≤◌, List, [], ◌∷◌, ◌++◌, length, take, drop, map, get_or, replicate, Bool, true, false, Some, None, refl, sym, ap, ◌∙◌, arith, append_assoc, length-append}
use Rattle.std.proofs.lemmas.List.{length-replicate}
use Rattle.pt_meaning.specs.Running.{total}
use Rattle.pt_meaning.specs.Streams.{get}
use Rattle.pt_meaning.specs.Tree.{Actor, Composite}
use Rattle.pt_laws.specs.TickRuns.{places_at}
use Rattle.pt_library.proofs.DelayLaws.{delay-whole}
use Rattle.pt_node.specs.View.{Tree}
use Rattle.pt_trees.specs.Around.{Around}
use Rattle.pt_trees.specs.De.{is_delay, answers_early, delays_from, delays_of, delayed_in}

pub from-length : (kid : Tree) (from n : ℕ) → length (delays_from kid from n) ≡ n
from-length kid from zero = refl
from-length kid from (suc n) = ap (λ m. suc m) (from-length kid (suc from) n)

delays-length : (kids : List Tree) (places : List ℕ) → length kids ≡ length places → length (delays_of kids places) ≡ total places
delays-length [] [] e = refl
delays-length [] (n ∷ places) e = absurd (omega (arith, e))
delays-length (k ∷ kids) [] e = absurd (omega (arith, e))
delays-length (k ∷ kids) (n ∷ places) e = omega (arith, length-append (delays_from k 0 n) (delays_of kids places), from-length k 0 n, delays-length kids places (omega (arith, e)))

pub delayed-length : (around : Around) (kids : List Tree) → length kids ≡ length around.places → length (delayed_in around kids) ≡ total around.places + around.outputs
delayed-length around kids e =
    omega (arith, length-append (delays_of kids around.places) (replicate around.outputs false), delays-length kids around.places e, length-replicate around.outputs false)

-- ---- the places of a child

first-taken : {A : Type 0} (xs ys : List A) → take (length xs) (xs ++ ys) ≡ xs
first-taken [] ys = refl
first-taken (x ∷ xs) ys = ap (λ v. x ∷ v) (first-taken xs ys)

rest-left : {A : Type 0} (n m : ℕ) (xs ys : List A) → length xs ≡ n → drop (n + m) (xs ++ ys) ≡ drop m ys
rest-left n m [] ys e =
    let none : n + m ≡ m = omega (arith, e) in
    ap (λ k. drop k ys) none
rest-left zero m (x ∷ xs) ys e = absurd (omega (arith, e))
rest-left (suc n) m (x ∷ xs) ys e =
    let one : suc n + m ≡ suc (n + m) = omega arith in
    ap (λ k. drop k (x ∷ (xs ++ ys))) one ∙ rest-left n m xs ys (omega (arith, e))

child-flags : (kids : List Tree) (places : List ℕ) (rest : List Bool) → length kids ≡ length places → (i : ℕ) (kid : Tree) → get kids i ≡ Some kid → places_at places i (delays_of kids places ++ rest) ≡ delays_from kid 0 (get_or places i 0)
child-flags [] places rest e i kid g = absurd (cc)
child-flags (k ∷ kids) [] rest e i kid g = absurd (omega (arith, e))
child-flags (k ∷ kids) (n ∷ places) rest e zero kid g =
    let same : k ≡ kid = cc in
    ap (λ v. take n v) (append_assoc (delays_from k 0 n) (delays_of kids places) rest) ∙ ap (λ m. take m (delays_from k 0 n ++ (delays_of kids places ++ rest))) (sym (from-length k 0 n)) ∙ first-taken (delays_from k 0 n) (delays_of kids places ++ rest) ∙ ap (λ v. delays_from v 0 n) same
child-flags (k ∷ kids) (n ∷ places) rest e (suc i) kid g =
    ap (λ v. take (get_or places i 0) (drop (n + total (take i places)) v)) (append_assoc (delays_from k 0 n) (delays_of kids places) rest) ∙
    ap (λ v. take (get_or places i 0) v) (rest-left n (total (take i places)) (delays_from k 0 n) (delays_of kids places ++ rest) (from-length k 0 n)) ∙ child-flags kids places rest (omega (arith, e)) i kid g

-- those of child i are its own
pub flags-at : (around : Around) (kids : List Tree) → length kids ≡ length around.places → (i : ℕ) (kid : Tree) → get kids i ≡ Some kid → places_at around.places i (delayed_in around kids) ≡ delays_from kid 0 (get_or around.places i 0)
flags-at around kids e i kid g = child-flags kids around.places (replicate around.outputs false) e i kid g

-- a child that isn't there has none
pub none-at : {A : Type 0} (places : List ℕ) (i : ℕ) (xs : List A) → length places ≤ i → places_at places i xs ≡ []
none-at places i xs h = ap (λ n. take n (drop (total (take i places)) xs)) (past places i h)
  where
    past : (ns : List ℕ) (i : ℕ) → length ns ≤ i → get_or ns i 0 ≡ 0
    past [] i h = refl
    past (n ∷ ns) zero h = absurd (omega (arith, h))
    past (n ∷ ns) (suc i) h = past ns i (omega (arith, h))

-- ---- one place

flag-from : (kid : Tree) (from n q : ℕ) → q < n → get_or (delays_from kid from n) q false ≡ is_delay kid (from + q)
flag-from kid from zero q h = absurd (omega (arith, h))
flag-from kid from (suc n) zero h =
    let here : from ≡ from + zero = omega arith in
    ap (λ (p : ℕ). is_delay kid p) here
flag-from kid from (suc n) (suc q) h =
    let next : suc from + q ≡ from + suc q = omega arith in
    flag-from kid (suc from) n q (omega (arith, h)) ∙ ap (λ (p : ℕ). is_delay kid p) next

pub flag-of : (kid : Tree) (n q : ℕ) → q < n → get_or (delays_from kid 0 n) q false ≡ is_delay kid q
flag-of kid n q h =
    let first : 0 + q ≡ q = omega arith in
    flag-from kid 0 n q h ∙ ap (λ (p : ℕ). is_delay kid p) first

-- where a flag is set there is such a place
set-from : (kid : Tree) (from n q : ℕ) → get_or (delays_from kid from n) q false ≡ true → (p : ℕ) × (is_delay kid p ≡ true)
set-from kid from zero q e = absurd (cc)
set-from kid from (suc n) zero e = (from, e)
set-from kid from (suc n) (suc q) e = set-from kid (suc from) n q e

delays-early : (kid : Tree) (p : ℕ) → is_delay kid p ≡ true → answers_early kid ≡ true
delays-early (Actor h a b) p e = delay-whole b p e
delays-early (Composite h c d kids) p e = e

-- a child with a delay answers early
pub set-early : (kid : Tree) (n q : ℕ) → get_or (delays_from kid 0 n) q false ≡ true → answers_early kid ≡ true
set-early kid n q e = let r = set-from kid 0 n q e in delays-early kid r.0 r.1

-- ---- what is told of a child

pub told-at : {B : Type 0} (f : Tree → B) (kids : List Tree) (i : ℕ) (kid : Tree) (e : B) → get kids i ≡ Some kid → get_or (map f kids) i e ≡ f kid
told-at f [] i kid e g = absurd (cc)
told-at f (k ∷ kids) zero kid e g = let same : k ≡ kid = cc in ap f same
told-at f (k ∷ kids) (suc i) kid e g = told-at f kids i kid e g

pub none-past : (kids : List Tree) (i : ℕ) → get kids i ≡ None → length kids ≤ i
none-past [] i e = omega arith
none-past (k ∷ kids) zero e = absurd (cc)
none-past (k ∷ kids) (suc i) e = omega (arith, none-past kids i e)
