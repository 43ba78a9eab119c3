-- Traces that are put at the places of their numbers stand in the order of the numbers.
use Rattle.std.proofs.Common.{◌≡◌, ℕ, zero, suc, ◌+◌, ◌<◌, ◌≤◌, List, [], ◌∷◌, ◌++◌, Bool, true, false, nat_eq, map, length, set, replicate, refl, sym, ap, ap₂, subst, ◌∙◌, arith, length-set}
use Rattle.std.proofs.lemmas.Bool.Decides.{nat_tests}
use Rattle.pt_trace.specs.Report.{Trace}
use Rattle.pt_past.specs.Recorded.{RecordedPort}
use Rattle.pt_node.specs.Shown.{Shown, AllShown, Branch, none, more}
use Rattle.pt_node.specs.View.{Heading, heading_of, outline_of, outlines_of}
use Rattle.pt_trees.specs.Ports.{Listed, own_ports, seen_below, ports_in, ports_below, listed_if, of_number, by_number, recorded_ports, outputs_in, outputs_below, AreBelow, AreNumbered, NumbersStay, told, told_of, filled}

-- the outputs of listed ports
abbrev outs : List Listed → List RecordedPort
outs [] = []
outs (x ∷ xs) = x.output ∷ outs xs

outs-append : (xs ys : List Listed) → outs (xs ++ ys) ≡ outs xs ++ outs ys
outs-append [] ys = refl
outs-append (x ∷ xs) ys = ap (λ v. x.output ∷ v) (outs-append xs ys)

outs-own : (rs : List RecordedPort) → outs (own_ports rs) ≡ rs
outs-own [] = refl
outs-own (r ∷ rs) = ap (λ v. r ∷ v) (outs-own rs)

outs-below : (i : ℕ) (xs : List Listed) → outs (seen_below i xs) ≡ outs xs
outs-below i [] = refl
outs-below i (x ∷ xs) = ap (λ v. x.output ∷ v) (outs-below i xs)

mutual
  outs-in : (s : Shown) → outs (ports_in s) ≡ outputs_in s
  outs-in (Branch f ks) = outs-append (own_ports f.records) (ports_below 0 ks) ∙ ap₂ (λ a b. a ++ b) (outs-own f.records) (outs-kids 0 ks)

  outs-kids : (i : ℕ) (ks : AllShown) → outs (ports_below i ks) ≡ outputs_below ks
  outs-kids i none = refl
  outs-kids i (more s ss) = outs-append (seen_below i (ports_in s)) (ports_below (suc i) ss) ∙ ap₂ (λ a b. a ++ b) (outs-below i (ports_in s) ∙ outs-in s) (outs-kids (suc i) ss)

-- the last of these, or the trace that stands there
abbrev last_or : Trace → List Listed → Trace
last_or t [] = t
last_or t (x ∷ xs) = last_or (told x.output) xs

-- each place has the last trace of its number
abbrev slots : ℕ → List Trace → List Listed → List Trace
slots n [] xs = []
slots n (t ∷ ts) xs = last_or t (of_number n xs) ∷ slots (suc n) ts xs

slots-none : (n : ℕ) (ts : List Trace) → slots n ts [] ≡ ts
slots-none n [] = refl
slots-none n (t ∷ ts) = ap (λ v. t ∷ v) (slots-none (suc n) ts)

-- a port of a smaller number has no place from there on
slots-past : (n : ℕ) (ts : List Trace) (x : Listed) (xs : List Listed) → x.output.number < n → slots n ts (x ∷ xs) ≡ slots n ts xs
slots-past n [] x xs l = refl
slots-past n (t ∷ ts) x xs l =
    let b : nat_eq x.output.number n ≡ false = grind (arith, nat_tests) in
    ap₂ (λ u v. last_or t (listed_if u x (of_number n xs)) ∷ v) b (slots-past (suc n) ts x xs (omega (arith, l)))

slots-set : (n k : ℕ) (ts : List Trace) (x : Listed) (xs : List Listed) → x.output.number ≡ n + k → slots n (set ts k (told x.output)) xs ≡ slots n ts (x ∷ xs)
slots-set n k [] x xs e = refl
slots-set n zero (t ∷ ts) x xs e =
    let b : nat_eq x.output.number n ≡ true = grind (arith, nat_tests) in
    ap₂ (λ u v. last_or t (listed_if u x (of_number n xs)) ∷ v) (sym b) (sym (slots-past (suc n) ts x xs (omega (arith, e))))
slots-set n (suc k) (t ∷ ts) x xs e =
    let b : nat_eq x.output.number n ≡ false = grind (arith, nat_tests) in
    ap₂ (λ u v. last_or t (listed_if u x (of_number n xs)) ∷ v) (sym b) (slots-set (suc n) k ts x xs (omega (arith, e)))

filled-slots : (xs : List Listed) (ts : List Trace) → filled (outs xs) ts ≡ slots 0 ts xs
filled-slots [] ts = sym (slots-none 0 ts)
filled-slots (x ∷ xs) ts = filled-slots xs (set ts x.output.number (told x.output)) ∙ slots-set 0 x.output.number ts x xs (omega arith)

told-append : (xs ys : List Listed) → told_of (xs ++ ys) ≡ told_of xs ++ told_of ys
told-append [] ys = refl
told-append (x ∷ xs) ys = ap (λ v. told x.output ∷ v) (told-append xs ys)

-- where each number is that of one port
only-one : (t : Trace) (ys : List Listed) → length ys ≡ 1 → last_or t ys ∷ [] ≡ told_of ys
only-one t [] e = absurd (omega (arith, e))
only-one t (y ∷ []) e = refl
only-one t (y ∷ z ∷ ys) e = absurd (omega (arith, e))

slots-once : (n count : ℕ) (t : Trace) (xs : List Listed) → ((k : ℕ) → n ≤ k → k < n + count → length (of_number k xs) ≡ 1) → slots n (replicate count t) xs ≡ told_of (by_number n count xs)
slots-once n zero t xs h = refl
slots-once n (suc count) t xs h =
    ap₂ (λ a b. a ++ b) (only-one t (of_number n xs) (h n (omega arith) (omega arith))) (slots-once (suc n) count t xs (λ k a b. h k (omega (arith, a)) (omega (arith, b)))) ∙
    sym (told-append (of_number n xs) (by_number (suc n) count xs))

pub gathered : (count : ℕ) (top : Shown) (t : Trace) → AreNumbered count top → filled (outputs_in top) (replicate count t) ≡ told_of (recorded_ports count top)
gathered count top t h = ap (λ rs. filled rs (replicate count t)) (sym (outs-in top)) ∙ filled-slots (ports_in top) (replicate count t) ∙ slots-once 0 count t (ports_in top) (λ k a b. h.once k (omega (arith, b)))

pub filled-append : (rs ss : List RecordedPort) (ts : List Trace) → filled (rs ++ ss) ts ≡ filled ss (filled rs ts)
filled-append [] ss ts = refl
filled-append (r ∷ rs) ss ts = filled-append rs ss (set ts r.number (told r))

pub filled-length : (rs : List RecordedPort) (ts : List Trace) → length (filled rs ts) ≡ length ts
filled-length [] ts = refl
filled-length (r ∷ rs) ts = filled-length rs (set ts r.number (told r)) ∙ length-set ts r.number (told r)

pub below-left : (count : ℕ) (rs ss : List RecordedPort) → AreBelow count (rs ++ ss) → AreBelow count rs
below-left count [] ss h = tt
below-left count (r ∷ rs) ss h = (h.0, below-left count rs ss h.1)

pub below-right : (count : ℕ) (rs ss : List RecordedPort) → AreBelow count (rs ++ ss) → AreBelow count ss
below-right count [] ss h = h
below-right count (r ∷ rs) ss h = below-right count rs ss h.1

-- ---- numbers are names, which a run doesn't change

headings-append : (rs ss : List RecordedPort) → map heading_of (rs ++ ss) ≡ map heading_of rs ++ map heading_of ss
headings-append [] ss = refl
headings-append (r ∷ rs) ss = ap (λ v. heading_of r ∷ v) (headings-append rs ss)

mutual
  headings-same : (old new : Shown) → outline_of new ≡ outline_of old → map heading_of (outputs_in new) ≡ map heading_of (outputs_in old)
  headings-same (Branch f ks) (Branch g js) o =
      let own : map heading_of g.records ≡ map heading_of f.records = cc in
      let kids : outlines_of js ≡ outlines_of ks = cc in
      headings-append g.records (outputs_below js) ∙ ap₂ (λ a b. a ++ b) own (headings-below ks js kids) ∙ sym (headings-append f.records (outputs_below ks))

  headings-below : (ks js : AllShown) → outlines_of js ≡ outlines_of ks → map heading_of (outputs_below js) ≡ map heading_of (outputs_below ks)
  headings-below none none o = refl
  headings-below none (more t ts) o = absurd (cc)
  headings-below (more s ss) none o = absurd (cc)
  headings-below (more s ss) (more t ts) o =
      let first : outline_of t ≡ outline_of s = cc in
      let rest : outlines_of ts ≡ outlines_of ss = cc in
      headings-append (outputs_in t) (outputs_below ts) ∙ ap₂ (λ a b. a ++ b) (headings-same s t first) (headings-below ss ts rest) ∙ sym (headings-append (outputs_in s) (outputs_below ss))

one_if : Bool → ℕ → ℕ
one_if true n = suc n
one_if false n = n

number-count : ℕ → List Heading → ℕ
number-count n [] = 0
number-count n (h ∷ hs) = one_if (nat_eq h.number n) (number-count n hs)

of-number-count : (n : ℕ) (xs : List Listed) → length (of_number n xs) ≡ number-count n (map heading_of (outs xs))
unfolding number-count one_if
of-number-count n [] = refl
of-number-count n (x ∷ xs) = by_test (nat_eq x.output.number n) (of-number-count n xs)
  where
    by_test : (b : Bool) → length (of_number n xs) ≡ number-count n (map heading_of (outs xs)) → length (listed_if b x (of_number n xs)) ≡ one_if b (number-count n (map heading_of (outs xs)))
    by_test true h = ap (λ k. suc k) h
    by_test false h = h

below-headings : (count : ℕ) (rs ss : List RecordedPort) → map heading_of ss ≡ map heading_of rs → AreBelow count rs → AreBelow count ss
below-headings count [] [] e h = tt
below-headings count [] (s ∷ ss) e h = absurd (cc)
below-headings count (r ∷ rs) [] e h = tt
below-headings count (r ∷ rs) (s ∷ ss) e h =
    let first : heading_of s ≡ heading_of r = cc in
    let rest : map heading_of ss ≡ map heading_of rs = cc in
    (subst (λ (v : Heading). v.number < count) (sym first) h.0, below-headings count rs ss rest h.1)

pub numbers_stay : NumbersStay
numbers_stay count old new o h = record {
  once = λ n l. of-number-count n (ports_in new) ∙ ap (λ rs. number-count n (map heading_of rs)) (outs-in new) ∙ ap (λ hs. number-count n hs) (headings-same old new o) ∙
      ap (λ rs. number-count n (map heading_of rs)) (sym (outs-in old)) ∙ sym (of-number-count n (ports_in old)) ∙ h.once n l;
  below = below-headings count (outputs_in old) (outputs_in new) (headings-same old new o) h.below;
}
