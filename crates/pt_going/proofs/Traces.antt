-- What a tree has recorded on its ports is the traces of the log by which what is kept of it went on.
use Rattle.std.proofs.Common.{◌≡◌, ℕ, zero, suc, ◌+◌, List, [], ◌∷◌, ◌++◌, Bool, true, false, nat_eq, map, refl, sym, ap, subst, ◌∙◌, arith}
use Rattle.pt_meaning.specs.Basics.{Log, Path, trace, given_on}
use Rattle.pt_meaning.specs.Headline.{AreTraces}
use Rattle.pt_value.specs.declared.token.Token.{Token}
use Rattle.pt_records.specs.Kept.{kept_at, EntryGrew, GrewBy, TracesGrew}
use Rattle.pt_past.specs.Recorded.{RecordedPort, trace_of}
use Rattle.pt_node.specs.Shown.{Shown, AllShown, Branch, none, more}
use Rattle.pt_node.specs.View.{kept_of, kepts_of, Heading, heading_of, outline_of, outlines_of}
use Rattle.pt_trees.specs.Ports.{Listed, own_ports, seen_below, ports_in, ports_below, listed_if, of_number, by_number, recorded_ports, ports_of, traces_of}
use Rattle.pt_trees.specs.Start.{AreUntold, IsUnrecorded, AllUnrecorded}

-- the same port, with what the log gives on it
pub record IsTold (log : Log Token) (x y : Listed) : Type 0 where
  pub path : y.path ≡ x.path
  pub heading : heading_of y.output ≡ heading_of x.output
  pub told : y.output.trace ≡ trace log x.path x.output.port

abbrev pub AreTold : Log Token → List Listed → List Listed → Type 0
AreTold log [] [] = Unit {0}
AreTold log (x ∷ xs) (y ∷ ys) = IsTold log x y × AreTold log xs ys
AreTold log [] (y ∷ ys) = ⊥
AreTold log (x ∷ xs) [] = ⊥

told-append : (log : Log Token) (xs ys us vs : List Listed) → AreTold log xs ys → AreTold log us vs → AreTold log (xs ++ us) (ys ++ vs)
told-append log [] [] us vs g h = h
told-append log [] (y ∷ ys) us vs g h = absurd g
told-append log (x ∷ xs) [] us vs g h = absurd g
told-append log (x ∷ xs) (y ∷ ys) us vs g h = (g.0, told-append log xs ys us vs g.1 h)

-- seen from the composite
told-below : (log : Log Token) (i : ℕ) (xs ys : List Listed) → AreTold (λ p. log (i ∷ p)) xs ys → AreTold log (seen_below i xs) (seen_below i ys)
told-below log i [] [] g = tt
told-below log i [] (y ∷ ys) g = absurd g
told-below log i (x ∷ xs) [] g = absurd g
told-below log i (x ∷ xs) (y ∷ ys) g = (record { path = ap (λ p. i ∷ p) g.0.path; heading = g.0.heading; told = g.0.told }, told-below log i xs ys g.1)

told-own : (log : Log Token) (rs ss : List RecordedPort) → AreUntold rs → map heading_of ss ≡ map heading_of rs → TracesGrew (log []) (map trace_of rs) (map trace_of ss) → AreTold log (own_ports rs) (own_ports ss)
told-own log [] [] u h g = tt
told-own log [] (s ∷ ss) u h g = absurd g
told-own log (r ∷ rs) [] u h g = absurd g
told-own log (r ∷ rs) (s ∷ ss) u h g = (record { path = refl; heading = cc; told = g.1 ∙ ap (λ t. t ++ given_on r.port (log [])) u.0 }, told-own log rs ss u.1 (cc) g.2)

mutual
  pub all-told : (log : Log Token) (old new : Shown) → IsUnrecorded old → outline_of new ≡ outline_of old → GrewBy log (kept_of old) (kept_of new) → AreTold log (ports_in old) (ports_in new)
  all-told log (Branch f ks) (Branch g js) u o k =
      let headings : map heading_of g.records ≡ map heading_of f.records = cc in
      let outlines : outlines_of js ≡ outlines_of ks = cc in
      told-append log (own_ports f.records) (own_ports g.records) (ports_below 0 ks) (ports_below 0 js) (told-own log f.records g.records u.0 headings (k []).recorded)
      (told-kids log 0 ks js u.2 outlines (λ j p. let z : 0 + j ≡ j = omega arith in subst (λ n. EntryGrew (log (n ∷ p)) (kept_at (kepts_of ks) j p) (kept_at (kepts_of js) j p)) (sym z) (k (j ∷ p))))

  told-kids : (log : Log Token) (i : ℕ) (ks js : AllShown) → AllUnrecorded ks → outlines_of js ≡ outlines_of ks → ((j : ℕ) (p : Path) → EntryGrew (log ((i + j) ∷ p)) (kept_at (kepts_of ks) j p) (kept_at (kepts_of js) j p)) → AreTold log (ports_below i ks) (ports_below i js)
  told-kids log i none none u o k = tt
  told-kids log i none (more s ss) u o k = absurd (cc)
  told-kids log i (more s ss) none u o k = absurd (cc)
  told-kids log i (more s ss) (more t ts) u o k =
      let first : outline_of t ≡ outline_of s = cc in
      let rest : outlines_of ts ≡ outlines_of ss = cc in
      told-append log (seen_below i (ports_in s)) (seen_below i (ports_in t)) (ports_below (suc i) ss) (ports_below (suc i) ts)
      (told-below log i (ports_in s) (ports_in t) (all-told (λ p. log (i ∷ p)) s t u.0 first (λ p. let z : i + 0 ≡ i = omega arith in subst (λ n. EntryGrew (log (n ∷ p)) (kept_of s p) (kept_of t p)) z (k 0 p))))
      (told-kids log (suc i) ss ts u.1 rest (λ j p. let z : i + suc j ≡ suc i + j = omega arith in subst (λ n. EntryGrew (log (n ∷ p)) (kept_at (kepts_of ss) j p) (kept_at (kepts_of ts) j p)) z (k (suc j) p)))

-- in the order of their numbers
told-number : (log : Log Token) (n : ℕ) (xs ys : List Listed) → AreTold log xs ys → AreTold log (of_number n xs) (of_number n ys)
told-number log n [] [] g = tt
told-number log n [] (y ∷ ys) g = absurd g
told-number log n (x ∷ xs) [] g = absurd g
told-number log n (x ∷ xs) (y ∷ ys) g = subst (λ b. AreTold log (listed_if (nat_eq x.output.number n) x (of_number n xs)) (listed_if b y (of_number n ys))) (ap (λ (h : Heading). nat_eq h.number n) (sym g.0.heading)) (by_test (nat_eq x.output.number n) (told-number log n xs ys g.1))
  where
    by_test : (b : Bool) → AreTold log (of_number n xs) (of_number n ys) → AreTold log (listed_if b x (of_number n xs)) (listed_if b y (of_number n ys))
    by_test true h = (g.0, h)
    by_test false h = h

told-numbers : (log : Log Token) (from count : ℕ) (xs ys : List Listed) → AreTold log xs ys → AreTold log (by_number from count xs) (by_number from count ys)
told-numbers log from zero xs ys g = tt
told-numbers log from (suc count) xs ys g = told-append log (of_number from xs) (of_number from ys) (by_number (suc from) count xs) (by_number (suc from) count ys) (told-number log from xs ys g) (told-numbers log (suc from) count xs ys g)

told-traces : (log : Log Token) (xs ys : List Listed) → AreTold log xs ys → AreTraces log (ports_of xs) (traces_of ys)
told-traces log [] [] g = tt
told-traces log [] (y ∷ ys) g = absurd g
told-traces log (x ∷ xs) [] g = absurd g
told-traces log (x ∷ xs) (y ∷ ys) g = (g.0.told, told-traces log xs ys g.1)

pub traces-are : (log : Log Token) (count : ℕ) (old new : Shown) → IsUnrecorded old → outline_of new ≡ outline_of old → GrewBy log (kept_of old) (kept_of new) → AreTraces log (ports_of (recorded_ports count old)) (traces_of (recorded_ports count new))
traces-are log count old new u o k = told-traces log _ _ (told-numbers log 0 count (ports_in old) (ports_in new) (all-told log old new u o k))
