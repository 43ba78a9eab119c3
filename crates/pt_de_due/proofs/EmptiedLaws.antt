-- The inputs of a child leave their channels, and those of the others stay.
use Rattle.std.proofs.Common.{◌≡◌, ◌⊎◌, inl, inr, ℕ, zero, suc, ◌+◌, ◌<◌, ◌≤◌, List, [], ◌∷◌, length, map, get_or, set, take, drop, refl, ap, ◌∙◌, sym, arith}
use Rattle.std.proofs.lemmas.List.{get_or_past}
use Rattle.std.proofs.lemmas.Bool.{cases_lt}
use Rattle.pt_meaning.specs.Streams.{Streams, at}
use Rattle.pt_meaning.specs.Running.{total}
use Rattle.pt_laws.specs.TickRuns.{places_at}
use Rattle.pt_de_laws.specs.State.{emptied_from, emptied}
use Rattle.pt_reaction.proofs.OffsetLaws.{total-within}
use Rattle.pt_de_due.proofs.ReaderLaws.{total-upto}

first-next : (k : ℕ) → 0 + suc k ≡ suc (0 + k)
first-next k = omega arith

later-next : (o k : ℕ) → suc o + k ≡ suc (o + k)
later-next o k = omega arith

module _ {T : Type 0} where
  pub emptied-from-long : (o n : ℕ) (X : Streams T) → length (emptied_from o n X) ≡ length X
  emptied-from-long zero zero X = refl
  emptied-from-long zero (suc n) [] = refl
  emptied-from-long zero (suc n) (xs ∷ X) = ap (λ k. suc k) (emptied-from-long zero n X)
  emptied-from-long (suc o) n [] = refl
  emptied-from-long (suc o) n (xs ∷ X) = ap (λ k. suc k) (emptied-from-long o n X)

  pub emptied-long : (ns : List ℕ) (i : ℕ) (X : Streams T) → length (emptied ns i X) ≡ length X
  emptied-long ns i X = emptied-from-long (total (take i ns)) (get_or ns i 0) X

  pub none-emptied : (o : ℕ) (X : Streams T) → emptied_from o 0 X ≡ X
  none-emptied zero X = refl
  none-emptied (suc o) [] = refl
  none-emptied (suc o) (xs ∷ X) = ap (λ Y. xs ∷ Y) (none-emptied o X)

  -- one channel after another: the next is as it was, and has nothing then
  pub emptied-more : (o k : ℕ) (X : Streams T) → emptied_from o (suc k) X ≡ set (emptied_from o k X) (o + k) []
  emptied-more zero zero [] = refl
  emptied-more zero zero (xs ∷ X) = refl
  emptied-more zero (suc k) [] = refl
  emptied-more zero (suc k) (xs ∷ X) = ap (λ (Y : Streams T). [] ∷ Y) (emptied-more zero k X) ∙ ap (λ m. set ([] ∷ emptied_from zero k X) m []) (sym (first-next k))
  emptied-more (suc o) k [] = refl
  emptied-more (suc o) k (xs ∷ X) = ap (λ (Y : Streams T). xs ∷ Y) (emptied-more o k X) ∙ ap (λ m. set (xs ∷ emptied_from o k X) m []) (sym (later-next o k))

  pub emptied-next : (o k : ℕ) (X : Streams T) → at (emptied_from o k X) (o + k) ≡ at X (o + k)
  emptied-next zero zero X = refl
  emptied-next zero (suc k) [] = refl
  emptied-next zero (suc k) (xs ∷ X) = ap (λ m. at ([] ∷ emptied_from zero k X) m) (first-next k) ∙ emptied-next zero k X ∙ ap (λ m. at (xs ∷ X) m) (sym (first-next k))
  emptied-next (suc o) k [] = refl
  emptied-next (suc o) k (xs ∷ X) = ap (λ m. at (xs ∷ emptied_from o k X) m) (later-next o k) ∙ emptied-next o k X ∙ ap (λ m. at (xs ∷ X) m) (sym (later-next o k))

  -- channels past those
  drop-past : (o n m : ℕ) (X : Streams T) → o + n ≤ m → drop m (emptied_from o n X) ≡ drop m X
  drop-past zero zero m X h = refl
  drop-past zero (suc n) m [] h = refl
  drop-past zero (suc n) zero (xs ∷ X) h = absurd (omega (arith, h))
  drop-past zero (suc n) (suc m) (xs ∷ X) h = drop-past zero n m X (omega (arith, h))
  drop-past (suc o) n m [] h = refl
  drop-past (suc o) n zero (xs ∷ X) h = absurd (omega (arith, h))
  drop-past (suc o) n (suc m) (xs ∷ X) h = drop-past o n m X (omega (arith, h))

  -- and before them
  take-before : (o n k : ℕ) (X : Streams T) → k ≤ o → take k (emptied_from o n X) ≡ take k X
  take-before o n zero X h = refl
  take-before zero n (suc k) X h = absurd (omega (arith, h))
  take-before (suc o) n (suc k) [] h = refl
  take-before (suc o) n (suc k) (xs ∷ X) h = ap (λ Y. xs ∷ Y) (take-before o n k X (omega (arith, h)))

  part-before : (o n m k : ℕ) (X : Streams T) → m + k ≤ o → take k (drop m (emptied_from o n X)) ≡ take k (drop m X)
  part-before o n zero k X h = take-before o n k X (omega (arith, h))
  part-before zero n (suc m) k X h = absurd (omega (arith, h))
  part-before (suc o) n (suc m) k [] h = refl
  part-before (suc o) n (suc m) k (xs ∷ X) h = part-before o n m k X (omega (arith, h))

  -- what is at the places of another child stays
  pub emptied-others : (ns : List ℕ) (i j : ℕ) (X : Streams T) → (j ≡ i → ⊥) → places_at ns j (emptied ns i X) ≡ places_at ns j X
  emptied-others ns i j X z = by (cases_lt j (length ns)) (cases_lt i (length ns)) (cases_lt j i)
    where
      by : (j < length ns) ⊎ (length ns ≤ j) → (i < length ns) ⊎ (length ns ≤ i) → (j < i) ⊎ (i ≤ j) → places_at ns j (emptied ns i X) ≡ places_at ns j X
      by (inr p) q r = ap (λ k. take k (drop (total (take j ns)) (emptied ns i X))) (get_or_past ns j 0 p) ∙ ap (λ k. take k (drop (total (take j ns)) X)) (sym (get_or_past ns j 0 p))
      by (inl p) (inr q) r = ap (λ k. places_at ns j (emptied_from (total (take i ns)) k X)) (get_or_past ns i 0 q) ∙ ap (λ Y. places_at ns j Y) (none-emptied (total (take i ns)) X)
      by (inl p) (inl q) (inl r) = part-before (total (take i ns)) (get_or ns i 0) (total (take j ns)) (get_or ns j 0) X (total-upto ns j i r (omega (arith, q)))
      by (inl p) (inl q) (inr r) =
          let l : i < j = grind (arith, z, r) in
          ap (λ Y. take (get_or ns j 0) Y) (drop-past (total (take i ns)) (get_or ns i 0) (total (take j ns)) X (total-upto ns i j l (omega (arith, p))))

  -- and what is at the own outputs
  pub emptied-own : (ns : List ℕ) (i : ℕ) (X : Streams T) → drop (total ns) (emptied ns i X) ≡ drop (total ns) X
  emptied-own ns i X = by (cases_lt i (length ns))
    where
      by : (i < length ns) ⊎ (length ns ≤ i) → drop (total ns) (emptied ns i X) ≡ drop (total ns) X
      by (inl q) = drop-past (total (take i ns)) (get_or ns i 0) (total ns) X (total-within ns i q)
      by (inr q) = ap (λ k. drop (total ns) (emptied_from (total (take i ns)) k X)) (get_or_past ns i 0 q) ∙ ap (λ Y. drop (total ns) Y) (none-emptied (total (take i ns)) X)

  -- nothing is at its own
  take-emptied : (n : ℕ) (X : Streams T) → take n (emptied_from 0 n X) ≡ map (λ (xs : List T). let none : List T = [] in none) (take n X)
  take-emptied zero X = refl
  take-emptied (suc n) [] = refl
  take-emptied (suc n) (xs ∷ X) = ap (λ (Y : Streams T). [] ∷ Y) (take-emptied n X)

  part-emptied : (o n : ℕ) (X : Streams T) → take n (drop o (emptied_from o n X)) ≡ map (λ (xs : List T). let none : List T = [] in none) (take n (drop o X))
  part-emptied zero n X = take-emptied n X
  part-emptied (suc o) zero [] = refl
  part-emptied (suc o) (suc n) [] = refl
  part-emptied (suc o) n (xs ∷ X) = part-emptied o n X

  pub emptied-itself : (ns : List ℕ) (i : ℕ) (X : Streams T) → places_at ns i (emptied ns i X) ≡ map (λ (xs : List T). let none : List T = [] in none) (places_at ns i X)
  emptied-itself ns i X = part-emptied (total (take i ns)) (get_or ns i 0) X
