-- The rows of a child, as they are taken from its lines.
use Rattle.std.proofs.Common.{◌≡◌, ℕ, zero, suc, ◌+◌, ◌-◌, ◌<◌, ◌≤◌, max, Bool, true, false, List, [], ◌∷◌, ◌++◌, length, get_or, set, map, take, drop, refl, sym, ap, ap₂, subst, ◌∙◌, arith, add-one}
use Rattle.std.proofs.lemmas.List.{take_more, take_more_set, map_more, drop_more, length-map, length-drop, length-take, length-take-le, get_or-drop, get_or-take, get_or-map, take-map}
use Rattle.pt_meaning.specs.Streams.{Streams, at}
use Rattle.pt_meaning.specs.De.{heads, tails, longest, rows_from, rows_of}
use Rattle.pt_de_laws.specs.State.{rows_for, emptied_from}
use Rattle.pt_reaction.specs.Channels.{lists_of}
use Rattle.pt_reaction.specs.Lines.{first_from}
use Rattle.pt_reaction.specs.Spared.{Spared}
use Rattle.pt_reaction.proofs.GivenLaws.{at-is}
use Rattle.pt_reaction.proofs.LineLaws.{behind-set}
use Rattle.pt_de_due.proofs.EmptiedLaws.{none-emptied, emptied-more, emptied-next}
use Rattle.pt_de_parts.specs.Rows.{Rowing, behind, rows_seen}

pub drop-set : {A : Type 0} (xs : List A) (n : ℕ) (x : A) → drop (n + 1) (set xs n x) ≡ drop (n + 1) xs
drop-set xs n x = behind-set xs n x

drop-one : {A : Type 0} (xs : List A) (n : ℕ) → drop (suc n) xs ≡ drop 1 (drop n xs)
drop-one xs zero = refl
drop-one [] (suc n) = refl
drop-one (x ∷ xs) (suc n) = drop-one xs n

pub drop-next : {A : Type 0} (xs : List A) (n : ℕ) → drop (n + 1) xs ≡ drop 1 (drop n xs)
drop-next xs n = ap (λ k. drop k xs) (add-one n) ∙ drop-one xs n

module _ {T : Type 0} where
  -- the row at a number, and what is behind it
  head-behind : (n : ℕ) (xs : List T) (X : Streams T) → heads (drop n xs ∷ X) ≡ first_from n xs ∷ heads X
  head-behind zero [] X = refl
  head-behind zero (x ∷ xs) X = refl
  head-behind (suc n) [] X = refl
  head-behind (suc n) (x ∷ xs) X = head-behind n xs X

  tail-behind : (n : ℕ) (xs : List T) (X : Streams T) → tails (drop n xs ∷ X) ≡ drop (suc n) xs ∷ tails X
  tail-behind zero [] X = refl
  tail-behind zero (x ∷ xs) X = refl
  tail-behind (suc n) [] X = refl
  tail-behind (suc n) (x ∷ xs) X = tail-behind n xs X

  pub heads-behind : (n : ℕ) (X : Streams T) → heads (behind n X) ≡ map (λ xs. first_from n xs) X
  heads-behind n [] = refl
  heads-behind n (xs ∷ X) = head-behind n xs (behind n X) ∙ ap (λ v. first_from n xs ∷ v) (heads-behind n X)

  pub tails-behind : (n : ℕ) (X : Streams T) → tails (behind n X) ≡ behind (n + 1) X
  tails-behind n [] = refl
  tails-behind n (xs ∷ X) = tail-behind n xs (behind n X) ∙ ap₂ (λ k v. drop k xs ∷ v) (sym (add-one n)) (tails-behind n X)

  pub none-behind : (X : Streams T) → behind 0 X ≡ X
  none-behind [] = refl
  none-behind (xs ∷ X) = ap (λ v. xs ∷ v) (none-behind X)

  -- one line more
  pub lists-more : (L : List (Spared T)) (k : ℕ) (d : Spared T) → k < length L → lists_of (take (k + 1) L) ≡ lists_of (take k L) ++ (get_or L k d).list ∷ []
  lists-more L k d l = map_more (λ (s : Spared T). s.list) L k d l

  pub lists-more-set : (L : List (Spared T)) (k : ℕ) (l : Spared T) → k < length L → lists_of (take (k + 1) (set L k l)) ≡ lists_of (take k L) ++ l.list ∷ []
  lists-more-set L k l h = ap (λ v. lists_of v) (take_more_set L k l h) ∙ lists-push (take k L) l
    where
      lists-push : (A : List (Spared T)) (l : Spared T) → lists_of (A ++ l ∷ []) ≡ lists_of A ++ l.list ∷ []
      lists-push [] l = refl
      lists-push (a ∷ A) l = ap (λ v. a.list ∷ v) (lists-push A l)

  -- what the next channel has, and what is left once it was taken
  next-item : (first k places : ℕ) (X Y : Streams T) (xs : List T) → k < places → first + places ≤ length X → Y ≡ emptied_from first k X → xs ≡ at Y (first + k) → xs ≡ get_or (drop first X) k []
  next-item first k places X Y xs a c f g = g ∙ ap (λ v. at v (first + k)) f ∙ emptied-next first k X ∙ at-is X (first + k) ∙ sym (get_or-drop first X k [])

  next-within : (first k places : ℕ) (X : Streams T) → k < places → first + places ≤ length X → k < length (drop first X)
  next-within first k places X a c = let n = length-drop first X in omega (arith, n, a, c)

  next-left : (first k : ℕ) (X Y Y' : Streams T) → Y ≡ emptied_from first k X → Y' ≡ set Y (first + k) [] → Y' ≡ emptied_from first (k + 1) X
  next-left first k X Y Y' f h = h ∙ ap (λ v. set v (first + k) []) f ∙ sym (emptied-more first k X) ∙ ap (λ n. emptied_from first n X) (sym (add-one k))

  -- the lines of a child, one more taken from its channel
  pub filled : (first k places : ℕ) (X Y Y' : Streams T) (L L' : List (Spared T)) (l : Spared T) → k < places → places ≤ length L → first + places ≤ length X →
      lists_of (take k L) ≡ take k (drop first X) → Y ≡ emptied_from first k X → l.list ≡ at Y (first + k) → Y' ≡ set Y (first + k) [] → L' ≡ set L k l →
      (lists_of (take (k + 1) L') ≡ take (k + 1) (drop first X)) × (Y' ≡ emptied_from first (k + 1) X)
  filled first k places X Y Y' L L' l a b c e f g h m = (
    ap (λ v. lists_of (take (k + 1) v)) m ∙ lists-more-set L k l (omega (arith, a, b)) ∙ ap₂ (λ v x. v ++ x ∷ []) e (next-item first k places X Y l.list a c f g) ∙ sym (take_more (drop first X) k [] (next-within first k places X a c)),
    next-left first k X Y Y' f h,
  )

  -- or its row
  pub row-filled : (first k places : ℕ) (X Y Y' R R' : Streams T) (xs : List T) → k < places → places ≤ length R → first + places ≤ length X →
      take k R ≡ take k (drop first X) → Y ≡ emptied_from first k X → xs ≡ at Y (first + k) → Y' ≡ set Y (first + k) [] → R' ≡ set R k xs →
      (take (k + 1) R' ≡ take (k + 1) (drop first X)) × (Y' ≡ emptied_from first (k + 1) X)
  row-filled first k places X Y Y' R R' xs a b c e f g h m = (
    ap (λ v. take (k + 1) v) m ∙ take_more_set R k xs (omega (arith, a, b)) ∙ ap₂ (λ v x. v ++ x ∷ []) e (next-item first k places X Y xs a c f g) ∙ sym (take_more (drop first X) k [] (next-within first k places X a c)),
    next-left first k X Y Y' f h,
  )

  pub row-filled-none : (first : ℕ) (X R : Streams T) → (take (first - first) R ≡ take (first - first) (drop first X)) × (X ≡ emptied_from first (first - first) X)
  row-filled-none first X R = (ap (λ k. take k R) zero-left ∙ sym (ap (λ k. take k (drop first X)) zero-left), sym (ap (λ k. emptied_from first k X) zero-left ∙ none-emptied first X))
    where
      zero-left : first - first ≡ 0
      zero-left = omega arith

  -- the same by the channel
  pub row-filled-at : (first channel end : ℕ) (X Y Y' R R' : Streams T) (xs : List T) → first ≤ channel → channel < end → end - first ≤ length R → end ≤ length X → take (channel - first) R ≡ take (channel - first) (drop first X) → Y ≡ emptied_from first (channel - first) X →
      xs ≡ at Y channel → Y' ≡ set Y channel [] → R' ≡ set R (channel - first) xs → (take (channel + 1 - first) R' ≡ take (channel + 1 - first) (drop first X)) × (Y' ≡ emptied_from first (channel + 1 - first) X)
  row-filled-at first channel end X Y Y' R R' xs a b c d e f g h m =
      subst (λ k. (take k R' ≡ take k (drop first X)) × (Y' ≡ emptied_from first k X)) next
      (row-filled first (channel - first) (end - first) X Y Y' R R' xs (omega (arith, a, b)) c (omega (arith, a, b, d)) e f (g ∙ ap (λ n. at Y n) (sym back)) (h ∙ ap (λ n. set Y n []) (sym back)) m)
    where
      back : first + (channel - first) ≡ channel
      back = omega (arith, a)

      next : channel - first + 1 ≡ channel + 1 - first
      next = omega (arith, a)

  -- where no list has more than one token, they are the one row
  heads-single : (X : Streams T) → longest X ≤ 1 → heads X ≡ X
  heads-single [] h = refl
  heads-single ([] ∷ X) h = ap (λ (v : Streams T). [] ∷ v) (heads-single X (omega (arith, h)))
  heads-single ((x ∷ []) ∷ X) h = ap (λ (v : Streams T). (x ∷ []) ∷ v) (heads-single X (omega (arith, h)))
  heads-single ((x ∷ y ∷ ys) ∷ X) h = absurd (omega (arith, h))

  longest-single : (X : Streams T) → ((k : ℕ) → k < length X → length (at X k) ≤ 1) → longest X ≤ 1
  longest-single [] h = omega arith
  longest-single (xs ∷ X) h = let a = h 0 (omega arith) in let b = longest-single X (λ k l. h (suc k) (omega (arith, l))) in omega (arith, a, b)

  one-row : (X : Streams T) → longest X ≤ 1 → rows_for false X ≡ X ∷ []
  one-row X h = let e : max 1 (longest X) ≡ 1 = omega (arith, h) in ap (λ n. rows_from n X) e ∙ ap (λ r. r ∷ []) (heads-single X h)

  pub rows-single : (b : Bool) (first end : ℕ) (Y : Streams T) → b ≡ false → end ≤ length Y → ((c : ℕ) → first ≤ c → c < end → length (at Y c) ≤ 1) → rows_for b (take (end - first) (drop first Y)) ≡ take (end - first) (drop first Y) ∷ []
  rows-single b first end Y e l h = ap (λ c. rows_for c X) e ∙ one-row X (longest-single X each)
    where
      X : Streams T
      X = take (end - first) (drop first Y)

      each : (k : ℕ) → k < length X → length (at X k) ≤ 1
      each k m =
          let n = length-take (end - first) (drop first Y) in
          let a : k < end - first = omega (arith, m, n) in
          let i : at X k ≡ at Y (first + k) = at-is X k ∙ get_or-take (end - first) (drop first Y) k [] a ∙ get_or-drop first Y k [] ∙ sym (at-is Y (first + k)) in
          subst (λ xs. length xs ≤ 1) (sym i) (h (first + k) (omega arith) (omega (arith, a)))

  pub filled-none : (first : ℕ) (X : Streams T) (L : List (Spared T)) → (lists_of (take (first - first) L) ≡ take (first - first) (drop first X)) × (X ≡ emptied_from first (first - first) X)
  filled-none first X L = (ap (λ k. lists_of (take k L)) zero-left ∙ sym (ap (λ k. take k (drop first X)) zero-left), sym (ap (λ k. emptied_from first k X) zero-left ∙ none-emptied first X))
    where
      zero-left : first - first ≡ 0
      zero-left = omega arith

  -- the same by the channel
  pub filled-at : (first channel end : ℕ) (X Y Y' : Streams T) (L L' : List (Spared T)) (l : Spared T) → first ≤ channel → channel < end → end - first ≤ length L → end ≤ length X → lists_of (take (channel - first) L) ≡ take (channel - first) (drop first X) → Y ≡ emptied_from first (channel - first) X →
      l.list ≡ at Y channel → Y' ≡ set Y channel [] → L' ≡ set L (channel - first) l → (lists_of (take (channel + 1 - first) L') ≡ take (channel + 1 - first) (drop first X)) × (Y' ≡ emptied_from first (channel + 1 - first) X)
  filled-at first channel end X Y Y' L L' l a b c d e f g h m =
      subst (λ k. (lists_of (take k L') ≡ take k (drop first X)) × (Y' ≡ emptied_from first k X)) next
      (filled first (channel - first) (end - first) X Y Y' L L' l (omega (arith, a, b)) c (omega (arith, a, b, d)) e f (g ∙ ap (λ n. at Y n) (sym back)) (h ∙ ap (λ n. set Y n []) (sym back)) m)
    where
      back : first + (channel - first) ≡ channel
      back = omega (arith, a)

      next : channel - first + 1 ≡ channel + 1 - first
      next = omega (arith, a)

  -- the row, one more place of it set
  pub row-more : (R R' : Streams T) (k : ℕ) (xs : List T) (A : Streams T) → k < length R → take k R ≡ A → R' ≡ set R k xs → take (k + 1) R' ≡ A ++ xs ∷ []
  row-more R R' k xs A h e m = ap (λ v. take (k + 1) v) m ∙ take_more_set R k xs h ∙ ap (λ v. v ++ xs ∷ []) e

  -- what was not read yet is as it was
  pub read-at : (L L0 : List (Spared T)) (k : ℕ) (d : Spared T) → k < length L → k < length L0 → drop k L ≡ drop k L0 → get_or L k d ≡ get_or L0 k d
  read-at L L0 k d h i e = ap (λ v. head-of v) (sym (drop_more L k d h) ∙ e ∙ drop_more L0 k d i)
    where
      head-of : List (Spared T) → Spared T
      head-of [] = d
      head-of (x ∷ xs) = x

  pub rest-same : (L L0 L' : List (Spared T)) (k : ℕ) (l : Spared T) → drop k L ≡ drop k L0 → L' ≡ set L k l → drop (k + 1) L' ≡ drop (k + 1) L0
  rest-same L L0 L' k l e m = ap (λ v. drop (k + 1) v) m ∙ behind-set L k l ∙ drop-next L k ∙ ap (λ v. drop 1 v) e ∙ sym (drop-next L0 k)

  -- the lines behind the row, one more token picked
  pub behind-more : (n : ℕ) (L L' L0 : List (Spared T)) (k : ℕ) (l l0 : Spared T) → k < length L → k < length L0 → l0 ≡ get_or L k l0 → drop k L ≡ drop k L0 → drop (n + 1) l.list ≡ drop (n + 1) l0.list → L' ≡ set L k l →
      behind (n + 1) (lists_of (take k L)) ≡ behind (n + 1) (lists_of (take k L0)) → behind (n + 1) (lists_of (take (k + 1) L')) ≡ behind (n + 1) (lists_of (take (k + 1) L0))
  behind-more n L L' L0 k l l0 h i r e p m b =
      ap (λ v. behind (n + 1) (lists_of (take (k + 1) v))) m ∙ ap (λ v. behind (n + 1) v) (lists-more-set L k l h) ∙ behind-push (n + 1) (lists_of (take k L)) l.list ∙
      ap₂ (λ v x. v ++ x ∷ []) b (p ∙ ap (λ (s : Spared T). drop (n + 1) s.list) (r ∙ read-at L L0 k l0 h i e)) ∙
      sym (behind-push (n + 1) (lists_of (take k L0)) (get_or L0 k l0).list) ∙ ap (λ v. behind (n + 1) v) (sym (lists-more L0 k l0 i))
    where
      behind-push : (n : ℕ) (A : Streams T) (xs : List T) → behind n (A ++ xs ∷ []) ≡ behind n A ++ drop n xs ∷ []
      behind-push n [] xs = refl
      behind-push n (a ∷ A) xs = ap (λ v. drop n a ∷ v) (behind-push n A xs)

  -- the row of the picked tokens, one more
  pub picked-more : (n : ℕ) (R R' : Streams T) (L L0 : List (Spared T)) (k : ℕ) (l0 : Spared T) (xs : List T) → k < length R → k < length L → k < length L0 → l0 ≡ get_or L k l0 → drop k L ≡ drop k L0 → xs ≡ first_from n l0.list → R' ≡ set R k xs →
      take k R ≡ map (λ ys. first_from n ys) (lists_of (take k L0)) → take (k + 1) R' ≡ map (λ ys. first_from n ys) (lists_of (take (k + 1) L0))
  picked-more n R R' L L0 k l0 xs g h i r e p m b =
      row-more R R' k xs (map (λ ys. first_from n ys) (lists_of (take k L0))) g b m ∙ ap (λ x. map (λ ys. first_from n ys) (lists_of (take k L0)) ++ x ∷ []) (p ∙ ap (λ (s : Spared T). first_from n s.list) (r ∙ read-at L L0 k l0 h i e)) ∙
      sym (map-push (lists_of (take k L0)) (get_or L0 k l0).list) ∙ ap (λ v. map (λ ys. first_from n ys) v) (sym (lists-more L0 k l0 i))
    where
      map-push : (A : Streams T) (xs : List T) → map (λ ys. first_from n ys) (A ++ xs ∷ []) ≡ map (λ ys. first_from n ys) A ++ first_from n xs ∷ []
      map-push [] xs = refl
      map-push (a ∷ A) xs = ap (λ v. first_from n a ∷ v) (map-push A xs)

  -- the longest of the lines from one on
  pub longest-more : (L : List (Spared T)) (places k : ℕ) (l : Spared T) (most m : ℕ) → 0 < k → k ≤ places → places ≤ length L → l ≡ get_or L (k - 1) l → most ≡ longest (drop k (lists_of (take places L))) → m ≡ max (length l.list) most → m ≡ longest (drop (k - 1) (lists_of (take places L)))
  longest-more L places k l most m a b c r e f = f ∙ ap₂ (λ (xs : List T) n. max (length xs) n) item e ∙ sym (ap (λ v. longest v) step)
    where
      long : k - 1 < length (lists_of (take places L))
      long = let n = length-map (take places L) (λ (s : Spared T). s.list) in let o = length-take-le places L c in omega (arith, n, o, a, b)

      one-less : k - 1 + 1 ≡ k
      one-less = omega (arith, a)

      step : drop (k - 1) (lists_of (take places L)) ≡ get_or (lists_of (take places L)) (k - 1) [] ∷ drop k (lists_of (take places L))
      step = drop_more (lists_of (take places L)) (k - 1) [] long ∙ ap (λ j. get_or (lists_of (take places L)) (k - 1) [] ∷ drop j (lists_of (take places L))) one-less

      item : l.list ≡ get_or (lists_of (take places L)) (k - 1) []
      item = ap (λ (s : Spared T). s.list) (r ∙ sym (get_or-take places L (k - 1) l (omega (arith, a, b)))) ∙ sym (get_or-map (λ (s : Spared T). s.list) (take places L) (k - 1) l [] (let o = length-take-le places L c in omega (arith, o, a, b)))

  -- so many rows
  pub rows-long : (n : ℕ) (X : Streams T) → length (rows_from n X) ≡ n
  rows-long zero X = refl
  rows-long (suc n) X = ap (λ k. suc k) (rows-long n (tails X))

  -- the next row, and those after it
  pub next-row : (n : ℕ) (Z : Streams T) → 0 < n → heads Z ∷ rows_from (n - 1) (tails Z) ≡ rows_from n Z
  next-row zero Z h = absurd (omega (arith, h))
  next-row (suc n) Z h = ap (λ k. heads Z ∷ rows_from k (tails Z)) (one-less n)
    where
      one-less : (n : ℕ) → suc n - 1 ≡ n
      one-less n = omega arith

  pub gone-on : (row A A' : Streams T) (number left : ℕ) → 0 < left → row ≡ heads (behind number A) → behind (number + 1) A' ≡ tails (behind number A) → row ∷ rows_from (left - 1) (behind (number + 1) A') ≡ rows_from left (behind number A)
  gone-on row A A' number left h e f = ap₂ (λ r X. r ∷ rows_from (left - 1) X) e f ∙ next-row left (behind number A) h

  pub taken-rows : (A X : Streams T) (m n : ℕ) → A ≡ X → n ≡ max 1 m → m ≡ longest A → rows_from n (behind 0 A) ≡ rows_for false X
  taken-rows A X m n e f g = ap₂ (λ k Z. rows_from k Z) (f ∙ ap (λ k. max 1 k) g) (none-behind A) ∙ ap (λ Z. rows_of Z) e

  pub taken-whole : (R A X B : Streams T) → R ≡ A → A ≡ X → R ∷ rows_from 0 B ≡ rows_for true X
  taken-whole R A X B e f = ap (λ r. r ∷ []) (e ∙ f)

  pub some-rows : (m n : ℕ) (X : Streams T) → n ≡ max 1 m → 0 < length (rows_from n X)
  some-rows m n X e = let l = rows-long n X in let b = at-least m in omega (arith, l, e, b)
    where
      at-least : (m : ℕ) → 0 < max 1 m
      at-least m = omega arith

  -- each place was picked
  pub picked-all : (n k p : ℕ) (R : Streams T) (L0 : List (Spared T)) → k ≡ p → take k R ≡ map (λ ys. first_from n ys) (lists_of (take k L0)) → take p R ≡ heads (behind n (lists_of (take p L0)))
  picked-all n k p R L0 e h = subst (λ j. take j R ≡ map (λ ys. first_from n ys) (lists_of (take j L0))) e h ∙ sym (heads-behind n (lists_of (take p L0)))

  pub left-all : (n k p : ℕ) (L L0 : List (Spared T)) → k ≡ p → behind (n + 1) (lists_of (take k L)) ≡ behind (n + 1) (lists_of (take k L0)) → behind (n + 1) (lists_of (take p L)) ≡ tails (behind n (lists_of (take p L0)))
  left-all n k p L L0 e h = subst (λ j. behind (n + 1) (lists_of (take j L)) ≡ behind (n + 1) (lists_of (take j L0))) e h ∙ sym (tails-behind n (lists_of (take p L0)))

-- the same rows from copies of the lines
pub copied-seen : {T : Type 0} (R R' : Streams T) (L L' : List (Spared T)) (p n l : ℕ) (now : Rowing T) → R' ≡ R → lists_of L' ≡ lists_of L → rows_seen R L p n l ≡ now → rows_seen R' L' p n l ≡ now
copied-seen {T} R R' L L' p n l now e f v =
    ap (λ (X : Streams T). let s : Rowing T = record { row = take p X; rest = rows_from l (behind n (lists_of (take p L'))); width = length L' } in s) e ∙
    ap₂ (λ (Y : Streams T) w. let s : Rowing T = record { row = take p R; rest = rows_from l (behind n Y); width = w } in s) lists long ∙ v
  where
    lists : lists_of (take p L') ≡ lists_of (take p L)
    lists = sym (take-map (λ (s : Spared T). s.list) p L') ∙ ap (λ X. take p X) f ∙ take-map (λ (s : Spared T). s.list) p L

    long : length L' ≡ length L
    long = sym (length-map L' (λ (s : Spared T). s.list)) ∙ ap (λ X. length X) f ∙ length-map L (λ (s : Spared T). s.list)
