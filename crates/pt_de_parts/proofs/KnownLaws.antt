-- What is known of channels one after another, and what the own outputs give.
use Rattle.std.proofs.Common.{◌≡◌, ℕ, ◌+◌, ◌-◌, ◌<◌, ◌≤◌, List, [], ◌∷◌, ◌++◌, Bool, false, length, get_or, set, map, take, drop, refl, sym, ap, ap₂, ◌∙◌, arith}
use Rattle.std.proofs.lemmas.List.{take_more, drop_more, length-drop, length-take-le, get_or-drop, take_all}
use Rattle.pt_meaning.specs.Streams.{Streams, at}
use Rattle.pt_meaning.specs.Machine.{Partial}
use Rattle.pt_reaction.proofs.GivenLaws.{at-is}
use Rattle.pt_de_laws.specs.State.{unless_delay, beside_delays}
use Rattle.pt_de_parts.proofs.RowLaws.{drop-set, drop-next}

map-push : {A B : Type 0} (f : A → B) (S : List A) (x : A) → map f (S ++ x ∷ []) ≡ map f S ++ f x ∷ []
map-push f [] x = refl
map-push f (s ∷ S) x = ap (λ v. f s ∷ v) (map-push f S x)

module _ {T : Type 0} where
  beside-push : (F : List Bool) (X : Streams T) (f : Bool) (xs : List T) → length F ≡ length X → beside_delays (F ++ f ∷ []) (X ++ xs ∷ []) ≡ beside_delays F X ++ unless_delay f xs ∷ []
  beside-push [] [] f xs e = refl
  beside-push [] (x ∷ X) f xs e = absurd (omega (arith, e))
  beside-push (g ∷ F) [] f xs e = absurd (omega (arith, e))
  beside-push (g ∷ F) (x ∷ X) f xs e = ap (λ v. unless_delay g x ∷ v) (beside-push F X f xs (omega (arith, e)))

  -- what is known of a channel more
  pub beside-more : (F : List Bool) (X : Streams T) (first k : ℕ) → first + k < length F → first + k < length X → beside_delays (take (k + 1) (drop first F)) (take (k + 1) (drop first X)) ≡ beside_delays (take k (drop first F)) (take k (drop first X)) ++ unless_delay (get_or F (first + k) false) (at X (first + k)) ∷ []
  beside-more F X first k h l =
      ap₂ (λ x y. beside_delays x y) (take_more (drop first F) k false hf) (take_more (drop first X) k [] hx) ∙
      beside-push (take k (drop first F)) (take k (drop first X)) (get_or (drop first F) k false) (get_or (drop first X) k []) (length-take-le k (drop first F) (omega (arith, hf)) ∙ sym (length-take-le k (drop first X) (omega (arith, hx)))) ∙
      ap₂ (λ f xs. beside_delays (take k (drop first F)) (take k (drop first X)) ++ unless_delay f xs ∷ []) (get_or-drop first F k false) (get_or-drop first X k [] ∙ sym (at-is X (first + k)))
    where
      hf : k < length (drop first F)
      hf = let n = length-drop first F in omega (arith, n, h)

      hx : k < length (drop first X)
      hx = let n = length-drop first X in omega (arith, n, l)

  -- the same by the channel
  pub beside-at : (F : List Bool) (X : Streams T) (first channel : ℕ) → first ≤ channel → channel < length F → channel < length X → beside_delays (take (channel + 1 - first) (drop first F)) (take (channel + 1 - first) (drop first X)) ≡ beside_delays (take (channel - first) (drop first F)) (take (channel - first) (drop first X)) ++ unless_delay (get_or F channel false) (at X channel) ∷ []
  beside-at F X first channel a h l =
      ap (λ k. beside_delays (take k (drop first F)) (take k (drop first X))) (sym next) ∙ beside-more F X first (channel - first) (omega (arith, a, h)) (omega (arith, a, l)) ∙
      ap (λ n. beside_delays (take (channel - first) (drop first F)) (take (channel - first) (drop first X)) ++ unless_delay (get_or F n false) (at X n) ∷ []) back
    where
      back : first + (channel - first) ≡ channel
      back = omega (arith, a)

      next : channel - first + 1 ≡ channel + 1 - first
      next = omega (arith, a)

  -- what an own output more gives
  pub given-more : (X Y Y' A A' : Streams T) (first k : ℕ) (xs : List T) → first ≤ k → k < length X → length Y ≡ length X → A ≡ take (k - first) (drop first X) → drop k Y ≡ drop k X → xs ≡ at Y k → A' ≡ A ++ xs ∷ [] → A' ≡ take (k + 1 - first) (drop first X)
  given-more X Y Y' A A' first k xs a h l e r g m = m ∙ ap₂ (λ v x. v ++ x ∷ []) e item ∙ sym (take_more (drop first X) (k - first) [] within) ∙ ap (λ n. take n (drop first X)) next
    where
      within : k - first < length (drop first X)
      within = let n = length-drop first X in omega (arith, n, h, a)

      next : k - first + 1 ≡ k + 1 - first
      next = omega (arith, a)

      back : first + (k - first) ≡ k
      back = omega (arith, a)

      head-of : Streams T → List T
      head-of [] = []
      head-of (x ∷ Z) = x

      same : get_or Y k [] ≡ get_or X k []
      same = ap (λ v. head-of v) (sym (drop_more Y k [] (omega (arith, h, l))) ∙ r ∙ drop_more X k [] h)

      item : xs ≡ get_or (drop first X) (k - first) []
      item = g ∙ at-is Y k ∙ same ∙ sym (ap (λ n. get_or X n []) back) ∙ sym (get_or-drop first X (k - first) [])

  -- what is not taken yet stays
  pub rest-left : (X Y : Streams T) (k : ℕ) → drop k Y ≡ drop k X → drop (k + 1) (set Y k []) ≡ drop (k + 1) X
  rest-left X Y k r = drop-set Y k [] ∙ drop-next Y k ∙ ap (λ v. drop 1 v) r ∙ sym (drop-next X k)

  pub all-given : (X A : Streams T) (first end k : ℕ) → end ≡ length X → end ≤ k → first ≤ k → A ≡ take (k - first) (drop first X) → A ≡ drop first X
  all-given X A first end k e h a g = g ∙ take_all (k - first) (drop first X) (let n = length-drop first X in omega (arith, n, e, h, a))

  pub none-given : (X A : Streams T) (first k : ℕ) → k ≡ first → A ≡ [] → A ≡ take (k - first) (drop first X)
  none-given X A first k e g = g ∙ sym (ap (λ n. take n (drop first X)) zero-left)
    where
      zero-left : k - first ≡ 0
      zero-left = omega (arith, e)

  -- what is known of a channel more, as states of another type
  pub states-more : {A : Type 0} (f : A → Partial T) (S S' : List A) (x : A) (F : List Bool) (X : Streams T) (first channel : ℕ) (b : Bool) (xs : List T) → first ≤ channel → channel < length F → channel < length X → S' ≡ S ++ x ∷ [] → f x ≡ unless_delay b xs → b ≡ get_or F channel false → xs ≡ at X channel →
      map f S ≡ beside_delays (take (channel - first) (drop first F)) (take (channel - first) (drop first X)) → map f S' ≡ beside_delays (take (channel + 1 - first) (drop first F)) (take (channel + 1 - first) (drop first X))
  states-more f S S' x F X first channel b xs a h l e g p q m =
      ap (λ v. map f v) e ∙ map-push f S x ∙ ap₂ (λ v y. v ++ y ∷ []) m (g ∙ ap₂ (λ c ys. unless_delay c ys) p q) ∙ sym (beside-at F X first channel a h l)

  pub states-none : {A : Type 0} (f : A → Partial T) (S : List A) (F : List Bool) (X : Streams T) (first : ℕ) → S ≡ [] → map f S ≡ beside_delays (take (first - first) (drop first F)) (take (first - first) (drop first X))
  states-none f S F X first e = ap (λ v. map f v) e ∙ sym (ap (λ k. beside_delays (take k (drop first F)) (take k (drop first X))) zero-left)
    where
      zero-left : first - first ≡ 0
      zero-left = omega arith
