-- What is staged of a row of feeds, one feed further.
use Rattle.std.proofs.Common.{◌≡◌, ◌⊎◌, inl, inr, subst, ℕ, zero, suc, ◌+◌, ◌-◌, ◌<◌, ◌≤◌, List, [], ◌∷◌, ◌++◌, Bool, true, false, length, get_or, set, drop, if◌then◌else◌, refl, sym, ap, ap₂, ◌∙◌, arith}
use Rattle.std.proofs.lemmas.List.{get_or-set_other, drop_more, drop_all}
use Rattle.std.proofs.lemmas.Bool.{cases_lt}
use Rattle.pt_meaning.specs.Streams.{Streams, at}
use Rattle.pt_meaning.specs.Machine.{Partial}
use Rattle.pt_reaction.specs.declared.feeds.Feed.{Feed}
use Rattle.pt_reaction.specs.Feeds.{no_feed, MovesOnce}
use Rattle.pt_reaction.specs.Channels.{spare_at}
use Rattle.pt_reaction.specs.Given.{gifts, known_on}

pub at-is : {T : Type 0} (X : Streams T) (c : ℕ) → at X c ≡ get_or X c []
at-is [] c = refl
at-is (x ∷ X) zero = refl
at-is (x ∷ X) (suc c) = at-is X c

-- past the last port nothing is given
pub at-past : {T : Type 0} (X : Streams T) (n : ℕ) → length X ≤ n → [] ≡ at X n
at-past [] n h = refl
at-past (x ∷ X) zero h = absurd (omega (arith, h))
at-past (x ∷ X) (suc n) h = at-past X n (omega (arith, h))

pub known-past : {T : Type 0} (vs : List (Partial T)) (n : ℕ) → length vs ≤ n → [] ≡ known_on vs n
known-past [] n h = refl
known-past (v ∷ vs) zero h = absurd (omega (arith, h))
known-past (v ∷ vs) (suc n) h = known-past vs n (omega (arith, h))

pub set-past : {A : Type 0} (xs : List A) (n : ℕ) (x : A) → length xs ≤ n → set xs n x ≡ xs
set-past [] n x h = refl
set-past (y ∷ xs) zero x h = absurd (omega (arith, h))
set-past (y ∷ xs) (suc n) x h = ap (λ v. y ∷ v) (set-past xs n x (omega (arith, h)))

pub unmoved : {A : Type 0} (b : Bool) (xs : List A) (n : ℕ) (x : A) → length xs ≤ n → xs ≡ (if b then set xs n x else xs)
unmoved true xs n x h = sym (set-past xs n x h)
unmoved false xs n x h = refl

pub nothing-staged : {T : Type 0} (given : ℕ → List T) (F : List Feed) (n : ℕ) → n ≡ length F → [] ≡ gifts given (drop n F)
nothing-staged given F n e = ap (λ v. gifts given v) (sym (drop_all n F (omega (arith, e))))

module _ (F : List Feed) (k : ℕ) (a : 0 < k) (b : k ≤ length F) where
  one-less : (k : ℕ) → 0 < k → k - 1 + 1 ≡ k
  one-less k h = omega arith

  pub earlier-feed : drop (k - 1) F ≡ get_or F (k - 1) no_feed ∷ drop k F
  earlier-feed = drop_more F (k - 1) no_feed (omega (arith, a, b)) ∙ ap (λ j. get_or F (k - 1) no_feed ∷ drop j F) (one-less k a)

  pub next-staged : {T : Type 0} (given : ℕ → List T) (staged staged' : List (List T)) (gift : List T) → staged' ≡ staged ++ gift ∷ [] → gift ≡ given (get_or F (k - 1) no_feed).port → staged ≡ gifts given (drop k F) → staged' ≡ gifts given (drop (k - 1) F)
  next-staged given staged staged' gift e g h = e ∙ ap₂ (λ x y. x ++ y ∷ []) h g ∙ sym (ap (λ v. gifts given v) earlier-feed)

  -- each feed from there on has room
  pub next-room : {T : Type 0} (given : ℕ → List T) (S S' : List ℕ) (gift : List T) → gift ≡ given (get_or F (k - 1) no_feed).port → length gift ≤ spare_at S' (get_or F (k - 1) no_feed).channel → ((d : ℕ) → spare_at S d ≤ spare_at S' d) →
      ((j : ℕ) → k ≤ j → j < length F → length (given (get_or F j no_feed).port) ≤ spare_at S (get_or F j no_feed).channel) → (j : ℕ) → k - 1 ≤ j → j < length F → length (given (get_or F j no_feed).port) ≤ spare_at S' (get_or F j no_feed).channel
  next-room {T} given S S' gift g r keeps h j l m = by (cases_lt j k)
    where
      by : (j < k) ⊎ (k ≤ j) → length (given (get_or F j no_feed).port) ≤ spare_at S' (get_or F j no_feed).channel
      by (inl p) = let e : j ≡ k - 1 = omega (arith, p, l, a) in subst (λ i. length (given (get_or F i no_feed).port) ≤ spare_at S' (get_or F i no_feed).channel) (sym e) (subst (λ (v : List T). length v ≤ spare_at S' (get_or F (k - 1) no_feed).channel) g r)
      by (inr q) = let x = h j q m in let y = keeps (get_or F j no_feed).channel in omega (arith, x, y)

  pub next-ports : {T : Type 0} (out0 out out' : Streams T) → MovesOnce F → out' ≡ (if (get_or F (k - 1) no_feed).moves then set out (get_or F (k - 1) no_feed).port [] else out) → ((j : ℕ) → j < k → at out (get_or F j no_feed).port ≡ at out0 (get_or F j no_feed).port) →
      (j : ℕ) → j < k - 1 → at out' (get_or F j no_feed).port ≡ at out0 (get_or F j no_feed).port
  next-ports {T} out0 out out' m e h j l = ap (λ v. at v (get_or F j no_feed).port) e ∙ by-moves (get_or F (k - 1) no_feed).moves refl ∙ h j (omega arith)
    where
      by-moves : (b : Bool) → (get_or F (k - 1) no_feed).moves ≡ b → at (if b then set out (get_or F (k - 1) no_feed).port [] else out) (get_or F j no_feed).port ≡ at out (get_or F j no_feed).port
      by-moves true t =
          at-is (set out (get_or F (k - 1) no_feed).port []) (get_or F j no_feed).port ∙ get_or-set_other out (get_or F (k - 1) no_feed).port (get_or F j no_feed).port [] [] (λ z. m j (k - 1) l (omega arith) t z) ∙ sym (at-is out (get_or F j no_feed).port)
      by-moves false t = refl
