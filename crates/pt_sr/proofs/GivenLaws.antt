-- What is staged of a row of feeds, one feed further.
use Rattle.std.proofs.Common.{◌≡◌, ℕ, zero, suc, ◌+◌, ◌-◌, ◌<◌, ◌≤◌, List, [], ◌∷◌, ◌++◌, Bool, true, false, length, get_or, set, drop, map, Option, None, if◌then◌else◌, refl, sym, ap, ap₂, ◌∙◌, arith}
use Rattle.std.proofs.lemmas.List.{get_or-set_other, drop_more, drop_all}
use Rattle.pt_meaning.specs.Streams.{Streams, at}
use Rattle.pt_meaning.specs.Machine.{Partial, partial_at}
use Rattle.pt_sr.specs.declared.feeds.Feed.{Feed}
use Rattle.pt_sr.specs.State.{learnt, known_of}
use Rattle.pt_sr.specs.Feeds.{target_of, no_feed, MovesOnce}
use Rattle.pt_sr.specs.Given.{gifts, learn_on}
use Rattle.pt_sr.proofs.Lists.{at-is}

-- past the last port nothing is given
pub at-past : {T : Type 0} (X : Streams T) (n : ℕ) → length X ≤ n → [] ≡ at X n
at-past [] n h = refl
at-past (x ∷ X) zero h = absurd (omega (arith, h))
at-past (x ∷ X) (suc n) h = at-past X n (omega (arith, h))

pub known-past : {T : Type 0} (vs : List (Partial T)) (n : ℕ) → length vs ≤ n → None ≡ known_of vs n
known-past [] n h = refl
known-past (v ∷ vs) zero h = absurd (omega (arith, h))
known-past (v ∷ vs) (suc n) h = known-past vs n (omega (arith, h))

pub set-past : {A : Type 0} (xs : List A) (n : ℕ) (x : A) → length xs ≤ n → set xs n x ≡ xs
set-past [] n x h = refl
set-past (y ∷ xs) zero x h = absurd (omega (arith, h))
set-past (y ∷ xs) (suc n) x h = ap (λ v. y ∷ v) (set-past xs n x (omega (arith, h)))

pub unmoved : {A : Type 0} (b : Bool) (xs : List A) (n : ℕ) (x : A) → length xs ≤ n → xs ≡ (if b then set xs n x else xs)
unmoved true xs n x h = sym (set-past xs n x h)
unmoved false xs n x h = refl

pub nothing-staged : {T : Type 0} (given : ℕ → Option (List T)) (F : List Feed) (n : ℕ) → n ≡ length F → [] ≡ gifts given (drop n F)
nothing-staged given F n e = ap (λ v. gifts given v) (sym (drop_all n F (omega (arith, e))))

module _ (F : List Feed) (k : ℕ) (a : 0 < k) (b : k ≤ length F) where
  one-less : (k : ℕ) → 0 < k → k - 1 + 1 ≡ k
  one-less k h = omega arith

  pub earlier-feed : drop (k - 1) F ≡ get_or F (k - 1) no_feed ∷ drop k F
  earlier-feed = drop_more F (k - 1) no_feed (omega (arith, a, b)) ∙ ap (λ j. get_or F (k - 1) no_feed ∷ drop j F) (one-less k a)

  pub next-staged : {T : Type 0} (given : ℕ → Option (List T)) (staged staged' : List (Option (List T))) (gift : Option (List T)) → staged' ≡ staged ++ gift ∷ [] → gift ≡ given (get_or F (k - 1) no_feed).port → staged ≡ gifts given (drop k F) → staged' ≡ gifts given (drop (k - 1) F)
  next-staged given staged staged' gift e g h = e ∙ ap₂ (λ x y. x ++ y ∷ []) h g ∙ sym (ap (λ v. gifts given v) earlier-feed)

  pub next-ports : {T : Type 0} (out0 out out' : Streams T) → MovesOnce F → out' ≡ (if (get_or F (k - 1) no_feed).moves then set out (get_or F (k - 1) no_feed).port [] else out) → ((j : ℕ) → j < k → at out (get_or F j no_feed).port ≡ at out0 (get_or F j no_feed).port) →
      (j : ℕ) → j < k - 1 → at out' (get_or F j no_feed).port ≡ at out0 (get_or F j no_feed).port
  next-ports {T} out0 out out' m e h j l = ap (λ v. at v (get_or F j no_feed).port) e ∙ by-moves (get_or F (k - 1) no_feed).moves refl ∙ h j (omega arith)
    where
      by-moves : (b : Bool) → (get_or F (k - 1) no_feed).moves ≡ b → at (if b then set out (get_or F (k - 1) no_feed).port [] else out) (get_or F j no_feed).port ≡ at out (get_or F j no_feed).port
      by-moves true t =
          at-is (set out (get_or F (k - 1) no_feed).port []) (get_or F j no_feed).port ∙ get_or-set_other out (get_or F (k - 1) no_feed).port (get_or F j no_feed).port [] [] (λ z. m j (k - 1) l (omega arith) t z) ∙ sym (at-is out (get_or F j no_feed).port)
      by-moves false t = refl

-- what is staged last is for the next feed
module _ (F : List Feed) (k : ℕ) (l : k < length F) where
  pub later-feed : drop k F ≡ get_or F k no_feed ∷ drop (k + 1) F
  later-feed = drop_more F k no_feed l

  pub last-staged : {T : Type 0} (given : ℕ → Option (List T)) (staged : List (Option (List T))) → staged ≡ gifts given (drop k F) → staged ≡ gifts given (drop (k + 1) F) ++ given (get_or F k no_feed).port ∷ []
  last-staged given staged h = h ∙ ap (λ v. gifts given v) later-feed

  pub next-learnt : {T : Type 0} (given : ℕ → Option (List T)) (V W : List (Partial T)) (c : ℕ) (gift : Option (List T)) → c ≡ (get_or F k no_feed).channel → gift ≡ given (get_or F k no_feed).port → W ≡ set V c (learnt (partial_at V c) gift) → learn_on given (map target_of (drop (k + 1) F)) W ≡ learn_on given (map target_of (drop k F)) V
  next-learnt given V W c gift e g h =
      ap (λ X. learn_on given (map target_of (drop (k + 1) F)) X) (h ∙ ap₂ (λ i v. set V i (learnt (partial_at V i) v)) e g) ∙ sym (ap (λ v. learn_on given (map target_of v) V) later-feed)

pub all-learnt : {T : Type 0} (given : ℕ → Option (List T)) (F : List Feed) (k : ℕ) (V : List (Partial T)) → length F ≤ k → learn_on given (map target_of (drop k F)) V ≡ V
all-learnt given F k V h = ap (λ v. learn_on given (map target_of v) V) (drop_all k F h)
