-- What is picked of the records of a log, by the firings in which they came.
use Rattle.std.proofs.Common.{◌≡◌, ℕ, suc, ◌≤◌, ◌<◌, List, [], ◌∷◌, ◌++◌, Bool, true, false, ◌&&◌, nat_le, Option, Some, inl, inr, refl, sym, ap, ap₂, arith, ◌∙◌, append_assoc}
use Rattle.std.proofs.lemmas.Bool.Decides.{nat_tests}
use Rattle.pt_meaning.specs.Basics.{Firing, Event, Finished, Met, firings_in, all_marked}
use Rattle.pt_meaning.specs.Streams.{get}
use Rattle.pt_meaning.specs.Closed.{Has, these_if, is_between, of_records, came_within, has_number}
use Rattle.pt_laws.specs.SoundRuns.{all_unmarked, all_of}

these-append : {A : Type 0} (b : Bool) (xs ys zs : List A) → these_if b xs (ys ++ zs) ≡ these_if b xs ys ++ zs
these-append true xs ys zs = sym (append_assoc xs ys zs)
these-append false xs ys zs = refl

pub nothing-if : {A : Type 0} (b : Bool) → these_if {A = A} b [] [] ≡ []
nothing-if true = refl
nothing-if false = refl

pub records-append : {T : Type 0} (test : List ℕ → Firing T → Bool) (pick : Firing T → List T) (xs ys : List (Event T)) → of_records test pick (xs ++ ys) ≡ of_records test pick xs ++ of_records test pick ys
records-append test pick [] ys = refl
records-append test pick (Finished ns f ∷ xs) ys = ap (λ v. these_if (test ns f) (pick f) v) (records-append test pick xs ys) ∙ these-append (test ns f) (pick f) (of_records test pick xs) (of_records test pick ys)
records-append test pick (Met ns i m ∷ xs) ys = records-append test pick xs ys

pub all-append : {T : Type 0} (pick : Firing T → List T) (xs ys : List (Event T)) → all_of pick (xs ++ ys) ≡ all_of pick xs ++ all_of pick ys
all-append pick [] ys = refl
all-append pick (Finished ns f ∷ xs) ys = ap (λ v. pick f ++ v) (all-append pick xs ys) ∙ sym (append_assoc (pick f) (all_of pick xs) (all_of pick ys))
all-append pick (Met ns i m ∷ xs) ys = all-append pick xs ys

pub all-marked : {T : Type 0} (pick : Firing T → List T) (n : ℕ) (es : List (Event T)) → all_of pick (all_marked n es) ≡ all_of pick es
all-marked pick n [] = refl
all-marked pick n (Finished ns f ∷ es) = ap (λ v. pick f ++ v) (all-marked pick n es)
all-marked pick n (Met ns i m ∷ es) = all-marked pick n es

pub all-quiet : {T : Type 0} (pick : Firing T → List T) (es : List (Event T)) → firings_in es ≡ 0 → all_of pick es ≡ []
all-quiet pick [] e = refl
all-quiet pick (Finished ns f ∷ es) e = absurd (omega (arith, e))
all-quiet pick (Met ns i m ∷ es) e = all-quiet pick es e

records-none : {T : Type 0} (test : List ℕ → Firing T → Bool) (pick : Firing T → List T) (es : List (Event T)) → ((ns : List ℕ) (f : Firing T) → Has (Finished ns f) es → test ns f ≡ false) → of_records test pick es ≡ []
records-none test pick [] h = refl
records-none test pick (Finished ns f ∷ es) h = ap (λ b. these_if b (pick f) (of_records test pick es)) (h ns f (inl refl)) ∙ records-none test pick es (λ ms g k. h ms g (inr k))
records-none test pick (Met ns i m ∷ es) h = records-none test pick es (λ ms g k. h ms g (inr k))

records-all : {T : Type 0} (test : List ℕ → Firing T → Bool) (pick : Firing T → List T) (es : List (Event T)) → ((ns : List ℕ) (f : Firing T) → Has (Finished ns f) es → test ns f ≡ true) → of_records test pick es ≡ all_of pick es
records-all test pick [] h = refl
records-all test pick (Finished ns f ∷ es) h = ap₂ (λ b v. these_if b (pick f) v) (h ns f (inl refl)) (records-all test pick es (λ ms g k. h ms g (inr k)))
records-all test pick (Met ns i m ∷ es) h = records-all test pick es (λ ms g k. h ms g (inr k))

records-same : {T : Type 0} (test other : List ℕ → Firing T → Bool) (pick : Firing T → List T) (es : List (Event T)) → ((ns : List ℕ) (f : Firing T) → Has (Finished ns f) es → test ns f ≡ other ns f) → of_records test pick es ≡ of_records other pick es
records-same test other pick [] h = refl
records-same test other pick (Finished ns f ∷ es) h = ap₂ (λ b v. these_if b (pick f) v) (h ns f (inl refl)) (records-same test other pick es (λ ms g k. h ms g (inr k)))
records-same test other pick (Met ns i m ∷ es) h = records-same test other pick es (λ ms g k. h ms g (inr k))

pub records-unmarked : {T : Type 0} (d r n : ℕ) (pick : Firing T → List T) (es : List (Event T)) → of_records (came_within d r n) pick (all_unmarked es) ≡ of_records (came_within (suc d) r n) pick es
records-unmarked d r n pick [] = refl
records-unmarked d r n pick (Finished [] f ∷ es) = records-unmarked d r n pick es
records-unmarked d r n pick (Finished (m ∷ ns) f ∷ es) = ap (λ v. these_if (is_between r n (get ns d)) (pick f) v) (records-unmarked d r n pick es)
records-unmarked d r n pick (Met ns i m ∷ es) = records-unmarked d r n pick es

pub numbers-unmarked : {T : Type 0} (r n : ℕ) (pick : Firing T → List T) (es : List (Event T)) → of_records (has_number r n) pick (all_unmarked es) ≡ of_records (has_number r n) pick es
numbers-unmarked r n pick [] = refl
numbers-unmarked r n pick (Finished ns f ∷ es) = ap (λ v. these_if (is_between r n (Some f.number)) (pick f) v) (numbers-unmarked r n pick es)
numbers-unmarked r n pick (Met ns i m ∷ es) = numbers-unmarked r n pick es

pub le-true : (a b : ℕ) → a ≤ b → nat_le a b ≡ true
le-true a b h = grind (arith, nat_tests, h)

pub le-false : (a b : ℕ) → b < a → nat_le a b ≡ false
le-false a b h = grind (arith, nat_tests, h)

and-false : (b : Bool) → (b && false) ≡ false
and-false true = refl
and-false false = refl

between-in : (r n k : ℕ) → r ≤ k → k ≤ n → is_between r n (Some k) ≡ true
between-in r n k a b = ap₂ (λ u v. u && v) (le-true r k a) (le-true k n b)

between-above : (r n k : ℕ) → n < k → is_between r n (Some k) ≡ false
between-above r n k a = ap (λ v. nat_le r k && v) (le-false k n a) ∙ and-false (nat_le r k)

between-below : (r n k : ℕ) → k < r → is_between r n (Some k) ≡ false
between-below r n k a = ap (λ v. v && nat_le k n) (le-false r k a)

between-same : (r n n' k : ℕ) → k ≤ n → k ≤ n' → is_between r n (Some k) ≡ is_between r n' (Some k)
between-same r n n' k a b = ap (λ v. nat_le r k && v) (le-true k n a ∙ sym (le-true k n' b))

-- records that all came before firing N, or all in it, by their positions
abbrev pub AllBefore : {T : Type 0} → (List ℕ → Firing T → Option ℕ) → ℕ → List (Event T) → Type 0
AllBefore {T} pos N es = (ns : List ℕ) (f : Firing T) → Has (Finished ns f) es → (m : ℕ) × (pos ns f ≡ Some m) × (m < N)

abbrev pub AllAt : {T : Type 0} → (List ℕ → Firing T → Option ℕ) → ℕ → List (Event T) → Type 0
AllAt {T} pos N es = (ns : List ℕ) (f : Firing T) → Has (Finished ns f) es → pos ns f ≡ Some N

module _ {T : Type 0} (pos : List ℕ → Firing T → Option ℕ) (N : ℕ) (pick : Firing T → List T) (es : List (Event T)) where
  pub new-out : AllAt pos N es → (r n : ℕ) → n < N → of_records (λ ns f. is_between r n (pos ns f)) pick es ≡ []
  new-out h r n l = records-none _ pick es (λ ns f k. ap (λ v. is_between r n v) (h ns f k) ∙ between-above r n N l)

  pub new-in : AllAt pos N es → (r n : ℕ) → r ≤ N → N ≤ n → of_records (λ ns f. is_between r n (pos ns f)) pick es ≡ all_of pick es
  new-in h r n a b = records-all _ pick es (λ ns f k. ap (λ v. is_between r n v) (h ns f k) ∙ between-in r n N a b)

  pub old-same : AllBefore pos N es → (r n n' : ℕ) → N ≤ n → N ≤ n' → of_records (λ ns f. is_between r n (pos ns f)) pick es ≡ of_records (λ ns f. is_between r n' (pos ns f)) pick es
  old-same h r n n' a b = records-same _ _ pick es (λ ns f k. let g = h ns f k in ap (λ v. is_between r n v) g.1 ∙ between-same r n n' g.0 (omega (arith, g.2, a)) (omega (arith, g.2, b)) ∙ sym (ap (λ v. is_between r n' v) g.1))

  pub old-out : AllBefore pos N es → (n : ℕ) → of_records (λ ns f. is_between N n (pos ns f)) pick es ≡ []
  old-out h n = records-none _ pick es (λ ns f k. let g = h ns f k in ap (λ v. is_between N n v) g.1 ∙ between-below N n g.0 g.2)
