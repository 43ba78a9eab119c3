-- Which of a list pass a test, and the first that does.
use Rattle.std.proofs.Common.{◌≡◌, ◌⊎◌, inl, inr, ℕ, zero, suc, Bool, true, false, if◌then◌else◌, List, [], ◌∷◌, Option, Some, None, refl, sym, ap, ◌∙◌, arith}
use Rattle.std.proofs.lemmas.Bool.{or_cases, or_parts}
use Rattle.std.specs.List.{Contains, list_any}
use Rattle.pt_inequalities.proofs.Steps.{some-same}

contains-next : {A : Type 0} (x : A) (xs : List A) (y : A) → Contains xs y → Contains (x ∷ xs) y
contains-next x xs y c = (suc c.0, omega (arith, c.1), c.2)

pub one-passes : {A : Type 0} (f : A → Bool) (hs : List A) → list_any f hs ≡ true → (h : A) × Contains hs h × (f h ≡ true)
one-passes f [] e = cc
one-passes f (h ∷ hs) e =
    elim (or_cases (f h) (list_any f hs) e) [
      | inl here ↦ (h, (0, omega arith, refl), here)
      | inr later ↦ let r = one-passes f hs later in (r.0, contains-next h hs r.0 r.1, r.2)
    ]

pub none-passes : {A : Type 0} (f : A → Bool) (hs : List A) → list_any f hs ≡ false → (h : A) → Contains hs h → f h ≡ false
none-passes f [] e h (k, short, is) = absurd (omega (arith, short))
none-passes f (g ∷ hs) e h (zero, short, is) = ap f (sym is) ∙ (or_parts (f g) (list_any f hs) e).0
none-passes f (g ∷ hs) e h (suc k, short, is) = none-passes f hs (or_parts (f g) (list_any f hs) e).1 h (k, omega (arith, short), is)

pub some-now : (b : Bool) (i k : ℕ) (rest : Option ℕ) → (if b then Some i else rest) ≡ Some k → ((b ≡ true) × (i ≡ k)) ⊎ (rest ≡ Some k)
some-now true i k rest h = inl (refl, some-same i k h)
some-now false i k rest h = inr h

pub none-now : (b : Bool) (i : ℕ) (rest : Option ℕ) → (if b then Some i else rest) ≡ None → (b ≡ false) × (rest ≡ None)
none-now true i rest h = let wrong : ⊥ = cc in absurd wrong
none-now false i rest h = (refl, h)
