-- A turn of the search for a name that stands twice.
use Rattle.std.proofs.Common.{◌≡◌, ℕ, suc, ◌+◌, ◌<◌, List, ◌∷◌, length, get_or, drop, map, Bool, true, false, not, cond, refl, sym, ◌∙◌, ap, subst, drop-cons, arith}
use Rattle.std.specs.Prelude.{◌||◌, nat_eq}
use Rattle.std.specs.Cmp.Lexicographic.{pointwise}
use Rattle.std.proofs.lemmas.Bool.{false≢true}
use Rattle.pt_language.specs.Descent.{is_among, repeats_behind}

or_of : (a b : Bool) → cond a true b ≡ (a || b)
or_of true b = refl
or_of false b = refl

-- one name more is known
pub more_names : (seen : List (List ℕ)) (n m q : List ℕ) (now before : Bool) → n ≡ m → now ≡ cond (pointwise nat_eq n q) true before → before ≡ is_among seen q → now ≡ is_among (m ∷ seen) q
more_names seen n m q now before same updated known =
    updated ∙ ap (λ b. cond (pointwise nat_eq n q) true b) known ∙ or_of (pointwise nat_eq n q) (is_among seen q) ∙ ap (λ v. pointwise nat_eq v q || is_among seen q) same

-- what a test of a negation says
pub is_new : (a b : Bool) → true ≡ not a → a ≡ b → b ≡ false
is_new true b e q = absurd (false≢true (sym e))
is_new false b e q = sym q

pub is_old : (a b : Bool) → false ≡ not a → a ≡ b → b ≡ true
is_old true b e q = sym q
is_old false b e q = absurd (false≢true e)

module _ {X T : Type 0} (entry : X → List ℕ × T) where
  abbrev pub names : List X → List (List ℕ)
  names fs = map (λ f. f.0) (map entry fs)

  first_of : (fs : List X) (i : ℕ) (f : X) → i < length fs → f ≡ get_or fs i f → drop i fs ≡ f ∷ drop (i + 1) fs
  first_of fs i f h e =
      let q : suc i ≡ i + 1 = omega arith in
      drop-cons fs i f h ∙ (λ j. sym e j ∷ drop (q j) fs)

  turn : (fs : List X) (i : ℕ) (f : X) (seen : List (List ℕ)) (all : Bool) → i < length fs → f ≡ get_or fs i f → repeats_behind seen (names (drop i fs)) ≡ all → (is_among seen (entry f).0 || repeats_behind ((entry f).0 ∷ seen) (names (drop (i + 1) fs))) ≡ all
  turn fs i f seen all h e r =
      let P : List X → Type 0 = λ v. repeats_behind seen (names v) ≡ all in
      subst P (first_of fs i f h e) r

  -- the name wasn't there
  pub new_name : (fs : List X) (i : ℕ) (f : X) (seen : List (List ℕ)) (all : Bool) → i < length fs → f ≡ get_or fs i f → is_among seen (entry f).0 ≡ false → repeats_behind seen (names (drop i fs)) ≡ all → repeats_behind ((entry f).0 ∷ seen) (names (drop (i + 1) fs)) ≡ all
  new_name fs i f seen all h e new r =
      ap (λ b. b || repeats_behind ((entry f).0 ∷ seen) (names (drop (i + 1) fs))) (sym new) ∙ turn fs i f seen all h e r

  -- it was
  pub old_name : (fs : List X) (i : ℕ) (f : X) (seen : List (List ℕ)) (all : Bool) → i < length fs → f ≡ get_or fs i f → is_among seen (entry f).0 ≡ true → repeats_behind seen (names (drop i fs)) ≡ all → true ≡ all
  old_name fs i f seen all h e old r =
      ap (λ b. b || repeats_behind ((entry f).0 ∷ seen) (names (drop (i + 1) fs))) (sym old) ∙ turn fs i f seen all h e r
