-- The sum and the difference of the numbers at two places.
use Rattle.std.proofs.Common.{◌≡◌, ◌∷◌, [], length, true, ◌&&◌, Option, Some, None, SomeIff, FitsSigned, w64, ℤ, pos, negsuc, ◌+ℤ◌, ◌-ℤ◌, refl, sym, ap, ap₂, ◌∙◌, arith, if◌then◌else◌}
use Rattle.std.proofs.lemmas.Int.{ints}
use Rattle.std.proofs.lemmas.Grind.{common_steps}
use Rattle.pt_meaning.specs.Basics.{Streams}
use Rattle.pt_meaning.specs.Node.{Fails, is_none}
use Rattle.pt_value.specs.declared.token.Token.{Token}
use Rattle.pt_value.specs.declared.token.Token.TheVariants.{Int}
use Rattle.pt_firing.specs.RunFault.{code_of}
use Rattle.pt_firing.specs.declared.fault.RunFault.TheVariants.{Overflow}
use Rattle.pt_flow_numbers.specs.declared.add_subtract.AddSubtract.{AddSubtract}
use Rattle.pt_flow_base.specs.Row.{fits_i64, gives, exactly, on_present, number_at, with_number, total, sum_of}
use Rattle.pt_flow_base.specs.Number.{GivesNumber}
use Rattle.pt_flow_numbers.specs.AddSubtract.{step}

pub difference-of : (X : Streams Token) (m n : ℤ) → length X ≡ 2 → number_at X 0 ≡ Some m → number_at X 1 ≡ Some n → sum_of 1 X ≡ Some (m -ℤ n)
unfolding sum_of
difference-of [] m n two first second = absurd (omega arith)
difference-of (xs ∷ []) m n two first second = absurd (omega arith)
difference-of (xs ∷ ys ∷ []) m n two first second =
    ap₂ (λ o p. if is_none (with_number o []) && is_none (with_number p []) then None else Some (total (with_number o []) -ℤ total (with_number p []))) first second ∙ ap Some (omega (arith, ints))
difference-of (xs ∷ ys ∷ zs ∷ X) m n two first second = absurd (omega arith)

pub sum-of : (X : Streams Token) (m n : ℤ) → length X ≡ 2 → number_at X 0 ≡ Some m → number_at X 1 ≡ Some n → sum_of 2 X ≡ Some (m +ℤ n)
unfolding sum_of
sum-of [] m n two first second = absurd (omega arith)
sum-of (xs ∷ []) m n two first second = absurd (omega arith)
sum-of (xs ∷ ys ∷ []) m n two first second =
    ap₂ (λ o p. if is_none (with_number o (with_number p [])) && true then None else Some (total (with_number o (with_number p [])) -ℤ total [])) first second ∙ ap Some (omega (arith, ints))
sum-of (xs ∷ ys ∷ zs ∷ X) m n two first second = absurd (omega arith)

fits-told : (sum : ℤ) → FitsSigned w64 sum → fits_i64 sum ≡ true
fits-told (pos n) fits = grind (arith, common_steps)
fits-told (negsuc n) fits = grind (arith, common_steps)

-- a sum that was computed is given, where it fits
pub sum-given : (a : AddSubtract) (X : Streams Token) (sum : ℤ) (told : Option ℤ) → sum_of a.plus X ≡ Some sum → SomeIff told (FitsSigned w64 sum) sum → GivesNumber step a X told a
sum-given a X sum None is some = refl
sum-given a X sum (Some n) is some = λ tag.
    ap (on_present a (exactly a)) is ∙ ap (λ b. if b then gives a (Int sum) else Fails (code_of Overflow)) (fits-told sum some.0) ∙ ap (λ k. gives a (Int k)) (sym some.1)
