-- What is on the channels of a Merge, one after another.
use Rattle.std.proofs.Common.{◌≡◌, ℕ, zero, suc, ◌<◌, ◌+◌, List, [], ◌∷◌, length, drop, Option, None, refl, sym, ap, ◌∙◌, add-one, arith}
use Rattle.std.specs.Option.{option_or}
use Rattle.pt_meaning.specs.Basics.{Streams, at}
use Rattle.pt_value.specs.declared.token.Token.{Token}
use Rattle.pt_firing.specs.Row.{token_at}
use Rattle.pt_lib_time.specs.Merge.{first_present}

at-dropped : (X : Streams Token) (n : ℕ) → n < length X → drop n X ≡ at X n ∷ drop (n + 1) X
at-dropped [] n short = absurd (omega arith)
at-dropped (xs ∷ X) zero short = refl
at-dropped (xs ∷ X) (suc n) short = at-dropped X n (omega arith) ∙ ap (λ m. at X n ∷ drop m X) (add-one n) ∙ ap (λ m. at X n ∷ drop m (xs ∷ X)) (sym (add-one (suc n)))

nothing-left : (X : Streams Token) → drop (length X) X ≡ []
nothing-left [] = refl
nothing-left (xs ∷ X) = nothing-left X

pub first-next : (X : Streams Token) (n : ℕ) → n < length X → first_present (drop n X) ≡ option_or (token_at X n) (first_present (drop (n + 1) X))
unfolding first_present
first-next X n short = ap (λ (Y : Streams Token). first_present Y) (at-dropped X n short)

pub none-first : (X : Streams Token) (n : ℕ) → n ≡ length X → first_present (drop n X) ≡ None
unfolding first_present
none-first X n e = ap (λ m. first_present (drop m X)) e ∙ ap (λ (Y : Streams Token). first_present Y) (nothing-left X)
