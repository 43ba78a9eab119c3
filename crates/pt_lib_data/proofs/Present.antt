-- What is on the places, one place after another.
use Rattle.std.proofs.Common.{◌≡◌, ℕ, zero, suc, ◌<◌, ◌≤◌, ◌+◌, List, [], ◌∷◌, ◌++◌, length, drop, Bool, true, false, ◌&&◌, Option, Some, None, option_map, refl, sym, ap, ◌∙◌, add-one, append-nil, append_assoc, arith}
use Rattle.pt_meaning.specs.Basics.{Streams, at}
use Rattle.pt_value.specs.declared.token.Token.{Token}
use Rattle.pt_firing.specs.Row.{token_at, truth_at}
use Rattle.pt_lib_data.specs.Equals.{or_later, first_present, is_this, agrees, all_agree}
use Rattle.pt_lib_data.specs.ElementsToArray.{with_token, firsts}
use Rattle.pt_lib_data.specs.LogicFunction.{count_given, count_true, given, trues}

at-dropped : (X : Streams Token) (n : ℕ) → n < length X → drop n X ≡ at X n ∷ drop (n + 1) X
at-dropped [] n short = absurd (omega arith)
at-dropped (xs ∷ X) zero short = refl
at-dropped (xs ∷ X) (suc n) short = at-dropped X n (omega arith) ∙ ap (λ m. at X n ∷ drop m X) (add-one n) ∙ ap (λ m. at X n ∷ drop m (xs ∷ X)) (sym (add-one (suc n)))

pub nothing-left : (X : Streams Token) → drop (length X) X ≡ []
nothing-left [] = refl
nothing-left (xs ∷ X) = nothing-left X

pub first-next : (X : Streams Token) (n : ℕ) → n < length X → first_present (drop n X) ≡ or_later (token_at X n) (first_present (drop (n + 1) X))
unfolding first_present
first-next X n short = ap first_present (at-dropped X n short)

pub agree-next : (t : Token) (X : Streams Token) (n : ℕ) → n < length X → all_agree t (drop n X) ≡ (agrees t X n && all_agree t (drop (n + 1) X))
unfolding all_agree
agree-next t X n short = ap (all_agree t) (at-dropped X n short)

pub given-next : (X : Streams Token) (n : ℕ) → n < length X → given (drop n X) ≡ count_given (truth_at X n) + given (drop (n + 1) X)
unfolding given
given-next X n short = ap given (at-dropped X n short)

pub trues-next : (X : Streams Token) (n : ℕ) → n < length X → trues (drop n X) ≡ count_true (truth_at X n) + trues (drop (n + 1) X)
unfolding trues
trues-next X n short = ap trues (at-dropped X n short)

pub firsts-next : (X : Streams Token) (n : ℕ) → n < length X → firsts (drop n X) ≡ with_token (token_at X n) (firsts (drop (n + 1) X))
unfolding firsts
firsts-next X n short = ap firsts (at-dropped X n short)

pub none-first : (X : Streams Token) (n : ℕ) → n ≡ length X → first_present (drop n X) ≡ None
unfolding first_present
none-first X n e = ap (λ m. first_present (drop m X)) e ∙ ap first_present (nothing-left X)

pub none-differ : (t : Token) (X : Streams Token) (n : ℕ) → n ≡ length X → all_agree t (drop n X) ≡ true
unfolding all_agree
none-differ t X n e = ap (λ m. all_agree t (drop m X)) e ∙ ap (all_agree t) (nothing-left X)

pub none-given : (X : Streams Token) (n : ℕ) → n ≡ length X → given (drop n X) ≡ 0
unfolding given
none-given X n e = ap (λ m. given (drop m X)) e ∙ ap given (nothing-left X)

pub none-true : (X : Streams Token) (n : ℕ) → n ≡ length X → trues (drop n X) ≡ 0
unfolding trues
none-true X n e = ap (λ m. trues (drop m X)) e ∙ ap trues (nothing-left X)

pub none-of : (X : Streams Token) (n : ℕ) → n ≡ length X → firsts (drop n X) ≡ []
unfolding firsts
none-of X n e = ap (λ m. firsts (drop m X)) e ∙ ap firsts (nothing-left X)

pub true-le : (o : Option Bool) → count_true o ≤ count_given o
true-le None = omega arith
true-le (Some true) = omega arith
true-le (Some false) = omega arith

pub given-le : (o : Option Bool) → count_given o ≤ 1
given-le None = omega arith
given-le (Some b) = omega arith

pub with-append : (o : Option Token) (ts us : List Token) → (ts ++ with_token o []) ++ us ≡ ts ++ with_token o us
with-append None ts us = ap (λ vs. vs ++ us) (append-nil ts)
with-append (Some t) ts us = append_assoc ts (t ∷ []) us
