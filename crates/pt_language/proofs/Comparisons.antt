-- Comparisons of tokens whose types have a join.
use Rattle.std.proofs.Common.{◌≡◌, ◌↔◌, Bool, true, false, IsTrue, refl, sym, ap, ◌∙◌, if◌then◌else◌}
use Rattle.pt_value.specs.declared.token.Token.{Token}
use Rattle.pt_value.specs.Value as val
use Rattle.pt_value.specs.Token.{value_of, same_token}
use Rattle.pt_language.specs.Outcome.{Outcome, Gives, Wrong}
use Rattle.pt_language.specs.Same.{is_same, is_same-decides}
use Rattle.pt_language.specs.Comparable.{have_join}
use Rattle.pt_language.specs.Meaning.{compared}

equal_tests : (p q : Bool) → (IsTrue p → IsTrue q) → (IsTrue q → IsTrue p) → p ≡ q
equal_tests true true there back = refl
equal_tests true false there back = sym (there refl)
equal_tests false true there back = back refl
equal_tests false false there back = refl

joined_by : {A : Type 0} (j : Bool) (o : Outcome A) → ((if j then o else Wrong) ≡ Wrong → ⊥) → (if j then o else Wrong) ≡ o
joined_by true o right = refl
joined_by false o right = absurd (right refl)

-- what a comparison gives, where it isn't wrong
pub compared_right : (answer : Bool → Bool) (a b : Token) (r : Bool) → (IsTrue r ↔ (a ≡ b)) → (compared answer (value_of a) (value_of b) ≡ Wrong → ⊥) → compared answer (value_of a) (value_of b) ≡ Gives (val.Bool (answer r))
compared_right answer a b r is right =
    let same : is_same (value_of a) (value_of b) ≡ r = equal_tests _ _ (λ e. is.1 (same_token a b ((is_same-decides _ _).0 e))) (λ e. (is_same-decides _ _).1 (ap value_of (is.0 e))) in
    joined_by (have_join (value_of a) (value_of b)) _ right ∙ ap (λ q. Gives (val.Bool (answer q))) same
