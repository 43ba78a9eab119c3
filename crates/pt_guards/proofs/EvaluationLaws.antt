-- What an evaluation tells of a guard or an action.
use Rattle.std.proofs.Common.{◌≡◌, ◌⊎◌, inl, inr, Result, Ok, Err, sym, ap, subst, ◌∙◌}
use Rattle.std.specs.Prelude.{IfOk, IfErr}
use Rattle.pt_meaning.specs.Modal.{Test}
use Rattle.pt_meaning.specs.Transitions.{Reading, Reads}
use Rattle.pt_value.specs.Value.{Value}
use Rattle.pt_value.specs.Token.{value_of, token_of-value_of}
use Rattle.pt_value.specs.declared.token.Token.{Token}
use Rattle.pt_language.specs.declared.eval_fault.EvalFault.{EvalFault}
use Rattle.pt_language.specs.declared.eval_fault.EvalFault.TheVariants.{DivideByZero, Overflow, Index, Size, Absent, Memory}
use Rattle.pt_language.specs.Outcome.{Outcome, Gives, Stops}
use Rattle.pt_chart.specs.Chart.{test_of, reading_of}
use Rattle.pt_guards.specs.Told.{told_test, told_reading}

test-stopped : (fault : EvalFault) (o : Outcome Value) (t : Test) → (fault ≡ Memory) ⊎ (o ≡ Stops fault) → told_test (Err fault) t → t ≡ test_of o
test-stopped fault o t (inl memory) told = absurd (subst (λ f. told_test (Err f) t) memory told)
test-stopped DivideByZero o t (inr is) told = told ∙ sym (ap test_of is)
test-stopped Overflow o t (inr is) told = told ∙ sym (ap test_of is)
test-stopped Index o t (inr is) told = told ∙ sym (ap test_of is)
test-stopped Size o t (inr is) told = told ∙ sym (ap test_of is)
test-stopped Absent o t (inr is) told = told ∙ sym (ap test_of is)
test-stopped Memory o t (inr is) told = absurd told

pub test-told : (r : Result Token EvalFault) (o : Outcome Value) (t : Test) → IfOk r (λ x. o ≡ Gives (value_of x)) → IfErr r (λ fault. (fault ≡ Memory) ⊎ (o ≡ Stops fault)) → told_test r t → t ≡ test_of o
test-told (Ok x) o t given faulty told = told ∙ sym (ap test_of given)
test-told (Err fault) o t given faulty told = test-stopped fault o t faulty told

reading-stopped : (fault : EvalFault) (o : Outcome Value) (t : Reading Token) → (fault ≡ Memory) ⊎ (o ≡ Stops fault) → told_reading (Err fault) t → t ≡ reading_of o
reading-stopped fault o t (inl memory) told = absurd (subst (λ f. told_reading (Err f) t) memory told)
reading-stopped DivideByZero o t (inr is) told = told ∙ sym (ap reading_of is)
reading-stopped Overflow o t (inr is) told = told ∙ sym (ap reading_of is)
reading-stopped Index o t (inr is) told = told ∙ sym (ap reading_of is)
reading-stopped Size o t (inr is) told = told ∙ sym (ap reading_of is)
reading-stopped Absent o t (inr is) told = told ∙ sym (ap reading_of is)
reading-stopped Memory o t (inr is) told = absurd told

pub reading-told : (r : Result Token EvalFault) (o : Outcome Value) (t : Reading Token) → IfOk r (λ x. o ≡ Gives (value_of x)) → IfErr r (λ fault. (fault ≡ Memory) ⊎ (o ≡ Stops fault)) → told_reading r t → t ≡ reading_of o
reading-told (Ok x) o t given faulty told = told ∙ ap (λ (y : Token). let r : Reading Token = Reads y in r) (sym (token_of-value_of x)) ∙ sym (ap reading_of given)
reading-told (Err fault) o t given faulty told = reading-stopped fault o t faulty told
