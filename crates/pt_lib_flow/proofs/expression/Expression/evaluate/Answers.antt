use Rattle.std.proofs.Common.{◌≡◌, ◌⊎◌, sym, ap, subst, ◌∙◌}
use Rattle.std.specs.Prelude.{IfOk, IfErr}
use Rattle.pt_value.specs.Token.{value_of}
use Rattle.pt_language.specs.declared.eval_fault.EvalFault.TheVariants.{Memory}
use Rattle.pt_language.specs.Outcome.{Gives, Stops}
use Rattle.pt_expr.specs.Env.{scope_of}
use Rattle.pt_formula.specs.Formula.{Formula, names, is_among, are_of, HasParameters}
use Rattle.pt_lib_flow.specs.Expression.{outcome}
use Rattle.pt_lib_flow.proofs.expression.Expression.evaluate.Goals as goal

pub evaluate-requires : goal.evaluate-requires
evaluate-requires c = record {
  right = ap (λ (f : Formula). are_of f.inputs c.args.inputs.now) (c.deref.ensures ∙ c.self.view_is) ∙ c.requires.right;
  bound = subst (λ (f : Formula). HasParameters (names f.inputs) f.values (scope_of c.self.inside.env)) (sym c.deref.ensures) c.self.invariant;
}

pub invariant_of-self : goal.invariant_of-self
invariant_of-self c name apart = c.evaluate.ensures.others name (ap (λ (f : Formula). is_among name (names f.inputs)) c.deref.ensures ∙ apart) ∙ c.self.invariant name apart

pub returns-clause-ok : goal.returns-clause-ok
returns-clause-ok c = subst (λ (f : Formula). IfOk c.evaluate.result (λ token. outcome f c.args.inputs.now ≡ Gives (value_of token))) (c.deref.ensures ∙ c.self.view_is) c.evaluate.ensures.ok

pub returns-clause-err : goal.returns-clause-err
returns-clause-err c = subst (λ (f : Formula). IfErr c.evaluate.result (λ fault. (fault ≡ Memory) ⊎ (outcome f c.args.inputs.now ≡ Stops fault))) (c.deref.ensures ∙ c.self.view_is) c.evaluate.ensures.err
