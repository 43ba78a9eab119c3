use Rattle.std.proofs.Common.{◌≡◌, ◌⊎◌, ℕ, List, true, sym, ap, subst, ◌∙◌}
use Rattle.std.specs.Prelude.{IfOk, IfErr}
use Rattle.pt_value.specs.Token.{value_of}
use Rattle.pt_language.specs.declared.eval_fault.EvalFault.TheVariants.{Memory}
use Rattle.pt_language.specs.Outcome.{Gives, Stops}
use Rattle.pt_expr.specs.Env.{scope_of}
use Rattle.pt_language.specs.Expr.{tree_of}
use Rattle.pt_formula.specs.Formula.{Formula, names, with_inputs, is_among, is_typed, HasParameters}
use Rattle.pt_lib_flow.proofs.Evaluations.{comes-to}
use Rattle.pt_lib_flow.proofs.Typings.{never-wrong}
use Rattle.pt_lib_flow.proofs.expression.Fixed.evaluate.Goals as goal

pub eval-requires : goal.eval-requires
eval-requires c =
    let f : Formula = record { inputs = c.self.inside.inputs; values = c.self.inside.values; tree = tree_of c.self.inside.tree } in
    let has : HasParameters (names f.inputs) f.values (scope_of c.args.env.now) = subst (λ (g : Formula). HasParameters (names g.inputs) g.values (scope_of c.args.env.now)) (sym c.self.view_is) c.requires.bound in
    let bound : (name : List ℕ) → scope_of c.bind_inputs.new.env name ≡ with_inputs (names f.inputs) c.args.inputs.now (scope_of c.args.env.now) name = λ name. c.in_ok-bind_inputs.ensures.ok name ∙ ap (λ es. with_inputs (names es) c.args.inputs.now (scope_of c.args.env.now) name) c.as_slice.ensures in
    let is = comes-to f c.args.self.now c.args.inputs.now (scope_of c.args.env.now) (scope_of c.bind_inputs.new.env) c.self.view_is has bound in
    let typed : is_typed c.args.self.now ≡ true = sym (ap is_typed c.self.view_is) ∙ c.self.invariant.1 in
    record { right = λ wrong. never-wrong c.args.self.now c.args.inputs.now typed c.requires.right (sym is ∙ wrong) }

pub returns-clause-ok : goal.returns-clause-ok
returns-clause-ok c =
    let f : Formula = record { inputs = c.self.inside.inputs; values = c.self.inside.values; tree = tree_of c.self.inside.tree } in
    let has : HasParameters (names f.inputs) f.values (scope_of c.args.env.now) = subst (λ (g : Formula). HasParameters (names g.inputs) g.values (scope_of c.args.env.now)) (sym c.self.view_is) c.requires.bound in
    let bound : (name : List ℕ) → scope_of c.bind_inputs.new.env name ≡ with_inputs (names f.inputs) c.args.inputs.now (scope_of c.args.env.now) name = λ name. c.in_ok-bind_inputs.ensures.ok name ∙ ap (λ es. with_inputs (names es) c.args.inputs.now (scope_of c.args.env.now) name) c.as_slice.ensures in
    let is = comes-to f c.args.self.now c.args.inputs.now (scope_of c.args.env.now) (scope_of c.bind_inputs.new.env) c.self.view_is has bound in
    subst (λ o. IfOk c.eval.result (λ token. o ≡ Gives (value_of token))) is c.eval.ensures.ok

pub returns-clause-err : goal.returns-clause-err
returns-clause-err c =
    let f : Formula = record { inputs = c.self.inside.inputs; values = c.self.inside.values; tree = tree_of c.self.inside.tree } in
    let has : HasParameters (names f.inputs) f.values (scope_of c.args.env.now) = subst (λ (g : Formula). HasParameters (names g.inputs) g.values (scope_of c.args.env.now)) (sym c.self.view_is) c.requires.bound in
    let bound : (name : List ℕ) → scope_of c.bind_inputs.new.env name ≡ with_inputs (names f.inputs) c.args.inputs.now (scope_of c.args.env.now) name = λ name. c.in_ok-bind_inputs.ensures.ok name ∙ ap (λ es. with_inputs (names es) c.args.inputs.now (scope_of c.args.env.now) name) c.as_slice.ensures in
    let is = comes-to f c.args.self.now c.args.inputs.now (scope_of c.args.env.now) (scope_of c.bind_inputs.new.env) c.self.view_is has bound in
    subst (λ o. IfErr c.eval.result (λ fault. (fault ≡ Memory) ⊎ (o ≡ Stops fault))) is c.eval.ensures.err

pub returns-clause-others : goal.returns-clause-others
returns-clause-others c name apart =
    c.in_ok-bind_inputs.ensures.others name (ap (λ es. is_among name (names es)) (c.as_slice.ensures ∙ ap (λ (f : Formula). f.inputs) c.self.view_is) ∙ apart)
