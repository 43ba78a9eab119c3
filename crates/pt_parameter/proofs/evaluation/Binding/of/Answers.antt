use Rattle.std.proofs.Common.{◌≡◌, ◌+◌, ◌∷◌, [], ◌++◌, List, ℕ, take, sym, ap, subst, ◌∙◌}
use Rattle.std.proofs.lemmas.List.{take_more}
use Rattle.pt_expr.specs.Env.{scope_of}
use Rattle.pt_expr_type.specs.TypeEnv.{types_in}
use Rattle.pt_scopes.specs.Names.{seen_scope}
use Rattle.pt_scopes.specs.Binding.{AreBound}
use Rattle.pt_parameter.proofs.evaluation.Binding.of.Goals as goal

pub loop-name-preserved : goal.loop-name-preserved
loop-name-preserved c =
    let names = c.args.names.now in
    let i = c.loop-name.name-index in
    let next = c.in_ok-bind.ensures.ok (take i names) c.loop-name.invariant in
    let one = take_more names i c.name-item.result c.loop-name-test.true ∙ ap (λ (y : List ℕ). take i names ++ y ∷ []) (sym c.name-item.is) in
    subst (λ (ns : List (List ℕ)). AreBound (seen_scope c.args.seen.now) (scope_of c.bind.new.self.env) (types_in c.bind.new.self.types) ns) (sym one) (subst (λ (y : List ℕ). AreBound (seen_scope c.args.seen.now) (scope_of c.bind.new.self.env) (types_in c.bind.new.self.types) (take i names ++ y ∷ [])) c.as_str.ensures next)
