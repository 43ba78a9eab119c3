use Rattle.std.proofs.Common.{◌≡◌, ◌⊎◌, inl, inr, Result, Ok, Err, IfOk, IfErr}
use Rattle.pt_types.specs.declared.ty.Ty.{Ty}
use Rattle.pt_types.specs.Ty.{type_of}
use Rattle.pt_language.specs.Tree.{Tree}
use Rattle.pt_language.specs.Expr.{tree_of}
use Rattle.pt_language.specs.declared.type_fault.TypeFault.{TypeFault}
use Rattle.pt_language.specs.declared.type_fault.TypeFault.TheVariants.{Memory}
use Rattle.pt_language.specs.Types.{Types}
use Rattle.pt_expr_type.specs.TypeEnv.{types_in}
use Rattle.pt_language.specs.TreeType.{IsTyped}
use Rattle.pt_language.specs.TypeFault.{Stands}
use Rattle.pt_language.specs.Answer.{Gives, Stops, answer}
use Rattle.pt_expr_type.proofs.Answered.{typed-by_answer, stands-by_answer}
use Rattle.pt_expr_type.proofs.tree.type_of.Goals as goal

ok-by : (types : Types) (tree : Tree) (r : Result Ty TypeFault) → IfOk r (λ t. answer types tree ≡ Gives (type_of t)) → IfOk r (λ t. IsTyped types tree (type_of t))
ok-by types tree (Ok t) h = typed-by_answer types tree (type_of t) h
ok-by types tree (Err f) h = h

err-by : (types : Types) (tree : Tree) (r : Result Ty TypeFault) → IfErr r (λ f. (f ≡ Memory) ⊎ (answer types tree ≡ Stops f)) → IfErr r (Stands types tree)
err-by types tree (Ok t) h = h
err-by types tree (Err f) (inl e) = rw e tt
err-by types tree (Err f) (inr e) = stands-by_answer types tree f e

pub returns-clause-ok : goal.returns-clause-ok
returns-clause-ok c = ok-by (types_in c.args.env.now) (tree_of c.args.expr.now) _ c.answer.ensures.ok

pub returns-clause-err : goal.returns-clause-err
returns-clause-err c = err-by (types_in c.args.env.now) (tree_of c.args.expr.now) _ c.answer.ensures.err
