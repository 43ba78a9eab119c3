use Rattle.std.proofs.Common.{◌≡◌, ℕ, List, subst, ◌∙◌, rules}
use Rattle.std.proofs.lemmas.Result.{IfOk-weaker, IfErr-weaker}
use Rattle.pt_value.specs.Token.{value_of}
use Rattle.pt_expr.specs.Env.{scope_of}
use Rattle.pt_language.specs.Expr.{tree_of}
use Rattle.pt_expr_type.specs.TypeEnv.{types_in}
use Rattle.pt_document.specs.declared.code.Code.TheVariants as code
use Rattle.pt_scopes.specs.Names.{seen_scope}
use Rattle.pt_scopes.specs.Texts.{IsTextFault, names_in}
use Rattle.pt_scopes.specs.TextFault.{IsTold}
use Rattle.pt_scopes.specs.Binding.{AreBound, HasStrange, IsTreeValueFault}
use Rattle.pt_parameter.proofs.Binding.{keeps, all-bound}
use Rattle.pt_parameter.proofs.Told.{weaker, strange_told, tree_told, tree_gives, literal_value}
use Rattle.pt_parameter.proofs.evaluation.evaluated.Goals as goal

pub returns-in-Some-clause-ok : goal.returns-in-Some-clause-ok
returns-in-Some-clause-ok c = literal_value (seen_scope c.args.seen.now) c.args.text.now (tree_of c.in_ok-tree.tree) (value_of c.in-Some.token) c.in-Some.ensures c.in_ok-tree.ensures.ok

pub returns-in_err-binding-clause-told : goal.returns-in_err-binding-clause-told
returns-in_err-binding-clause-told c =
    let scope = seen_scope c.args.seen.now in
    let t = tree_of c.in_ok-tree.tree in
    let names : c.deref.result.now ≡ names_in t = c.deref.ensures.value ∙ c.in_ok-names.ensures in
    let fault = c.in_err-binding.field-0.0 in
    let before : IsTold (λ cause. (cause ≡ code.ExprName) × HasStrange scope (names_in t)) fault =
    subst (λ (ns : List (List ℕ)). IsTold (λ cause. (cause ≡ code.ExprName) × HasStrange scope ns) fault) names c.in_err-binding.ensures.told in
    let told : IsTold (IsTextFault scope c.args.text.now) fault =
    weaker (λ cause. (cause ≡ code.ExprName) × HasStrange scope (names_in t)) (IsTextFault scope c.args.text.now) (strange_told scope c.args.text.now t c.in_ok-tree.ensures.ok) fault before in
    let h = c.from_residual-in_err-binding.ensures in
    search (rules, told, h)

pub value-requires-clause-keeps : goal.value-requires-clause-keeps
value-requires-clause-keeps c =
    let scope = seen_scope c.args.seen.now in
    let b = c.in_ok-binding.binding in
    let bound : AreBound scope (scope_of b.env) (types_in b.types) (names_in (tree_of c.in_ok-tree.tree)) =
    subst (λ (ns : List (List ℕ)). AreBound scope (scope_of b.env) (types_in b.types) ns) (c.deref.ensures.value ∙ c.in_ok-names.ensures) c.in_ok-binding.ensures.ok in
    keeps scope (scope_of b.env) (types_in b.types) (tree_of c.in_ok-tree.tree) bound

pub value-requires-clause-bound : goal.value-requires-clause-bound
value-requires-clause-bound c =
    let scope = seen_scope c.args.seen.now in
    let b = c.in_ok-binding.binding in
    let bound : AreBound scope (scope_of b.env) (types_in b.types) (names_in (tree_of c.in_ok-tree.tree)) =
    subst (λ (ns : List (List ℕ)). AreBound scope (scope_of b.env) (types_in b.types) ns) (c.deref.ensures.value ∙ c.in_ok-names.ensures) c.in_ok-binding.ensures.ok in
    all-bound scope (scope_of b.env) (types_in b.types) (tree_of c.in_ok-tree.tree) bound

pub returns-clause-ok : goal.returns-clause-ok
returns-clause-ok c =
    let scope = seen_scope c.args.seen.now in
    let b = c.in_ok-binding.binding in
    let bound : AreBound scope (scope_of b.env) (types_in b.types) (names_in (tree_of c.in_ok-tree.tree)) =
    subst (λ (ns : List (List ℕ)). AreBound scope (scope_of b.env) (types_in b.types) ns) (c.deref.ensures.value ∙ c.in_ok-names.ensures) c.in_ok-binding.ensures.ok in
    IfOk-weaker c.value.result _ _ (λ t g. tree_gives scope (scope_of b.env) (types_in b.types) c.args.text.now (tree_of c.in_ok-tree.tree) (value_of t) bound c.in_ok-tree.ensures.ok g) c.value.ensures.ok

pub returns-clause-told : goal.returns-clause-told
returns-clause-told c =
    let scope = seen_scope c.args.seen.now in
    let b = c.in_ok-binding.binding in
    let t = tree_of c.in_ok-tree.tree in
    let bound : AreBound scope (scope_of b.env) (types_in b.types) (names_in t) =
    subst (λ (ns : List (List ℕ)). AreBound scope (scope_of b.env) (types_in b.types) ns) (c.deref.ensures.value ∙ c.in_ok-names.ensures) c.in_ok-binding.ensures.ok in
    IfErr-weaker c.value.result _ _ (weaker (IsTreeValueFault (scope_of b.env) (types_in b.types) t) (IsTextFault scope c.args.text.now) (tree_told scope (scope_of b.env) (types_in b.types) c.args.text.now t bound c.in_ok-tree.ensures.ok)) c.value.ensures.told
