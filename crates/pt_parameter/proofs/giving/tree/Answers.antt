use Rattle.std.proofs.Common.{◌≡◌, ℕ, List, subst, ◌∙◌, rules}
use Rattle.std.specs.List.{Contains}
use Rattle.pt_language.specs.Expr.{tree_of}
use Rattle.pt_document.specs.declared.code.Code.TheVariants as code
use Rattle.pt_scopes.specs.Names.{seen_scope}
use Rattle.pt_scopes.specs.PortNames.{names_port_of}
use Rattle.pt_scopes.specs.Given.{IsInScope, HasNameOutside}
use Rattle.pt_scopes.specs.Texts.{IsTreeFault, names_in}
use Rattle.pt_scopes.specs.TextFault.{IsTold}
use Rattle.pt_parameter.proofs.Told.{weaker}
use Rattle.pt_scopes.proofs.NameTests.{outside_told}
use Rattle.pt_parameter.proofs.giving.tree.Goals as goal

pub returns-in_err-check_names-clause-told : goal.returns-in_err-check_names-clause-told
returns-in_err-check_names-clause-told c =
    let IsIn : List ℕ → Type 0 = IsInScope (names_port_of c.args.ports.now) (seen_scope c.args.seen.now) in
    let t = tree_of c.in_ok-tree.tree in
    let names : c.deref.result.now ≡ names_in t = c.deref.ensures.value ∙ c.in_ok-names_of.ensures in
    let fault = c.in_err-check_names.field-0.0 in
    let before : IsTold (λ cause. (cause ≡ code.ExprName) × HasNameOutside IsIn (names_in t)) fault =
    subst (λ (ns : List (List ℕ)). IsTold (λ cause. (cause ≡ code.ExprName) × HasNameOutside IsIn ns) fault) names c.in_err-check_names.ensures.told in
    let told : IsTold (IsTreeFault IsIn c.args.text.now) fault =
    weaker (λ cause. (cause ≡ code.ExprName) × HasNameOutside IsIn (names_in t)) (IsTreeFault IsIn c.args.text.now) (outside_told IsIn c.args.text.now t c.in_ok-tree.ensures.ok) fault before in
    let h = c.from_residual-in_err-check_names.ensures in
    search (rules, told, h)

pub returns-clause-ok : goal.returns-clause-ok
returns-clause-ok c =
    let IsIn : List ℕ → Type 0 = IsInScope (names_port_of c.args.ports.now) (seen_scope c.args.seen.now) in
    let t = tree_of c.in_ok-tree.tree in
    let named : (name : List ℕ) → Contains (names_in t) name → IsIn name =
    subst (λ (ns : List (List ℕ)). (name : List ℕ) → Contains ns name → IsIn name) (c.deref.ensures.value ∙ c.in_ok-names_of.ensures) c.in_ok-check_names.ensures.ok in
    record { is_read = c.in_ok-tree.ensures.ok; named = named }
