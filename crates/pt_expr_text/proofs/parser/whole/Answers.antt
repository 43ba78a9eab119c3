use Rattle.std.proofs.Common.{◌≡◌, ◌↔◌, length, List, Bool, false, subst, arith}
use Rattle.std.specs.Prelude.{IsTrue}
use Rattle.std.proofs.lemmas.Bool.{false≢true}
use Rattle.std.proofs.lemmas.Bool.Decides.{nat_tests}
use Rattle.std.proofs.lemmas.Result.{err_from_is_err_and}
use Rattle.pt_language.specs.declared.word.Word.{Word}
use Rattle.pt_language.specs.Expr.{tree_of}
use Rattle.pt_language.specs.Descent.{expression}
use Rattle.pt_language.specs.Deep.{IsTooFull}
use Rattle.pt_expr_text.proofs.Wholes.{all_read, not_all_read, none_read}
use Rattle.pt_expr_text.proofs.parser.whole.Goals as goal

not_full : (ws : List Word) (full : Bool) → (IsTrue full ↔ IsTooFull ws) → full ≡ false → ¬ (IsTooFull ws)
not_full ws full h e is =
    let m : IsTrue false = subst IsTrue e (h.1 is) in
    false≢true m

pub returns-then-not-is_empty-clause-syntax : goal.returns-then-not-is_empty-clause-syntax
returns-then-not-is_empty-clause-syntax c = λ _. not_full c.args.words.now c.is_too_full.result c.is_too_full.ensures c.if-is_too_full.false

pub returns-then-not-is_empty-clause-refuses : goal.returns-then-not-is_empty-clause-refuses
returns-then-not-is_empty-clause-refuses c = λ _ t (none : length c.args.left.now ≡ 0). absurd (grind (arith, nat_tests))

pub returns-in_err-tree-clause-syntax : goal.returns-in_err-tree-clause-syntax
returns-in_err-tree-clause-syntax c = λ _. not_full c.args.words.now c.is_too_full.result c.is_too_full.ensures c.if-is_too_full.false

pub returns-in_err-tree-clause-refuses : goal.returns-in_err-tree-clause-refuses
returns-in_err-tree-clause-refuses c =
    λ q t _.
    let p = err_from_is_err_and c.from_residual.result c.from_residual.ensures.1 in
    none_read c.in_err-tree.field-0.0 (expression c.args.depth c.args.words.now) c.in_err-tree.ensures (cc) t

pub returns-then-is_empty-clause-tree : goal.returns-then-is_empty-clause-tree
returns-then-is_empty-clause-tree c =
    let left : length c.args.left.now ≡ 0 = grind (arith, nat_tests) in
    let rest : length c.in_ok-tree.rest.now ≡ 0 = grind (arith, nat_tests) in
    (left, all_read (expression c.args.depth c.args.words.now) (tree_of c.in_ok-tree.tree) c.in_ok-tree.rest.now c.in_ok-tree.ensures rest)

pub returns-then-is_empty-clause-shallow : goal.returns-then-is_empty-clause-shallow
returns-then-is_empty-clause-shallow c = not_full c.args.words.now c.is_too_full.result c.is_too_full.ensures c.if-is_too_full.false

pub returns-else-is_empty-clause-syntax : goal.returns-else-is_empty-clause-syntax
returns-else-is_empty-clause-syntax c = λ _. not_full c.args.words.now c.is_too_full.result c.is_too_full.ensures c.if-is_too_full.false

pub returns-else-is_empty-clause-refuses : goal.returns-else-is_empty-clause-refuses
returns-else-is_empty-clause-refuses c =
    λ _ t _. not_all_read (expression c.args.depth c.args.words.now) (tree_of c.in_ok-tree.tree) c.in_ok-tree.rest.now c.in_ok-tree.ensures (λ (e : length c.in_ok-tree.rest.now ≡ 0). grind (arith, nat_tests)) t
