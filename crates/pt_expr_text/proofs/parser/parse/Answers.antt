use Rattle.std.proofs.Common.{◌≡◌, [], refl, inr, arith}
use Rattle.std.proofs.lemmas.Result.{IfOk-weaker}
use Rattle.pt_language.specs.Expr.{tree_of}
use Rattle.pt_language.proofs.Whole.{whole_tree, not_deep, one_tree}
use Rattle.pt_expr_text.proofs.Wholes.{refused_whole}
use Rattle.pt_expr_text.proofs.parser.parse.Goals as goal

pub returns-clause-tree : goal.returns-clause-tree
returns-clause-tree c =
    IfOk-weaker c.whole-read.result _ _
    (λ e h. whole_tree c.args.text.now c.in_ok-words.words.items c.in_ok-words.left.now [] _ (tree_of e) c.in_ok-words.ensures h.0 (rw c.deref.ensures.value at h.1) refl)
    c.whole-read.ensures.tree

pub returns-clause-shallow : goal.returns-clause-shallow
returns-clause-shallow c =
    IfOk-weaker c.whole-read.result _ _
    (λ e h. not_deep c.args.text.now c.in_ok-words.words.items c.in_ok-words.left.now (omega arith) c.in_ok-words.ensures (rw c.deref.ensures.value at h))
    c.whole-read.ensures.shallow

pub returns-clause-deep : goal.returns-clause-deep
returns-clause-deep c = λ q. inr (c.in_ok-words.words.items, c.in_ok-words.left.now, c.in_ok-words.ensures, rw c.deref.ensures.value at (c.whole-read.ensures.deep q))

pub returns-clause-syntax : goal.returns-clause-syntax
returns-clause-syntax c =
    λ q. not_deep c.args.text.now c.in_ok-words.words.items c.in_ok-words.left.now (omega arith) c.in_ok-words.ensures (rw c.deref.ensures.value at (c.whole-read.ensures.syntax q))

pub returns-clause-refuses : goal.returns-clause-refuses
returns-clause-refuses c =
    λ q. refused_whole c.args.text.now c.in_ok-words.words.items c.in_ok-words.left.now _ c.in_ok-words.ensures (omega arith) (rw c.deref.ensures.value at (c.whole-read.ensures.refuses q))

pub returns-clause-only : goal.returns-clause-only
returns-clause-only c =
    IfOk-weaker c.whole-read.result _ _
    (λ e h. one_tree c.args.text.now c.in_ok-words.words.items c.in_ok-words.left.now _ (tree_of e) [] c.in_ok-words.ensures (omega arith) (rw c.deref.ensures.value at h.1))
    c.whole-read.ensures.tree
