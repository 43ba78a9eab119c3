use Rattle.std.proofs.Common.{rules, map, ◌≡◌, sym, ap, ◌∙◌, ◌++◌, ◌∷◌, []}
use Rattle.pt_language.specs.Expr.{tree_of, entry_of}
use Rattle.pt_language.specs.Tree as tree
use Rattle.pt_language.specs.declared.exprs.NamedExprs.{out-roll-NamedExprs}
use Rattle.pt_language.proofs.Copied.{copied-more, copied-all}
use Rattle.pt_language.proofs.+copies.Goals as goal

pub exprs::Exprs::copy-loop-part-preserved : goal.exprs::Exprs::copy-loop-part-preserved
exprs::Exprs::copy-loop-part-preserved t c =
    let e : c.push.new.self.items ≡ c.loop-part.parts.items ++ c.in_ok-copy.field-0 ∷ [] = search rules in
    (c.loop-part.invariant.0, rw e (copied-more tree_of _ _ _ _ _ _ c.loop-part.invariant.0 c.loop-part.invariant.1 (search rules) c.part-item.is (search rules)))

pub exprs::NamedExprs::copy-loop-field-preserved :
    goal.exprs::NamedExprs::copy-loop-field-preserved
exprs::NamedExprs::copy-loop-field-preserved t c =
    let e : c.push.new.self.items ≡ c.loop-field.fields.items ++ c.in_ok-copy.field-0 ∷ [] = search rules in
    (c.loop-field.invariant.0, rw e (copied-more entry_of _ _ _ _ _ _ c.loop-field.invariant.0 c.loop-field.invariant.1 (search rules) c.field-item.is (search rules)))

pub exprs::NamedExprs::copy-returns : goal.exprs::NamedExprs::copy-returns
exprs::NamedExprs::copy-returns t c =
    ap (λ x. map entry_of x.fields.items) (out-roll-NamedExprs record { fields = c.loop-field.fields }) ∙ copied-all entry_of _ _ _ _ c.loop-field.invariant.0 c.loop-field.invariant.1 (search rules)

pub expr::Expr::copy-returns-in_ok-boxed_copy-in-Binary-2 : goal.expr::Expr::copy-returns-in_ok-boxed_copy-in-Binary-2
expr::Expr::copy-returns-in_ok-boxed_copy-in-Binary-2 t c =
    let first = c.in_ok-boxed_copy-in-Binary.ensures ∙ ap tree_of c.deref-in-Binary.ensures in
    let second = c.in_ok-boxed_copy-in-Binary-2.ensures ∙ ap tree_of c.deref-in-Binary-2.ensures in
    (λ i. tree.Binary c.in-Binary.op (first i) (second i)) ∙ sym (ap tree_of c.in-Binary.is)

pub expr::Expr::copy-returns-in_ok-boxed_copy-in-Cond-3 : goal.expr::Expr::copy-returns-in_ok-boxed_copy-in-Cond-3
expr::Expr::copy-returns-in_ok-boxed_copy-in-Cond-3 t c =
    let first = c.in_ok-boxed_copy-in-Cond.ensures ∙ ap tree_of c.deref-in-Cond.ensures in
    let second = c.in_ok-boxed_copy-in-Cond-2.ensures ∙ ap tree_of c.deref-in-Cond-2.ensures in
    let third = c.in_ok-boxed_copy-in-Cond-3.ensures ∙ ap tree_of c.deref-in-Cond-3.ensures in
    (λ i. tree.Cond (first i) (second i) (third i)) ∙ sym (ap tree_of c.in-Cond.is)

pub expr::Expr::copy-returns-in_ok-boxed_copy-in-Max-2 : goal.expr::Expr::copy-returns-in_ok-boxed_copy-in-Max-2
expr::Expr::copy-returns-in_ok-boxed_copy-in-Max-2 t c =
    let first = c.in_ok-boxed_copy-in-Max.ensures ∙ ap tree_of c.deref-in-Max.ensures in
    let second = c.in_ok-boxed_copy-in-Max-2.ensures ∙ ap tree_of c.deref-in-Max-2.ensures in
    (λ i. tree.Max (first i) (second i)) ∙ sym (ap tree_of c.in-Max.is)

pub expr::Expr::copy-returns-in_ok-boxed_copy-in-Min-2 : goal.expr::Expr::copy-returns-in_ok-boxed_copy-in-Min-2
expr::Expr::copy-returns-in_ok-boxed_copy-in-Min-2 t c =
    let first = c.in_ok-boxed_copy-in-Min.ensures ∙ ap tree_of c.deref-in-Min.ensures in
    let second = c.in_ok-boxed_copy-in-Min-2.ensures ∙ ap tree_of c.deref-in-Min-2.ensures in
    (λ i. tree.Min (first i) (second i)) ∙ sym (ap tree_of c.in-Min.is)

pub expr::Expr::copy-returns-in_ok-boxed_copy-in-Apply-2 : goal.expr::Expr::copy-returns-in_ok-boxed_copy-in-Apply-2
expr::Expr::copy-returns-in_ok-boxed_copy-in-Apply-2 t c =
    let first = c.in_ok-boxed_copy-in-Apply.ensures ∙ ap tree_of c.deref-in-Apply.ensures in
    let second = c.in_ok-boxed_copy-in-Apply-2.ensures ∙ ap tree_of c.deref-in-Apply-2.ensures in
    (λ i. tree.Apply (first i) (second i)) ∙ sym (ap tree_of c.in-Apply.is)
