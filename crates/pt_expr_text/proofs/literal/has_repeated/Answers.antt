use Rattle.std.proofs.Common.{◌≡◌, ◌∙◌, List, ℕ, ◌∷◌, true, false, sym, subst}
use Rattle.pt_language.specs.Expr.{entry_of}
use Rattle.pt_language.specs.Descent.{is_among}
use Rattle.pt_expr_text.proofs.Repeats.{more_names, is_new, is_old, new_name, old_name}
use Rattle.pt_expr_text.proofs.literal.has_repeated.Goals as goal

pub returns-then-not-branch : goal.returns-then-not-branch
returns-then-not-branch c =
    let seen = c.loop-field.invariant.0 in
    let P : List ℕ → Type 0 = λ n. is_among seen n ≡ true in
    let old = is_old _ (is_among seen c.as_str.result.now) (sym c.if-not-branch.true ∙ c.in_ok-insert_name.ensures.added) (c.loop-field.invariant.1 c.as_str.result) in
    old_name entry_of c.args.fields.now c.loop-field.field-index c.field-item.result seen _ c.loop-field-test.true c.field-item.is (subst P c.as_str.ensures old) c.loop-field.invariant.2

pub loop-field-preserved : goal.loop-field-preserved
loop-field-preserved c =
    let seen = c.loop-field.invariant.0 in
    let P : List ℕ → Type 0 = λ n. is_among seen n ≡ false in
    let new = is_new _ (is_among seen c.as_str.result.now) (sym c.if-not-branch.false ∙ c.in_ok-insert_name.ensures.added) (c.loop-field.invariant.1 c.as_str.result) in (
      c.field-item.result.name ∷ seen,
      λ q. more_names seen c.as_str.result.now c.field-item.result.name q.now _ _ c.as_str.ensures (c.in_ok-insert_name.ensures.updates q) (c.loop-field.invariant.1 q),
      new_name entry_of c.args.fields.now c.loop-field.field-index c.field-item.result seen _ c.loop-field-test.true c.field-item.is (subst P c.as_str.ensures new) c.loop-field.invariant.2,
    )
