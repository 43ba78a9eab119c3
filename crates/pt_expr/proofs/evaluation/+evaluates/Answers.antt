use Rattle.std.proofs.Common.{◌≡◌, ◌+◌, ◌≤◌, suc, ◌∷◌, drop, map, sym, ap, ◌∙◌, arith, add-one, drop-cons}
use Rattle.pt_value.specs.Token.{value_of, entry_of_pair}
use Rattle.pt_expr.specs.Env.{scope_of}
use Rattle.pt_language.specs.Expr.{tree_of, entry_of, trees_in, fields_in}
use Rattle.pt_language.specs.Outcome.{Gives, and_then}
use Rattle.pt_language.specs.Parts.{tree_of_array, tree_of_record}
use Rattle.pt_language.specs.Tree.{height, height_of_trees, height_of_named, trees_of, named_of}
use Rattle.pt_language.specs.Meaning as meaning
use Rattle.pt_language.specs.Meaning.{value, values, named_values, arrayed, recorded}
use Rattle.pt_language.proofs.Heights.{height-part, height-field}
use Rattle.pt_expr.proofs.Steps.{behind, next-right, strict}
use Rattle.pt_expr.proofs.evaluation.+evaluates.Goals as goal

pub eval-part_values-requires : goal.eval-part_values-requires
eval-part_values-requires t c =
    let seen = ap tree_of c.in-List.is ∙ tree_of_array c.in-List.parts in
    let lower : height (tree_of c.args.expr.now) ≡ suc (height_of_trees (trees_of (trees_in c.in-List.parts))) = ap height seen in
    (omega (arith, lower), λ wrong. c.requires.right (ap (value (scope_of c.args.env.now)) seen ∙ ap (λ o. and_then o arrayed) wrong))

pub eval-field_values-requires : goal.eval-field_values-requires
eval-field_values-requires t c =
    let seen = ap tree_of c.in-Record.is ∙ tree_of_record c.in-Record.fields in
    let lower : height (tree_of c.args.expr.now) ≡ suc (height_of_named (named_of (fields_in c.in-Record.fields))) = ap height seen in
    (omega (arith, lower), λ wrong. c.requires.right (ap (value (scope_of c.args.env.now)) seen ∙ ap (λ o. and_then o recorded) wrong))

pub eval-greatest-requires : goal.eval-greatest-requires
eval-greatest-requires t c =
    let first = ap (λ e. value (scope_of c.args.env.now) (tree_of e)) (sym c.deref-in-Max-2.ensures) ∙ c.in_ok-eval-in-Max.ensures.ok ∙ ap Gives (sym c.in_ok-a-in-Max.ensures.ok.0) in
    let later = ap (λ e. value (scope_of c.args.env.now) (tree_of e)) (sym c.deref-in-Max.ensures) ∙ c.in_ok-a-in-Max.ensures.ok.1 in
    let seen = ap (λ e. value (scope_of c.args.env.now) (tree_of e)) c.in-Max.is ∙ strict _ _ meaning.greatest _ _ first later in
    record { right = λ wrong. c.requires.right (seen ∙ wrong) }

pub eval-returns-in_ok-a-in-Max-clause-ok : goal.eval-returns-in_ok-a-in-Max-clause-ok
eval-returns-in_ok-a-in-Max-clause-ok t c =
    let first = ap (λ e. value (scope_of c.args.env.now) (tree_of e)) (sym c.deref-in-Max-2.ensures) ∙ c.in_ok-eval-in-Max.ensures.ok ∙ ap Gives (sym c.in_ok-a-in-Max.ensures.ok.0) in
    let later = ap (λ e. value (scope_of c.args.env.now) (tree_of e)) (sym c.deref-in-Max.ensures) ∙ c.in_ok-a-in-Max.ensures.ok.1 in
    let seen = ap (λ e. value (scope_of c.args.env.now) (tree_of e)) c.in-Max.is ∙ strict _ _ meaning.greatest _ _ first later in
    seen ∙ c.greatest.ensures

pub eval-least-requires : goal.eval-least-requires
eval-least-requires t c =
    let first = ap (λ e. value (scope_of c.args.env.now) (tree_of e)) (sym c.deref-in-Min-2.ensures) ∙ c.in_ok-eval-in-Min.ensures.ok ∙ ap Gives (sym c.in_ok-a-in-Min.ensures.ok.0) in
    let later = ap (λ e. value (scope_of c.args.env.now) (tree_of e)) (sym c.deref-in-Min.ensures) ∙ c.in_ok-a-in-Min.ensures.ok.1 in
    let seen = ap (λ e. value (scope_of c.args.env.now) (tree_of e)) c.in-Min.is ∙ strict _ _ meaning.least _ _ first later in
    record { right = λ wrong. c.requires.right (seen ∙ wrong) }

pub eval-returns-in_ok-a-in-Min-clause-ok : goal.eval-returns-in_ok-a-in-Min-clause-ok
eval-returns-in_ok-a-in-Min-clause-ok t c =
    let first = ap (λ e. value (scope_of c.args.env.now) (tree_of e)) (sym c.deref-in-Min-2.ensures) ∙ c.in_ok-eval-in-Min.ensures.ok ∙ ap Gives (sym c.in_ok-a-in-Min.ensures.ok.0) in
    let later = ap (λ e. value (scope_of c.args.env.now) (tree_of e)) (sym c.deref-in-Min.ensures) ∙ c.in_ok-a-in-Min.ensures.ok.1 in
    let seen = ap (λ e. value (scope_of c.args.env.now) (tree_of e)) c.in-Min.is ∙ strict _ _ meaning.least _ _ first later in
    seen ∙ c.least.ensures

pub eval-element-requires : goal.eval-element-requires
eval-element-requires t c =
    let first = ap (λ e. value (scope_of c.args.env.now) (tree_of e)) (sym c.deref-in-Apply-2.ensures) ∙ c.in_ok-eval-in-Apply.ensures.ok ∙ ap Gives (sym c.in_ok-array-in-Apply.ensures.ok.0) in
    let later = ap (λ e. value (scope_of c.args.env.now) (tree_of e)) (sym c.deref-in-Apply.ensures) ∙ c.in_ok-array-in-Apply.ensures.ok.1 in
    let seen = ap (λ e. value (scope_of c.args.env.now) (tree_of e)) c.in-Apply.is ∙ strict _ _ meaning.element _ _ first later in
    record { right = λ wrong. c.requires.right (seen ∙ wrong) }

pub eval-returns-in_ok-array-in-Apply-clause-ok : goal.eval-returns-in_ok-array-in-Apply-clause-ok
eval-returns-in_ok-array-in-Apply-clause-ok t c =
    let first = ap (λ e. value (scope_of c.args.env.now) (tree_of e)) (sym c.deref-in-Apply-2.ensures) ∙ c.in_ok-eval-in-Apply.ensures.ok ∙ ap Gives (sym c.in_ok-array-in-Apply.ensures.ok.0) in
    let later = ap (λ e. value (scope_of c.args.env.now) (tree_of e)) (sym c.deref-in-Apply.ensures) ∙ c.in_ok-array-in-Apply.ensures.ok.1 in
    let seen = ap (λ e. value (scope_of c.args.env.now) (tree_of e)) c.in-Apply.is ∙ strict _ _ meaning.element _ _ first later in
    rw seen c.element.ensures.ok

pub part_values-eval-requires : goal.part_values-eval-requires
part_values-eval-requires t c =
    let scope = scope_of c.args.env.now in
    let items = c.as_slice-part-items.result.now in
    let index = c.loop-part.part-index in
    let part = c.part-item.result in
    let done = map value_of c.loop-part.tokens.items in
    let lower : height (tree_of part) ≤ height_of_trees (trees_of (trees_in c.args.parts.now)) = height-part items (trees_in c.args.parts.now) index part c.as_slice-part-items.ensures c.loop-part-test.true c.part-item.is in
    let front : drop index items ≡ part ∷ drop (index + 1) items = rw add-one (drop-cons items index part c.loop-part-test.true ∙ ap (λ e. e ∷ drop (suc index) items) (sym c.part-item.is)) in
    let before = c.loop-part.invariant ∙ ap (λ es. behind done (values scope (trees_of (map tree_of es)))) front in
    (omega (arith, lower), next-right (values scope (trees_of (trees_in c.args.parts.now))) (λ v. v) done (value scope (tree_of part)) (values scope (trees_of (map tree_of (drop (index + 1) items)))) before c.requires.right)

pub field_values-eval-requires : goal.field_values-eval-requires
field_values-eval-requires t c =
    let scope = scope_of c.args.env.now in
    let items = c.as_slice-field-items.result.now in
    let index = c.loop-field.field-index in
    let field = c.field-item.result in
    let done = map entry_of_pair c.loop-field.pairs.items in
    let lower : height (tree_of field.value) ≤ height_of_named (named_of (fields_in c.args.fields.now)) = height-field items (fields_in c.args.fields.now) index field c.as_slice-field-items.ensures c.loop-field-test.true c.field-item.is in
    let front : drop index items ≡ field ∷ drop (index + 1) items = rw add-one (drop-cons items index field c.loop-field-test.true ∙ ap (λ f. f ∷ drop (suc index) items) (sym c.field-item.is)) in
    let before = c.loop-field.invariant ∙ ap (λ fs. behind done (named_values scope (named_of (map entry_of fs)))) front in
    (omega (arith, lower), next-right (named_values scope (named_of (fields_in c.args.fields.now))) (λ v. (field.name, v)) done (value scope (tree_of field.value)) (named_values scope (named_of (map entry_of (drop (index + 1) items)))) before c.requires.right)
