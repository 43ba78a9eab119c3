use Rattle.std.proofs.Common.{◌≡◌, ◌+◌, ◌∷◌, ◌≤◌, suc, drop, map, sym, ap, ◌∙◌, arith, add-one, drop-cons}
use Rattle.pt_datatypes.specs.Datatype.{Unknown, Array}
use Rattle.pt_datatypes.specs.Normal.{normal, array_of}
use Rattle.pt_datatypes.specs.Join.{joined, join}
use Rattle.pt_types.specs.Ty.{type_of, written}
use Rattle.pt_datatypes.proofs.Joins.{normal_is_type}
use Rattle.pt_datatypes.proofs.Parts.{array_of-normal}
use Rattle.pt_language.specs.Expr.{tree_of, trees_in, fields_in}
use Rattle.pt_language.specs.Parts.{tree_of_array}
use Rattle.pt_language.specs.Tree.{height, height_of_trees, height_of_named, trees_of, named_of}
use Rattle.pt_language.specs.Answer.{Gives, and_then, answer, parts_answer}
use Rattle.pt_expr_type.specs.TypeEnv.{types_in}
use Rattle.pt_language.proofs.Heights.{height-part, height-field}
use Rattle.pt_expr_type.proofs.Steps.{joined_with, none-joined, join-gives}
use Rattle.pt_expr_type.proofs.tree.+answers.Goals as goal

pub answer-returns-in_ok-array-in-List-clause-ok :
    goal.answer-returns-in_ok-array-in-List-clause-ok
answer-returns-in_ok-array-in-List-clause-ok t c =
    let types = types_in c.args.env.now in
    let element = c.in_ok-parts_answer-in-List.field-0 in
    let array = c.in_ok-array-in-List.field-0 in
    let is : type_of array ≡ array_of (type_of element) = ap normal c.in_ok-array-in-List.ensures ∙ normal_is_type (Array (written element)) ∙ sym (array_of-normal (written element)) in
    ap (λ e. answer types (tree_of e)) c.in-List.is
    ∙ ap (answer types) (tree_of_array c.in-List.parts)
    ∙ ap (λ o. and_then o (λ s. Gives (array_of s))) c.in_ok-parts_answer-in-List.ensures.ok
    ∙ ap Gives (sym is)

pub named_answer-answer-requires : goal.named_answer-answer-requires
named_answer-answer-requires t c =
    let lower : height (tree_of c.field-item.result.value) ≤ height_of_named (named_of (fields_in c.args.fields.now)) = height-field c.as_slice-field-items.result.now (fields_in c.args.fields.now) c.loop-field.field-index c.field-item.result c.as_slice-field-items.ensures c.loop-field-test.true c.field-item.is in
    (omega (arith, lower), tt)

pub parts_answer-loop-part-init : goal.parts_answer-loop-part-init
parts_answer-loop-part-init t c =
    let types = types_in c.args.env.now in
    none-joined types (trees_of (trees_in c.args.parts.now)) ∙ ap (λ ts. joined_with Unknown (parts_answer types (trees_of ts))) (sym c.as_slice-part-items.ensures)

pub parts_answer-answer-requires : goal.parts_answer-answer-requires
parts_answer-answer-requires t c =
    let lower : height (tree_of c.part-item.result) ≤ height_of_trees (trees_of (trees_in c.args.parts.now)) = height-part c.as_slice-part-items.result.now (trees_in c.args.parts.now) c.loop-part.part-index c.part-item.result c.as_slice-part-items.ensures c.loop-part-test.true c.part-item.is in
    (omega (arith, lower), tt)

pub parts_answer-loop-part-preserved : goal.parts_answer-loop-part-preserved
parts_answer-loop-part-preserved t c =
    let types = types_in c.args.env.now in
    let items = c.as_slice-part-items.result.now in
    let index = c.loop-part.part-index in
    let part = c.part-item.result in
    let done = type_of c.loop-part.joined in
    let next = type_of c.in_ok-next.next in
    let left = parts_answer types (trees_of (map tree_of (drop (index + 1) items))) in
    let front : drop index items ≡ part ∷ drop (index + 1) items = rw add-one (drop-cons items index part c.loop-part-test.true ∙ ap (λ e. e ∷ drop (suc index) items) (sym c.part-item.is)) in
    let before = c.loop-part.invariant ∙ ap (λ es. joined_with done (parts_answer types (trees_of (map tree_of es)))) front in
    let is : type_of c.in_ok-joined.joined ≡ join done next = ap normal c.in_ok-joined.ensures ∙ normal_is_type (joined done next) in
    join-gives (parts_answer types (trees_of (trees_in c.args.parts.now))) done (answer types (tree_of part)) left next before c.in_ok-next.ensures.ok ∙ ap (λ d. joined_with d left) (sym is)
