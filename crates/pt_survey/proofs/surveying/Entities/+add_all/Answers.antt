use Rattle.std.proofs.Common.{◌≡◌, ℕ, List, length, drop, refl, sym, ap, subst, ◌∙◌, arith}
use Rattle.std.proofs.lemmas.Bool.{eqb-true}
use Rattle.pt_document.specs.declared.job.Entity.{Entity, out-Entity}
use Rattle.pt_document.specs.Document.{to_entities}
use Rattle.pt_document.specs.View.{entities_view}
use Rattle.pt_net.specs.Standing.{with_entities}
use Rattle.pt_survey.specs.Survey.{table_view, round_view}
use Rattle.pt_survey.proofs.Surveys.{with_child, with_last}
use Rattle.pt_survey.proofs.surveying.Entities.+add_all.Goals as goal

pub returns-then-is_empty-clause-table : goal.returns-then-is_empty-clause-table
returns-then-is_empty-clause-table t c =
    let none : length (out-Entity c.args.entity.now).entities.items ≡ 0 = sym (ap (λ (es : List Entity). length es) c.as_slice.ensures.value) ∙ eqb-true (length c.as_slice.result.now) 0 (sym c.is_empty.ensures ∙ c.if-is_empty.true) in
    with_last (table_view c.args.self.now.table.items) (table_view c.add.new.self.table.items) (table_view c.add.new.self.table.items) (round_view c.args.round) (round_view c.in_ok-add.field-0) c.args.path c.args.entity.now (out-Entity c.args.entity.now).entities.items 0 c.in_ok-add.ensures.table c.in_ok-add.ensures.round refl (omega (arith, none)) refl

pub loop-child-preserved : goal.loop-child-preserved
loop-child-preserved t c = (
  c.in_ok-add_all.ensures.counted,
  with_child (table_view c.loop-child.self.table.items) (table_view c.add_all.new.self.table.items) (round_view c.in_ok-inside.inside) c.as_str-here.result.now c.deref-child-items.result.now c.loop-child.child-index c.child-item.result c.as_str.result.now c.in_ok-path_inside.path_inside c.in_ok-path_inside.path_inside _ c.loop-child-test.true c.child-item.is c.as_str.ensures c.in_ok-path_inside.ensures refl c.in_ok-add_all.ensures.table c.loop-child.invariant.1,
)

pub returns-clause-table : goal.returns-clause-table
returns-clause-table t c =
    with_last (table_view c.args.self.now.table.items) (table_view c.loop-child.self.table.items) (table_view c.add-2.new.self.table.items) (round_view c.args.round) (round_view c.in_ok-inside.inside) c.args.path c.args.entity.now c.deref-child-items.result.now c.loop-child.child-index c.in_ok-inside.ensures.table c.in_ok-inside.ensures.round c.deref-child-items.ensures.value c.loop-child-test.false
    (subst (λ (path : List ℕ). with_entities (table_view c.loop-child.self.table.items) (round_view c.in_ok-inside.inside) path (to_entities (entities_view (drop c.loop-child.child-index c.deref-child-items.result.now))) ≡ with_entities (table_view c.add-2.new.self.table.items) (round_view c.in_ok-inside.inside) path (to_entities (entities_view c.deref-child-items.result.now))) (c.as_str-here.ensures ∙ c.in_ok-kept.ensures) c.loop-child.invariant.1)
