use Rattle.std.proofs.Common.{◌≡◌, ◌++◌, ◌∙◌, append_assoc, arith, rules}
use Rattle.pt_value.specs.Printed.{separator_before}
use Rattle.pt_value.proofs.Extended.{extended, extended-none, extended-more, extended-last, extended-again, extended-kept, extended-after, extended-if}
use Rattle.pt_types.proofs.Texts.{record_body-more, record-last}
use Rattle.pt_types.proofs.+writes.Goals as goal

pub record::RecordTy::write-loop-index-preserved : goal.record::RecordTy::write-loop-index-preserved
record::RecordTy::write-loop-index-preserved t c =
    let e = record_body-more c.deref-field-items.result.now c.loop-index.index c.field-item.result c.loop-index-test.true c.field-item.is in
    let s : c.write_separator.new.out.items ≡ c.loop-index.out.items ++ separator_before c.loop-index.index = search rules in
    (c.loop-index.invariant.0, rw (c.in_ok-write.ensures.ok, s, c.loop-index.invariant.1, e) (simp append_assoc))

pub record::RecordTy::write-returns-in_err-push-clause-kept : goal.record::RecordTy::write-returns-in_err-push-clause-kept
record::RecordTy::write-returns-in_err-push-clause-kept t c = extended-none _ _ c.in_err-push.ensures.items

pub record::RecordTy::write-returns-in_err-write_separator-clause-kept : goal.record::RecordTy::write-returns-in_err-write_separator-clause-kept
record::RecordTy::write-returns-in_err-write_separator-clause-kept t c = extended-more _ _ _ _ _ c.in_ok-push.ensures.items (c.in_err-write_separator.ensures ∙ c.loop-index.invariant.1)

pub record::RecordTy::write-returns-in_err-write-clause-kept : goal.record::RecordTy::write-returns-in_err-write-clause-kept
record::RecordTy::write-returns-in_err-write-clause-kept t c = extended-after _ _ _ _ _ _ _ _ c.in_ok-push.ensures.items c.loop-index.invariant.1 c.in_ok-write_separator.ensures c.write.ensures.kept

pub record::RecordTy::write-returns-in_err-push-2-clause-kept : goal.record::RecordTy::write-returns-in_err-push-2-clause-kept
record::RecordTy::write-returns-in_err-push-2-clause-kept t c = extended-more _ _ _ _ _ c.in_ok-push.ensures.items (c.in_err-push-2.ensures.items ∙ c.loop-index.invariant.1)

pub record::RecordTy::write-returns-clause-kept : goal.record::RecordTy::write-returns-clause-kept
record::RecordTy::write-returns-clause-kept t c = extended-last _ _ _ _ _ _ _ c.in_ok-push.ensures.items c.loop-index.invariant.1 c.in_ok-push-2.ensures.items

pub record::RecordTy::write-returns-clause-ok : goal.record::RecordTy::write-returns-clause-ok
record::RecordTy::write-returns-clause-ok t c = record-last _ _ _ _ c.deref-field-items.result.now _ c.loop-index.index c.loop-index.invariant.0 (omega (arith, c.loop-index-test.false)) c.in_ok-push.ensures.items c.loop-index.invariant.1 c.in_ok-push-2.ensures.items

pub record::FieldTy::write-returns-in_err-extend_from_slice-clause-kept : goal.record::FieldTy::write-returns-in_err-extend_from_slice-clause-kept
record::FieldTy::write-returns-in_err-extend_from_slice-clause-kept t c = extended-none _ _ c.in_err-extend_from_slice.ensures.items

pub record::FieldTy::write-returns-in_err-extend_from_slice-2-clause-kept : goal.record::FieldTy::write-returns-in_err-extend_from_slice-2-clause-kept
record::FieldTy::write-returns-in_err-extend_from_slice-2-clause-kept t c = extended _ _ _ (c.in_err-extend_from_slice-2.ensures.items ∙ c.in_ok-extend_from_slice.ensures.items)

pub record::FieldTy::write-returns-clause-kept : goal.record::FieldTy::write-returns-clause-kept
record::FieldTy::write-returns-clause-kept t c = extended-kept _ _ _ _ _ _ c.in_ok-extend_from_slice.ensures.items c.in_ok-extend_from_slice-2.ensures.items c.write.ensures.kept

pub element::ElementTy::write-returns-in_err-extend_from_slice-clause-kept : goal.element::ElementTy::write-returns-in_err-extend_from_slice-clause-kept
element::ElementTy::write-returns-in_err-extend_from_slice-clause-kept t c = extended-none _ _ c.in_err-extend_from_slice.ensures.items

pub element::ElementTy::write-returns-in_err-write-clause-kept : goal.element::ElementTy::write-returns-in_err-write-clause-kept
element::ElementTy::write-returns-in_err-write-clause-kept t c = extended-again _ _ _ _ c.in_ok-extend_from_slice.ensures.items c.write.ensures.kept

pub element::ElementTy::write-returns-in_err-push-clause-kept : goal.element::ElementTy::write-returns-in_err-push-clause-kept
element::ElementTy::write-returns-in_err-push-clause-kept t c = extended-more _ _ _ _ _ c.in_ok-extend_from_slice.ensures.items (c.in_err-push.ensures.items ∙ c.in_ok-write.ensures.ok)

pub element::ElementTy::write-returns-clause-kept : goal.element::ElementTy::write-returns-clause-kept
element::ElementTy::write-returns-clause-kept t c = extended-last _ _ _ _ _ _ _ c.in_ok-extend_from_slice.ensures.items c.in_ok-write.ensures.ok c.in_ok-push.ensures.items

pub ty::Ty::write-returns-in-Unknown-clause-kept : goal.ty::Ty::write-returns-in-Unknown-clause-kept
ty::Ty::write-returns-in-Unknown-clause-kept t c = extended-if _ _ _ _ c.extend_from_slice.ensures.items

pub ty::Ty::write-returns-in-Int-clause-kept : goal.ty::Ty::write-returns-in-Int-clause-kept
ty::Ty::write-returns-in-Int-clause-kept t c = extended-if _ _ _ _ c.extend_from_slice-in-Int.ensures.items

pub ty::Ty::write-returns-in-Boolean-clause-kept : goal.ty::Ty::write-returns-in-Boolean-clause-kept
ty::Ty::write-returns-in-Boolean-clause-kept t c = extended-if _ _ _ _ c.extend_from_slice-in-Boolean.ensures.items

pub ty::Ty::write-returns-in-Words-clause-kept : goal.ty::Ty::write-returns-in-Words-clause-kept
ty::Ty::write-returns-in-Words-clause-kept t c = extended-if _ _ _ _ c.extend_from_slice-in-Words.ensures.items

pub ty::Ty::write-returns-in-General-clause-kept : goal.ty::Ty::write-returns-in-General-clause-kept
ty::Ty::write-returns-in-General-clause-kept t c = extended-if _ _ _ _ c.extend_from_slice-in-General.ensures.items

pub ty::Ty::write-returns-in-Array-clause-kept : goal.ty::Ty::write-returns-in-Array-clause-kept
ty::Ty::write-returns-in-Array-clause-kept t c = c.write.ensures.kept

pub ty::Ty::write-returns-in-Record-clause-kept : goal.ty::Ty::write-returns-in-Record-clause-kept
ty::Ty::write-returns-in-Record-clause-kept t c = c.write-in-Record.ensures.kept
