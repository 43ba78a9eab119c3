use Rattle.std.proofs.Common.{◌≡◌, ◌++◌, ◌∙◌, append_assoc, arith, rules}
use Rattle.pt_value.specs.Printed.{separator_before}
use Rattle.pt_value.proofs.Extended.{extended, extended-none, extended-more, extended-last, extended-kept, extended-after, extended-if}
use Rattle.pt_value.proofs.Texts.{array_body-more, record_body-more, array-last, record-last}
use Rattle.pt_value.proofs.+writes.Goals as goal

pub fields::Fields::write-loop-index-preserved : goal.fields::Fields::write-loop-index-preserved
fields::Fields::write-loop-index-preserved t c =
    let e = record_body-more c.deref-field-items.result.now c.loop-index.index c.field-item.result c.loop-index-test.true c.field-item.is in
    let s : c.write_separator.new.out.items ≡ c.loop-index.out.items ++ separator_before c.loop-index.index = search rules in
    (c.loop-index.invariant.0, rw (c.in_ok-write.ensures.ok, s, c.loop-index.invariant.1, e) (simp append_assoc))

pub items::Items::write-loop-index-preserved : goal.items::Items::write-loop-index-preserved
items::Items::write-loop-index-preserved t c =
    let e = array_body-more c.deref-token-items.result.now c.loop-index.index c.token-item.result c.loop-index-test.true c.token-item.is in
    let s : c.write_separator.new.out.items ≡ c.loop-index.out.items ++ separator_before c.loop-index.index = search rules in
    (c.loop-index.invariant.0, rw (c.in_ok-write.ensures.ok, s, c.loop-index.invariant.1, e) (simp append_assoc))

pub items::Items::write-returns-in_err-push-clause-kept : goal.items::Items::write-returns-in_err-push-clause-kept
items::Items::write-returns-in_err-push-clause-kept t c = extended-none _ _ c.in_err-push.ensures.items

pub items::Items::write-returns-in_err-write_separator-clause-kept : goal.items::Items::write-returns-in_err-write_separator-clause-kept
items::Items::write-returns-in_err-write_separator-clause-kept t c = extended-more _ _ _ _ _ c.in_ok-push.ensures.items (c.in_err-write_separator.ensures ∙ c.loop-index.invariant.1)

pub items::Items::write-returns-in_err-write-clause-kept : goal.items::Items::write-returns-in_err-write-clause-kept
items::Items::write-returns-in_err-write-clause-kept t c = extended-after _ _ _ _ _ _ _ _ c.in_ok-push.ensures.items c.loop-index.invariant.1 c.in_ok-write_separator.ensures c.write.ensures.kept

pub items::Items::write-returns-in_err-push-2-clause-kept : goal.items::Items::write-returns-in_err-push-2-clause-kept
items::Items::write-returns-in_err-push-2-clause-kept t c = extended-more _ _ _ _ _ c.in_ok-push.ensures.items (c.in_err-push-2.ensures.items ∙ c.loop-index.invariant.1)

pub items::Items::write-returns-clause-kept : goal.items::Items::write-returns-clause-kept
items::Items::write-returns-clause-kept t c = extended-last _ _ _ _ _ _ _ c.in_ok-push.ensures.items c.loop-index.invariant.1 c.in_ok-push-2.ensures.items

pub items::Items::write-returns-clause-ok : goal.items::Items::write-returns-clause-ok
items::Items::write-returns-clause-ok t c = array-last _ _ _ _ c.deref-token-items.result.now _ c.loop-index.index c.loop-index.invariant.0 (omega (arith, c.loop-index-test.false)) c.in_ok-push.ensures.items c.loop-index.invariant.1 c.in_ok-push-2.ensures.items

pub fields::Fields::write-returns-in_err-push-clause-kept : goal.fields::Fields::write-returns-in_err-push-clause-kept
fields::Fields::write-returns-in_err-push-clause-kept t c = extended-none _ _ c.in_err-push.ensures.items

pub fields::Fields::write-returns-in_err-write_separator-clause-kept : goal.fields::Fields::write-returns-in_err-write_separator-clause-kept
fields::Fields::write-returns-in_err-write_separator-clause-kept t c = extended-more _ _ _ _ _ c.in_ok-push.ensures.items (c.in_err-write_separator.ensures ∙ c.loop-index.invariant.1)

pub fields::Fields::write-returns-in_err-write-clause-kept : goal.fields::Fields::write-returns-in_err-write-clause-kept
fields::Fields::write-returns-in_err-write-clause-kept t c = extended-after _ _ _ _ _ _ _ _ c.in_ok-push.ensures.items c.loop-index.invariant.1 c.in_ok-write_separator.ensures c.write.ensures.kept

pub fields::Fields::write-returns-in_err-push-2-clause-kept : goal.fields::Fields::write-returns-in_err-push-2-clause-kept
fields::Fields::write-returns-in_err-push-2-clause-kept t c = extended-more _ _ _ _ _ c.in_ok-push.ensures.items (c.in_err-push-2.ensures.items ∙ c.loop-index.invariant.1)

pub fields::Fields::write-returns-clause-kept : goal.fields::Fields::write-returns-clause-kept
fields::Fields::write-returns-clause-kept t c = extended-last _ _ _ _ _ _ _ c.in_ok-push.ensures.items c.loop-index.invariant.1 c.in_ok-push-2.ensures.items

pub fields::Fields::write-returns-clause-ok : goal.fields::Fields::write-returns-clause-ok
fields::Fields::write-returns-clause-ok t c = record-last _ _ _ _ c.deref-field-items.result.now _ c.loop-index.index c.loop-index.invariant.0 (omega (arith, c.loop-index-test.false)) c.in_ok-push.ensures.items c.loop-index.invariant.1 c.in_ok-push-2.ensures.items

pub token::Token::write-returns-in-Int-clause-kept : goal.token::Token::write-returns-in-Int-clause-kept
token::Token::write-returns-in-Int-clause-kept t c = extended-if _ _ _ _ c.write_int.ensures

pub token::Token::write-returns-in-Bool-clause-kept : goal.token::Token::write-returns-in-Bool-clause-kept
token::Token::write-returns-in-Bool-clause-kept t c = extended-if _ _ _ _ c.write_bool.ensures

pub token::Token::write-returns-in-Text-clause-kept : goal.token::Token::write-returns-in-Text-clause-kept
token::Token::write-returns-in-Text-clause-kept t c = c.write_quoted.ensures.kept

pub token::Token::write-returns-in-Array-clause-kept : goal.token::Token::write-returns-in-Array-clause-kept
token::Token::write-returns-in-Array-clause-kept t c = c.write.ensures.kept

pub token::Token::write-returns-in-Record-clause-kept : goal.token::Token::write-returns-in-Record-clause-kept
token::Token::write-returns-in-Record-clause-kept t c = c.write-in-Record.ensures.kept

pub fields::Field::write-returns-in_err-extend_from_slice-clause-kept : goal.fields::Field::write-returns-in_err-extend_from_slice-clause-kept
fields::Field::write-returns-in_err-extend_from_slice-clause-kept t c = extended-none _ _ c.in_err-extend_from_slice.ensures.items

pub fields::Field::write-returns-in_err-extend_from_slice-2-clause-kept : goal.fields::Field::write-returns-in_err-extend_from_slice-2-clause-kept
fields::Field::write-returns-in_err-extend_from_slice-2-clause-kept t c = extended _ _ _ (c.in_err-extend_from_slice-2.ensures.items ∙ c.in_ok-extend_from_slice.ensures.items)

pub fields::Field::write-returns-clause-kept : goal.fields::Field::write-returns-clause-kept
fields::Field::write-returns-clause-kept t c = extended-kept _ _ _ _ _ _ c.in_ok-extend_from_slice.ensures.items c.in_ok-extend_from_slice-2.ensures.items c.write.ensures.kept
