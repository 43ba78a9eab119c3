use Rattle.std.proofs.Common.{◌≡◌, ◌++◌, string_bytes, append_assoc, codes, rules, arith}
use Rattle.pt_value.specs.Printed.{separator_before}
use Rattle.pt_expr_print.proofs.Parts.{array_body-more, record_body-more}
use Rattle.pt_expr_print.proofs.Heights.{height-part, height-field}
use Rattle.pt_expr_print.proofs.printed.+writes.Goals as goal

pub write_parts-write-requires : goal.write_parts-write-requires
write_parts-write-requires t c =
    let h = height-part c.as_slice-part-items.result.now _ c.loop-index.index c.part-item.result c.loop-index.invariant.0 c.loop-index-test.true c.part-item.is in
    (omega (arith, h), tt)

pub write_fields-write-requires : goal.write_fields-write-requires
write_fields-write-requires t c =
    let h = height-field c.as_slice-field-items.result.now _ c.loop-index.index c.field-item.result c.loop-index.invariant.0 c.loop-index-test.true c.field-item.is in
    (omega (arith, h), tt)

pub write_parts-loop-index-preserved : goal.write_parts-loop-index-preserved
write_parts-loop-index-preserved t c =
    let e = array_body-more c.as_slice-part-items.result.now c.loop-index.index c.part-item.result c.loop-index-test.true c.part-item.is in
    let s : string_bytes c.push_str.new.self ≡ string_bytes c.loop-index.out ++ separator_before c.loop-index.index = search rules in
    (c.loop-index.invariant.0, rw (c.in_ok-write.ensures, s, c.loop-index.invariant.1, e) (simp append_assoc))

pub write_fields-loop-index-preserved : goal.write_fields-loop-index-preserved
write_fields-loop-index-preserved t c =
    let e = record_body-more c.as_slice-field-items.result.now c.loop-index.index c.field-item.result c.loop-index-test.true c.field-item.is in
    let s : string_bytes c.push_str.new.self ≡ string_bytes c.loop-index.out ++ separator_before c.loop-index.index = search rules in
    let n : string_bytes c.push_str-in-loop-index.new.self ≡ string_bytes c.push_str.new.self ++ c.field-item.result.name = search rules in
    let q : string_bytes c.push_str-in-loop-index-2.new.self ≡ string_bytes c.push_str-in-loop-index.new.self ++ codes " = " = search rules in
    (c.loop-index.invariant.0, rw (c.in_ok-write.ensures, q, n, s, c.loop-index.invariant.1, e) (simp append_assoc))
