use Rattle.std.proofs.Common.{◌≡◌, ◌<◌, ◌-◌, ◌+◌, length, drop, map, refl, sym, ap, ◌∙◌, arith}
use Rattle.pt_types.specs.Ty.{type_of}
use Rattle.pt_types.specs.Entry.{typed_entry}
use Rattle.pt_flow_base.specs.PortTypes.{type_named}
use Rattle.pt_flow_base.specs.TypeTable.{types_in}
use Rattle.pt_flow_base.proofs.TypedPorts.{no-type, table-more}
use Rattle.pt_flow_base.proofs.type_table.TypeTable.of.Goals as goal

pub loop-left-init : goal.loop-left-init
loop-left-init c =
    let es = c.args.entries.now in
    record {
      rest = λ name. c.new-table.ensures name ∙ sym (no-type name es (length es) (omega arith));
      within = omega arith;
    }

pub loop-left-preserved : goal.loop-left-preserved
loop-left-preserved c =
    let es = c.args.entries.now in
    let n = c.loop-left.left - 1 in
    let inv = c.loop-left.invariant in
    let short : n < length es = omega (arith, inv.within, c.loop-left-test.true) in
    let more : c.loop-left.left ≡ n + 1 = omega (arith, c.loop-left-test.true) in
    let e = c.index-entries-left.result in
    record {
      rest = table-more es n e e.0 (type_of e.1) (types_in c.loop-left.table) (types_in c.put_copy.new.self) short c.index-entries-left.is refl refl c.in_ok-put_copy.ensures (λ name. inv.rest name ∙ ap (λ k. type_named name (map typed_entry (drop k es))) more);
      within = omega (arith, inv.within);
    }

pub returns : goal.returns
returns c name =
    let none : c.loop-left.left ≡ 0 = omega (arith, c.loop-left-test.false) in
    c.loop-left.invariant.rest name ∙ ap (λ k. type_named name (map typed_entry (drop k c.args.entries.now))) none
