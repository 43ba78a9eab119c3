use Rattle.std.proofs.Common.{◌+◌, drop, map, option_map, sym, ap, ◌∙◌}
use Rattle.pt_types.specs.Entry.{typed_entry}
use Rattle.pt_flow_base.specs.PortTypes.{typed_names}
use Rattle.pt_flow_base.specs.TypeTable.{types_in}
use Rattle.pt_flow_base.proofs.TypedPorts.{behind, found-entry, no-entry, typed-more, untyped, typed-all}
use Rattle.pt_flow_base.proofs.port_types.typed_by.Goals as goal

pub loop-name-preserved : goal.loop-name-preserved
loop-name-preserved c types at =
    let n = c.loop-name.name-index in
    let e = c.name-item.result in
    let entry = c.in-Some.entry in
    let found = found-entry e (types_in c.args.table.now e) (typed_entry entry) (sym (ap (option_map typed_entry) c.in-Some.is) ∙ c.in_ok-entry.ensures) in
    ap (λ ts. behind (map typed_entry ts) (typed_names types (drop (n + 1) c.args.names.now))) c.in_ok-push.ensures.items
    ∙ typed-more types c.args.names.now n e c.loop-name.types.items entry c.loop-name-test.true c.name-item.is found.0 (found.1 ∙ at e)
    ∙ c.loop-name.invariant types at

pub returns-in_default : goal.returns-in_default
returns-in_default c types at =
    let e = c.name-item.result in
    let none = no-entry e (types_in c.args.table.now e) (sym (ap (option_map typed_entry) c.in_default.is) ∙ c.in_ok-entry.ensures) in
    sym (untyped types c.args.names.now c.loop-name.name-index e (map typed_entry c.loop-name.types.items) c.loop-name-test.true c.name-item.is (none ∙ at e)) ∙ c.loop-name.invariant types at

pub returns : goal.returns
returns c types at =
    typed-all types c.args.names.now c.loop-name.name-index (map typed_entry c.loop-name.types.items) c.loop-name-test.false ∙ c.loop-name.invariant types at
