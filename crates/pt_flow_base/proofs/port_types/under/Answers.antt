use Rattle.std.proofs.Common.{◌≡◌, true, false, sym, ◌∙◌, rules, arith}
use Rattle.std.specs.Prelude.{bytes_eq}
use Rattle.pt_flow_base.proofs.TypedPorts.{type-found, type-later, no-type}
use Rattle.pt_flow_base.proofs.port_types.under.Goals as goal

pub returns-then-eq : goal.returns-then-eq
returns-then-eq c =
    let e = c.loop-key-item.result in
    let same : bytes_eq e.0 c.args.name.now ≡ true = search rules in
    sym (c.loop-key.invariant ∙ type-found c.args.name.now c.args.entries.now c.loop-key.key-index e c.loop-key-test.true c.loop-key-item.is same)

pub loop-key-preserved : goal.loop-key-preserved
loop-key-preserved c =
    let e = c.loop-key-item.result in
    let other : bytes_eq e.0 c.args.name.now ≡ false = search rules in
    c.loop-key.invariant ∙ type-later c.args.name.now c.args.entries.now c.loop-key.key-index e c.loop-key-test.true c.loop-key-item.is other

pub returns : goal.returns
returns c = sym (c.loop-key.invariant ∙ no-type c.args.name.now c.args.entries.now c.loop-key.key-index (omega arith))
