use Rattle.std.proofs.Common.{◌≡◌, true, false, sym, ◌∙◌, rules, arith}
use Rattle.std.specs.Prelude.{bytes_eq}
use Rattle.pt_firing.proofs.Named.{channels-found, channels-later, no-channels}
use Rattle.pt_firing.proofs.params.Ports.channels.Goals as goal

pub returns-then-eq : goal.returns-then-eq
returns-then-eq c =
    let e = c.loop-key-item.result in
    let same : bytes_eq e.0 c.args.name.now ≡ true = search rules in
    sym (c.loop-key.invariant.rest ∙ channels-found c.args.name.now c.deref-key-items.result.now c.loop-key.key-index e c.loop-key-test.true c.loop-key-item.is same)

pub loop-key-preserved : goal.loop-key-preserved
loop-key-preserved c =
    let e = c.loop-key-item.result in
    let other : bytes_eq e.0 c.args.name.now ≡ false = search rules in
    record {
      rest = c.loop-key.invariant.rest ∙ channels-later c.args.name.now c.deref-key-items.result.now c.loop-key.key-index e c.loop-key-test.true c.loop-key-item.is other;
      all = c.loop-key.invariant.all;
    }

pub returns : goal.returns
returns c = sym (c.loop-key.invariant.rest ∙ no-channels c.args.name.now c.deref-key-items.result.now c.loop-key.key-index (omega arith))
