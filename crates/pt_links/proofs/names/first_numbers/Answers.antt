use Rattle.std.proofs.Common.{◌≡◌, ◌<◌, ◌-◌, ◌+◌, length, drop, ap, ◌∙◌, arith}
use Rattle.std.specs.Map.{lookup}
use Rattle.indexmap.specs.IndexMap.{get}
use Rattle.pt_links.proofs.Firsts.{numbers-more}
use Rattle.pt_links.proofs.names.first_numbers.Goals as goal

pub loop-left-preserved : goal.loop-left-preserved
loop-left-preserved g c =
    let eq = g.K.PartialEq.eq in
    let pairs = c.args.pairs.now in
    let n = c.loop-left.left - 1 in
    let inv = c.loop-left.invariant in
    let more : c.loop-left.left ≡ n + 1 = omega (arith, c.loop-left-test.true) in
    let short : n < length pairs = omega (arith, inv.within, c.loop-left-test.true) in
    record {
      rest = numbers-more eq g.met.K.Eq.laws (get eq c.loop-left.numbers) (get eq c.insert.new.self) pairs n c.index-pairs-left.result short c.index-pairs-left.is (λ k. inv.rest k ∙ ap (λ m. lookup (eq k) (drop m pairs)) more) c.in_ok-insert.ensures.updates.0;
      within = omega (arith, inv.within);
    }

pub returns : goal.returns
returns g c key =
    let eq = g.K.PartialEq.eq in
    let none : c.loop-left.left ≡ 0 = omega (arith, c.loop-left-test.false) in
    c.loop-left.invariant.rest key ∙ ap (λ m. lookup (eq key) (drop m c.args.pairs.now)) none
