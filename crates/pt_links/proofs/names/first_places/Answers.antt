use Rattle.std.proofs.Common.{◌≡◌, ◌<◌, ◌-◌, ◌+◌, length, drop, sym, ap, ◌∙◌, arith}
use Rattle.std.proofs.lemmas.Iterator.Adapters.{position_from-zero}
use Rattle.std.specs.List.{position_from}
use Rattle.indexmap.specs.IndexMap.{get}
use Rattle.pt_links.proofs.Firsts.{firsts-more}
use Rattle.pt_links.proofs.names.first_places.Goals as goal

pub loop-left-preserved : goal.loop-left-preserved
loop-left-preserved g c =
    let eq = g.K.PartialEq.eq in
    let keys = c.args.keys.now in
    let n = c.loop-left.left - 1 in
    let inv = c.loop-left.invariant in
    let more : c.loop-left.left ≡ n + 1 = omega (arith, c.loop-left-test.true) in
    let short : n < length keys = omega (arith, inv.within, c.loop-left-test.true) in
    record {
      rest = firsts-more eq g.met.K.Eq.laws (get eq c.loop-left.numbers) (get eq c.insert.new.self) keys n c.index-keys-left.result short c.index-keys-left.is (λ k. inv.rest k ∙ ap (λ m. position_from (eq k) m (drop m keys)) more) c.in_ok-insert.ensures.updates.0;
      within = omega (arith, inv.within);
    }

pub returns : goal.returns
returns g c key =
    let eq = g.K.PartialEq.eq in
    let keys = c.args.keys.now in
    let none : c.loop-left.left ≡ 0 = omega (arith, c.loop-left-test.false) in
    c.loop-left.invariant.rest key ∙ ap (λ m. position_from (eq key) m (drop m keys)) none ∙ sym (position_from-zero (eq key) keys)
