use Rattle.std.proofs.Common.{◌≡◌, ℕ, ◌<◌, length, get_or, ◌∙◌, arith, length-set, true, false}
use Rattle.pt_sdf_parts.specs.declared.feeds.Feed.{Feed}
use Rattle.pt_sdf_parts.specs.Feeds.{no_feed}
use Rattle.pt_sdf_parts.proofs.MarkLaws.{marked-targets, marked-sighted, marked-once}
use Rattle.pt_sdf_parts.proofs.feeds.mark.Goals as goal

pub loop-k-preserved : goal.loop-k-preserved
loop-k-preserved c =
    let k : ℕ = c.loop-k.k in
    let f : Feed = c.index-feed.result.now in
    let h : k < length c.loop-k.row.items = omega (arith, c.loop-k-test.true, c.len-k-end.ensures, c.loop-k.invariant.counted, c.loop-k.row.ok.0, c.args.row.now.ok.0) in
    let sighted : (j : ℕ) → j < k → (get_or c.loop-k.row.items j no_feed).port < length c.loop-k.seen.items → get_or c.loop-k.seen.items (get_or c.loop-k.row.items j no_feed).port false ≡ true = λ j l b. c.loop-k.invariant.sighted j l (omega (arith, b, c.loop-k.invariant.ports)) in
    record {
      counted = length-set c.loop-k.row.items k _ ∙ c.loop-k.invariant.counted;
      targets = marked-targets c.loop-k.row.items k f c.is_first.result h c.index-feed.ensures ∙ c.loop-k.invariant.targets;
      ports = c.is_first.ensures.length ∙ c.loop-k.invariant.ports;
      sighted = λ j l b. marked-sighted c.loop-k.row.items k f c.is_first.result h c.index-feed.ensures c.loop-k.seen.items c.is_first.new.seen.items c.is_first.ensures.seen c.is_first.ensures.keeps c.is_first.ensures.first sighted j l (omega (arith, b, c.loop-k.invariant.ports));
      once = marked-once c.loop-k.row.items k f c.is_first.result h c.index-feed.ensures c.loop-k.seen.items c.is_first.new.seen.items c.is_first.ensures.seen c.is_first.ensures.keeps c.is_first.ensures.first sighted c.loop-k.invariant.once;
    }
