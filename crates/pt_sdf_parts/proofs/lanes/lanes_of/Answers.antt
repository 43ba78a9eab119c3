use Rattle.std.proofs.Common.{ℕ, ◌+◌, ◌<◌, List, [], length, get_or, Vec, Global, sym, ap, subst, ◌∙◌, arith}
use Rattle.std.proofs.lemmas.List.{length_push, length-map, get_or_default}
use Rattle.std.proofs.Math.ListN.{get_or-map}
use Rattle.pt_sdf_parts.specs.declared.feeds.Feed.{Feed}
use Rattle.pt_sdf_parts.specs.declared.lanes.Lane.{Lane}
use Rattle.pt_sdf_parts.specs.ByNeed.{place_of}
use Rattle.pt_sdf_parts.specs.Feeds.{rows_in}
use Rattle.pt_sdf_parts.specs.Lanes.{IsLane, no_lane}
use Rattle.pt_sdf_parts.proofs.LaneLaws.{lane-at}
use Rattle.pt_sdf_parts.proofs.Lists.{read-at, each-more}
use Rattle.pt_sdf_parts.proofs.lanes.lanes_of.Goals as goal

pub loop-i-preserved : goal.loop-i-preserved
loop-i-preserved c =
    let i = c.loop-i.i in
    let rates = c.args.rates.now in
    let rows : List (List Feed) = rows_in c.args.feeds.now in
    let lane = c.lane_of-lane.result in
    let in_rates : i < length rates = omega (arith, c.loop-i-test.true, c.requires.rates_counted) in
    let in_rows : i < length rows = omega (arith, c.loop-i-test.true, c.requires.feeds_counted, length-map c.args.feeds.now (λ (row : Vec Feed Global). row.items)) in
    let rate = c.as_slice.ensures ∙ read-at rates i c.index-rates-i.result [] in_rates c.index-rates-i.is in
    let row = c.deref.ensures.value ∙ ap (λ (row : Vec Feed Global). row.items) c.index-feeds-i.is ∙ sym (get_or_default rows i [] c.index-feeds-i.result.items in_rows ∙ get_or-map (λ (row : Vec Feed Global). row.items) c.args.feeds.now i c.index-feeds-i.result) in
    let one = lane-at c.args.needs.now _ _ (get_or c.args.places.now i 0) _ _ _ _ lane (c.requires.offsets i c.loop-i-test.true) rate row c.lane_of-lane.ensures in
    let Fits : ℕ → Lane → Type 0 = λ k lane. IsLane c.args.needs.now (place_of c.args.places.now k) (get_or c.args.places.now k 0) (get_or rates k []) (get_or rows k []) lane in
    record {
      counted = ap length c.push_reserved.ensures.items ∙ length_push c.loop-i.lanes.items lane ∙ ap (λ n. n + 1) c.loop-i.invariant.counted;
      room = c.push_reserved.ensures.capacity ∙ c.loop-i.invariant.room;
      each = subst (λ (lanes : List Lane). (k : ℕ) → k < i + 1 → Fits k (get_or lanes k no_lane)) (sym c.push_reserved.ensures.items) (each-more Fits c.loop-i.lanes.items i lane no_lane c.loop-i.invariant.counted c.loop-i.invariant.each one);
    }
