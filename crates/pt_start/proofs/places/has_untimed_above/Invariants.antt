use Rattle.pt_scopes.specs.Scopes.{net_view}
use Rattle.pt_start.specs.Places.{HasUntimedAbove}
use Rattle.pt_start.specs.Seen.{number_or_none}
use Rattle.pt_start.proofs.places.has_untimed_above.Given as goal

abbrev pub invariant-outward : goal.invariant-outward
invariant-outward l = record {
  inward : HasUntimedAbove (net_view l.net) l.round → HasUntimedAbove (net_view l.net) l.fn.composite;
  outward : HasUntimedAbove (net_view l.net) l.fn.composite → HasUntimedAbove (net_view l.net) l.round;
}

abbrev pub decreases-outward : goal.decreases-outward
decreases-outward l = number_or_none l.round
