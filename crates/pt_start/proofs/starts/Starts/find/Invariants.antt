use Rattle.std.proofs.Common.{◌≡◌}
use Rattle.pt_scopes.specs.Scopes.{Bindings, bound, net_view}
use Rattle.pt_start.specs.Nested.{AreRound}
use Rattle.pt_start.specs.Seen.{SeesIn, depth}
use Rattle.pt_start.proofs.starts.Starts.find.Given as goal

abbrev pub invariant-outward : goal.invariant-outward
invariant-outward l = record {
  round : AreRound (net_view l.self.net.now) l.round.within l.round.parent;
  onward : (seen : Bindings) → SeesIn (net_view l.self.net.now) l.fn.here seen → (inner : Bindings) × SeesIn (net_view l.self.net.now) l.round inner × (bound inner l.name ≡ bound seen l.name);
}

abbrev pub decreases-outward : goal.decreases-outward
decreases-outward l = depth (net_view l.self.net.now) l.round
