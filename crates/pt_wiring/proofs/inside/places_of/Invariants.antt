use Rattle.std.proofs.Common.{◌≡◌, ℕ, ◌<◌, [], length, get_or}
use Rattle.pt_wiring.specs.Channels.{counts_at}
use Rattle.pt_wiring.proofs.inside.places_of.Given as goal

abbrev pub invariant-loop-children : goal.invariant-loop-children
invariant-loop-children l = record {
  counted : length l.places.items ≡ l.children-index;
  each : (c : ℕ) → c < l.children-index → get_or l.places.items c [] ≡ counts_at l.arrivals (get_or l.lists c []);
}
