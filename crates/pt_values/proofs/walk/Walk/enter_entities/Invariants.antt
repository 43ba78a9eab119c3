use Rattle.std.proofs.Common.{◌≡◌, ◌-◌, length}
use Rattle.pt_scopes.specs.Scopes.{net_view}
use Rattle.pt_values.specs.Walk.{IsWalk}
use Rattle.pt_values.proofs.walk.Walk.enter_entities.Given as goal

abbrev pub invariant-next : goal.invariant-next
invariant-next l = record {
  walk : IsWalk (net_view l.net) l.self;
  transparent : l.self.transparent ≡ l.fn.self.transparent;
}

abbrev pub decreases-next : goal.decreases-next
decreases-next l = length l.net.entities.items - length l.self.entities.items
