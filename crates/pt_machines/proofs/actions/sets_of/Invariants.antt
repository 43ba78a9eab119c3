use Rattle.std.proofs.Common.{◌≡◌, ◌++◌, map, take}
use Rattle.std.specs.List.{AllZip}
use Rattle.pt_chart.specs.Views.{action_view}
use Rattle.pt_machine.specs.Machines.{IsSet, action_tree, seen_tokens}
use Rattle.pt_machines.specs.Sites.{entity_at, scope_at}
use Rattle.pt_machines.proofs.actions.sets_of.Given as goal

abbrev pub invariant-loop-set : goal.invariant-loop-set
invariant-loop-set l = record {
  read : AllZip (IsSet (scope_at l.site) (entity_at l.site)) (take l.set-index l.given) (map action_view l.actions.items);
  seen : l.seen.items ≡ l.fn.seen.items ++ seen_tokens (scope_at l.site).around (map action_tree (map action_view l.actions.items));
}
