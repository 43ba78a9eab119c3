use Rattle.std.proofs.Common.{◌≡◌, ◌++◌, drop, filter_map}
use Rattle.pt_machine.specs.Machines.{seen_token}
use Rattle.pt_machines.specs.Sites.{scope_at}
use Rattle.pt_machines.proofs.texts.add_seen.Given as goal

abbrev pub invariant-loop-name : goal.invariant-loop-name
invariant-loop-name l = l.seen.items ++ filter_map (seen_token (scope_at l.site).around) (drop l.name-index l.names) ≡ l.fn.seen.items ++ filter_map (seen_token (scope_at l.site).around) l.names
