use Rattle.std.proofs.Common.{◌≡◌, ◌++◌, replicate}
use Rattle.pt_plan.proofs.channels.add_places.Given as goal

abbrev pub invariant-loop : goal.invariant-loop
invariant-loop l = l.list.items ≡ l.fn.list.items ++ replicate l.counter l.child
