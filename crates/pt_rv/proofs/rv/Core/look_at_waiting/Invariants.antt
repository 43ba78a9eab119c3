use Rattle.std.proofs.Common.{◌≡◌}
use Rattle.pt_rv.proofs.rv.Core.look_at_waiting.Given as goal

abbrev pub invariant-loop : goal.invariant-loop
invariant-loop l = l.self ≡ l.fn.self
