use Rattle.std.proofs.Common.{◌≡◌}
use Rattle.pt_rv.proofs.rv.Core.meet_next.Given as goal

abbrev pub invariant-loop : goal.invariant-loop
invariant-loop l = l.self ≡ l.fn.self
