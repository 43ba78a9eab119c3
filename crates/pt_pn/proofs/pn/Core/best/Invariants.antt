use Rattle.std.proofs.Common.{◌≡◌}
use Rattle.pt_pn.proofs.pn.Core.best.Given as goal

abbrev pub invariant-loop : goal.invariant-loop
invariant-loop l = l.self ≡ l.fn.self
