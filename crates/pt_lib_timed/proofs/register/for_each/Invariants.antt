use Rattle.std.proofs.Common.{◌≡◌, replicate}
use Rattle.pt_lib_timed.proofs.register.for_each.Given as goal

abbrev pub invariant-loop : goal.invariant-loop
invariant-loop l = l.tokens ≡ replicate l.counter l.token
