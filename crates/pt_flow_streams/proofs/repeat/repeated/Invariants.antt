use Rattle.std.proofs.Common.{◌≡◌}
use Rattle.pt_flow_base.specs.Rates.{repeated}
use Rattle.pt_flow_streams.proofs.repeat.repeated.Given as goal

abbrev pub invariant-loop : goal.invariant-loop
invariant-loop l = l.given.items ≡ repeated l.counter l.block
