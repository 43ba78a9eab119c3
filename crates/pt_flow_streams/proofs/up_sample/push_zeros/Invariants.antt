use Rattle.std.proofs.Common.{◌≡◌, ◌++◌}
use Rattle.pt_flow_streams.specs.UpSample.{zeros}
use Rattle.pt_flow_streams.proofs.up_sample.push_zeros.Given as goal

abbrev pub invariant-loop : goal.invariant-loop
invariant-loop l = l.tokens.items ≡ l.initial.tokens.items ++ zeros l.counter
