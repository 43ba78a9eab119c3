use Rattle.std.proofs.Common.{◌≡◌, map}
use Rattle.pt_value.specs.declared.token.Token.TheVariants.{Int}
use Rattle.pt_flow_base.specs.Rates.{repeated}
use Rattle.pt_flow_streams.proofs.repeat.put_repeated.Given as goal

abbrev pub invariant-loop : goal.invariant-loop
invariant-loop l = map Int l.given.items ≡ repeated l.counter (map Int l.block)
