use Rattle.std.proofs.Common.{◌≡◌, take}
use Rattle.pt_pn_laws.specs.State.{first_capacities}
use Rattle.pt_pn.proofs.fresh.capacities_of.Given as goal

abbrev pub invariant-loop-tokens : goal.invariant-loop-tokens
invariant-loop-tokens l = l.capacity.items ≡ first_capacities l.least (take l.tokens-index l.first)
