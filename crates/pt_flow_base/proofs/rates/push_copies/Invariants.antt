use Rattle.std.proofs.Common.{◌≡◌, ◌++◌, take}
use Rattle.pt_flow_base.proofs.rates.push_copies.Given as goal

abbrev pub invariant-loop-token : goal.invariant-loop-token
invariant-loop-token l = l.given.items ≡ l.initial.given.items ++ take l.token-index l.tokens
