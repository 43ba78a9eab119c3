use Rattle.std.proofs.Common.{◌≡◌, drop}
use Rattle.pt_scopes.specs.Names.{in_chain}
use Rattle.pt_scopes.proofs.scope.in_chain.Given as goal

abbrev pub invariant-loop-number : goal.invariant-loop-number
invariant-loop-number l = in_chain l.frames l.chain l.name ≡ in_chain l.frames (drop l.number-index l.chain) l.name
