use Rattle.std.proofs.Common.{◌≡◌, drop}
use Rattle.pt_start.specs.Started.{given_tree}
use Rattle.pt_start.proofs.given.given_tree.Given as goal

abbrev pub invariant-loop-value : goal.invariant-loop-value
invariant-loop-value l = given_tree (drop l.value-index l.values) ≡ given_tree l.values
