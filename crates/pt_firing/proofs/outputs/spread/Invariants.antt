use Rattle.std.proofs.Common.{◌≡◌, vec_capacity}
use Rattle.pt_firing.specs.Outputs.{on_first}
use Rattle.pt_firing.proofs.outputs.spread.Given as goal

abbrev pub invariant-loop : goal.invariant-loop
invariant-loop l = (l.lists.items ≡ on_first l.counter l.fn.first) × (vec_capacity l.lists ≡ vec_capacity l.fn.lists)
