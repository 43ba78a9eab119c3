use Rattle.std.proofs.Common.{◌≡◌, ◌++◌, map, drop, filter_map}
use Rattle.std.specs.Prelude.{slice_get}
use Rattle.pt_machines.proofs.children.entities_at.Given as goal

abbrev pub invariant-loop-number : goal.invariant-loop-number
invariant-loop-number l = map (λ e. e.now) l.found.items ++ filter_map (λ k. slice_get l.entities k) (drop l.number-index l.numbers) ≡ filter_map (λ k. slice_get l.entities k) l.numbers
