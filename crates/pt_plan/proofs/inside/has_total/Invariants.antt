use Rattle.std.proofs.Common.{◌≡◌, ◌+◌, take}
use Rattle.pt_meaning.specs.Running.{total}
use Rattle.pt_plan.proofs.inside.has_total.Given as goal

abbrev pub invariant-loop-n : goal.invariant-loop-n
invariant-loop-n l = l.rest + total (take l.n-index l.numbers) ≡ l.sum
