use Rattle.std.proofs.Common.{◌≡◌, ℕ, ◌<◌, []}
use Rattle.pt_meaning.specs.Streams.{at}
use Rattle.pt_pn_work.specs.Core.{puts_of_all}
use Rattle.pt_pn.proofs.waiting.is_any_putting.Given as goal

abbrev pub invariant-loop-process : goal.invariant-loop-process
invariant-loop-process l = (i : ℕ) → i < l.process → at (puts_of_all l.processes) i ≡ []
