use Rattle.std.proofs.Common.{◌≡◌, ℕ, ◌<◌, true, Some, map}
use Rattle.std.specs.List.{slice_get}
use Rattle.pt_document.specs.Document.{InputTree}
use Rattle.pt_document.specs.View.{input_view}
use Rattle.pt_scopes.specs.Scopes.{net_view}
use Rattle.pt_job.specs.Inputs.{fits}
use Rattle.pt_job.proofs.lookup.Lookup.check.Given as goal

abbrev pub invariant-loop-number : goal.invariant-loop-number
invariant-loop-number l = (k : ℕ) (i : InputTree) → k < l.number → slice_get (map input_view l.self.net.now.inputs.items) k ≡ Some i → fits (net_view l.self.net.now) k i ≡ true
