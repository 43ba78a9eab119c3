use Rattle.std.proofs.Common.{◌≡◌, ℕ, ◌<◌, Some}
use Rattle.std.specs.List.{slice_get}
use Rattle.pt_document.specs.declared.code.Code.{Code}
use Rattle.pt_net.specs.Net.{NetEntityTree}
use Rattle.pt_scopes.specs.Scopes.{net_view}
use Rattle.pt_start.specs.Misplaced.{IsRefusedThere}
use Rattle.pt_start.proofs.refusals.misplaced.Given as goal

abbrev pub invariant-loop-number : goal.invariant-loop-number
invariant-loop-number l = (k : ℕ) (e : NetEntityTree) (cause : Code) → k < l.number → slice_get (net_view l.net).entities k ≡ Some e → IsRefusedThere (net_view l.net) l.values k e cause → ⊥
