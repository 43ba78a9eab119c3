use Rattle.std.proofs.Common.{map}
use Rattle.pt_charts.specs.Readable.{set_text}
use Rattle.pt_charts.specs.Views.{scope_view}
use Rattle.pt_charts.proofs.ReadableLaws.{IsFrom}
use Rattle.pt_charts.proofs.readable.sets_fault.Given as goal

abbrev pub invariant-loop-action : goal.invariant-loop-action
invariant-loop-action l = IsFrom (scope_view l.scope) (map set_text) l.actions l.action-index
