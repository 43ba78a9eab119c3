use Rattle.std.proofs.Common.{map}
use Rattle.pt_document.specs.View.{transition_view}
use Rattle.pt_charts.specs.Readable.{texts_of}
use Rattle.pt_charts.specs.Views.{scope_view}
use Rattle.pt_charts.proofs.ReadableLaws.{IsFrom}
use Rattle.pt_charts.proofs.readable.transitions_fault.Given as goal

abbrev pub invariant-loop-transition : goal.invariant-loop-transition
invariant-loop-transition l = IsFrom (scope_view l.scope) (λ ts. texts_of (map transition_view ts)) l.transitions l.transition-index
