use Rattle.std.proofs.Common.{◌≡◌, take, map}
use Rattle.pt_chart.specs.Views.{ports_view}
use Rattle.pt_chart.proofs.written.copied_ports.Given as goal

abbrev pub invariant-loop-refinement : goal.invariant-loop-refinement
invariant-loop-refinement l = map ports_view l.copies.items ≡ map ports_view (take l.refinement-index l.ports)
