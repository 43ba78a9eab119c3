use Rattle.std.proofs.Common.{◌≡◌, map, take}
use Rattle.pt_document.specs.View.{input_view}
use Rattle.pt_job.specs.Names.{texts}
use Rattle.pt_job.proofs.ports.named_ports.Given as goal

abbrev pub invariant-loop-input : goal.invariant-loop-input
invariant-loop-input l = texts l.names.items ≡ map (λ i. i.port) (map input_view (take l.input-index l.inputs))
