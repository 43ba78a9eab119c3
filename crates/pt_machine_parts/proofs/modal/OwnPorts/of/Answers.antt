use Rattle.std.proofs.Common.{ℕ, List, ap, ◌∙◌}
use Rattle.pt_machine.specs.Numbers.{number_of}
use Rattle.pt_machine_parts.specs.Texts.{Name, texts}
use Rattle.pt_machine_parts.proofs.modal.OwnPorts.of.Goals as goal

pub returns : goal.returns
returns c = record {
  inputs = c.in_ok-inputs.ensures;
  outputs = λ name. c.in_ok-outputs.ensures name ∙ ap (λ (ns : List (List ℕ)). number_of ns name) (ap (λ (ns : List Name). texts ns) c.deref.ensures.value ∙ c.in_ok-output_names.ensures);
  named = c.in_ok-output_names.ensures;
}
