use Rattle.pt_machine_parts.proofs.modal.Own.of.Goals as goal

pub returns : goal.returns
returns c = record {
  ports = c.in_ok-ports.ensures;
  states = c.in_ok-states.ensures;
  variables = c.in_ok-variables.ensures;
  children = c.in_ok-children.ensures;
}
