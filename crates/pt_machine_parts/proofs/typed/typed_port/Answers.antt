use Rattle.pt_machine_parts.proofs.typed.typed_port.Goals as goal

pub returns : goal.returns
returns c = λ j. (c.in_ok-name.ensures j, c.in_ok-ty.ensures j)
