use Rattle.std.proofs.Common.{ℕ, List, ap₂, ◌∙◌, [], get_or}
use Rattle.pt_past.specs.Recorded.{RecordedPort}
use Rattle.pt_within.proofs.PortLaws.{row-at}
use Rattle.pt_within.proofs.records.recorded_at.Goals as goal

pub returns : goal.returns
returns c =
    c.new.ensures ∙ ap₂ (λ (p : ℕ) (t : List ℕ). let r : RecordedPort = record { port = p; number = c.args.number; text = t; trace = []; noted = [] } in r)
    (c.number_at-port.ensures ∙ ap₂ (λ (v : List ℕ) (p : ℕ). get_or v p 0) c.as_slice.ensures c.port_at.ensures ∙ row-at c.args.entity.now.ports.items c.args.outputs.now c.requires _) c.in_ok-text.ensures
