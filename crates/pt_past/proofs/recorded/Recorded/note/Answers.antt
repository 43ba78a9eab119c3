use Rattle.pt_past.proofs.RecordedLaws.{note-none}
use Rattle.pt_past.proofs.recorded.Recorded.note.Goals as goal

pub returns-then-self-ports-clause-noted : goal.returns-then-self-ports-clause-noted
returns-then-self-ports-clause-noted c =
    note-none c.self.inside.port c.self.inside.number c.self.inside.recorded c.self.inside.text c.self.inside.tokens c.truncate.new.self c.args.tag c.args.outputs.now c.args.self.now c.self.view_is c.truncate.ensures (rw (← c.ports.ensures) c.if-self-ports.true)
