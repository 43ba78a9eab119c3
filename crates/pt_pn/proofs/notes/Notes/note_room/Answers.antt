use Rattle.std.proofs.Common.{ℕ, List, get_or, ap, ◌∙◌}
use Rattle.pt_pn.specs.Noted.{seen_notes}
use Rattle.pt_pn.proofs.WakeLaws.{no-room, some-room}
use Rattle.pt_pn.proofs.notes.Notes.note_room.Goals as goal

pub returns-then-not-ends_wait : goal.returns-then-not-ends_wait
returns-then-not-ends_wait c = no-room (seen_notes c.self.inside) c.args.self.now c.self.view_is c.args.channel c.ends_wait.result c.ends_wait.new.waited.items c.ends_wait.ensures.was c.if-not-ends_wait.true c.ends_wait.ensures.ends

pub returns : goal.returns
returns c =
    c.wake.ensures ∙
    some-room (seen_notes c.self.inside) c.args.self.now c.self.view_is c.args.channel c.ends_wait.result c.ends_wait.new.waited.items c.process_at-writer.result c.ends_wait.ensures.was c.if-not-ends_wait.false c.ends_wait.ensures.ends
    (c.process_at-writer.ensures ∙ ap (λ (ps : List ℕ). get_or ps c.args.channel 0) c.deref.ensures.value)
