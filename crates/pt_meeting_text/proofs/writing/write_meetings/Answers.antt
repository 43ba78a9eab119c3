use Rattle.std.proofs.Common.{refl, append_assoc}
use Rattle.pt_meeting_text.proofs.writing.write_meetings.Goals as goal

pub returns : goal.returns
returns c =
    let w = c.in_ok-write_lines.ensures in
    (record { path = c.args.inside.now.composite.now.path; lines = w.0 }, (refl, w.1), rw (w.2, c.in_ok-write_path.ensures) (simp append_assoc))
