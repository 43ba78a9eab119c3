use Rattle.pt_meeting_text.specs.Written.{AreKnown}
use Rattle.pt_meeting_text.proofs.Lines.{Writing}
use Rattle.pt_meeting_text.proofs.writing.write_each.Given as goal

abbrev pub invariant-loop-firing : goal.invariant-loop-firing
invariant-loop-firing l = Writing l.inside l.made l.firing-index l.initial.out.items l.out.items l.earlier × AreKnown l.inside l.known
