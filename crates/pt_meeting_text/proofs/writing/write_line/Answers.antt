use Rattle.pt_firing.specs.Meeting.{meeting_of}
use Rattle.pt_meeting_text.specs.Earlier.{counted}
use Rattle.pt_meeting_text.proofs.Lines.{line-written}
use Rattle.pt_meeting_text.proofs.writing.write_line.Goals as goal

pub returns-clause-written : goal.returns-clause-written
returns-clause-written c = line-written c.args.inside.now (c.args.firing, meeting_of c.args.meeting) c.in_ok-index.index (counted c.args.earlier.now c.args.firing) c.args.out.now.items c.write_head.new.out.items c.write_end.new.out.items c.in_ok-index.ensures.index c.in_ok-write_head.ensures c.in_ok-write_end.ensures.written
