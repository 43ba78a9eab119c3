use Rattle.std.proofs.Common.{map, sym}
use Rattle.pt_meeting_lines.specs.Lines.{meant}
use Rattle.pt_meeting_lines.proofs.Firings.{by-firing}
use Rattle.pt_meeting_lines.proofs.inside.Inside.meetings.Goals as goal

pub returns-clause-firings : goal.returns-clause-firings
returns-clause-firings c n =
    by-firing c.args.self.now.net.now c.args.self.now.number c.args.self.now.composite.now c.in_ok-path.path n c.requires.inside.composite (sym c.in_ok-path.ensures) c.in_ok-lines.lines.items (map meant c.args.made.now) c.in_ok-lines.ensures
