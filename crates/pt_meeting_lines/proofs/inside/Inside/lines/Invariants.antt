use Rattle.std.proofs.Common.{map, take}
use Rattle.pt_meeting_lines.specs.Lines.{meant, AreLines}
use Rattle.pt_meeting_lines.proofs.inside.Inside.lines.Given as goal

abbrev pub invariant-loop-firing : goal.invariant-loop-firing
invariant-loop-firing l = AreLines l.self.net.now l.self.number l.self.composite.now l.lines.items (map meant (take l.firing-index l.made))
