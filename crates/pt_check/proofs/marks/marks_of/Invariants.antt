use Rattle.std.proofs.Common.{take}
use Rattle.pt_check.specs.Joined.{ends_of}
use Rattle.pt_check.specs.Marks.{AreMarks, AreSized}
use Rattle.pt_check.proofs.marks.marks_of.Given as goal

abbrev pub invariant-loop-channel : goal.invariant-loop-channel
invariant-loop-channel l = record {
  marks : AreMarks (ends_of (take l.channel-index l.channels)) l.rows.items;
  sized : AreSized l.entities l.rows.items;
}
