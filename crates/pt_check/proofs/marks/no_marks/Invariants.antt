use Rattle.std.proofs.Common.{[], take}
use Rattle.pt_check.specs.Marks.{AreMarks, AreSized}
use Rattle.pt_check.proofs.marks.no_marks.Given as goal

abbrev pub invariant-loop-entity : goal.invariant-loop-entity
invariant-loop-entity l = record {
  unmarked : AreMarks [] l.rows.items;
  sized : AreSized (take l.entity-index l.entities) l.rows.items;
}
