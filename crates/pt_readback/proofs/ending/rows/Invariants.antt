use Rattle.std.proofs.Common.{length}
use Rattle.std.specs.Char.{is_ascii_digit}
use Rattle.pt_readback.specs.Lines.{IsRunRow, IsRowForm, begins_row, never, say_row}
use Rattle.pt_readback.specs.Listed.{SoFar}
use Rattle.pt_readback.proofs.ending.rows.Given as goal

abbrev pub invariant-loop-alloc : goal.invariant-loop-alloc
invariant-loop-alloc l = SoFar say_row IsRunRow IsRowForm begins_row never l.fn.text l.rows.items l.rest

abbrev pub decreases-loop-alloc : goal.decreases-loop-alloc
decreases-loop-alloc l = length l.rest
