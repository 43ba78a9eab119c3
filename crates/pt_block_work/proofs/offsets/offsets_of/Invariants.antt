use Rattle.pt_block_work.proofs.OffsetLaws.{OffsetsTo}
use Rattle.pt_block_work.proofs.offsets.offsets_of.Given as goal

abbrev pub invariant-loop-count : goal.invariant-loop-count
invariant-loop-count l = OffsetsTo l.places l.count-index l.offsets.items l.next
