use Rattle.std.proofs.Common.{◌≡◌, take}
use Rattle.pt_node.specs.Full.{told_by}
use Rattle.pt_seq.proofs.full.labelled.Given as goal

-- the labels of the channels so far
abbrev pub invariant-loop-row : goal.invariant-loop-row
invariant-loop-row l = l.rows.items ≡ told_by l.labels (take l.row-index l.full)
