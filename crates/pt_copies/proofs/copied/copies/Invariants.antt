use Rattle.std.proofs.Common.{◌≡◌, map, take}
use Rattle.pt_copies.proofs.copied.copies.Given as goal

abbrev pub invariant-loop-item : goal.invariant-loop-item
invariant-loop-item g l = map g.T.Copied.tree l.new.items ≡ map g.T.Copied.tree (take l.item-index l.old)
