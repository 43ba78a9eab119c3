use Rattle.std.proofs.Common.{take}
use Rattle.pt_links.specs.Ties.{AreTied}
use Rattle.pt_links.proofs.ties.Ties.of.Given as goal

abbrev pub invariant-loop-wire : goal.invariant-loop-wire
invariant-loop-wire l = AreTied l.count (take l.wire-index l.wires) l.ties.outside.items l.ties.inside.items
