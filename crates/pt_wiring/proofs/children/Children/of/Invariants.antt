use Rattle.std.proofs.Common.{length, take}
use Rattle.pt_wiring.specs.Children.{AreChildren}
use Rattle.pt_wiring.proofs.children.Children.of.Given as goal

abbrev pub invariant-loop-number : goal.invariant-loop-number
invariant-loop-number l = AreChildren (length l.entities) (take l.number l.entities) l.lists.items l.numbers.items
