use Rattle.std.proofs.Common.{◌≡◌, ◌++◌, length}
use Rattle.pt_check.proofs.ChildLaws.{paired}
use Rattle.pt_check.proofs.children.put_repetitions.Given as goal

abbrev pub invariant-loop-child : goal.invariant-loop-child
invariant-loop-child l =
    goal.iterator-loop-child.can_next l.child-iterator × goal.iterator-loop-child.is_finite l.child-iterator ×
    (l.out.items ++ paired l.children l.repetitions (length l.yielded) ≡ l.fn.out.items ++ paired l.children l.repetitions 0)
