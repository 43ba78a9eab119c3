use Rattle.std.proofs.Common.{◌≡◌, ◌++◌, take}
use Rattle.pt_facts.specs.CheckText.{repetitions_lines}
use Rattle.pt_facts.proofs.facts.write_repetitions.Given as goal

abbrev pub invariant-loop-child : goal.invariant-loop-child
invariant-loop-child l = l.out.items ≡ l.initial.out.items ++ repetitions_lines (take l.child-index l.repetitions)
