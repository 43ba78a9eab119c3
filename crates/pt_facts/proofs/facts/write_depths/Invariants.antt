use Rattle.std.proofs.Common.{◌≡◌, ◌++◌, take}
use Rattle.pt_facts.specs.CheckText.{depths_lines}
use Rattle.pt_facts.proofs.facts.write_depths.Given as goal

abbrev pub invariant-loop-child : goal.invariant-loop-child
invariant-loop-child l = l.out.items ≡ l.initial.out.items ++ depths_lines (take l.child-index l.depths)
