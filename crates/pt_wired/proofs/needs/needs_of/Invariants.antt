use Rattle.std.proofs.Common.{◌≡◌, length, take, map}
use Rattle.pt_node.specs.Shown.{shown}
use Rattle.pt_trees.specs.Composite.{trees_of}
use Rattle.pt_wired.specs.Needs.{NeedAll}
use Rattle.pt_wired.proofs.needs.needs_of.Given as goal

abbrev pub invariant-loop-number : goal.invariant-loop-number
invariant-loop-number l = record {
  counted : length l.children ≡ length l.places;
  so_far : NeedAll (trees_of (map shown (take l.number l.children))) (take l.number l.places) l.needs.items;
}
