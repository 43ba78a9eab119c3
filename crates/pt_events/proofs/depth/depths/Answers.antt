use Rattle.std.proofs.Common.{ℕ, List, sym, subst}
use Rattle.pt_events.specs.Found.{AreInside, FeedsBy}
use Rattle.pt_events.specs.Depths.{IsCycle}
use Rattle.pt_events.proofs.FoundLaws.{lists-inside, cycle-loop}
use Rattle.pt_events.proofs.depth.depths.Goals as goal

pub next_child-requires-clause-inside : goal.next_child-requires-clause-inside
next_child-requires-clause-inside c = subst AreInside (sym c.as_slice-feeders.ensures.value) (lists-inside c.args.n c.args.edges.now c.in_ok-lists.lists.items c.requires c.in_ok-lists.ensures)

pub add-requires-clause-inside : goal.add-requires-clause-inside
add-requires-clause-inside c = subst AreInside (sym c.as_slice-feeders.ensures.value) (lists-inside c.args.n c.args.edges.now c.in_ok-lists.lists.items c.requires c.in_ok-lists.ensures)

pub loop_behind-requires-clause-inside : goal.loop_behind-requires-clause-inside
loop_behind-requires-clause-inside c = subst AreInside (sym c.as_slice-feeders.ensures.value) (lists-inside c.args.n c.args.edges.now c.in_ok-lists.lists.items c.requires c.in_ok-lists.ensures)

pub returns-in-Stuck-clause-fault : goal.returns-in-Stuck-clause-fault
returns-in-Stuck-clause-fault c =
    cycle-loop c.args.n c.args.edges.now c.in_ok-lists.lists.items c.in_ok-children-in-Stuck.children.items c.in_ok-lists.ensures (subst (λ (ls : List (List ℕ)). IsCycle (FeedsBy ls) c.in_ok-children-in-Stuck.children.items) c.as_slice-feeders.ensures.value c.in_ok-children-in-Stuck.ensures)
