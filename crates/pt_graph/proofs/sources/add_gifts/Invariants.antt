use Rattle.std.proofs.Common.{◌≡◌, ◌++◌, map, take}
use Rattle.pt_graph.proofs.sources.add_gifts.Given as goal

abbrev pub invariant-loop-relation : goal.invariant-loop-relation
invariant-loop-relation l = l.gifts.items ≡ l.initial.gifts.items ++ map (λ r. (l.giver, r)) (take l.relation-index l.relations)
