use Rattle.std.proofs.Common.{◌≡◌, ◌++◌, map, take}
use Rattle.pt_survey.specs.Survey.{placed_view, relations_view}
use Rattle.pt_survey.proofs.tables.add_relations.Given as goal

abbrev pub invariant-loop-relation : goal.invariant-loop-relation
invariant-loop-relation l = relations_view l.table.items ≡ relations_view l.initial.table.items ++ map (λ r. record { composite = l.composite; standing = placed_view l.placed; name = r.name }) (take l.relation-index l.relation-items)
