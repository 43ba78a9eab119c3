use Rattle.std.proofs.Common.{◌≡◌, ◌++◌, map, take}
use Rattle.pt_survey.specs.Survey.{placed_view, links_view}
use Rattle.pt_survey.proofs.tables.add_links.Given as goal

abbrev pub invariant-loop-link : goal.invariant-loop-link
invariant-loop-link l = links_view l.table.items ≡ links_view l.initial.table.items ++ map (λ k. record { composite = l.composite; standing = placed_view l.placed; link = k }) (take l.link-index l.link-items)
