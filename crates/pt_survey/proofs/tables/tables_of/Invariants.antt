use Rattle.std.proofs.Common.{◌≡◌, ◌++◌, drop}
use Rattle.pt_survey.specs.Survey.{table_view, ports_view, relations_view, links_view}
use Rattle.pt_net.specs.Table.{ports_from, relations_from, links_from}
use Rattle.pt_survey.proofs.tables.tables_of.Given as goal

abbrev pub invariant-loop-number : goal.invariant-loop-number
invariant-loop-number l =
    (l.tables.entities.now ≡ l.entities)
    × (ports_view l.tables.ports.items ++ ports_from l.number (table_view (drop l.number l.entities)) ≡ ports_from 0 (table_view l.entities))
    × (relations_view l.tables.relations.items ++ relations_from l.number (table_view (drop l.number l.entities)) ≡ relations_from 0 (table_view l.entities))
    × (links_view l.tables.links.items ++ links_from l.number (table_view (drop l.number l.entities)) ≡ links_from 0 (table_view l.entities))
