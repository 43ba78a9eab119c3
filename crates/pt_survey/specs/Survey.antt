-- What a contract sees of the tables of a job.
use Rattle.std.specs.Prelude.{◌≡◌, List, map}
use Rattle.pt_document.specs.Classes.{port_of}
use Rattle.pt_document.specs.View.{entity_view}
use Rattle.pt_survey.specs.declared.surveying.Placed.{Placed}
use Rattle.pt_survey.specs.declared.surveying.Entities.{Entities}
use Rattle.pt_survey.specs.declared.tables.PlacedPort.{PlacedPort}
use Rattle.pt_survey.specs.declared.tables.PlacedRelation.{PlacedRelation}
use Rattle.pt_survey.specs.declared.tables.PlacedLink.{PlacedLink}
use Rattle.pt_survey.specs.declared.tables.Tables.{Tables as HeldTables}
use Rattle.pt_survey.specs.declared.surveying.Round.{Round as HeldRound}
use Rattle.pt_net.specs.Standing.{Round, Standing, kept_count}
use Rattle.pt_net.specs.Table.{PortAt, RelationAt, LinkAt, Tables}

abbrev pub round_view : HeldRound → Round
round_view r = record { outer = r.outer; parent = r.parent; within = r.within; is_refinement = r.is_refinement }

abbrev pub placed_view : Placed → Standing
placed_view p = record { round = round_view p.round; number = p.number; is_directed = p.is_directed; path = p.path; tree = entity_view p.entity.now }

abbrev pub table_view : List Placed → List Standing
table_view ps = map placed_view ps

-- the count is that of the entities that stay in the net
abbrev pub IsCounted : Entities → Type 0
IsCounted e = e.kept ≡ kept_count (table_view e.table.items)

abbrev pub port_at : PlacedPort → PortAt
port_at p = record { entity = p.entity; standing = placed_view p.placed.now; number = p.number; port = port_of p.port }

abbrev pub ports_view : List PlacedPort → List PortAt
ports_view ps = map port_at ps

abbrev pub relation_at : PlacedRelation → RelationAt
relation_at r = record { composite = r.composite; standing = placed_view r.placed.now; name = r.name.now }

abbrev pub relations_view : List PlacedRelation → List RelationAt
relations_view rs = map relation_at rs

abbrev pub link_at : PlacedLink → LinkAt
link_at l = record { composite = l.composite; standing = placed_view l.placed.now; link = l.link.now }

abbrev pub links_view : List PlacedLink → List LinkAt
links_view ls = map link_at ls

abbrev pub tables_view : HeldTables → Tables
tables_view t = record { entities = table_view t.entities.now; ports = ports_view t.ports.items; relations = relations_view t.relations.items; links = links_view t.links.items }
