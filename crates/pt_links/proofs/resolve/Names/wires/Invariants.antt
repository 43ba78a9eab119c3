use Rattle.std.proofs.Common.{◌≡◌, Some, map, take}
use Rattle.pt_survey.specs.Survey.{tables_view, links_view}
use Rattle.pt_net.specs.Wires.{wire_of}
use Rattle.pt_links.proofs.resolve.Names.wires.Given as goal

abbrev pub invariant-loop-link : goal.invariant-loop-link
invariant-loop-link l = map (wire_of (tables_view l.self.tables.now).ports (tables_view l.self.tables.now).relations) (links_view (take l.link-index l.link-items)) ≡ map Some l.joined.items
