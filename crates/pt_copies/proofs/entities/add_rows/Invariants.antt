use Rattle.std.proofs.Common.{◌≡◌, ◌++◌, map, take}
use Rattle.pt_document.specs.Classes.{port_of}
use Rattle.pt_document.specs.View.{port_view}
use Rattle.pt_net.specs.Net.{row_port}
use Rattle.pt_copies.proofs.entities.add_rows.Given as goal

abbrev pub invariant-loop-row : goal.invariant-loop-row
invariant-loop-row l = map port_view l.ports.items ≡ map port_view l.initial.ports.items ++ map row_port (map port_of (take l.row-index l.rows))
