use Rattle.std.proofs.Common.{◌≡◌, map, drop}
use Rattle.pt_inequalities.specs.Rows.{port_row, port_type_in}
use Rattle.pt_places.proofs.rows.port_type_among.Given as goal

abbrev pub invariant-loop-row : goal.invariant-loop-row
invariant-loop-row l = port_type_in (map port_row l.rows) l.class l.name ≡ port_type_in (map port_row (drop l.row-index l.rows)) l.class l.name
