use Rattle.std.proofs.Common.{◌≡◌, map, drop}
use Rattle.pt_inequalities.specs.Rows.{port_row}
use Rattle.pt_places.specs.Views.{rows_behind}
use Rattle.pt_places.proofs.rows.rows_from.Given as goal

abbrev pub invariant-loop-index : goal.invariant-loop-index
invariant-loop-index l = rows_behind (map port_row (drop l.index l.rows)) l.class ≡ rows_behind (map port_row l.rows) l.class
