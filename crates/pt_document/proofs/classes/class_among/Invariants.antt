use Rattle.std.proofs.Common.{◌≡◌, map, drop}
use Rattle.pt_document.specs.Classes.{class_of, class_in}
use Rattle.pt_document.proofs.classes.class_among.Given as goal

abbrev pub invariant-loop-row : goal.invariant-loop-row
invariant-loop-row l = class_in (map class_of (drop l.row-index l.rows)) l.name ≡ class_in (map class_of l.rows) l.name
