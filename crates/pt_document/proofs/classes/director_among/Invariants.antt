use Rattle.std.proofs.Common.{◌≡◌, map, drop}
use Rattle.pt_document.specs.Classes.{director_of, director_in}
use Rattle.pt_document.proofs.classes.director_among.Given as goal

abbrev pub invariant-loop-row : goal.invariant-loop-row
invariant-loop-row l = director_in (map director_of (drop l.row-index l.rows)) l.name ≡ director_in (map director_of l.rows) l.name
