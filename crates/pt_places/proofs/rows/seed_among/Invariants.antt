use Rattle.std.proofs.Common.{◌≡◌, map, drop}
use Rattle.pt_inequalities.specs.Rows.{seeding, seed_in}
use Rattle.pt_places.proofs.rows.seed_among.Given as goal

abbrev pub invariant-loop-row : goal.invariant-loop-row
invariant-loop-row l = seed_in (map seeding l.rows) l.class l.name ≡ seed_in (map seeding (drop l.row-index l.rows)) l.class l.name
