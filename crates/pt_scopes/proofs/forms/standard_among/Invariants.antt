use Rattle.std.proofs.Common.{◌≡◌, drop, map}
use Rattle.pt_scopes.specs.Forms.{row_of}
use Rattle.pt_scopes.specs.Agreement.{standard_in}
use Rattle.pt_scopes.proofs.forms.standard_among.Given as goal

abbrev pub invariant-loop-row : goal.invariant-loop-row
invariant-loop-row l = standard_in (map row_of l.rows) l.class l.name ≡ standard_in (map row_of (drop l.row-index l.rows)) l.class l.name
