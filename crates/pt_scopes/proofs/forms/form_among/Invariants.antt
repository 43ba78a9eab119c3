use Rattle.std.proofs.Common.{◌≡◌, drop, map}
use Rattle.pt_scopes.specs.Forms.{form_in, row_of}
use Rattle.pt_scopes.proofs.forms.form_among.Given as goal

abbrev pub invariant-loop-row : goal.invariant-loop-row
invariant-loop-row l = form_in (map row_of l.rows) l.class l.name ≡ form_in (map row_of (drop l.row-index l.rows)) l.class l.name
