use Rattle.std.proofs.Common.{◌≡◌, ℕ, subst, sym}
use Rattle.std.specs.Str.{IsCharBoundary}
use Rattle.pt_expr_text.proofs.Cuts.{name_cut}
use Rattle.pt_expr_text.proofs.words.name_byte_count.Goals as goal

pub returns-clause-cut : goal.returns-clause-cut
returns-clause-cut c = rw (c.name_run.ensures, c.as_bytes.ensures.value) (name_cut _ c.utf8.text)
