use Rattle.std.proofs.Common.{◌≡◌, ℕ, subst, sym}
use Rattle.std.specs.Str.{IsCharBoundary}
use Rattle.pt_expr_text.proofs.Cuts.{blank_cut}
use Rattle.pt_expr_text.proofs.words.blank_count.Goals as goal

pub returns-clause-cut : goal.returns-clause-cut
returns-clause-cut c = rw (c.blank_run.ensures, c.as_bytes.ensures.value) (blank_cut _ c.utf8.text)
