use Rattle.std.proofs.Common.{◌≡◌, ℕ, subst, sym}
use Rattle.std.specs.Str.{IsCharBoundary}
use Rattle.pt_expr_text.proofs.Cuts.{digit_cut}
use Rattle.pt_expr_text.proofs.words.digit_count.Goals as goal

pub returns-clause-cut : goal.returns-clause-cut
returns-clause-cut c = rw (c.digit_run.ensures, c.as_bytes.ensures.value) (digit_cut _ c.utf8.text)
