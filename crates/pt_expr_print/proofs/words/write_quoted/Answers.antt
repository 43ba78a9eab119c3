use Rattle.std.proofs.Common.{rules}
use Rattle.pt_expr_print.proofs.Escapes.{character_turn}
use Rattle.pt_expr_print.proofs.words.write_quoted.Goals as goal

pub loop-c-preserved : goal.loop-c-preserved
loop-c-preserved c = character_turn _ _ _ _ _ c.in-Some.c c.in-Some.ensures.steps.0 (search rules) c.loop-c.invariant
