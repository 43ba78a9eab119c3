use Rattle.std.proofs.Common.{arith}
use Rattle.std.proofs.lemmas.Grind.{common_steps}
use Rattle.pt_expr_print.proofs.Escapes.{plain_character}
use Rattle.pt_expr_print.proofs.words.write_escaped.Goals as goal

pub returns-in_default : goal.returns-in_default
returns-in_default c =
    let e = plain_character c.args.c (omega arith) (omega arith) (omega arith) (omega arith) (omega arith) in
    grind (arith, common_steps)
