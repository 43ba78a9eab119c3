use Rattle.std.proofs.Common.{Err}
use Rattle.pt_expr_text.proofs.Numbers.{parsed_number}
use Rattle.pt_expr_text.proofs.words.number_of.Goals as goal

pub returns-in-Err : goal.returns-in-Err
returns-in-Err c = parsed_number c.args.digits.now (Err c.in-Err.field-0) c.in-Err.ensures.value.0 c.requires.digits c.requires.some
