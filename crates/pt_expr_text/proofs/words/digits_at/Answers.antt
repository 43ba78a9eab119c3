use Rattle.std.proofs.Common.{◌≡◌, take, arith}
use Rattle.std.specs.List.{prefix_len}
use Rattle.std.specs.Char.{is_ascii_digit}
use Rattle.std.proofs.lemmas.Grind.{common_steps}
use Rattle.pt_expr_text.proofs.Numbers.{run_of_digits}
use Rattle.pt_expr_text.proofs.words.digits_at.Goals as goal

pub number_of-requires-clause-digits : goal.number_of-requires-clause-digits
number_of-requires-clause-digits c =
    let e : c.range.result.now ≡ take (prefix_len is_ascii_digit c.args.text.now) c.args.text.now = grind (arith, common_steps) in
    rw e (run_of_digits c.args.text.now)
