use Rattle.std.proofs.Common.{arith}
use Rattle.std.specs.Str.Parse.{AllDigits, digits_value}
use Rattle.std.proofs.lemmas.Str.Parse.{IsNumeralModel, numerals_by_value, tells_digits, digits_value_short, parse_digits}
use Rattle.pt_words.proofs.number.number.Goals as goal

own : IsNumeralModel (AllDigits 10) (digits_value 10)
own = numerals_by_value (AllDigits 10) tells_digits

pub returns-in-Err-clause-none : goal.returns-in-Err-clause-none
returns-in-Err-clause-none c n h =
    let small = digits_value_short own c.args.text.now 10 h.digits.1 h.few in
    let p = parse_digits own 64 c.args.text.now _ c.parse.ensures.value.0 h.digits.1 in
    (rw c.in-Err.is at p) (h.digits.0, omega (arith, small))
