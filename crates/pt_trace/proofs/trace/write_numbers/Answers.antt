use Rattle.std.proofs.Common.{◌≡◌, ◌++◌, ◌∙◌, ℤ, pos, get_or, rules}
use Rattle.pt_value.specs.declared.token.Token.TheVariants.{Int}
use Rattle.pt_trace.specs.TraceText.{token_line}
use Rattle.pt_trace.proofs.TokenLines.{numbers-more}
use Rattle.pt_trace.proofs.trace.write_numbers.Goals as goal

pub loop-number-preserved : goal.loop-number-preserved
loop-number-preserved c =
    let value : ℤ = get_or c.args.numbers.now c.loop-number.number (pos 0) in
    let more : c.write_integer_line.new.out.items ≡ c.loop-number.out.items ++ token_line c.loop-number.number c.args.tag (Int value) = search rules in
    numbers-more c.loop-number.out.items c.write_integer_line.new.out.items c.args.tag c.args.numbers.now c.loop-number.number more c.loop-number-test.true ∙ c.loop-number.invariant
