use Rattle.std.proofs.Common.{◌∙◌, sym, ap, option_copied, rules}
use Rattle.pt_trace.proofs.TokenLines.{last-row}
use Rattle.pt_trace.proofs.summary_text.write_last.Goals as goal

pub returns-in-Some-last : goal.returns-in-Some-last
returns-in-Some-last c =
    let none = sym c.last.ensures.value ∙ ap option_copied c.in_default.is in
    let last = sym c.last-2.ensures.value ∙ ap option_copied c.in-Some-last.is in
    rw (last-row c.parts.result.0 c.parts.result.1.now c.parts.result.2.now c.args.tokens.now c.in-Some-last.number.now c.parts.ensures none last) (search rules)
