use Rattle.std.proofs.Common.{◌≡◌, ℕ, decimal, Result, Ok, Err, sym, subst, ◌∙◌}
use Rattle.std.specs.Str.{IsUtf8}
use Rattle.std.proofs.lemmas.Str.{IsUtf8-from_ascii}
use Rattle.std.proofs.lemmas.Fmt.{IsAscii-decimal, parse-decimal}
use Rattle.pt_readback.proofs.cuts.parsed.Goals as goal

pub returns-in_default : goal.returns-in_default
returns-in_default c = λ n h e. absurd (c.in_default.ensures.cases.0 (subst IsUtf8 e (IsUtf8-from_ascii (decimal n) (IsAscii-decimal n h))))

pub returns-in-Ok-parse : goal.returns-in-Ok-parse
returns-in-Ok-parse c = λ n h e.
    let t : c.in-Ok.text.now ≡ decimal n = c.in-Ok.ensures.cases.0 ∙ sym e in
    let k : ◌≡◌ {A = Result ℕ ℕ} (Ok c.in-Ok-parse.number) (Ok n) = parse-decimal {E = ℕ} 64 n c.in-Ok.text.now (Ok c.in-Ok-parse.number) h h t c.in-Ok-parse.ensures.value.0 in
    cc

pub returns-in-Err : goal.returns-in-Err
returns-in-Err c = λ n h e.
    let t : c.in-Ok.text.now ≡ decimal n = c.in-Ok.ensures.cases.0 ∙ sym e in
    let k : Err c.in-Err.field-0 ≡ Ok n = parse-decimal 64 n c.in-Ok.text.now (Err c.in-Err.field-0) h h t c.in-Err.ensures.value.0 in
    cc
