use Rattle.std.proofs.Common.{◌≡◌, List, ℕ, sym, subst, ◌∙◌}
use Rattle.std.specs.Str.{IsUtf8}
use Rattle.pt_value.specs.Printed.{printed}
use Rattle.pt_readback.proofs.Utf8.{printed_utf8}
use Rattle.pt_readback.proofs.Words.{ends_split}
use Rattle.pt_readback.proofs.token.candidate.Goals as goal

pub returns-in_default : goal.returns-in_default
returns-in_default c = λ v h e. absurd (c.in_default.ensures.cases.0 (subst IsUtf8 e (printed_utf8 v h)))

pub returns : goal.returns
returns c = λ v h e.
    let k : printed v ≡ c.in-Ok.text.now = e ∙ sym c.in-Ok.ensures.cases.0 in
    c.token_of-found.ensures v (rw c.deref.ensures.value (ends_split v c.in-Ok.text.now c.in_ok-words.field-0-1.now c.in_ok-words.words.items h k c.in_ok-words.ensures))
