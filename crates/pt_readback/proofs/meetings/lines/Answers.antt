use Rattle.std.proofs.Common.{◌≡◌, ◌++◌, ◌∷◌, ◌∙◌, [], true, false, sym, ap, rules}
use Rattle.std.specs.Char.{is_ascii_digit}
use Rattle.std.proofs.lemmas.Bool.{false_from_ne_true}
use Rattle.std.proofs.lemmas.Bool.Decides.{Decides-eqb}
use Rattle.pt_readback.specs.Lines.{IsRunMeeting, IsLineForm, never, say_meeting}
use Rattle.pt_readback.proofs.Lines.{meeting_starts, meeting_stops}
use Rattle.pt_readback.specs.Listed.{front}
use Rattle.pt_readback.proofs.Listed.{same_fault, so_far_none, so_far_more, so_far_fails, so_far_all}
use Rattle.pt_readback.proofs.meetings.lines.Goals as goal

pub loop-alloc-preserved : goal.loop-alloc-preserved
loop-alloc-preserved c =
    let b : c.push.new.self.items ≡ c.loop-alloc.lines.items ++ c.in_ok-line.line ∷ [] = search rules in
    let t : is_ascii_digit (front c.loop-alloc.rest.now) ≡ true = ap is_ascii_digit (sym c.front.ensures) ∙ sym c.is_ascii_digit.ensures.value ∙ c.loop-alloc-test.true in
    rw b (so_far_more say_meeting IsRunMeeting IsLineForm is_ascii_digit never meeting_starts meeting_stops c.args.text.now c.loop-alloc.rest.now c.in_ok-line.behind.now c.loop-alloc.lines.items c.in_ok-line.line c.loop-alloc.invariant t c.in_ok-line.ensures.found c.in_ok-line.ensures.form c.in_ok-line.ensures.shorter)

pub returns-in_err-line-clause-found : goal.returns-in_err-line-clause-found
returns-in_err-line-clause-found c = λ all after h n s e.
    let t : is_ascii_digit (front c.loop-alloc.rest.now) ≡ true = ap is_ascii_digit (sym c.front.ensures) ∙ sym c.is_ascii_digit.ensures.value ∙ c.loop-alloc-test.true in
    same_fault _ c.from_residual.result c.in_err-line.field-0.0 (all, after) c.from_residual.ensures.1 (so_far_fails say_meeting IsRunMeeting IsLineForm is_ascii_digit never meeting_starts meeting_stops _ c.args.text.now c.loop-alloc.rest.now c.loop-alloc.lines.items c.loop-alloc.invariant t c.in_err-line.ensures.found all after h n s e)

pub returns-clause-found : goal.returns-clause-found
returns-clause-found c = λ all after h n s e.
    let t : is_ascii_digit (front c.loop-alloc.rest.now) ≡ false = ap is_ascii_digit (sym c.front.ensures) ∙ sym c.is_ascii_digit.ensures.value ∙ c.loop-alloc-test.false in
    so_far_all say_meeting IsRunMeeting IsLineForm is_ascii_digit never meeting_starts meeting_stops c.args.text.now c.loop-alloc.rest.now c.loop-alloc.lines.items c.loop-alloc.invariant t all after h n s e
