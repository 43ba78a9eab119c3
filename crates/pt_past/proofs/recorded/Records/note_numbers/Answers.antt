use Rattle.std.proofs.Common.{◌∙◌, ap, arith, [], ◌∷◌, map}
use Rattle.pt_value.specs.declared.token.Token.TheVariants.{Int}
use Rattle.pt_past.specs.Recorded.{noting, unnoted}
use Rattle.pt_past.proofs.RecordedLaws.{changed-step, unnoted-stays, unnoted-noting}
use Rattle.pt_past.proofs.recorded.Records.note_numbers.Goals as goal

pub returns-in_err-note_numbers-clause-recorded : goal.returns-in_err-note_numbers-clause-recorded
returns-in_err-note_numbers-clause-recorded c =
    unnoted-stays c.args.tag (map Int c.args.numbers.now ∷ []) c.loop-k.k c.args.self.now c.loop-k.self-inside.ports.items c.index_mut-port.result.now c.note_numbers.new.self c.loop-k.invariant c.index_mut-port.ensures.value c.in_err-note_numbers.ensures.recorded

pub loop-k-preserved : goal.loop-k-preserved
loop-k-preserved c = changed-step (noting c.args.tag (map Int c.args.numbers.now ∷ [])) c.loop-k.k c.args.self.now c.loop-k.self-inside.ports.items c.index_mut-port.result.now c.note_numbers.new.self c.loop-k.invariant (grind (arith, c.loop-k-test.true, c.len-k-end.ensures, c.self.view_is)) c.index_mut-port.ensures.value c.in_ok-note_numbers.ensures.noted

pub returns-clause-recorded : goal.returns-clause-recorded
returns-clause-recorded c = ap (λ v. map unnoted v) c.loop-k.invariant ∙ unnoted-noting c.args.tag (map Int c.args.numbers.now ∷ []) c.loop-k.k c.args.self.now
