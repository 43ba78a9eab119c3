use Rattle.std.proofs.Common.{sym, ap, ◌∙◌}
use Rattle.pt_meaning.specs.Tag.{origin}
use Rattle.pt_meaning.specs.Job.{Fire}
use Rattle.pt_next.proofs.OneFiring.{fires-first, then-ends}
use Rattle.pt_next.proofs.once.next_turn.Goals as goal

pub returns-then-fired-gt0 : goal.returns-then-fired-gt0
returns-then-fired-gt0 c = λ last top. then-ends c.args.job.now.inputs.items c.args.fired c.if-fired-gt0.true last top

-- the firing takes all tokens
pub returns : goal.returns
returns c = λ last top. fires-first c.args.job.now.inputs.items c.args.fired c.if-fired-gt0.false last top ∙ ap (λ X. Fire origin X) (sym (c.in_ok-inputs.ensures ∙ c.deref.ensures.value))
