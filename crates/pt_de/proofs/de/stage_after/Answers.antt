use Rattle.std.proofs.Common.{sym, ◌∙◌, true≢false}
use Rattle.pt_de.proofs.StageLaws.{left-more, left-none}
use Rattle.pt_de.proofs.de.stage_after.Goals as goal

pub returns-then-has_more : goal.returns-then-has_more
returns-then-has_more c = left-more c.args.child c.args.rows.now.rest (c.has_more.ensures.0 c.if-has_more.true)

pub returns : goal.returns
returns c = left-none c.args.child c.args.rows.now.rest (λ h. absurd (true≢false (sym (c.has_more.ensures.1 h) ∙ c.if-has_more.false)))
