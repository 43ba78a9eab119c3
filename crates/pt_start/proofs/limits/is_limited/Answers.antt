use Rattle.std.proofs.Common.{◌∙◌}
use Rattle.pt_start.specs.Places.{limited_by}
use Rattle.pt_start.proofs.limits.is_limited.Goals as goal

pub returns : goal.returns
returns c = c.limited_by.ensures ∙ (λ i. limited_by (c.token_named-limit.ensures i) (c.is_sequence.ensures i) (c.token_named-repeat.ensures i))
