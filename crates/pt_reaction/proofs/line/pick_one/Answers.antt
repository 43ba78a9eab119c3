use Rattle.std.proofs.Common.{[], ◌∷◌, ap, ◌∙◌}
use Rattle.pt_reaction.proofs.LineLaws.{one-past, one-there, one-behind}
use Rattle.pt_reaction.proofs.line.pick_one.Goals as goal

pub returns-then-number-gt0-clause-picked : goal.returns-then-number-gt0-clause-picked
returns-then-number-gt0-clause-picked c = c.new.ensures ∙ one-past c.args.number c.args.token.now c.if-number-gt0.true

pub returns-clause-picked : goal.returns-clause-picked
returns-clause-picked c = c.one.ensures ∙ ap (λ t. t ∷ []) c.replace.ensures.value ∙ one-there c.args.number c.args.token.now c.if-number-gt0.false

pub returns-clause-behind : goal.returns-clause-behind
returns-clause-behind c = one-behind c.args.number c.replace.new.dest c.args.token.now
