use Rattle.std.proofs.Common.{[], ◌∷◌, ap, ◌∙◌, arith}
use Rattle.pt_reaction.proofs.LineLaws.{first-past, first-there, behind-set}
use Rattle.pt_reaction.proofs.line.pick_from.Goals as goal

pub returns-then-number-len-clause-picked : goal.returns-then-number-len-clause-picked
returns-then-number-len-clause-picked c = c.new.ensures ∙ first-past c.args.tokens.now.items c.args.number (omega (arith, c.if-number-len.true, c.len.ensures, c.args.tokens.now.ok.0))

pub returns-clause-picked : goal.returns-clause-picked
returns-clause-picked c =
    c.one.ensures ∙ ap (λ t. t ∷ []) c.replace.ensures.value ∙
    first-there c.args.tokens.now.items c.args.number c.index_mut.result.now (omega (arith, c.if-number-len.false, c.len.ensures, c.args.tokens.now.ok.0)) c.index_mut.ensures.value

pub returns-clause-behind : goal.returns-clause-behind
returns-clause-behind c = behind-set c.args.tokens.now.items c.args.number c.replace.new.dest
