use Rattle.std.proofs.Common.{◌/◌, get_or, min, ap, sym, ◌∙◌, subst, arith}
use Rattle.std.proofs.lemmas.Nat.{le-div}
use Rattle.pt_sched.specs.Next.{LastsFor}
use Rattle.pt_sched.proofs.Lasting.{lasts-quotient}
use Rattle.pt_sched.proofs.times.lasting_on.Goals as goal

pub nonzero_div-held : goal.nonzero_div-held
nonzero_div-held c = c.requires.channel.between.takes.0

pub returns-clause-some : goal.returns-clause-some
returns-clause-some c =
    omega (arith, c.min.ensures, c.requires.some, le-div 1 c.tokens-held.result c.args.channel.now.edge.consumed c.requires.channel.between.takes.0 (omega (arith, c.if-held-channel.false)))

pub returns-clause-lasts : goal.returns-clause-lasts
returns-clause-lasts c =
    subst (λ n. LastsFor (λ k. get_or c.args.fired.now k 0) n c.args.channel.now) (sym (c.min.ensures ∙ ap (λ h. min c.args.times (h / c.args.channel.now.edge.consumed)) c.tokens-held.ensures))
    (lasts-quotient (λ k. get_or c.args.fired.now k 0) c.args.times c.args.channel.now c.requires.filled)
