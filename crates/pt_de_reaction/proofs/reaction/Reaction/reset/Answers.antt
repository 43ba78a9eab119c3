use Rattle.std.proofs.Common.{length, ap, ◌∙◌, sym}
use Rattle.pt_de_reaction.proofs.ReactionLaws.{starts-fit, reset-keeps, reset-is}
use Rattle.pt_de_reaction.proofs.reaction.Reaction.reset.Goals as goal

pub new-requires : goal.new-requires
new-requires c = ap (λ v. length v) c.depths.ensures ∙ starts-fit c.self.inside c.self.invariant c.args.self.now c.self.view_is ∙ sym (ap (λ v. length v) c.starts.ensures)

pub invariant_of-self : goal.invariant_of-self
invariant_of-self c =
    reset-keeps c.self.inside c.self.invariant c.args.self.now c.self.view_is c.starts.result.now c.depths.result.now c.depths-2.result.now c.in_ok-agenda.agenda c.in_ok-last.last c.clear.new.self.lists c.clear-2.new.self c.starts.ensures c.depths.ensures c.depths-2.ensures c.in_ok-agenda.ensures c.in_ok-last.ensures c.clear.ensures c.clear-2.ensures

pub returns-clause-reset : goal.returns-clause-reset
returns-clause-reset c = reset-is c.self.inside c.self.invariant c.args.self.now c.self.view_is c.starts.result.now c.in_ok-agenda.agenda c.clear.new.self.lists c.clear-2.new.self _ c.starts.ensures c.in_ok-agenda.ensures c.clear.ensures c.clear-2.ensures
