use Rattle.std.proofs.Common.{ap, subst, sym, ◌∙◌}
use Rattle.pt_reaction.specs.Marks.{marked, AreStamps}
use Rattle.pt_reaction.proofs.marks.Marks.copy.Goals as goal

pub invariant_of-result : goal.invariant_of-result
invariant_of-result c = subst (λ S. AreStamps c.self.inside.present S) (sym (c.in_ok-stamps.ensures.items ∙ c.deref.ensures.value)) c.self.invariant

pub returns : goal.returns
returns c = ap (λ S. marked c.self.inside.present S) (c.in_ok-stamps.ensures.items ∙ c.deref.ensures.value) ∙ c.self.view_is
