use Rattle.std.proofs.Common.{[], ◌∷◌, ◌++◌, ap, ◌∙◌}
use Rattle.pt_rv.specs.Parties.{outputs_of}
use Rattle.pt_rv.proofs.EndLaws.{empty-more, outputs-behind}
use Rattle.pt_rv.proofs.fresh.outlets_of.Goals as goal

pub loop-preserved : goal.loop-preserved
loop-preserved c = ap outputs_of c.in_ok-push.ensures.items ∙ outputs-behind c.loop.fresh.items c.new.result ∙ ap (λ v. outputs_of c.loop.fresh.items ++ (v ∷ [])) c.new.ensures.list ∙ empty-more (outputs_of c.loop.fresh.items) c.loop.counter c.loop.invariant
