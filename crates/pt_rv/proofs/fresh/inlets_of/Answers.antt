use Rattle.std.proofs.Common.{[], ◌∷◌, ◌++◌, ap, ◌∙◌}
use Rattle.pt_rv.specs.Parties.{inputs_of}
use Rattle.pt_rv.proofs.EndLaws.{empty-more, inputs-behind}
use Rattle.pt_rv.proofs.fresh.inlets_of.Goals as goal

pub loop-preserved : goal.loop-preserved
loop-preserved c = ap inputs_of c.in_ok-push.ensures.items ∙ inputs-behind c.loop.fresh.items c.new.result ∙ ap (λ v. inputs_of c.loop.fresh.items ++ (v ∷ [])) c.new.ensures.puts ∙ empty-more (inputs_of c.loop.fresh.items) c.loop.counter c.loop.invariant
