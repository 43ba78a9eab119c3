use Rattle.std.proofs.Common.{◌∙◌, [], ◌∷◌, ◌++◌, ap}
use Rattle.std.proofs.lemmas.List.{replicate_more}
use Rattle.pt_recv.proofs.channels.empty_queues.Goals as goal

pub loop-preserved : goal.loop-preserved
loop-preserved c = record {
  lists = c.in_ok-queue.ensures.lists ∙ ap (λ v. v ++ [] ∷ []) c.loop.invariant.lists ∙ replicate_more c.loop.counter [];
  spares = c.in_ok-queue.ensures.spares ∙ ap (λ v. v ++ 0 ∷ []) c.loop.invariant.spares ∙ replicate_more c.loop.counter 0;
}
