use Rattle.std.proofs.Common.{length, sym, ap, ◌∙◌}
use Rattle.pt_wakes.proofs.QueueLaws.{with-long}
use Rattle.pt_wakes.proofs.queue.Queue.len.Goals as goal

pub returns : goal.returns
returns c = c.len.ensures ∙ sym (with-long c.self.inside.front.items c.self.inside.depth c.self.inside.behind) ∙ ap length c.self.view_is
