use Rattle.std.proofs.Common.{ap, ◌∙◌}
use Rattle.std.specs.BinaryHeap.{heap_items}
use Rattle.pt_events.specs.Queue.{first}
use Rattle.pt_events.proofs.PopLaws.{first-at}
use Rattle.pt_events.proofs.queue.EventQueue.first.Goals as goal

pub returns : goal.returns
returns c =
    first-at (heap_items c.self.inside.later) (heap_items c.self.inside.due) c.as_slice.result.now c.first_later.result c.least_tag.result c.earlier.result c.as_slice.ensures.value c.earlier.ensures c.first_later.ensures c.least_tag.ensures ∙ ap first c.self.view_is
