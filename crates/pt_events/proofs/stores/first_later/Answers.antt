use Rattle.std.specs.BinaryHeap.{heap_items}
use Rattle.pt_events.proofs.TopLaws.{top-there, top-least}
use Rattle.pt_events.proofs.stores.first_later.Goals as goal

pub returns-in-Some : goal.returns-in-Some
returns-in-Some c =
    top-least (heap_items c.args.later.now) c.in-Some.field-0.now (c.in-Some.ensures.greatest c.requires) (top-there (heap_items c.args.later.now) c.in-Some.field-0.now c.in-Some.ensures.item.3.0 c.in-Some.ensures.lookup)
