use Rattle.std.proofs.Common.{drop}
use Rattle.pt_document.specs.View.{entities_view}
use Rattle.pt_write.specs.Written.{items_tokens}
use Rattle.pt_write.specs.Document.{values, entity_value}
use Rattle.pt_write.proofs.Appending.{Left}
use Rattle.pt_write.proofs.entity.+write_entity.Given as goal

abbrev pub invariant-loop-child : goal.invariant-loop-child
invariant-loop-child l = Left l.initial.out l.out (items_tokens (values entity_value (entities_view (drop l.child-index l.child-items)))) (items_tokens (values entity_value (entities_view l.child-items)))
