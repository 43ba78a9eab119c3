use Rattle.std.proofs.Common.{drop}
use Rattle.pt_document.specs.View.{properties_view}
use Rattle.pt_write.specs.Written.{items_tokens}
use Rattle.pt_write.specs.Document.{values, property_value}
use Rattle.pt_write.proofs.Appending.{Left}
use Rattle.pt_write.proofs.property.+write_property.Given as goal

abbrev pub invariant-loop-inner : goal.invariant-loop-inner
invariant-loop-inner l = Left l.initial.out l.out (items_tokens (values property_value (properties_view (drop l.inner-index l.inner-items)))) (items_tokens (values property_value (properties_view l.inner-items)))
