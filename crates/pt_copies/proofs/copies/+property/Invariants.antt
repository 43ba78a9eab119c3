use Rattle.std.proofs.Common.{◌≡◌, take}
use Rattle.pt_document.specs.View.{properties_view}
use Rattle.pt_copies.proofs.copies.+property.Given as goal

abbrev pub invariant-loop-inner : goal.invariant-loop-inner
invariant-loop-inner l = properties_view l.properties.items ≡ properties_view (take l.inner-index l.inner-items)
