use Rattle.std.proofs.Common.{length, get_or, ap, ◌∙◌, arith, zero-add}
use Rattle.pt_meaning.specs.Running.{total}
use Rattle.pt_sdf_parts.specs.ByNeed.{place_of}
use Rattle.pt_sdf_parts.proofs.NeedLaws.{part-fits}
use Rattle.pt_sdf_parts.proofs.TableLaws.{begins-at, begins-long}
use Rattle.pt_sdf_parts.proofs.tables.Tables.of.Goals as goal

pub lanes_of-requires-clause-offsets : goal.lanes_of-requires-clause-offsets
lanes_of-requires-clause-offsets c i h = ap (λ v. get_or v i 0) (c.deref-2.ensures.value ∙ c.in_ok-offsets.ensures) ∙ begins-at 0 c.as_slice-places.result.now i h ∙ zero-add (place_of c.as_slice-places.result.now i)

pub lanes_of-requires-clause-offsets_counted : goal.lanes_of-requires-clause-offsets_counted
lanes_of-requires-clause-offsets_counted c = ap (λ v. length v) (c.deref-2.ensures.value ∙ c.in_ok-offsets.ensures) ∙ begins-long 0 c.as_slice-places.result.now

pub lanes_of-requires-clause-needed : goal.lanes_of-requires-clause-needed
lanes_of-requires-clause-needed c i h = omega (arith, part-fits c.as_slice-places.result.now i h, c.requires.needed, ap (λ v. length v) c.as_slice.ensures, ap (λ v. total v) c.as_slice-places.ensures)
