use Rattle.std.proofs.Common.{drop}
use Rattle.pt_write.specs.Written.{items_tokens}
use Rattle.pt_write.proofs.Appending.{Left}
use Rattle.pt_write.proofs.fields.write_items.Given as goal

abbrev pub invariant-loop-part : goal.invariant-loop-part
invariant-loop-part g l = Left l.initial.out l.out (items_tokens (g.P.Part.values (drop l.part-index l.parts))) (items_tokens (g.P.Part.values l.parts))
