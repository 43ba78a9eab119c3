use Rattle.std.proofs.Common.{ℕ, List, codes, subst}
use Rattle.pt_write.specs.Written.{slot_tokens}
use Rattle.pt_write.specs.Document.{text_slot}
use Rattle.pt_write.specs.Appends.{Appends}
use Rattle.pt_write.proofs.Appending.{then}
use Rattle.pt_write.proofs.inputs.EventPart.write.Goals as goal

pub returns : goal.returns
returns c =
    let value = subst (λ (s : List ℕ). Appends c.whole_field-2.new.out c.text_field.new.out (slot_tokens (codes "value") (text_slot s))) c.as_str.ensures c.in_ok-text_field.ensures in
    then c.in_ok-begin_object.ensures (then c.in_ok-whole_field.ensures (then c.in_ok-whole_field-2.ensures (then value c.in_ok-end_object.ensures)))
