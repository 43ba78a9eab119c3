use Rattle.std.proofs.Common.{◌∙◌, sym, ap, ap₂, ◌+◌, length}
use Rattle.pt_tagged.proofs.TaggedLaws.{length-row}
use Rattle.pt_tagged.proofs.tagged.Tagged.len.Goals as goal

pub returns : goal.returns
returns c =
    let numbers = c.len.ensures ∙ c.self.inside.numbers.ok.0 in
    let rest = c.len-2.ensures ∙ c.self.inside.rest.ok.0 in
    ap₂ (λ m n. m + n) numbers rest ∙ sym (length-row c.self.inside.tag c.self.inside.numbers.items c.self.inside.rest.items) ∙ ap length c.self.view_is
