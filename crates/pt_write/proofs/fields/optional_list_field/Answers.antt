use Rattle.std.proofs.Common.{Bool, ap, ◌∙◌, ◌++◌}
use Rattle.pt_write.specs.Written.{items_tokens}
use Rattle.pt_write.specs.Appends.{opening, closing}
use Rattle.pt_write.proofs.Appending.{then, same_tokens, optional_list_tokens}
use Rattle.pt_write.proofs.fields.optional_list_field.Goals as goal

pub returns : goal.returns
returns g c =
    let k = c.args.key.now in
    let items = items_tokens (g.P.Part.values c.args.parts.now) in
    same_tokens (ap (λ (b : Bool). opening k b ++ (items ++ closing b)) c.is_empty-is_empty.ensures ∙ optional_list_tokens g.P.Part.value g.P.Part.values g.met.P.Part.of_none g.met.P.Part.of_more k c.args.parts.now)
    (then c.in_ok-open_list.ensures (then c.in_ok-write_items.ensures c.in_ok-close_list.ensures))
