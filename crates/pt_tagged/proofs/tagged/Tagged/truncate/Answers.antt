use Rattle.std.proofs.Common.{◌≡◌, ◌+◌, ◌∙◌, ap, ◌-◌, take, length, arith}
use Rattle.pt_tagged.proofs.TaggedLaws.{take-row, take-rest}
use Rattle.pt_tagged.proofs.tagged.Tagged.truncate.Goals as goal

pub returns-then-count-row : goal.returns-then-count-row
returns-then-count-row c =
    let row = c.len-row.ensures ∙ c.self.inside.numbers.ok.0 in
    rw (c.truncate.ensures.items, c.clear.ensures.items) (take-row c.self.inside.tag c.self.inside.numbers.items c.self.inside.rest.items c.args.count (omega (arith, c.if-count-row.true, row)) ∙ ap (λ v. take c.args.count v) c.self.view_is)

pub returns-else-count-row : goal.returns-else-count-row
returns-else-count-row c =
    let row = c.len-row.ensures ∙ c.self.inside.numbers.ok.0 in
    let whole : length c.self.inside.numbers.items + (c.args.count - c.len-row.result) ≡ c.args.count = omega (arith, c.if-count-row.false, row) in
    rw (c.truncate-else-count-row.ensures.items) (take-rest c.self.inside.tag c.self.inside.numbers.items c.self.inside.rest.items (c.args.count - c.len-row.result) c.args.count whole ∙ ap (λ v. take c.args.count v) c.self.view_is)
