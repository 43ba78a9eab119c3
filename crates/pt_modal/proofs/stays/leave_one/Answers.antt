use Rattle.std.proofs.Common.{◌<◌, ◌≤◌, length, set, ap, ◌∙◌, arith}
use Rattle.pt_meaning.specs.Modal.{Stay, left_at}
use Rattle.pt_modal.proofs.StayLaws.{change-there, change-past}
use Rattle.pt_modal.proofs.stays.leave_one.Goals as goal

pub returns-then-refinement-len : goal.returns-then-refinement-len
returns-then-refinement-len c =
    let short : c.args.refinement < length c.args.stays.now.items = omega (arith, c.if-refinement-len.true, c.len.ensures) in
    ap (λ (r : Stay). set c.args.stays.now.items c.args.refinement r) c.left.ensures ∙ change-there (left_at c.args.time) c.args.stays.now.items c.args.refinement c.index.result.now short c.index.ensures

pub returns-else-refinement-len : goal.returns-else-refinement-len
returns-else-refinement-len c =
    let past : length c.args.stays.now.items ≤ c.args.refinement = omega (arith, c.if-refinement-len.false, c.len.ensures) in
    change-past (left_at c.args.time) c.args.stays.now.items c.args.refinement past
