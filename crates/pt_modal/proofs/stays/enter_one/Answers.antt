use Rattle.std.proofs.Common.{◌<◌, ◌≤◌, length, set, ap, ◌∙◌, arith}
use Rattle.pt_meaning.specs.Modal.{Stay, entered_at, fresh_unless}
use Rattle.pt_modal.proofs.StayLaws.{change-there, change-past, changed-twice}
use Rattle.pt_modal.proofs.stays.enter_one.Goals as goal

pub returns-then-refinement-len : goal.returns-then-refinement-len
returns-then-refinement-len c =
    let stays = c.args.stays.now.items in
    let short : c.args.refinement < length c.args.stays.now.items = omega (arith, c.if-refinement-len.true, c.len.ensures) in
    ap (λ (r : Stay). set stays c.args.refinement r) (c.entered.ensures ∙ ap (entered_at c.args.time) c.refreshed.ensures)
    ∙ change-there (λ r. entered_at c.args.time (fresh_unless c.args.history r)) stays c.args.refinement c.index.result.now short c.index.ensures
    ∙ changed-twice (fresh_unless c.args.history) (entered_at c.args.time) c.args.refinement stays

pub returns-else-refinement-len : goal.returns-else-refinement-len
returns-else-refinement-len c =
    let stays = c.args.stays.now.items in
    let past : length c.args.stays.now.items ≤ c.args.refinement = omega (arith, c.if-refinement-len.false, c.len.ensures) in
    change-past (λ r. entered_at c.args.time (fresh_unless c.args.history r)) stays c.args.refinement past ∙ changed-twice (fresh_unless c.args.history) (entered_at c.args.time) c.args.refinement stays
