use Rattle.std.proofs.Common.{arith, sym, ap, ◌∙◌}
use Rattle.std.specs.Prelude.{Some}
use Rattle.std.proofs.lemmas.Option.{slice_get-get_or}
use Rattle.pt_job.proofs.Order.{few-steps, ascends}
use Rattle.pt_job.proofs.Paired.{all-tags}
use Rattle.pt_job.proofs.events.at_tags.Goals as goal

-- an event has few microsteps
pub tag_of-requires : goal.tag_of-requires
tag_of-requires c =
    let e = c.index-events-number.result in
    let h = few-steps c.args.events.now c.loop-number.number e c.requires.order (slice_get-get_or c.args.events.now c.loop-number.number e (omega (arith, c.loop-number-test.true, c.requires.each)) ∙ ap Some (sym c.index-events-number.is)) in
    omega (arith, h)

pub returns-clause-ascend : goal.returns-clause-ascend
returns-clause-ascend c =
    ascends c.loop-number.list.items c.args.events.now
    (all-tags c.args.events.now c.args.tokens.now c.loop-number.number c.loop-number.list.items c.loop-number.invariant c.requires.each c.loop-number-test.false)
    c.requires.order
