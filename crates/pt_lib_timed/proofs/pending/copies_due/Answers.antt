use Rattle.std.proofs.Common.{◌≡◌, ◌<◌, length, false, sym, ◌∙◌, arith}
use Rattle.pt_meaning.specs.Tag.{tag_le}
use Rattle.pt_lib_timed.proofs.PendingLaws.{copy-stops}
use Rattle.pt_lib_timed.proofs.pending.copies_due.Goals as goal

pub returns-then-ascending : goal.returns-then-ascending
returns-then-ascending c =
    let short : c.loop-k.k < length c.args.events.now.items = omega (arith, c.loop-k-test.true, c.len-k-end.ensures, c.args.events.now.ok.0) in
    let later : tag_le c.index-event.result.now.0 c.args.tag ≡ false = sym c.is_up_to.ensures ∙ c.if-is_up_to.false in
    copy-stops c.args.tag c.args.events.now.items c.loop-k.k c.loop-k.copies c.index-event.result.now (c.requires c.if-ascending.true) c.loop-k.invariant short c.index-event.ensures later
