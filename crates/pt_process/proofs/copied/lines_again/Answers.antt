use Rattle.std.proofs.Common.{[], ◌∷◌, length, ap, subst, sym, ◌∙◌, arith, length-append}
use Rattle.std.proofs.lemmas.List.{take_all}
use Rattle.pt_reaction.specs.Channels.{lists_of}
use Rattle.pt_process.proofs.CopyLaws.{HasRoomAt, rooms-next}
use Rattle.pt_puts.proofs.LineLaws.{lines-next}
use Rattle.pt_process.proofs.copied.lines_again.Goals as goal

pub loop-place-preserved : goal.loop-place-preserved
loop-place-preserved c = record {
  counted = let e = ap (λ v. length v) c.in_ok-push.ensures.items ∙ length-append c.loop-place.copies.items (c.in_ok-copy.copy ∷ []) in omega (arith, e, c.loop-place.invariant.counted);
  lists = ap lists_of c.in_ok-push.ensures.items ∙ lines-next c.args.lines.now c.loop-place.copies.items c.loop-place.place c.index-lines-place.result c.in_ok-copy.copy c.loop-place-test.true c.index-lines-place.is c.in_ok-copy.ensures.list c.loop-place.invariant.lists;
  rooms = λ q l.
      subst (λ v. HasRoomAt c.args.counts.now v q) (sym c.in_ok-push.ensures.items) (rooms-next c.args.counts.now c.loop-place.copies.items c.in_ok-copy.copy c.loop-place.place c.count_at.result c.loop-place.invariant.counted c.loop-place.invariant.rooms c.count_at.ensures c.in_ok-copy.ensures.room q l);
}

pub returns-clause-lists : goal.returns-clause-lists
returns-clause-lists c = c.loop-place.invariant.lists ∙ ap lists_of (take_all c.loop-place.place c.args.lines.now (omega (arith, c.loop-place-test.false)))

pub returns-clause-rooms : goal.returns-clause-rooms
returns-clause-rooms c q l = c.loop-place.invariant.rooms q (omega (arith, l, c.loop-place-test.false))
