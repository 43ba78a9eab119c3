use Rattle.std.proofs.Common.{◌≡◌, [], ◌∷◌, ◌≤◌, ◌+◌, max, get_or, length, ap, subst, sym, ◌∙◌, arith, length-append}
use Rattle.std.proofs.lemmas.List.{take_all}
use Rattle.pt_meaning.specs.Streams.{at}
use Rattle.pt_reaction.specs.Channels.{lists_of}
use Rattle.pt_puts.proofs.LineLaws.{lines-next}
use Rattle.pt_puts.specs.Lines.{room_at}
use Rattle.pt_rv_parts.proofs.CopyLaws.{HasRoomAt, rooms-next}
use Rattle.pt_rv_parts.proofs.GatherLaws.{taken-under}
use Rattle.pt_rv_parts.proofs.copied.lines_again.Goals as goal

pub loop-line-preserved : goal.loop-line-preserved
loop-line-preserved c =
    let k : c.len-place.result ≡ c.loop-line.line-index = omega (arith, c.len-place.ensures, c.loop-line.invariant.counted, c.loop-line.copies.ok.0) in
    let room : c.room_of-room.result ≡ max (get_or c.args.counts.now c.loop-line.line-index 0) c.least_room-least.result = c.room_of-room.ensures ∙ ap (λ j. max (get_or c.args.counts.now j 0) c.least_room-least.result) k in
    record {
      counted = let e = ap (λ v. length v) c.in_ok-push.ensures.items ∙ length-append c.loop-line.copies.items (c.in_ok-copy.copy ∷ []) in omega (arith, e, c.loop-line.invariant.counted);
      lists = ap lists_of c.in_ok-push.ensures.items ∙ lines-next c.args.lines.now c.loop-line.copies.items c.loop-line.line-index c.line-item.result c.in_ok-copy.copy c.loop-line-test.true c.line-item.is c.in_ok-copy.ensures.list c.loop-line.invariant.lists;
      rooms = λ q l. subst (λ v. HasRoomAt c.args.counts.now c.least_room-least.result v q) (sym c.in_ok-push.ensures.items)
          (rooms-next c.args.counts.now c.least_room-least.result c.loop-line.copies.items c.in_ok-copy.copy c.loop-line.line-index c.loop-line.invariant.counted c.loop-line.invariant.rooms (subst (λ n. n ≤ length c.in_ok-copy.copy.list + c.in_ok-copy.copy.spare) room c.in_ok-copy.ensures.room) q l);
    }

pub returns-clause-lists : goal.returns-clause-lists
returns-clause-lists c = c.loop-line.invariant.lists ∙ ap lists_of (take_all c.loop-line.line-index c.args.lines.now (omega (arith, c.loop-line-test.false)))

pub returns-clause-rooms : goal.returns-clause-rooms
returns-clause-rooms c q l = taken-under c.args.is_barrier c.args.counts.now c.least_room-least.result q (length (at (lists_of c.loop-line.copies.items) q) + room_at c.loop-line.copies.items q) c.least_room-least.ensures (c.loop-line.invariant.rooms q (omega (arith, l, c.loop-line-test.false)))
