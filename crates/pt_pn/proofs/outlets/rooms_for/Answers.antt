use Rattle.std.proofs.Common.{◌≡◌, ℕ, ◌+◌, [], ◌∷◌, length, refl, ap, sym, subst, ◌∙◌, arith, length-append}
use Rattle.pt_recv.specs.Lines.{list_at}
use Rattle.pt_pn.specs.Outlets.{HaveRoom}
use Rattle.pt_pn.proofs.OutletLaws.{rooms-more}
use Rattle.pt_pn.proofs.outlets.rooms_for.Goals as goal

pub loop-channel-init : goal.loop-channel-init
loop-channel-init c = record {
  counted = let e = ap (λ v. length v) c.in_ok-rooms.ensures.items in omega (arith, e);
  rooms = λ j a l. let e = ap (λ v. length v) c.in_ok-rooms.ensures.items in absurd (omega (arith, e, l));
}

pub loop-channel-preserved : goal.loop-channel-preserved
loop-channel-preserved c =
    let k : ℕ = length c.loop-channel.rooms.items in
    let here : c.loop-channel.channel ≡ c.args.from + k = sym c.loop-channel.invariant.counted in
    record {
      counted = let e = ap (λ v. length v) c.in_ok-push.ensures.items ∙ length-append c.loop-channel.rooms.items (c.in_ok-room.room ∷ []) in omega (arith, e, c.loop-channel.invariant.counted);
      rooms = subst (λ v. HaveRoom c.args.queues.now.lists c.args.from 0 v) (sym c.in_ok-push.ensures.items)
          (rooms-more c.args.queues.now.lists c.args.from k c.loop-channel.rooms.items c.in_ok-room.room c.len.result refl c.loop-channel.invariant.rooms c.in_ok-room.ensures.empty (c.len.ensures ∙ ap (λ d. length (list_at c.args.queues.now.lists d)) here) c.in_ok-room.ensures.room);
    }

pub returns-clause-counted : goal.returns-clause-counted
returns-clause-counted c = omega (arith, c.loop-channel.invariant.counted, c.loop-channel-test.false, c.loop-channel.auto.channel-end c.requires.within)
