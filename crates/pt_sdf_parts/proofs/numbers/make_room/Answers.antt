use Rattle.std.proofs.Common.{◌-◌, ◌<◌, ◌≤◌, length, get_or, ◌∙◌, sym, subst, arith, ⊎_elim}
use Rattle.std.proofs.lemmas.Bool.{cases_eq}
use Rattle.std.proofs.Math.Nat.{le_trans}
use Rattle.pt_recv.specs.Lines.{spare_at}
use Rattle.pt_sdf_parts.specs.Feeds.{no_feed}
use Rattle.pt_sdf_parts.proofs.numbers.make_room.Goals as goal

pub make_room_on-requires : goal.make_room_on-requires
make_room_on-requires c = subst (λ v. (get_or c.args.feeds.now (c.loop-k.k - 1) no_feed).channel < length v) (sym c.loop-k.invariant.lists) (c.requires.there.channels (c.loop-k.k - 1) (omega (arith, c.loop-k-test.true, c.loop-k.auto.k)))

pub loop-k-preserved : goal.loop-k-preserved
loop-k-preserved c = record {
  lists = c.make_room_on.ensures.lists ∙ c.loop-k.invariant.lists;
  room = λ j h l.
      ⊎_elim
      (λ e. subst (λ i. c.args.n ≤ spare_at c.make_room_on.new.channels.spares (get_or c.args.feeds.now i no_feed).channel) (sym e) c.in_ok-make_room_on.ensures.room)
      (λ z. le_trans (c.loop-k.invariant.room j (omega (arith, h, z)) l) (c.make_room_on.ensures.keeps (get_or c.args.feeds.now j no_feed).channel)) (cases_eq j (c.loop-k.k - 1));
}
