use Rattle.std.proofs.Common.{◌-◌, ◌<◌, ◌≤◌, length, get_or, ◌∙◌, sym, subst, arith, ⊎_elim}
use Rattle.std.proofs.lemmas.Bool.{cases_eq}
use Rattle.std.proofs.Math.Nat.{le_trans}
use Rattle.pt_meaning.specs.Streams.{at}
use Rattle.pt_recv.specs.Lines.{spare_at}
use Rattle.pt_sdf_parts.specs.Feeds.{no_feed}
use Rattle.pt_sdf_parts.proofs.FeedLaws.{next-staged}
use Rattle.pt_sdf_parts.proofs.scattering.prepare.Goals as goal

pub list-tokens-requires : goal.list-tokens-requires
list-tokens-requires c = c.requires.there.ports (c.loop-k.k - 1) (omega (arith, c.loop-k-test.true, c.loop-k.auto.k))

pub prepare_one-requires : goal.prepare_one-requires
prepare_one-requires c = subst (λ v. (get_or c.args.feeds.now (c.loop-k.k - 1) no_feed).channel < length v) (sym c.loop-k.invariant.lists) (c.requires.there.channels (c.loop-k.k - 1) (omega (arith, c.loop-k-test.true, c.loop-k.auto.k)))

pub loop-k-preserved : goal.loop-k-preserved
loop-k-preserved c = record {
  lists = c.prepare_one.ensures.lists ∙ c.loop-k.invariant.lists;
  staged = next-staged c.args.feeds.now c.loop-k.k c.loop-k-test.true (omega (arith, c.loop-k.auto.k)) c.args.outputs.now c.loop-k.staged.list c.prepare_one.new.staged.list c.list-tokens.result.now _ c.list-tokens.ensures c.in_ok-prepare_one.ensures.staged c.loop-k.invariant.staged;
  room = λ j h l.
      ⊎_elim
      (λ e.
      subst (λ i. length (at c.args.outputs.now (get_or c.args.feeds.now i no_feed).port) ≤ spare_at c.prepare_one.new.channels.spares (get_or c.args.feeds.now i no_feed).channel) (sym e)
      (subst (λ v. length v ≤ spare_at c.prepare_one.new.channels.spares (get_or c.args.feeds.now (c.loop-k.k - 1) no_feed).channel) c.list-tokens.ensures c.in_ok-prepare_one.ensures.room))
      (λ z. le_trans (c.loop-k.invariant.room j (omega (arith, h, z)) l) (c.prepare_one.ensures.keeps (get_or c.args.feeds.now j no_feed).channel)) (cases_eq j (c.loop-k.k - 1));
}
