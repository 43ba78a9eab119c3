use Rattle.std.proofs.Common.{ℕ, ◌<◌, ◌+◌, length, get_or, drop, ap, ◌∙◌, sym, arith, refl, length-set}
use Rattle.pt_sr.specs.Feeds.{no_feed}
use Rattle.pt_sr.specs.Given.{gifts}
use Rattle.pt_sr.proofs.GivenLaws.{last-staged, next-learnt, all-learnt}
use Rattle.pt_sr.proofs.given.deliver.Goals as goal

pub loop-k-init : goal.loop-k-init
loop-k-init c = record { counted = refl; staged = λ given e. e; learnt = λ given e. refl }

pub learn-news-requires : goal.learn-news-requires
learn-news-requires c = omega (arith, c.requires.there c.loop-k.k c.loop-k-test.true, c.loop-k.invariant.counted)

pub loop-k-preserved : goal.loop-k-preserved
loop-k-preserved c =
    let k : ℕ = c.loop-k.k in
    let l : k < length c.args.feeds.now = c.loop-k-test.true in
    record {
      counted = ap (λ v. length v) c.learn-news.ensures ∙ length-set c.loop-k.signals (get_or c.args.feeds.now k no_feed).channel _ ∙ c.loop-k.invariant.counted;
      staged = λ given e. (c.next_gift.ensures (gifts given (drop (k + 1) c.args.feeds.now)) (given (get_or c.args.feeds.now k no_feed).port) (last-staged c.args.feeds.now k l given c.loop-k.staged.items (c.loop-k.invariant.staged given e))).1;
      learnt = λ given e.
          next-learnt c.args.feeds.now k l given c.loop-k.signals c.learn-news.new.self (get_or c.args.feeds.now k no_feed).channel c.next_gift.result refl
          (c.next_gift.ensures (gifts given (drop (k + 1) c.args.feeds.now)) (given (get_or c.args.feeds.now k no_feed).port) (last-staged c.args.feeds.now k l given c.loop-k.staged.items (c.loop-k.invariant.staged given e))).0 c.learn-news.ensures
          ∙ c.loop-k.invariant.learnt given e;
    }

pub returns : goal.returns
returns c given e = sym (all-learnt given c.args.feeds.now c.loop-k.k c.loop-k.signals (omega (arith, c.loop-k-test.false))) ∙ c.loop-k.invariant.learnt given e
