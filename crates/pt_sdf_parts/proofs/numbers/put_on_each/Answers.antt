use Rattle.std.proofs.Common.{ℕ, ◌-◌, ◌<◌, ◌≤◌, List, [], ◌∷◌, ◌++◌, length, get_or, map, ap, ◌∙◌, sym, subst, arith, refl, length-set}
use Rattle.std.proofs.lemmas.List.{drop_all, get_or-set_other}
use Rattle.pt_recv.specs.Lines.{list_at, spare_at}
use Rattle.pt_value.specs.declared.token.Token.{Token}
use Rattle.pt_value.specs.declared.token.Token.TheVariants.{Int}
use Rattle.pt_sdf_parts.specs.declared.feeds.Feed.{Feed}
use Rattle.pt_sdf_parts.specs.Feeds.{no_feed, target_of, put_back}
use Rattle.pt_sdf_parts.proofs.FeedLaws.{next-put, on-one-port}
use Rattle.pt_sdf_parts.proofs.numbers.put_on_each.Goals as goal

pub loop-k-init : goal.loop-k-init
loop-k-init c = record {
  lists = ap (λ v. put_back (map target_of v) (map Int c.args.numbers.now ∷ []) c.args.channels.now.lists) (sym (drop_all (length c.args.feeds.now) c.args.feeds.now (omega arith)));
  counted = refl;
  room = c.requires.room;
}

pub put_on_one-requires-clause-given : goal.put_on_one-requires-clause-given
put_on_one-requires-clause-given c = omega (arith, c.requires.there.channels (c.loop-k.k - 1) (omega (arith, c.loop-k-test.true, c.loop-k.auto.k)), c.loop-k.invariant.counted)

pub put_on_one-requires-clause-room : goal.put_on_one-requires-clause-room
put_on_one-requires-clause-room c = c.loop-k.invariant.room (c.loop-k.k - 1) (omega (arith, c.loop-k-test.true))

pub loop-k-preserved : goal.loop-k-preserved
loop-k-preserved c =
    let F : List Feed = c.args.feeds.now in
    let k : ℕ = c.loop-k.k in
    let f : Feed = get_or F (k - 1) no_feed in
    let a : 0 < k = c.loop-k-test.true in
    let b : k ≤ length F = omega (arith, c.loop-k.auto.k) in
    let ts : List Token = map Int c.args.numbers.now in
    record {
      lists = next-put F k a b (ts ∷ []) c.args.channels.now.lists c.loop-k.channels.lists c.put_on_one.new.channels.lists f ts refl c.loop-k.invariant.lists (on-one-port ts f.port (c.requires.there.ports (k - 1) (omega (arith, a, b)))) c.put_on_one.ensures.lists;
      counted = ap (λ v. length v) c.put_on_one.ensures.lists ∙ length-set c.loop-k.channels.lists f.channel (list_at c.loop-k.channels.lists f.channel ++ ts) ∙ c.loop-k.invariant.counted;
      room = λ j l.
          subst (λ v. length c.args.numbers.now ≤ v) (sym (ap (λ v. spare_at v (get_or F j no_feed).channel) c.put_on_one.ensures.spares ∙ get_or-set_other c.loop-k.channels.spares f.channel (get_or F j no_feed).channel (spare_at c.loop-k.channels.spares f.channel - length c.args.numbers.now) 0 (λ z. c.requires.apart j (k - 1) l (omega (arith, a, b)) z)))
          (c.loop-k.invariant.room j (omega (arith, l)));
    }
