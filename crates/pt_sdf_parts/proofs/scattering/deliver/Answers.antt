use Rattle.std.proofs.Common.{◌≡◌, ℕ, ◌-◌, ◌<◌, ◌≤◌, List, [], ◌++◌, length, get_or, take, drop, map, set, Bool, true, false, if◌then◌else◌, ap, ◌∙◌, sym, subst, arith, refl, length-set}
use Rattle.std.proofs.lemmas.List.{drop_all}
use Rattle.pt_meaning.specs.Streams.{Streams, at}
use Rattle.pt_recv.specs.Lines.{spare_at, list_at}
use Rattle.pt_value.specs.declared.token.Token.{Token}
use Rattle.pt_sdf_parts.specs.declared.feeds.Feed.{Feed}
use Rattle.pt_sdf_parts.specs.Feeds.{no_feed, target_of, put_back}
use Rattle.pt_sdf_parts.proofs.FeedLaws.{next-put, next-front, next-behind, next-ports}
use Rattle.pt_sdf_parts.proofs.scattering.deliver.Goals as goal

pub loop-k-init : goal.loop-k-init
loop-k-init c = record {
  lists = ap (λ v. put_back (map target_of v) c.args.outputs c.args.channels.now.lists) (sym (drop_all (length c.args.feeds.now) c.args.feeds.now (omega arith)));
  counted = refl;
  staged = c.requires.staged;
  outputs = refl;
  ports = λ j h. refl;
  room = c.requires.room;
}

pub deliver_one-requires : goal.deliver_one-requires
deliver_one-requires c =
    let F : List Feed = c.args.feeds.now in
    let i : ℕ = c.loop-k.k - 1 in
    let l : i < c.loop-k.k = omega (arith, c.loop-k-test.true) in
    let h : i < length F = omega (arith, l, c.loop-k.auto.k) in
    let p : at c.loop-k.outputs (get_or F i no_feed).port ≡ at c.args.outputs (get_or F i no_feed).port = c.loop-k.invariant.ports i l in
    record {
      given = omega (arith, c.requires.there.channels i h, c.loop-k.invariant.counted);
      port = omega (arith, c.requires.there.ports i h, c.loop-k.invariant.outputs);
      room = subst (λ v. length v ≤ spare_at c.loop-k.channels.spares (get_or F i no_feed).channel) (sym p) (c.loop-k.invariant.room i l);
      copied = λ m. subst (λ v. take (length v) c.loop-k.staged.list ≡ v) (sym p) (next-front F c.loop-k.k c.loop-k-test.true (omega (arith, c.loop-k.auto.k)) c.args.outputs c.loop-k.staged.list m c.loop-k.invariant.staged);
    }

pub loop-k-preserved : goal.loop-k-preserved
loop-k-preserved c =
    let F : List Feed = c.args.feeds.now in
    let k : ℕ = c.loop-k.k in
    let f : Feed = get_or F (k - 1) no_feed in
    let a : 0 < k = c.loop-k-test.true in
    let b : k ≤ length F = omega (arith, c.loop-k.auto.k) in
    let p : at c.loop-k.outputs f.port ≡ at c.args.outputs f.port = c.loop-k.invariant.ports (k - 1) (omega (arith, a)) in
    record {
      lists = next-put F k a b c.args.outputs c.args.channels.now.lists c.loop-k.channels.lists c.deliver_one.new.channels.lists f (at c.loop-k.outputs f.port) refl c.loop-k.invariant.lists p c.deliver_one.ensures.lists;
      counted = ap (λ v. length v) c.deliver_one.ensures.lists ∙ length-set c.loop-k.channels.lists f.channel (list_at c.loop-k.channels.lists f.channel ++ at c.loop-k.outputs f.port) ∙ c.loop-k.invariant.counted;
      staged =
          next-behind F k a b c.args.outputs c.loop-k.staged.list c.deliver_one.new.staged.list
          (c.deliver_one.ensures.staged ∙ ap (λ (v : List Token). if f.moves then c.loop-k.staged.list else drop (length v) c.loop-k.staged.list) p) c.loop-k.invariant.staged;
      outputs = ap (λ v. length v) c.deliver_one.ensures.outputs ∙ as-many f.moves c.loop-k.outputs f.port ∙ c.loop-k.invariant.outputs;
      ports = next-ports F k a b c.args.outputs c.loop-k.outputs c.deliver_one.new.outputs c.requires.moves c.deliver_one.ensures.outputs c.loop-k.invariant.ports;
      room = λ j l.
          subst (λ v. length (at c.args.outputs (get_or F j no_feed).port) ≤ v) (sym (c.deliver_one.ensures.others (get_or F j no_feed).channel (λ z. c.requires.apart j (k - 1) l (omega (arith, a, b)) z)))
          (c.loop-k.invariant.room j (omega (arith, l)));
    }
  where
    as-many : (m : Bool) (X : Streams Token) (n : ℕ) → length (if m then set X n [] else X) ≡ length X
    as-many true X n = length-set X n []
    as-many false X n = refl
