use Rattle.std.proofs.Common.{ℕ, ◌-◌, ◌<◌, ◌≤◌, length, ap, ◌∙◌, arith, refl}
use Rattle.pt_meaning.specs.Streams.{at}
use Rattle.pt_reaction.proofs.GivenLaws.{nothing-staged, next-staged, next-room}
use Rattle.pt_reaction.proofs.given.stage_inputs.Goals as goal

pub loop-k-init : goal.loop-k-init
loop-k-init c = record {
  lists = refl;
  staged = c.clear.ensures.items ∙ nothing-staged (at c.args.inputs.now) c.args.feeds.now (length c.args.feeds.now) refl;
  room = λ j l m. absurd (omega (arith, l, m));
}

pub stage-requires : goal.stage-requires
stage-requires c =
    let k : ℕ = c.loop-k.k in
    let a : 0 < k = c.loop-k-test.true in
    let b : k ≤ length c.args.feeds.now = omega (arith, c.loop-k.auto.k) in
    let t = c.requires.there (k - 1) (omega (arith, a, b)) in
    let e = ap (λ v. length v) c.loop-k.invariant.lists in
    omega (arith, t, e)

pub loop-k-preserved : goal.loop-k-preserved
loop-k-preserved c =
    let k : ℕ = c.loop-k.k in
    let a : 0 < k = c.loop-k-test.true in
    let b : k ≤ length c.args.feeds.now = omega (arith, c.loop-k.auto.k) in
    let g = c.in_ok-tokens.ensures in
    record {
      lists = c.in_ok-stage.ensures.lists ∙ c.loop-k.invariant.lists;
      staged = next-staged c.args.feeds.now k a b (at c.args.inputs.now) c.loop-k.staged.items c.stage.new.staged.items c.in_ok-tokens.tokens c.in_ok-stage.ensures.staged g c.loop-k.invariant.staged;
      room = next-room c.args.feeds.now k a b (at c.args.inputs.now) c.loop-k.channels.spares c.stage.new.channels.spares c.in_ok-tokens.tokens g c.in_ok-stage.ensures.room c.in_ok-stage.ensures.keeps c.loop-k.invariant.room;
    }

pub returns-clause-room : goal.returns-clause-room
returns-clause-room c = λ j l. c.loop-k.invariant.room j (omega (arith, c.loop-k-test.false)) l
