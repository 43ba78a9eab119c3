use Rattle.std.proofs.Common.{◌≡◌, ◌⊎◌, inl, inr, ℕ, ◌+◌, ◌<◌, true, ap, sym, subst, ◌∙◌, arith}
use Rattle.pt_pn_laws.specs.State.{offset_of}
use Rattle.pt_rv_work.specs.Core.{offer_in}
use Rattle.pt_rv.specs.Parties.{moving_in, is_there}
use Rattle.pt_rv.proofs.BarrierLaws.{all-offered, not-offered}
use Rattle.pt_rv.proofs.offers.is_all_offered.Goals as goal

more : (P : ℕ → Type 0) (k : ℕ) → ((q : ℕ) → q < k → P q) → P k → (q : ℕ) → q < k + 1 → P q
more P k h e q l = by (split q k l)
  where
    split : (q k : ℕ) → q < k + 1 → (q < k) ⊎ (k ≡ q)
    split q k l = grind arith

    by : (q < k) ⊎ (k ≡ q) → P q
    by (inl w) = h q w
    by (inr z) = subst P z e

pub channel_at-requires : goal.channel_at-requires
channel_at-requires c = record {
  there = c.requires.there;
  within = let l = c.loop-place-test.true in let e = c.places-place-end.ensures in omega (arith, l, e);
}

pub returns-then-not-is_offered : goal.returns-then-not-is_offered
returns-then-not-is_offered c =
    not-offered c.args.plan.now.plan.net (moving_in c.args.parties.now) c.args.barrier c.loop-place.place c.requires.there (let l = c.loop-place-test.true in let e = c.places-place-end.ensures in omega (arith, l, e))
    (ap (λ k. is_there (offer_in c.args.plan.now.plan.net (moving_in c.args.parties.now) k)) (sym c.channel_at.ensures) ∙ sym c.is_offered.ensures ∙ c.if-not-is_offered.true)

pub loop-place-preserved : goal.loop-place-preserved
loop-place-preserved c =
    more (λ q. is_there (offer_in c.args.plan.now.plan.net (moving_in c.args.parties.now) (offset_of c.args.plan.now.plan.net.places c.args.barrier + q)) ≡ true) c.loop-place.place c.loop-place.invariant
    (ap (λ k. is_there (offer_in c.args.plan.now.plan.net (moving_in c.args.parties.now) k)) (sym c.channel_at.ensures) ∙ sym c.is_offered.ensures ∙ c.if-not-is_offered.false)

pub returns : goal.returns
returns c = all-offered c.args.plan.now.plan.net (moving_in c.args.parties.now) c.args.barrier c.requires.there (λ q l. c.loop-place.invariant q (let t = c.loop-place-test.false in let e = c.places-place-end.ensures in omega (arith, l, t, e)))
