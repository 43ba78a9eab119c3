use Rattle.std.proofs.Common.{◌&&◌, ap, sym, subst, ◌∙◌, arith}
use Rattle.pt_meaning.specs.Log.{Barrier}
use Rattle.pt_meaning.specs.Meetings.{all_there, hops_in}
use Rattle.pt_rv_work.specs.Core.{offers_in}
use Rattle.pt_rv.specs.Parties.{FitIn, moving_in}
use Rattle.pt_rv.proofs.offers.can_join.Goals as goal

pub is_joined-joined-requires : goal.is_joined-joined-requires
is_joined-joined-requires c = record {
  there = let h = c.requires.fit.there in omega (arith, h, c.requires.there);
  free = c.requires.free;
}

pub returns-then-not-joined-clause-joins : goal.returns-then-not-joined-clause-joins
returns-then-not-joined-clause-joins c =
    sym (ap (λ b. b && all_there (offers_in c.args.plan.now.plan.net (moving_in c.args.parties.now) (hops_in c.args.plan.now.plan.net (Barrier c.args.barrier)))) (sym c.is_joined-joined.ensures.joins ∙ c.if-not-joined.true))

pub is_all_offered-requires : goal.is_all_offered-requires
is_all_offered-requires c = record {
  sound = c.requires.sound;
  fit = subst (λ w. FitIn c.args.plan.now w) (sym c.is_joined-joined.ensures.same) c.requires.fit;
  there = c.requires.there;
}

pub returns-clause-joins : goal.returns-clause-joins
returns-clause-joins c =
    c.is_all_offered.ensures ∙ ap (λ w. all_there (offers_in c.args.plan.now.plan.net (moving_in w) (hops_in c.args.plan.now.plan.net (Barrier c.args.barrier)))) c.is_joined-joined.ensures.same ∙
    sym (ap (λ b. b && all_there (offers_in c.args.plan.now.plan.net (moving_in c.args.parties.now) (hops_in c.args.plan.now.plan.net (Barrier c.args.barrier)))) (sym c.is_joined-joined.ensures.joins ∙ c.if-not-joined.false))
