use Rattle.std.proofs.Common.{ℕ, Option, IfSome, sym, ap, subst, ◌∙◌}
use Rattle.pt_meaning.specs.Tag.{Tag}
use Rattle.pt_pn.specs.Waiting.{AwaitsGrowth}
use Rattle.pt_pn.proofs.GrowingLaws.{least-none, least-some, least-there, ranked-now}
use Rattle.pt_pn.proofs.pn.Core.best_noted.Goals as goal

pub returns-in_default-clause-best : goal.returns-in_default-clause-best
returns-in_default-clause-best c = least-none c.self.inside c.self.invariant c.args.self.now c.self.view_is (c.are_settled.ensures c.if-not-are_settled.false) (sym c.in_default.ensures)

pub returns-in-Some-of_rank-clause-best : goal.returns-in-Some-of_rank-clause-best
returns-in-Some-of_rank-clause-best c =
    least-some c.self.inside c.self.invariant c.args.self.now c.self.view_is (c.are_settled.ensures c.if-not-are_settled.false) (record { time = c.rank.inside.time; step = c.rank.inside.step }) (sym c.in-Some.ensures ∙ ap (λ (t : Tag). Option.Some t) (sym c.rank.view_is)) c.writer-process.result c.in-Some-of_rank.found
    (subst (λ (o : Option ℕ). IfSome o (λ k. AwaitsGrowth c.args.self.now c.writer-process.result c.rank.inside.step k)) c.in-Some-of_rank.ensures.given c.growing-capacity.ensures.some) (c.in-Some-of_rank.ensures.time ∙ ap (λ (t : Tag). t.time) (sym c.rank.view_is))

pub returns-in-Some-of_rank-clause-there : goal.returns-in-Some-of_rank-clause-there
returns-in-Some-of_rank-clause-there c =
    least-there c.self.inside c.self.invariant c.args.self.now c.self.view_is c.writer-process.result c.rank.inside.step c.in-Some-of_rank.found
    (subst (λ (o : Option ℕ). IfSome o (λ k. AwaitsGrowth c.args.self.now c.writer-process.result c.rank.inside.step k)) c.in-Some-of_rank.ensures.given c.growing-capacity.ensures.some)

pub invariant_of-self : goal.invariant_of-self
invariant_of-self c = record {
  kept = c.self.invariant.kept;
  stage = c.self.invariant.stage;
  settled = ranked-now c.self.inside c.self.invariant c.args.self.now c.self.view_is c.writer-process.result c.rank.inside.step c.writer-process.ensures c.growing-capacity.result c.growing-capacity.ensures.some c.growing-capacity.ensures.none c.note_rank.new.self c.note_rank.ensures;
}
