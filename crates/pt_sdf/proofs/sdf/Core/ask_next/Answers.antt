use Rattle.std.proofs.Common.{ℕ, ◌<◌, length, ap, ◌∙◌, subst, arith}
use Rattle.pt_sdf.specs.State.{Allows, IsEnough, in_stage, asked, Closed}
use Rattle.pt_sdf.specs.Clauses.{State}
use Rattle.pt_sdf.specs.declared.sdf.Stage.TheVariants as code
use Rattle.pt_sdf.proofs.CoreLaws.{is-open, seen-at, enough-fired, asked-there, asked-allowed, ask-alone}
use Rattle.pt_sdf_parts.proofs.StretchLaws.{next-child}
use Rattle.pt_sdf.proofs.sdf.Core.ask_next.Goals as goal

pub returns-then-self-eq0 : goal.returns-then-self-eq0
returns-then-self-eq0 c =
    let seen = seen-at c.self.inside code.Open (is-open c.self.inside c.args.self.now c.self.view_is c.requires) ∙ c.self.view_is in (
      c.requires,
      subst (λ (s : State). IsEnough s) seen (enough-fired c.self.inside c.self.invariant.sound c.if-self-eq0.true),
      ap (λ (s : State). in_stage Closed s) seen,
    )

pub invariant_of-self-2 : goal.invariant_of-self-2
invariant_of-self-2 c =
    let l : 0 < c.self.inside.left = omega (arith, c.if-self-eq0.false) in
    let next = next-child c.self.inside.plan.order.items c.self.inside.at c.self.inside.done c.index.result.now (c.self.invariant.stretch l) c.index.ensures in
    record {
      sound = ask-alone c.self.inside c.self.invariant.sound (is-open c.self.inside c.args.self.now c.self.view_is c.requires) l c.index.result.now.child next;
      stretch = c.self.invariant.stretch;
      lanes = c.self.invariant.lanes;
    }

pub returns : goal.returns
returns c =
    let g = is-open c.self.inside c.args.self.now c.self.view_is c.requires in
    let l : 0 < c.self.inside.left = omega (arith, c.if-self-eq0.false) in
    let child : ℕ = c.index.result.now.child in
    let next = next-child c.self.inside.plan.order.items c.self.inside.at c.self.inside.done c.index.result.now (c.self.invariant.stretch l) c.index.ensures in
    let seen = seen-at c.self.inside code.Open g ∙ c.self.view_is in (
      c.requires,
      subst (λ (s : State). child < length s.plan.net.places) seen (asked-there c.self.inside c.self.invariant.sound g l child next),
      subst (λ (s : State). Allows s child) seen (asked-allowed c.self.inside c.self.invariant.sound g l child next),
      ap (λ (s : State). s.tag) seen,
      ap (λ (s : State). asked child s) seen,
    )

pub index-requires : goal.index-requires
index-requires c = omega (arith, (c.self.invariant.stretch (omega (arith, c.if-self-eq0.false))).there, c.self.inside.plan.order.ok.0)
