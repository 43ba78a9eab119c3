use Rattle.std.proofs.Common.{◌≡◌, ℕ, ◌+◌, ◌-◌, arith, ap, subst, ◌∙◌, sym}
use Rattle.pt_meaning.specs.Schedule.{next_event}
use Rattle.pt_agenda.specs.Events.{Ascend}
use Rattle.pt_agenda.proofs.InputLaws.{IsFirstFrom, one-ascends, first-of-more}
use Rattle.pt_agenda.proofs.events.first_event.Goals as goal

pub next_event-requires : goal.next_event-requires
next_event-requires c = subst Ascend (ap (λ v. v.items) (sym c.index-inputs-left.is) ∙ sym c.deref.ensures.value) (one-ascends c.args.inputs.now (c.loop-left.left - 1) c.index-inputs-left.result c.requires (omega (arith, c.loop-left-test.true, c.loop-left.invariant.0)))

pub loop-left-preserved : goal.loop-left-preserved
loop-left-preserved c =
    let k : ℕ = c.loop-left.left - 1 in
    let back : k + 1 ≡ c.loop-left.left = omega (arith, c.loop-left-test.true) in
    let next : c.next_event.result ≡ next_event c.args.last c.index-inputs-left.result.items = c.next_event.ensures ∙ ap (λ v. next_event c.args.last v) c.deref.ensures.value in (
      omega (arith, c.loop-left.invariant.0),
      c.earlier-first.ensures ∙ first-of-more c.args.last c.args.inputs.now k c.index-inputs-left.result c.loop-left.first c.next_event.result (omega (arith, c.loop-left-test.true, c.loop-left.invariant.0)) c.index-inputs-left.is next (subst (λ n. IsFirstFrom c.args.last c.args.inputs.now n c.loop-left.first) (sym back) c.loop-left.invariant.1),
    )
