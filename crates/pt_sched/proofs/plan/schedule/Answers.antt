use Rattle.std.proofs.Common.{ℕ, ◌<◌, ◌≤◌, get_or, sym, subst}
use Rattle.pt_sched.specs.Next.{IsReady, IsReadyFor, ComesNext}
use Rattle.pt_sched.specs.State.{left}
use Rattle.pt_sched.specs.Stretches.{spread}
use Rattle.pt_sched.specs.declared.lists.Side.TheVariants.{Start, End}
use Rattle.pt_sched.specs.declared.search.Next.TheVariants.{Stuck}
use Rattle.pt_sched.proofs.Ends.{numbers-at, unschedulable}
use Rattle.pt_sched.proofs.Listing.{listed-inside}
use Rattle.pt_sched.proofs.Steps.{left-fired, complete}
use Rattle.pt_sched.proofs.plan.schedule.Goals as goal

pub times-times-requires-clause-ins : goal.times-times-requires-clause-ins
times-times-requires-clause-ins c =
    numbers-at c.args.n End c.args.edges.now c.args.q.now c.firings.run.fired.items c.deref-in-firings-2.result.now c.in_ok-ins.ins.items c.deref-in-Ready-2.result.now c.numbers_at-ends.result.now c.in-Ready.child c.requires.counted c.in_ok-ins.ensures c.deref-in-firings-2.ensures.value c.in-Ready.ensures c.deref-in-Ready-2.ensures.value c.numbers_at-ends.ensures

pub times-times-requires-clause-outs : goal.times-times-requires-clause-outs
times-times-requires-clause-outs c =
    listed-inside Start c.args.edges.now c.in-Ready.child c.numbers_at-starts.result.now
    (numbers-at c.args.n Start c.args.edges.now c.args.q.now c.firings.run.fired.items c.deref-in-firings-2.result.now c.in_ok-outs.outs.items c.deref-in-Ready.result.now c.numbers_at-starts.result.now c.in-Ready.child c.requires.counted c.in_ok-outs.ensures c.deref-in-firings-2.ensures.value c.in-Ready.ensures c.deref-in-Ready.ensures.value c.numbers_at-starts.ensures)

pub times-times-requires-clause-ready : goal.times-times-requires-clause-ready
times-times-requires-clause-ready c =
    subst (λ xs. IsReady c.args.edges.now c.args.q.now (λ k. get_or xs k 0) c.in-Ready.child) (sym c.deref-in-Ready-3.ensures.value)
    (subst (λ xs. IsReady c.args.edges.now c.args.q.now (λ k. get_or xs k 0) c.in-Ready.child) c.deref-in-firings-2.ensures.value c.in-Ready.ensures)

pub fire-requires-clause-outs : goal.fire-requires-clause-outs
fire-requires-clause-outs c = numbers-at c.args.n Start c.args.edges.now c.args.q.now c.firings.run.fired.items c.deref-in-firings-2.result.now c.in_ok-outs.outs.items c.deref-in-Ready.result.now c.numbers_at-starts.result.now c.in-Ready.child c.requires.counted c.in_ok-outs.ensures c.deref-in-firings-2.ensures.value c.in-Ready.ensures c.deref-in-Ready.ensures.value c.numbers_at-starts.ensures

pub fire-requires-clause-ready : goal.fire-requires-clause-ready
fire-requires-clause-ready c = subst (λ xs. IsReadyFor c.args.edges.now c.args.q.now (λ k. get_or xs k 0) c.in-Ready.child c.times-times.result) c.deref-in-Ready-3.ensures.value c.times-times.ensures

pub fired-requires-clause-ins : goal.fired-requires-clause-ins
fired-requires-clause-ins c =
    listed-inside End c.args.edges.now c.in-Ready.child c.numbers_at-ends.result.now
    (numbers-at c.args.n End c.args.edges.now c.args.q.now c.firings.run.fired.items c.deref-in-firings-2.result.now c.in_ok-ins.ins.items c.deref-in-Ready-2.result.now c.numbers_at-ends.result.now c.in-Ready.child c.requires.counted c.in_ok-ins.ensures c.deref-in-firings-2.ensures.value c.in-Ready.ensures c.deref-in-Ready-2.ensures.value c.numbers_at-ends.ensures)

pub fired-requires-clause-outs : goal.fired-requires-clause-outs
fired-requires-clause-outs c =
    listed-inside Start c.args.edges.now c.in-Ready.child c.numbers_at-starts.result.now
    (numbers-at c.args.n Start c.args.edges.now c.args.q.now c.firings.run.fired.items c.deref-in-firings-2.result.now c.in_ok-outs.outs.items c.deref-in-Ready.result.now c.numbers_at-starts.result.now c.in-Ready.child c.requires.counted c.in_ok-outs.ensures c.deref-in-firings-2.ensures.value c.in-Ready.ensures c.deref-in-Ready.ensures.value c.numbers_at-starts.ensures)

pub firings-smaller : goal.firings-smaller
firings-smaller c =
    let ready : IsReadyFor c.args.edges.now c.args.q.now (λ k. get_or c.firings.run.fired.items k 0) c.in-Ready.child c.times-times.result = subst (λ xs. IsReadyFor c.args.edges.now c.args.q.now (λ k. get_or xs k 0) c.in-Ready.child c.times-times.result) c.deref-in-Ready-3.ensures.value c.times-times.ensures in
    subst (λ xs. left c.args.q.now xs < left c.args.q.now c.firings.run.fired.items) (sym c.in_ok-fire-in-Ready.ensures.fired) (left-fired c.args.q.now c.firings.run.fired.items c.in-Ready.child c.times-times.result c.firings.invariant.counted ready.some ready.lacking)

pub returns-in-Stuck-clause-err : goal.returns-in-Stuck-clause-err
returns-in-Stuck-clause-err c =
    let stuck : ComesNext c.args.edges.now c.args.q.now (λ k. get_or c.firings.run.fired.items k 0) (Stuck c.in-Stuck.child) = subst (λ xs. ComesNext c.args.edges.now c.args.q.now (λ k. get_or xs k 0) (Stuck c.in-Stuck.child)) c.deref-in-firings-2.ensures.value c.in-Stuck.ensures in
    unschedulable c.args.edges.now c.args.q.now (spread c.firings.run.order.items) c.firings.run.fired.items c.in-Stuck.child c.firings.invariant.order c.firings.invariant.fired stuck.0 stuck.1

pub returns-in-Over-clause-order : goal.returns-in-Over-clause-order
returns-in-Over-clause-order c =
    let over : (child : ℕ) → get_or c.args.q.now child 0 ≤ get_or c.firings.run.fired.items child 0 = subst (λ xs. (child : ℕ) → get_or c.args.q.now child 0 ≤ get_or xs child 0) c.deref-in-firings-2.ensures.value c.in-Over.ensures in
    complete c.args.edges.now c.args.q.now (spread c.firings.run.order.items) c.firings.run.fired.items c.firings.invariant.order c.firings.invariant.fired over
