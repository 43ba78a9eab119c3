use Rattle.std.proofs.Common.{◌≡◌, ◌≤◌, ℕ, List, length, take, All, ap, sym, subst, ◌∙◌}
use Rattle.pt_rates.specs.Balance.{tokens_on}
use Rattle.pt_sched.specs.Channels.{IsSchedEdge}
use Rattle.pt_sched.specs.Runs.{IsSchedule}
use Rattle.pt_sched.specs.declared.edge.SchedEdge.{SchedEdge}
use Rattle.pt_sched.specs.Stretches.{spread}
use Rattle.pt_plan.specs.Channels.{nodes_of, between}
use Rattle.pt_plan.specs.Iteration.{IsCut}
use Rattle.pt_plan.proofs.Formed.{all-channels, channel-tokens}
use Rattle.pt_plan.proofs.Planned.{schedule-is, plan-is, limits-are, rooms-is}
use Rattle.pt_plan.proofs.planning.iteration_of.Goals as goal

pub counts_in-requires : goal.counts_in-requires
counts_in-requires c = ap (λ (ns : List ℕ). length ns) c.deref-4.ensures.value ∙ c.in_ok-q.ensures.least.solution.counted

pub channels_in-requires : goal.channels_in-requires
channels_in-requires c =
    let x = c.args.inside.now in
    let long : length c.deref-6.result.now ≡ nodes_of x = ap (λ (ns : List ℕ). length ns) c.deref-6.ensures.value ∙ c.in_ok-q.ensures.least.solution.counted in
    let same = c.deref-5.ensures.value ∙ c.in_ok-channels.ensures in
    record {
      counted = long;
      channels = subst (λ n. All (IsSchedEdge n) c.deref-5.result.now) (sym long) (subst (λ (channels : List SchedEdge). All (IsSchedEdge (nodes_of x)) channels) (sym same) (all-channels x c.requires));
      tokens = subst (λ (q : List ℕ). All (λ (channel : SchedEdge). tokens_on q channel.edge ≤ 1000000) c.deref-5.result.now) (sym c.deref-6.ensures.value)
          (subst (λ (channels : List SchedEdge). All (λ (channel : SchedEdge). tokens_on c.in_ok-q.q.items channel.edge ≤ 1000000) channels) (sym same) (channel-tokens x c.in_ok-q.q.items c.in_ok-q.ensures.tokens));
    }

pub returns-clause-plan : goal.returns-clause-plan
returns-clause-plan c =
    let x = c.args.inside.now in
    let counts = c.in_ok-counts.counts in
    let cut = subst (λ (v : List ℕ). IsCut x v counts.repetitions counts.takes counts.gives) c.deref-4.ensures.value c.in_ok-counts.ensures in
    let schedule : IsSchedule (between x) (take (length x.places) c.in_ok-q.q.items) (spread c.in_ok-order.field-0.order.items) = subst (λ (xs : List ℕ). IsSchedule (between x) (take (length x.places) xs) (spread c.in_ok-order.field-0.order.items)) c.deref-3.ensures.value c.in_ok-order.ensures.order in
    plan-is x c.in_ok-q.q.items (spread c.in_ok-order.field-0.order.items) counts.repetitions counts.takes counts.gives cut c.in_ok-ends.ends.sources.items c.in_ok-ends.ensures.sources c.in_ok-q.ensures.least schedule

pub returns-clause-limits : goal.returns-clause-limits
returns-clause-limits c =
    let x = c.args.inside.now in
    let counts = c.in_ok-counts.counts in
    let cut = subst (λ (v : List ℕ). IsCut x v counts.repetitions counts.takes counts.gives) c.deref-4.ensures.value c.in_ok-counts.ensures in
    limits-are x c.in_ok-q.q.items (spread c.in_ok-order.field-0.order.items) counts.repetitions counts.takes counts.gives cut c.in_ok-ends.ends.sources.items c.in_ok-q.ensures.sum c.in_ok-q.ensures.tokens

pub returns-clause-order : goal.returns-clause-order
returns-clause-order c =
    let x = c.args.inside.now in
    let counts = c.in_ok-counts.counts in
    let cut = subst (λ (v : List ℕ). IsCut x v counts.repetitions counts.takes counts.gives) c.deref-4.ensures.value c.in_ok-counts.ensures in
    let schedule : IsSchedule (between x) (take (length x.places) c.in_ok-q.q.items) (spread c.in_ok-order.field-0.order.items) = subst (λ (xs : List ℕ). IsSchedule (between x) (take (length x.places) xs) (spread c.in_ok-order.field-0.order.items)) c.deref-3.ensures.value c.in_ok-order.ensures.order in
    schedule-is x c.in_ok-q.q.items (spread c.in_ok-order.field-0.order.items) counts.repetitions counts.takes counts.gives cut schedule

pub returns-clause-room : goal.returns-clause-room
returns-clause-room c =
    let x = c.args.inside.now in
    let counts = c.in_ok-counts.counts in
    let cut = subst (λ (v : List ℕ). IsCut x v counts.repetitions counts.takes counts.gives) c.deref-4.ensures.value c.in_ok-counts.ensures in
    rooms-is x c.in_ok-q.q.items (spread c.in_ok-order.field-0.order.items) counts.repetitions counts.takes counts.gives cut c.deref-6.result.now c.in_ok-order.field-0.lengths.items c.deref-7.result.now c.in_ok-ends.ends.room c.deref-5.result.now c.in_ok-ends.ensures.room c.deref-6.ensures.value
    (c.deref-5.ensures.value ∙ c.in_ok-channels.ensures) c.deref-7.ensures.value c.in_ok-order.ensures.lengths
