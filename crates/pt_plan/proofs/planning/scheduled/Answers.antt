use Rattle.std.proofs.Common.{◌≡◌, List, length, filter, All, ap₂, sym, subst, ◌∙◌}
use Rattle.pt_sched.specs.Channels.{IsSchedEdge}
use Rattle.pt_sched.specs.declared.edge.SchedEdge.{SchedEdge}
use Rattle.pt_plan.specs.Channels.{is_between, between}
use Rattle.pt_plan.proofs.Formed.{between-channels}
use Rattle.pt_plan.proofs.planning.scheduled.Goals as goal

pub schedule-requires-clause-channels : goal.schedule-requires-clause-channels
schedule-requires-clause-channels c =
    let same : c.deref.result.now ≡ between c.args.inside.now = c.deref.ensures.value ∙ c.in_ok-between.ensures ∙ ap₂ (λ n (channels : List SchedEdge). filter (is_between n) channels) c.len-children.ensures c.requires.channels in
    subst (λ n. All (IsSchedEdge n) c.deref.result.now) (sym c.len-children.ensures)
    (subst (λ (channels : List SchedEdge). All (IsSchedEdge (length c.args.inside.now.places)) channels) (sym same) (between-channels c.args.inside.now c.requires.inside))
