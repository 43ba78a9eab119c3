use Rattle.std.proofs.Common.{◌≡◌, ◌∙◌, List, sym, subst, ap}
use Rattle.pt_guards.specs.declared.kept.PlacedTransition.{PlacedTransition}
use Rattle.pt_guards.specs.declared.kept.PlacedMode.{PlacedMode}
use Rattle.pt_chart.specs.Machine.{mode_at, kind_of}
use Rattle.pt_guards.specs.Placed.{SayTransitions}
use Rattle.pt_guards.proofs.PlacedLaws.{kept_kind, kind-there, kind-past}
use Rattle.pt_transitions.proofs.chart.placed_of.Goals as goal

pub returns-then-preemptive : goal.returns-then-preemptive
returns-then-preemptive c table trees says =
    let p = c.index-modes-mode.result in
    let kept : kept_kind c.args.preemptive p ≡ c.as_slice.result.now = ap (λ e. kept_kind e p) c.if-preemptive.true ∙ ap (λ (r : PlacedMode). r.preemptive.items) c.index-modes-mode.is ∙ sym c.as_slice.ensures.value in
    subst (λ (ts : List PlacedTransition). SayTransitions table ts (kind_of c.args.preemptive (mode_at trees c.args.mode))) kept (kind-there table c.args.preemptive c.args.modes.now trees c.args.mode p says c.if-mode-modes.true c.index-modes-mode.is)

pub returns-else-preemptive : goal.returns-else-preemptive
returns-else-preemptive c table trees says =
    let p = c.index-modes-mode-else-preemptive.result in
    let kept : kept_kind c.args.preemptive p ≡ c.as_slice-else-preemptive.result.now = ap (λ e. kept_kind e p) c.if-preemptive.false ∙ ap (λ (r : PlacedMode). r.others.items) c.index-modes-mode-else-preemptive.is ∙ sym c.as_slice-else-preemptive.ensures.value in
    subst (λ (ts : List PlacedTransition). SayTransitions table ts (kind_of c.args.preemptive (mode_at trees c.args.mode))) kept (kind-there table c.args.preemptive c.args.modes.now trees c.args.mode p says c.if-mode-modes.true c.index-modes-mode-else-preemptive.is)

pub returns-else-mode-modes : goal.returns-else-mode-modes
returns-else-mode-modes c table trees says = kind-past table c.args.preemptive c.args.modes.now trees c.args.mode says c.if-mode-modes.false
