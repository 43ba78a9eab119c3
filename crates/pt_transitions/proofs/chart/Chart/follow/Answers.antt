use Rattle.std.proofs.Common.{◌≡◌, ℕ, List, map, sym, ap, subst, ◌∙◌, true, false}
use Rattle.std.proofs.lemmas.Result.{IfOk-weaker}
use Rattle.pt_transitions.specs.declared.reaction.Reaction.{Reaction}
use Rattle.pt_chart.specs.declared.written.Mode.{Mode}
use Rattle.pt_chart.specs.Machine.{TransitionTree}
use Rattle.pt_guards.specs.declared.kept.PlacedMode.{PlacedMode}
use Rattle.pt_guards.specs.Placed.{SayModes, SayTransitions}
use Rattle.pt_chart.specs.Typed.{types_of, are_typed_transitions}
use Rattle.pt_chart.specs.Chart.{chart_of}
use Rattle.pt_chart.specs.Reacted.{reacted}
use Rattle.pt_guards.specs.Acts.{reacted_by}
use Rattle.pt_chart.specs.Machine.{mode_at, kind_of}
use Rattle.pt_transitions.specs.Moves.{reaction_view}
use Rattle.pt_chart.specs.Views.{machine_of, mode_view, transition_view}
use Rattle.pt_guards.proofs.RightLaws.{typed-kind}
use Rattle.pt_transitions.proofs.ReactLaws.{followed}
use Rattle.pt_transitions.proofs.chart.Chart.follow.Goals as goal

pub react-requires : goal.react-requires
react-requires c =
    let m = machine_of c.self.inside.written in
    let kinds = c.transitions_of-transitions.ensures ∙ ap (λ (ms : List Mode). kind_of false (mode_at (map mode_view ms) c.args.mode)) c.deref.ensures.value in
    record {
      typed = subst (λ (ts : List TransitionTree). are_typed_transitions (types_of m.names) ts ≡ true) (sym kinds) (typed-kind (types_of m.names) false m.modes c.args.mode c.self.invariant.1);
      fits = c.self.invariant.0;
      says = subst (λ (ts : List TransitionTree). SayTransitions m.names c.placed_of-placed.result.now ts) (sym kinds) (c.placed_of-placed.ensures m.names m.modes (subst (λ (ps : List PlacedMode). SayModes m.names ps m.modes) (sym c.deref-2.ensures.value) c.self.invariant.2));
    }

pub returns-clause-reaction : goal.returns-clause-reaction
returns-clause-reaction c =
    let m = machine_of c.self.inside.written in
    let kinds = c.transitions_of-transitions.ensures ∙ ap (λ (ms : List Mode). kind_of false (mode_at (map mode_view ms) c.args.mode)) c.deref.ensures.value in
    let ts = map transition_view c.transitions_of-transitions.result.now in
    IfOk-weaker c.react.result
    (λ (r : Reaction). (mode : ℕ) → reaction_view r ≡ reacted_by m.names mode ts (record { values = c.args.values.now; inputs = c.args.inputs.now; given = c.args.given.items }))
    (λ (r : Reaction). reaction_view r ≡ reacted (chart_of c.args.self.now) false c.args.mode c.args.values.now c.args.inputs.now c.args.given.items)
    (λ r made. followed m c.args.self.now c.args.mode c.args.values.now c.args.inputs.now c.args.given.items ts (reaction_view r) c.self.view_is kinds (made c.args.mode)) c.react.ensures.reaction
