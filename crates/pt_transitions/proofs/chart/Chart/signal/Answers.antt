use Rattle.std.proofs.Common.{◌≡◌, ◌<◌, ◌∙◌, ℕ, suc, zero, List, None, get_or, map, length, sym, ap, subst, arith}
use Rattle.std.proofs.lemmas.List.{length-map}
use Rattle.pt_datatypes.specs.Datatype.{Datatype}
use Rattle.pt_types.specs.Entry.{typed_entry}
use Rattle.pt_value.specs.declared.token.Token.{Token}
use Rattle.pt_transitions.specs.declared.signal.Signal.{Signal}
use Rattle.pt_chart.specs.declared.written.Mode.{Mode}
use Rattle.pt_guards.specs.declared.kept.PlacedMode.{PlacedMode}
use Rattle.pt_chart.specs.Machine.{NameTable, ModeTree}
use Rattle.pt_guards.specs.Placed.{SaysMode, SayModes}
use Rattle.pt_chart.specs.Chart.{chart_of}
use Rattle.pt_guards.specs.Acts.{reacted_by}
use Rattle.pt_chart.specs.Machine.{mode_at}
use Rattle.pt_transitions.specs.Alone.{reads_alone, AloneTo, ComesTo, by_both}
use Rattle.pt_chart.specs.Views.{machine_of, mode_view}
use Rattle.pt_guards.proofs.PlacedLaws.{view-each, each-at}
use Rattle.pt_transitions.proofs.ReactLaws.{mode-view}
use Rattle.pt_transitions.proofs.AloneLaws.{alone-to, is-none, some-then}
use Rattle.pt_transitions.proofs.chart.Chart.signal.Goals as goal

pub returns-clause-goes : goal.returns-clause-goes
returns-clause-goes c =
    let m = machine_of c.self.inside.written in
    let mode = c.args.mode in
    let inputs = c.args.inputs.now in
    let values : List Token = c.args.values.now.items in
    let values' : List Token = c.signal_in.new.values.items in
    let ms : List Mode = c.as_slice-modes.result.now in
    let ps : List PlacedMode = c.as_slice-placed.result.now in
    let x = c.index-modes-at-2.result in
    let p = c.index-placed-at.result in
    let within : mode < length ps = omega (arith, c.if-at-placed.false) in
    let short : mode < length ms = omega (arith, c.if-at-modes.false) in
    let same : ms ≡ c.self.inside.written.modes.items = c.as_slice-modes.ensures.value in
    let y = c.index-modes-at.result in
    let none : (mode_at (map mode_view ms) mode).refinement ≡ None = sym (ap (λ (t : ModeTree). t.refinement) (mode-view mode_view ms mode y short c.index-modes-at.is)) ∙ ap (λ (u : Mode). u.refinement) c.index-modes-at.is ∙ is-none (get_or ms mode y).refinement (sym c.is_some.ensures ∙ c.if-is_some.false) in
    let kept : SayModes m.names ps (map mode_view ms) = subst (λ (qs : List PlacedMode). SayModes m.names qs (map mode_view ms)) (sym c.as_slice-placed.ensures.value) (subst (λ (us : List Mode). SayModes m.names c.self.inside.placed.items (map mode_view us)) (sym same) c.self.invariant.2) in
    let says : SaysMode m.names p (mode_view x) = each-at (λ q t. SaysMode m.names q (mode_view t)) ps ms mode p x (view-each (λ q t. SaysMode m.names q t) mode_view ps ms kept) within c.index-placed-at.is c.index-modes-at-2.is in
    let as-many : length c.as_slice.result.now ≡ length m.names.outputs = sym (length-map c.as_slice.result.now typed_entry) ∙ ap (λ (es : List (List ℕ × Datatype)). length es) c.as_slice.ensures in
    let one : suc zero ≡ length m.names.outputs = omega (arith, c.if-as_slice-ne1.false, as-many) in
    let written = mode-view mode_view ms mode x short c.index-modes-at-2.is ∙ ap (λ (us : List Mode). mode_at (map mode_view us) mode) same in
    some-then
    (λ (s : Signal). (table : NameTable) → SaysMode table p (mode_view x) → ((mode_at (map mode_view ms) s.target).refinement ≡ None) × ComesTo mode values (by_both (reacted_by table mode (mode_view x).preemptive (reads_alone values inputs)) (reacted_by table mode (mode_view x).others (reads_alone values inputs))) s values')
    (λ (s : Signal). AloneTo (chart_of c.args.self.now) mode values inputs s values')
    (λ s made.
    let come = made m.names says in
    alone-to m c.args.self.now mode (mode_view x) values values' inputs s c.self.view_is written one
    (subst (λ (us : List Mode). (mode_at (map mode_view us) mode).refinement ≡ None) same none)
    (subst (λ (us : List Mode). (mode_at (map mode_view us) s.target).refinement ≡ None) same come.0) come.1)
    c.signal_in.result c.signal_in.ensures.comes
