-- A reaction by what comes of its guards is that of the definition.
use Rattle.std.proofs.Common.{◌≡◌, ℕ, [], Bool, true, false, Option, Some, None, refl, ap, ◌∙◌}
use Rattle.pt_meaning.specs.Tag.{Tag}
use Rattle.pt_meaning.specs.Streams.{Streams}
use Rattle.pt_meaning.specs.Modal.{Chart, Modes, Choice, Nothing, One, Wrong, Acted, Acts, Fails, chosen, shown, unfired_outputs}
use Rattle.pt_modal_laws.specs.State.{ModalState, stage_after, kept_in, opened, pared, with_wake, chart_in, after_taken, after_chosen, after_given, after_calm, after_preemptive, begun, after_told}
use Rattle.pt_chart.specs.Reacted.{Reacted, Stays, Moves, Stops, by_actions, by_choice, reacted}
use Rattle.pt_modal.specs.First.{FirstStep, Fires, Comes, Picks, kept_for, by_refinement, first_by, first_step, after_reacted, after_first}

-- with these own inputs
abbrev with_inputs : {T M : Type 0} → Streams T → ModalState T M → ModalState T M
with_inputs inputs s = record { plan = s.plan; modes = s.modes; wakes = s.wakes; tag = s.tag; inputs = inputs; outputs = s.outputs; stage = s.stage }

module _ {T M : Type 0} (reads : M → Chart T) where
  taken-is : (early : Bool) (n : ℕ) (acted : Acted T) (s : ModalState T M) →
      after_reacted reads (by_actions ((chart_in reads s).target early s.modes.mode n) ((chart_in reads s).keeps_history early s.modes.mode n) acted) s ≡ after_taken reads early n acted s
  taken-is early n (Acts out values) s = refl
  taken-is early n (Fails code) s = refl

  chosen-is : (given : Streams T) (c : Choice) (s : ModalState T M) → after_reacted reads (by_choice (chart_in reads s) false s.modes.mode s.modes.values s.inputs given c) s ≡ after_chosen reads given c s
  chosen-is given Nothing s = refl
  chosen-is given (One n) s = taken-is false n ((chart_in reads s).act false s.modes.mode n s.modes.values s.inputs given) s
  chosen-is given (Wrong code) s = refl

  -- by the guards that aren't preemptive
  pub given-is : (given : Streams T) (s : ModalState T M) → after_reacted reads (reacted (chart_in reads s) false s.modes.mode s.modes.values s.inputs given) s ≡ after_given reads given s
  given-is given s = chosen-is given (chosen 0 ((chart_in reads s).others s.modes.mode s.modes.values s.inputs given)) s

  calm-is : (r : Option ℕ) (s : ModalState T M) → after_first reads (by_refinement (chart_in reads s) s.modes s.inputs (unfired_outputs (chart_in reads s)) r) s ≡ after_calm reads r s
  calm-is None s = given-is (unfired_outputs (chart_in reads s)) s
  calm-is (Some i) s = refl

  early-is : (n : ℕ) (acted : Acted T) (s : ModalState T M) →
      after_first reads (first_by (chart_in reads s) s.modes s.inputs (by_actions ((chart_in reads s).target true s.modes.mode n) ((chart_in reads s).keeps_history true s.modes.mode n) acted)) s ≡ after_taken reads true n acted s
  early-is n (Acts out values) s = refl
  early-is n (Fails code) s = refl

  preemptive-is : (c : Choice) (s : ModalState T M) →
      after_first reads (first_by (chart_in reads s) s.modes s.inputs (by_choice (chart_in reads s) true s.modes.mode s.modes.values s.inputs (unfired_outputs (chart_in reads s)) c)) s ≡ after_preemptive reads c s
  preemptive-is Nothing s = calm-is ((chart_in reads s).refinement s.modes.mode) s
  preemptive-is (One n) s = early-is n ((chart_in reads s).act true s.modes.mode n s.modes.values s.inputs (unfired_outputs (chart_in reads s))) s
  preemptive-is (Wrong code) s = refl

  -- once it is known what comes of the guards nothing is kept of the inputs
  none-kept : (keeps : Bool) (o : Option ℕ) (inputs : Streams T) → [] ≡ kept_in (stage_after keeps o) inputs
  none-kept true None inputs = refl
  none-kept false None inputs = refl
  none-kept true (Some i) inputs = refl
  none-kept false (Some i) inputs = refl

  reacted-pared : (r : Reacted T) (tag : Tag) (inputs : Streams T) (s : ModalState T M) → after_reacted reads r (opened tag [] s) ≡ pared (after_reacted reads r (opened tag inputs s))
  reacted-pared (Stays outputs) tag inputs s = refl
  reacted-pared (Moves target history outputs values) tag inputs s =
      ap (λ (X : Streams T). with_inputs X (after_reacted reads (Moves target history outputs values) (opened tag [] s))) (none-kept history ((chart_in reads s).refinement target) inputs)
  reacted-pared (Stops code) tag inputs s = refl

  first-pared : (f : FirstStep T) (tag : Tag) (inputs : Streams T) (s : ModalState T M) → after_first reads f (opened tag (kept_for f inputs) s) ≡ pared (after_first reads f (opened tag inputs s))
  first-pared (Fires i lists) tag inputs s = refl
  first-pared (Comes r) tag inputs s = reacted-pared r tag inputs s

  -- a reaction that begins
  pub begun-is : (tag : Tag) (inputs : Streams T) (s : ModalState T M) → (let f = first_step (chart_in reads s) s.modes inputs in after_first reads f (opened tag (kept_for f inputs) s)) ≡ begun reads tag inputs s
  begun-is tag inputs s =
      first-pared (first_step (chart_in reads s) s.modes inputs) tag inputs s
      ∙ ap (λ (t : ModalState T M). pared t) (preemptive-is (chosen 0 ((chart_in reads s).preemptive s.modes.mode s.modes.values inputs)) (opened tag inputs s))

  -- a refinement that is told
  pub told-is : (i : ℕ) (out : Streams T) (wake : Option Tag) (s : ModalState T M) →
      after_reacted reads (reacted (chart_in reads s) false s.modes.mode s.modes.values s.inputs (shown ((chart_in reads s).out_ports i) out)) (with_wake i wake s) ≡ after_told reads i out wake s
  told-is i out wake s = given-is (shown ((chart_in reads s).out_ports i) out) (with_wake i wake s)

module _ {T : Type 0} (chart : Chart T) (modes : Modes T) (inputs : Streams T) where
  refinement-picks : (unfired : Streams T) (r : Option ℕ) → Picks chart inputs (by_refinement chart modes inputs unfired r)
  refinement-picks unfired None = tt
  refinement-picks unfired (Some i) = refl

  actions-pick : (target : ℕ) (history : Bool) (acted : Acted T) → Picks chart inputs (first_by chart modes inputs (by_actions target history acted))
  actions-pick target history (Acts out values) = tt
  actions-pick target history (Fails code) = tt

  choice-picks : (c : Choice) → Picks chart inputs (first_by chart modes inputs (by_choice chart true modes.mode modes.values inputs (unfired_outputs chart) c))
  choice-picks Nothing = refinement-picks (unfired_outputs chart) (chart.refinement modes.mode)
  choice-picks (One n) = actions-pick (chart.target true modes.mode n) (chart.keeps_history true modes.mode n) (chart.act true modes.mode n modes.values inputs (unfired_outputs chart))
  choice-picks (Wrong code) = tt

  -- where the refinement comes first, the lists are those that it takes
  pub first-picks : Picks chart inputs (first_step chart modes inputs)
  first-picks = choice-picks (chosen 0 (chart.preemptive modes.mode modes.values inputs))

-- so they are of what is kept
pub kept-picks : {T : Type 0} (chart : Chart T) (inputs : Streams T) (f : FirstStep T) → Picks chart inputs f → Picks chart (kept_for f inputs) f
kept-picks chart inputs (Fires i lists) p = p
kept-picks chart inputs (Comes r) p = tt
