use Rattle.std.proofs.Common.{◌+◌, ◌++◌, ◌∷◌, [], ℕ, List, Option, map, take, sym, ap, subst, ◌∙◌}
use Rattle.std.specs.List.{All, Contains}
use Rattle.std.proofs.lemmas.List.{take_all, map_more}
use Rattle.std.proofs.lemmas.List.Elements.{All-more}
use Rattle.pt_document.specs.declared.job.State.{State}
use Rattle.pt_machine.specs.Names.{refinement_of}
use Rattle.pt_machine.specs.Machines.{IsRefined}
use Rattle.pt_machine_parts.specs.Own.{entity_of, kids_of}
use Rattle.pt_machine_parts.proofs.ListLaws.{at-place}
use Rattle.pt_machine_parts.proofs.modes.refinements_of.Goals as goal

pub refinement_of-requires-clause-there : goal.refinement_of-requires-clause-there
refinement_of-requires-clause-there c =
    subst (λ (ss : List State). Contains ss c.state-item.result) c.as_slice-states.ensures.value (at-place c.as_slice-states.result.now c.loop-state.state-index c.state-item.result c.loop-state-test.true c.state-item.is)

pub loop-state-preserved : goal.loop-state-preserved
loop-state-preserved c =
    let m = c.args.modal.now in
    let f : State → Option ℕ = refinement_of (entity_of m) (kids_of m) in
    let ss = c.as_slice-states.result.now in
    let i = c.loop-state.state-index in
    let s = c.state-item.result in
    let inv = c.loop-state.invariant in
    record {
      numbers = c.in_ok-push.ensures.items ∙ ap (λ (os : List (Option ℕ)). os ++ c.in_ok-refinement.refinement ∷ []) inv.numbers ∙ ap (λ (o : Option ℕ). map f (take i ss) ++ o ∷ []) (c.in_ok-refinement.ensures.number ∙ ap f c.state-item.is) ∙ sym (map_more f ss i s c.loop-state-test.true);
      named = All-more (IsRefined (entity_of m) (kids_of m)) ss i s c.loop-state-test.true inv.named (subst (IsRefined (entity_of m) (kids_of m)) c.state-item.is c.in_ok-refinement.ensures.named);
    }

pub returns-clause-numbers : goal.returns-clause-numbers
returns-clause-numbers c =
    let m = c.args.modal.now in
    c.loop-state.invariant.numbers ∙ ap (λ (ss : List State). map (refinement_of (entity_of m) (kids_of m)) ss) (take_all c.loop-state.state-index c.as_slice-states.result.now c.loop-state-test.false ∙ c.as_slice-states.ensures.value)

pub returns-clause-named : goal.returns-clause-named
returns-clause-named c =
    let m = c.args.modal.now in
    subst (λ (ss : List State). All (IsRefined (entity_of m) (kids_of m)) ss) (take_all c.loop-state.state-index c.as_slice-states.result.now c.loop-state-test.false ∙ c.as_slice-states.ensures.value) c.loop-state.invariant.named
