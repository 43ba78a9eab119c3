use Rattle.std.proofs.Common.{◌≡◌, ℕ, List, map, None, sym, ap, ◌∙◌}
use Rattle.std.proofs.lemmas.Result.{IfOk-weaker, IfErr-weaker}
use Rattle.pt_document.specs.Names.{below}
use Rattle.pt_machine.specs.declared.cause.Cause.TheVariants.{Refinement}
use Rattle.pt_machine.specs.Numbers.{number_of}
use Rattle.pt_machine.specs.Names.{path_of}
use Rattle.pt_machine_parts.specs.Numbered.{numbers_view}
use Rattle.pt_machine_parts.specs.Own.{entity_of, kids_of}
use Rattle.pt_machine_parts.proofs.FaultLaws.{weaker}
use Rattle.pt_machine_parts.proofs.modes.refinement_named.Goals as goal

pub returns-clause-ok : goal.returns-clause-ok
returns-clause-ok c =
    let m = c.args.modal.now in
    let path = below (entity_of m).path c.args.name.now in
    let same : c.as_str-path.result.now ≡ path = c.as_str-path.ensures ∙ c.in_ok-text.ensures ∙ ap (λ (p : List ℕ). below p c.args.name.now) c.as_str-entity_path.ensures in
    IfOk-weaker c.number.result _ _ (λ number h. sym (ap (λ (p : List ℕ). numbers_view m.own.children p) same ∙ c.requires.children path) ∙ h) c.number.ensures.ok

pub returns-clause-told : goal.returns-clause-told
returns-clause-told c =
    let m = c.args.modal.now in
    let path = below (entity_of m).path c.args.name.now in
    let same : c.as_str-path.result.now ≡ path = c.as_str-path.ensures ∙ c.in_ok-text.ensures ∙ ap (λ (p : List ℕ). below p c.args.name.now) c.as_str-entity_path.ensures in
    IfErr-weaker c.number.result _ _
    (weaker (λ cause. (cause ≡ Refinement) × (numbers_view m.own.children c.as_str-path.result.now ≡ None)) (λ cause. (cause ≡ Refinement) × (number_of (map path_of (kids_of m)) path ≡ None))
    (λ cause w. (w.0, sym (ap (λ (p : List ℕ). numbers_view m.own.children p) same ∙ c.requires.children path) ∙ w.1)))
    c.number.ensures.told
