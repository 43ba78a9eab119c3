use Rattle.std.proofs.Common.{◌≡◌, map, length, ◌∙◌, arith, rules}
use Rattle.std.proofs.lemmas.List.{length-map}
use Rattle.pt_chart.specs.Views.{mode_view}
use Rattle.pt_machine_parts.specs.Told.{IsTold}
use Rattle.pt_machine_parts.specs.Views.{kid_view}
use Rattle.pt_machine_parts.specs.Own.{entity_of, kids_of, IsFaultOf}
use Rattle.pt_machine_parts.specs.Claims.{IsMisclaimed}
use Rattle.pt_machine_parts.proofs.FaultLaws.{weaker}
use Rattle.pt_machine_parts.proofs.StateLaws.{claims-within, misclaimed, named-once, bare-modes}
use Rattle.pt_machine_parts.proofs.modes.modes_of.Goals as goal

pub check_claims-requires : goal.check_claims-requires
check_claims-requires c =
    let m = c.args.modal.now in
    let counted : c.len-count.result ≡ length (kids_of m) = omega (arith, c.len-count.ensures, m.children.ok.0, length-map m.children.items kid_view) in
    claims-within (entity_of m) (kids_of m) c.len-count.result counted c.as_slice-claims.result.now (c.as_slice-claims.ensures.value ∙ c.in_ok-refinements.ensures.numbers)

pub returns-in_err-check_claims-clause-told : goal.returns-in_err-check_claims-clause-told
returns-in_err-check_claims-clause-told c =
    let m = c.args.modal.now in
    let counted : c.len-count.result ≡ length (kids_of m) = omega (arith, c.len-count.ensures, m.children.ok.0, length-map m.children.items kid_view) in
    let told : IsTold (IsFaultOf m) c.in_err-check_claims.field-0.0 =
    weaker (IsMisclaimed c.len-count.result c.as_slice-claims.result.now) (IsFaultOf m)
    (misclaimed (entity_of m) (kids_of m) m.is_parted c.len-count.result counted c.as_slice-claims.result.now (c.as_slice-claims.ensures.value ∙ c.in_ok-refinements.ensures.numbers))
    c.in_err-check_claims.field-0.0 c.in_err-check_claims.ensures.told in
    let h = c.from_residual-in_err-check_claims.ensures in
    search (rules, told, h)

pub returns-clause-modes : goal.returns-clause-modes
returns-clause-modes c =
    let m = c.args.modal.now in
    bare-modes (entity_of m) (kids_of m) (map mode_view c.in_ok-modes.modes.items) c.as_slice-claims.result.now c.in_ok-modes.ensures (c.as_slice-claims.ensures.value ∙ c.in_ok-refinements.ensures.numbers)

pub returns-clause-refinements : goal.returns-clause-refinements
returns-clause-refinements c =
    let m = c.args.modal.now in
    let counted : c.len-count.result ≡ length (kids_of m) = omega (arith, c.len-count.ensures, m.children.ok.0, length-map m.children.items kid_view) in
    named-once (entity_of m) (kids_of m) c.len-count.result counted c.as_slice-claims.result.now (c.as_slice-claims.ensures.value ∙ c.in_ok-refinements.ensures.numbers) c.in_ok-refinements.ensures.named c.in_ok-check_claims.ensures.apart c.in_ok-check_claims.ensures.each
