-- The directors are lawful.
use Rattle.pt_meaning.specs.Tree.{Rows}
use Rattle.pt_meaning.specs.Lawful.{LawfulRows}
use Rattle.pt_value.specs.declared.token.Token.{Token}
use Rattle.pt_core.specs.EitherActs.{either_acts}
use Rattle.pt_core.specs.Lawful.{Lawful}
use Rattle.pt_core.proofs.EitherLaws.{either-is-lawful}
use Rattle.pt_sdf.specs.SdfActs.{sdf_acts}
use Rattle.pt_sdf.proofs.ActsLaws.{sdf-is-lawful}
use Rattle.pt_sr.specs.SrActs.{sr_acts}
use Rattle.pt_sr.proofs.ActsLaws.{sr-is-lawful}
use Rattle.pt_de_laws.specs.DeActs.{de_acts}
use Rattle.pt_de_laws.proofs.ActsLaws.{de-is-lawful}
use Rattle.pt_pn_laws.specs.PnActs.{pn_acts}
use Rattle.pt_pn_laws.proofs.ActsLaws.{pn-is-lawful}
use Rattle.pt_chart.specs.Chart.{chart_of}
use Rattle.pt_modal_laws.specs.ModalActs.{modal_acts}
use Rattle.pt_modal_laws.proofs.ActsLaws.{modal-is-lawful}
use Rattle.pt_rv_laws.specs.RvActs.{rv_acts}
use Rattle.pt_rv_laws.proofs.ActsLaws.{rv-is-lawful}
use Rattle.pt_directors.specs.Directors.{director_acts}

pub director-is-lawful : {A : Type 0} (rows : Rows Token A) → LawfulRows rows → Lawful (director_acts rows)
director-is-lawful rows law =
    let modal-or-rv = either_acts (modal_acts chart_of rows) (rv_acts rows) in
    let pn-or-other = either_acts (pn_acts rows) modal-or-rv in
    let de-or-other = either_acts (de_acts rows) pn-or-other in
    let sr-or-other = either_acts (sr_acts rows) de-or-other in
    let modal-law = either-is-lawful (modal_acts chart_of rows) (rv_acts rows) (modal-is-lawful chart_of rows law) (rv-is-lawful rows law) in
    let pn-law = either-is-lawful (pn_acts rows) modal-or-rv (pn-is-lawful rows law) modal-law in
    let de-law = either-is-lawful (de_acts rows) pn-or-other (de-is-lawful rows law) pn-law in
    let sr-law = either-is-lawful (sr_acts rows) de-or-other (sr-is-lawful rows law) de-law in
    either-is-lawful (sdf_acts rows) sr-or-other (sdf-is-lawful rows law) sr-law
