-- The directors that a composite may have, what their calls do, and how these make its firings.
use Rattle.pt_meaning.specs.Tree.{Rows}
use Rattle.pt_value.specs.declared.token.Token.{Token}
use Rattle.pt_core.specs.declared.either.Either.{Either}
use Rattle.pt_core.specs.declared.either.Either.TheVariants.{First, Other}
use Rattle.pt_core.specs.Acts.{Calls, Acts}
use Rattle.pt_core.specs.EitherActs.{either_calls, either_acts}
use Rattle.pt_sdf.specs.Clauses as sdf
use Rattle.pt_sdf.specs.SdfActs.{sdf_calls, sdf_acts}
use Rattle.pt_sr.specs.Clauses as sr
use Rattle.pt_sr.specs.SrActs.{sr_calls, sr_acts}
use Rattle.pt_de_laws.specs.DeActs as de
use Rattle.pt_de_laws.specs.DeActs.{de_calls, de_acts}
use Rattle.pt_pn_laws.specs.PnActs as pn
use Rattle.pt_pn_laws.specs.PnActs.{pn_calls, pn_acts}
use Rattle.pt_chart.specs.Machine.{Machine}
use Rattle.pt_chart.specs.Chart.{chart_of}
use Rattle.pt_modal_laws.specs.ModalActs as modal
use Rattle.pt_modal_laws.specs.ModalActs.{modal_calls, modal_acts}
use Rattle.pt_rv_laws.specs.RvActs as rv
use Rattle.pt_rv_laws.specs.RvActs.{rv_calls, rv_acts}

-- the state of a director
abbrev pub Director : Type 0
Director = Either sdf.State (Either sr.State (Either de.State (Either pn.State (Either (modal.State Machine) rv.State))))

-- the director that is this core of SDF, of SR, of DE, of PN, of Modal, of Rendezvous
abbrev pub of_sdf : sdf.State → Director
of_sdf s = First s

abbrev pub of_sr : sr.State → Director
of_sr s = Other (First s)

abbrev pub of_de : de.State → Director
of_de s = Other (Other (First s))

abbrev pub of_pn : pn.State → Director
of_pn s = Other (Other (Other (First s)))

abbrev pub of_modal : modal.State Machine → Director
of_modal s = Other (Other (Other (Other (First s))))

abbrev pub of_rendezvous : rv.State → Director
of_rendezvous s = Other (Other (Other (Other (Other s))))

abbrev pub director_calls : Calls Director
director_calls = either_calls sdf_calls (either_calls sr_calls (either_calls de_calls (either_calls pn_calls (either_calls (modal_calls chart_of) rv_calls))))

abbrev pub director_acts : {A : Type 0} (rows : Rows Token A) → Acts rows Director
director_acts rows = either_acts (sdf_acts rows) (either_acts (sr_acts rows) (either_acts (de_acts rows) (either_acts (pn_acts rows) (either_acts (modal_acts chart_of rows) (rv_acts rows)))))
