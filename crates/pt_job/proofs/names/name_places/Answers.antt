use Rattle.std.proofs.Common.{sym, ◌∙◌, bytes_eq}
use Rattle.std.proofs.lemmas.Result.{IfOk-weaker}
use Rattle.pt_job.specs.Names.{Name}
use Rattle.pt_job.proofs.Positions.{position-map}
use Rattle.pt_job.proofs.names.name_places.Goals as goal

pub returns : goal.returns
returns c = IfOk-weaker c.first_places.result _ _ (λ places known name. known name ∙ sym (position-map (bytes_eq name.now) (λ (n : Name). n.now) c.args.names.now)) c.first_places.ensures
