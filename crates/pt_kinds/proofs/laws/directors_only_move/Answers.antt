use Rattle.pt_kinds.proofs.DirectorLaws.{directors-move}
use Rattle.pt_kinds.proofs.laws.directors_only_move.Goals as goal

pub returns : goal.returns
returns g c = directors-move _ _
