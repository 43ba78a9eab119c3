use Rattle.pt_cover.proofs.Reading.{documents-leaves}
use Rattle.pt_cover.proofs.laws.actors_of_documents_are_leaves.Goals as goal

pub returns : goal.returns
returns c = documents-leaves
