use Rattle.pt_typed.proofs.DocumentNames.{documents-named}
use Rattle.pt_typed.proofs.laws.documents_are_named.Goals as goal

pub returns : goal.returns
returns c = documents-named
