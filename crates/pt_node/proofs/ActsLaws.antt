-- The directors make firings of composites of nodes as the definitions say.
use Rattle.pt_core.specs.Lawful.{Lawful}
use Rattle.pt_directors.proofs.DirectorLaws.{director-is-lawful}
use Rattle.pt_library.specs.LibraryActor.{rows}
use Rattle.pt_library.proofs.RowLaws.{rows_lawful}
use Rattle.pt_node.specs.Acts.{acts}

pub acts-are-lawful : Lawful acts
acts-are-lawful = director-is-lawful rows rows_lawful
