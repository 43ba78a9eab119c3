-- The acts of the directors are lawful, for nodes of the library.
use Rattle.pt_core.specs.Lawful.{Lawful}
use Rattle.pt_directors.proofs.DirectorLaws.{director-is-lawful}
use Rattle.pt_library.specs.LibraryActor.{rows}
use Rattle.pt_library.proofs.RowLaws.{rows_lawful}
use Rattle.pt_node.specs.Acts.{acts}

pub acts-law : Lawful acts
acts-law = director-is-lawful rows rows_lawful
