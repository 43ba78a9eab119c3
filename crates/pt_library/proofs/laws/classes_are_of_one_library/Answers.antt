use Rattle.pt_library.proofs.Classes.{one-library}
use Rattle.pt_library.proofs.laws.classes_are_of_one_library.Goals as goal

pub returns : goal.returns
returns c = one-library
