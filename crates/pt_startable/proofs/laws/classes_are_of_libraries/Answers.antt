use Rattle.pt_startable.proofs.Known.{classes-of-libraries}
use Rattle.pt_startable.proofs.laws.classes_are_of_libraries.Goals as goal

pub returns : goal.returns
returns c = classes-of-libraries
