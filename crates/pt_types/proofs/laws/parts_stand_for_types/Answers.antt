use Rattle.pt_datatypes.proofs.Parts.{array_of-normal, record_of-normal}
use Rattle.pt_types.proofs.laws.parts_stand_for_types.Goals as goal

pub returns : goal.returns
returns c = record { arrays = array_of-normal; records = record_of-normal }
