use Rattle.pt_datatypes.specs.Datatype.{Array, Record}
use Rattle.pt_datatypes.proofs.Joins.{normal-below, join-below}
use Rattle.pt_types.proofs.laws.types_grow.Goals as goal

pub returns : goal.returns
returns c = record { arrays = λ s t h. normal-below (Array s) (Array t) h; records = λ fs gs h. normal-below (Record fs) (Record gs) h; joins = join-below }
