use Rattle.std.proofs.Common.{refl}
use Rattle.pt_datatypes.proofs.Order.{below-refl, below-trans, below-antisymm, below-General}
use Rattle.pt_types.proofs.laws.types_are_ordered.Goals as goal

pub returns : goal.returns
returns c = record { reflexive = below-refl; transitive = below-trans; antisymmetric = below-antisymm; least = λ t. refl; greatest = below-General }
