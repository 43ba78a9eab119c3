use Rattle.pt_language.proofs.TypeSound.{typed-sound}
use Rattle.pt_expr_type.proofs.laws.typed_trees_are_sound.Goals as goal

pub returns : goal.returns
returns c = typed-sound
