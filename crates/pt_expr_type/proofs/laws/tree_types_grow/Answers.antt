use Rattle.pt_language.specs.Grows.{tree_type-below}
use Rattle.pt_expr_type.proofs.laws.tree_types_grow.Goals as goal

pub returns : goal.returns
returns c = tree_type-below
