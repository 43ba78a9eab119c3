use Rattle.std.proofs.Common.{ap, ◌∙◌}
use Rattle.pt_language.specs.Tree.{Array, trees_of}
use Rattle.pt_language.specs.Parts.{tree_of_array}
use Rattle.pt_expr_text.proofs.node.list.Goals as goal

pub returns : goal.returns
returns c = tree_of_array _ ∙ ap (λ ts. Array (trees_of ts)) c.of.ensures
