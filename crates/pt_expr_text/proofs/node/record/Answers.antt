use Rattle.std.proofs.Common.{ap, ◌∙◌}
use Rattle.pt_language.specs.Tree.{Record, named_of}
use Rattle.pt_language.specs.Parts.{tree_of_record}
use Rattle.pt_expr_text.proofs.node.record.Goals as goal

pub returns : goal.returns
returns c = tree_of_record _ ∙ ap (λ ts. Record (named_of ts)) c.of.ensures
