use Rattle.std.proofs.Common.{ℕ, List, bytes_eq, codes, ap, ◌∙◌}
use Rattle.std.proofs.lemmas.Bool.{both_ways}
use Rattle.pt_values.proofs.Unnamed.{only-expressions}
use Rattle.pt_values.proofs.entity.ports_seen.Goals as goal

pub returns-else-has_trees : goal.returns-else-has_trees
returns-else-has_trees c = λ name e. absurd (both_ways c.has_trees.result c.if-has_trees.false (c.has_trees.ensures ∙ ap (λ (class : List ℕ). bytes_eq class (codes "Expression")) c.as_str.ensures ∙ only-expressions c.args.entity.now.class name e))
