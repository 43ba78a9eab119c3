use Rattle.std.proofs.Common.{map, ap, ◌∙◌}
use Rattle.std.proofs.lemmas.Result.{IfOk-weaker}
use Rattle.pt_trees.specs.Trees.{declared_by}
use Rattle.pt_builder.specs.Starts.{starts_in}
use Rattle.pt_builder.proofs.MachineLaws.{declared-are}
use Rattle.pt_builder.proofs.builder.Builder.declared_at.Goals as goal

pub returns : goal.returns
returns c =
    let b = c.args.self.now in
    IfOk-weaker c.declared_of.result _ _ (λ declared is. is ∙ declared-are b.starts.now b.stated.now b.machines.now c.children_of.result.now ∙ ap (map (declared_by (starts_in b))) c.children_of.ensures) c.declared_of.ensures
