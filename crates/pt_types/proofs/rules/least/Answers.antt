use Rattle.std.proofs.Common.{map, ◌∙◌}
use Rattle.std.proofs.lemmas.List.{length-map}
use Rattle.pt_types.specs.Ty.{type_of}
use Rattle.pt_types.proofs.Solutions.{least-end}
use Rattle.pt_types.proofs.rules.least.Goals as goal

pub loop-changed-init : goal.loop-changed-init
loop-changed-init g c = (c.in_ok-types.ensures.counted, c.in_ok-types.ensures.reached)

pub returns-then-not-branch : goal.returns-then-not-branch
returns-then-not-branch g c =
    let types = c.raise_all.new.types.items in
    let counted = length-map types type_of ∙ c.in_ok-raise_all.ensures.counted ∙ c.loop-changed.invariant.0 in
    least-end g.R.Rule.target_of g.R.Rule.value_of c.args.rules.now c.args.n (map type_of types) counted c.in_ok-raise_all.ensures.reached (c.in_ok-raise_all.ensures.met c.if-not-branch.true)
