use Rattle.std.proofs.Common.{◌<◌, length, map, ◌∙◌, rules}
use Rattle.std.proofs.lemmas.List.{length-map}
use Rattle.pt_types.specs.Ty.{type_of}
use Rattle.pt_types.proofs.Solutions.{all_types, target-low, reached-raise, round-more, round-end, round-room}
use Rattle.pt_types.proofs.rules.raise_all.Goals as goal

pub raise-requires : goal.raise-requires
raise-requires g c =
    target-low g.R.Rule.target_of c.args.rules.now (length c.args.types.now.items) (length c.loop-rule.types.items) c.loop-rule.rule-index c.rule-item.result c.requires.targets c.loop-rule.invariant.0 (search rules) c.rule-item.is

pub loop-rule-preserved : goal.loop-rule-preserved
loop-rule-preserved g c =
    let target = g.R.Rule.target_of in
    let value = g.R.Rule.value_of in
    let xs = map type_of c.loop-rule.types.items in
    let short : c.loop-rule.rule-index < length c.args.rules.now = search rules in
    let low : target c.rule-item.result < length xs = target-low target c.args.rules.now (length c.args.types.now.items) (length xs) c.loop-rule.rule-index c.rule-item.result c.requires.targets (length-map c.loop-rule.types.items type_of ∙ c.loop-rule.invariant.0) short c.rule-item.is in (
      c.in_ok-raised.ensures.counted ∙ c.loop-rule.invariant.0,
      reached-raise target value g.met.R.Rule.grows c.args.rules.now xs (map type_of c.raise.new.types.items) c.loop-rule.rule-index c.rule-item.result c.in_ok-raised.raised short c.rule-item.is low c.in_ok-raised.ensures.raised c.loop-rule.invariant.1,
      round-more target value c.args.rules.now c.loop-rule.rule-index (map type_of c.args.types.now.items) xs (map type_of c.raise.new.types.items) c.loop-rule.any c.in_ok-raised.raised c.rule-item.result short c.rule-item.is low (all_types c.loop-rule.types.items) c.in_ok-raised.ensures.raised c.loop-rule.invariant.2,
    )

pub returns-clause-met : goal.returns-clause-met
returns-clause-met g c = λ e. round-end g.R.Rule.target_of g.R.Rule.value_of c.args.rules.now c.loop-rule.rule-index (map type_of c.args.types.now.items) (map type_of c.loop-rule.types.items) c.loop-rule.any (search rules) c.loop-rule.invariant.2 e

pub returns-clause-room : goal.returns-clause-room
returns-clause-room g c = λ e. round-room g.R.Rule.target_of g.R.Rule.value_of c.args.rules.now c.loop-rule.rule-index (map type_of c.args.types.now.items) (map type_of c.loop-rule.types.items) c.loop-rule.any c.loop-rule.invariant.2 e
