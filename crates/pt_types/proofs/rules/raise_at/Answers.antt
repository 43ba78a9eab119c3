use Rattle.std.proofs.Common.{◌<◌, ◌≡◌, length, map, get_or, arith, rules}
use Rattle.std.proofs.lemmas.List.{length-map}
use Rattle.pt_types.specs.Ty.{type_of}
use Rattle.pt_types.proofs.Solutions.{all_types, target-low, reached-raise, room-kept}
use Rattle.pt_types.proofs.rules.raise_at.Goals as goal

pub returns-clause-reached : goal.returns-clause-reached
returns-clause-reached g c =
    let short : c.args.index < length c.args.rules.now = search rules in
    let is : c.in-Some.rule.now ≡ get_or c.args.rules.now c.args.index c.in-Some.rule.now = search rules in
    reached-raise g.R.Rule.target_of g.R.Rule.value_of g.met.R.Rule.grows c.args.rules.now (map type_of c.args.types.now.items) (map type_of c.raise.new.types.items) c.args.index c.in-Some.rule.now c.in_ok-_raised._raised short is (target-low g.R.Rule.target_of c.args.rules.now (length c.args.types.now.items) (length (map type_of c.args.types.now.items)) c.args.index c.in-Some.rule.now c.requires.targets (length-map c.args.types.now.items type_of) short is) c.in_ok-_raised.ensures.raised c.requires.reached

kept : goal.returns-clause-room
kept g c =
    let short : c.args.index < length c.args.rules.now = search rules in
    let is : c.in-Some.rule.now ≡ get_or c.args.rules.now c.args.index c.in-Some.rule.now = search rules in
    omega (arith, room-kept (g.R.Rule.target_of c.in-Some.rule.now) (g.R.Rule.value_of c.in-Some.rule.now (map type_of c.args.types.now.items)) (map type_of c.args.types.now.items) (map type_of c.raise.new.types.items) c.in_ok-_raised._raised (target-low g.R.Rule.target_of c.args.rules.now (length c.args.types.now.items) (length (map type_of c.args.types.now.items)) c.args.index c.in-Some.rule.now c.requires.targets (length-map c.args.types.now.items type_of) short is) (all_types c.args.types.now.items) c.in_ok-_raised.ensures.raised)

pub returns-clause-room : goal.returns-clause-room
returns-clause-room g c = kept g c

pub returns-clause-work : goal.returns-clause-work
returns-clause-work g c =
    let short : c.args.index < length c.args.rules.now = search rules in
    let is : c.in-Some.rule.now ≡ get_or c.args.rules.now c.args.index c.in-Some.rule.now = search rules in
    omega (arith, c.in_ok-_raised.ensures.noted, room-kept (g.R.Rule.target_of c.in-Some.rule.now) (g.R.Rule.value_of c.in-Some.rule.now (map type_of c.args.types.now.items)) (map type_of c.args.types.now.items) (map type_of c.raise.new.types.items) c.in_ok-_raised._raised (target-low g.R.Rule.target_of c.args.rules.now (length c.args.types.now.items) (length (map type_of c.args.types.now.items)) c.args.index c.in-Some.rule.now c.requires.targets (length-map c.args.types.now.items type_of) short is) (all_types c.args.types.now.items) c.in_ok-_raised.ensures.raised)
