use Rattle.std.proofs.Common.{◌+◌, ◌++◌, ap, ◌∙◌, drop}
use Rattle.std.specs.Prelude.{option_map}
use Rattle.std.specs.List.{filter_map}
use Rattle.pt_scopes.specs.Scopes.{bound}
use Rattle.pt_start.specs.Started.{seen_token}
use Rattle.pt_start.specs.Frames.{with_token}
use Rattle.pt_start.proofs.Loops.{drop-at}
use Rattle.pt_start.proofs.Tokens.{put-some, seen-step}
use Rattle.pt_start.proofs.starts.Starts.add_seen.Goals as goal

pub loop-name-preserved : goal.loop-name-preserved
loop-name-preserved c = λ seen sees.
    let names = c.args.names.now in
    let i = c.loop-name.name-index in
    let name = c.name-item.result in
    let found = option_map (λ t. t.now) c.find.result in
    put-some c.loop-name.tokens.items c.add_token.new.tokens.items (with_token name found) (filter_map (seen_token seen) (drop i names)) (filter_map (seen_token seen) (drop (i + 1) names)) (c.args.tokens.now.items ++ filter_map (seen_token seen) names)
    c.in_ok-add_token.ensures
    (ap (filter_map (seen_token seen)) (drop-at names i name c.loop-name-test.true c.name-item.is) ∙ seen-step seen name found (drop (i + 1) names) (c.find.ensures seen sees ∙ ap (bound seen) c.as_str.ensures))
    (c.loop-name.invariant seen sees)
