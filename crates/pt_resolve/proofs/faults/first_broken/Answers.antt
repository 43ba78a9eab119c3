use Rattle.std.proofs.Common.{map, sym, ◌∙◌}
use Rattle.std.specs.Prelude.{option_map}
use Rattle.pt_net.specs.Net.{entity_view}
use Rattle.pt_scopes.specs.Valued as valued
use Rattle.pt_typing.specs.Least.{assignment}
use Rattle.pt_frames.specs.Views.{frames_view}
use Rattle.pt_resolve.specs.Broken.{first_broken}
use Rattle.pt_inequalities.proofs.Steps.{first-mapped}
use Rattle.pt_resolve.proofs.Breaks.{first-here, first-later}
use Rattle.pt_resolve.proofs.faults.first_broken.Goals as goal

pub returns-then-branch : goal.returns-then-branch
returns-then-branch c =
    let i = c.loop-number.number in
    let frames = frames_view c.args.frames.now in
    let a = assignment c.args.typing.now in
    first-here frames a c.args.entities.now c.args.values.now i c.index-entities-number.result (option_map (λ v. valued.entity_view v.now) c.values_at-own.result)
    (first_broken frames a 0 (map entity_view c.args.entities.now) (map valued.entity_view c.args.values.now)) c.loop-number-test.true c.index-entities-number.is
    (first-mapped valued.entity_view c.args.values.now i ∙ sym c.values_at-own.ensures) c.loop-number.invariant (sym c.in_ok-breaks.ensures ∙ c.if-branch.true)

pub loop-number-preserved : goal.loop-number-preserved
loop-number-preserved c =
    let i = c.loop-number.number in
    let frames = frames_view c.args.frames.now in
    let a = assignment c.args.typing.now in
    first-later frames a c.args.entities.now c.args.values.now i c.index-entities-number.result (option_map (λ v. valued.entity_view v.now) c.values_at-own.result)
    (first_broken frames a 0 (map entity_view c.args.entities.now) (map valued.entity_view c.args.values.now)) c.loop-number-test.true c.index-entities-number.is
    (first-mapped valued.entity_view c.args.values.now i ∙ sym c.values_at-own.ensures) c.loop-number.invariant (sym c.in_ok-breaks.ensures ∙ c.if-branch.false)
