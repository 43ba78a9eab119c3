use Rattle.std.proofs.Common.{map, sym, subst}
use Rattle.std.specs.Prelude.{option_map, MatchOption}
use Rattle.pt_net.specs.Net.{entity_view}
use Rattle.pt_scopes.specs.Valued as valued
use Rattle.pt_charts.specs.Readable.{IsEntityReadable, IsEntityUnreadable}
use Rattle.pt_frames.specs.Views.{frames_view}
use Rattle.pt_inequalities.proofs.ChartLaws.{entity-at}
use Rattle.pt_charts.proofs.ReadableLaws.{readable-more, first-of, readable-all}
use Rattle.pt_charts.proofs.readable.first_unreadable.Goals as goal

pub returns-in-Some : goal.returns-in-Some
returns-in-Some c =
    let i = c.loop-number.number in
    let frames = frames_view c.args.frames.now in
    let e = entity_view c.index-entities-number.result in
    let o = option_map (λ v. valued.entity_view v.now) c.values_at-own.result in
    first-of frames (map entity_view c.args.entities.now) (map valued.entity_view c.args.values.now) i e o
    (entity-at c.args.entities.now i c.index-entities-number.result c.loop-number-test.true c.index-entities-number.is) (sym c.values_at-own.ensures) c.loop-number.invariant c.in-Some.code
    (subst (λ found. MatchOption found (IsEntityReadable frames i e o) (IsEntityUnreadable frames i e o)) c.in-Some.is c.in_ok-code.ensures)

pub loop-number-preserved : goal.loop-number-preserved
loop-number-preserved c =
    let i = c.loop-number.number in
    let frames = frames_view c.args.frames.now in
    let e = entity_view c.index-entities-number.result in
    let o = option_map (λ v. valued.entity_view v.now) c.values_at-own.result in
    readable-more frames (map entity_view c.args.entities.now) (map valued.entity_view c.args.values.now) i e o
    (entity-at c.args.entities.now i c.index-entities-number.result c.loop-number-test.true c.index-entities-number.is) (sym c.values_at-own.ensures) c.loop-number.invariant
    (subst (λ found. MatchOption found (IsEntityReadable frames i e o) (IsEntityUnreadable frames i e o)) c.in_default.is c.in_ok-code.ensures)

pub returns : goal.returns
returns c = readable-all (frames_view c.args.frames.now) c.args.entities.now (map valued.entity_view c.args.values.now) c.loop-number.number c.loop-number-test.false c.loop-number.invariant
