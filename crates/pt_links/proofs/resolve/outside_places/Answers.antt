use Rattle.std.proofs.Common.{Some, map, ap, ◌∙◌}
use Rattle.std.proofs.lemmas.List.{take_all}
use Rattle.std.proofs.lemmas.Result.{IfOk-weaker}
use Rattle.std.specs.Cmp.Lexicographic.{pointwise}
use Rattle.std.specs.Option.{option_eq}
use Rattle.std.specs.Prelude.{nat_eq, ◌&&◌}
use Rattle.pt_survey.specs.Survey.{ports_view}
use Rattle.pt_links.proofs.Keys.{child_view, outside_key, outside_next}
use Rattle.pt_links.proofs.Positions.{position-views}
use Rattle.pt_links.proofs.resolve.outside_places.Goals as goal

pub loop-number-preserved : goal.loop-number-preserved
loop-number-preserved c =
    ap (λ ks. map child_view ks) c.in_ok-push.ensures.items
    ∙ outside_next c.loop-number.keys.items c.args.ports.now c.args.texts.now c.loop-number.number c.index-ports-number.result c.index-texts-number.result c.as_str.result c.loop-number-test.true c.index-ports-number.is c.index-texts-number.is c.as_str.ensures c.requires.texts c.loop-number.invariant

pub returns : goal.returns
returns c =
    let keys = c.deref.ensures.value in
    let all = take_all c.loop-number.number c.args.ports.now c.loop-number-test.false in
    let same = ap (λ ks. map child_view ks) keys ∙ c.loop-number.invariant ∙ ap (λ ps. map outside_key (ports_view ps)) all in
    IfOk-weaker c.first_places.result _ _ (λ places known n text. known (Some n, text) ∙ position-views (λ v. option_eq nat_eq (Some n) v.0 && pointwise nat_eq text.now v.1) child_view outside_key c.deref.result.now (ports_view c.args.ports.now) same) c.first_places.ensures
