use Rattle.std.proofs.Common.{map, bytes_eq, sym, ap, ◌∙◌}
use Rattle.std.proofs.lemmas.List.{take_all}
use Rattle.std.proofs.lemmas.Result.{IfOk-weaker}
use Rattle.std.specs.List.{position}
use Rattle.pt_links.specs.Recorded.{Name}
use Rattle.pt_links.proofs.Positions.{position-map}
use Rattle.pt_links.proofs.records.text_places.Goals as goal

pub returns : goal.returns
returns c =
    let all = take_all c.loop-text.text-index c.args.texts.now c.loop-text-test.false in
    let same = ap (λ ks. map (λ (k : Name). k.now) ks) c.deref.ensures.value ∙ c.loop-text.invariant ∙ all in
    IfOk-weaker c.first_places.result _ _ (λ places known name. known name ∙ sym (position-map (bytes_eq name.now) (λ (k : Name). k.now) c.deref.result.now) ∙ ap (position (bytes_eq name.now)) same) c.first_places.ensures
