use Rattle.std.proofs.Common.{◌∷◌, ◌++◌, [], ap, sym, ◌∙◌, set, Vec, Global}
use Rattle.std.proofs.lemmas.List.{map-set, get_or-map}
use Rattle.pt_sdf_parts.specs.declared.feeds.Feed.{Feed}
use Rattle.pt_sdf_parts.specs.Feeds.{rows_in}
use Rattle.pt_sdf_parts.proofs.feeds.add.Goals as goal

pub returns : goal.returns
returns c =
    map-set (λ (v : Vec Feed Global). v.items) c.args.rows.now.items c.args.r c.push.new.self ∙
    ap (λ v. set (rows_in c.args.rows.now.items) c.args.r v)
    (c.in_ok-push.ensures.items ∙
    ap (λ v. v ++ c.args.feed ∷ []) (ap (λ (v : Vec Feed Global). v.items) c.index_mut-row.ensures.value ∙ sym (get_or-map (λ (v : Vec Feed Global). v.items) c.args.rows.now.items c.args.r c.index_mut-row.result.now [] c.requires)))
