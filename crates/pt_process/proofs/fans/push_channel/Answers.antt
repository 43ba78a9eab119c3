use Rattle.std.proofs.Common.{ℕ, ◌∷◌, ◌++◌, [], set, get_or, ap, sym, ◌∙◌, arith, Vec, Global}
use Rattle.std.proofs.lemmas.List.{map-set, get_or-map, length-map}
use Rattle.pt_puts.specs.Fans.{row_in}
use Rattle.pt_puts.proofs.FanLaws.{port-fans}
use Rattle.pt_process.proofs.fans.push_channel.Goals as goal

pub returns : goal.returns
returns c q =
    ap (λ v. get_or v q [])
    (map-set (λ (v : Vec ℕ Global). v.items) c.args.row.now.items c.args.port c.push.new.self ∙
    ap (λ v. set (row_in c.args.row.now.items) c.args.port v)
    (c.in_ok-push.ensures.items ∙
    ap (λ v. v ++ c.args.c ∷ []) (ap (λ (v : Vec ℕ Global). v.items) c.index_mut-fan.ensures.value ∙ sym (get_or-map (λ (v : Vec ℕ Global). v.items) c.args.row.now.items c.args.port c.index_mut-fan.result.now [] c.requires)))) ∙
    port-fans c.args.port c.args.c (row_in c.args.row.now.items) (let n = length-map c.args.row.now.items (λ (v : Vec ℕ Global). v.items) in omega (arith, n, c.requires)) q
