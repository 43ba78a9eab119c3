use Rattle.std.proofs.Common.{ℕ, ◌<◌, List, ◌++◌, [], ◌∷◌, length, map, get_or, None, ap₂, sym, subst, ◌∙◌, arith, refl}
use Rattle.std.proofs.lemmas.List.{take_all, length-map, get_or_read}
use Rattle.pt_pn_laws.specs.Lawful.{HasPlaces}
use Rattle.pt_process.specs.Process.{Standing, need_in}
use Rattle.pt_pn.specs.Fresh.{starting}
use Rattle.pt_pn.proofs.FreshLaws.{starting-more, mapped-need}
use Rattle.pt_pn.proofs.fresh.processes_of.Goals as goal

pub process_of-requires : goal.process_of-requires
process_of-requires c =
    subst (λ o. HasPlaces (get_or c.args.places.now c.loop-i.i 0) (need_in o)) (sym (get_or_read c.args.starts.now c.loop-i.i c.index-starts-i.result (omega (arith, c.loop-i-test.true, c.requires.counted)) c.index-starts-i.is None)) (c.requires.fits c.loop-i.i c.loop-i-test.true)

pub loop-i-preserved : goal.loop-i-preserved
loop-i-preserved c =
    let k : ℕ = c.loop-i.i in
    let l : k < length c.args.starts.now = omega (arith, c.loop-i-test.true, c.requires.counted) in
    let m = length-map c.args.starts.now need_in in
    c.in_ok-push.ensures.items ∙ ap₂ (λ (ps : List Standing) p. ps ++ (p ∷ [])) c.loop-i.invariant c.in_ok-process.ensures ∙
    sym
    (starting-more (map need_in c.args.starts.now) c.args.places.now k (need_in c.index-starts-i.result) (get_or c.args.places.now k 0) (omega (arith, l, m)) c.loop-i-test.true (mapped-need c.args.starts.now k c.index-starts-i.result l c.index-starts-i.is) refl)

pub returns : goal.returns
returns c =
    let l = length-map c.args.starts.now need_in in
    c.loop-i.invariant ∙ ap₂ (λ v w. starting v w) (take_all c.loop-i.i (map need_in c.args.starts.now) (omega (arith, l, c.loop-i-test.false, c.requires.counted))) (take_all c.loop-i.i c.args.places.now (omega (arith, c.loop-i-test.false)))
