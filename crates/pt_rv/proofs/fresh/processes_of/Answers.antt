use Rattle.std.proofs.Common.{◌≡◌, ℕ, zero, suc, ◌<◌, List, [], ◌∷◌, ◌++◌, map, take, length, get_or, false, refl, ap, ap₂, sym, subst, ◌∙◌, arith}
use Rattle.std.proofs.lemmas.List.{take_all, length-map}
use Rattle.pt_meaning.specs.Machine.{Over}
use Rattle.pt_rv_laws.specs.Lawful.{HasPlaces}
use Rattle.pt_puts.specs.declared.need.KeptNeed.{KeptNeed}
use Rattle.pt_puts.specs.Need.{need_in}
use Rattle.pt_rv.specs.Fresh.{starting}
use Rattle.pt_rv.proofs.FreshLaws.{starting-more}
use Rattle.pt_rv.proofs.fresh.processes_of.Goals as goal

need-at : (ms : List KeptNeed) (i : ℕ) (m : KeptNeed) → i < length ms → m ≡ get_or ms i m → need_in m ≡ get_or (map need_in ms) i Over
need-at [] i m h e = absurd (omega (arith, h))
need-at (n ∷ ms) zero m h e = ap need_in e
need-at (n ∷ ms) (suc i) m h e = need-at ms i m (omega (arith, h)) e

pub process_of-requires : goal.process_of-requires
process_of-requires c =
    let l : c.loop-i.i < length c.args.places.now = c.loop-i-test.true in
    subst (λ m. HasPlaces (get_or c.args.places.now c.loop-i.i 0) m) (sym (need-at c.args.starts.now c.loop-i.i c.index-starts-i.result (omega (arith, l, c.requires.counted)) c.index-starts-i.is)) (c.requires.fits c.loop-i.i l)

pub loop-i-preserved : goal.loop-i-preserved
loop-i-preserved c =
    let l : c.loop-i.i < length c.args.places.now = c.loop-i-test.true in
    let n = length-map c.args.starts.now need_in in
    c.in_ok-push.ensures.items ∙ ap₂ (λ v w. v ++ (w ∷ [])) c.loop-i.invariant c.in_ok-process.ensures ∙
    sym (starting-more c.args.barriers.now (map need_in c.args.starts.now) c.args.places.now c.loop-i.i (get_or c.args.barriers.now c.loop-i.i false) (need_in c.index-starts-i.result) (get_or c.args.places.now c.loop-i.i 0) (omega (arith, l, c.requires.told)) (omega (arith, l, n, c.requires.counted)) l refl (need-at c.args.starts.now c.loop-i.i c.index-starts-i.result (omega (arith, l, c.requires.counted)) c.index-starts-i.is) refl)

pub returns : goal.returns
returns c =
    let l = c.loop-i-test.false in
    let n = length-map c.args.starts.now need_in in
    c.loop-i.invariant ∙ ap (λ v. starting v (take c.loop-i.i (map need_in c.args.starts.now)) (take c.loop-i.i c.args.places.now)) (take_all c.loop-i.i c.args.barriers.now (omega (arith, l, c.requires.told))) ∙
    ap₂ (λ v w. starting c.args.barriers.now v w) (take_all c.loop-i.i (map need_in c.args.starts.now) (omega (arith, l, n, c.requires.counted))) (take_all c.loop-i.i c.args.places.now (omega (arith, l)))
