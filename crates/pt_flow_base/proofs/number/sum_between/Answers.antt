use Rattle.std.proofs.Common.{◌≤◌, ◌<◌, length, ◌&&◌, ◌+ℤ◌, [], sym, ap, ap₂, ◌∙◌, arith}
use Rattle.std.proofs.lemmas.Int.{ints}
use Rattle.pt_meaning.specs.Node.{is_none}
use Rattle.pt_flow_base.specs.Row.{present, total, with_number}
use Rattle.pt_flow_base.proofs.Places.{total-more, none-more, nothing-between}
use Rattle.pt_flow_base.proofs.number.sum_between.Goals as goal

pub loop-place-init : goal.loop-place-init
loop-place-init g c = record {
  number = sym (ap (λ Y. total (present Y)) (nothing-between (g.I.Numbered.streams c.args.inputs.now) c.args.from));
  empty = sym (ap (λ Y. is_none (present Y)) (nothing-between (g.I.Numbered.streams c.args.inputs.now) c.args.from));
  low = omega (arith, ints);
  high = omega (arith, ints);
}

pub loop-place-preserved : goal.loop-place-preserved
loop-place-preserved g c =
    let X = g.I.Numbered.streams c.args.inputs.now in
    let inv = c.loop-place.invariant in
    let order : c.args.from ≤ c.loop-place.place = omega arith in
    let short : c.loop-place.place < length X = omega arith in
    record {
      number = c.with-sum.ensures.number ∙ ap₂ (λ s o. s +ℤ total (with_number o [])) inv.number c.number_at.ensures ∙ sym (total-more X c.args.from c.loop-place.place order short);
      empty = c.with-sum.ensures.empty ∙ ap₂ (λ s o. s && is_none (with_number o [])) inv.empty c.number_at.ensures ∙ sym (none-more X c.args.from c.loop-place.place order short);
      low = omega (arith, ints);
      high = omega (arith, ints);
    }
