use Rattle.std.proofs.Common.{subst, arith}
use Rattle.std.specs.Prelude.{Some, slice_get}
use Rattle.pt_start.specs.Frames.{IsTransparentKept}
use Rattle.pt_start.proofs.Loops.{get-is}
use Rattle.pt_start.proofs.Kept.{kept-more, kept-all}
use Rattle.pt_start.proofs.frames.transparent_names.Goals as goal

pub loop-number-preserved : goal.loop-number-preserved
loop-number-preserved c =
    let xs = c.args.composites.now in
    let vs = c.args.values.now in
    let i = c.loop-number.number in
    let x = c.index-composites-number.result in
    let n = c.in_ok-names_of_transparent.field-0 in
    let here : IsTransparentKept (Some x) (slice_get vs i) (Some n) = subst (λ o. IsTransparentKept (Some x) o (Some n)) (get-is vs i c.get.result c.get.ensures.lookup) c.in_ok-names_of_transparent.ensures in
    record {
      counted = omega (arith, c.in_ok-push.ensures.len, c.loop-number.invariant.counted);
      each = kept-more IsTransparentKept xs vs c.loop-number.names.items c.push.new.self.items x n i c.loop-number-test.true c.index-composites-number.is c.loop-number.invariant.counted c.in_ok-push.ensures.items here c.loop-number.invariant.each;
    }

pub returns : goal.returns
returns c = kept-all IsTransparentKept c.args.composites.now c.args.values.now c.loop-number.names.items c.loop-number.number c.loop-number-test.false (λ v n. tt) c.loop-number.invariant.each
