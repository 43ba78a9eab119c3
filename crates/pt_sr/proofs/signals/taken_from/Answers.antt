use Rattle.std.proofs.Common.{◌∷◌, [], ◌++◌, drop, ap, ◌∙◌, arith, length-set}
use Rattle.pt_sr.proofs.SignalLaws.{taken-more}
use Rattle.pt_sr.proofs.signals.taken_from.Goals as goal

pub loop-c-preserved : goal.loop-c-preserved
loop-c-preserved c = record {
  taken = taken-more c.loop-c.outputs.items c.push_reserved.new.self.items c.loop-c.lists.items c.loop-c.c c.index_mut.result.now c.take.new.self (drop c.args.from c.args.lists.now.items) (omega (arith, c.loop-c-test.true, c.loop-c.invariant.counted, c.len-c-end.ensures, c.args.lists.now.ok.0)) c.index_mut.ensures.value (c.push_reserved.ensures.items ∙ ap (λ t. c.loop-c.outputs.items ++ t ∷ []) c.take.ensures.taken) c.loop-c.invariant.taken;
  counted = length-set c.loop-c.lists.items c.loop-c.c c.take.new.self ∙ c.loop-c.invariant.counted;
  held = omega (arith, c.push_reserved.ensures.len, c.loop-c.invariant.held);
  room = omega (arith, c.push_reserved.ensures.capacity, c.loop-c.invariant.room);
}
