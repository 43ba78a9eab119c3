use Rattle.std.proofs.Common.{ap, length, false, arith}
use Rattle.std.proofs.lemmas.List.{length-replicate}
use Rattle.pt_rv_parts.proofs.FlagLaws.{listed-first}
use Rattle.pt_rv_parts.proofs.flags.Flags.new.Goals as goal

pub invariant_of-result : goal.invariant_of-result
invariant_of-result c = record {
  listed = listed-first c.args.count c.in_ok-flags.flags.items c.in_ok-numbers.numbers.items c.in_ok-places.places.items c.in_ok-flags.ensures c.in_ok-numbers.ensures.items c.in_ok-places.ensures;
  room = let a = ap (λ v. length v) c.in_ok-flags.ensures in let b = length-replicate c.args.count false in omega (arith, a, b, c.in_ok-numbers.ensures.capacity);
}
