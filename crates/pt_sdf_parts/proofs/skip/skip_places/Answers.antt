use Rattle.std.proofs.Common.{◌+◌, ◌≤◌, length, get_or, drop, ap, sym, subst, arith, length-drop}
use Rattle.std.proofs.lemmas.List.{get_or-drop}
use Rattle.pt_recv.specs.Lines.{spare_at}
use Rattle.pt_sdf_parts.proofs.Lists.{skip-zero, taken-long, next-list, next-left, spare-raised}
use Rattle.pt_sdf_parts.proofs.skip.skip_places.Goals as goal

pub loop-k-init : goal.loop-k-init
loop-k-init c = record { lists = sym (skip-zero c.args.from c.args.channels.now.lists); keeps = λ d. omega arith }

pub skip-requires-clause-given : goal.skip-requires-clause-given
skip-requires-clause-given c =
    omega (arith, c.requires.places, c.loop-k-test.true, taken-long c.loop-k.channels.lists c.args.channels.now.lists c.args.from c.loop-k.k (drop c.args.from c.args.needs.now) c.loop-k.invariant.lists)

pub skip-requires-clause-enough : goal.skip-requires-clause-enough
skip-requires-clause-enough c =
    subst (λ v. get_or c.args.needs.now (c.args.from + c.loop-k.k) 0 ≤ length v) (sym (next-list c.loop-k.channels.lists c.args.channels.now.lists c.args.from c.loop-k.k (drop c.args.from c.args.needs.now) c.loop-k.invariant.lists)) (c.requires.enough c.loop-k.k c.loop-k-test.true)

pub loop-k-preserved : goal.loop-k-preserved
loop-k-preserved c = record {
  lists =
      next-left c.loop-k.channels.lists c.args.channels.now.lists c.args.from c.loop-k.k (drop c.args.from c.args.needs.now) c.loop-k.invariant.lists c.skip.new.self.lists (get_or c.args.needs.now (c.args.from + c.loop-k.k) 0)
      (omega (arith, c.requires.needed, c.loop-k-test.true, length-drop c.args.from c.args.needs.now)) (omega (arith, c.requires.places, c.loop-k-test.true)) (sym (get_or-drop c.args.from c.args.needs.now c.loop-k.k 0)) c.skip.ensures.lists;
  keeps = λ d. omega (arith, c.loop-k.invariant.keeps d, spare-raised c.loop-k.channels.spares (c.args.from + c.loop-k.k) (get_or c.args.needs.now (c.args.from + c.loop-k.k) 0) d, ap (λ v. spare_at v d) c.skip.ensures.spares);
}
