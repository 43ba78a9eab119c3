use Rattle.std.proofs.Common.{ℕ, ◌+◌, ◌≤◌, [], ◌∷◌, ◌++◌, length, set, drop, ap, sym, subst, ◌∙◌, arith, refl, length-set, length-drop, get_or-set_same}
use Rattle.std.specs.Prelude.{slice_get}
use Rattle.std.proofs.lemmas.List.{set-get_or, take_all, drop_all}
use Rattle.pt_recv.specs.Lines.{list_at, spare_at}
use Rattle.pt_recv.proofs.LineLaws.{taken-next}
use Rattle.pt_pn.proofs.OutletLaws.{front-of, raised-more, more-on}
use Rattle.pt_pn.proofs.outlets.drain.Goals as goal

pub loop-init : goal.loop-init
loop-init c = record {
  moved = c.requires.empty;
  room = omega (arith, c.requires.room);
  left = sym (set-get_or c.args.queues.now.lists c.args.channel []);
  spares = refl;
  more = λ d. omega arith;
}

pub next_token-token-requires-clause-there : goal.next_token-token-requires-clause-there
next_token-token-requires-clause-there c = let e = ap (λ v. length v) c.loop.invariant.left ∙ length-set c.args.queues.now.lists c.args.channel (drop c.loop.counter (list_at c.args.queues.now.lists c.args.channel)) in omega (arith, e, c.requires.there)

pub next_token-token-requires-clause-some : goal.next_token-token-requires-clause-some
next_token-token-requires-clause-some c =
    let left = ap (λ v. length (list_at v c.args.channel)) c.loop.invariant.left ∙ ap (λ v. length v) (get_or-set_same c.args.queues.now.lists c.args.channel (drop c.loop.counter (list_at c.args.queues.now.lists c.args.channel)) [] c.requires.there) ∙ length-drop c.loop.counter (list_at c.args.queues.now.lists c.args.channel) in
    omega (arith, left, c.loop-test.true, c.len-end.ensures)

pub put-requires : goal.put-requires
put-requires c = omega (arith, c.loop.invariant.room, c.loop-test.true, c.len-end.ensures)

pub loop-preserved : goal.loop-preserved
loop-preserved c =
    let k : ℕ = c.loop.counter in
    let left = ap (λ v. list_at v c.args.channel) c.loop.invariant.left ∙ get_or-set_same c.args.queues.now.lists c.args.channel (drop k (list_at c.args.queues.now.lists c.args.channel)) [] c.requires.there in
    let front = ap (λ v. slice_get v 0) (sym left) ∙ c.next_token-token.ensures.first in
    record {
      moved = c.put.ensures.list ∙ ap (λ v. v ++ (c.next_token-token.result ∷ [])) c.loop.invariant.moved ∙ sym (front-of (list_at c.args.queues.now.lists c.args.channel) k c.next_token-token.result (omega (arith, c.loop-test.true, c.len-end.ensures)) front);
      room = omega (arith, c.put.ensures.spare, c.loop.invariant.room);
      left = taken-next c.next_token-token.new.queues.lists c.loop.queues.lists c.args.queues.now.lists c.args.channel k c.loop.invariant.left c.next_token-token.ensures.lists;
      spares = ap (λ v. length v) c.next_token-token.ensures.spares ∙ length-set c.loop.queues.spares c.args.channel (spare_at c.loop.queues.spares c.args.channel + 1) ∙ c.loop.invariant.spares;
      more = more-on c.args.queues.now.spares c.loop.queues.spares c.next_token-token.new.queues.spares c.loop.invariant.more (λ d. subst (λ v. spare_at c.loop.queues.spares d ≤ spare_at v d) (sym c.next_token-token.ensures.spares) (raised-more c.loop.queues.spares c.args.channel d));
    }

pub returns-clause-moved : goal.returns-clause-moved
returns-clause-moved c = c.loop.invariant.moved ∙ take_all c.loop.counter (list_at c.args.queues.now.lists c.args.channel) (omega (arith, c.loop-test.false, c.len-end.ensures))

pub returns-clause-left : goal.returns-clause-left
returns-clause-left c = c.loop.invariant.left ∙ ap (λ v. set c.args.queues.now.lists c.args.channel v) (drop_all c.loop.counter (list_at c.args.queues.now.lists c.args.channel) (omega (arith, c.loop-test.false, c.len-end.ensures)))
