use Rattle.std.proofs.Common.{◌-◌, ◌++◌, [], length, max, set, take, ap, sym, ◌∙◌, arith, refl, length-set, append-nil}
use Rattle.std.proofs.lemmas.List.{set-get_or, take_all}
use Rattle.pt_recv.specs.Lines.{list_at, spare_at}
use Rattle.pt_pn.proofs.FreshLaws.{copied-more, filled-long}
use Rattle.pt_pn.proofs.fresh.fill.Goals as goal

pub loop-token-init : goal.loop-token-init
loop-token-init c = record {
  lists = sym (ap (λ v. set c.args.queues.now.lists c.args.channel v) (append-nil (list_at c.args.queues.now.lists c.args.channel)) ∙ set-get_or c.args.queues.now.lists c.args.channel []);
  counted = refl;
}

pub ready-requires : goal.ready-requires
ready-requires c = filled-long c.args.queues.now.lists c.loop-token.queues.lists c.args.channel (list_at c.args.queues.now.lists c.args.channel ++ take c.loop-token.token-index c.args.tokens.now) c.loop-token.invariant.lists c.requires.there

pub put-requires : goal.put-requires
put-requires c =
    let l = filled-long c.args.queues.now.lists c.loop-token.queues.lists c.args.channel (list_at c.args.queues.now.lists c.args.channel ++ take c.loop-token.token-index c.args.tokens.now) c.loop-token.invariant.lists c.requires.there in
    let e = ap (λ v. length v) c.in_ok-ready.ensures.lists in
    record { given = omega (arith, l, e); spare = omega (arith, c.in_ok-ready.ensures.room) }

pub loop-token-preserved : goal.loop-token-preserved
loop-token-preserved c = record {
  lists = copied-more c.args.queues.now.lists c.loop-token.queues.lists c.ready.new.self.lists c.put.new.self.lists c.args.channel c.loop-token.token-index c.args.tokens.now c.token-item.result c.in_ok-token.token c.loop-token-test.true c.token-item.is c.in_ok-token.ensures.value c.loop-token.invariant.lists c.in_ok-ready.ensures.lists c.put.ensures.lists;
  counted =
      ap (λ v. length v) c.put.ensures.spares ∙ length-set c.ready.new.self.spares c.args.channel (spare_at c.ready.new.self.spares c.args.channel - 1) ∙ ap (λ v. length v) c.in_ok-ready.ensures.spares ∙ length-set c.loop-token.queues.spares c.args.channel (max 1 (spare_at c.loop-token.queues.spares c.args.channel)) ∙ c.loop-token.invariant.counted;
}

pub returns-clause-lists : goal.returns-clause-lists
returns-clause-lists c = c.loop-token.invariant.lists ∙ ap (λ v. set c.args.queues.now.lists c.args.channel (list_at c.args.queues.now.lists c.args.channel ++ v)) (take_all c.loop-token.token-index c.args.tokens.now (omega (arith, c.loop-token-test.false)))
