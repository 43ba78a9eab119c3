use Rattle.std.proofs.Common.{length, ap, sym, ◌∙◌, arith}
use Rattle.pt_puts.specs.Puts.{puts_in}
use Rattle.pt_pn.specs.Puts.{all_put}
use Rattle.pt_pn.proofs.CallLaws.{promise-counted, promise-spares, arrivals-there, begin-keeps, begin-fits, begin-is}
use Rattle.pt_pn.proofs.SettledLaws.{begun-settled}
use Rattle.pt_pn.proofs.pn.Core.begin.Goals as goal

pub promise-requires : goal.promise-requires
promise-requires c = record {
  there = arrivals-there c.self.inside c.self.invariant c.args.self.now c.self.view_is c.args.inputs.now _ c.in_ok-stage_inputs.ensures;
  counted = promise-counted c.self.inside c.self.invariant c.args.self.now c.self.view_is;
  spares = promise-spares c.self.inside c.self.invariant c.args.self.now c.self.view_is;
  room = c.self.invariant.kept.room;
}

pub put_all-requires : goal.put_all-requires
put_all-requires c = record {
  counted = c.in_ok-promise.ensures.counted ∙ promise-counted c.self.inside c.self.invariant c.args.self.now c.self.view_is ∙ sym (ap (λ v. length v) c.in_ok-promise.ensures.lists);
  spares = c.in_ok-promise.ensures.spares ∙ promise-spares c.self.inside c.self.invariant c.args.self.now c.self.view_is ∙ sym (ap (λ v. length v) c.in_ok-promise.ensures.lists);
  room = c.in_ok-promise.ensures.room;
  promised = λ d. let m = c.in_ok-promise.ensures.promised d in omega (arith, m);
}

pub returns-clause-begun : goal.returns-clause-begun
returns-clause-begun c = begin-is c.self.inside c.self.invariant c.args.self.now c.self.view_is c.args.tag c.args.inputs.now _ c.promise.new.queues.lists c.put_all.new.queues.lists c.in_ok-stage_inputs.ensures c.in_ok-promise.ensures.lists c.put_all.ensures.lists

pub invariant_of-self-2 : goal.invariant_of-self-2
invariant_of-self-2 c = record {
  kept = begin-keeps c.self.inside c.self.invariant c.args.self.now c.self.view_is (puts_in c.stage_inputs.new.staged.items) c.put_all.new.queues.lists c.promise.new.queues.spares c.promise.new.promised.items c.put_all.new.queues.spares c.put_all.new.promised.items
      (c.put_all.ensures.lists ∙ ap (λ X. all_put (puts_in c.stage_inputs.new.staged.items) X) c.in_ok-promise.ensures.lists) c.in_ok-promise.ensures.spares c.in_ok-promise.ensures.counted c.put_all.ensures.spares c.put_all.ensures.counted c.in_ok-promise.ensures.promised c.put_all.ensures.room c.put_all.ensures.left;
  stage = begin-fits c.self.inside c.self.invariant c.args.self.now c.self.view_is c.requires.idle;
  settled = begun-settled c.self.inside.network c.self.inside.processes.items c.self.inside.capacity.items c.self.inside.queues.lists c.put_all.new.queues.lists c.self.inside.notes c.put_all.new.notes (puts_in c.stage_inputs.new.staged.items)
      (c.put_all.ensures.lists ∙ ap (λ X. all_put (puts_in c.stage_inputs.new.staged.items) X) c.in_ok-promise.ensures.lists) c.put_all.ensures.noted c.self.invariant.settled;
}
