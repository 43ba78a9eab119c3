use Rattle.std.proofs.Common.{refl, arith}
use Rattle.pt_puts.specs.Puts.{put_of}
use Rattle.pt_process.specs.Process.{with_put_made}
use Rattle.pt_pn.proofs.CallLaws.{promise-counted, promise-spares}
use Rattle.pt_pn.proofs.StepLaws.{in-list, put-waits, put-on, put-made, put-keeps, handed-still}
use Rattle.pt_pn.proofs.SettledLaws.{put-settled}
use Rattle.pt_pn.proofs.pn.Core.put.Goals as goal

pub take_put-put-requires : goal.take_put-put-requires
take_put-put-requires c = record {
  there = in-list c.self.inside c.self.invariant c.args.self.now c.self.view_is c.args.process c.requires.may.there;
  some = put-waits c.self.inside c.self.invariant c.args.self.now c.self.view_is c.args.process c.requires.may;
}

pub put_promised-requires : goal.put_promised-requires
put_promised-requires c =
    let on = put-on c.self.inside c.self.invariant c.args.self.now c.self.view_is c.args.process c.requires.may (put_of c.take_put-put.result) c.take_put-put.ensures.put in
    record {
      there = let l = on.1 in let e = c.self.invariant.kept.lists in omega (arith, l, e);
      counted = promise-counted c.self.inside c.self.invariant c.args.self.now c.self.view_is;
      spares = promise-spares c.self.inside c.self.invariant c.args.self.now c.self.view_is;
      room = c.self.invariant.kept.room;
      promised = on.0;
    }

pub invariant_of-self : goal.invariant_of-self
invariant_of-self c = record {
  kept = put-keeps c.self.inside c.self.invariant c.args.self.now c.self.view_is c.args.process c.requires.may (put_of c.take_put-put.result) c.take_put-put.new.processes.items c.put_promised.new.queues.lists c.put_promised.new.queues.spares c.put_promised.new.promised.items
      c.take_put-put.ensures.put c.take_put-put.ensures.left c.put_promised.ensures.lists c.put_promised.ensures.spares c.put_promised.ensures.promised;
  stage = handed-still c.self.inside c.self.invariant c.args.self.now c.self.view_is c.requires.running c.args.process with_put_made c.take_put-put.new.processes.items (λ p. refl) c.take_put-put.ensures.left;
  settled = put-settled c.self.inside.network c.self.inside.processes.items c.take_put-put.new.processes.items c.self.inside.capacity.items c.self.inside.queues.lists c.put_promised.new.queues.lists c.self.inside.notes c.note_put.new.self c.args.process c.take_put-put.result.channel c.take_put-put.result.token with_put_made
      c.take_put-put.ensures.left c.put_promised.ensures.lists c.note_put.ensures c.self.invariant.settled;
}

pub returns : goal.returns
returns c =
    put-made c.self.inside c.self.invariant c.args.self.now c.self.view_is c.requires.running c.args.process c.requires.may (put_of c.take_put-put.result) c.take_put-put.new.processes.items c.put_promised.new.queues.lists c.take_put-put.ensures.put c.take_put-put.ensures.left c.put_promised.ensures.lists
