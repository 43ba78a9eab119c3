use Rattle.pt_firing.specs.Need.{need_of}
use Rattle.pt_puts.specs.Puts.{puts_in}
use Rattle.pt_process.specs.Process.{once_fired}
use Rattle.pt_pn.proofs.CallLaws.{puts-there, told-there, told-places, told-got, told-keeps, told-fits, told-so}
use Rattle.pt_pn.proofs.SettledLaws.{told-settled}
use Rattle.pt_pn.proofs.pn.Core.told.Goals as goal

pub places_of-requires : goal.places_of-requires
places_of-requires c = told-there c.self.inside c.self.invariant c.args.self.now c.self.view_is c.args.process c.requires.asked

pub promise-requires-clause-there : goal.promise-requires-clause-there
promise-requires-clause-there c = puts-there c.self.inside c.self.invariant c.args.self.now c.self.view_is c.args.process c.args.outputs (puts_in c.stage_outputs.new.staged.items) c.in_ok-stage_outputs.ensures

pub tell_at-requires-clause-places : goal.tell_at-requires-clause-places
tell_at-requires-clause-places c =
    told-got c.self.inside c.self.invariant c.args.self.now c.self.view_is c.args.process (need_of c.args.need) c.requires.asked (told-places c.self.inside c.self.invariant c.args.self.now c.self.view_is c.args.process c.places_of.result (need_of c.args.need) c.requires.asked c.places_of.ensures (c.fits.ensures c.if-not-fits.false))

pub invariant_of-self-2 : goal.invariant_of-self-2
invariant_of-self-2 c = record {
  kept = told-keeps c.self.inside c.self.invariant c.args.self.now c.self.view_is c.args.process (need_of c.args.need) (puts_in c.stage_outputs.new.staged.items) c.tell_at.new.processes.items c.promise.new.queues.lists c.promise.new.queues.spares c.promise.new.promised.items c.requires.asked
      (told-places c.self.inside c.self.invariant c.args.self.now c.self.view_is c.args.process c.places_of.result (need_of c.args.need) c.requires.asked c.places_of.ensures (c.fits.ensures c.if-not-fits.false)) c.in_ok-tell_at.ensures.told c.in_ok-promise.ensures.lists c.in_ok-promise.ensures.spares
      c.in_ok-promise.ensures.counted c.in_ok-promise.ensures.room c.in_ok-promise.ensures.promised;
  stage = told-fits c.self.inside c.self.invariant c.args.self.now c.self.view_is c.args.process (need_of c.args.need) (puts_in c.stage_outputs.new.staged.items) c.tell_at.new.processes.items c.requires.asked c.in_ok-tell_at.ensures.told;
  settled = told-settled c.self.inside.network c.self.inside.processes.items c.tell_at.new.processes.items c.self.inside.capacity.items c.self.inside.queues.lists c.promise.new.queues.lists c.self.inside.notes c.note.new.self c.args.process (once_fired (need_of c.args.need) (puts_in c.stage_outputs.new.staged.items))
      c.in_ok-tell_at.ensures.told c.in_ok-promise.ensures.lists c.note.ensures c.self.invariant.settled;
}

pub returns-clause-told : goal.returns-clause-told
returns-clause-told c =
    told-so c.self.inside c.self.invariant c.args.self.now c.self.view_is c.args.process (need_of c.args.need) c.args.outputs (puts_in c.stage_outputs.new.staged.items) c.tell_at.new.processes.items c.promise.new.queues.lists c.requires.asked c.in_ok-stage_outputs.ensures c.in_ok-tell_at.ensures.told c.in_ok-promise.ensures.lists
