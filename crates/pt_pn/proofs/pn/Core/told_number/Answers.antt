use Rattle.std.proofs.Common.{w64, [], ◌∷◌, ap, ◌∙◌}
use Rattle.std.proofs.lemmas.Int.{to_z-of_z}
use Rattle.pt_meaning.specs.Streams.{change_at}
use Rattle.pt_meaning.specs.Process.{to_each}
use Rattle.pt_value.specs.declared.token.Token.TheVariants.{Int}
use Rattle.pt_firing.specs.Need.{need_of}
use Rattle.pt_process.specs.Process.{once_fired}
use Rattle.pt_puts.proofs.PutLaws.{fan-puts}
use Rattle.pt_pn.proofs.CallLaws.{fan-there, told-there, told-places, told-got, told-none, told-keeps, told-fits, told-so}
use Rattle.pt_pn.proofs.SettledLaws.{told-settled}
use Rattle.pt_pn.proofs.pn.Core.told_number.Goals as goal

pub places_of-requires : goal.places_of-requires
places_of-requires c = told-there c.self.inside c.self.invariant c.args.self.now c.self.view_is c.args.process c.requires.asked

pub promise_each-requires-clause-there : goal.promise_each-requires-clause-there
promise_each-requires-clause-there c = fan-there c.self.inside c.self.invariant c.args.self.now c.self.view_is c.args.process (Int c.args.number) c.fan-fan.result.now c.fan-fan.ensures

pub tell_number_at-requires-clause-none : goal.tell_number_at-requires-clause-none
tell_number_at-requires-clause-none c = told-none c.self.inside c.self.invariant c.args.self.now c.self.view_is c.args.process c.requires.asked

pub tell_number_at-requires-clause-places : goal.tell_number_at-requires-clause-places
tell_number_at-requires-clause-places c =
    told-got c.self.inside c.self.invariant c.args.self.now c.self.view_is c.args.process (need_of c.args.need) c.requires.asked (told-places c.self.inside c.self.invariant c.args.self.now c.self.view_is c.args.process c.places_of.result (need_of c.args.need) c.requires.asked c.places_of.ensures (c.fits.ensures c.if-not-fits.false))

pub invariant_of-self-2 : goal.invariant_of-self-2
invariant_of-self-2 c =
    let told = c.in_ok-tell_number_at.ensures.told ∙ ap (λ z. change_at c.args.process (once_fired (need_of c.args.need) (to_each (Int z) c.fan-fan.result.now)) c.self.inside.processes.items) (to_z-of_z w64 c.args.number c.ranges.number) in
    record {
      kept = told-keeps c.self.inside c.self.invariant c.args.self.now c.self.view_is c.args.process (need_of c.args.need) (to_each (Int c.args.number) c.fan-fan.result.now) c.tell_number_at.new.processes.items c.promise_each.new.queues.lists c.promise_each.new.queues.spares c.promise_each.new.promised.items c.requires.asked
          (told-places c.self.inside c.self.invariant c.args.self.now c.self.view_is c.args.process c.places_of.result (need_of c.args.need) c.requires.asked c.places_of.ensures (c.fits.ensures c.if-not-fits.false)) told c.in_ok-promise_each.ensures.lists c.in_ok-promise_each.ensures.spares c.in_ok-promise_each.ensures.counted
          c.in_ok-promise_each.ensures.room (c.in_ok-promise_each.ensures.promised (Int c.args.number));
      stage = told-fits c.self.inside c.self.invariant c.args.self.now c.self.view_is c.args.process (need_of c.args.need) (to_each (Int c.args.number) c.fan-fan.result.now) c.tell_number_at.new.processes.items c.requires.asked told;
      settled = told-settled c.self.inside.network c.self.inside.processes.items c.tell_number_at.new.processes.items c.self.inside.capacity.items c.self.inside.queues.lists c.promise_each.new.queues.lists c.self.inside.notes c.note.new.self c.args.process
          (once_fired (need_of c.args.need) (to_each (Int c.args.number) c.fan-fan.result.now)) told c.in_ok-promise_each.ensures.lists c.note.ensures c.self.invariant.settled;
    }

pub returns-clause-told : goal.returns-clause-told
returns-clause-told c =
    told-so c.self.inside c.self.invariant c.args.self.now c.self.view_is c.args.process (need_of c.args.need) ((Int c.args.number ∷ []) ∷ []) (to_each (Int c.args.number) c.fan-fan.result.now) c.tell_number_at.new.processes.items c.promise_each.new.queues.lists c.requires.asked
    (fan-puts c.self.inside.network.plan.net.sources c.args.process (Int c.args.number) c.fan-fan.result.now c.fan-fan.ensures)
    (c.in_ok-tell_number_at.ensures.told ∙ ap (λ z. change_at c.args.process (once_fired (need_of c.args.need) (to_each (Int z) c.fan-fan.result.now)) c.self.inside.processes.items) (to_z-of_z w64 c.args.number c.ranges.number)) c.in_ok-promise_each.ensures.lists
