use Rattle.std.proofs.Common.{◌+◌, [], ◌∷◌, ◌++◌, take, refl, subst, ◌∙◌, arith}
use Rattle.std.proofs.lemmas.List.{take_all}
use Rattle.pt_puts.specs.Puts.{puts_in}
use Rattle.pt_rv.specs.Ends.{PromisedMore, comings_of}
use Rattle.pt_rv.proofs.EndLaws.{promised-none, promised-then, promised-weak, comings-more}
use Rattle.pt_rv.proofs.ends.promise_inputs.Goals as goal

pub loop-port-init : goal.loop-port-init
loop-port-init c = record { lists = refl; met = refl; more = promised-none c.args.inner c.args.outlets.now.items c.args.met.now.spare }

pub loop-port-preserved : goal.loop-port-preserved
loop-port-preserved c = record {
  lists = c.in_ok-promise.ensures.lists ∙ c.loop-port.invariant.lists;
  met = c.in_ok-promise.ensures.met ∙ c.loop-port.invariant.met;
  more =
      promised-then c.args.inner c.args.outlets.now.items c.loop-port.outlets.items c.promise.new.outlets.items c.args.met.now.spare c.loop-port.met.spare c.promise.new.met.spare (comings_of (take c.loop-port.port c.args.inlets.now)) (puts_in c.coming.result.now.items ∷ []) (comings_of (take (c.loop-port.port + 1) c.args.inlets.now))
      (comings-more c.args.inlets.now c.loop-port.port c.index-inlets-port.result (puts_in c.coming.result.now.items) c.loop-port-test.true c.index-inlets-port.is c.coming.ensures) c.loop-port.invariant.more c.in_ok-promise.ensures.more;
}

pub returns-in_err-promise-clause-kept : goal.returns-in_err-promise-clause-kept
returns-in_err-promise-clause-kept c =
    promised-weak c.args.inner c.args.outlets.now.items c.promise.new.outlets.items c.args.met.now.spare c.promise.new.met.spare (comings_of (take c.loop-port.port c.args.inlets.now) ++ [])
    (promised-then c.args.inner c.args.outlets.now.items c.loop-port.outlets.items c.promise.new.outlets.items c.args.met.now.spare c.loop-port.met.spare c.promise.new.met.spare (comings_of (take c.loop-port.port c.args.inlets.now)) [] (comings_of (take c.loop-port.port c.args.inlets.now) ++ []) refl c.loop-port.invariant.more c.in_err-promise.ensures.kept)

pub returns-clause-more : goal.returns-clause-more
returns-clause-more c = subst (λ is. PromisedMore c.args.inner c.args.outlets.now.items c.loop-port.outlets.items c.args.met.now.spare c.loop-port.met.spare (comings_of is)) (take_all c.loop-port.port c.args.inlets.now (omega (arith, c.loop-port-test.false))) c.loop-port.invariant.more

pub returns-clause-kept : goal.returns-clause-kept
returns-clause-kept c = promised-weak c.args.inner c.args.outlets.now.items c.loop-port.outlets.items c.args.met.now.spare c.loop-port.met.spare (comings_of (take c.loop-port.port c.args.inlets.now)) c.loop-port.invariant.more
