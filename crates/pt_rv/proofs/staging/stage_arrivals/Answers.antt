use Rattle.std.proofs.Common.{[], subst}
use Rattle.pt_meaning.specs.Running.{total}
use Rattle.pt_rv_parts.proofs.ListLaws.{where-ok}
use Rattle.pt_rv.specs.Ends.{PromisedMore, comings_of}
use Rattle.pt_rv.proofs.EndLaws.{promised-none, always-ok}
use Rattle.pt_rv.proofs.staging.stage_arrivals.Goals as goal

pub returns-in_err-stage_inputs-clause-kept : goal.returns-in_err-stage_inputs-clause-kept
returns-in_err-stage_inputs-clause-kept c = promised-none (total c.args.plan.now.plan.net.places) c.args.parties.now.outlets.items c.args.met.now.spare

pub returns-clause-kept : goal.returns-clause-kept
returns-clause-kept c = subst (λ n. PromisedMore n c.args.parties.now.outlets.items c.promise_inputs.new.outlets.items c.args.met.now.spare c.promise_inputs.new.met.spare []) c.inner.ensures c.promise_inputs.ensures.kept

pub returns-clause-coming : goal.returns-clause-coming
returns-clause-coming c = always-ok c.promise_inputs.result c.in_ok-stage_inputs.ensures.coming

pub returns-clause-more : goal.returns-clause-more
returns-clause-more c =
    where-ok c.promise_inputs.result
    (λ h. subst (λ n. PromisedMore n c.args.parties.now.outlets.items c.promise_inputs.new.outlets.items c.args.met.now.spare c.promise_inputs.new.met.spare (comings_of c.stage_inputs.new.inlets.items)) c.inner.ensures
    (subst (λ is. PromisedMore c.inner.result c.args.parties.now.outlets.items c.promise_inputs.new.outlets.items c.args.met.now.spare c.promise_inputs.new.met.spare (comings_of is)) c.deref.ensures.value h)) c.promise_inputs.ensures.more
