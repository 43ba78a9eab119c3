use Rattle.std.proofs.Common.{[], ◌∷◌, refl, arith}
use Rattle.pt_puts.specs.Puts.{put_of}
use Rattle.pt_rv.proofs.EndLaws.{outputs-counted, promised-one, promised-less}
use Rattle.pt_rv.proofs.ends.promise_put.Goals as goal

pub returns-in_err-promise-clause-kept : goal.returns-in_err-promise-clause-kept
returns-in_err-promise-clause-kept c = promised-less c.args.inner c.args.outlets.now.items c.args.outlets.now.items c.args.met.now.spare c.promise.new.self.spare refl (λ o. omega arith) (let e = c.in_err-promise.ensures.kept in omega (arith, e))

pub returns-in_err-promise_one-clause-kept : goal.returns-in_err-promise_one-clause-kept
returns-in_err-promise_one-clause-kept c = promised-less c.args.inner c.args.outlets.now.items c.promise_one.new.outlets.items c.args.met.now.spare c.promise.new.self.spare (outputs-counted c.args.outlets.now.items c.promise_one.new.outlets.items c.in_err-promise_one.ensures.lists) c.in_err-promise_one.ensures.kept (let e = c.in_ok-promise.ensures.spare in omega (arith, e))

pub returns-clause-more : goal.returns-clause-more
returns-clause-more c =
    promised-one c.args.inner c.args.outlets.now.items c.promise_one.new.outlets.items c.args.met.now.spare c.promise.new.self.spare (put_of c.args.put.now ∷ []) (outputs-counted c.args.outlets.now.items c.promise_one.new.outlets.items c.in_ok-promise_one.ensures.lists) (λ o l. let x = c.in_ok-promise_one.ensures.more o l in omega (arith, x)) c.in_ok-promise.ensures.spare

pub returns-clause-kept : goal.returns-clause-kept
returns-clause-kept c = promised-less c.args.inner c.args.outlets.now.items c.promise_one.new.outlets.items c.args.met.now.spare c.promise.new.self.spare (outputs-counted c.args.outlets.now.items c.promise_one.new.outlets.items c.in_ok-promise_one.ensures.lists) c.in_ok-promise_one.ensures.kept (let e = c.in_ok-promise.ensures.spare in omega (arith, e))
