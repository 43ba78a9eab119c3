use Rattle.std.proofs.Common.{refl, arith}
use Rattle.std.proofs.lemmas.List.{length-map}
use Rattle.pt_puts.specs.Puts.{put_of, puts_in}
use Rattle.pt_rv.proofs.EndLaws.{outputs-counted, promised-one, promised-less}
use Rattle.pt_rv.proofs.ends.promise.Goals as goal

pub returns-in_err-promise-clause-kept : goal.returns-in_err-promise-clause-kept
returns-in_err-promise-clause-kept c = promised-less c.args.inner c.args.outlets.now.items c.args.outlets.now.items c.args.met.now.spare c.promise.new.self.spare refl (λ o. omega arith) (let e = c.in_err-promise.ensures.kept in omega (arith, e))

pub returns-in_err-promise_all-clause-kept : goal.returns-in_err-promise_all-clause-kept
returns-in_err-promise_all-clause-kept c = promised-less c.args.inner c.args.outlets.now.items c.promise_all.new.outlets.items c.args.met.now.spare c.promise.new.self.spare (outputs-counted c.args.outlets.now.items c.promise_all.new.outlets.items c.in_err-promise_all.ensures.lists) c.in_err-promise_all.ensures.kept (let e = c.in_ok-promise.ensures.spare in omega (arith, e))

pub returns-clause-more : goal.returns-clause-more
returns-clause-more c =
    promised-one c.args.inner c.args.outlets.now.items c.promise_all.new.outlets.items c.args.met.now.spare c.promise.new.self.spare (puts_in c.args.staged.now.items) (outputs-counted c.args.outlets.now.items c.promise_all.new.outlets.items c.in_ok-promise_all.ensures.lists) c.in_ok-promise_all.ensures.more
    (let e = c.in_ok-promise.ensures.spare in let n = length-map c.args.staged.now.items put_of in omega (arith, e, n, c.len.ensures, c.args.staged.now.ok.0))

pub returns-clause-kept : goal.returns-clause-kept
returns-clause-kept c = promised-less c.args.inner c.args.outlets.now.items c.promise_all.new.outlets.items c.args.met.now.spare c.promise.new.self.spare (outputs-counted c.args.outlets.now.items c.promise_all.new.outlets.items c.in_ok-promise_all.ensures.lists) c.in_ok-promise_all.ensures.kept (let e = c.in_ok-promise.ensures.spare in omega (arith, e))
