use Rattle.std.proofs.Common.{◌+◌, ◌-◌, arith}
use Rattle.pt_rv_parts.proofs.ListLaws.{where-ok}
use Rattle.pt_rv.proofs.EndLaws.{one-apart, one-moved}
use Rattle.pt_rv.proofs.ends.promise_one.Goals as goal

pub returns-then-channel-inner-clause-more : goal.returns-then-channel-inner-clause-more
returns-then-channel-inner-clause-more c o l = let a = c.if-channel-inner.true in let e = one-apart c.args.channel (c.args.inner + o) (λ z. omega (arith, z, a)) in omega (arith, e)

pub returns-then-outlet-len-clause-more : goal.returns-then-outlet-len-clause-more
returns-then-outlet-len-clause-more c o l =
    let a = c.if-outlet-len.true in
    let b = c.if-channel-inner.false in
    let d = c.len.ensures in
    let e = one-apart c.args.channel (c.args.inner + o) (λ z. omega (arith, z, a, b, d, l, c.args.outlets.now.ok.0)) in omega (arith, e)

pub returns-clause-more : goal.returns-clause-more
returns-clause-more c =
    let b = c.if-channel-inner.false in
    where-ok c.promise_at.result (λ h o l. let x = h o in let y = one-moved c.args.channel c.args.inner (c.args.channel - c.args.inner) o (omega (arith, b)) in omega (arith, x, y)) c.promise_at.ensures.more
