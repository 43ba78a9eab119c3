use Rattle.std.proofs.Common.{ℕ, ◌+◌, ◌<◌, ◌≤◌, length, subst, ◌∙◌, arith}
use Rattle.std.proofs.lemmas.List.{take_all}
use Rattle.pt_puts.specs.Puts.{puts_in}
use Rattle.pt_rv.specs.Parties.{weight_of, on, spare_at}
use Rattle.pt_rv.proofs.EndLaws.{outputs-counted, weight-more}
use Rattle.pt_rv.proofs.ends.promise_all.Goals as goal

pub loop-put-preserved : goal.loop-put-preserved
loop-put-preserved c =
    let k : ℕ = c.loop-put.put in
    let l : k < length c.args.staged.now.items = omega (arith, c.loop-put-test.true, c.len-put-end.ensures, c.args.staged.now.ok.0) in
    let n = outputs-counted c.args.outlets.now.items c.loop-put.outlets.items c.loop-put.invariant.lists in
    record {
      lists = c.in_ok-promise_one.ensures.lists ∙ c.loop-put.invariant.lists;
      kept = λ o. let a = c.loop-put.invariant.kept o in let b = c.in_ok-promise_one.ensures.kept o in omega (arith, a, b);
      more = λ o w.
          let a = c.loop-put.invariant.more o w in
          let b = c.in_ok-promise_one.ensures.more o (omega (arith, w, n)) in
          let d = weight-more (on (c.args.inner + o)) c.args.staged.now.items k c.index.result.now l c.index.ensures in
          omega (arith, a, b, d);
    }

pub returns-in_err-promise_one-clause-kept : goal.returns-in_err-promise_one-clause-kept
returns-in_err-promise_one-clause-kept c o = let a = c.loop-put.invariant.kept o in let b = c.in_err-promise_one.ensures.kept o in omega (arith, a, b)

pub returns-clause-more : goal.returns-clause-more
returns-clause-more c o w =
    subst (λ us. spare_at c.args.outlets.now.items o + weight_of (on (c.args.inner + o)) (puts_in us) ≤ spare_at c.loop-put.outlets.items o) (take_all c.loop-put.put c.args.staged.now.items (omega (arith, c.loop-put-test.false, c.len-put-end.ensures, c.args.staged.now.ok.0))) (c.loop-put.invariant.more o w)
