use Rattle.std.proofs.Common.{◌≡◌, ◌<◌, ◌+◌, ◌-◌, length, drop, true, subst, arith, rules}
use Rattle.std.specs.Str.{bytes_eq}
use Rattle.pt_guards.proofs.PlacedLaws.{Rest, bound-here}
use Rattle.pt_guards.proofs.kept.last_of.Goals as goal

pub returns-then-eq-clause-some : goal.returns-then-eq-clause-some
returns-then-eq-clause-some c =
    let es = c.args.entries.now in
    let n = c.loop-left.left - 1 in
    let e = c.index-entries-left.result in
    let short : n < length es = omega (arith, c.loop-left.invariant.within, c.loop-left-test.true) in
    let next : c.loop-left.left ≡ n + 1 = omega (arith, c.loop-left-test.true) in
    let same : bytes_eq e.0 c.args.name.now ≡ true = first_of (cc, search rules) in
    bound-here es n e c.args.name.now short c.index-entries-left.is same (subst (λ m. Rest (drop m es) c.args.name.now) next c.loop-left.invariant.rest)
