use Rattle.std.proofs.Common.{length, true≢false}
use Rattle.std.proofs.lemmas.Bool.{false≢true}
use Rattle.pt_machine_parts.proofs.ClaimLaws.{taken-more, taken-twice, taken-all}
use Rattle.pt_machine_parts.proofs.claims.take_all.Goals as goal

pub returns-then-not-take-clause-apart : goal.returns-then-not-take-clause-apart
returns-then-not-take-clause-apart c = λ e. absurd (false≢true e)

pub returns-then-not-take-clause-shared : goal.returns-then-not-take-clause-shared
returns-then-not-take-clause-shared c = λ e.
    taken-twice (length c.args.taken.now.items) c.args.claims.now c.loop-claim.claim-index _ c.loop-claim.taken.items c.take.result c.take.new.taken.items c.loop-claim-test.true c.loop-claim.invariant c.requires.within c.if-not-take.true c.take.ensures

pub loop-claim-preserved : goal.loop-claim-preserved
loop-claim-preserved c =
    taken-more (length c.args.taken.now.items) c.args.claims.now c.loop-claim.claim-index _ c.loop-claim.taken.items c.take.result c.take.new.taken.items c.loop-claim-test.true c.loop-claim.invariant c.if-not-take.false c.take.ensures

pub returns-clause-apart : goal.returns-clause-apart
returns-clause-apart c = λ e. taken-all (length c.args.taken.now.items) c.args.claims.now c.loop-claim.claim-index c.loop-claim.taken.items c.loop-claim-test.false c.loop-claim.invariant

pub returns-clause-shared : goal.returns-clause-shared
returns-clause-shared c = λ e. absurd (true≢false e)
