-- After whole firings of the top its log has as many of them as were made.
use Rattle.std.proofs.Common.{◌≡◌, ℕ, [], false, refl, subst, arith}
use Rattle.pt_meaning.specs.Basics.{Log, firings_in}
use Rattle.pt_meaning.specs.Meetings.{Meets}
use Rattle.pt_meaning.specs.Tree.{Rows, Node}
use Rattle.pt_meaning.specs.Lawful.{LawfulRows}
use Rattle.pt_meaning.specs.Job.{Schedule, Course, after, begin}
use Rattle.pt_laws.proofs.ClosedMeaning.{start-closed, start-kept, Course₀, ClosedStanding, run-closed}
use Rattle.pt_laws.proofs.StartLaws.{first-node}
use Rattle.pt_records.specs.Shut.{IsReached}

pub firings-counted : {T A : Type 0} (rows : Rows T A) → LawfulRows rows → (m : Meets) (plan : Schedule T A) (top : Node T A) (n : ℕ) (c : Course T A) → IsReached rows m plan top n c → firings_in (c.log []) ≡ c.fired
unfolding after
firings-counted rows law m plan top n c r =
    let k : ℕ = r.goes.0 in
    let stood : Course₀ rows law k m plan top c = subst (λ s. ClosedStanding rows law k m plan top s) (r.goes.1 k (omega arith)) (run-closed rows law k m plan top n (begin top) (r.fitting, start-closed rows false top, start-kept rows false top (first-node rows top r.planned r.start), refl, refl)) in
    stood.3
