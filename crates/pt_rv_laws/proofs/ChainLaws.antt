-- A chain of calls of a core makes the firing of the composite.
use Rattle.pt_rv_laws.specs.Chain.{CallsAreRv}
use Rattle.pt_rv_laws.proofs.BeginLaws.{calls-start, calls-begin}
use Rattle.pt_rv_laws.proofs.MeetLaws.{calls-legal, meet-under, meet-waits}
use Rattle.pt_rv_laws.proofs.FireLaws.{calls-go-on}
use Rattle.pt_rv_laws.proofs.EndLaws.{calls-end, calls-done, calls-rest, calls-leave-off, calls-within, calls-stick, calls-ask}

pub calls-are-rv : {T S : Type 0} → CallsAreRv T S
calls-are-rv = record {
  starts = λ facts p kids lawful needs counts. calls-start facts p kids lawful needs counts;
  begins = λ facts step before kids tag inputs f. calls-begin facts step before kids tag inputs f;
  legal = λ facts step before kids inputs s count now ls u n m. calls-legal facts step before kids inputs s count now ls u n m;
  meets = λ facts step before kids inputs s count now ls u m e. (meet-under facts step before kids inputs s count now ls u m e, meet-waits facts step before kids inputs s count now ls u m e);
  goes_on = λ facts step before kids inputs s count now ls u i may d c out l e h. calls-go-on facts step before kids inputs s count now ls u i may d c out l e h;
  asks = λ facts step before kids inputs s count now ls u i may d n more. calls-ask facts step before kids inputs s count now ls u i may d n more;
  ends = λ facts step before kids inputs s count now ls u o n k l. calls-end facts step before kids inputs s count now ls u o n k l;
  done = λ facts step before kids inputs s count now ls u r n k l x out m e. calls-done facts step before kids inputs s count now ls u r n k l x out m e;
  rests = λ facts step before kids inputs s count now ls u o. calls-rest facts step before kids inputs s count now ls u o;
  sticks = λ facts step before kids inputs s count now ls u i may d fs l e f x n k o. calls-stick facts step before kids inputs s count now ls u i may d fs l e f x n k o;
  off = λ facts step before kids inputs s count now ls u n k more l. calls-leave-off facts step before kids inputs s count now ls u n k more l;
  off_within = λ facts step before kids inputs s count now ls u i may d m b n k more l. calls-within facts step before kids inputs s count now ls u i may d m b n k more l;
}
