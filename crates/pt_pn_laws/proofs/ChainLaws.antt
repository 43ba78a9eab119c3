-- A chain of events and calls of a core makes the firing of the composite.
use Rattle.pt_pn_laws.specs.Chain.{CallsArePn}
use Rattle.pt_pn_laws.proofs.StartLaws.{calls-start}
use Rattle.pt_pn_laws.proofs.BeginLaws.{calls-begin}
use Rattle.pt_pn_laws.proofs.MoveLaws.{calls-get, calls-put, calls-grow}
use Rattle.pt_pn_laws.proofs.FireLaws.{calls-go-on, calls-stick, calls-within, calls-leave-off}
use Rattle.pt_pn_laws.proofs.EndLaws.{calls-end, calls-rest, calls-jam}

pub calls-are-pn : {T S : Type 0} → CallsArePn T S
calls-are-pn = record {
  starts = λ facts n kids lawful needs counts. calls-start facts n kids lawful needs counts;
  begins = λ facts step before kids tag inputs f. calls-begin facts step before kids tag inputs f;
  gets = λ facts step before kids inputs s ms now ls u i m. calls-get facts step before kids inputs s ms now ls u i m;
  puts = λ facts step before kids inputs s ms now ls u i m. calls-put facts step before kids inputs s ms now ls u i m;
  grows = λ facts step before kids inputs s ms now ls u m. calls-grow facts step before kids inputs s ms now ls u m;
  goes_on = λ facts step before kids inputs s ms now ls u i m d c out l e h. calls-go-on facts step before kids inputs s ms now ls u i m d c out l e h;
  ends = λ facts step before kids inputs s ms now ls u o k w. calls-end facts step before kids inputs s ms now ls u o k w;
  rests = λ facts step before kids inputs s ms now ls u o. calls-rest facts step before kids inputs s ms now ls u o;
  sticks = λ facts step before kids inputs s ms now ls u i m d fs l e f x k w. calls-stick facts step before kids inputs s ms now ls u i m d fs l e f x k w;
  jams = λ facts step before kids inputs s ms now ls u f. calls-jam facts step before kids inputs s ms now ls u f;
  off = λ facts step before kids inputs s ms now ls u k w. calls-leave-off facts step before kids inputs s ms now ls u k w;
  off_within = λ facts step before kids inputs s ms now ls u i m d l h k w. calls-within facts step before kids inputs s ms now ls u i m d l h k w;
}
