use Rattle.pt_pn_laws.specs.PnActs.{pn_calls}
use Rattle.pt_pn.specs.Moves.{Moves}
use Rattle.pt_pn.proofs.pn.Core.next_on.Given as goal

abbrev pub invariant-loop : goal.invariant-loop
invariant-loop l = Moves pn_calls l.fn.self l.self
