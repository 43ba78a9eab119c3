-- The rows of the library are lawful, since each actor is strict.
use Rattle.pt_meaning.specs.Lawful.{LawfulRows}
use Rattle.pt_firing.proofs.StrictLaws.{strict-grows, strict-agrees}
use Rattle.pt_lib_data.specs.DataActor.{rows, outputs, step}

pub rows_lawful : LawfulRows rows
rows_lawful = record {
  grows = λ tag a vs ws b p. strict-grows (outputs a) step tag a vs ws b p;
  agrees = λ tag a vs X b out k e p. strict-agrees (outputs a) step tag a vs X b out k e p;
  rests = λ tag a vs X w k n p. absurd (cc);
  waits = λ a w. absurd (cc);
}
