use Rattle.pt_records.proofs.MadeExample.{made-examples}
use Rattle.pt_records.proofs.growth.meetings_by_example.Goals as goal

pub returns : goal.returns
returns c = made-examples
