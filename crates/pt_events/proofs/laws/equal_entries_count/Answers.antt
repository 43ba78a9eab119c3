use Rattle.pt_events.proofs.QueueLaws.{entries-count}
use Rattle.pt_events.proofs.laws.equal_entries_count.Goals as goal

pub returns : goal.returns
returns c = entries-count
