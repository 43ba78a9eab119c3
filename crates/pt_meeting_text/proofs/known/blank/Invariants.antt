use Rattle.std.proofs.Common.{◌≡◌, None, replicate}
use Rattle.pt_meeting_text.proofs.known.blank.Given as goal

abbrev pub invariant-loop : goal.invariant-loop
invariant-loop l = l.known.items ≡ replicate l.counter None
