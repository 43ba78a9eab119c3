use Rattle.std.proofs.Common.{ℕ, ◌<◌, ◌≤◌, length}
use Rattle.pt_meaning.specs.Streams.{at}
use Rattle.pt_de_parts.proofs.rows.are_single.Given as goal

abbrev pub invariant-loop-channel : goal.invariant-loop-channel
invariant-loop-channel l = (c : ℕ) → l.first ≤ c → c < l.channel → length (at l.channels.lists c) ≤ 1
