use Rattle.std.proofs.Common.{ℕ, ◌<◌, ◌≤◌, length, get_or}
use Rattle.pt_meaning.specs.Streams.{at}
use Rattle.pt_reaction.specs.Channels.{lists_of}
use Rattle.pt_rv_parts.proofs.process.lacking_of.Given as goal

abbrev pub invariant-loop-place : goal.invariant-loop-place
invariant-loop-place l = (q : ℕ) → q < l.place → get_or l.counts q 0 ≤ length (at (lists_of l.lines) q)
