use Rattle.std.proofs.Common.{◌≡◌, ℕ, ◌<◌, [], length}
use Rattle.pt_meaning.specs.Streams.{at}
use Rattle.pt_reaction.specs.Channels.{lists_of}
use Rattle.pt_rv_parts.proofs.renew.empty_lines_again.Given as goal

abbrev pub invariant-loop-place : goal.invariant-loop-place
invariant-loop-place l = record {
  counted : length l.lines.items ≡ length l.fn.lines.items;
  empty : (q : ℕ) → q < l.place → at (lists_of l.lines.items) q ≡ [];
}
