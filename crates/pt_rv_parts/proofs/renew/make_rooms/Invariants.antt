use Rattle.std.proofs.Common.{◌≡◌, ℕ, ◌<◌, ◌≤◌, [], length, max, get_or}
use Rattle.pt_meaning.specs.Streams.{at}
use Rattle.pt_reaction.specs.Channels.{lists_of}
use Rattle.pt_puts.specs.Lines.{room_at}
use Rattle.pt_rv_parts.proofs.renew.make_rooms.Given as goal

abbrev pub invariant-loop-place : goal.invariant-loop-place
invariant-loop-place l = record {
  counted : length l.lines.items ≡ length l.fn.lines.items;
  rooms : (q : ℕ) → q < l.place → (at (lists_of l.lines.items) q ≡ []) × (max (get_or l.counts q 0) l.least ≤ room_at l.lines.items q);
}
