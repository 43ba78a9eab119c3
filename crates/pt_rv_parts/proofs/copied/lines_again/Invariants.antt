use Rattle.std.proofs.Common.{◌≡◌, ℕ, ◌<◌, length, take}
use Rattle.pt_reaction.specs.Channels.{lists_of}
use Rattle.pt_rv_parts.proofs.CopyLaws.{HasRoomAt}
use Rattle.pt_rv_parts.proofs.copied.lines_again.Given as goal

abbrev pub invariant-loop-line : goal.invariant-loop-line
invariant-loop-line l = record {
  counted : length l.copies.items ≡ l.line-index;
  lists : lists_of l.copies.items ≡ lists_of (take l.line-index l.lines);
  rooms : (q : ℕ) → q < l.line-index → HasRoomAt l.counts l.least l.copies.items q;
}
