use Rattle.std.proofs.Common.{◌≡◌, ℕ, ◌<◌, length, take}
use Rattle.pt_reaction.specs.Channels.{lists_of}
use Rattle.pt_process.proofs.CopyLaws.{HasRoomAt}
use Rattle.pt_process.proofs.copied.lines_again.Given as goal

abbrev pub invariant-loop-place : goal.invariant-loop-place
invariant-loop-place l = record {
  counted : length l.copies.items ≡ l.place;
  lists : lists_of l.copies.items ≡ lists_of (take l.place l.lines);
  rooms : (q : ℕ) → q < l.place → HasRoomAt l.counts l.copies.items q;
}
