use Rattle.std.proofs.Common.{◌≡◌, ℕ, ◌<◌, length, get_or}
use Rattle.pt_sched.proofs.Listing.{no_channel}
use Rattle.pt_sched.proofs.run.Run.new.Given as goal

abbrev pub invariant-loop-channel : goal.invariant-loop-channel
invariant-loop-channel l = record {
  counted : length l.lengths.items ≡ l.channel-index;
  first : (k : ℕ) → k < l.channel-index → get_or l.lengths.items k 0 ≡ (get_or l.channels k no_channel).initial;
}
