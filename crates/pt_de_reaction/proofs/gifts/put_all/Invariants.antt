use Rattle.std.proofs.Common.{◌≡◌, ℕ, ◌≤◌, length}
use Rattle.pt_reaction.specs.Channels.{spare_at}
use Rattle.pt_de_due.specs.Due.{put}
use Rattle.pt_de_reaction.proofs.gifts.put_all.Given as goal

-- what is left, once it is put, makes of the channels what all tokens make of them
abbrev pub invariant-loop-token : goal.invariant-loop-token
invariant-loop-token l = record {
  lists : put l.channel l.token-iterator l.channels.lists ≡ put l.channel l.fn.tokens l.fn.channels.lists;
  counted : length l.channels.lists ≡ length l.fn.channels.lists;
  room : length l.token-iterator ≤ spare_at l.channels.spares l.channel;
  others : (d : ℕ) → (d ≡ l.channel → ⊥) → spare_at l.channels.spares d ≡ spare_at l.fn.channels.spares d;
}
