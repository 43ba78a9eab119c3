use Rattle.std.proofs.Common.{◌≡◌, ◌≤◌, take, vec_capacity}
use Rattle.pt_rv_parts.proofs.flags.numbers_again.Given as goal

abbrev pub invariant-loop-number : goal.invariant-loop-number
invariant-loop-number l = record {
  numbers : l.copies.items ≡ take l.number-index l.numbers;
  room : l.room ≤ vec_capacity l.copies;
}
