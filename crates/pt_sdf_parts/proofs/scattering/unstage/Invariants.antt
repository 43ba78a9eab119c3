use Rattle.std.proofs.Common.{◌≡◌, ℕ, ◌+◌, ◌≤◌, ◌++◌, take, drop, set}
use Rattle.pt_recv.specs.Lines.{list_at, spare_at}
use Rattle.pt_sdf_parts.proofs.scattering.unstage.Given as goal

abbrev pub invariant-loop : goal.invariant-loop
invariant-loop l = record {
  lists : l.channels.lists ≡ set l.fn.channels.lists l.c (list_at l.fn.channels.lists l.c ++ take l.counter l.fn.staged.list);
  staged : l.staged.list ≡ drop l.counter l.fn.staged.list;
  room : l.n ≤ spare_at l.channels.spares l.c + l.counter;
  others : (d : ℕ) → (d ≡ l.c → ⊥) → spare_at l.channels.spares d ≡ spare_at l.fn.channels.spares d;
}
