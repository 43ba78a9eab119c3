use Rattle.std.proofs.Common.{◌≡◌, ℕ, ◌≤◌, ◌++◌, length, set}
use Rattle.pt_recv.specs.Lines.{list_at, spare_at}
use Rattle.pt_sdf_parts.proofs.scattering.put_all.Given as goal

abbrev pub invariant-loop-token : goal.invariant-loop-token
invariant-loop-token l = record {
  lists : l.channels.lists ≡ set l.fn.channels.lists l.c (list_at l.channels.lists l.c);
  rest : list_at l.channels.lists l.c ++ l.token-iterator ≡ list_at l.fn.channels.lists l.c ++ l.fn.tokens;
  room : length l.token-iterator ≤ spare_at l.channels.spares l.c;
  others : (d : ℕ) → (d ≡ l.c → ⊥) → spare_at l.channels.spares d ≡ spare_at l.fn.channels.spares d;
}
