use Rattle.std.proofs.Common.{◌≡◌, ℕ, take}
use Rattle.pt_meaning.specs.Process.{emptied}
use Rattle.pt_rv.specs.Parties.{outputs_of, spare_at}
use Rattle.pt_rv.proofs.ends.emptied_all.Given as goal

abbrev pub invariant-loop-outlet : goal.invariant-loop-outlet
invariant-loop-outlet l = record {
  lists : outputs_of l.fresh.items ≡ emptied (outputs_of (take l.outlet-index l.outlets));
  rooms : (o : ℕ) → spare_at l.fresh.items o ≡ spare_at (take l.outlet-index l.outlets) o;
}
