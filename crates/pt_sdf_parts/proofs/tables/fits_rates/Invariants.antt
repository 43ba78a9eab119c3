use Rattle.std.proofs.Common.{◌≡◌, ℕ, ◌<◌, length, get_or}
use Rattle.pt_meaning.specs.Streams.{at}
use Rattle.pt_sdf_parts.proofs.tables.fits_rates.Given as goal

abbrev pub invariant-loop-port : goal.invariant-loop-port
invariant-loop-port l = (k : ℕ) → k < l.port → length (at l.outputs k) ≡ get_or l.rates k 0
