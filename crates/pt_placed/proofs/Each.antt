-- One token on each place is a count for each.
use Rattle.std.proofs.Common.{◌≡◌, ℕ, replicate, refl, ◌∙◌}
use Rattle.std.proofs.lemmas.List.{length-replicate}
use Rattle.pt_firing.specs.Row.{one_each}
use Rattle.pt_placed.specs.Counted.{IsCounted}

pub each : (n m : ℕ) → m ≡ n → IsCounted n (one_each m)
each n m e = record { counts = replicate m 1; is = refl; counted = length-replicate m 1 ∙ e }
