use Rattle.std.proofs.Common.{◌≡◌, ℕ, ◌+◌, ◌<◌, true}
use Rattle.pt_pn_laws.specs.State.{offset_of}
use Rattle.pt_rv_work.specs.Core.{offer_in}
use Rattle.pt_rv.specs.Parties.{moving_in, is_there}
use Rattle.pt_rv.proofs.offers.is_all_offered.Given as goal

abbrev pub invariant-loop-place : goal.invariant-loop-place
invariant-loop-place l = (q : ℕ) → q < l.place → is_there (offer_in l.plan.plan.net (moving_in l.parties) (offset_of l.plan.plan.net.places l.barrier + q)) ≡ true
