-- The meetings of a Rendezvous composite as they are recorded, worked by hand.
use Rattle.std.proofs.Common.{ℕ, [], ◌∷◌, Option, Some, None, refl, arith}
use Rattle.pt_meaning.specs.Log.{Met, Channel}
use Rattle.pt_records.specs.Kept.{Made, MeetingsGrew}
use Rattle.pt_records.specs.MadeExample.{MadeExamples}

late : (new : Option Made) → MeetingsGrew {T = ℕ} 1 (Met [] 0 (Channel 1) ∷ []) (Some []) new → ⊥
late None g = g
late (Some new) g = let no = g.1 0 (omega arith) in cc

elsewhere : (new : Option Made) → MeetingsGrew {T = ℕ} 0 (Met [] 0 (Channel 1) ∷ []) None new → ⊥
elsewhere None g = cc
elsewhere (Some new) g = g

pub made-examples : MadeExamples
made-examples = record {
  grew = record { count = refl; recorded = tt; meetings = (refl, λ n l. absurd (omega (arith, l))) };
  of_the_first = refl;
  of_the_next = refl;
  in_order = λ e. cc;
  too_late = λ new g. late new.meetings g.meetings;
  elsewhere = λ new g. elsewhere new.meetings g.meetings;
}
