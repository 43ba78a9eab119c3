-- The meetings of a Rendezvous composite as they are recorded, worked by hand: two in its first firing, which is then finished, and one in the next.
use Rattle.std.specs.Prelude.{ℕ, List, [], ◌∷◌, Option, Some, None}
use Rattle.pt_meaning.specs.Tag.{origin}
use Rattle.pt_meaning.specs.Log.{Event, Finished, Met, Channel, Barrier}
use Rattle.pt_records.specs.Kept.{Made, Entry, EntryGrew}
use Rattle.pt_records.specs.Made.{IsMade}

-- an entry without recorded ports
abbrev pub entry : ℕ → Option Made → Entry ℕ
entry count meetings = record { count = count; recorded = []; meetings = meetings }

abbrev pub events : List (Event ℕ)
events = Met [] 0 (Channel 0) ∷ Met [] 0 (Barrier 2) ∷ Finished [] (record { number = 0; tag = origin; inputs = []; outputs = [] }) ∷ Met [] 1 (Channel 1) ∷ []

abbrev pub made : Made
made = (0, Channel 0) ∷ (0, Barrier 2) ∷ (1, Channel 1) ∷ []

pub record MadeExamples : Type 0 where
  pub grew : EntryGrew events (entry 0 (Some [])) (entry 1 (Some made))
  pub of_the_first : IsMade (Some made) 0 (Channel 0 ∷ Barrier 2 ∷ [])
  pub of_the_next : IsMade (Some made) 1 (Channel 1 ∷ [])
  pub in_order : IsMade (Some made) 0 (Barrier 2 ∷ Channel 0 ∷ []) → ⊥
  -- a finished firing makes no meeting more, and what isn't Rendezvous makes none
  pub too_late : (new : Entry ℕ) → EntryGrew (Met [] 0 (Channel 1) ∷ []) (entry 1 (Some [])) new → ⊥
  pub elsewhere : (new : Entry ℕ) → EntryGrew (Met [] 0 (Channel 1) ∷ []) (entry 0 None) new → ⊥
