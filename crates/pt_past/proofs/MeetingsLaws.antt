-- A record of meetings that goes on by one, and which records serve a firing.
use Rattle.std.proofs.Common.{◌≡◌, ℕ, List, [], ◌∷◌, ◌++◌, map, Option, Some, None, refl, ap}
use Rattle.pt_meaning.specs.Log.{Meeting}
use Rattle.pt_firing.specs.declared.ask.Meeting as asked
use Rattle.pt_firing.specs.Meeting.{meeting_of}
use Rattle.pt_records.specs.Kept.{Made}
use Rattle.pt_core.specs.Met.{none_met}
use Rattle.pt_past.specs.Meetings.{told, Serves}

pub told_more : (made : List (ℕ × asked.Meeting)) (n : ℕ) (m : asked.Meeting) → map told (made ++ ((n, m) ∷ [])) ≡ map told made ++ ((n, meeting_of m) ∷ [])
told_more [] n m = refl
told_more (x ∷ made) n m = ap (λ v. told x ∷ v) (told_more made n m)

-- one in which none is yet
pub serves-new : (met : Option (List Meeting)) (n : ℕ) → Serves met n (Some [])
serves-new None n = tt
serves-new (Some ms) n = λ k l. refl

-- it doesn't matter how many were made so far
pub serves-any : (ms ns : List Meeting) (n : ℕ) (r : Option Made) → Serves (Some ms) n r → Serves (Some ns) n r
serves-any ms ns n None s = s
serves-any ms ns n (Some made) s = s

pub serves-none : (met : Option (List Meeting)) (n : ℕ) (r : Option Made) → Serves met n r → Serves (none_met met) n r
serves-none None n r s = s
serves-none (Some ms) n r s = serves-any ms [] n r s
