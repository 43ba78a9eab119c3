-- Nodes in which no meetings are recorded.
use Rattle.std.proofs.Common.{◌≡◌, ℕ, zero, suc, [], ◌∷◌, List, Option, Some, None, refl, subst}
use Rattle.pt_meaning.specs.Basics.{Event, Log, Path}
use Rattle.pt_meaning.specs.Meetings.{Meets}
use Rattle.pt_records.specs.Kept.{Kept, Made, kept_at, MeetingsGrew, GrewBy}
use Rattle.pt_records.specs.Made.{AreMade, IsUnmet}
use Rattle.pt_records.proofs.MadeLaws.{unmet-made}
use Rattle.pt_node.specs.Shown.{Shown, AllShown, Branch, none, more}
use Rattle.pt_node.specs.Unmet.{RecordsNone, AllRecordNone}
use Rattle.pt_node.specs.View.{kept_of, kepts_of}

mutual
  pub node-unmet : (s : Shown) → RecordsNone s → IsUnmet (kept_of s)
  node-unmet (Branch f ks) u [] = u.0
  node-unmet (Branch f ks) u (i ∷ p) = kids-unmet ks u.1 i p

  kids-unmet : (ks : AllShown) → AllRecordNone ks → (i : ℕ) (p : Path) → (kept_at (kepts_of ks) i p).meetings ≡ None
  kids-unmet none u i p = refl
  kids-unmet (more s ss) u zero p = node-unmet s u.0 p
  kids-unmet (more s ss) u (suc i) p = kids-unmet ss u.1 i p

-- so that every list has the recorded ones
pub every-list : (m : Meets) (s : Shown) → RecordsNone s → AreMade m (kept_of s)
every-list m s u = unmet-made m (kept_of s) (node-unmet s u)

-- what is kept of a node without a record goes on without one
none-grew : {T : Type 0} (n : ℕ) (es : List (Event T)) (new : Option Made) → MeetingsGrew n es None new → new ≡ None
none-grew n es None g = refl
none-grew n es (Some made) g = absurd g

pub grew-unmet : {T : Type 0} (l : Log T) (a b : Kept T) → GrewBy l a b → IsUnmet a → IsUnmet b
grew-unmet l a b g u p = none-grew (a p).count (l p) (b p).meetings (subst (λ v. MeetingsGrew (a p).count (l p) v (b p).meetings) (u p) (g p).meetings)
