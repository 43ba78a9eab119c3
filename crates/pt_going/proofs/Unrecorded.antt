-- A tree of which nothing is recorded, meetings neither.
use Rattle.std.proofs.Common.{◌≡◌, ℕ, zero, suc, [], ◌∷◌, Option, Some, None, refl, ap}
use Rattle.pt_meaning.specs.Basics.{Path}
use Rattle.pt_records.specs.Kept.{Made, kept_at}
use Rattle.pt_records.specs.Made.{made_in, made_if, meets_of}
use Rattle.pt_node.specs.Shown.{Shown, AllShown, Branch, none, more}
use Rattle.pt_node.specs.View.{kept_of, kepts_of}
use Rattle.pt_trees.specs.Fresh.{IsBlank}
use Rattle.pt_trees.specs.Start.{IsUnrecorded, AllUnrecorded}

none-in : (n : ℕ) (made : Option Made) → IsBlank made → made_if n made ≡ []
none-in n None blank = refl
none-in n (Some made) blank = ap (λ v. made_in n v) blank

mutual
  pub none-met : (s : Shown) → IsUnrecorded s → (p : Path) (n : ℕ) → meets_of (kept_of s) p n ≡ []
  none-met (Branch f ks) u [] n = none-in n f.meetings u.1
  none-met (Branch f ks) u (i ∷ p) n = none-below ks u.2 i p n

  none-below : (ks : AllShown) → AllUnrecorded ks → (i : ℕ) (p : Path) (n : ℕ) → made_if n (kept_at (kepts_of ks) i p).meetings ≡ []
  none-below none u i p n = refl
  none-below (more s ss) u zero p n = none-met s u.0 p n
  none-below (more s ss) u (suc i) p n = none-below ss u.1 i p n
