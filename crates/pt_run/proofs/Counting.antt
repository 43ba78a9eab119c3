-- What a tree counts is the number of firings of the log of its run.
use Rattle.std.proofs.Common.{◌≡◌, ℕ, ◌+◌, List, [], ◌∷◌, refl, sym, ap, ap₂, ◌∙◌}
use Rattle.pt_meaning.specs.Basics.{Log, Path, firings_in}
use Rattle.pt_meaning.specs.Headline as headline
use Rattle.pt_records.specs.Kept.{Kept, count_kept}
use Rattle.pt_node.specs.Shown.{Shown}
use Rattle.pt_node.specs.View.{kept_of, count_of, outline_of}
use Rattle.pt_trees.specs.Start.{HasLeaves}
use Rattle.pt_going.proofs.Counting.{paths_in, counted, paths-are}
use Rattle.pt_run.specs.Ran.{IsCount}

-- a log that has of each path as many firings as are kept there has as many at all
kept-in : {T : Type 0} (k : Kept T) (log : Log T) (ps : List Path) → ((p : Path) → firings_in (log p) ≡ (k p).count) → count_kept k ps ≡ headline.count_of log ps
kept-in k log [] h = refl
kept-in k log (p ∷ ps) h = ap₂ (λ a b. a + b) (sym (h p)) (kept-in k log ps h)

-- So what a tree counts is the number of firings of the log of its run.
pub counts-all : (old new : Shown) → HasLeaves old → outline_of new ≡ outline_of old → (n : ℕ) → n ≡ count_of new → IsCount old new n
counts-all old new h o n e log each =
    e ∙ sym (counted new) ∙ ap (λ v. count_kept (kept_of new) (paths_in v)) o ∙ kept-in (kept_of new) log (paths_in (outline_of old)) each ∙ ap (λ ps. headline.count_of log ps) (paths-are old h)
