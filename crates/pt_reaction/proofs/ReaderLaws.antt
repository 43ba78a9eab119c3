-- All readers, once those of the children are listed.
use Rattle.std.proofs.Common.{◌≡◌, ℕ, ◌-◌, ◌≤◌, List, ◌++◌, length, take, replicate, ap, ap₂, ◌∙◌}
use Rattle.std.proofs.lemmas.List.{take_all}
use Rattle.pt_meaning.specs.Running.{total}
use Rattle.pt_reaction.specs.Offsets.{readers, all_readers}
use Rattle.pt_reaction.proofs.OffsetLaws.{readers-long}

pub readers-all : (ps : List ℕ) (channels k m n : ℕ) (F G : List ℕ) → length ps ≤ k → F ≡ readers 0 (take k ps) → m ≡ channels - length F → n ≡ length ps → G ≡ F ++ replicate m n → G ≡ all_readers ps channels
readers-all ps channels k m n F G h e f g r =
    let t : F ≡ readers 0 ps = e ∙ ap (λ v. readers 0 v) (take_all k ps h) in
    let l : length F ≡ total ps = ap (λ (v : List ℕ). length v) t ∙ readers-long 0 ps in
    r ∙ ap₂ (λ (x y : List ℕ). x ++ y) t (ap₂ (λ a b. replicate a b) (f ∙ ap (λ j. channels - j) l) g)
