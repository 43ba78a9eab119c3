-- A class of composites is one of two.
use Rattle.std.proofs.Common.{◌≡◌, ◌⊎◌, inl, inr, ℕ, List, Bool, true, false, ◌||◌, codes, bytes_eq, refl}
use Rattle.std.proofs.lemmas.Slice.Eq.{bytes_eq-Decides}
use Rattle.pt_scopes.specs.Scopes.{is_composite_class}

pub composite-or-modal : (class : List ℕ) → is_composite_class class ≡ true → (class ≡ codes "Composite") ⊎ (class ≡ codes "Modal")
composite-or-modal class passes = by-name (bytes_eq class (codes "Composite")) (bytes_eq class (codes "Modal")) refl refl passes
  where
    by-name : (b c : Bool) → bytes_eq class (codes "Composite") ≡ b → bytes_eq class (codes "Modal") ≡ c → (b || c) ≡ true → (class ≡ codes "Composite") ⊎ (class ≡ codes "Modal")
    by-name true c is also passes = inl ((bytes_eq-Decides class (codes "Composite")).0 is)
    by-name false true is also passes = inr ((bytes_eq-Decides class (codes "Modal")).0 also)
    by-name false false is also passes = absurd (let no : false ≡ true = passes in cc)
