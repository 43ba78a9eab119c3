-- A list that stands at a field of an object.
use Rattle.std.proofs.Common.{◌≡◌, ℕ, List, Option, Some, None, Ordering, Less, Equal, Greater, refl, ap, ◌∙◌}
use Rattle.std.specs.Ordering.{nat_cmp, match_ordering}
use Rattle.std.specs.Cmp.Lexicographic.{slice_cmp}
use Rattle.serde_json.specs.Data.{Data, Members, no_members, member}
use Rattle.serde_json.specs.Find.{get_member}

abbrev pub found : {A : Type 0} → A → (Data → A) → Option Data → A
found absent at None = absent
found absent at (Some d) = at d

found-match : {A : Type 0} (absent : A) (at : Data → A) (o : Ordering) (a b : Option Data) → match_ordering o (found absent at a) (found absent at b) (found absent at a) ≡ found absent at (match_ordering o a b a)
found-match absent at Less a b = refl
found-match absent at Equal a b = refl
found-match absent at Greater a b = refl

-- A recursion on the fields of an object that looks for one of them finds what get finds.
module _ (A : Type 0) (key : List ℕ) (absent : A) (at : Data → A) (under : Members → A) (none : under no_members ≡ absent) (some : (k : List ℕ) (d : Data) (ms : Members) → under (member k d ms) ≡ match_ordering (slice_cmp nat_cmp key k) (under ms) (at d) (under ms)) where
  pub under_is : (ms : Members) → under ms ≡ found absent at (get_member key ms)
  under_is no_members = none
  under_is (member k d ms) =
      some k d ms ∙ ap (λ (r : A). match_ordering (slice_cmp nat_cmp key k) r (at d) r) (under_is ms) ∙ found-match absent at (slice_cmp nat_cmp key k) (get_member key ms) (Some d)
