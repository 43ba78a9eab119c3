-- One part more, where the names of those before it differ.
use Rattle.std.proofs.Common.{◌≡◌, ℕ, ◌+◌, ◌<◌, List, [], ◌∷◌, ◌++◌, length, get_or, take, drop, Bool, false, if◌then◌else◌, sym, ap, ◌∙◌}
use Rattle.std.proofs.lemmas.List.{take_more}
use Rattle.pt_document.proofs.Lists.{drop_item}
use Rattle.pt_document.specs.Names.{has_name, are_distinct_after}

module _ (T : Type 0) (name : T → List ℕ) (names : List T → List (List ℕ)) (of_none : names [] ≡ []) (of_more : (x : T) (xs : List T) → names (x ∷ xs) ≡ name x ∷ names xs) where
  named_last : (xs : List T) (x : T) → names (xs ++ x ∷ []) ≡ names xs ++ name x ∷ []
  named_last [] x = of_more x [] ∙ ap (λ ns. name x ∷ ns) of_none ∙ sym (ap (λ ns. ns ++ name x ∷ []) of_none)
  named_last (y ∷ ys) x = of_more y (ys ++ x ∷ []) ∙ ap (λ ns. name y ∷ ns) (named_last ys x) ∙ sym (ap (λ ns. ns ++ name x ∷ []) (of_more y ys))

  pub still_apart : (parts : List T) (i : ℕ) (x : T) (total : Bool) → i < length parts → x ≡ get_or parts i x → has_name (names (take i parts)) (name x) ≡ false → are_distinct_after (names (take i parts)) (names (drop i parts)) ≡ total → are_distinct_after (names (take (i + 1) parts)) (names (drop (i + 1) parts)) ≡ total
  still_apart parts i x total short is fresh so_far =
      let seen : List (List ℕ) = names (take i parts) in
      let rest : List (List ℕ) = names (drop (i + 1) parts) in
      let more : names (take (i + 1) parts) ≡ seen ++ name x ∷ [] = ap names (take_more parts i x short ∙ ap (λ y. take i parts ++ y ∷ []) (sym is)) ∙ named_last (take i parts) x in
      let left : names (drop i parts) ≡ name x ∷ rest = ap names (drop_item T parts i x short is) ∙ of_more x (drop (i + 1) parts) in
      ap (λ ns. are_distinct_after ns rest) more
      ∙ sym (ap (λ b. if b then false else are_distinct_after (seen ++ name x ∷ []) rest) fresh)
      ∙ sym (ap (λ ns. are_distinct_after seen ns) left)
      ∙ so_far
