-- One name more, where names differ so far.
use Rattle.std.proofs.Common.{◌≡◌, ℕ, ◌+◌, ◌<◌, ◌||◌, List, [], ◌∷◌, ◌++◌, length, get_or, drop, map, Bool, true, false, not, cond, refl, sym, ap, ◌∙◌, bytes_eq}
use Rattle.std.proofs.lemmas.List.{map_push}
use Rattle.std.specs.List.{list_any}
use Rattle.std.specs.Borrow.{Bor}
use Rattle.pt_document.specs.Names.{has_name, are_distinct_after}
use Rattle.pt_document.proofs.Lists.{drop_item}

abbrev pub Name : Type 0
Name = Bor (List ℕ)

abbrev pub texts : List Name → List (List ℕ)
texts names = map (λ n. n.now) names

abbrev pub same : Name → Name → Bool
same a b = bytes_eq a.now b.now

pub has_name-texts : (seen : List Name) (x : Name) → has_name (texts seen) x.now ≡ list_any (same x) seen
has_name-texts [] x = refl
has_name-texts (y ∷ ys) x = ap (λ b. bytes_eq x.now y.now || b) (has_name-texts ys x)

module _ (T : Type 0) (name : T → List ℕ) (names : List T → List (List ℕ)) (of_more : (x : T) (xs : List T) → names (x ∷ xs) ≡ name x ∷ names xs) (parts : List T) (seen : List Name) (i : ℕ) (x : T) (item : Name) (total : Bool) (within : i < length parts) (is : x ≡ get_or parts i x) (is_item : item.now ≡ name x) (so_far : are_distinct_after (texts seen) (names (drop i parts)) ≡ total) where
  turn : cond (list_any (same item) seen) false (are_distinct_after (texts (seen ++ item ∷ [])) (names (drop (i + 1) parts))) ≡ total
  turn =
      let left : names (drop i parts) ≡ item.now ∷ names (drop (i + 1) parts) = ap names (drop_item T parts i x within is) ∙ of_more x (drop (i + 1) parts) ∙ ap (λ (s : List ℕ). s ∷ names (drop (i + 1) parts)) (sym is_item) in
      let pushed : texts (seen ++ item ∷ []) ≡ texts seen ++ item.now ∷ [] = map_push (λ (n : Name). n.now) seen item in
      ap (λ (b : Bool). cond b false (are_distinct_after (texts (seen ++ item ∷ [])) (names (drop (i + 1) parts)))) (sym (has_name-texts seen item))
      ∙ ap (λ (s : List (List ℕ)). cond (has_name (texts seen) item.now) false (are_distinct_after s (names (drop (i + 1) parts)))) pushed
      ∙ sym (ap (λ (ns : List (List ℕ)). are_distinct_after (texts seen) ns) left) ∙ so_far

  pub repeats : (new : Bool) → new ≡ not (list_any (same item) seen) → new ≡ false → total ≡ false
  repeats new added old = chosen (list_any (same item) seen) (sym added ∙ old) turn
    where
      chosen : (b : Bool) → not b ≡ false → cond b false (are_distinct_after (texts (seen ++ item ∷ [])) (names (drop (i + 1) parts))) ≡ total → total ≡ false
      chosen true h e = sym e
      chosen false h e = absurd cc

  pub goes_on : (new : Bool) (keys : List Name) → new ≡ not (list_any (same item) seen) → new ≡ true → keys ≡ cond (list_any (same item) seen) seen (seen ++ item ∷ []) → are_distinct_after (texts keys) (names (drop (i + 1) parts)) ≡ total
  goes_on new keys added fresh are = chosen (list_any (same item) seen) (sym added ∙ fresh) are turn
    where
      chosen : (b : Bool) → not b ≡ true → keys ≡ cond b seen (seen ++ item ∷ []) → cond b false (are_distinct_after (texts (seen ++ item ∷ [])) (names (drop (i + 1) parts))) ≡ total → are_distinct_after (texts keys) (names (drop (i + 1) parts)) ≡ total
      chosen true h are e = absurd cc
      chosen false h are e = ap (λ (ks : List Name). are_distinct_after (texts ks) (names (drop (i + 1) parts))) are ∙ e
