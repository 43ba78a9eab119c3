-- The tables of the relations at each port, one wire on.
use Rattle.std.proofs.Common.{◌≡◌, ℕ, ◌+◌, ◌<◌, inl, inr, Bool, true, false, cond, Some, None, List, [], ◌∷◌, ◌++◌, length, get_or, set, take, nat_eq, refl, sym, ap, subst, ◌∙◌, arith, get_or-set_same, get_or-set_other, length-set}
use Rattle.std.proofs.lemmas.Bool.{cases_eq, eq-eqb, ne_eqb}
use Rattle.std.proofs.lemmas.List.{append-nil, get_or_default, take_more}
use Rattle.std.proofs.lemmas.List.Elements.{filter_map-append}
use Rattle.std.specs.List.{filter_map, cons_option}
use Rattle.pt_net.specs.declared.wire.Wire.{Wire}
use Rattle.pt_net.specs.declared.wire.Wire.TheVariants.{Outside, Inside, Bond}
use Rattle.pt_net.specs.Wires.{relation_outside, relation_inside, outside_of, inside_of}
use Rattle.pt_links.specs.Ties.{appended, outside_with, inside_with, IsPortWithin, AreTied}

-- a row that was read, and written with one number more
pub append_row : (vs : List (List ℕ)) (g r : ℕ) (v w : List ℕ) → g < length vs → v ≡ get_or vs g v → w ≡ v ++ r ∷ [] → set vs g w ≡ appended vs g r
append_row vs g r v w within is new =
    ap (λ (xs : List ℕ). set vs g xs) (new ∙ ap (λ (xs : List ℕ). xs ++ r ∷ []) (is ∙ get_or_default vs g v [] within))

-- a row that was read
pub row_is : (vs : List (List ℕ)) (g : ℕ) (v xs ys : List ℕ) → g < length vs → v ≡ get_or vs g v → xs ≡ v → get_or vs g [] ≡ ys → xs ≡ ys
row_is vs g v xs ys within is e f = e ∙ is ∙ get_or_default vs g v [] within ∙ f

abbrev only : Bool → ℕ → List ℕ
only b r = cond b (r ∷ []) []

-- what a row holds once another, or the same, has one number more
appended_at : (table : List (List ℕ)) (before : List ℕ) (p r g : ℕ) → p < length table → get_or table g [] ≡ before → get_or (appended table p r) g [] ≡ before ++ only (nat_eq g p) r
appended_at table before p r g within is =
    elim (cases_eq g p) [
      | inl e ↦
          ap (λ (k : ℕ). get_or (appended table p r) k []) e ∙ get_or-set_same table p _ [] within ∙ ap (λ (k : ℕ). get_or table k [] ++ r ∷ []) (sym e)
          ∙ ap (λ (xs : List ℕ). xs ++ r ∷ []) is ∙ sym (ap (λ (b : Bool). before ++ only b r) (eq-eqb g p e))
      | inr ne ↦
          get_or-set_other table p g _ [] ne ∙ is ∙ sym (append-nil before) ∙ sym (ap (λ (b : Bool). before ++ only b r) (ne_eqb g p ne))
    ]

-- the relations of one wire
only_outside : (g p r : ℕ) → filter_map (relation_outside g) (Outside p r ∷ []) ≡ only (nat_eq g p) r
only_outside g p r = chosen (nat_eq g p)
  where
    chosen : (b : Bool) → cons_option (cond b (Some r) None) [] ≡ only b r
    chosen true = refl
    chosen false = refl

only_inside : (g p r : ℕ) → filter_map (relation_inside g) (Inside p r ∷ []) ≡ only (nat_eq g p) r
only_inside g p r = chosen (nat_eq g p)
  where
    chosen : (b : Bool) → cons_option (cond b (Some r) None) [] ≡ only b r
    chosen true = refl
    chosen false = refl

same_row : (xs ys zs : List ℕ) → xs ≡ ys → zs ≡ ys ++ [] → xs ≡ zs
same_row xs ys zs e f = e ∙ sym (append-nil ys) ∙ sym f

pub tied_next : (n : ℕ) (ws : List Wire) (w : Wire) (out ins : List (List ℕ)) → IsPortWithin n w → AreTied n ws out ins → AreTied n (ws ++ w ∷ []) (outside_with out w) (inside_with ins w)
tied_next n ws (Outside p r) out ins within t = record {
  count_outside = length-set out p _ ∙ t.count_outside;
  count_inside = t.count_inside;
  out = λ g below. appended_at out (outside_of ws g) p r g (omega (arith, t.count_outside)) (t.out g below) ∙ ap (λ (xs : List ℕ). outside_of ws g ++ xs) (sym (only_outside g p r)) ∙ sym (filter_map-append (relation_outside g) ws (Outside p r ∷ []));
  within = λ g below. same_row (get_or ins g []) (inside_of ws g) (inside_of (ws ++ Outside p r ∷ []) g) (t.within g below) (filter_map-append (relation_inside g) ws (Outside p r ∷ []));
}
tied_next n ws (Inside p r) out ins within t = record {
  count_outside = t.count_outside;
  count_inside = length-set ins p _ ∙ t.count_inside;
  out = λ g below. same_row (get_or out g []) (outside_of ws g) (outside_of (ws ++ Inside p r ∷ []) g) (t.out g below) (filter_map-append (relation_outside g) ws (Inside p r ∷ []));
  within = λ g below. appended_at ins (inside_of ws g) p r g (omega (arith, t.count_inside)) (t.within g below) ∙ ap (λ (xs : List ℕ). inside_of ws g ++ xs) (sym (only_inside g p r)) ∙ sym (filter_map-append (relation_inside g) ws (Inside p r ∷ []));
}
tied_next n ws (Bond a b) out ins within t = record {
  count_outside = t.count_outside;
  count_inside = t.count_inside;
  out = λ g below. same_row (get_or out g []) (outside_of ws g) (outside_of (ws ++ Bond a b ∷ []) g) (t.out g below) (filter_map-append (relation_outside g) ws (Bond a b ∷ []));
  within = λ g below. same_row (get_or ins g []) (inside_of ws g) (inside_of (ws ++ Bond a b ∷ []) g) (t.within g below) (filter_map-append (relation_inside g) ws (Bond a b ∷ []));
}

pub tied_more : (n : ℕ) (ws : List Wire) (i : ℕ) (d : Wire) (out ins : List (List ℕ)) → i < length ws → IsPortWithin n (get_or ws i d) → AreTied n (take i ws) out ins → AreTied n (take (i + 1) ws) (outside_with out (get_or ws i d)) (inside_with ins (get_or ws i d))
tied_more n ws i d out ins within port t = subst (λ (vs : List Wire). AreTied n vs (outside_with out (get_or ws i d)) (inside_with ins (get_or ws i d))) (sym (take_more ws i d within)) (tied_next n (take i ws) (get_or ws i d) out ins port t)
