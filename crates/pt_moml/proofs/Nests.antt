-- Counting the entities of a document.
use Rattle.std.proofs.Common.{◌≡◌, ℕ, ◌+◌, ◌-◌, ◌<◌, ◌≤◌, ◌&&◌, ◌||◌, max, eqb, leb, Bool, true, false, cond, List, length, drop, drop_of_length-le, get_or, Option, Some, None, refl, sym, ap, ◌∙◌, arith, codes}
use Rattle.std.specs.Prelude.{is_some, option_and_then}
use Rattle.std.proofs.lemmas.Bool.Decides.{nat_tests}
use Rattle.serde_json.specs.Data.{Data, null, boolean, number, string, array, object}
use Rattle.serde_json.specs.Find.{get, get_member}
use Rattle.pt_json.specs.View.{view, items_view}
use Rattle.pt_json.specs.declared.value.Value.{Value}
use Rattle.pt_document.proofs.Lists.{drop_item}
use Rattle.pt_moml.specs.Limits.{Nest, no_nest, one_nest, count, levels, nest_in, nest_under, nest_at, nest_items, nest_field, room_behind, is_within}
use Rattle.pt_moml.proofs.FoundFields.{found, under_is}

field_is : (field : Option Data) → found no_nest nest_at field ≡ nest_field field
field_is None = refl
field_is (Some d) = refl

-- the entities within an entity stand at its field
pub nest_in_is : (d : Data) → nest_in d ≡ nest_field (get (codes "entities") d)
unfolding nest_in
nest_in_is null = refl
nest_in_is (boolean b) = refl
nest_in_is (number n) = refl
nest_in_is (string s) = refl
nest_in_is (array ds) = refl
nest_in_is (object ms) = under_is Nest (codes "entities") no_nest nest_at nest_under refl (λ k d ms. refl) ms ∙ field_is (get_member (codes "entities") ms)

-- ---- one entity more

module _ (xs : List Value) (i : ℕ) (x : Value) (within : i < length xs) (is : x ≡ get_or xs i x) (depth room : ℕ) (total : Option ℕ) (so_far : room_behind depth room (nest_items (items_view (drop i xs))) ≡ total) where
  abbrev rest : Nest
  rest = nest_items (items_view (drop (i + 1) xs))

  abbrev inner : Option ℕ
  inner = room_behind (depth - 1) (room - 1) (nest_field (get (codes "entities") (view x)))

  turn : cond (eqb room 0 || eqb depth 0) None (option_and_then (λ left. room_behind depth left rest) inner) ≡ total
  unfolding nest_in
  turn =
      let one : nest_items (items_view (drop i xs)) ≡ one_nest (nest_in (view x)) rest = ap (λ (ys : List Value). nest_items (items_view ys)) (drop_item Value xs i x within is) in
      let two : nest_items (items_view (drop i xs)) ≡ one_nest (nest_field (get (codes "entities") (view x))) rest = one ∙ ap (λ (n : Nest). one_nest n rest) (nest_in_is (view x)) in
      sym (ap (room_behind depth room) two) ∙ so_far

  pub full : (eqb room 0 || eqb depth 0) ≡ true → None ≡ total
  full test = ap (λ (b : Bool). cond b None (option_and_then (λ left. room_behind depth left rest) inner)) (sym test) ∙ turn

  after : (eqb room 0 || eqb depth 0) ≡ false → option_and_then (λ left. room_behind depth left rest) inner ≡ total
  after test = ap (λ (b : Bool). cond b None (option_and_then (λ left. room_behind depth left rest) inner)) (sym test) ∙ turn

  pub stops : (eqb room 0 || eqb depth 0) ≡ false → inner ≡ None → None ≡ total
  stops test none = sym (ap (option_and_then (λ left. room_behind depth left rest)) none) ∙ after test

  pub goes_on : (left : ℕ) → (eqb room 0 || eqb depth 0) ≡ false → inner ≡ Some left → room_behind depth left rest ≡ total
  goes_on left test some = sym (ap (option_and_then (λ left. room_behind depth left rest)) some) ∙ after test

pub is_done : (xs : List Value) (i depth room : ℕ) (total : Option ℕ) → length xs ≤ i → room_behind depth room (nest_items (items_view (drop i xs))) ≡ total → Some room ≡ total
unfolding nest_in
is_done xs i depth room total h so_far = sym (ap (λ (ys : List Value). room_behind depth room (nest_items (items_view ys))) (drop_of_length-le xs h)) ∙ so_far

-- ---- counts

-- there is room behind entities where they fit, and then as much as they leave
abbrev fits : ℕ → ℕ → Nest → Bool
fits depth room n = leb (count n) room && leb (levels n) depth

abbrev left : ℕ → ℕ → Nest → Option ℕ
left depth room n = cond (fits depth room n) (Some (room - count n)) None

split : {P : Type 0} (b : Bool) → (b ≡ true → P) → (b ≡ false → P) → P
split true so not = so refl
split false so not = not refl

-- the numbers alone: c and l count what is within, m and k what is behind
numbers : (depth room c l m k : ℕ) → cond (eqb room 0 || eqb depth 0) None (option_and_then (λ left. cond (leb m left && leb k depth) (Some (left - m)) None) (cond (leb c (room - 1) && leb l (depth - 1)) (Some ((room - 1) - c)) None))
    ≡ cond (leb ((1 + c) + m) room && leb (max (1 + l) k) depth) (Some (room - ((1 + c) + m))) None
numbers depth room c l m k =
    split (eqb room 0)
    (λ empty. let over : leb ((1 + c) + m) room ≡ false = grind (arith, nat_tests) in rw (empty, over) refl)
    (λ some. split (eqb depth 0)
    (λ flat. let deep : leb (max (1 + l) k) depth ≡ false = grind (arith, nat_tests) in rw (some, flat, deep) (none (leb ((1 + c) + m) room)))
    (λ high. rw (some, high) (split (leb c (room - 1))
    (λ fits. split (leb l (depth - 1))
    (λ shallow. rw (fits, shallow) (split (leb k depth)
    (λ low. let same : leb m ((room - 1) - c) ≡ leb ((1 + c) + m) room = grind (arith, nat_tests) in
    let deep : leb (max (1 + l) k) depth ≡ true = grind (arith, nat_tests) in
    let less : ((room - 1) - c) - m ≡ room - ((1 + c) + m) = omega arith in rw (low, same, deep, less) refl)
    (λ over. let deep : leb (max (1 + l) k) depth ≡ false = grind (arith, nat_tests) in rw (over, deep) (none_of (leb m ((room - 1) - c)) (leb ((1 + c) + m) room)))))
    (λ over. let deep : leb (max (1 + l) k) depth ≡ false = grind (arith, nat_tests) in rw (fits, over, deep) (none (leb ((1 + c) + m) room))))
    (λ over. let much : leb ((1 + c) + m) room ≡ false = grind (arith, nat_tests) in rw (over, much) refl))))
  where
    none : (b : Bool) → None ≡ cond (b && false) (Some (room - ((1 + c) + m))) None
    none true = refl
    none false = refl

    none_of : (a b : Bool) → cond (a && false) (Some (((room - 1) - c) - m)) None ≡ cond (b && false) (Some (room - ((1 + c) + m))) None
    none_of true true = refl
    none_of true false = refl
    none_of false true = refl
    none_of false false = refl

pub room_is : (depth room : ℕ) (n : Nest) → room_behind depth room n ≡ left depth room n
room_is depth room no_nest =
    let one : leb 0 room ≡ true = grind (arith, nat_tests) in
    let two : leb 0 depth ≡ true = grind (arith, nat_tests) in
    let same : room - 0 ≡ room = omega arith in
    rw (one, two, same) refl
room_is depth room (one_nest within rest) =
    ap (λ (o : Option ℕ). cond (eqb room 0 || eqb depth 0) None (option_and_then (λ m. room_behind depth m rest) o)) (room_is (depth - 1) (room - 1) within)
    ∙ later (left (depth - 1) (room - 1) within) (λ m. room_is depth m rest) ∙ numbers depth room (count within) (levels within) (count rest) (levels rest)
  where
    later : (o : Option ℕ) → ((m : ℕ) → room_behind depth m rest ≡ left depth m rest) → cond (eqb room 0 || eqb depth 0) None (option_and_then (λ m. room_behind depth m rest) o) ≡ cond (eqb room 0 || eqb depth 0) None (option_and_then (λ m. left depth m rest) o)
    later None same = refl
    later (Some m) same = ap (λ (o : Option ℕ). cond (eqb room 0 || eqb depth 0) None o) (same m)

-- whether there is room is whether they fit
pub is_some_left : (depth room : ℕ) (n : Nest) → is_some (room_behind depth room n) ≡ leb (count n) room && leb (levels n) depth
is_some_left depth room n = ap is_some (room_is depth room n) ∙ chosen (leb (count n) room && leb (levels n) depth)
  where
    chosen : (b : Bool) → is_some (cond b (Some (room - count n)) None) ≡ b
    chosen true = refl
    chosen false = refl

-- the top counts as one more
pub is_within_is : (n : Nest) → is_some (room_behind 15 9999 n) ≡ is_within n
is_within_is n =
    let one : leb (count n) 9999 ≡ leb (1 + count n) 10000 = grind (arith, nat_tests) in
    let two : leb (levels n) 15 ≡ leb (1 + levels n) 16 = grind (arith, nat_tests) in
    is_some_left 15 9999 n ∙ rw (one, two) refl
