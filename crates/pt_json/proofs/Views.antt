-- A value level by level, and lists that grow at their end.
use Rattle.std.proofs.Common.{◌≡◌, ℕ, List, [], ◌∷◌, ◌++◌, map, true, false, true≢false, Some, Vec, Global, refl, ap, sym, ◌∙◌, bytes_eq, rules}
use Rattle.std.proofs.lemmas.Slice.Eq.{bytes_eq-Decides}
use Rattle.std.specs.Borrow.{Bor}
use Rattle.serde_json.specs.Data.{array, object, Members, no_members, put}
use Rattle.serde_json.specs.Find.{get_member}
use Rattle.serde_json.proofs.Views.{get_member-put, get_member-put_other}
use Rattle.pt_json.specs.View.{members_after, view, items_view, members_view}
use Rattle.pt_json.specs.declared.value.Value.{Value, Array, Object, the_lemmas}

abbrev pub Member : Type 0
Member = Bor (List ℕ) × Value

pub view-Array : (v : Vec Value Global) → view (Array v) ≡ array (items_view v.items)
view-Array v = search (rules, the_lemmas)

pub view-Object : (v : Vec Member Global) → view (Object v) ≡ object (members_view v.items)
view-Object v = search (rules, the_lemmas)

push : (ms : List Member) (m : Member) (found : Members) → members_after found (map (λ m. (m.0, view m.1)) (ms ++ m ∷ [])) ≡ put m.0.now (view m.1) (members_after found (map (λ m. (m.0, view m.1)) ms))
unfolding members_after
push [] m found = refl
push (n ∷ ms) m found = push ms m (put n.0.now (view n.1) found)

pub members_view-none : members_view [] ≡ no_members
unfolding members_after
members_view-none = refl

-- one more member at the end goes in last
pub members_view-push : (ms : List Member) (m : Member) → members_view (ms ++ m ∷ []) ≡ put m.0.now (view m.1) (members_view ms)
members_view-push ms m = push ms m no_members

pub found_last : (name : List ℕ) (ms : List Member) (m : Member) → bytes_eq m.0.now name ≡ true → get_member name (members_view (ms ++ m ∷ [])) ≡ Some (view m.1)
found_last name ms m same =
    let e : m.0.now ≡ name = (bytes_eq-Decides m.0.now name).0 same in
    ap (get_member name) (members_view-push ms m) ∙ ap (λ k. get_member name (put k (view m.1) (members_view ms))) e ∙ get_member-put name (view m.1) (members_view ms)

pub found_before : (name : List ℕ) (ms : List Member) (m : Member) → bytes_eq m.0.now name ≡ false → get_member name (members_view (ms ++ m ∷ [])) ≡ get_member name (members_view ms)
found_before name ms m other =
    ap (get_member name) (members_view-push ms m) ∙ get_member-put_other name m.0.now (view m.1) (members_view ms) (λ e. (bytes_eq-differ m.0.now name other (sym e)))
  where
    bytes_eq-differ : (xs ys : List ℕ) → bytes_eq xs ys ≡ false → xs ≡ ys → ⊥
    bytes_eq-differ xs ys differs e = true≢false (sym ((bytes_eq-Decides xs ys).1 e) ∙ differs)
