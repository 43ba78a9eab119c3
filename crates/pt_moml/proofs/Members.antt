-- The names of an object's members, as they came.
use Rattle.std.proofs.Common.{◌≡◌, ℕ, List, [], ◌∷◌, map, Bool, true, false, Ordering, Less, Equal, Greater, nat_cmp, refl, sym, ap, ◌∙◌, is_eq, bytes_eq, if◌then◌else◌}
use Rattle.std.proofs.lemmas.Map.Text.{is_eq-slice_cmp}
use Rattle.std.proofs.lemmas.Slice.Eq.{bytes_eq-Decides}
use Rattle.std.specs.Cmp.Lexicographic.{slice_cmp}
use Rattle.std.specs.Borrow.{Bor}
use Rattle.std.specs.List.{list_all}
use Rattle.std.specs.Ordering.{match_ordering}
use Rattle.serde_json.specs.Data.{Data, Members, no_members, member, put}
use Rattle.pt_json.specs.View.{members_after, view, members_view}
use Rattle.pt_json.specs.declared.value.Value.{Value}
use Rattle.pt_document.specs.Names.{is_among}
use Rattle.pt_moml.specs.Fields.{has_only}

-- each of these is among the names
abbrev pub are_among : List (List ℕ) → List (Bor (List ℕ) × Value) → Bool
are_among keys [] = true
are_among keys (m ∷ ms) = if is_among keys m.0.now then are_among keys ms else false

both : (a b c : Bool) → (if a then (if b then c else false) else false) ≡ (if b then (if a then c else false) else false)
both true true c = refl
both true false c = refl
both false true c = refl
both false false c = refl

twice : (a c : Bool) → (if a then c else false) ≡ (if a then (if a then c else false) else false)
twice true c = refl
twice false c = refl

only-put_at : (keys : List (List ℕ)) (o : Ordering) (k l : List ℕ) (d e : Data) (ms : Members) → slice_cmp nat_cmp k l ≡ o → has_only keys (put k d ms) ≡ (if is_among keys k then has_only keys ms else false)
    → has_only keys (match_ordering o (member k d (member l e ms)) (member l d ms) (member l e (put k d ms))) ≡ (if is_among keys k then has_only keys (member l e ms) else false)
only-put_at keys Less k l d e ms is later = refl
only-put_at keys Equal k l d e ms is later =
    let same : k ≡ l = (bytes_eq-Decides k l).0 (sym (is_eq-slice_cmp k l) ∙ ap is_eq is) in
    twice (is_among keys l) (has_only keys ms) ∙ ap (λ n. if is_among keys n then (if is_among keys l then has_only keys ms else false) else false) (sym same)
only-put_at keys Greater k l d e ms is later = ap (λ b. if is_among keys l then b else false) later ∙ both (is_among keys l) (is_among keys k) (has_only keys ms)

only-put : (keys : List (List ℕ)) (k : List ℕ) (d : Data) (ms : Members) → has_only keys (put k d ms) ≡ (if is_among keys k then has_only keys ms else false)
only-put keys k d no_members = refl
only-put keys k d (member l e ms) = only-put_at keys _ k l d e ms refl (only-put keys k d ms)

only-after : (keys : List (List ℕ)) (ms : List (Bor (List ℕ) × Value)) (found : Members) → has_only keys (members_after found (map (λ m. (m.0, view m.1)) ms)) ≡ (if are_among keys ms then has_only keys found else false)
unfolding members_after
only-after keys [] found = refl
only-after keys (m ∷ ms) found =
    only-after keys ms (put m.0.now (view m.1) found) ∙ ap (λ b. if are_among keys ms then b else false) (only-put keys m.0.now (view m.1) found)
    ∙ both (are_among keys ms) (is_among keys m.0.now) (has_only keys found) ∙ split (is_among keys m.0.now) (are_among keys ms) (has_only keys found)
  where
    split : (a b c : Bool) → (if a then (if b then c else false) else false) ≡ (if (if a then b else false) then c else false)
    split true b c = refl
    split false b c = refl

if_true : (b : Bool) → (if b then true else false) ≡ b
if_true true = refl
if_true false = refl

pub only-are_among : (keys : List (List ℕ)) (ms : List (Bor (List ℕ) × Value)) → has_only keys (members_view ms) ≡ are_among keys ms
only-are_among keys ms = only-after keys ms no_members ∙ if_true (are_among keys ms)
