-- What is found in the members of an object that is written.
use Rattle.std.proofs.Common.{◌≡◌, ℕ, List, Option, Some, None, Bool, true, false, cond, Result, Ok, Ordering, Less, Equal, Greater, nat_cmp, refl, sym, ap, ◌∙◌, is_eq, bytes_eq, if◌then◌else◌}
use Rattle.std.proofs.lemmas.Map.Text.{is_eq-slice_cmp}
use Rattle.std.proofs.lemmas.Slice.Eq.{bytes_eq-Decides}
use Rattle.std.proofs.lemmas.Bool.{false≢true}
use Rattle.std.specs.Cmp.Lexicographic.{slice_cmp}
use Rattle.std.specs.Ordering.{match_ordering}
use Rattle.serde_json.specs.Data.{Data, Members, no_members, member, put}
use Rattle.serde_json.specs.Find.{get, get_member}
use Rattle.serde_json.proofs.Views.{get_member-put, get_member-put_other}
use Rattle.pt_document.specs.declared.refusal.Refusal.{Refusal}
use Rattle.pt_document.specs.Names.{is_among}
use Rattle.pt_moml.specs.Fields.{has_only, listed}
use Rattle.pt_write.specs.Form.{IsSlotAmong, AreFieldsAmong}
use Rattle.pt_write.specs.Written.{Slot, absent, given, Fields, no_fields, field, object, data_of, slot_after, members_after}

-- ---- what is found at a key

abbrev pub slot_data : Slot → Option Data
slot_data absent = None
slot_data (given v) = Some (data_of v)

-- the later one, where there is one
abbrev pub over : Option Data → Option Data → Option Data
over None before = before
over (Some d) before = Some d

pub over-none : (o : Option Data) → over o None ≡ o
over-none None = refl
over-none (Some d) = refl

abbrev pub found : List ℕ → Fields → Option Data → Option Data
found k no_fields before = before
found k (field l slot fs) before = found k fs (if bytes_eq k l then over (slot_data slot) before else before)

same_both : {A : Type 0} (b : Bool) (x : A) → x ≡ cond b x x
same_both true x = refl
same_both false x = refl

get_member-slot : (k l : List ℕ) (slot : Slot) (ms : Members) → get_member k (slot_after l slot ms) ≡ (if bytes_eq k l then over (slot_data slot) (get_member k ms) else get_member k ms)
get_member-slot k l absent ms = same_both (bytes_eq k l) (get_member k ms)
get_member-slot k l (given v) ms = chosen (bytes_eq k l) refl
  where
    chosen : (b : Bool) → bytes_eq k l ≡ b → get_member k (put l (data_of v) ms) ≡ cond b (Some (data_of v)) (get_member k ms)
    chosen true is = let same : k ≡ l = (bytes_eq-Decides k l).0 is in ap (λ (q : List ℕ). get_member q (put l (data_of v) ms)) same ∙ get_member-put l (data_of v) ms
    chosen false is = get_member-put_other k l (data_of v) ms (λ same. false≢true (sym is ∙ (bytes_eq-Decides k l).1 same))

get_member-after : (k : List ℕ) (fs : Fields) (ms : Members) → get_member k (members_after fs ms) ≡ found k fs (get_member k ms)
get_member-after k no_fields ms = refl
get_member-after k (field l slot fs) ms = get_member-after k fs (slot_after l slot ms) ∙ ap (found k fs) (get_member-slot k l slot ms)

-- what is found in a written object
pub get-object : (k : List ℕ) (fs : Fields) → get k (data_of (object fs)) ≡ found k fs None
get-object k fs = get_member-after k fs no_members

-- ---- which keys there are

pub slot_among : (keys : List (List ℕ)) (k : List ℕ) (slot : Slot) → is_among keys k ≡ true → IsSlotAmong keys k slot
slot_among keys k absent h = tt
slot_among keys k (given v) h = h

only-put_at : (keys : List (List ℕ)) (o : Ordering) (k l : List ℕ) (d e : Data) (ms : Members) → slice_cmp nat_cmp k l ≡ o → is_among keys k ≡ true → has_only keys (member l e ms) ≡ true → has_only keys (put k d ms) ≡ true
    → has_only keys (match_ordering o (member k d (member l e ms)) (member l d ms) (member l e (put k d ms))) ≡ true
only-put_at keys Less k l d e ms is here rest later = rw here rest
only-put_at keys Equal k l d e ms is here rest later = rest
only-put_at keys Greater k l d e ms is here rest later = chosen (is_among keys l) refl rest
  where
    chosen : (b : Bool) → is_among keys l ≡ b → cond b (has_only keys ms) false ≡ true → cond b (has_only keys (put k d ms)) false ≡ true
    chosen true there rest = later
    chosen false there rest = rest

only-rest : (keys : List (List ℕ)) (l : List ℕ) (e : Data) (ms : Members) → has_only keys (member l e ms) ≡ true → has_only keys ms ≡ true
only-rest keys l e ms h = chosen (is_among keys l) h
  where
    chosen : (b : Bool) → cond b (has_only keys ms) false ≡ true → has_only keys ms ≡ true
    chosen true h = h
    chosen false h = absurd (false≢true h)

only-put : (keys : List (List ℕ)) (k : List ℕ) (d : Data) (ms : Members) → is_among keys k ≡ true → has_only keys ms ≡ true → has_only keys (put k d ms) ≡ true
only-put keys k d no_members here h = rw here refl
only-put keys k d (member l e ms) here h = only-put_at keys _ k l d e ms refl here h (only-put keys k d ms here (only-rest keys l e ms h))

only-slot : (keys : List (List ℕ)) (k : List ℕ) (slot : Slot) (ms : Members) → IsSlotAmong keys k slot → has_only keys ms ≡ true → has_only keys (slot_after k slot ms) ≡ true
only-slot keys k absent ms h only = only
only-slot keys k (given v) ms h only = only-put keys k (data_of v) ms h only

only-after : (keys : List (List ℕ)) (fs : Fields) (ms : Members) → AreFieldsAmong keys fs → has_only keys ms ≡ true → has_only keys (members_after fs ms) ≡ true
only-after keys no_fields ms h only = only
only-after keys (field k slot fs) ms h only = only-after keys fs (slot_after k slot ms) h.1 (only-slot keys k slot ms h.0 only)

abbrev nothing_refused : Result (Unit {0}) Refusal
nothing_refused = Ok tt

-- a written object has only these fields
pub listed-object : (path : List ℕ) (keys : List (List ℕ)) (fs : Fields) → AreFieldsAmong keys fs → listed path keys (data_of (object fs)) ≡ nothing_refused
listed-object path keys fs h = rw (only-after keys fs no_members h refl) refl

-- ---- the same for objects that are read

member_at : (keys : List (List ℕ)) (o : Ordering) (k l : List ℕ) (d e : Data) (ms : Members) → slice_cmp nat_cmp k l ≡ o → is_among keys l ≡ true → (get_member k ms ≡ Some e → is_among keys k ≡ true)
    → match_ordering o (get_member k ms) (Some d) (get_member k ms) ≡ Some e → is_among keys k ≡ true
member_at keys Less k l d e ms is here later h = later h
member_at keys Equal k l d e ms is here later h = let same : k ≡ l = (bytes_eq-Decides k l).0 (sym (is_eq-slice_cmp k l) ∙ ap is_eq is) in ap (is_among keys) same ∙ here
member_at keys Greater k l d e ms is here later h = later h

only-first : (keys : List (List ℕ)) (l : List ℕ) (e : Data) (ms : Members) → has_only keys (member l e ms) ≡ true → is_among keys l ≡ true
only-first keys l e ms h = chosen (is_among keys l) h
  where
    chosen : (b : Bool) → cond b (has_only keys ms) false ≡ true → b ≡ true
    chosen true h = refl
    chosen false h = absurd (false≢true h)

-- what is found is at one of the keys
pub get_member-among : (keys : List (List ℕ)) (k : List ℕ) (ms : Members) (e : Data) → has_only keys ms ≡ true → get_member k ms ≡ Some e → is_among keys k ≡ true
get_member-among keys k no_members e only h = absurd cc
get_member-among keys k (member l d ms) e only h =
    member_at keys _ k l d e ms refl (only-first keys l d ms only) (λ later. get_member-among keys k ms e (only-rest keys l d ms only) later) h
