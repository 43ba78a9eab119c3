-- What is read at a field of an object, and what is written for it.
use Rattle.std.proofs.Common.{◌≡◌, ℕ, suc, ◌<◌, ◌≤◌, List, [], ◌∷◌, Option, Some, None, Bool, true, false, cond, map, Result, Ok, refl, sym, ap, ◌∙◌, subst, arith}
use Rattle.std.proofs.lemmas.Bool.{false≢true}
use Rattle.std.specs.List.{AllByRecursion}
use Rattle.serde_json.specs.Data as read_as
use Rattle.serde_json.specs.Data.{Data, Items, no_items, item}
use Rattle.serde_json.specs.Find.{get}
use Rattle.pt_document.specs.declared.refusal.Refusal.{Refusal}
use Rattle.pt_document.specs.declared.code.Code.TheVariants.{Shape, Name}
use Rattle.pt_document.specs.Names.{is_name, is_among, are_distinct}
use Rattle.pt_document.specs.Outcome.{◌>>=◌, refused}
use Rattle.pt_document.proofs.Chains.{good, bind_ok, never_ok, test_ok}
use Rattle.pt_moml.specs.Fields.{required_text, optional_text, name_at, required_truth, optional_truth, required_whole, listed, has_only, items_at, required_list, optional_list, distinct_at}
use Rattle.pt_moml.specs.Reading.{named}
use Rattle.pt_moml.proofs.Depths.{get_depth}
use Rattle.pt_write.specs.Written.{Value, text, truth, Values, no_values, value_then, to_values, Slot, absent, given, Fields, no_fields, field, object, depth, items_depth, slot_depth, fields_depth}
use Rattle.pt_write.specs.Written as own
use Rattle.pt_write.specs.Document as written
use Rattle.pt_write.specs.Document.{values}
use Rattle.pt_write.specs.Form.{IsSlotAmong, AreFieldsAmong, Differ}
use Rattle.pt_write.proofs.Members.{get_member-among}
use Rattle.pt_write.proofs.Back.{AreRead, are_read}

-- ---- objects

abbrev pub fine : Result (Unit {0}) Refusal
fine = Ok tt

pub is_listed : (path : List ℕ) (keys : List (List ℕ)) (d : Data) (u : Unit {0}) → listed path keys d ≡ Ok u → (listed path keys d ≡ fine) × (0 < read_as.depth d)
is_listed path keys read_as.null u e = absurd (never_ok Shape path u e)
is_listed path keys (read_as.boolean b) u e = absurd (never_ok Shape path u e)
is_listed path keys (read_as.number n) u e = absurd (never_ok Shape path u e)
is_listed path keys (read_as.string s) u e = absurd (never_ok Shape path u e)
is_listed path keys (read_as.array ds) u e = absurd (never_ok Shape path u e)
is_listed path keys (read_as.object ms) u e = (e, omega arith)

get-among : (path : List ℕ) (keys : List (List ℕ)) (k : List ℕ) (d e : Data) → listed path keys d ≡ fine → get k d ≡ Some e → is_among keys k ≡ true
get-among path keys k read_as.null e only is = absurd cc
get-among path keys k (read_as.boolean b) e only is = absurd cc
get-among path keys k (read_as.number n) e only is = absurd cc
get-among path keys k (read_as.string s) e only is = absurd cc
get-among path keys k (read_as.array ds) e only is = absurd cc
get-among path keys k (read_as.object ms) e only is = get_member-among keys k ms e (chosen (has_only keys ms) refl only) is
  where
    chosen : (b : Bool) → has_only keys ms ≡ b → cond b fine (refused Shape path) ≡ fine → has_only keys ms ≡ true
    chosen true is only = is
    chosen false is only = absurd (never_ok Shape path tt only)

-- nothing stands at a key that isn't among them
pub not_among : (path : List ℕ) (keys : List (List ℕ)) (k : List ℕ) (d : Data) → listed path keys d ≡ fine → is_among keys k ≡ false → get k d ≡ None
not_among path keys k d only other = chosen (get k d) refl
  where
    chosen : (o : Option Data) → get k d ≡ o → o ≡ None
    chosen None is = refl
    chosen (Some e) is = absurd (false≢true (sym other ∙ get-among path keys k d e only is))

-- what may be written for what was found at a field
abbrev pub SlotOf : Option Data → Slot → Type 0
SlotOf None slot = slot ≡ absent
SlotOf (Some d) slot = slot_depth slot ≤ read_as.depth d

-- what is written at a field of an object that was read
pub record Stands (d : Data) (k : List ℕ) (slot : Slot) : Type 0 where
  pub shallow : slot_depth slot < read_as.depth d
  pub among : (path : List ℕ) (keys : List (List ℕ)) → listed path keys d ≡ fine → IsSlotAmong keys k slot

pub stands : (d : Data) (k : List ℕ) (slot : Slot) → 0 < read_as.depth d → SlotOf (get k d) slot → Stands d k slot
stands d k slot some h = chosen (get k d) refl h
  where
    among_some : (s : Slot) (path : List ℕ) (keys : List (List ℕ)) → is_among keys k ≡ true → IsSlotAmong keys k s
    among_some absent path keys h = tt
    among_some (given v) path keys h = h

    chosen : (o : Option Data) → get k d ≡ o → SlotOf o slot → Stands d k slot
    chosen None is e = subst (Stands d k) (sym e) (record { shallow = some; among = λ path keys only. tt })
    chosen (Some x) is e = record { shallow = omega (arith, e, get_depth k d x is); among = λ path keys only. among_some slot path keys (get-among path keys k d x only is) }

abbrev pub AllStand : Data → Fields → Type 0
AllStand d no_fields = Unit {0}
AllStand d (field k slot fs) = Stands d k slot × AllStand d fs

pub all_shallow : (d : Data) (fs : Fields) → 0 < read_as.depth d → AllStand d fs → fields_depth fs < read_as.depth d
all_shallow d no_fields some h = some
all_shallow d (field k slot fs) some h = omega (arith, h.0.shallow, all_shallow d fs some h.1)

pub all_stand_among : (path : List ℕ) (keys : List (List ℕ)) (d : Data) (fs : Fields) → listed path keys d ≡ fine → AllStand d fs → AreFieldsAmong keys fs
all_stand_among path keys d no_fields only h = tt
all_stand_among path keys d (field k slot fs) only h = (h.0.among path keys only, all_stand_among path keys d fs only h.1)

-- what nests less deep than something doesn't nest deeper one level up
pub no_deeper : (m n : ℕ) → m < n → suc m ≤ n
no_deeper m n h = omega arith

pub within_depth : (m n k : ℕ) → m < n → n ≤ k → suc m ≤ k
within_depth m n k h l = omega arith

-- ---- single fields

module _ (path : List ℕ) where
  pub text_stands : (o : Option Data) (s : List ℕ) → required_text path o ≡ good s → SlotOf o (written.text_slot s)
  text_stands None s e = absurd (never_ok Shape path s e)
  text_stands (Some d) s e = omega arith

  pub name_stands : (o : Option Data) (s : List ℕ) → name_at path o ≡ good s → SlotOf o (written.text_slot s) × (is_name s ≡ true)
  unfolding name_at
  name_stands o s e =
      let a = bind_ok (required_text path o) (λ t. cond (is_name t) (good t) (refused Name path)) s e in
      let t = test_ok (is_name a.0) a.0 s Name path a.2 in
      let same : a.0 ≡ s = cc in
      (text_stands o s (a.1 ∙ ap good same), sym (ap is_name same) ∙ t.0)

  optional_text_flat : (v : Option (List ℕ)) (n : ℕ) → slot_depth (written.optional_text v) ≤ n
  optional_text_flat None n = omega arith
  optional_text_flat (Some s) n = omega arith

  pub optional_text_stands : (o : Option Data) (v : Option (List ℕ)) → optional_text path o ≡ good v → SlotOf o (written.optional_text v)
  optional_text_stands None None e = refl
  optional_text_stands None (Some s) e = absurd cc
  optional_text_stands (Some d) v e = optional_text_flat v (read_as.depth d)

  pub optional_truth_stands : (o : Option Data) (b : Bool) → optional_truth path o ≡ good b → SlotOf o (written.optional_truth b)
  optional_truth_stands None false e = refl
  optional_truth_stands None true e = absurd cc
  optional_truth_stands (Some d) false e = omega arith
  optional_truth_stands (Some d) true e = omega arith

  pub truth_stands : (o : Option Data) (b : Bool) → required_truth path o ≡ good b → SlotOf o (given (truth b))
  truth_stands None b e = absurd (never_ok Shape path b e)
  truth_stands (Some d) b e = omega arith

  pub whole_stands : (o : Option Data) (n : ℕ) → required_whole path o ≡ good n → SlotOf o (given (own.whole n))
  whole_stands None n e = absurd (never_ok Shape path n e)
  whole_stands (Some d) n e = omega arith

-- ---- lists

pub items_formed : {A : Type 0} (read : Data → Result A Refusal) (value : A → Value) (form : A → Type 0) → ((d : Data) (a : A) → read d ≡ good a → form a × (depth (value a) ≤ read_as.depth d)) → (ds : Items) (xs : List A) → AreRead read ds xs
    → AllByRecursion form xs × (items_depth (values value xs) ≤ read_as.items_depth ds)
items_formed read value form one no_items [] h = (tt, omega arith)
items_formed read value form one no_items (x ∷ xs) h = absurd h
items_formed read value form one (item d ds) [] h = absurd h
items_formed read value form one (item d ds) (x ∷ xs) h =
    let a = one d x h.0 in
    let b = items_formed read value form one ds xs h.1 in
    ((a.0, b.0), omega (arith, a.1, b.1))

pub optional_list_depth : (vs : Values) → slot_depth (written.optional_list vs) ≤ suc (items_depth vs)
optional_list_depth no_values = omega arith
optional_list_depth (value_then v vs) = omega arith

-- the items that were read, without those before
pub all_read : {A : Type 0} (read : Data → Result A Refusal) (ds : Items) (xs : List A) → items_at read [] ds ≡ good xs → AreRead read ds xs
all_read read ds xs e = let r = are_read read [] ds xs e in subst (AreRead read ds) (sym r.1) r.2

module _ {A : Type 0} (read : List ℕ → Data → Result A Refusal) (value : A → Value) (form : A → Type 0) (path : List ℕ) (one : (d : Data) (a : A) → read path d ≡ good a → form a × (depth (value a) ≤ read_as.depth d)) where
  pub optional_list_stands : (o : Option Data) (xs : List A) → optional_list read path o ≡ good xs → AllByRecursion form xs × SlotOf o (written.optional_list (values value xs))
  unfolding optional_list
  optional_list_stands None [] e = (tt, refl)
  optional_list_stands None (x ∷ xs) e = absurd cc
  optional_list_stands (Some (read_as.array ds)) xs e =
      let r = items_formed (read path) value form one ds xs (all_read (read path) ds xs e) in
      (r.0, omega (arith, r.1, optional_list_depth (values value xs)))
  optional_list_stands (Some read_as.null) xs e = absurd (never_ok Shape path xs e)
  optional_list_stands (Some (read_as.boolean b)) xs e = absurd (never_ok Shape path xs e)
  optional_list_stands (Some (read_as.number n)) xs e = absurd (never_ok Shape path xs e)
  optional_list_stands (Some (read_as.string s)) xs e = absurd (never_ok Shape path xs e)
  optional_list_stands (Some (read_as.object ms)) xs e = absurd (never_ok Shape path xs e)

  pub list_stands : (o : Option Data) (xs : List A) → required_list read path o ≡ good xs → AllByRecursion form xs × SlotOf o (written.list_slot (values value xs))
  unfolding required_list
  list_stands None xs e = absurd (never_ok Shape path xs e)
  list_stands (Some (read_as.array ds)) xs e =
      let r = items_formed (read path) value form one ds xs (all_read (read path) ds xs e) in
      (r.0, omega (arith, r.1))
  list_stands (Some read_as.null) xs e = absurd (never_ok Shape path xs e)
  list_stands (Some (read_as.boolean b)) xs e = absurd (never_ok Shape path xs e)
  list_stands (Some (read_as.number n)) xs e = absurd (never_ok Shape path xs e)
  list_stands (Some (read_as.string s)) xs e = absurd (never_ok Shape path xs e)
  list_stands (Some (read_as.object ms)) xs e = absurd (never_ok Shape path xs e)

-- a list whose names differ
pub named_formed : {A : Type 0} (read : Result (List A) Refusal) (path : List ℕ) (name : A → List ℕ) (xs : List A) → (read >>= λ ys. named path name ys) ≡ good xs → (read ≡ good xs) × Differ name xs
unfolding named distinct_at
named_formed {A = A} read path name xs e =
    let a = bind_ok read (λ ys. named path name ys) xs e in
    let b = bind_ok (distinct_at path (map name a.0)) (λ _. good a.0) xs a.2 in
    let same : a.0 ≡ xs = cc in
    (a.1 ∙ ap good same, chosen (are_distinct (map name xs)) refl (sym (ap (λ (ys : List A). distinct_at path (map name ys)) same) ∙ b.1))
  where
    chosen : (b : Bool) → are_distinct (map name xs) ≡ b → cond b fine (refused Name path) ≡ fine → are_distinct (map name xs) ≡ true
    chosen true is e = is
    chosen false is e = absurd (never_ok Name path tt e)
