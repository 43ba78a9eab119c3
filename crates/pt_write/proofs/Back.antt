-- What is written at a field is read back there.
use Rattle.std.proofs.Common.{◌≡◌, ℕ, List, [], ◌∷◌, ◌++◌, Option, Some, None, Bool, true, false, cond, Result, refl, sym, ap, ◌∙◌, append_assoc, append-nil, if◌then◌else◌}
use Rattle.std.specs.List.{AllByRecursion}
use Rattle.serde_json.specs.Data.{Data, Items, no_items, item}
use Rattle.serde_json.specs.Data as read_as
use Rattle.serde_json.specs.Find.{get}
use Rattle.pt_document.specs.declared.refusal.Refusal.{Refusal}
use Rattle.pt_document.specs.Names.{is_name, is_among}
use Rattle.pt_document.specs.Outcome.{◌>>=◌}
use Rattle.pt_document.proofs.Chains.{good, bind_ok}
use Rattle.pt_moml.specs.Fields.{optional_text, name_at, optional_truth, items_at, listed, required_list, optional_list, distinct_at}
use Rattle.pt_moml.specs.Reading.{named}
use Rattle.pt_write.specs.Written.{Value, Fields, no_fields, field, object, data_of, items_of}
use Rattle.pt_write.specs.Document as written
use Rattle.pt_write.specs.Document.{values}
use Rattle.pt_write.specs.Form.{IsSlotAmong, AreFieldsAmong, Differ}
use Rattle.pt_write.proofs.Members.{slot_data, over, found, get-object, listed-object, slot_among}

-- ---- fields

-- what a field is read as, if what is found there is
pub at : {A : Type 0} (read : Option Data → Result A Refusal) (k : List ℕ) (fs : Fields) (a : A) → read (found k fs None) ≡ good a → read (get k (data_of (object fs))) ≡ good a
at read k fs a e = ap read (get-object k fs) ∙ e

pub name_back : (path s : List ℕ) → is_name s ≡ true → name_at path (Some (read_as.string s)) ≡ good s
unfolding name_at
name_back path s h = rw h refl

pub optional_text_back : (path : List ℕ) (o : Option (List ℕ)) → optional_text path (over (slot_data (written.optional_text o)) None) ≡ good o
optional_text_back path None = refl
optional_text_back path (Some s) = refl

pub optional_truth_back : (path : List ℕ) (b : Bool) → optional_truth path (over (slot_data (written.optional_truth b)) None) ≡ good b
optional_truth_back path false = refl
optional_truth_back path true = refl

-- ---- lists

-- these are the items, read one by one
abbrev pub AreRead : {A : Type 0} → (Data → Result A Refusal) → Items → List A → Type 0
AreRead read no_items [] = Unit {0}
AreRead read no_items (x ∷ xs) = ⊥
AreRead read (item d ds) [] = ⊥
AreRead read (item d ds) (x ∷ xs) = (read d ≡ good x) × AreRead read ds xs

pub items_back : {A : Type 0} (read : Data → Result A Refusal) (done : List A) (ds : Items) (xs : List A) → AreRead read ds xs → items_at read done ds ≡ good (done ++ xs)
items_back read done no_items [] h = ap good (sym (append-nil done))
items_back read done no_items (x ∷ xs) h = absurd h
items_back read done (item d ds) [] h = absurd h
items_back {A = A} read done (item d ds) (x ∷ xs) h =
    ap (λ (r : Result A Refusal). r >>= λ y. items_at read (done ++ y ∷ []) ds) h.0
    ∙ items_back read (done ++ x ∷ []) ds xs h.1 ∙ ap good (append_assoc done (x ∷ []) xs)

-- items that are read are read one by one
pub are_read : {A : Type 0} (read : Data → Result A Refusal) (done : List A) (ds : Items) (xs : List A) → items_at read done ds ≡ good xs → (ys : List A) × (xs ≡ done ++ ys) × AreRead read ds ys
are_read read done no_items xs e = let same : done ≡ xs = cc in ([], sym same ∙ sym (append-nil done), tt)
are_read read done (item d ds) xs e =
    let h = bind_ok (read d) (λ x. items_at read (done ++ x ∷ []) ds) xs e in
    let t = are_read read (done ++ h.0 ∷ []) ds xs h.2 in
    (h.0 ∷ t.0, t.1 ∙ append_assoc done (h.0 ∷ []) t.0, (h.1, t.2))

-- written items are read one by one
pub written_read : {A : Type 0} (read : Data → Result A Refusal) (value : A → Value) (form : A → Type 0) → ((a : A) → form a → read (data_of (value a)) ≡ good a) → (xs : List A) → AllByRecursion form xs → AreRead read (items_of (values value xs)) xs
written_read read value form one [] h = tt
written_read read value form one (x ∷ xs) h = (one x h.0, written_read read value form one xs h.1)

pub optional_list_back : {A : Type 0} (read : List ℕ → Data → Result A Refusal) (value : A → Value) (path : List ℕ) (xs : List A) → AreRead (read path) (items_of (values value xs)) xs
    → optional_list read path (over (slot_data (written.optional_list (values value xs))) None) ≡ good xs
unfolding optional_list
optional_list_back read value path [] h = refl
optional_list_back read value path (x ∷ xs) h = items_back (read path) [] (items_of (values value (x ∷ xs))) (x ∷ xs) h

pub list_back : {A : Type 0} (read : List ℕ → Data → Result A Refusal) (value : A → Value) (path : List ℕ) (xs : List A) → AreRead (read path) (items_of (values value xs)) xs
    → required_list read path (slot_data (written.list_slot (values value xs))) ≡ good xs
unfolding required_list
list_back read value path xs h = items_back (read path) [] (items_of (values value xs)) xs h

pub named_back : {A : Type 0} (path : List ℕ) (name : A → List ℕ) (xs : List A) → Differ name xs → named path name xs ≡ good xs
unfolding named distinct_at
named_back path name xs h = rw h refl

-- a list whose names differ
pub then_named : {A : Type 0} (read : Result (List A) Refusal) (path : List ℕ) (name : A → List ℕ) (xs : List A) → read ≡ good xs → Differ name xs → (read >>= λ ys. named path name ys) ≡ good xs
then_named {A = A} read path name xs e h = ap (λ (r : Result (List A) Refusal). r >>= λ ys. named path name ys) e ∙ named_back path name xs h

-- ---- objects whose keys are all listed

abbrev pub are_listed : List (List ℕ) → Fields → Bool
are_listed keys no_fields = true
are_listed keys (field k slot fs) = if is_among keys k then are_listed keys fs else false

pub all_among : (keys : List (List ℕ)) (fs : Fields) → are_listed keys fs ≡ true → AreFieldsAmong keys fs
all_among keys no_fields h = tt
all_among keys (field k slot fs) h = chosen (is_among keys k) refl (all_among keys fs) h
  where
    chosen : (b : Bool) → is_among keys k ≡ b → (are_listed keys fs ≡ true → AreFieldsAmong keys fs) → cond b (are_listed keys fs) false ≡ true → IsSlotAmong keys k slot × AreFieldsAmong keys fs
    chosen true is rest h = (slot_among keys k slot is, rest h)
    chosen false is rest h = absurd cc

-- such an object has only these fields
pub all_listed : (path : List ℕ) (keys : List (List ℕ)) (fs : Fields) → are_listed keys fs ≡ true → listed path keys (data_of (object fs)) ≡ good tt
all_listed path keys fs h = listed-object path keys fs (all_among keys fs h)
