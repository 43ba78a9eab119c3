-- What is refused at a field stands there, and where a field is read nothing stands.
use Rattle.std.proofs.Common.{◌≡◌, ◌⊎◌, inl, inr, List, [], ℕ, Result, Ok, Err, Option, Some, None, Bool, true, false, cond, codes, map, refl, sym, ap, ◌∙◌, subst}
use Rattle.std.specs.Prelude.{option_and_then}
use Rattle.serde_json.specs.Data.{Data, null, boolean, number, string, array, object as members_of, Items}
use Rattle.serde_json.specs.Find.{get_item, as_str, as_array, as_bool}
use Rattle.pt_document.specs.declared.code.Code.{Code}
use Rattle.pt_document.specs.declared.code.Code.TheVariants.{Shape, Name}
use Rattle.pt_document.specs.declared.refusal.Refusal.{Refusal}
use Rattle.pt_document.specs.Outcome.{◌>>=◌, refused}
use Rattle.pt_document.specs.Names.{is_name, are_distinct}
use Rattle.pt_document.specs.TypeTexts.{TypeTree, IsTextOf}
use Rattle.pt_document.specs.TypeWords.{is_type_text}
use Rattle.pt_moml.specs.Fields.{text_at, required_text, optional_text, name_at, truth_at, required_truth, optional_truth, whole, required_whole, items_at, required_list, optional_list, distinct_at}
use Rattle.pt_moml.specs.Forms as forms
use Rattle.pt_moml.specs.Forms.{Form, list, named}
use Rattle.pt_moml.specs.Reading.{declared_at, token_at}
use Rattle.pt_moml.specs.Reading.{named as named_list}
use Rattle.pt_moml.specs.Stands.{Faulty, no_text, no_name, not_a_name, no_type, not_a_type, no_truth, no_whole, no_token, no_list, in_item, in_list, same_names, as_whole, text_in, is_null}
use Rattle.pt_document.proofs.TypeLaws.{text_is_taken}
use Rattle.pt_document.proofs.TypeSound.{taken_is_text}
use Rattle.pt_document.proofs.Chains.{Is, good, is_refused, bind_err, bind_ok, never_err, never_ok, test_err, test_ok}
use Rattle.pt_moml.proofs.ItemLists.{items_told, items_clean, items_named, AreNames, not_distinct, distinct_clean}

-- no refusal stands in the value
abbrev pub Fine : Form → Data → Type 0
Fine form d = (code : Code) → Faulty code form d → ⊥

-- A value read in this form: a refusal stands there at the path, and where one is read none stands.
pub record Reads {A : Type 0} (path : List ℕ) (form : Form) (read : Result A Refusal) (d : Data) : Type 0 where
  pub told : (r : Refusal) → read ≡ Err r → (r.path ≡ path) × Faulty r.code form d
  pub clean : (a : A) → read ≡ Ok a → Fine form d

-- what a refusal at a field says
pub data AtField (r : Refusal) (is_required : Bool) (form : Form) (field : Option Data) : Type 0 where
  absent : r.code ≡ Shape → is_required ≡ true → field ≡ None → AtField r is_required form field
  within : (x : Data) → field ≡ Some x → Faulty r.code form x → AtField r is_required form field

-- nothing is refused at a field
pub record FineAt (is_required : Bool) (form : Form) (field : Option Data) : Type 0 where
  pub given : is_required ≡ true → field ≡ None → ⊥
  pub fine : (x : Data) → field ≡ Some x → Fine form x

-- A field read in this form.
pub record ReadsAt {A : Type 0} (path : List ℕ) (is_required : Bool) (form : Form) (read : Result A Refusal) (field : Option Data) : Type 0 where
  pub told : (r : Refusal) → read ≡ Err r → (r.path ≡ path) × AtField r is_required form field
  pub clean : (a : A) → read ≡ Ok a → FineAt is_required form field

-- a refusal of this cause stands where the cause does
pub moved : (r : Refusal) (code : Code) (path : List ℕ) (form : Form) (d : Data) → Is r code path → Faulty code form d → (r.path ≡ path) × Faulty r.code form d
moved r code path form d is stands = (is.1, subst (λ (c : Code). Faulty c form d) (sym is.0) stands)

-- ---- fields

fine_none : (form : Form) → FineAt false form None
fine_none form = record { given = λ h _. cc; fine = λ x h. absurd cc }

fine_some : (is_required : Bool) (form : Form) (d : Data) → Fine form d → FineAt is_required form (Some d)
fine_some is_required form d h = record { given = λ _ e. cc; fine = λ x e. let same : d ≡ x = cc in subst (Fine form) same h }

read_some : {A : Type 0} (path : List ℕ) (is_required : Bool) (form : Form) (read : Result A Refusal) (d : Data) → Reads path form read d → ReadsAt path is_required form read (Some d)
read_some path is_required form read d reads = record { told = λ r e. (let t = reads.told r e in (t.0, within d refl t.1)); clean = λ a e. fine_some is_required form d (reads.clean a e) }

read_refused : {A : Type 0} (path : List ℕ) (form : Form) (read : Result A Refusal) → read ≡ refused Shape path → ReadsAt path true form read None
read_refused path form read is = record { told = λ r e. (let t = is_refused Shape path r (sym is ∙ e) in (t.1, absent t.0 refl refl)); clean = λ a e. absurd (never_ok Shape path a (sym is ∙ e)) }

read_absent : {A : Type 0} (path : List ℕ) (form : Form) (read : Result A Refusal) (a : A) → read ≡ Ok a → ReadsAt path false form read None
read_absent path form read a is = record { told = λ r e. absurd (never_err a r (sym is ∙ e)); clean = λ _ e. fine_none form }

-- a field that has to be there
pub required_reads : {A : Type 0} (path : List ℕ) (form : Form) (read : Option Data → Result A Refusal) → read None ≡ refused Shape path → ((d : Data) → Reads path form (read (Some d)) d) → (field : Option Data) → ReadsAt path true form (read field) field
required_reads path form read none some None = read_refused path form (read None) none
required_reads path form read none some (Some d) = read_some path true form (read (Some d)) d (some d)

-- a field that may be absent
pub optional_reads : {A : Type 0} (path : List ℕ) (form : Form) (read : Option Data → Result A Refusal) (a : A) → read None ≡ Ok a → (field : Option Data) → ((d : Data) → field ≡ Some d → Reads path form (read (Some d)) d) → ReadsAt path false form (read field) field
optional_reads path form read a none None some = read_absent path form (read None) a none
optional_reads path form read a none (Some d) some = read_some path false form (read (Some d)) d (some d refl)

-- what is read is put into another form
pub then_good : {A B : Type 0} (path : List ℕ) (form : Form) (read : Result A Refusal) (d : Data) (f : A → B) → Reads path form read d → Reads path form (read >>= λ a. Ok (f a)) d
then_good path form read d f reads =
    record {
      told = λ r e. elim (bind_err read (λ a. good (f a)) r e) [ inl h ↦ reads.told r h | inr h ↦ absurd (never_err (f h.0) r h.2) ];
      clean = λ b e. (let h = bind_ok read (λ a. good (f a)) b e in reads.clean h.0 h.1);
    }

-- ---- texts, truth values and numbers

pub text_told : (path : List ℕ) (d : Data) (r : Refusal) → text_at path d ≡ Err r → Is r Shape path × (as_str d ≡ None)
text_told path (string s) r e = absurd cc
text_told path null r e = (is_refused Shape path r e, refl)
text_told path (boolean b) r e = (is_refused Shape path r e, refl)
text_told path (number n) r e = (is_refused Shape path r e, refl)
text_told path (array ds) r e = (is_refused Shape path r e, refl)
text_told path (members_of ms) r e = (is_refused Shape path r e, refl)

pub text_ok : (path : List ℕ) (d : Data) (s : List ℕ) → text_at path d ≡ Ok s → as_str d ≡ Some s
text_ok path (string t) s e = cc
text_ok path null s e = absurd cc
text_ok path (boolean b) s e = absurd cc
text_ok path (number n) s e = absurd cc
text_ok path (array ds) s e = absurd cc
text_ok path (members_of ms) s e = absurd cc

pub fine_text : (d : Data) (s : List ℕ) → as_str d ≡ Some s → Fine forms.text d
fine_text d s is code (no_text none) = cc

pub text_reads : (path : List ℕ) (d : Data) → Reads path forms.text (text_at path d) d
text_reads path d = record { told = λ r e. (let t = text_told path d r e in moved r Shape path forms.text d t.0 (no_text t.1)); clean = λ s e. fine_text d s (text_ok path d s e) }

pub required_text_reads : (path : List ℕ) (field : Option Data) → ReadsAt path true forms.text (required_text path field) field
required_text_reads path field = required_reads path forms.text (required_text path) refl (text_reads path) field

pub optional_text_reads : (path : List ℕ) (field : Option Data) → ReadsAt path false forms.text (optional_text path field) field
optional_text_reads path field = optional_reads path forms.text (optional_text path) None refl field (λ d _. then_good path forms.text (text_at path d) d Some (text_reads path d))

fine_name : (d : Data) (s : List ℕ) → as_str d ≡ Some s → is_name s ≡ true → Fine forms.name d
fine_name d s is good code (no_name none) = cc
fine_name d s is good code (not_a_name t text bad) = let same : s ≡ t = cc in let both : is_name t ≡ true = sym (ap is_name same) ∙ good in cc

name_value_reads : (path : List ℕ) (d : Data) → Reads path forms.name (name_at path (Some d)) d
unfolding name_at
name_value_reads path d =
    record {
      told = λ r e. elim (bind_err (text_at path d) (λ s. cond (is_name s) (good s) (refused Name path)) r e) [
        | inl h ↦ (let t = text_told path d r h in moved r Shape path forms.name d t.0 (no_name t.1))
        | inr h ↦ (let t = test_err (is_name h.0) h.0 Name path r h.2 in moved r Name path forms.name d t.0 (not_a_name h.0 (text_ok path d h.0 h.1) t.1))
      ];
      clean = λ s e. (let h = bind_ok (text_at path d) (λ s. cond (is_name s) (good s) (refused Name path)) s e in
          let t = test_ok (is_name h.0) h.0 s Name path h.2 in fine_name d h.0 (text_ok path d h.0 h.1) t.0);
    }

pub name_reads : (path : List ℕ) (field : Option Data) → ReadsAt path true forms.name (name_at path field) field
unfolding name_at
name_reads path field = required_reads path forms.name (name_at path) refl (name_value_reads path) field

-- the name that is read is the text that stands there
pub name_ok : (path : List ℕ) (field : Option Data) (s : List ℕ) → name_at path field ≡ Ok s → (option_and_then as_str field ≡ Some s) × (is_name s ≡ true)
unfolding name_at
name_ok path None s e = absurd cc
name_ok path (Some d) s e =
    let h = bind_ok (text_at path d) (λ s. cond (is_name s) (good s) (refused Name path)) s e in
    let t = test_ok (is_name h.0) h.0 s Name path h.2 in
    let same : h.0 ≡ s = cc in
    (text_ok path d h.0 h.1 ∙ ap Some same, sym (ap is_name same) ∙ t.0)

truth_told : (path : List ℕ) (d : Data) (r : Refusal) → truth_at path d ≡ Err r → Is r Shape path × (as_bool d ≡ None)
truth_told path (boolean b) r e = absurd cc
truth_told path null r e = (is_refused Shape path r e, refl)
truth_told path (string s) r e = (is_refused Shape path r e, refl)
truth_told path (number n) r e = (is_refused Shape path r e, refl)
truth_told path (array ds) r e = (is_refused Shape path r e, refl)
truth_told path (members_of ms) r e = (is_refused Shape path r e, refl)

pub truth_ok : (path : List ℕ) (d : Data) (b : Bool) → truth_at path d ≡ Ok b → as_bool d ≡ Some b
truth_ok path (boolean c) b e = cc
truth_ok path null b e = absurd cc
truth_ok path (string s) b e = absurd cc
truth_ok path (number n) b e = absurd cc
truth_ok path (array ds) b e = absurd cc
truth_ok path (members_of ms) b e = absurd cc

fine_truth : (d : Data) (b : Bool) → as_bool d ≡ Some b → Fine forms.truth d
fine_truth d b is code (no_truth none) = cc

truth_reads : (path : List ℕ) (d : Data) → Reads path forms.truth (truth_at path d) d
truth_reads path d = record { told = λ r e. (let t = truth_told path d r e in moved r Shape path forms.truth d t.0 (no_truth t.1)); clean = λ b e. fine_truth d b (truth_ok path d b e) }

pub required_truth_reads : (path : List ℕ) (field : Option Data) → ReadsAt path true forms.truth (required_truth path field) field
required_truth_reads path field = required_reads path forms.truth (required_truth path) refl (truth_reads path) field

pub optional_truth_reads : (path : List ℕ) (field : Option Data) → ReadsAt path false forms.truth (optional_truth path field) field
optional_truth_reads path field = optional_reads path forms.truth (optional_truth path) false refl field (λ d _. truth_reads path d)

fine_whole : (d : Data) (n : ℕ) → as_whole d ≡ Some n → Fine forms.whole d
fine_whole d n is code (no_whole none) = cc

whole_reads : (path : List ℕ) (d : Data) (o : Option ℕ) → as_whole d ≡ o → Reads path forms.whole (whole path o) d
whole_reads path d None is = record { told = λ r e. moved r Shape path forms.whole d (is_refused Shape path r e) (no_whole is); clean = λ n e. absurd (never_ok Shape path n e) }
whole_reads path d (Some n) is = record { told = λ r e. absurd (never_err n r e); clean = λ m e. fine_whole d n is }

pub required_whole_reads : (path : List ℕ) (field : Option Data) → ReadsAt path true forms.whole (required_whole path field) field
required_whole_reads path field = required_reads path forms.whole (required_whole path) refl (λ d. whole_reads path d (as_whole d) refl) field

fine_type : (d : Data) (s : List ℕ) → as_str d ≡ Some s → is_type_text s ≡ true → Fine forms.type_text d
fine_type d s is good code (no_type none) = cc
fine_type d s is good code (not_a_type t text bad) = let same : s ≡ t = cc in let h = taken_is_text t (sym (ap is_type_text same) ∙ good) in bad h.0 h.1

no_type_of : (s : List ℕ) → is_type_text s ≡ false → (t : TypeTree) → IsTextOf s t → ⊥
no_type_of s bad t is = let both : false ≡ true = sym bad ∙ text_is_taken s t is in cc

type_reads : (path : List ℕ) (d : Data) → Reads path forms.type_text (declared_at path (Some d)) d
unfolding declared_at
type_reads path d =
    record {
      told = λ r e. elim (bind_err (text_at path d) (λ s. cond (is_type_text s) (good (Some s)) (refused Shape path)) r e) [
        | inl h ↦ (let t = text_told path d r h in moved r Shape path forms.type_text d t.0 (no_type t.1))
        | inr h ↦ (let t = test_err (is_type_text h.0) (Some h.0) Shape path r h.2 in moved r Shape path forms.type_text d t.0 (not_a_type h.0 (text_ok path d h.0 h.1) (no_type_of h.0 t.1)))
      ];
      clean = λ s e. (let h = bind_ok (text_at path d) (λ s. cond (is_type_text s) (good (Some s)) (refused Shape path)) s e in
          let t = test_ok (is_type_text h.0) (Some h.0) s Shape path h.2 in fine_type d h.0 (text_ok path d h.0 h.1) t.0);
    }

pub declared_reads : (path : List ℕ) (field : Option Data) → ReadsAt path false forms.type_text (declared_at path field) field
unfolding declared_at
declared_reads path field = optional_reads path forms.type_text (declared_at path) None refl field (λ d _. type_reads path d)

fine_token : (d : Data) → ((is_null d ≡ true) ⊎ ((s : List ℕ) × (as_str d ≡ Some s))) → Fine forms.token d
fine_token d (inl h) code (no_token other none) = cc
fine_token d (inr h) code (no_token other none) = let some = h.1 in cc

pub token_reads : (path : List ℕ) (d : Data) → Reads path forms.token (token_at path d) d
token_reads path null = record { told = λ r e. absurd (never_err None r e); clean = λ t e. fine_token null (inl refl) }
token_reads path (boolean b) = record { told = λ r e. moved r Shape path forms.token (boolean b) (is_refused Shape path r e) (no_token refl refl); clean = λ t e. absurd (never_ok Shape path t e) }
token_reads path (number n) = record { told = λ r e. moved r Shape path forms.token (number n) (is_refused Shape path r e) (no_token refl refl); clean = λ t e. absurd (never_ok Shape path t e) }
token_reads path (string s) = record { told = λ r e. absurd (never_err (Some s) r e); clean = λ t e. fine_token (string s) (inr (s, refl)) }
token_reads path (array ds) = record { told = λ r e. moved r Shape path forms.token (array ds) (is_refused Shape path r e) (no_token refl refl); clean = λ t e. absurd (never_ok Shape path t e) }
token_reads path (members_of ms) = record { told = λ r e. moved r Shape path forms.token (members_of ms) (is_refused Shape path r e) (no_token refl refl); clean = λ t e. absurd (never_ok Shape path t e) }

-- ---- lists

fine_list : (form : Form) (d : Data) (ds : Items) → as_array d ≡ Some ds → ((i : ℕ) (x : Data) → get_item i ds ≡ Some x → Fine form x) → Fine (list form) d
fine_list form d ds is items code (no_list none) = cc
fine_list form d ds is items code (in_item es i x given at_i stands) = let same : es ≡ ds = cc in items i x (sym (ap (get_item i) same) ∙ at_i) code stands

-- each item of the list reads in the form
abbrev pub ItemsRead : {A : Type 0} → List ℕ → Form → (Data → Result A Refusal) → Data → Type 0
ItemsRead path form read d = (ds : Items) → as_array d ≡ Some ds → (i : ℕ) (x : Data) → get_item i ds ≡ Some x → Reads path form (read x) x

pub no_list_reads : {A : Type 0} (path : List ℕ) (form : Form) (read : Result (List A) Refusal) (d : Data) → read ≡ refused Shape path → as_array d ≡ None → Reads path (list form) read d
no_list_reads path form read d is none =
    record { told = λ r e. moved r Shape path (list form) d (is_refused Shape path r (sym is ∙ e)) (no_list none); clean = λ xs e. absurd (never_ok Shape path xs (sym is ∙ e)) }

pub items_read : {A : Type 0} (path : List ℕ) (form : Form) (read : Data → Result A Refusal) (ds : Items) → ItemsRead path form read (array ds) → Reads path (list form) (items_at read [] ds) (array ds)
items_read path form read ds items =
    record {
      told = λ r e. (let t = items_told read [] ds r e in let s = (items ds refl t.0 t.1 t.2).told r t.3 in (s.0, in_item ds t.0 t.1 refl t.2 s.1));
      clean = λ xs e. fine_list form (array ds) ds refl (λ i x at_i. (let t = items_clean read [] ds xs e i x at_i in (items ds refl i x at_i).clean t.0 t.1));
    }

pub required_list_value : {A : Type 0} (path : List ℕ) (form : Form) (read : List ℕ → Data → Result A Refusal) (d : Data) → ItemsRead path form (read path) d → Reads path (list form) (required_list read path (Some d)) d
unfolding required_list
required_list_value path form read null items = no_list_reads path form _ null refl refl
required_list_value path form read (boolean b) items = no_list_reads path form _ (boolean b) refl refl
required_list_value path form read (number n) items = no_list_reads path form _ (number n) refl refl
required_list_value path form read (string s) items = no_list_reads path form _ (string s) refl refl
required_list_value path form read (array ds) items = items_read path form (read path) ds items
required_list_value path form read (members_of ms) items = no_list_reads path form _ (members_of ms) refl refl

pub optional_list_value : {A : Type 0} (path : List ℕ) (form : Form) (read : List ℕ → Data → Result A Refusal) (d : Data) → ItemsRead path form (read path) d → Reads path (list form) (optional_list read path (Some d)) d
unfolding optional_list
optional_list_value path form read null items = no_list_reads path form _ null refl refl
optional_list_value path form read (boolean b) items = no_list_reads path form _ (boolean b) refl refl
optional_list_value path form read (number n) items = no_list_reads path form _ (number n) refl refl
optional_list_value path form read (string s) items = no_list_reads path form _ (string s) refl refl
optional_list_value path form read (array ds) items = items_read path form (read path) ds items
optional_list_value path form read (members_of ms) items = no_list_reads path form _ (members_of ms) refl refl

pub required_list_reads : {A : Type 0} (path : List ℕ) (form : Form) (read : List ℕ → Data → Result A Refusal) → ((d : Data) → Reads path form (read path d) d) → (field : Option Data) → ReadsAt path true (list form) (required_list read path field) field
unfolding required_list
required_list_reads path form read items field = required_reads path (list form) (required_list read path) refl (λ d. required_list_value path form read d (λ ds is i x at_i. items x)) field

pub optional_list_reads : {A : Type 0} (path : List ℕ) (form : Form) (read : List ℕ → Data → Result A Refusal) → ((d : Data) → Reads path form (read path d) d) → (field : Option Data) → ReadsAt path false (list form) (optional_list read path field) field
unfolding optional_list
optional_list_reads path form read items field = optional_reads path (list form) (optional_list read path) [] refl field (λ d _. optional_list_value path form read d (λ ds is i x at_i. items x))

-- ---- lists of names that differ

-- the name of what is read is the text that stands there
abbrev pub NamesRead : {A : Type 0} → (Data → Result A Refusal) → (A → List ℕ) → Type 0
NamesRead {A} read name = (x : Data) (a : A) → read x ≡ Ok a → text_in (codes "name") x ≡ Some (name a)

fine_named : (form : Form) (d : Data) (ds : Items) (ns : List (List ℕ)) → as_array d ≡ Some ds → Fine (list form) d → AreNames ns ds → are_distinct ns ≡ true → Fine (named form) d
fine_named form d ds ns is items names differ code (in_list stands) = items code stands
fine_named form d ds ns is items names differ code (same_names es given repeated) =
    let same : es ≡ ds = cc in distinct_clean ns es (subst (AreNames ns) (sym same) names) differ repeated

-- a list that reads in the form, and then has to have names that differ
pub named_value : {A : Type 0} (path : List ℕ) (form : Form) (read : Data → Result A Refusal) (name : A → List ℕ) (m : Result (List A) Refusal) (ds : Items) → m ≡ items_at read [] ds → NamesRead read name → Reads path (list form) m (array ds) → Reads path (named form) (m >>= λ xs. named_list path name xs) (array ds)
unfolding named_list distinct_at
named_value path form read name m ds is names reads =
    record {
      told = λ r e. elim (bind_err m (λ xs. named_list path name xs) r e) [
        | inl h ↦ (let t = reads.told r h in (t.0, in_list t.1))
        | inr h ↦ elim (bind_err (distinct_at path (map name h.0)) (λ _. good h.0) r h.2) [
          | inl g ↦ (let t = test_err (are_distinct (map name h.0)) tt Name path r g in
              let s = items_named read name names [] ds h.0 (sym is ∙ h.1) in
              moved r Name path (named form) (array ds) t.0 (same_names ds refl (not_distinct (map name h.0) ds (subst (λ ys. AreNames (map name ys) ds) (sym s.1) s.2) t.1)))
          | inr g ↦ absurd (never_err h.0 r g.2)
        ]
      ];
      clean = λ ys e. (let h = bind_ok m (λ xs. named_list path name xs) ys e in
          let g = bind_ok (distinct_at path (map name h.0)) (λ _. good h.0) ys h.2 in
          let t = test_ok (are_distinct (map name h.0)) tt g.0 Name path g.1 in
          let s = items_named read name names [] ds h.0 (sym is ∙ h.1) in
          fine_named form (array ds) ds (map name h.0) refl (reads.clean h.0 h.1) (subst (λ ys. AreNames (map name ys) ds) (sym s.1) s.2) t.0);
    }

-- what isn't a list isn't one of names that differ
pub no_named_reads : {A : Type 0} (path : List ℕ) (form : Form) (read : Result (List A) Refusal) (d : Data) → read ≡ refused Shape path → as_array d ≡ None → Reads path (named form) read d
no_named_reads path form read d is none =
    record { told = λ r e. (let t = (no_list_reads path form read d is none).told r e in (t.0, in_list t.1)); clean = λ xs e. absurd (never_ok Shape path xs (sym is ∙ e)) }

required_named_value : {A : Type 0} (path : List ℕ) (form : Form) (read : List ℕ → Data → Result A Refusal) (name : A → List ℕ) → ((d : Data) → Reads path form (read path d) d) → NamesRead (read path) name → (d : Data) → Reads path (named form) (required_list read path (Some d) >>= λ xs. named_list path name xs) d
unfolding required_list
required_named_value path form read name items names null = no_named_reads path form _ null refl refl
required_named_value path form read name items names (boolean b) = no_named_reads path form _ (boolean b) refl refl
required_named_value path form read name items names (number n) = no_named_reads path form _ (number n) refl refl
required_named_value path form read name items names (string s) = no_named_reads path form _ (string s) refl refl
required_named_value path form read name items names (array ds) = named_value path form (read path) name (items_at (read path) [] ds) ds refl names (items_read path form (read path) ds (λ es is i x at_i. items x))
required_named_value path form read name items names (members_of ms) = no_named_reads path form _ (members_of ms) refl refl

optional_named_value : {A : Type 0} (path : List ℕ) (form : Form) (read : List ℕ → Data → Result A Refusal) (name : A → List ℕ) → ((d : Data) → Reads path form (read path d) d) → NamesRead (read path) name → (d : Data) → Reads path (named form) (optional_list read path (Some d) >>= λ xs. named_list path name xs) d
unfolding optional_list
optional_named_value path form read name items names null = no_named_reads path form _ null refl refl
optional_named_value path form read name items names (boolean b) = no_named_reads path form _ (boolean b) refl refl
optional_named_value path form read name items names (number n) = no_named_reads path form _ (number n) refl refl
optional_named_value path form read name items names (string s) = no_named_reads path form _ (string s) refl refl
optional_named_value path form read name items names (array ds) = named_value path form (read path) name (items_at (read path) [] ds) ds refl names (items_read path form (read path) ds (λ es is i x at_i. items x))
optional_named_value path form read name items names (members_of ms) = no_named_reads path form _ (members_of ms) refl refl

pub required_named_reads : {A : Type 0} (path : List ℕ) (form : Form) (read : List ℕ → Data → Result A Refusal) (name : A → List ℕ) → ((d : Data) → Reads path form (read path d) d) → NamesRead (read path) name → (field : Option Data) → ReadsAt path true (named form) (required_list read path field >>= λ xs. named_list path name xs) field
unfolding required_list
required_named_reads path form read name items names field =
    required_reads path (named form) (λ f. required_list read path f >>= λ xs. named_list path name xs) refl (required_named_value path form read name items names) field

pub optional_named_reads : {A : Type 0} (path : List ℕ) (form : Form) (read : List ℕ → Data → Result A Refusal) (name : A → List ℕ) → ((d : Data) → Reads path form (read path d) d) → NamesRead (read path) name → (field : Option Data) → ReadsAt path false (named form) (optional_list read path field >>= λ xs. named_list path name xs) field
unfolding optional_list named_list distinct_at
optional_named_reads path form read name items names field =
    optional_reads path (named form) (λ f. optional_list read path f >>= λ xs. named_list path name xs) [] refl field (λ d _. optional_named_value path form read name items names d)

-- ---- what a required text and a name that are refused say

pub required_text_told : (path : List ℕ) (field : Option Data) (r : Refusal) → required_text path field ≡ Err r → Is r Shape path × (option_and_then as_str field ≡ None)
required_text_told path None r e = (is_refused Shape path r e, refl)
required_text_told path (Some d) r e = text_told path d r e

pub required_text_ok : (path : List ℕ) (field : Option Data) (s : List ℕ) → required_text path field ≡ Ok s → option_and_then as_str field ≡ Some s
required_text_ok path None s e = absurd cc
required_text_ok path (Some d) s e = text_ok path d s e

pub name_told : (path : List ℕ) (field : Option Data) (r : Refusal) → name_at path field ≡ Err r → (Is r Shape path × (option_and_then as_str field ≡ None)) ⊎ ((s : List ℕ) × (option_and_then as_str field ≡ Some s) × (is_name s ≡ false) × Is r Name path)
unfolding name_at
name_told path field r e =
    elim (bind_err (required_text path field) (λ s. cond (is_name s) (good s) (refused Name path)) r e) [
      | inl h ↦ inl (required_text_told path field r h)
      | inr h ↦ (let t = test_err (is_name h.0) h.0 Name path r h.2 in inr (h.0, required_text_ok path field h.0 h.1, t.1, t.0))
    ]
