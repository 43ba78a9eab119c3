-- Reading what stands at a field.
use Rattle.std.specs.Prelude.{ℕ, List, [], ◌∷◌, ◌++◌, Bool, true, false, Option, Some, None, option_and_then, Result, Ok, if◌then◌else◌}
use Rattle.serde_json.specs.Data.{Data, boolean, string, array, object, Items, no_items, item, Members, no_members, member}
use Rattle.serde_json.specs.Find.{as_number, as_u64}
use Rattle.pt_document.specs.declared.code.Code.TheVariants.{Shape, Name}
use Rattle.pt_document.specs.declared.refusal.Refusal.{Refusal}
use Rattle.pt_document.specs.Names.{is_name, is_among, are_distinct}
use Rattle.pt_document.specs.Outcome.{◌>>=◌, refused}

-- ---- single values

abbrev pub text_at : List ℕ → Data → Result (List ℕ) Refusal
text_at path (string s) = Ok s
text_at path _ = refused Shape path

abbrev pub required_text : List ℕ → Option Data → Result (List ℕ) Refusal
required_text path None = refused Shape path
required_text path (Some d) = text_at path d

abbrev pub optional_text : List ℕ → Option Data → Result (Option (List ℕ)) Refusal
optional_text path None = Ok None
optional_text path (Some d) = text_at path d >>= λ s. Ok (Some s)

-- a name of the form
unfoldable pub name_at : List ℕ → Option Data → Result (List ℕ) Refusal
name_at path field = required_text path field >>= λ s. if is_name s then Ok s else refused Name path

abbrev pub truth_at : List ℕ → Data → Result Bool Refusal
truth_at path (boolean b) = Ok b
truth_at path _ = refused Shape path

abbrev pub required_truth : List ℕ → Option Data → Result Bool Refusal
required_truth path None = refused Shape path
required_truth path (Some d) = truth_at path d

-- an absent truth value is false
abbrev pub optional_truth : List ℕ → Option Data → Result Bool Refusal
optional_truth path None = Ok false
optional_truth path (Some d) = truth_at path d

-- a whole number of at most 64 bits
abbrev pub whole : List ℕ → Option ℕ → Result ℕ Refusal
whole path None = refused Shape path
whole path (Some n) = Ok n

abbrev pub required_whole : List ℕ → Option Data → Result ℕ Refusal
required_whole path field = whole path (option_and_then as_u64 (option_and_then as_number field))

-- ---- objects

-- each field is one of these
abbrev pub has_only : List (List ℕ) → Members → Bool
has_only keys no_members = true
has_only keys (member k d ms) = if is_among keys k then has_only keys ms else false

abbrev pub listed : List ℕ → List (List ℕ) → Data → Result (Unit {0}) Refusal
listed path keys (object ms) = if has_only keys ms then Ok tt else refused Shape path
listed path keys _ = refused Shape path

-- ---- lists

-- the items in order, behind those that are done
abbrev pub items_at : {A : Type 0} → (Data → Result A Refusal) → List A → Items → Result (List A) Refusal
items_at read done no_items = Ok done
items_at read done (item d ds) = read d >>= λ x. items_at read (done ++ x ∷ []) ds

unfoldable pub required_list : {A : Type 0} → (List ℕ → Data → Result A Refusal) → List ℕ → Option Data → Result (List A) Refusal
required_list read path (Some (array ds)) = items_at (read path) [] ds
required_list read path _ = refused Shape path

-- an absent list is empty
unfoldable pub optional_list : {A : Type 0} → (List ℕ → Data → Result A Refusal) → List ℕ → Option Data → Result (List A) Refusal
optional_list read path None = Ok []
optional_list read path (Some (array ds)) = items_at (read path) [] ds
optional_list read path _ = refused Shape path

-- the names of a list differ
unfoldable pub distinct_at : List ℕ → List (List ℕ) → Result (Unit {0}) Refusal
distinct_at path names = if are_distinct names then Ok tt else refused Name path
