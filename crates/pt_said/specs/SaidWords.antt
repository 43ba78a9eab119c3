-- Reading the type that a text says word by word. The words are those of the check in pt_document, and types go along with them.
use Rattle.std.specs.Prelude.{◌≡◌, ℕ, zero, suc, ◌+◌, List, [], ◌∷◌, ◌++◌, length, take, drop, reverse, map, option_map, codes, Option, Some, None, if◌then◌else◌}
use Rattle.std.specs.List.{prefix_len}
use Rattle.std.specs.Borrow.{Bor}
use Rattle.std.specs.declared.hash.DefaultHasher.{DefaultHasher}
use Rattle.std.specs.declared.hash.BuildHasherDefault.{BuildHasherDefault}
use Rattle.indexmap.specs.IndexSet.{IndexSet}
use Rattle.pt_document.specs.Names.{is_later}
use Rattle.pt_document.specs.TypeTexts.{TypeTree, IsTextOf}
use Rattle.pt_document.specs.TypeWords.{behind, one_more, is_nothing}
use Rattle.pt_datatypes.specs.Datatype.{Datatype, Int, Boolean, Words}
use Rattle.pt_datatypes.specs.Normal.{array_of}
use Rattle.pt_types.specs.Ty.{type_of}
use Rattle.pt_types.specs.Entry.{typed_entry}
use Rattle.pt_language.specs.Typing.{or_general}
use Rattle.pt_language.specs.TreeType.{recorded}
use Rattle.pt_said.specs.declared.said.Open.{Open as GivenOpen}
use Rattle.pt_said.specs.declared.said.Open.TheVariants as given
use Rattle.pt_said.specs.declared.said.Place.{Place as GivenPlace}
use Rattle.pt_said.specs.declared.said.Next.{Next as GivenNext}
use Rattle.pt_said.specs.declared.said.Next.TheVariants as given_next
use Rattle.pt_inequalities.specs.Typing.{said}

-- the type that a text says
pub record Says (text : List ℕ) (t : Datatype) : Type 0 where
  pub read : TypeTree
  pub reads : IsTextOf text read
  pub says : t ≡ said read

-- ---- word by word

abbrev pub Fields : Type 0
Fields = List (List ℕ × Datatype)

-- what is open round a place: the bracket of an array, or that of a record with its names so far, the fields that are read, and
-- the name of the one that is being read
pub data Open : Type 0 where
  in_array : Open
  in_record : List (List ℕ) → Fields → List ℕ → Open

-- a place in a text: the type that was read just before it, or none where a type is wanted, what is open round it, innermost
-- first, and what is left
pub record Place : Type 0 where
  pub ty : Option Datatype
  pub around : List Open
  pub rest : List ℕ

-- where reading goes on, or the type of the text that ends, if it has one
pub data Next : Type 0 where
  Goes : Place → Next
  Ends : Option Datatype → Next

abbrev pub goes_or : Option Datatype → List Open → Option (List ℕ) → Next → Next
goes_or ty around None other = other
goes_or ty around (Some rest) other = Goes (record { ty = ty; around = around; rest = rest })

abbrev pub named_or : Fields → List Open → List ℕ → Option (List (List ℕ)) → List ℕ → Next
named_or fields around name None rest = Ends None
named_or fields around name (Some names) rest = goes_or None (in_record names fields name ∷ around) (behind (codes " = ") rest) (Ends None)

-- one more field of a record that has these names and fields before it
unfoldable pub field : List (List ℕ) → Fields → List Open → List ℕ → Next
field names fields around text = named_or fields around (take (prefix_len is_later text) text) (one_more names (take (prefix_len is_later text) text)) (drop (prefix_len is_later text) text)

abbrev pub field_or : List (List ℕ) → Fields → List Open → Option (List ℕ) → Next
field_or names fields around None = Ends None
field_or names fields around (Some rest) = field names fields around rest

-- a base type, and what is left behind it
abbrev pub Base : Type 0
Base = Option (Datatype × List ℕ)

abbrev pub base_or : Datatype → Option (List ℕ) → Base → Base
base_or t None other = other
base_or t (Some rest) other = Some (t, rest)

abbrev pub base : List ℕ → Base
base text = base_or Int (behind (codes "int") text) (base_or Boolean (behind (codes "boolean") text) (base_or Words (behind (codes "string") text) None))

abbrev pub after_base_or : List Open → Base → Next → Next
after_base_or around None other = other
after_base_or around (Some b) other = Goes (record { ty = Some b.0; around = around; rest = b.1 })

-- where a type begins that is no base type
abbrev pub begin_nested : List Open → List ℕ → Next
begin_nested around text = goes_or None (in_array ∷ around) (behind (codes "arrayType(") text) (field_or [] [] around (behind (codes "{") text))

-- where a type begins
unfoldable pub begin : List Open → List ℕ → Next
begin around text = after_base_or around (base text) (begin_nested around text)

-- the record of these fields
abbrev pub record_said : Fields → Datatype
record_said fields = or_general (recorded fields)

-- behind the type of the last of these fields
abbrev pub behind_field : List (List ℕ) → Fields → List Open → List ℕ → Next
behind_field names fields around text = goes_or (Some (record_said fields)) around (behind (codes "}") text) (field_or names fields around (behind (codes ", ") text))

abbrev pub type_if_nothing : Datatype → List ℕ → Option Datatype
type_if_nothing t text = if is_nothing text then Some t else None

-- behind a type
unfoldable pub go_on : Datatype → List Open → List ℕ → Next
go_on t [] text = Ends (type_if_nothing t text)
go_on t (in_array ∷ around) text = goes_or (Some (array_of t)) around (behind (codes ")") text) (Ends None)
go_on t (in_record names fields name ∷ around) text = behind_field names (fields ++ (name, t) ∷ []) around text

abbrev pub step_at : Option Datatype → List Open → List ℕ → Next
step_at None around text = begin around text
step_at (Some t) around text = go_on t around text

abbrev pub step : Place → Next
step place = step_at place.ty place.around place.rest

abbrev pub from_next : (Place → Option Datatype) → Next → Option Datatype
from_next goes (Goes place) = goes place
from_next goes (Ends t) = t

-- the type of the text, where so many words lead to its end
unfoldable pub leads : ℕ → Place → Option Datatype
leads zero place = None
leads (suc n) place = from_next (λ p. leads n p) (step place)

-- The type of a text, read word by word. Each word but the last takes a byte at least.
unfoldable pub type_in : List ℕ → Option Datatype
type_in text = leads (length text + 1) (record { ty = None; around = []; rest = text })

-- ---- as the program holds them

abbrev Names : Type 0
Names = IndexSet (Bor (List ℕ)) (BuildHasherDefault DefaultHasher)

abbrev pub names_view : Names → List (List ℕ)
names_view names = map (λ n. n.now) names.keys

abbrev pub open_view : GivenOpen → Open
open_view given.Array = in_array
open_view (given.Record r) = in_record (names_view r.names) (map typed_entry r.fields.items) r.name.now

-- the program has the innermost one last
abbrev pub stack_view : List GivenOpen → List Open
stack_view around = reverse (map open_view around)

abbrev pub place_view : GivenPlace → Place
place_view p = record { ty = option_map type_of p.ty; around = stack_view p.around.items; rest = p.rest.now }

abbrev pub next_view : GivenNext → Next
next_view (given_next.Goes place) = Goes (place_view place)
next_view (given_next.Ends t) = Ends (option_map type_of t)
