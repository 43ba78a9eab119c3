-- Reading the text of a type word by word.
use Rattle.std.specs.Prelude.{ℕ, suc, zero, ◌+◌, ◌==◌, List, [], ◌∷◌, ◌++◌, length, take, drop, reverse, map, Bool, true, false, codes, Option, Some, None, if◌then◌else◌}
use Rattle.std.specs.List.{prefix_len}
use Rattle.std.specs.Borrow.{Bor}
use Rattle.std.specs.declared.hash.DefaultHasher.{DefaultHasher}
use Rattle.std.specs.declared.hash.BuildHasherDefault.{BuildHasherDefault}
use Rattle.indexmap.specs.IndexSet.{IndexSet}
use Rattle.pt_document.specs.declared.type_text.Open.{Open as Given}
use Rattle.pt_document.specs.declared.type_text.Open.TheVariants as given
use Rattle.pt_document.specs.declared.type_text.Place.{Place as GivenPlace}
use Rattle.pt_document.specs.declared.type_text.Next.{Next as GivenNext}
use Rattle.pt_document.specs.declared.type_text.Next.TheVariants as given_next
use Rattle.pt_document.specs.Names.{is_later, has_name}
use Rattle.pt_document.specs.TypeTexts.{is_field_name}

-- what is open round a place: the bracket of an array, or that of a record with the names so far
pub data Open : Type 0 where
  in_array : Open
  in_record : List (List ℕ) → Open

-- a place in a text: whether a type is wanted there, what is open round it, innermost first, and what is left
pub record Place : Type 0 where
  pub wants_type : Bool
  pub around : List Open
  pub rest : List ℕ

-- where reading goes on, or whether the text that ends is that of a type
pub data Next : Type 0 where
  Goes : Place → Next
  Ends : Bool → Next

-- what is left behind a word
abbrev pub behind : List ℕ → List ℕ → Option (List ℕ)
behind [] text = Some text
behind (c ∷ word) [] = None
behind (c ∷ word) (x ∷ text) = if x == c then behind word text else None

abbrev pub goes_or : (wants_type : Bool) → List Open → Option (List ℕ) → Next → Next
goes_or wants_type around None other = other
goes_or wants_type around (Some rest) other = Goes (record { wants_type = wants_type; around = around; rest = rest })

-- the names of a record with one more, where it is a new one
abbrev pub one_more : List (List ℕ) → List ℕ → Option (List (List ℕ))
one_more names name = if is_field_name name then (if has_name names name then None else Some (names ++ name ∷ [])) else None

abbrev pub named_or : List Open → Option (List (List ℕ)) → List ℕ → Next
named_or around None rest = Ends false
named_or around (Some names) rest = goes_or true (in_record names ∷ around) (behind (codes " = ") rest) (Ends false)

-- a field of a record with these names before it
unfoldable pub field : List (List ℕ) → List Open → List ℕ → Next
field names around text = named_or around (one_more names (take (prefix_len is_later text) text)) (drop (prefix_len is_later text) text)

abbrev pub field_or : List (List ℕ) → List Open → Option (List ℕ) → Next
field_or names around None = Ends false
field_or names around (Some rest) = field names around rest

-- what is left behind one or another
abbrev pub or_behind : Option (List ℕ) → Option (List ℕ) → Option (List ℕ)
or_behind None other = other
or_behind (Some rest) other = Some rest

abbrev pub behind_base : List ℕ → Option (List ℕ)
behind_base text = or_behind (behind (codes "int") text) (or_behind (behind (codes "boolean") text) (behind (codes "string") text))

-- where a type begins
unfoldable pub begin : List Open → List ℕ → Next
begin around text = goes_or false around (behind_base text) (goes_or true (in_array ∷ around) (behind (codes "arrayType(") text) (field_or [] around (behind (codes "{") text)))

-- behind a type in a record with these names
abbrev pub behind_field : List (List ℕ) → List Open → List ℕ → Next
behind_field names around text = goes_or false around (behind (codes "}") text) (field_or names around (behind (codes ", ") text))

abbrev pub is_nothing : List ℕ → Bool
is_nothing [] = true
is_nothing (c ∷ cs) = false

-- behind a type
unfoldable pub go_on : List Open → List ℕ → Next
go_on [] text = Ends (is_nothing text)
go_on (in_array ∷ around) text = goes_or false around (behind (codes ")") text) (Ends false)
go_on (in_record names ∷ around) text = behind_field names around text

abbrev pub step : Place → Next
step place = if place.wants_type then begin place.around place.rest else go_on place.around place.rest

abbrev pub from_next : (Place → Bool) → Next → Bool
from_next goes (Goes place) = goes place
from_next goes (Ends is_type) = is_type

-- so many words lead to the end of a type's text
unfoldable pub leads : ℕ → Place → Bool
leads zero place = false
leads (suc n) place = from_next (λ p. leads n p) (step place)

-- The text is that of a type. Each word but the last takes a byte at least.
unfoldable pub is_type_text : List ℕ → Bool
is_type_text text = leads (length text + 1) (record { wants_type = true; around = []; rest = text })

-- ---- as the program holds them

abbrev Names : Type 0
Names = IndexSet (Bor (List ℕ)) (BuildHasherDefault DefaultHasher)

abbrev pub names_view : Names → List (List ℕ)
names_view names = map (λ n. n.now) names.keys

abbrev pub open_view : Given → Open
open_view given.Array = in_array
open_view (given.Record names) = in_record (names_view names)

-- the program has the innermost one last
abbrev pub stack_view : List Given → List Open
stack_view around = reverse (map open_view around)

abbrev pub place_view : GivenPlace → Place
place_view p = record { wants_type = p.wants_type; around = stack_view p.around.items; rest = p.rest.now }

abbrev pub next_view : GivenNext → Next
next_view (given_next.Goes place) = Goes (place_view place)
next_view (given_next.Ends is_type) = Ends is_type
