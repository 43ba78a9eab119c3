-- By hand: types of texts.
use Rattle.std.proofs.Common.{◌≡◌, Some, None, refl}
use Rattle.std.specs.Prelude.{codes}
use Rattle.pt_document.specs.Names.{is_name}
use Rattle.pt_document.specs.TypeTexts.{is_field_name}
use Rattle.pt_datatypes.specs.Datatype.{Int, Boolean, Words, Array, Record, no_fields, field_then}
use Rattle.pt_said.specs.SaidWords.{field, begin, go_on, leads, type_in}

array_of_texts : type_in (codes "arrayType(string)") ≡ Some (Array Words)
unfolding type_in leads begin go_on
array_of_texts = refl

-- fields stand in the order of their names
two_fields : type_in (codes "{b = int, a = arrayType(boolean)}") ≡ Some (Record (field_then (codes "a") (Array Boolean) (field_then (codes "b") Int no_fields)))
unfolding type_in leads begin go_on field is_field_name is_name
two_fields = refl

-- a name that stands there twice, a blank too many, and a bracket that isn't closed
repeated_name : type_in (codes "{a = int, a = int}") ≡ None
unfolding type_in leads begin go_on field is_field_name is_name
repeated_name = refl

blank : type_in (codes "arrayType( int)") ≡ None
unfolding type_in leads begin go_on
blank = refl

unclosed : type_in (codes "arrayType(int") ≡ None
unfolding type_in leads begin go_on
unclosed = refl
