-- How the lists of properties are read.
use Rattle.std.proofs.Common.{◌≡◌, ℕ, List, [], ◌∷◌, ◌++◌, Option, Some, None, Result, Ok, Err, refl, ap, ◌∙◌, codes}
use Rattle.serde_json.specs.Data.{Data, null, boolean, number, string, array, object, Items, no_items, item}
use Rattle.serde_json.specs.Find.{get, get_member}
use Rattle.pt_document.specs.declared.refusal.Refusal.{Refusal}
use Rattle.pt_document.specs.Document.{PropertyTree, property, to_properties, filled}
use Rattle.pt_document.specs.Outcome.{◌>>=◌}
use Rattle.pt_moml.specs.Fields.{listed, name_at, optional_text, items_at}
use Rattle.pt_moml.specs.Reading.{property_fields, property_from, property_at, properties_in, properties_under, properties_at, property_items, properties_field}
use Rattle.pt_moml.proofs.FoundFields.{found, under_is}
use Rattle.pt_document.proofs.Refusals.{bind_same}

abbrev Read : Type 0
Read = Result (List PropertyTree) Refusal

none : Read
none = Ok []

field_is : (path : List ℕ) (field : Option Data) → found (Ok []) (properties_at path) field ≡ properties_field path field
field_is path None = refl
field_is path (Some d) = refl

pub in_is : (path : List ℕ) (d : Data) → properties_in path d ≡ properties_field path (get (codes "properties") d)
unfolding properties_in
in_is path null = refl
in_is path (boolean b) = refl
in_is path (number n) = refl
in_is path (string s) = refl
in_is path (array ds) = refl
in_is path (object ms) =
    under_is Read (codes "properties") (Ok []) (properties_at path) (properties_under path) refl (λ k d ms. refl) ms ∙ field_is path (get_member (codes "properties") ms)

-- the items are read one by one
pub items_are : (path : List ℕ) (done : List PropertyTree) (ds : Items) → property_items path done ds ≡ items_at (property_at path) done ds
unfolding properties_in
items_are path done no_items = refl
items_are path done (item d ds) =
    ap (λ (inner : Read). property_from path d inner >>= λ p. property_items path (done ++ p ∷ []) ds) (in_is path d)
    ∙ bind_same (property_at path d) (λ p. property_items path (done ++ p ∷ []) ds) (λ p. items_at (property_at path) (done ++ p ∷ []) ds) (λ p. items_are path (done ++ p ∷ []) ds)

-- the properties in a property are read behind its other fields
abbrev pub with_inner : Read → PropertyTree → Result PropertyTree Refusal
with_inner inner p = inner >>= λ ps. Ok (filled p ps)

from_bare-by : (l : Result (Unit {0}) Refusal) (n : Result (List ℕ) Refusal) (v c : Result (Option (List ℕ)) Refusal) (inner : Read)
    → (l >>= λ _. n >>= λ name. v >>= λ value. c >>= λ class. inner >>= λ ps. Ok (property name value class (to_properties ps)))
    ≡ ((l >>= λ _. n >>= λ name. v >>= λ value. c >>= λ class. none >>= λ ps. Ok (property name value class (to_properties ps))) >>= with_inner inner)
unfolding none
from_bare-by (Err r) n v c inner = refl
from_bare-by (Ok _) (Err r) v c inner = refl
from_bare-by (Ok _) (Ok name) (Err r) c inner = refl
from_bare-by (Ok _) (Ok name) (Ok value) (Err r) inner = refl
from_bare-by (Ok _) (Ok name) (Ok value) (Ok class) inner = refl

pub from_bare : (path : List ℕ) (d : Data) (inner : Read) → property_from path d inner ≡ (property_from path d (Ok []) >>= with_inner inner)
unfolding property_from none
from_bare path d inner =
    from_bare-by (listed path property_fields d) (name_at path (get (codes "name") d)) (optional_text path (get (codes "value") d)) (optional_text path (get (codes "class") d)) inner
