-- What a contract sees of a property's fields.
use Rattle.std.proofs.Common.{◌≡◌, ℕ, List, Some, sym, ap, ◌∙◌, rules}
use Rattle.pt_document.specs.declared.job.Property.{Property, out-Property, the_lemmas}
use Rattle.pt_document.specs.Document.{to_properties, property_list, property_class, inner_properties}
use Rattle.pt_document.specs.Classes.{DirectorClass, director_row}
use Rattle.pt_moml.specs.Rules.{classed_fits, director_fits, parameters_fit}
use Rattle.pt_document.specs.View.{property_view, properties_view}
use Rattle.pt_document.proofs.Trees.{property_list_of}

class-view : (p : Property) → property_class (property_view p) ≡ (out-Property p).class
class-view p = search (rules, the_lemmas)

inner-view : (p : Property) → inner_properties (property_view p) ≡ property_list (to_properties (properties_view (out-Property p).properties.items))
inner-view p = search (rules, the_lemmas)

-- a property of a director's class has the parameters of that director
pub classed-director : (here : List ℕ) (p : Property) (class : List ℕ) (row : DirectorClass) (inner : List Property) → (out-Property p).class ≡ Some class → Some row ≡ director_row class → inner ≡ (out-Property p).properties.items
    → classed_fits here (property_view p) (property_class (property_view p)) ≡ parameters_fit here row.parameters (properties_view inner)
classed-director here p class row inner is named same =
    ap (classed_fits here (property_view p)) (class-view p ∙ is) ∙ ap (director_fits here (property_view p)) (sym named)
    ∙ ap (parameters_fit here row.parameters) (inner-view p ∙ property_list_of (properties_view (out-Property p).properties.items) ∙ sym (ap properties_view same))
