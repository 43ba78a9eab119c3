-- What a contract sees of a director.
use Rattle.std.proofs.Common.{◌≡◌, ℕ, List, [], Option, filter, unwrap_or, sym, ap, ◌∙◌, rules}
use Rattle.pt_document.specs.declared.job.Property.{Property, out-Property, the_lemmas}
use Rattle.pt_document.specs.Document.{PropertyTree, to_properties, property_list, property_class, inner_properties}
use Rattle.pt_document.specs.View.{property_view, properties_view}
use Rattle.pt_document.proofs.Trees.{property_list_of}
use Rattle.pt_net.specs.Net.{DirectorTree, director_tree, is_parameter}

class-view : (p : Property) → property_class (property_view p) ≡ (out-Property p).class
class-view p = search (rules, the_lemmas)

inner-view : (p : Property) → inner_properties (property_view p) ≡ property_list (to_properties (properties_view (out-Property p).properties.items))
inner-view p = search (rules, the_lemmas)

abbrev director_of : List ℕ → List PropertyTree → DirectorTree
director_of class ps = record { class = class; parameters = ps }

pub director-view : (p : Property) (class : List ℕ) (ps : List PropertyTree) → class ≡ unwrap_or (out-Property p).class [] → ps ≡ filter is_parameter (properties_view (out-Property p).properties.items) → record { class = class; parameters = ps } ≡ director_tree (property_view p)
director-view p class ps is_class are =
    ap (λ (c : List ℕ). director_of c ps) (is_class ∙ ap (λ (o : Option (List ℕ)). unwrap_or o []) (sym (class-view p)))
    ∙ ap (director_of (unwrap_or (property_class (property_view p)) [])) (are ∙ ap (filter is_parameter) (sym (inner-view p ∙ property_list_of (properties_view (out-Property p).properties.items))))
