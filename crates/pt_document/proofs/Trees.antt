-- Lists within trees.
use Rattle.std.proofs.Common.{◌≡◌, List, [], ◌∷◌, refl, ap}
use Rattle.pt_document.specs.Document.{PropertyTree, to_properties, property_list, EntityTree, to_entities, entity_list}

pub property_list_of : (ps : List PropertyTree) → property_list (to_properties ps) ≡ ps
property_list_of [] = refl
property_list_of (p ∷ ps) = ap (λ (qs : List PropertyTree). p ∷ qs) (property_list_of ps)

pub entity_list_of : (es : List EntityTree) → entity_list (to_entities es) ≡ es
entity_list_of [] = refl
entity_list_of (e ∷ es) = ap (λ (xs : List EntityTree). e ∷ xs) (entity_list_of es)
