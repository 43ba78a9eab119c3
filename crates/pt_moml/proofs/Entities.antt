-- How the lists of entities are read.
use Rattle.std.proofs.Common.{◌≡◌, ℕ, List, [], ◌∷◌, ◌++◌, Option, Some, None, Result, Ok, refl, ap, ◌∙◌, codes}
use Rattle.serde_json.specs.Data.{Data, null, boolean, number, string, array, object, Items, no_items, item}
use Rattle.serde_json.specs.Find.{get, get_member}
use Rattle.pt_document.specs.declared.refusal.Refusal.{Refusal}
use Rattle.pt_document.specs.Document.{EntityTree}
use Rattle.pt_document.specs.Names.{below}
use Rattle.pt_document.specs.Outcome.{◌>>=◌}
use Rattle.pt_moml.specs.Fields.{name_at, items_at}
use Rattle.pt_moml.specs.Reading.{entity_from, entity_at, entities_in, entities_under, entities_at, entity_items, entities_field}
use Rattle.pt_moml.proofs.FoundFields.{found, under_is}
use Rattle.pt_document.proofs.Refusals.{bind_same}

abbrev Read : Type 0
Read = Result (List EntityTree) Refusal

field_is : (here : List ℕ) (field : Option Data) → found (Ok []) (entities_at here) field ≡ entities_field here field
field_is here None = refl
field_is here (Some d) = refl

pub in_is : (here : List ℕ) (d : Data) → entities_in here d ≡ entities_field here (get (codes "entities") d)
unfolding entities_in
in_is here null = refl
in_is here (boolean b) = refl
in_is here (number n) = refl
in_is here (string s) = refl
in_is here (array ds) = refl
in_is here (object ms) =
    under_is Read (codes "entities") (Ok []) (entities_at here) (entities_under here) refl (λ k d ms. refl) ms ∙ field_is here (get_member (codes "entities") ms)

-- the items are read one by one
pub items_are : (here : List ℕ) (done : List EntityTree) (ds : Items) → entity_items here done ds ≡ items_at (entity_at here) done ds
unfolding entities_in
items_are here done no_items = refl
items_are here done (item d ds) =
    ap (λ (read : Result EntityTree Refusal). read >>= λ e. entity_items here (done ++ e ∷ []) ds)
    (bind_same (name_at here (get (codes "name") d)) (λ name. entity_from (below here name) name d (entities_in (below here name) d)) (λ name. entity_from (below here name) name d (entities_field (below here name) (get (codes "entities") d))) (λ name. ap (entity_from (below here name) name d) (in_is (below here name) d)))
    ∙ bind_same (entity_at here d) (λ e. entity_items here (done ++ e ∷ []) ds) (λ e. items_at (entity_at here) (done ++ e ∷ []) ds) (λ e. items_are here (done ++ e ∷ []) ds)
