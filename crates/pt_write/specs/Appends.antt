-- What a call writes.
use Rattle.std.specs.Prelude.{◌≡◌, ℕ, List, [], ◌∷◌, ◌++◌, Bool, true, false, codes}
use Rattle.json.specs.Token.{Token, key, begin_object, end_object, begin_array, end_array}
use Rattle.json.specs.Written.{Written}
use Rattle.pt_document.specs.Document.{PropertyTree, property, TransitionTree, Parts}
use Rattle.pt_write.specs.Written.{slot_tokens}
use Rattle.pt_write.specs.Document.{text_slot, optional_text, optional_list, states_slot, values, property_value, port_value, relation_value, link_value, state_value, transition_value}

-- these tokens came behind those that were there
pub record Appends (old new : Written) (ts : List Token) : Type 0 where
  pub before : new.before ≡ old.before
  pub tokens : new.tokens ≡ old.tokens ++ ts

-- the begin of a list that may be left out where it is empty
abbrev pub opening : List ℕ → Bool → List Token
opening name true = []
opening name false = key name ∷ begin_array ∷ []

-- and its end
abbrev pub closing : Bool → List Token
closing true = []
closing false = end_array ∷ []

-- ---- the parts of objects that are written by turns

-- what a property says, but for the properties in it
abbrev pub saying_tokens : PropertyTree → List Token
saying_tokens (property name value class inner) =
    begin_object ∷ (slot_tokens (codes "name") (text_slot name) ++ (slot_tokens (codes "value") (optional_text value) ++ slot_tokens (codes "class") (optional_text class)))

-- where a transition leads and when it may be taken
abbrev pub way_tokens : TransitionTree → List Token
way_tokens t = begin_object ∷ (slot_tokens (codes "from") (text_slot t.from) ++ (slot_tokens (codes "to") (text_slot t.to) ++ slot_tokens (codes "guard") (text_slot t.guard)))

-- what comes before the entities of an entity
abbrev pub outside_tokens : Parts → List Token
outside_tokens own =
    begin_object ∷ (slot_tokens (codes "name") (text_slot own.name) ++ (slot_tokens (codes "class") (text_slot own.class)
    ++ (slot_tokens (codes "properties") (optional_list (values property_value own.properties)) ++ slot_tokens (codes "ports") (optional_list (values port_value own.ports)))))

-- and what comes after them
abbrev pub wiring_tokens : Parts → List Token
wiring_tokens own = slot_tokens (codes "relations") (optional_list (values relation_value own.relations)) ++ slot_tokens (codes "links") (optional_list (values link_value own.links))

abbrev pub machine_tokens : Parts → List Token
machine_tokens own =
    slot_tokens (codes "states") (states_slot own.initial (values state_value own.states)) ++ (slot_tokens (codes "initial") (optional_text own.initial)
    ++ (slot_tokens (codes "transitions") (optional_list (values transition_value own.transitions)) ++ end_object ∷ []))
