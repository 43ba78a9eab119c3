-- The table of the format: which fields an object has, and what stands at each.
use Rattle.std.specs.Prelude.{ℕ, List, [], ◌∷◌, Bool, true, false, codes, is_some, map, if◌then◌else◌}
use Rattle.pt_document.specs.Classes.{Kind, Composite, Modal, Actor}

-- the objects of a document
pub data Object : Type 0 where
  job : Object
  entity : Kind → Object
  property : Object
  port : Object
  relation : Object
  port_link : Object
  relations_link : Object
  state : Object
  transition : Object
  output_action : Object
  set_action : Object
  tokens_input : Object
  events_input : Object
  event : Object

-- What may stand at a place. At `anything` other rules say what stands there.
pub data Form : Type 0 where
  anything : Form
  version : Form
  text : Form
  name : Form
  type_text : Form
  truth : Form
  whole : Form
  token : Form
  link : Form
  input : Form
  object : Object → Form
  list : Form → Form
  named : Form → Form

pub record Field : Type 0 where
  pub key : List ℕ
  pub is_required : Bool
  pub form : Form

abbrev pub required : List ℕ → Form → Field
required key form = record { key = key; is_required = true; form = form }

abbrev pub optional : List ℕ → Form → Field
optional key form = record { key = key; is_required = false; form = form }

-- the fields of each object
abbrev pub fields : Object → List Field
fields job = required (codes "version") version ∷ required (codes "model") anything ∷ optional (codes "inputs") (list input) ∷ optional (codes "record") (list text) ∷ []
fields (entity Composite) =
    required (codes "name") anything ∷ required (codes "class") text ∷ optional (codes "properties") (named (object property)) ∷ optional (codes "ports") (named (object port))
    ∷ optional (codes "entities") anything ∷ optional (codes "relations") (named (object relation)) ∷ optional (codes "links") (list link) ∷ []
fields (entity Modal) =
    required (codes "name") anything ∷ required (codes "class") text ∷ optional (codes "properties") (named (object property)) ∷ optional (codes "ports") (named (object port))
    ∷ optional (codes "entities") anything ∷ required (codes "states") (named (object state)) ∷ required (codes "initial") text ∷ optional (codes "transitions") (list (object transition)) ∷ []
fields (entity (Actor class)) =
    if is_some class.declares then required (codes "name") anything ∷ required (codes "class") text ∷ optional (codes "properties") (named (object property)) ∷ optional (codes "ports") (named (object port)) ∷ []
    else required (codes "name") anything ∷ required (codes "class") text ∷ optional (codes "properties") (named (object property)) ∷ []
fields property = required (codes "name") name ∷ optional (codes "value") text ∷ optional (codes "class") text ∷ optional (codes "properties") (named (object property)) ∷ []
fields port = required (codes "name") name ∷ optional (codes "input") truth ∷ optional (codes "output") truth ∷ optional (codes "type") type_text ∷ optional (codes "properties") (named (object property)) ∷ []
fields relation = required (codes "name") name ∷ []
fields port_link = required (codes "port") text ∷ required (codes "relation") text ∷ []
fields relations_link = required (codes "relation1") text ∷ required (codes "relation2") text ∷ []
fields state = required (codes "name") name ∷ optional (codes "refinement") text ∷ []
fields transition =
    required (codes "from") text ∷ required (codes "to") text ∷ required (codes "guard") text ∷ optional (codes "preemptive") truth ∷ required (codes "history") truth
    ∷ optional (codes "output") (list (object output_action)) ∷ optional (codes "set") (list (object set_action)) ∷ []
fields output_action = required (codes "port") text ∷ required (codes "value") text ∷ []
fields set_action = required (codes "name") text ∷ required (codes "value") text ∷ []
fields tokens_input = required (codes "port") text ∷ required (codes "tokens") (list token) ∷ []
fields events_input = required (codes "port") text ∷ required (codes "events") (list (object event)) ∷ []
fields event = required (codes "time") whole ∷ required (codes "step") whole ∷ required (codes "value") text ∷ []

abbrev pub keys : Object → List (List ℕ)
keys o = map (λ f. f.key) (fields o)
