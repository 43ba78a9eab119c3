-- Where a refusal stands in a document, in the words of the format.
use Rattle.std.specs.Prelude.{◌≡◌, ◌<◌, ◌+◌, ◌⊎◌, ℕ, List, [], ◌∷◌, codes, Bool, true, false, is_some, Option, Some, None, option_and_then, unwrap_or, map, Ok}
use Rattle.std.specs.Bool.{xor}
use Rattle.serde_json.specs.Data.{Data, null, object as members_of, Items}
use Rattle.serde_json.specs.Find.{get, get_item, as_str, as_array, as_bool, as_number, as_u64}
use Rattle.pt_document.specs.declared.code.Code.{Code}
use Rattle.pt_document.specs.declared.code.Code.TheVariants.{Json, Shape, Name, Class, Parameter, Limit}
use Rattle.pt_document.specs.declared.refusal.DocFault.{DocFault}
use Rattle.pt_document.specs.declared.refusal.DocFault.TheVariants as faults
use Rattle.pt_document.specs.Document.{PropertyTree, property_name, property_value, property_class, inner_properties, PortTree, Parts}
use Rattle.pt_document.specs.Classes.{ClassParameter, Class as ClassOf, DirectorClass, director_row, Kind, Composite, Modal, Actor, kind_of}
use Rattle.pt_document.specs.Names.{is_name, is_among, is_layout, is_reserved, below, top_path}
use Rattle.pt_document.specs.TypeTexts.{TypeTree, IsTextOf}
use Rattle.pt_moml.specs.Forms as forms
use Rattle.pt_moml.specs.Forms.{Object, Form, Field, fields, keys, object, list, named, job, entity, port, port_link, relations_link, tokens_input, events_input}
use Rattle.pt_moml.specs.Fields.{has_only}
use Rattle.pt_moml.specs.Limits.{nest_field, count, levels, most_entities, most_levels}
use Rattle.pt_moml.specs.Rules.{parameter_names, is_needed, is_of_modal, rate_rows, directors_among, director_at, is_direction}
use Rattle.pt_moml.specs.Reading.{IsDocument, NoDocument, is_one, parts_at}

-- this is one of these
abbrev pub IsIn : {A : Type 0} → A → List A → Type 0
IsIn x [] = ⊥
IsIn x (y ∷ ys) = (x ≡ y) ⊎ IsIn x ys

-- ---- the form of a value

-- an object whose fields are all of these
abbrev pub is_object_of : List (List ℕ) → Data → Bool
is_object_of keys (members_of ms) = has_only keys ms
is_object_of keys _ = false

-- the text at a field, where there is one
abbrev pub text_in : List ℕ → Data → Option (List ℕ)
text_in key d = option_and_then as_str (get key d)

-- a whole number of at most 64 bits
abbrev pub as_whole : Data → Option ℕ
as_whole d = option_and_then as_u64 (as_number d)

abbrev pub is_null : Data → Bool
is_null null = true
is_null _ = false

-- the truth value at a field; where none stands it is false
abbrev pub is_true_in : List ℕ → Data → Bool
is_true_in key d = unwrap_or (option_and_then as_bool (get key d)) false

-- two items of a list have one name
pub record HasRepeatedName (ds : Items) : Type 0 where
  pub first : ℕ
  pub second : ℕ
  pub apart : first < second
  pub repeated : List ℕ
  pub first_name : option_and_then (text_in (codes "name")) (get_item first ds) ≡ Some repeated
  pub second_name : option_and_then (text_in (codes "name")) (get_item second ds) ≡ Some repeated

-- exactly one of `input` and `output` is true of a port
abbrev pub is_directed : Object → Data → Bool
is_directed port d = xor (is_true_in (codes "input") d) (is_true_in (codes "output") d)
is_directed o d = true

-- The refusal stands in a value that should have this form, or in a part of it.
pub data Faulty : Code → Form → Data → Type 0 where
  no_version : {d : Data} → is_one (as_whole d) ≡ false → Faulty Shape forms.version d
  no_text : {d : Data} → as_str d ≡ None → Faulty Shape forms.text d
  no_name : {d : Data} → as_str d ≡ None → Faulty Shape forms.name d
  not_a_name : {d : Data} (s : List ℕ) → as_str d ≡ Some s → is_name s ≡ false → Faulty Name forms.name d
  no_type : {d : Data} → as_str d ≡ None → Faulty Shape forms.type_text d
  not_a_type : {d : Data} (s : List ℕ) → as_str d ≡ Some s → ((t : TypeTree) → IsTextOf s t → ⊥) → Faulty Shape forms.type_text d
  no_truth : {d : Data} → as_bool d ≡ None → Faulty Shape forms.truth d
  no_whole : {d : Data} → as_whole d ≡ None → Faulty Shape forms.whole d
  no_token : {d : Data} → is_null d ≡ false → as_str d ≡ None → Faulty Shape forms.token d
  in_port_link : {d : Data} {code : Code} → is_some (get (codes "port") d) ≡ true → Faulty code (object port_link) d
      → Faulty code forms.link d
  in_relations_link : {d : Data} {code : Code} → is_some (get (codes "port") d) ≡ false → Faulty code (object relations_link) d
      → Faulty code forms.link d
  in_tokens : {d : Data} {code : Code} → is_some (get (codes "tokens") d) ≡ true → Faulty code (object tokens_input) d
      → Faulty code forms.input d
  in_events : {d : Data} {code : Code} → is_some (get (codes "tokens") d) ≡ false → Faulty code (object events_input) d
      → Faulty code forms.input d
  no_list : {d : Data} {form : Form} → as_array d ≡ None → Faulty Shape (list form) d
  in_item : {d : Data} {code : Code} {form : Form} (ds : Items) (i : ℕ) (x : Data) → as_array d ≡ Some ds → get_item i ds ≡ Some x
      → Faulty code form x → Faulty code (list form) d
  in_list : {d : Data} {code : Code} {form : Form} → Faulty code (list form) d → Faulty code (named form) d
  same_names : {d : Data} {form : Form} (ds : Items) → as_array d ≡ Some ds → HasRepeatedName ds → Faulty Name (named form) d
  unknown_field : {d : Data} (o : Object) → is_object_of (keys o) d ≡ false → Faulty Shape (object o) d
  missing_field : {d : Data} (o : Object) (f : Field) → IsIn f (fields o) → f.is_required ≡ true → get f.key d ≡ None
      → Faulty Shape (object o) d
  in_field : {d : Data} {code : Code} (o : Object) (f : Field) (x : Data) → IsIn f (fields o) → get f.key d ≡ Some x → Faulty code f.form x
      → Faulty code (object o) d
  undirected : {d : Data} (o : Object) → is_directed o d ≡ false → Faulty Shape (object o) d

-- ---- the properties and ports of an entity

-- In an entity of this path, the refusal stands in a parameter of an actor, a director or a port.
pub data BreaksParameter (here : List ℕ) (rows : List ClassParameter) (p : PropertyTree) : Code → List ℕ → Type 0 where
  with_class : is_layout (property_name p) ≡ false → is_some (property_class p) ≡ true → BreaksParameter here rows p Class here
  unknown_parameter : is_layout (property_name p) ≡ false → is_among (parameter_names rows) (property_name p) ≡ false
      → BreaksParameter here rows p Parameter (below here (property_name p))
  without_value : is_layout (property_name p) ≡ false → property_value p ≡ None
      → BreaksParameter here rows p Parameter (below here (property_name p))

-- The refusal stands in these parameters of an actor or a director.
pub data BreaksParameters (here : List ℕ) (rows : List ClassParameter) (ps : List PropertyTree) : Code → List ℕ → Type 0 where
  in_parameter : {code : Code} {path : List ℕ} (p : PropertyTree) → IsIn p ps → BreaksParameter here rows p code path
      → BreaksParameters here rows ps code path
  missing_parameter : (row : ClassParameter) → IsIn row rows → is_needed here row.need ≡ true
      → is_among (map property_name ps) row.name ≡ false → BreaksParameters here rows ps Parameter (below here row.name)

-- The refusal stands in a parameter of a composite or a modal model, or in a Variable.
pub data BreaksValue (here : List ℕ) (p : PropertyTree) : Code → List ℕ → Type 0 where
  reserved_name : is_reserved (property_name p) ≡ true → BreaksValue here p Name here
  no_value : property_value p ≡ None → BreaksValue here p Parameter (below here (property_name p))

-- The refusal stands in a property of an entity of this kind.
pub data BreaksProperty (here : List ℕ) (p : PropertyTree) : Kind → Code → List ℕ → Type 0 where
  in_value : {code : Code} {path : List ℕ} → is_layout (property_name p) ≡ false → property_class p ≡ None → BreaksValue here p code path
      → BreaksProperty here p Composite code path
  no_director : (class : List ℕ) → is_layout (property_name p) ≡ false → property_class p ≡ Some class → director_row class ≡ None
      → BreaksProperty here p Composite Class here
  in_director : {code : Code} {path : List ℕ} (class : List ℕ) (row : DirectorClass) → is_layout (property_name p) ≡ false
      → property_class p ≡ Some class → director_row class ≡ Some row
      → BreaksParameters here row.parameters (inner_properties p) code path → BreaksProperty here p Composite code path
  no_variable : is_layout (property_name p) ≡ false → is_of_modal (property_class p) ≡ false → BreaksProperty here p Modal Class here
  in_variable : {code : Code} {path : List ℕ} → is_layout (property_name p) ≡ false → is_of_modal (property_class p) ≡ true
      → BreaksValue here p code path → BreaksProperty here p Modal code path

-- The refusal stands in a port that may have these parameters.
pub data BreaksPort (here : List ℕ) (rows : List ClassParameter) (p : PortTree) : Code → List ℕ → Type 0 where
  reserved_port : is_reserved p.name ≡ true → BreaksPort here rows p Name here
  in_rate : {code : Code} {path : List ℕ} (q : PropertyTree) → IsIn q p.properties → BreaksParameter here rows q code path
      → BreaksPort here rows p code path

-- The refusal stands in the properties and ports of an entity of this kind.
pub data BreaksRule (here : List ℕ) (ps : List PropertyTree) (qs : List PortTree) : Kind → Code → List ℕ → Type 0 where
  in_property : {kind : Kind} {code : Code} {path : List ℕ} (p : PropertyTree) → IsIn p ps → BreaksProperty here p kind code path
      → BreaksRule here ps qs kind code path
  two_directors : (first second : DirectorClass) (others : List DirectorClass) → directors_among ps ≡ first ∷ second ∷ others
      → BreaksRule here ps qs Composite Shape here
  in_port_of_composite : {code : Code} {path : List ℕ} (director : Option DirectorClass) (q : PortTree) → director_at here ps ≡ Ok director
      → IsIn q qs → BreaksPort here (rate_rows director) q code path → BreaksRule here ps qs Composite code path
  in_port_of_modal : {code : Code} {path : List ℕ} (q : PortTree) → IsIn q qs → BreaksPort here [] q code path
      → BreaksRule here ps qs Modal code path
  in_parameters : {code : Code} {path : List ℕ} (class : ClassOf) → BreaksParameters here class.parameters ps code path
      → BreaksRule here ps qs (Actor class) code path
  no_ports : (class : ClassOf) → class.is_declaring ≡ true → qs ≡ [] → BreaksRule here ps qs (Actor class) Shape here
  other_direction : (class : ClassOf) (q : PortTree) → IsIn q qs → is_direction class.declares q.direction ≡ false
      → BreaksRule here ps qs (Actor class) Shape here
  port_is_there : (class : ClassOf) (q : PortTree) → IsIn q qs → is_among (map (λ port. port.name) class.ports) q.name ≡ true
      → BreaksRule here ps qs (Actor class) Name here
  in_port_of_actor : {code : Code} {path : List ℕ} (class : ClassOf) (q : PortTree) → IsIn q qs → BreaksPort here [] q code path
      → BreaksRule here ps qs (Actor class) code path

-- ---- entities

-- The refusal stands at the first path, in the entity whose own path is the second, or in one within it.
pub data InEntity : Code → List ℕ → List ℕ → Data → Type 0 where
  no_class : {here : List ℕ} {d : Data} → text_in (codes "class") d ≡ None → InEntity Shape here here d
  unknown_class : {here : List ℕ} {d : Data} (class : List ℕ) → text_in (codes "class") d ≡ Some class → kind_of class ≡ None
      → InEntity Class here here d
  in_form : {here : List ℕ} {d : Data} {code : Code} (class : List ℕ) (kind : Kind) → text_in (codes "class") d ≡ Some class
      → kind_of class ≡ Some kind → Faulty code (object (entity kind)) d → InEntity code here here d
  in_rule : {path here : List ℕ} {d : Data} {code : Code} (name class : List ℕ) (kind : Kind) (own : Parts)
      → text_in (codes "name") d ≡ Some name → text_in (codes "class") d ≡ Some class → kind_of class ≡ Some kind
      → parts_at here name class kind d ≡ Ok own → BreaksRule here own.properties own.ports kind code path → InEntity code path here d
  no_children : {here : List ℕ} {d : Data} (x : Data) → get (codes "entities") d ≡ Some x → as_array x ≡ None → InEntity Shape here here d
  child_without_name : {here : List ℕ} {d : Data} (x : Data) (ds : Items) (i : ℕ) (child : Data) → get (codes "entities") d ≡ Some x
      → as_array x ≡ Some ds → get_item i ds ≡ Some child → text_in (codes "name") child ≡ None → InEntity Shape here here d
  child_not_named : {here : List ℕ} {d : Data} (x : Data) (ds : Items) (i : ℕ) (child : Data) (name : List ℕ)
      → get (codes "entities") d ≡ Some x → as_array x ≡ Some ds → get_item i ds ≡ Some child → text_in (codes "name") child ≡ Some name
      → is_name name ≡ false → InEntity Name here here d
  in_child : {path here : List ℕ} {d : Data} {code : Code} (x : Data) (ds : Items) (i : ℕ) (child : Data) (name : List ℕ)
      → get (codes "entities") d ≡ Some x → as_array x ≡ Some ds → get_item i ds ≡ Some child → text_in (codes "name") child ≡ Some name
      → InEntity code path (below here name) child → InEntity code path here d
  same_child_names : {here : List ℕ} {d : Data} (x : Data) (ds : Items) → get (codes "entities") d ≡ Some x → as_array x ≡ Some ds
      → HasRepeatedName ds → InEntity Name here here d

-- ---- documents

-- the entities of the document are these and the top
abbrev pub entity_count : Data → ℕ
entity_count model = 1 + count (nest_field (get (codes "entities") model))

-- how deep entities nest, the top at 1
abbrev pub entity_levels : Data → ℕ
entity_levels model = 1 + levels (nest_field (get (codes "entities") model))

-- The refusal stands at the path, in the whole document.
pub data InJob (d : Data) : Code → List ℕ → Type 0 where
  in_job_form : {code : Code} → Faulty code (object job) d → InJob d code top_path
  too_many : (model : Data) → get (codes "model") d ≡ Some model → most_entities < entity_count model → InJob d Limit top_path
  too_deep : (model : Data) → get (codes "model") d ≡ Some model → most_levels < entity_levels model → InJob d Limit top_path
  model_without_name : (model : Data) → get (codes "model") d ≡ Some model → text_in (codes "name") model ≡ None → InJob d Shape top_path
  model_not_named : (model : Data) (name : List ℕ) → get (codes "model") d ≡ Some model → text_in (codes "name") model ≡ Some name
      → is_name name ≡ false → InJob d Name top_path
  in_model : {code : Code} {path : List ℕ} (model : Data) → get (codes "model") d ≡ Some model → InEntity code path top_path model
      → InJob d code path

-- The refusal stands at the path, for a document's bytes.
pub data Stands : Code → List ℕ → List ℕ → Type 0 where
  no_document : {bytes : List ℕ} → NoDocument bytes → Stands Json top_path bytes
  in_document : {code : Code} {path bytes : List ℕ} (d : Data) → IsDocument bytes d → InJob d code path → Stands code path bytes

-- A fault of reading is want of memory, or stands.
abbrev pub FaultStands : List ℕ → DocFault → Type 0
FaultStands bytes faults.Memory = Unit {0}
FaultStands bytes (faults.Refused r) = Stands r.code r.path bytes

-- No refusal stands.
abbrev pub IsClean : List ℕ → Type 0
IsClean bytes = (code : Code) (path : List ℕ) → Stands code path bytes → ⊥
