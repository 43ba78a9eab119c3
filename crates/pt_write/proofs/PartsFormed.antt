-- Parts of entities that are read have the form of what a document says.
use Rattle.std.proofs.Common.{◌≡◌, ℕ, ◌≤◌, List, [], ◌∷◌, Option, Some, None, IfSome, Bool, true, false, cond, refl, sym, ap, ◌∙◌, subst, arith, codes}
use Rattle.std.specs.Prelude.{is_some}
use Rattle.std.specs.List.{AllByRecursion}
use Rattle.serde_json.specs.Data as read_as
use Rattle.serde_json.specs.Data.{Data, Items}
use Rattle.serde_json.specs.Find.{get}
use Rattle.pt_document.specs.declared.code.Code.TheVariants.{Shape}
use Rattle.pt_document.specs.declared.job.Direction.{Direction}
use Rattle.pt_document.specs.declared.job.Direction.TheVariants.{Input, Output}
use Rattle.pt_document.specs.declared.job.Relation.{Relation}
use Rattle.pt_document.specs.declared.job.Link.{Link}
use Rattle.pt_document.specs.declared.job.Link.TheVariants.{Port, Relations}
use Rattle.pt_document.specs.declared.job.State.{State}
use Rattle.pt_document.specs.declared.job.OutputAction.{OutputAction}
use Rattle.pt_document.specs.declared.job.SetAction.{SetAction}
use Rattle.pt_document.specs.Document.{PropertyTree, property, property_name, property_value as value_in, property_class, inner_properties, property_list, PropertyTrees, no_properties, one_property, to_properties, PortTree, TransitionTree}
use Rattle.pt_document.specs.TypeWords.{is_type_text}
use Rattle.pt_document.specs.Outcome.{◌>>=◌, refused}
use Rattle.pt_document.proofs.Chains.{good, bind_ok, never_ok, test_ok}
use Rattle.pt_document.proofs.Trees.{property_list_of}
use Rattle.pt_moml.specs.Fields.{text_at, required_text, optional_text, name_at, required_truth, optional_truth, listed, optional_list}
use Rattle.pt_moml.specs.Reading.{property_fields, property_from, property_at, property_items, properties_field, port_fields, port_at, declared_at, direction_at, relation_at, port_link, relations_link, link_at, state_at, output_at, set_at, transition_fields, transition_at}
use Rattle.pt_moml.proofs.Properties.{items_are}
use Rattle.pt_write.specs.Written.{Value, given, truth, object, depth, items_depth}
use Rattle.pt_write.specs.Document as written
use Rattle.pt_write.specs.Document.{values, property_value, property_values, port_value, relation_value, link_value, state_value, output_value, set_value, transition_value}
use Rattle.pt_write.specs.Form.{Differ, IsProperty, AreProperties, IsPort, IsRelation, IsState}
use Rattle.pt_write.proofs.Back.{AreRead}
use Rattle.pt_write.proofs.PartsBack.{Any}
use Rattle.pt_write.proofs.Standing.{is_listed, SlotOf, stands, all_shallow, no_deeper, text_stands, name_stands, optional_text_stands, optional_truth_stands, truth_stands, items_formed, optional_list_depth, all_read, optional_list_stands, named_formed}

-- it is of this form, and what is written for it nests no deeper
abbrev pub Formed : {A : Type 0} → (A → Type 0) → (A → Value) → Data → A → Type 0
Formed form value d a = form a × (depth (value a) ≤ read_as.depth d)

-- ---- relations, links, states and actions

module _ (path : List ℕ) where
  pub relation_formed : (d : Data) (r : Relation) → relation_at path d ≡ good r → Formed IsRelation relation_value d r
  unfolding relation_at
  relation_formed d r e =
      let a = bind_ok (listed path (codes "name" ∷ []) d) (λ _. name_at path (get (codes "name") d) >>= λ name. good (record { name = name })) r e in
      let b = bind_ok (name_at path (get (codes "name") d)) (λ name. good (record { name = name })) r a.2 in
      let o = is_listed path (codes "name" ∷ []) d a.0 a.1 in
      let n = name_stands path (get (codes "name") d) b.0 b.1 in
      let same : record { name = b.0 } ≡ r = cc in
      subst (Formed IsRelation relation_value d) same (n.1, no_deeper _ _ (all_shallow d (written.one_text (codes "name") b.0) o.1 (stands d (codes "name") (written.text_slot b.0) o.1 n.0, tt)))

  -- an object of two texts that have to be there
  two_formed : {A : Type 0} (k l : List ℕ) (make : List ℕ → List ℕ → A) (value : A → Value) (d : Data) (x : A) → ((s t : List ℕ) → value (make s t) ≡ object (written.two_texts k s l t))
      → (listed path (k ∷ l ∷ []) d >>= λ _. required_text path (get k d) >>= λ s. required_text path (get l d) >>= λ t. good (make s t)) ≡ good x → Formed Any value d x
  two_formed {A = A} k l make value d x is e =
      let a = bind_ok (listed path (k ∷ l ∷ []) d) (λ _. required_text path (get k d) >>= λ s. required_text path (get l d) >>= λ t. good (make s t)) x e in
      let b = bind_ok (required_text path (get k d)) (λ s. required_text path (get l d) >>= λ t. good (make s t)) x a.2 in
      let c = bind_ok (required_text path (get l d)) (λ t. good (make b.0 t)) x b.2 in
      let o = is_listed path (k ∷ l ∷ []) d a.0 a.1 in
      let same : make b.0 c.0 ≡ x = cc in
      let fs = written.two_texts k b.0 l c.0 in
      let shallow = all_shallow d fs o.1 (stands d k (written.text_slot b.0) o.1 (text_stands path (get k d) b.0 b.1), (stands d l (written.text_slot c.0) o.1 (text_stands path (get l d) c.0 c.1), tt)) in
      subst (Formed Any value d) same (tt, subst (λ (v : Value). depth v ≤ read_as.depth d) (sym (is b.0 c.0)) (no_deeper _ _ shallow))

  pub link_formed : (d : Data) (l : Link) → link_at path d ≡ good l → Formed Any link_value d l
  unfolding port_link relations_link
  link_formed d l e = chosen (is_some (get (codes "port") d)) e
    where
      chosen : (b : Bool) → cond b (port_link path d) (relations_link path d) ≡ good l → Formed Any link_value d l
      chosen true e = two_formed (codes "port") (codes "relation") Port link_value d l (λ s t. refl) e
      chosen false e = two_formed (codes "relation1") (codes "relation2") Relations link_value d l (λ s t. refl) e

  pub output_formed : (d : Data) (a : OutputAction) → output_at path d ≡ good a → Formed Any output_value d a
  unfolding output_at
  output_formed d a e = two_formed (codes "port") (codes "value") (λ s t. record { port = s; value = t }) output_value d a (λ s t. refl) e

  pub set_formed : (d : Data) (a : SetAction) → set_at path d ≡ good a → Formed Any set_value d a
  unfolding set_at
  set_formed d a e = two_formed (codes "name") (codes "value") (λ s t. record { name = s; value = t }) set_value d a (λ s t. refl) e

  pub state_formed : (d : Data) (s : State) → state_at path d ≡ good s → Formed IsState state_value d s
  unfolding state_at
  state_formed d s e =
      let keys = codes "name" ∷ codes "refinement" ∷ [] in
      let a = bind_ok (listed path keys d) (λ _. name_at path (get (codes "name") d) >>= λ name. optional_text path (get (codes "refinement") d) >>= λ refinement. good (record { name = name; refinement = refinement })) s e in
      let b = bind_ok (name_at path (get (codes "name") d)) (λ name. optional_text path (get (codes "refinement") d) >>= λ refinement. good (record { name = name; refinement = refinement })) s a.2 in
      let c = bind_ok (optional_text path (get (codes "refinement") d)) (λ refinement. good (record { name = b.0; refinement = refinement })) s b.2 in
      let o = is_listed path keys d a.0 a.1 in
      let n = name_stands path (get (codes "name") d) b.0 b.1 in
      let same : record { name = b.0; refinement = c.0 } ≡ s = cc in
      let shallow = all_shallow d (written.state_fields (record { name = b.0; refinement = c.0 })) o.1
      (stands d (codes "name") (written.text_slot b.0) o.1 n.0, (stands d (codes "refinement") (written.optional_text c.0) o.1 (optional_text_stands path (get (codes "refinement") d) c.0 c.1), tt)) in
      subst (Formed IsState state_value d) same (n.1, no_deeper _ _ shallow)

-- ---- transitions

pub transition_formed : (path : List ℕ) (d : Data) (t : TransitionTree) → transition_at path d ≡ good t → Formed Any transition_value d t
unfolding transition_at
transition_formed path d t e =
    let a = bind_ok (listed path transition_fields d) _ t e in
    let from = bind_ok (required_text path (get (codes "from") d)) _ t a.2 in
    let to = bind_ok (required_text path (get (codes "to") d)) _ t from.2 in
    let guard = bind_ok (required_text path (get (codes "guard") d)) _ t to.2 in
    let preemptive = bind_ok (optional_truth path (get (codes "preemptive") d)) _ t guard.2 in
    let history = bind_ok (required_truth path (get (codes "history") d)) _ t preemptive.2 in
    let output = bind_ok (optional_list output_at path (get (codes "output") d)) _ t history.2 in
    let set = bind_ok (optional_list set_at path (get (codes "set") d)) _ t output.2 in
    let o = is_listed path transition_fields d a.0 a.1 in
    let made : TransitionTree = record { from = from.0; to = to.0; guard = guard.0; preemptive = preemptive.0; history = history.0; output = output.0; set = set.0 } in
    let same : made ≡ t = cc in
    let shallow = all_shallow d (written.transition_fields made) o.1 (
      stands d (codes "from") (written.text_slot from.0) o.1 (text_stands path (get (codes "from") d) from.0 from.1),
      (
        stands d (codes "to") (written.text_slot to.0) o.1 (text_stands path (get (codes "to") d) to.0 to.1),
        (
          stands d (codes "guard") (written.text_slot guard.0) o.1 (text_stands path (get (codes "guard") d) guard.0 guard.1),
          (
            stands d (codes "preemptive") (written.optional_truth preemptive.0) o.1 (optional_truth_stands path (get (codes "preemptive") d) preemptive.0 preemptive.1),
            (
              stands d (codes "history") (given (truth history.0)) o.1 (truth_stands path (get (codes "history") d) history.0 history.1),
              (
                stands d (codes "output") (written.optional_list (values output_value output.0)) o.1 (optional_list_stands output_at output_value Any path (output_formed path) (get (codes "output") d) output.0 output.1).1,
                (stands d (codes "set") (written.optional_list (values set_value set.0)) o.1 (optional_list_stands set_at set_value Any path (set_formed path) (get (codes "set") d) set.0 set.1).1, tt),
              ),
            ),
          ),
        ),
      ),
    ) in
    subst (Formed Any transition_value d) same (tt, no_deeper _ _ shallow)

-- ---- properties

-- the properties within a property, where each that is read is formed
inner_formed : (path : List ℕ) (o : Option Data) (inner : PropertyTrees) → ((ds : Items) → AreRead (property_at path) ds (property_list inner) → AreProperties inner × (items_depth (property_values inner) ≤ read_as.items_depth ds))
    → properties_field path o ≡ good (property_list inner) → Differ property_name (property_list inner) × AreProperties inner × SlotOf o (written.optional_list (property_values inner))
unfolding property_items
inner_formed path None no_properties formed e = (refl, tt, refl)
inner_formed path None (one_property p ps) formed e = absurd cc
inner_formed path (Some (read_as.array ds)) inner formed e =
    let n = named_formed (property_items path [] ds) path property_name (property_list inner) e in
    let f = formed ds (all_read (property_at path) ds (property_list inner) (sym (items_are path [] ds) ∙ n.0)) in
    (n.1, f.0, omega (arith, f.1, optional_list_depth (property_values inner)))
inner_formed path (Some read_as.null) inner formed e = absurd (never_ok Shape path (property_list inner) e)
inner_formed path (Some (read_as.boolean b)) inner formed e = absurd (never_ok Shape path (property_list inner) e)
inner_formed path (Some (read_as.number n)) inner formed e = absurd (never_ok Shape path (property_list inner) e)
inner_formed path (Some (read_as.string s)) inner formed e = absurd (never_ok Shape path (property_list inner) e)
inner_formed path (Some (read_as.object ms)) inner formed e = absurd (never_ok Shape path (property_list inner) e)

mutual
  unfolding property_from

  pub property_formed : (path : List ℕ) (p : PropertyTree) (d : Data) → property_at path d ≡ good p → Formed IsProperty property_value d p
  property_formed path (property name value class inner) d e =
      let x = property name value class inner in
      let a = bind_ok (listed path property_fields d) _ x e in
      let n = bind_ok (name_at path (get (codes "name") d)) _ x a.2 in
      let v = bind_ok (optional_text path (get (codes "value") d)) _ x n.2 in
      let c = bind_ok (optional_text path (get (codes "class") d)) _ x v.2 in
      let i = bind_ok (properties_field path (get (codes "properties") d)) _ x c.2 in
      let o = is_listed path property_fields d a.0 a.1 in
      let same : property n.0 v.0 c.0 (to_properties i.0) ≡ x = cc in
      let name_is : n.0 ≡ name = ap property_name same in
      let value_is : v.0 ≡ value = ap value_in same in
      let class_is : c.0 ≡ class = ap property_class same in
      let inner_is : i.0 ≡ property_list inner = sym (property_list_of i.0) ∙ ap inner_properties same in
      let named = name_stands path (get (codes "name") d) name (n.1 ∙ ap good name_is) in
      let within = inner_formed path (get (codes "properties") d) inner (properties_formed path inner) (i.1 ∙ ap good inner_is) in
      let shallow = all_shallow d (written.property_fields name value class (property_values inner)) o.1 (
        stands d (codes "name") (written.text_slot name) o.1 named.0,
        (
          stands d (codes "value") (written.optional_text value) o.1 (optional_text_stands path (get (codes "value") d) value (v.1 ∙ ap good value_is)),
          (
            stands d (codes "class") (written.optional_text class) o.1 (optional_text_stands path (get (codes "class") d) class (c.1 ∙ ap good class_is)),
            (stands d (codes "properties") (written.optional_list (property_values inner)) o.1 within.2, tt),
          ),
        ),
      ) in
      ((named.1, within.0, within.1), no_deeper _ _ shallow)

  properties_formed : (path : List ℕ) (ps : PropertyTrees) (ds : Items) → AreRead (property_at path) ds (property_list ps) → AreProperties ps × (items_depth (property_values ps) ≤ read_as.items_depth ds)
  properties_formed path no_properties ds h = (tt, omega arith)
  properties_formed path (one_property p ps) read_as.no_items h = absurd h
  properties_formed path (one_property p ps) (read_as.item d ds) h =
      let a = property_formed path p d h.0 in
      let b = properties_formed path ps ds h.1 in
      ((a.0, b.0), omega (arith, a.1, b.1))

-- the properties of an entity or a port
pub properties_field_formed : (path : List ℕ) (o : Option Data) (ps : List PropertyTree) → properties_field path o ≡ good ps → Differ property_name ps × AllByRecursion IsProperty ps × SlotOf o (written.optional_list (values property_value ps))
unfolding property_items
properties_field_formed path None [] e = (refl, tt, refl)
properties_field_formed path None (p ∷ ps) e = absurd cc
properties_field_formed path (Some (read_as.array ds)) ps e =
    let n = named_formed (property_items path [] ds) path property_name ps e in
    let f = items_formed (property_at path) property_value IsProperty (λ d p. property_formed path p d) ds ps (all_read (property_at path) ds ps (sym (items_are path [] ds) ∙ n.0)) in
    (n.1, f.0, omega (arith, f.1, optional_list_depth (values property_value ps)))
properties_field_formed path (Some read_as.null) ps e = absurd (never_ok Shape path ps e)
properties_field_formed path (Some (read_as.boolean b)) ps e = absurd (never_ok Shape path ps e)
properties_field_formed path (Some (read_as.number n)) ps e = absurd (never_ok Shape path ps e)
properties_field_formed path (Some (read_as.string s)) ps e = absurd (never_ok Shape path ps e)
properties_field_formed path (Some (read_as.object ms)) ps e = absurd (never_ok Shape path ps e)

-- ---- ports

declared_formed : (path : List ℕ) (o : Option Data) (v : Option (List ℕ)) → declared_at path o ≡ good v → IfSome v (λ text. is_type_text text ≡ true) × SlotOf o (written.optional_text v)
unfolding declared_at
declared_formed path None None e = (tt, refl)
declared_formed path None (Some s) e = absurd cc
declared_formed path (Some d) v e =
    let a = bind_ok (text_at path d) (λ s. cond (is_type_text s) (good (Some s)) (refused Shape path)) v e in
    let t = test_ok (is_type_text a.0) (Some a.0) v Shape path a.2 in
    let same : Some a.0 ≡ v = cc in
    subst (λ (w : Option (List ℕ)). IfSome w (λ text. is_type_text text ≡ true) × SlotOf (Some d) (written.optional_text w)) same (t.0, omega arith)

-- the truth values that make a direction
directed : (path : List ℕ) (input output : Bool) (d : Direction) → direction_at path input output ≡ good d → (input ≡ written.is_input d) × (output ≡ written.is_output d)
directed path true false Input e = (refl, refl)
directed path true false Output e = absurd cc
directed path false true Input e = absurd cc
directed path false true Output e = (refl, refl)
directed path true true d e = absurd (never_ok Shape path d e)
directed path false false d e = absurd (never_ok Shape path d e)

pub port_formed : (path : List ℕ) (d : Data) (p : PortTree) → port_at path d ≡ good p → Formed IsPort port_value d p
unfolding port_at
port_formed path d p e =
    let a = bind_ok (listed path port_fields d) _ p e in
    let n = bind_ok (name_at path (get (codes "name") d)) _ p a.2 in
    let input = bind_ok (optional_truth path (get (codes "input") d)) _ p n.2 in
    let output = bind_ok (optional_truth path (get (codes "output") d)) _ p input.2 in
    let direction = bind_ok (direction_at path input.0 output.0) _ p output.2 in
    let declared = bind_ok (declared_at path (get (codes "type") d)) _ p direction.2 in
    let properties = bind_ok (properties_field path (get (codes "properties") d)) _ p declared.2 in
    let o = is_listed path port_fields d a.0 a.1 in
    let made : PortTree = record { name = n.0; direction = direction.0; declared = declared.0; properties = properties.0 } in
    let same : made ≡ p = cc in
    let way = directed path input.0 output.0 direction.0 direction.1 in
    let named = name_stands path (get (codes "name") d) n.0 n.1 in
    let typed = declared_formed path (get (codes "type") d) declared.0 declared.1 in
    let inner = properties_field_formed path (get (codes "properties") d) properties.0 properties.1 in
    let shallow = all_shallow d (written.port_fields made) o.1 (
      stands d (codes "name") (written.text_slot n.0) o.1 named.0,
      (
        stands d (codes "input") (written.optional_truth (written.is_input direction.0)) o.1 (optional_truth_stands path (get (codes "input") d) (written.is_input direction.0) (input.1 ∙ ap good way.0)),
        (
          stands d (codes "output") (written.optional_truth (written.is_output direction.0)) o.1 (optional_truth_stands path (get (codes "output") d) (written.is_output direction.0) (output.1 ∙ ap good way.1)),
          (stands d (codes "type") (written.optional_text declared.0) o.1 typed.1, (stands d (codes "properties") (written.optional_list (values property_value properties.0)) o.1 inner.2, tt)),
        ),
      ),
    ) in
    subst (Formed IsPort port_value d) same (record { name = named.1; declared = typed.0; properties = inner.1; differ = inner.0 }, no_deeper _ _ shallow)
