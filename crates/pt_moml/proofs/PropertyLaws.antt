-- What is refused in properties stands there, and where properties are read nothing stands.
use Rattle.std.proofs.Common.{◌≡◌, ◌<◌, inl, inr, List, [], ℕ, zero, suc, Result, Option, Some, false, codes, refl, sym, ap, ◌∙◌, subst, arith}
use Rattle.serde_json.specs.Data.{Data, null, boolean, number, string, array, object as members_of, depth}
use Rattle.serde_json.specs.Find.{get}
use Rattle.pt_document.specs.declared.refusal.Refusal.{Refusal}
use Rattle.pt_document.specs.Document.{PropertyTree, property, property_name, to_properties}
use Rattle.pt_moml.specs.Fields.{listed, name_at, optional_text}
use Rattle.pt_moml.specs.Forms as forms
use Rattle.pt_moml.specs.Forms.{named, list, object}
use Rattle.pt_moml.specs.Reading.{property_fields, property_from, property_at, properties_in, properties_at, property_items, properties_field}
use Rattle.pt_document.proofs.Chains.{good, bind_ok}
use Rattle.pt_moml.proofs.Depths.{field_item_depth}
use Rattle.pt_moml.proofs.FieldLaws.{Reads, ReadsAt, ItemsRead, NamesRead, optional_reads, name_reads, name_ok, optional_text_reads, items_read, named_value, no_named_reads}
use Rattle.pt_moml.proofs.ObjectLaws.{chain_end, chain_step, object_reads}
use Rattle.pt_moml.proofs.Properties.{items_are}

abbrev pub form : forms.Form
form = object forms.property

-- a property that is read has the name that stands there
pub property_named : (path : List ℕ) → NamesRead (property_at path) property_name
unfolding property_from
property_named path d p e =
    let a = bind_ok (listed path property_fields d) _ p e in
    let b = bind_ok (name_at path (get (codes "name") d)) _ p a.2 in
    let c = bind_ok (optional_text path (get (codes "value") d)) _ p b.2 in
    let f = bind_ok (optional_text path (get (codes "class") d)) _ p c.2 in
    let g = bind_ok (properties_field path (get (codes "properties") d)) _ p f.2 in
    (name_ok path (get (codes "name") d) b.0 b.1).0 ∙ ap Some (same b.0 c.0 f.0 g.0 g.2)
  where
    same : (s : List ℕ) (v c : Option (List ℕ)) (ps : List PropertyTree) → good (property s v c (to_properties ps)) ≡ good p → s ≡ property_name p
    same s v c ps e = let is : property s v c (to_properties ps) ≡ p = cc in ap property_name is

value_reads : (path : List ℕ) (d : Data) → ItemsRead path form (property_at path) d → Reads path (named form) (properties_at path d) d
unfolding properties_in
value_reads path null items = no_named_reads path form _ null refl refl
value_reads path (boolean b) items = no_named_reads path form _ (boolean b) refl refl
value_reads path (number n) items = no_named_reads path form _ (number n) refl refl
value_reads path (string s) items = no_named_reads path form _ (string s) refl refl
value_reads path (array ds) items =
    named_value path form (property_at path) property_name (property_items path [] ds) ds (items_are path [] ds) (property_named path)
    (subst (λ (m : Result (List PropertyTree) Refusal). Reads path (list form) m (array ds)) (sym (items_are path [] ds)) (items_read path form (property_at path) ds items))
value_reads path (members_of ms) items = no_named_reads path form _ (members_of ms) refl refl

field_reads : (path : List ℕ) (field : Option Data) → ((d : Data) → field ≡ Some d → ItemsRead path form (property_at path) d) → ReadsAt path false (named form) (properties_field path field) field
field_reads path field items = optional_reads path (named form) (properties_field path) [] refl field (λ d is. value_reads path d (items d is))

-- by how deep the property is
reads_within : (n : ℕ) (path : List ℕ) (d : Data) → depth d < n → Reads path form (property_at path d) d
unfolding property_from
reads_within zero path d deep = absurd (omega arith)
reads_within (suc n) path d deep =
    object_reads path forms.property d _
    (chain_step path forms.property d (forms.required (codes "name") forms.name) _ (name_at path (get (codes "name") d)) _ (inl refl) (name_reads path (get (codes "name") d)) (λ _ _.
    chain_step path forms.property d (forms.optional (codes "value") forms.text) _ (optional_text path (get (codes "value") d)) _ (inr (inl refl)) (optional_text_reads path (get (codes "value") d)) (λ _ _.
    chain_step path forms.property d (forms.optional (codes "class") forms.text) _ (optional_text path (get (codes "class") d)) _ (inr (inr (inl refl))) (optional_text_reads path (get (codes "class") d)) (λ _ _.
    chain_step path forms.property d (forms.optional (codes "properties") (named form)) _ (properties_field path (get (codes "properties") d)) _ (inr (inr (inr (inl refl))))
    (field_reads path (get (codes "properties") d) (λ e is ds list i x at_i. reads_within n path x (omega (arith, deep, field_item_depth (codes "properties") d e ds i x is list at_i)))) (λ _ _.
    chain_end path forms.property d _)))))
    (λ _ _. refl)

pub property_reads : (path : List ℕ) (d : Data) → Reads path form (property_at path d) d
property_reads path d = reads_within (suc (depth d)) path d (omega arith)

pub properties_reads : (path : List ℕ) (field : Option Data) → ReadsAt path false (named form) (properties_field path field) field
properties_reads path field = field_reads path field (λ d is ds list i x at_i. property_reads path x)
