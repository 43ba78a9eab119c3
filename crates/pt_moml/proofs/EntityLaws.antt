-- What is refused in entities stands there, and where entities are read nothing stands.
use Rattle.std.proofs.Common.{◌≡◌, ◌<◌, inl, inr, List, [], ℕ, zero, suc, Result, Ok, Err, Option, Some, None, true, false, codes, map, refl, sym, ap, ◌∙◌, subst, arith}
use Rattle.serde_json.specs.Data.{Data, null, boolean, number, string, array, object as members_of, Items, depth}
use Rattle.serde_json.specs.Find.{get, get_item, as_array}
use Rattle.pt_document.specs.declared.code.Code.{Code}
use Rattle.pt_document.specs.declared.code.Code.TheVariants as code
use Rattle.pt_document.specs.declared.job.Link.{Link}
use Rattle.pt_document.specs.declared.job.Relation.{Relation}
use Rattle.pt_document.specs.declared.job.State.{State}
use Rattle.pt_document.specs.declared.refusal.Refusal.{Refusal}
use Rattle.pt_document.specs.Document.{PropertyTree, PortTree, TransitionTree, Parts, EntityTree, entity, to_entities, entity_name}
use Rattle.pt_document.specs.Classes.{Kind, kind_of}
use Rattle.pt_document.specs.Names.{is_name, are_distinct, below}
use Rattle.pt_document.specs.Outcome.{refused}
use Rattle.pt_moml.specs.Fields.{listed, required_text, name_at, items_at, optional_list, distinct_at}
use Rattle.pt_moml.specs.Rules.{parts_fit}
use Rattle.pt_moml.specs.Reading.{named, kind_given, kind_at, entity_fields, properties_field, ports_field, relations_field, link_at, states_field, initial_field, transition_at, parts_at, entity_from, entity_at, entities_in, entities_at, entity_items, entities_field}
use Rattle.pt_moml.specs.Forms as forms
use Rattle.pt_moml.specs.Forms.{object}
use Rattle.pt_moml.specs.Stands.{Faulty, BreaksRule, InEntity, no_class, unknown_class, in_form, in_rule, no_children, child_without_name, child_not_named, in_child, same_child_names, text_in}
use Rattle.pt_document.proofs.Chains.{Is, good, is_refused, bind_err, bind_ok, never_err, never_ok, test_err, test_ok}
use Rattle.pt_moml.proofs.Depths.{field_item_depth}
use Rattle.pt_moml.proofs.Entities.{items_are}
use Rattle.pt_moml.proofs.ItemLists.{items_told, items_clean, items_named, AreNames, not_distinct, distinct_clean}
use Rattle.pt_moml.proofs.FieldLaws.{NamesRead, required_text_told, required_text_ok, name_told, name_ok}
use Rattle.pt_moml.proofs.EntityForms.{parts_reads}
use Rattle.pt_moml.proofs.RuleLaws.{rules_told, rules_clean}

-- the refusal stands in the entity of this path
abbrev pub In : Refusal → List ℕ → Data → Type 0
In r here d = InEntity r.code r.path here d

moved : (r : Refusal) (c : Code) (here : List ℕ) (d : Data) → Is r c here → InEntity c here here d → In r here d
moved r c here d is stands = subst (λ (k : Code). InEntity k r.path here d) (sym is.0) (subst (λ (p : List ℕ). InEntity c p here d) (sym is.1) stands)

-- ---- what each step of reading an entity gave

parts_name : (here name class : List ℕ) (kind : Kind) (d : Data) (own : Parts) → parts_at here name class kind d ≡ Ok own → name ≡ own.name
unfolding parts_at
parts_name here name class kind d own e =
    let a = bind_ok (listed here (entity_fields kind) d) _ own e in
    let b = bind_ok (properties_field here (get (codes "properties") d)) _ own a.2 in
    let c = bind_ok (ports_field here (get (codes "ports") d)) _ own b.2 in
    let f = bind_ok (relations_field here (get (codes "relations") d)) _ own c.2 in
    let g = bind_ok (optional_list link_at here (get (codes "links") d)) _ own f.2 in
    let h = bind_ok (states_field here kind (get (codes "states") d)) _ own g.2 in
    let i = bind_ok (initial_field here kind (get (codes "initial") d)) _ own h.2 in
    let j = bind_ok (optional_list transition_at here (get (codes "transitions") d)) _ own i.2 in
    same b.0 c.0 f.0 g.0 h.0 i.0 j.0 j.2
  where
    same : (ps : List PropertyTree) (qs : List PortTree) (rs : List Relation) (ls : List Link) (ss : List State) (o : Option (List ℕ)) (ts : List TransitionTree)
        → good (record { name = name; class = class; properties = ps; ports = qs; relations = rs; links = ls; states = ss; initial = o; transitions = ts }) ≡ good own → name ≡ own.name
    same ps qs rs ls ss o ts e =
        let is : record { name = name; class = class; properties = ps; ports = qs; relations = rs; links = ls; states = ss; initial = o; transitions = ts } ≡ own = cc in ap (λ (p : Parts). p.name) is

kind_told : (here class : List ℕ) (r : Refusal) → kind_at here class ≡ Err r → Is r code.Class here × (kind_of class ≡ None)
kind_told here class r e = chosen (kind_of class) refl e
  where
    chosen : (o : Option Kind) → kind_of class ≡ o → kind_given here o ≡ Err r → Is r code.Class here × (kind_of class ≡ None)
    chosen None is e = (is_refused code.Class here r e, is)
    chosen (Some kind) is e = absurd (never_err kind r e)

kind_ok : (here class : List ℕ) (kind : Kind) → kind_at here class ≡ Ok kind → kind_of class ≡ Some kind
kind_ok here class kind e = chosen (kind_of class) e
  where
    chosen : (o : Option Kind) → kind_given here o ≡ Ok kind → o ≡ Some kind
    chosen None e = absurd (never_ok code.Class here kind e)
    chosen (Some k) e = cc

-- what the parts of an entity that is read are
pub record Steps (here name : List ℕ) (d : Data) (inner : Result (List EntityTree) Refusal) (e : EntityTree) : Type 0 where
  pub class : List ℕ
  pub kind : Kind
  pub own : Parts
  pub given : Unit {0}
  pub entities : List EntityTree
  pub class_is : text_in (codes "class") d ≡ Some class
  pub kind_is : kind_of class ≡ Some kind
  pub parts_are : parts_at here name class kind d ≡ Ok own
  pub rules_are : parts_fit here kind own.properties own.ports ≡ Ok given
  pub entities_are : inner ≡ Ok entities
  pub is : entity own (to_entities entities) ≡ e

pub steps : (here name : List ℕ) (d : Data) (inner : Result (List EntityTree) Refusal) (e : EntityTree) → entity_from here name d inner ≡ Ok e → Steps here name d inner e
unfolding entity_from
steps here name d inner e h =
    let a = bind_ok (required_text here (get (codes "class") d)) _ e h in
    let b = bind_ok (kind_at here a.0) _ e a.2 in
    let c = bind_ok (parts_at here name a.0 b.0 d) _ e b.2 in
    let f = bind_ok (parts_fit here b.0 c.0.properties c.0.ports) _ e c.2 in
    let g = bind_ok inner _ e f.2 in
    let same : good (entity c.0 (to_entities g.0)) ≡ good e = g.2 in
    record { class = a.0; kind = b.0; own = c.0; given = f.0; entities = g.0; class_is = required_text_ok here (get (codes "class") d) a.0 a.1; kind_is = kind_ok here a.0 b.0 b.1; parts_are = c.1; rules_are = f.1; entities_are = g.1; is = cc }

from_name : (here name : List ℕ) (d : Data) (inner : Result (List EntityTree) Refusal) (e : EntityTree) → entity_from here name d inner ≡ Ok e → name ≡ entity_name e
from_name here name d inner e h = let s = steps here name d inner e h in parts_name here name s.class s.kind d s.own s.parts_are ∙ ap entity_name s.is

-- an entity that is read has the name that stands there
pub entity_named : (here : List ℕ) → NamesRead (entity_at here) entity_name
entity_named here d e h =
    let a = bind_ok (name_at here (get (codes "name") d)) (λ name. entity_from (below here name) name d (entities_field (below here name) (get (codes "entities") d))) e h in
    (name_ok here (get (codes "name") d) a.0 a.1).0 ∙ ap Some (from_name (below here a.0) a.0 d _ e a.2)

-- ---- what is refused

child_told : (here : List ℕ) (d x : Data) (ds : Items) (i : ℕ) (child : Data) (r : Refusal) → get (codes "entities") d ≡ Some x → as_array x ≡ Some ds → get_item i ds ≡ Some child
    → ((name : List ℕ) → text_in (codes "name") child ≡ Some name → entity_from (below here name) name child (entities_field (below here name) (get (codes "entities") child)) ≡ Err r → In r (below here name) child)
    → entity_at here child ≡ Err r → In r here d
child_told here d x ds i child r is list at_i deeper e =
    elim (bind_err (name_at here (get (codes "name") child)) (λ name. entity_from (below here name) name child (entities_field (below here name) (get (codes "entities") child))) r e) [
      | inl h ↦ elim (name_told here (get (codes "name") child) r h) [
        | inl g ↦ moved r code.Shape here d g.0 (child_without_name x ds i child is list at_i g.1)
        | inr g ↦ moved r code.Name here d g.3 (child_not_named x ds i child g.0 is list at_i g.1 g.2)
      ]
      | inr h ↦ (let named = (name_ok here (get (codes "name") child) h.0 h.1).0 in in_child x ds i child h.0 is list at_i named (deeper h.0 named h.2))
    ]

children_told : (here : List ℕ) (d : Data) (r : Refusal) → ((x : Data) (ds : Items) (i : ℕ) (child : Data) → get (codes "entities") d ≡ Some x → as_array x ≡ Some ds → get_item i ds ≡ Some child → entity_at here child ≡ Err r → In r here d)
    → entities_field here (get (codes "entities") d) ≡ Err r → In r here d
unfolding entities_in named distinct_at
children_told here d r child_fault e = by_field (get (codes "entities") d) refl e
  where
    no_list : (x : Data) → get (codes "entities") d ≡ Some x → as_array x ≡ None → refused {A = List EntityTree} code.Shape here ≡ Err r → In r here d
    no_list x is none e = moved r code.Shape here d (is_refused code.Shape here r e) (no_children x is none)

    by_field : (field : Option Data) → get (codes "entities") d ≡ field → entities_field here field ≡ Err r → In r here d
    by_field None is e = absurd (never_err [] r e)
    by_field (Some null) is e = no_list null is refl e
    by_field (Some (boolean b)) is e = no_list (boolean b) is refl e
    by_field (Some (number n)) is e = no_list (number n) is refl e
    by_field (Some (string s)) is e = no_list (string s) is refl e
    by_field (Some (members_of ms)) is e = no_list (members_of ms) is refl e
    by_field (Some (array ds)) is e =
        elim (bind_err (entity_items here [] ds) (λ es. named here entity_name es) r e) [
          | inl h ↦ (let t = items_told (entity_at here) [] ds r (sym (items_are here [] ds) ∙ h) in child_fault (array ds) ds t.0 t.1 is refl t.2 t.3)
          | inr h ↦ elim (bind_err (distinct_at here (map entity_name h.0)) (λ _. good h.0) r h.2) [
            | inl g ↦ (let t = test_err (are_distinct (map entity_name h.0)) tt code.Name here r g in
                let s = items_named (entity_at here) entity_name (entity_named here) [] ds h.0 (sym (items_are here [] ds) ∙ h.1) in
                moved r code.Name here d t.0 (same_child_names (array ds) ds is refl (not_distinct (map entity_name h.0) ds (subst (λ ys. AreNames (map entity_name ys) ds) (sym s.1) s.2) t.1)))
            | inr g ↦ absurd (never_err h.0 r g.2)
          ]
        ]

-- by how deep the entity is
told_within : (n : ℕ) (here name : List ℕ) (d : Data) (r : Refusal) → depth d < n → text_in (codes "name") d ≡ Some name → entity_from here name d (entities_field here (get (codes "entities") d)) ≡ Err r → In r here d
unfolding entity_from
told_within zero here name d r deep named e = absurd (omega arith)
told_within (suc n) here name d r deep named e =
    elim (bind_err (required_text here (get (codes "class") d)) _ r e) [
      | inl h ↦ (let t = required_text_told here (get (codes "class") d) r h in moved r code.Shape here d t.0 (no_class t.1))
      | inr h ↦ (let class_is = required_text_ok here (get (codes "class") d) h.0 h.1 in
          elim (bind_err (kind_at here h.0) _ r h.2) [
            | inl k ↦ (let t = kind_told here h.0 r k in moved r code.Class here d t.0 (unknown_class h.0 class_is t.1))
            | inr k ↦ (let kind_is = kind_ok here h.0 k.0 k.1 in
                elim (bind_err (parts_at here name h.0 k.0 d) _ r k.2) [
                  | inl p ↦ (let t = (parts_reads here name h.0 k.0 d named class_is).told r p in subst (λ (q : List ℕ). InEntity r.code q here d) (sym t.0) (in_form h.0 k.0 class_is kind_is t.1))
                  | inr p ↦ elim (bind_err (parts_fit here k.0 p.0.properties p.0.ports) _ r p.2) [
                    | inl f ↦ in_rule name h.0 k.0 p.0 named class_is kind_is p.1 (rules_told here k.0 p.0.properties p.0.ports r f)
                    | inr f ↦ elim (bind_err (entities_field here (get (codes "entities") d)) _ r f.2) [
                      | inl m ↦ children_told here d r (λ x ds i child is list at_i. child_told here d x ds i child r is list at_i (λ s s_is. told_within n (below here s) s child r (omega (arith, deep, field_item_depth (codes "entities") d x ds i child is list at_i)) s_is)) m
                      | inr m ↦ absurd (never_err (entity p.0 (to_entities m.0)) r m.2)
                    ]
                  ]
                ])
          ])
    ]

-- A refusal of an entity stands in it.
pub entity_told : (here name : List ℕ) (d : Data) (r : Refusal) → text_in (codes "name") d ≡ Some name → entity_from here name d (entities_field here (get (codes "entities") d)) ≡ Err r → In r here d
entity_told here name d r named e = told_within (suc (depth d)) here name d r (omega arith) named e

-- ---- where entities are read

children_ok : (here : List ℕ) (x : Data) (ds : Items) (es : List EntityTree) → as_array x ≡ Some ds → entities_at here x ≡ Ok es → (items_at (entity_at here) [] ds ≡ Ok es) × (are_distinct (map entity_name es) ≡ true)
unfolding entities_in named distinct_at
children_ok here null ds es is e = absurd cc
children_ok here (boolean b) ds es is e = absurd cc
children_ok here (number n) ds es is e = absurd cc
children_ok here (string s) ds es is e = absurd cc
children_ok here (members_of ms) ds es is e = absurd cc
children_ok here (array xs) ds es is e =
    let same : xs ≡ ds = cc in
    let h = bind_ok (entity_items here [] xs) (λ es. named here entity_name es) es e in
    let g = bind_ok (distinct_at here (map entity_name h.0)) (λ _. good h.0) es h.2 in
    let t = test_ok (are_distinct (map entity_name h.0)) tt g.0 code.Name here g.1 in
    let alike : h.0 ≡ es = (let both : good h.0 ≡ good es = g.2 in cc) in
    (ap (items_at (entity_at here) []) (sym same) ∙ sym (items_are here [] xs) ∙ h.1 ∙ ap Ok alike, ap (λ ys. are_distinct (map entity_name ys)) (sym alike) ∙ t.0)

no_list_ok : (here : List ℕ) (x : Data) (es : List EntityTree) → as_array x ≡ None → entities_at here x ≡ Ok es → ⊥
unfolding entities_in
no_list_ok here null es is e = never_ok code.Shape here es e
no_list_ok here (boolean b) es is e = never_ok code.Shape here es e
no_list_ok here (number n) es is e = never_ok code.Shape here es e
no_list_ok here (string s) es is e = never_ok code.Shape here es e
no_list_ok here (members_of ms) es is e = never_ok code.Shape here es e
no_list_ok here (array ds) es is e = cc

-- the children of an entity that is read
given_children : (here name : List ℕ) (d x : Data) (e : EntityTree) → get (codes "entities") d ≡ Some x → entity_from here name d (entities_field here (get (codes "entities") d)) ≡ Ok e → (es : List EntityTree) × (entities_at here x ≡ Ok es)
given_children here name d x e is h = let s = steps here name d _ e h in (s.entities, sym (ap (entities_field here) is) ∙ s.entities_are)

-- Where an entity is read nothing stands in it.
pub entity_clean : (c : Code) (path here : List ℕ) (d : Data) → InEntity c path here d → (name : List ℕ) → text_in (codes "name") d ≡ Some name → (e : EntityTree) → entity_from here name d (entities_field here (get (codes "entities") d)) ≡ Ok e → ⊥
entity_clean c path here d (no_class none) name named e h = let s = steps here name d _ e h in let is = s.class_is in cc
entity_clean c path here d (unknown_class class is none) name named e h =
    let s = steps here name d _ e h in
    let same : Some class ≡ Some s.class = sym is ∙ s.class_is in
    let alike : class ≡ s.class = cc in
    let both : None ≡ Some s.kind = sym none ∙ ap kind_of alike ∙ s.kind_is in cc
entity_clean c path here d (in_form class kind is kind_is stands) name named e h =
    let s = steps here name d _ e h in
    let same : Some class ≡ Some s.class = sym is ∙ s.class_is in
    let alike : class ≡ s.class = cc in
    let both : Some kind ≡ Some s.kind = sym kind_is ∙ ap kind_of alike ∙ s.kind_is in
    let kinds : kind ≡ s.kind = cc in
    (parts_reads here name s.class s.kind d named s.class_is).clean s.own s.parts_are c (subst (λ (k : Kind). Faulty c (object (forms.entity k)) d) kinds stands)
entity_clean c path here d (in_rule other class kind own other_is is kind_is parts_are stands) name named e h =
    let s = steps here name d _ e h in
    let same : Some class ≡ Some s.class = sym is ∙ s.class_is in
    let alike : class ≡ s.class = cc in
    let both : Some kind ≡ Some s.kind = sym kind_is ∙ ap kind_of alike ∙ s.kind_is in
    let kinds : kind ≡ s.kind = cc in
    let named_both : Some other ≡ Some name = sym other_is ∙ named in
    let names : other ≡ name = cc in
    let read : good own ≡ good s.own = sym parts_are ∙ ap (λ n. parts_at here n class kind d) names ∙ ap (λ f. parts_at here name f kind d) alike ∙ ap (λ k. parts_at here name s.class k d) kinds ∙ s.parts_are in
    let owns : own ≡ s.own = cc in
    rules_clean here s.kind s.own.properties s.own.ports c path
    (subst (λ (o : Parts). BreaksRule here o.properties o.ports s.kind c path) owns (subst (λ (k : Kind). BreaksRule here own.properties own.ports k c path) kinds stands)) s.given s.rules_are
entity_clean c path here d (no_children x is none) name named e h = let t = given_children here name d x e is h in no_list_ok here x t.0 none t.1
entity_clean c path here d (child_without_name x ds i child is list at_i none) name named e h =
    let t = given_children here name d x e is h in
    let k = children_ok here x ds t.0 list t.1 in
    let one = items_clean (entity_at here) [] ds t.0 k.0 i child at_i in
    let named_child = entity_named here child one.0 one.1 in cc
entity_clean c path here d (child_not_named x ds i child s is list at_i s_is bad) name named e h =
    let t = given_children here name d x e is h in
    let k = children_ok here x ds t.0 list t.1 in
    let one = items_clean (entity_at here) [] ds t.0 k.0 i child at_i in
    let a = bind_ok (name_at here (get (codes "name") child)) (λ name. entity_from (below here name) name child (entities_field (below here name) (get (codes "entities") child))) one.0 one.1 in
    let good_name = name_ok here (get (codes "name") child) a.0 a.1 in
    let same : Some a.0 ≡ Some s = sym good_name.0 ∙ s_is in
    let alike : a.0 ≡ s = cc in
    let both : true ≡ false = sym good_name.1 ∙ ap is_name alike ∙ bad in cc
entity_clean c path here d (in_child x ds i child s is list at_i s_is stands) name named e h =
    let t = given_children here name d x e is h in
    let k = children_ok here x ds t.0 list t.1 in
    let one = items_clean (entity_at here) [] ds t.0 k.0 i child at_i in
    let a = bind_ok (name_at here (get (codes "name") child)) (λ name. entity_from (below here name) name child (entities_field (below here name) (get (codes "entities") child))) one.0 one.1 in
    let good_name = name_ok here (get (codes "name") child) a.0 a.1 in
    let same : Some a.0 ≡ Some s = sym good_name.0 ∙ s_is in
    let alike : a.0 ≡ s = cc in
    entity_clean c path (below here s) child stands s s_is one.0 (subst (λ (n : List ℕ). entity_from (below here n) n child (entities_field (below here n) (get (codes "entities") child)) ≡ Ok one.0) alike a.2)
entity_clean c path here d (same_child_names x ds is list repeated) name named e h =
    let t = given_children here name d x e is h in
    let k = children_ok here x ds t.0 list t.1 in
    let s = items_named (entity_at here) entity_name (entity_named here) [] ds t.0 k.0 in
    distinct_clean (map entity_name t.0) ds (subst (λ ys. AreNames (map entity_name ys) ds) (sym s.1) s.2) k.1 repeated
