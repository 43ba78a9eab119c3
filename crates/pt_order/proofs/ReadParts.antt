-- What the reading of a document leaves of the rules on its entities: each is of a kind, its parts keep the rules of that, and its ports have names that differ.
use Rattle.std.proofs.Common.{◌≡◌, ℕ, List, [], ◌∷◌, ◌++◌, true, Option, Some, None, Result, Ok, codes, map, sym, ap, ◌∙◌, subst}
use Rattle.std.proofs.Common.{Ordering, Less, Equal, Greater}
use Rattle.std.specs.List.{AllByRecursion}
use Rattle.std.specs.Ordering.{nat_cmp, match_ordering}
use Rattle.std.specs.Cmp.Lexicographic.{slice_cmp}
use Rattle.serde_json.specs.Data.{Data, null, boolean, number, string, array, object, Items, no_items, item, Members, no_members, member}
use Rattle.serde_json.specs.Find.{get}
use Rattle.pt_document.specs.declared.code.Code.TheVariants.{Name}
use Rattle.pt_document.specs.declared.job.Link.{Link}
use Rattle.pt_document.specs.declared.job.Relation.{Relation}
use Rattle.pt_document.specs.declared.job.State.{State}
use Rattle.pt_document.specs.declared.refusal.Refusal.{Refusal}
use Rattle.pt_document.specs.Document.{PropertyTree, PortTree, TransitionTree, Parts, EntityTree, EntityTrees, entity, no_entities, one_entity, to_entities, entity_name, JobTree}
use Rattle.pt_document.specs.Classes.{Kind, kind_of}
use Rattle.pt_document.specs.Names.{is_name, are_distinct, below, top_path}
use Rattle.pt_document.specs.Outcome.{◌>>=◌}
use Rattle.pt_moml.specs.Fields.{listed, name_at, items_at, optional_list, optional_truth, text_at, distinct_at}
use Rattle.pt_moml.specs.Rules.{parts_fit}
use Rattle.pt_moml.specs.Reading.{named, entity_fields, properties_field, port_fields, direction_at, declared_at, port_at, ports_field, relations_field, link_at, states_field, initial_field, transition_at, parts_at, entity_from, entities_in, entities_under, entities_at, entity_items, entities_field, limits_at, model_at, version_at, job_fields, input_at, job_of, IsJobOf}
use Rattle.pt_document.proofs.Chains.{good, bind_ok, never_ok, test_ok}
use Rattle.pt_moml.proofs.FieldLaws.{name_ok}
use Rattle.pt_moml.proofs.EntityLaws.{steps}

-- the ports have names as documents have them
abbrev pub AreNamed : List PortTree → Type 0
AreNamed ps = AllByRecursion (λ (p : PortTree). is_name p.name ≡ true) ps

-- an entity is of a kind, its properties and ports are as that wants them, and its ports have names, which differ
pub record IsRead (own : Parts) : Type 0 where
  pub here : List ℕ
  pub kind : Kind
  pub given : Unit {0}
  pub kind_is : kind_of own.class ≡ Some kind
  pub rules : parts_fit here kind own.properties own.ports ≡ Ok given
  pub distinct : are_distinct (map (λ (p : PortTree). p.name) own.ports) ≡ true
  pub names : AreNamed own.ports

-- an entity and all within it
abbrev mutual
  pub IsReadWhole : EntityTree → Type 0
  IsReadWhole (entity own inner) = IsRead own × AreRead inner

  pub AreRead : EntityTrees → Type 0
  AreRead no_entities = Unit {0}
  AreRead (one_entity e es) = IsReadWhole e × AreRead es

-- a list of them
abbrev AllRead : List EntityTree → Type 0
AllRead es = AreRead (to_entities es)

-- ---- one entity

-- what is kept of the parts of an entity
record HasParts (here class : List ℕ) (d : Data) (own : Parts) : Type 0 where
  same : class ≡ own.class
  ports : ports_field here (get (codes "ports") d) ≡ Ok own.ports

has-parts : (here name class : List ℕ) (kind : Kind) (d : Data) (own : Parts) → parts_at here name class kind d ≡ Ok own → HasParts here class d own
unfolding parts_at
has-parts here name class kind d own e =
    let a = bind_ok (listed here (entity_fields kind) d) _ own e in
    let b = bind_ok (properties_field here (get (codes "properties") d)) _ own a.2 in
    let c = bind_ok (ports_field here (get (codes "ports") d)) _ own b.2 in
    let f = bind_ok (relations_field here (get (codes "relations") d)) _ own c.2 in
    let g = bind_ok (optional_list link_at here (get (codes "links") d)) _ own f.2 in
    let h = bind_ok (states_field here kind (get (codes "states") d)) _ own g.2 in
    let i = bind_ok (initial_field here kind (get (codes "initial") d)) _ own h.2 in
    let j = bind_ok (optional_list transition_at here (get (codes "transitions") d)) _ own i.2 in
    kept b.0 c.0 f.0 g.0 h.0 i.0 j.0 c.1 j.2
  where
    kept : (ps : List PropertyTree) (qs : List PortTree) (rs : List Relation) (ls : List Link) (ss : List State) (o : Option (List ℕ)) (ts : List TransitionTree) → ports_field here (get (codes "ports") d) ≡ Ok qs
        → good (record { name = name; class = class; properties = ps; ports = qs; relations = rs; links = ls; states = ss; initial = o; transitions = ts }) ≡ good own → HasParts here class d own
    kept ps qs rs ls ss o ts f e =
        let is : record { name = name; class = class; properties = ps; ports = qs; relations = rs; links = ls; states = ss; initial = o; transitions = ts } ≡ own = cc in
        record { same = ap (λ (p : Parts). p.class) is; ports = f ∙ ap (λ (p : Parts). good p.ports) is }

-- the names of ports that are read differ
distinct-ports : (here : List ℕ) (field : Option Data) (ps : List PortTree) → ports_field here field ≡ Ok ps → are_distinct (map (λ (p : PortTree). p.name) ps) ≡ true
unfolding named distinct_at
distinct-ports here field ps e =
    let a = bind_ok (optional_list port_at here field) (λ qs. named here (λ (p : PortTree). p.name) qs) ps e in
    let names = map (λ (p : PortTree). p.name) a.0 in
    let b = bind_ok (distinct_at here names) (λ _. good a.0) ps a.2 in
    let distinct = test_ok (are_distinct names) tt b.0 Name here b.1 in
    let both : good a.0 ≡ good ps = b.2 in
    let is : a.0 ≡ ps = cc in
    subst (λ (qs : List PortTree). are_distinct (map (λ (p : PortTree). p.name) qs) ≡ true) is distinct.0

-- each has a name
port-named : (here : List ℕ) (d : Data) (p : PortTree) → port_at here d ≡ Ok p → is_name p.name ≡ true
unfolding port_at
port-named here d p e =
    let a = bind_ok (listed here port_fields d) _ p e in
    let b = bind_ok (name_at here (get (codes "name") d)) _ p a.2 in
    let c = bind_ok (optional_truth here (get (codes "input") d)) _ p b.2 in
    let f = bind_ok (optional_truth here (get (codes "output") d)) _ p c.2 in
    let g = bind_ok (direction_at here c.0 f.0) _ p f.2 in
    let h = bind_ok (declared_at here (get (codes "type") d)) _ p g.2 in
    let i = bind_ok (properties_field here (get (codes "properties") d)) _ p h.2 in
    let same : record { name = b.0; direction = g.0; declared = h.0; properties = i.0 } ≡ p = same_good _ p i.2 in
    subst (λ (q : PortTree). is_name q.name ≡ true) same (name_ok here (get (codes "name") d) b.0 b.1).1
  where
    same_good : (q r : PortTree) → good q ≡ good r → q ≡ r
    same_good q r e = cc

named-push : (ps : List PortTree) (p : PortTree) → AreNamed ps → is_name p.name ≡ true → AreNamed (ps ++ p ∷ [])
named-push [] p all one = (one, tt)
named-push (q ∷ ps) p all one = (all.0, named-push ps p all.1 one)

items-named : (here : List ℕ) (done : List PortTree) (ds : Items) (ps : List PortTree) → AreNamed done → items_at (port_at here) done ds ≡ Ok ps → AreNamed ps
items-named here done no_items ps all e = let h : good done ≡ good ps = e in let is : done ≡ ps = cc in subst AreNamed is all
items-named here done (item d ds) ps all e =
    let a = bind_ok (port_at here d) (λ x. items_at (port_at here) (done ++ x ∷ []) ds) ps e in
    items-named here (done ++ a.0 ∷ []) ds ps (named-push done a.0 all (port-named here d a.0 a.1)) a.2

list-named : (here : List ℕ) (field : Option Data) (ps : List PortTree) → optional_list port_at here field ≡ Ok ps → AreNamed ps
unfolding optional_list
list-named here None ps e = let h : good [] ≡ good ps = e in let is : [] ≡ ps = cc in subst AreNamed is tt
list-named here (Some (array ds)) ps e = items-named here [] ds ps tt e
list-named here (Some null) ps e = absurd (never_ok _ here ps e)
list-named here (Some (boolean b)) ps e = absurd (never_ok _ here ps e)
list-named here (Some (number n)) ps e = absurd (never_ok _ here ps e)
list-named here (Some (string s)) ps e = absurd (never_ok _ here ps e)
list-named here (Some (object ms)) ps e = absurd (never_ok _ here ps e)

ports-named : (here : List ℕ) (field : Option Data) (ps : List PortTree) → ports_field here field ≡ Ok ps → AreNamed ps
unfolding named distinct_at
ports-named here field ps e =
    let a = bind_ok (optional_list port_at here field) (λ qs. named here (λ (p : PortTree). p.name) qs) ps e in
    let b = bind_ok (distinct_at here (map (λ (p : PortTree). p.name) a.0)) (λ _. good a.0) ps a.2 in
    let both : good a.0 ≡ good ps = b.2 in
    let is : a.0 ≡ ps = cc in
    subst AreNamed is (list-named here field a.0 a.1)

entity-read : (here name : List ℕ) (d : Data) (inner : Result (List EntityTree) Refusal) (e : EntityTree) → ((es : List EntityTree) → inner ≡ Ok es → AllRead es) → entity_from here name d inner ≡ Ok e → IsReadWhole e
entity-read here name d inner e read h =
    let s = steps here name d inner e h in
    let p = has-parts here name s.class s.kind d s.own s.parts_are in
    let own : IsRead s.own = record {
      here = here;
      kind = s.kind;
      given = s.given;
      kind_is = ap kind_of (sym p.same) ∙ s.kind_is;
      rules = s.rules_are;
      distinct = distinct-ports here (get (codes "ports") d) s.own.ports p.ports;
      names = ports-named here (get (codes "ports") d) s.own.ports p.ports;
    } in
    subst (λ (x : EntityTree). IsReadWhole x) s.is (own, read s.entities s.entities_are)

-- ---- lists of entities

read-push : (es : List EntityTree) (e : EntityTree) → AllRead es → IsReadWhole e → AllRead (es ++ e ∷ [])
read-push [] e all one = (one, tt)
read-push (x ∷ es) e all one = (all.0, read-push es e all.1 one)

by-order : (P : List EntityTree → Type 0) (o : Ordering) (x y z : Result (List EntityTree) Refusal) (es : List EntityTree) → ((es : List EntityTree) → x ≡ Ok es → P es) → ((es : List EntityTree) → y ≡ Ok es → P es) → ((es : List EntityTree) → z ≡ Ok es → P es) → match_ordering o x y z ≡ Ok es → P es
by-order P Less x y z es f g h e = f es e
by-order P Equal x y z es f g h e = g es e
by-order P Greater x y z es f g h e = h es e

none-read : (es : List EntityTree) → good [] ≡ good es → AllRead es
none-read es h = let is : [] ≡ es = cc in subst AllRead is tt

mutual
  unfolding entities_in named

  in-read : (here : List ℕ) (d : Data) (es : List EntityTree) → entities_in here d ≡ Ok es → AllRead es
  in-read here (object ms) es e = under-read here ms es e
  in-read here null es e = none-read es e
  in-read here (boolean b) es e = none-read es e
  in-read here (number n) es e = none-read es e
  in-read here (string s) es e = none-read es e
  in-read here (array ds) es e = none-read es e

  under-read : (here : List ℕ) (ms : Members) (es : List EntityTree) → entities_under here ms ≡ Ok es → AllRead es
  under-read here no_members es e = none-read es e
  under-read here (member k d ms) es e = by-order AllRead (slice_cmp nat_cmp (codes "entities") k) (entities_under here ms) (entities_at here d) (entities_under here ms) es (λ xs h. under-read here ms xs h) (λ xs h. at-read here d xs h) (λ xs h. under-read here ms xs h) e

  at-read : (here : List ℕ) (d : Data) (es : List EntityTree) → entities_at here d ≡ Ok es → AllRead es
  at-read here (array ds) es e =
      let h = bind_ok (entity_items here [] ds) (λ es. named here entity_name es) es e in
      let g = bind_ok (distinct_at here (map entity_name h.0)) (λ _. good h.0) es h.2 in
      let both : good h.0 ≡ good es = g.2 in
      let is : h.0 ≡ es = cc in
      subst AllRead is (items-read here [] ds h.0 tt h.1)
  at-read here null es e = absurd (never_ok _ here es e)
  at-read here (boolean b) es e = absurd (never_ok _ here es e)
  at-read here (number n) es e = absurd (never_ok _ here es e)
  at-read here (string s) es e = absurd (never_ok _ here es e)
  at-read here (object ms) es e = absurd (never_ok _ here es e)

  items-read : (here : List ℕ) (done : List EntityTree) (ds : Items) (es : List EntityTree) → AllRead done → entity_items here done ds ≡ Ok es → AllRead es
  items-read here done no_items es all e = let h : good done ≡ good es = e in let is : done ≡ es = cc in subst AllRead is all
  items-read here done (item d ds) es all e =
      let a = bind_ok (name_at here (get (codes "name") d) >>= λ name. entity_from (below here name) name d (entities_in (below here name) d)) (λ x. entity_items here (done ++ x ∷ []) ds) es e in
      let b = bind_ok (name_at here (get (codes "name") d)) (λ name. entity_from (below here name) name d (entities_in (below here name) d)) a.0 a.1 in
      let one = entity-read (below here b.0) b.0 d (entities_in (below here b.0) d) a.0 (λ xs h. in-read (below here b.0) d xs h) b.2 in
      items-read here (done ++ a.0 ∷ []) ds es (read-push done a.0 all one) a.2

-- ---- the job

field-read : (here : List ℕ) (field : Option Data) (es : List EntityTree) → entities_field here field ≡ Ok es → AllRead es
field-read here None es e = none-read es e
field-read here (Some d) es e = at-read here d es e

model-read : (field : Option Data) (e : EntityTree) → model_at field ≡ Ok e → IsReadWhole e
unfolding model_at
model-read None e h = absurd (never_ok _ top_path e h)
model-read (Some d) e h =
    let a = bind_ok (limits_at d) _ e h in
    let b = bind_ok (name_at top_path (get (codes "name") d)) _ e a.2 in
    entity-read top_path b.0 d (entities_field top_path (get (codes "entities") d)) e (λ es f. field-read top_path (get (codes "entities") d) es f) b.2

job-read : (d : Data) (job : JobTree) → job_of d ≡ Ok job → IsReadWhole job.model
unfolding job_of
job-read d job h =
    let a = bind_ok (listed top_path job_fields d) _ job h in
    let b = bind_ok (version_at (get (codes "version") d)) _ job a.2 in
    let c = bind_ok (model_at (get (codes "model") d)) _ job b.2 in
    let f = bind_ok (optional_list input_at top_path (get (codes "inputs") d)) _ job c.2 in
    let g = bind_ok (optional_list text_at top_path (get (codes "record") d)) _ job f.2 in
    let both : good (record { model = c.0; inputs = f.0; records = g.0 }) ≡ good job = g.2 in
    let is : c.0 ≡ job.model = (let whole : record { model = c.0; inputs = f.0; records = g.0 } ≡ job = cc in ap (λ (j : JobTree). j.model) whole) in
    subst (λ (e : EntityTree). IsReadWhole e) is (model-read (get (codes "model") d) c.0 c.1)

pub documents-read : (bytes : List ℕ) (job : JobTree) → IsJobOf bytes job → IsReadWhole job.model
documents-read bytes job is = job-read is.0 job is.2
