-- What the entities of a document are: only Composites and Modal entities have entities within them, since an actor has no field for them, and the names of
-- these are names that differ.
use Rattle.std.proofs.Common.{◌≡◌, ℕ, List, [], ◌∷◌, ◌++◌, Bool, true, false, cond, Option, Some, None, Result, Ok, codes, bytes_eq, option_map, ◌||◌, refl, sym, ap, ◌∙◌, subst}
use Rattle.std.specs.Prelude.{IsTrue, is_some}
use Rattle.std.proofs.Common.{Ordering, Less, Equal, Greater, map}
use Rattle.std.specs.Ordering.{nat_cmp, match_ordering}
use Rattle.std.proofs.lemmas.Option.{same_Some}
use Rattle.std.specs.Cmp.Lexicographic.{slice_cmp}
use Rattle.serde_json.specs.Data.{Data, null, boolean, number, string, array, object, Items, no_items, item, Members, no_members, member}
use Rattle.serde_json.specs.Find.{get}
use Rattle.pt_document.specs.declared.job.Link.{Link}
use Rattle.pt_document.specs.declared.job.Relation.{Relation}
use Rattle.pt_document.specs.declared.job.State.{State}
use Rattle.pt_document.specs.declared.refusal.Refusal.{Refusal}
use Rattle.pt_document.specs.Document.{PropertyTree, PortTree, TransitionTree, Parts, EntityTree, EntityTrees, entity, no_entities, one_entity, to_entities, entity_name, JobTree}
use Rattle.pt_document.specs.Classes.{Class, Kind, Composite, Modal, Actor, kind_of, class_row}
use Rattle.pt_document.specs.declared.code.Code.TheVariants.{Name}
use Rattle.pt_document.specs.Names.{is_among, is_name, are_distinct, below, top_path}
use Rattle.pt_document.specs.Outcome.{◌>>=◌}
use Rattle.pt_moml.specs.Fields.{listed, name_at, optional_list, text_at, distinct_at}
use Rattle.pt_moml.specs.Forms.{Field}
use Rattle.pt_moml.specs.Reading.{named, entity_fields, properties_field, ports_field, relations_field, link_at, states_field, initial_field, transition_at, parts_at, entity_from, entities_in, entities_under, entities_at, entity_items, entities_field, limits_at, model_at, version_at, job_fields, input_at, job_of, IsJobOf}
use Rattle.pt_document.proofs.Chains.{good, bind_ok, never_ok, test_ok}
use Rattle.pt_moml.proofs.Entities.{in_is}
use Rattle.pt_moml.proofs.FieldLaws.{name_ok}
use Rattle.pt_moml.proofs.EntityLaws.{steps}
use Rattle.pt_moml.proofs.ObjectLaws.{listed_ok, absent_field}
use Rattle.pt_scopes.specs.Scopes.{is_composite_class}
use Rattle.pt_cover.specs.Leaves.{has_entities, HasLeafActors, HaveLeafActors, ActorsAreLeaves}

-- the names of these entities
abbrev pub names_of : EntityTrees → List (List ℕ)
names_of no_entities = []
names_of (one_entity e es) = entity_name e ∷ names_of es

-- of an entity and all within it: actors are leaves, and the names of what is within one entity are names that differ
abbrev mutual
  pub IsSound : EntityTree → Type 0
  IsSound (entity own inner) = (IsTrue (has_entities inner) → IsTrue (is_composite_class own.class)) × (are_distinct (names_of inner) ≡ true) × AreSound inner

  pub AreSound : EntityTrees → Type 0
  AreSound no_entities = Unit {0}
  AreSound (one_entity e es) = (is_name (entity_name e) ≡ true) × IsSound e × AreSound es

mutual
  sound-leaves : (e : EntityTree) → IsSound e → HasLeafActors e
  sound-leaves (entity own inner) s = (s.0, sounds-leaves inner s.2)

  sounds-leaves : (es : EntityTrees) → AreSound es → HaveLeafActors es
  sounds-leaves no_entities s = tt
  sounds-leaves (one_entity e es) s = (sound-leaves e s.1, sounds-leaves es s.2)

-- a list of them
abbrev AllSound : List EntityTree → Type 0
AllSound es = AreSound (to_entities es)

-- and their names differ
abbrev AreRead : List EntityTree → Type 0
AreRead es = AllSound es × (are_distinct (map entity_name es) ≡ true)

names-list : (es : List EntityTree) → names_of (to_entities es) ≡ map entity_name es
names-list [] = refl
names-list (e ∷ es) = ap (λ (ns : List (List ℕ)). entity_name e ∷ ns) (names-list es)

-- ---- one entity

-- the parts of an entity have its class and its name, and it has only the fields of its kind
parts_head : (here name class : List ℕ) (kind : Kind) (d : Data) (own : Parts) → parts_at here name class kind d ≡ Ok own → (class ≡ own.class) × (name ≡ own.name)
unfolding parts_at
parts_head here name class kind d own e =
    let a = bind_ok (listed here (entity_fields kind) d) _ own e in
    let b = bind_ok (properties_field here (get (codes "properties") d)) _ own a.2 in
    let c = bind_ok (ports_field here (get (codes "ports") d)) _ own b.2 in
    let f = bind_ok (relations_field here (get (codes "relations") d)) _ own c.2 in
    let g = bind_ok (optional_list link_at here (get (codes "links") d)) _ own f.2 in
    let h = bind_ok (states_field here kind (get (codes "states") d)) _ own g.2 in
    let i = bind_ok (initial_field here kind (get (codes "initial") d)) _ own h.2 in
    let j = bind_ok (optional_list transition_at here (get (codes "transitions") d)) _ own i.2 in
    same b.0 c.0 f.0 g.0 h.0 i.0 j.0 j.2
  where
    same : (ps : List PropertyTree) (qs : List PortTree) (rs : List Relation) (ls : List Link) (ss : List State) (o : Option (List ℕ)) (ts : List TransitionTree)
        → good (record { name = name; class = class; properties = ps; ports = qs; relations = rs; links = ls; states = ss; initial = o; transitions = ts }) ≡ good own → (class ≡ own.class) × (name ≡ own.name)
    same ps qs rs ls ss o ts e =
        let is : record { name = name; class = class; properties = ps; ports = qs; relations = rs; links = ls; states = ss; initial = o; transitions = ts } ≡ own = cc in (ap (λ (p : Parts). p.class) is, ap (λ (p : Parts). p.name) is)

parts_listed : (here name class : List ℕ) (kind : Kind) (d : Data) (own : Parts) → parts_at here name class kind d ≡ Ok own → (u : Unit {0}) × (listed here (entity_fields kind) d ≡ Ok u)
unfolding parts_at
parts_listed here name class kind d own e = let a = bind_ok (listed here (entity_fields kind) d) _ own e in (a.0, a.1)

either : {X Y : Type 0} (P : Y → Type 0) (f : X → Y) (b : Bool) (x y : X) → P (f x) → P (f y) → P (f (cond b x y))
either P f true x y p q = p
either P f false x y p q = q

no_field : (class : Class) → is_among (entity_fields (Actor class)) (codes "entities") ≡ false
no_field class = either (λ (b : Bool). b ≡ false) (λ (fs : List Field). is_among (map (λ f. f.key) fs) (codes "entities")) (is_some class.declares) _ _ refl refl

-- a class whose entities have entities is that of a composite
composite_kind : (class : List ℕ) (kind : Kind) → kind_of class ≡ Some kind → ((row : Class) → kind ≡ Actor row → ⊥) → IsTrue (is_composite_class class)
unfolding kind_of
composite_kind class kind e other = by_name (bytes_eq class (codes "Composite")) (bytes_eq class (codes "Modal")) refl refl
  where
    of_row : (o : Option Class) → option_map Actor o ≡ Some kind → ⊥
    of_row None e = let h : None ≡ Some kind = e in cc
    of_row (Some row) e = other row (sym (same_Some (Actor row) kind e))

    by_name : (b c : Bool) → bytes_eq class (codes "Composite") ≡ b → bytes_eq class (codes "Modal") ≡ c → (b || c) ≡ true
    by_name true c is also = refl
    by_name false true is also = refl
    by_name false false is also =
        let row : option_map Actor (class_row class) ≡ Some kind = sym (ap (λ b. cond b (Some Composite) (cond (bytes_eq class (codes "Modal")) (Some Modal) (option_map Actor (class_row class)))) is ∙ ap (λ c. cond c (Some Modal) (option_map Actor (class_row class))) also) ∙ e in
        absurd (of_row (class_row class) row)

-- an entity of an actor's class that is read has none within
actor_empty : (here name : List ℕ) (d : Data) (class : List ℕ) (row : Class) (own : Parts) (inner : Result (List EntityTree) Refusal) (es : List EntityTree) → inner ≡ entities_field here (get (codes "entities") d) → inner ≡ Ok es → parts_at here name class (Actor row) d ≡ Ok own → [] ≡ es
actor_empty here name d class row own inner es is gives parts_are =
    let l = parts_listed here name class (Actor row) d own parts_are in
    let none : get (codes "entities") d ≡ None = absent_field (entity_fields (Actor row)) (codes "entities") d (listed_ok here (entity_fields (Actor row)) d l.0 l.1) (no_field row) in
    let both : good [] ≡ good es = sym (ap (entities_field here) none) ∙ sym is ∙ gives in cc

entity-sound : (here name : List ℕ) (d : Data) (inner : Result (List EntityTree) Refusal) (e : EntityTree) → inner ≡ entities_field here (get (codes "entities") d) → ((es : List EntityTree) → inner ≡ Ok es → AreRead es) → entity_from here name d inner ≡ Ok e → IsSound e × (name ≡ entity_name e)
entity-sound here name d inner e is read h =
    let s = steps here name d inner e h in
    let children = read s.entities s.entities_are in
    let distinct : are_distinct (names_of (to_entities s.entities)) ≡ true = ap are_distinct (names-list s.entities) ∙ children.1 in
    (subst (λ (x : EntityTree). IsSound x) s.is (open_class s.class s.kind s.own s.entities s.kind_is s.parts_are s.entities_are, distinct, children.0), (parts_head here name s.class s.kind d s.own s.parts_are).1 ∙ ap entity_name s.is)
  where
    same_class : (class : List ℕ) (kind : Kind) (own : Parts) → kind_of class ≡ Some kind → parts_at here name class kind d ≡ Ok own → ((row : Class) → kind ≡ Actor row → ⊥) → IsTrue (is_composite_class own.class)
    same_class class kind own kind_is parts_are other = subst (λ c. IsTrue (is_composite_class c)) (parts_head here name class kind d own parts_are).0 (composite_kind class kind kind_is other)

    open_class : (class : List ℕ) (kind : Kind) (own : Parts) (es : List EntityTree) → kind_of class ≡ Some kind → parts_at here name class kind d ≡ Ok own → inner ≡ Ok es → IsTrue (has_entities (to_entities es)) → IsTrue (is_composite_class own.class)
    open_class class Composite own es kind_is parts_are gives some = same_class class Composite own kind_is parts_are (λ row e. cc)
    open_class class Modal own es kind_is parts_are gives some = same_class class Modal own kind_is parts_are (λ row e. cc)
    open_class class (Actor row) own es kind_is parts_are gives some =
        let none = actor_empty here name d class row own inner es is gives parts_are in
        let both : false ≡ true = ap (λ (xs : List EntityTree). has_entities (to_entities xs)) none ∙ some in absurd cc

-- ---- lists of entities

sound-push : (es : List EntityTree) (e : EntityTree) → AllSound es → is_name (entity_name e) ≡ true → IsSound e → AllSound (es ++ e ∷ [])
sound-push [] e all named one = (named, one, tt)
sound-push (x ∷ es) e all named one = (all.0, all.1, sound-push es e all.2 named one)

by_order : (P : List EntityTree → Type 0) (o : Ordering) (x y z : Result (List EntityTree) Refusal) (es : List EntityTree) → ((es : List EntityTree) → x ≡ Ok es → P es) → ((es : List EntityTree) → y ≡ Ok es → P es) → ((es : List EntityTree) → z ≡ Ok es → P es) → match_ordering o x y z ≡ Ok es → P es
by_order P Less x y z es f g h e = f es e
by_order P Equal x y z es f g h e = g es e
by_order P Greater x y z es f g h e = h es e

none-read : (es : List EntityTree) → good [] ≡ good es → AreRead es
none-read es h = let is : [] ≡ es = cc in subst AreRead is (tt, refl)

mutual
  unfolding entities_in named distinct_at

  in-read : (here : List ℕ) (d : Data) (es : List EntityTree) → entities_in here d ≡ Ok es → AreRead es
  in-read here (object ms) es e = under-read here ms es e
  in-read here null es e = none-read es e
  in-read here (boolean b) es e = none-read es e
  in-read here (number n) es e = none-read es e
  in-read here (string s) es e = none-read es e
  in-read here (array ds) es e = none-read es e

  under-read : (here : List ℕ) (ms : Members) (es : List EntityTree) → entities_under here ms ≡ Ok es → AreRead es
  under-read here no_members es e = none-read es e
  under-read here (member k d ms) es e = by_order AreRead (slice_cmp nat_cmp (codes "entities") k) (entities_under here ms) (entities_at here d) (entities_under here ms) es (λ xs h. under-read here ms xs h) (λ xs h. at-read here d xs h) (λ xs h. under-read here ms xs h) e

  at-read : (here : List ℕ) (d : Data) (es : List EntityTree) → entities_at here d ≡ Ok es → AreRead es
  at-read here (array ds) es e =
      let h = bind_ok (entity_items here [] ds) (λ es. named here entity_name es) es e in
      let g = bind_ok (distinct_at here (map entity_name h.0)) (λ _. good h.0) es h.2 in
      let distinct = test_ok (are_distinct (map entity_name h.0)) tt g.0 Name here g.1 in
      let both : good h.0 ≡ good es = g.2 in
      let is : h.0 ≡ es = cc in
      subst AreRead is (items-sound here [] ds h.0 tt h.1, distinct.0)
  at-read here null es e = absurd (never_ok _ here es e)
  at-read here (boolean b) es e = absurd (never_ok _ here es e)
  at-read here (number n) es e = absurd (never_ok _ here es e)
  at-read here (string s) es e = absurd (never_ok _ here es e)
  at-read here (object ms) es e = absurd (never_ok _ here es e)

  items-sound : (here : List ℕ) (done : List EntityTree) (ds : Items) (es : List EntityTree) → AllSound done → entity_items here done ds ≡ Ok es → AllSound es
  items-sound here done no_items es all e = let h : good done ≡ good es = e in let is : done ≡ es = cc in subst AllSound is all
  items-sound here done (item d ds) es all e =
      let a = bind_ok (name_at here (get (codes "name") d) >>= λ name. entity_from (below here name) name d (entities_in (below here name) d)) (λ x. entity_items here (done ++ x ∷ []) ds) es e in
      let b = bind_ok (name_at here (get (codes "name") d)) (λ name. entity_from (below here name) name d (entities_in (below here name) d)) a.0 a.1 in
      let one = entity-sound (below here b.0) b.0 d (entities_in (below here b.0) d) a.0 (in_is (below here b.0) d) (λ xs h. in-read (below here b.0) d xs h) b.2 in
      let named : is_name (entity_name a.0) ≡ true = ap is_name (sym one.1) ∙ (name_ok here (get (codes "name") d) b.0 b.1).1 in
      items-sound here (done ++ a.0 ∷ []) ds es (sound-push done a.0 all named one.0) a.2

-- ---- the job

field-read : (here : List ℕ) (field : Option Data) (es : List EntityTree) → entities_field here field ≡ Ok es → AreRead es
field-read here None es e = none-read es e
field-read here (Some d) es e = at-read here d es e

model-sound : (field : Option Data) (e : EntityTree) → model_at field ≡ Ok e → IsSound e
unfolding model_at
model-sound None e h = absurd (never_ok _ top_path e h)
model-sound (Some d) e h =
    let a = bind_ok (limits_at d) _ e h in
    let b = bind_ok (name_at top_path (get (codes "name") d)) _ e a.2 in
    (entity-sound top_path b.0 d (entities_field top_path (get (codes "entities") d)) e refl (λ es f. field-read top_path (get (codes "entities") d) es f) b.2).0

job-sound : (d : Data) (job : JobTree) → job_of d ≡ Ok job → IsSound job.model
unfolding job_of
job-sound d job h =
    let a = bind_ok (listed top_path job_fields d) _ job h in
    let b = bind_ok (version_at (get (codes "version") d)) _ job a.2 in
    let c = bind_ok (model_at (get (codes "model") d)) _ job b.2 in
    let f = bind_ok (optional_list input_at top_path (get (codes "inputs") d)) _ job c.2 in
    let g = bind_ok (optional_list text_at top_path (get (codes "record") d)) _ job f.2 in
    let both : good (record { model = c.0; inputs = f.0; records = g.0 }) ≡ good job = g.2 in
    let is : c.0 ≡ job.model = (let whole : record { model = c.0; inputs = f.0; records = g.0 } ≡ job = cc in ap (λ (j : JobTree). j.model) whole) in
    subst (λ (e : EntityTree). IsSound e) is (model-sound (get (codes "model") d) c.0 c.1)

pub documents-sound : (bytes : List ℕ) (job : JobTree) → IsJobOf bytes job → IsSound job.model
documents-sound bytes job is = job-sound is.0 job is.2

pub documents-leaves : (bytes : List ℕ) (job : JobTree) → IsJobOf bytes job → ActorsAreLeaves job
documents-leaves bytes job is = sound-leaves job.model (documents-sound bytes job is)
