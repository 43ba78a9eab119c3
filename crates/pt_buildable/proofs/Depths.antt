-- How deep the entities of a document stand in one another, and how many there are: no more than its limits say.
use Rattle.std.proofs.Common.{◌≡◌, ◌≤◌, ◌+◌, ℕ, true, List, [], ◌∷◌, ◌++◌, Option, Some, None, Result, Ok, codes, max, nat_le, map, ap, subst, arith}
use Rattle.std.proofs.Common.{Ordering, Less, Equal, Greater}
use Rattle.std.proofs.lemmas.Bool.{and_parts, leb-true}
use Rattle.std.specs.Ordering.{nat_cmp, match_ordering}
use Rattle.std.specs.Cmp.Lexicographic.{slice_cmp}
use Rattle.serde_json.specs.Data.{Data, null, boolean, number, string, array, object, Items, no_items, item, Members, no_members, member}
use Rattle.serde_json.specs.Find.{get}
use Rattle.pt_document.specs.declared.code.Code.TheVariants.{Limit}
use Rattle.pt_document.specs.declared.refusal.Refusal.{Refusal}
use Rattle.pt_document.specs.Document.{EntityTree, EntityTrees, entity, no_entities, one_entity, to_entities, entity_name, JobTree}
use Rattle.pt_document.specs.Names.{below, top_path}
use Rattle.pt_document.specs.Outcome.{◌>>=◌}
use Rattle.pt_moml.specs.Fields.{listed, name_at, optional_list, text_at, distinct_at}
use Rattle.pt_moml.specs.Limits.{Nest, no_nest, count, levels, nest_in, nest_under, nest_at, nest_items, nest_field, is_within}
use Rattle.pt_moml.specs.Reading.{named, entity_from, entities_in, entities_under, entities_at, entity_items, entities_field, limits_at, model_at, version_at, job_fields, input_at, job_of, IsJobOf}
use Rattle.pt_document.proofs.Chains.{good, bind_ok, never_ok, test_ok}
use Rattle.pt_moml.proofs.EntityLaws.{steps}

-- how many levels of entities stand in an entity, and among entities
abbrev mutual
  pub levels_in : EntityTree → ℕ
  levels_in (entity own inner) = levels_of inner

  pub levels_of : EntityTrees → ℕ
  levels_of no_entities = 0
  levels_of (one_entity e es) = max (1 + levels_in e) (levels_of es)

-- how many entities these are, with all in them
abbrev mutual
  pub size_in : EntityTree → ℕ
  size_in (entity own inner) = 1 + size_of inner

  pub size_of : EntityTrees → ℕ
  size_of no_entities = 0
  size_of (one_entity e es) = size_in e + size_of es

-- entities that are read from so many values, which nest so deep
pub record AreFrom (deep many : ℕ) (es : List EntityTree) : Type 0 where
  pub levels : levels_of (to_entities es) ≤ deep
  pub size : size_of (to_entities es) ≤ many

abbrev IsOf : Nest → List EntityTree → Type 0
IsOf n es = AreFrom (levels n) (count n) es

none-read : (es : List EntityTree) → good [] ≡ good es → IsOf no_nest es
none-read es h = let is : [] ≡ es = cc in subst (IsOf no_nest) is (record { levels = omega arith; size = omega arith })

levels-push : (es : List EntityTree) (e : EntityTree) → levels_of (to_entities (es ++ e ∷ [])) ≡ max (levels_of (to_entities es)) (1 + levels_in e)
levels-push [] e = omega arith
levels-push (x ∷ es) e = let h = levels-push es e in omega (arith, h)

size-push : (es : List EntityTree) (e : EntityTree) → size_of (to_entities (es ++ e ∷ [])) ≡ size_of (to_entities es) + size_in e
size-push [] e = omega arith
size-push (x ∷ es) e = let h = size-push es e in omega (arith, h)

by-order : (o : Ordering) (x y z : Result (List EntityTree) Refusal) (u v w : Nest) (es : List EntityTree) → (x ≡ Ok es → IsOf u es) → (y ≡ Ok es → IsOf v es) → (z ≡ Ok es → IsOf w es) → match_ordering o x y z ≡ Ok es → IsOf (match_ordering o u v w) es
by-order Less x y z u v w es f g h e = f e
by-order Equal x y z u v w es f g h e = g e
by-order Greater x y z u v w es f g h e = h e

-- one entity
entity-from : (here name : List ℕ) (d : Data) (inner : Result (List EntityTree) Refusal) (n : Nest) (e : EntityTree) → ((es : List EntityTree) → inner ≡ Ok es → IsOf n es) → entity_from here name d inner ≡ Ok e → (levels_in e ≤ levels n) × (size_in e ≤ 1 + count n)
entity-from here name d inner n e read h =
    let s = steps here name d inner e h in
    let r = read s.entities s.entities_are in
    subst (λ (x : EntityTree). (levels_in x ≤ levels n) × (size_in x ≤ 1 + count n)) s.is (r.levels, omega (arith, r.size))

mutual
  unfolding entities_in named nest_in

  in-from : (here : List ℕ) (d : Data) (es : List EntityTree) → entities_in here d ≡ Ok es → IsOf (nest_in d) es
  in-from here (object ms) es e = under-from here ms es e
  in-from here null es e = none-read es e
  in-from here (boolean b) es e = none-read es e
  in-from here (number n) es e = none-read es e
  in-from here (string s) es e = none-read es e
  in-from here (array ds) es e = none-read es e

  under-from : (here : List ℕ) (ms : Members) (es : List EntityTree) → entities_under here ms ≡ Ok es → IsOf (nest_under ms) es
  under-from here no_members es e = none-read es e
  under-from here (member k d ms) es e =
      by-order (slice_cmp nat_cmp (codes "entities") k) (entities_under here ms) (entities_at here d) (entities_under here ms) (nest_under ms) (nest_at d) (nest_under ms) es
      (λ h. under-from here ms es h) (λ h. at-from here d es h) (λ h. under-from here ms es h) e

  at-from : (here : List ℕ) (d : Data) (es : List EntityTree) → entities_at here d ≡ Ok es → IsOf (nest_at d) es
  at-from here (array ds) es e =
      let h = bind_ok (entity_items here [] ds) (λ es. named here entity_name es) es e in
      let g = bind_ok (distinct_at here (map entity_name h.0)) (λ _. good h.0) es h.2 in
      let both : good h.0 ≡ good es = g.2 in
      let is : h.0 ≡ es = cc in
      let r = items-from here [] ds h.0 h.1 in
      subst (IsOf (nest_items ds)) is (record { levels = omega (arith, r.levels); size = omega (arith, r.size) })
  at-from here null es e = absurd (never_ok _ here es e)
  at-from here (boolean b) es e = absurd (never_ok _ here es e)
  at-from here (number n) es e = absurd (never_ok _ here es e)
  at-from here (string s) es e = absurd (never_ok _ here es e)
  at-from here (object ms) es e = absurd (never_ok _ here es e)

  items-from : (here : List ℕ) (done : List EntityTree) (ds : Items) (es : List EntityTree) → entity_items here done ds ≡ Ok es → AreFrom (max (levels_of (to_entities done)) (levels (nest_items ds))) (size_of (to_entities done) + count (nest_items ds)) es
  items-from here done no_items es e =
      let h : good done ≡ good es = e in
      let is : done ≡ es = cc in
      subst (λ (xs : List EntityTree). AreFrom (max (levels_of (to_entities done)) 0) (size_of (to_entities done) + 0) xs) is (record { levels = omega arith; size = omega arith })
  items-from here done (item d ds) es e =
      let a = bind_ok (name_at here (get (codes "name") d) >>= λ name. entity_from (below here name) name d (entities_in (below here name) d)) (λ x. entity_items here (done ++ x ∷ []) ds) es e in
      let b = bind_ok (name_at here (get (codes "name") d)) (λ name. entity_from (below here name) name d (entities_in (below here name) d)) a.0 a.1 in
      let one = entity-from (below here b.0) b.0 d (entities_in (below here b.0) d) (nest_in d) a.0 (λ xs h. in-from (below here b.0) d xs h) b.2 in
      let r = items-from here (done ++ a.0 ∷ []) ds es a.2 in
      let l = levels-push done a.0 in
      let s = size-push done a.0 in
      record { levels = omega (arith, r.levels, l, one.0); size = omega (arith, r.size, s, one.1) }

-- ---- the job

field-from : (here : List ℕ) (field : Option Data) (es : List EntityTree) → entities_field here field ≡ Ok es → IsOf (nest_field field) es
field-from here None es e = none-read es e
field-from here (Some d) es e = at-from here d es e

-- an entity has at most so many levels within it, and with these there are at most so many
pub record IsSmall (e : EntityTree) : Type 0 where
  pub levels : levels_in e ≤ 15
  pub size : size_in e ≤ 10000

limited : (d : Data) (n : Nest) (e : EntityTree) → is_within n ≡ true → (levels_in e ≤ levels n) × (size_in e ≤ 1 + count n) → IsSmall e
limited d n e fits is =
    let both = and_parts (nat_le (1 + count n) 10000) (nat_le (1 + levels n) 16) fits in
    let many = leb-true (1 + count n) 10000 both.0 in
    let deep = leb-true (1 + levels n) 16 both.1 in
    record { levels = omega (arith, deep, is.0); size = omega (arith, many, is.1) }

model-small : (field : Option Data) (e : EntityTree) → model_at field ≡ Ok e → IsSmall e
unfolding model_at limits_at
model-small None e h = absurd (never_ok _ top_path e h)
model-small (Some d) e h =
    let a = bind_ok (limits_at d) _ e h in
    let b = bind_ok (name_at top_path (get (codes "name") d)) _ e a.2 in
    let fits = test_ok (is_within (nest_field (get (codes "entities") d))) tt a.0 Limit top_path a.1 in
    limited d (nest_field (get (codes "entities") d)) e fits.0
    (entity-from top_path b.0 d (entities_field top_path (get (codes "entities") d)) (nest_field (get (codes "entities") d)) e (λ es f. field-from top_path (get (codes "entities") d) es f) b.2)

job-small : (d : Data) (job : JobTree) → job_of d ≡ Ok job → IsSmall job.model
unfolding job_of
job-small d job h =
    let a = bind_ok (listed top_path job_fields d) _ job h in
    let b = bind_ok (version_at (get (codes "version") d)) _ job a.2 in
    let c = bind_ok (model_at (get (codes "model") d)) _ job b.2 in
    let f = bind_ok (optional_list input_at top_path (get (codes "inputs") d)) _ job c.2 in
    let g = bind_ok (optional_list text_at top_path (get (codes "record") d)) _ job f.2 in
    let both : good (record { model = c.0; inputs = f.0; records = g.0 }) ≡ good job = g.2 in
    let is : c.0 ≡ job.model = (let whole : record { model = c.0; inputs = f.0; records = g.0 } ≡ job = cc in ap (λ (j : JobTree). j.model) whole) in
    subst (λ (e : EntityTree). IsSmall e) is (model-small (get (codes "model") d) c.0 c.1)

pub documents-small : (bytes : List ℕ) (job : JobTree) → IsJobOf bytes job → IsSmall job.model
documents-small bytes job is = job-small is.0 job is.2
