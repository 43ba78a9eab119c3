-- The top of the net of a document is there, and has a number of iterations where its director is SDF or SR.
use Rattle.std.proofs.Common.{◌≡◌, ◌⊎◌, inl, inr, ℕ, List, [], ◌∷◌, ◌++◌, Bool, true, false, not, Option, Some, None, Ok, codes, bytes_eq, length, option_map, refl, sym, ap, subst, ◌∙◌, if◌then◌else◌}
use Rattle.std.specs.Prelude.{unwrap_or}
use Rattle.std.specs.List.{slice_get}
use Rattle.std.proofs.lemmas.Bool.{and_parts}
use Rattle.std.proofs.lemmas.Option.{none-some, same_Some}
use Rattle.std.proofs.lemmas.Slice.Eq.{bytes_eq-Decides}
use Rattle.pt_document.specs.Document.{property_name, property_class, EntityTree, EntityTrees, entity, no_entities, one_entity, entity_name, parts, JobTree}
use Rattle.pt_document.specs.Classes.{DirectorClass, director_in, director_row, directors, Composite}
use Rattle.pt_document.specs.declared.classes.Director.{Director}
use Rattle.pt_document.specs.declared.classes.Director.TheVariants.{Sdf, Pn, Rendezvous, Sr, De}
use Rattle.pt_moml.specs.Stands.{IsIn}
use Rattle.pt_document.specs.Names.{is_layout, below, top_path}
use Rattle.pt_moml.specs.Rules.{parts_fit}
use Rattle.pt_net.specs.declared.net.Net.{Net}
use Rattle.pt_net.specs.declared.net.NetDirector.{NetDirector}
use Rattle.pt_net.specs.declared.net.NetEntity.{NetEntity}
use Rattle.pt_net.specs.Standing.{Standing, Round, names_director, standing, round_in, no_round, with_entity, with_entities, entities}
use Rattle.pt_net.specs.Net.{NetEntityTree, DirectorTree, director_tree, director_view, entity_view, entity_tree, IsNetOf}
use Rattle.pt_scopes.specs.declared.values.Values.{Values}
use Rattle.pt_scopes.specs.Scopes.{net_view}
use Rattle.pt_scopes.specs.Valued.{IsValued}
use Rattle.pt_scopes.proofs.Document.{get-left, get-last}
use Rattle.pt_start.proofs.Outward.{view-at}
use Rattle.pt_job.specs.Iterations.{iterations}
use Rattle.pt_trees.specs.declared.directing.Directing.TheVariants.{By}
use Rattle.pt_trees.specs.Directors.{named, IsDirectedBy}
use Rattle.pt_trees.specs.Trees.{IsEntity, IsDirected}
use Rattle.pt_trees.proofs.DirectorLaws.{named-of, is-directed}
use Rattle.pt_cover.proofs.Walk.{ArePlaced, all-placed}
use Rattle.pt_cover.proofs.Reading.{documents-leaves}
use Rattle.pt_cover.proofs.Nesting.{net-rooted}
use Rattle.pt_order.specs.Laws.{IsNetOfDocument}
use Rattle.pt_order.proofs.NetStandings.{entity-of}
use Rattle.pt_buildable.proofs.Directors.{not-true, in-kind}
use Rattle.pt_buildable.proofs.TopRules.{documents-ruled, director-given}
use Rattle.pt_buildable.proofs.Iterations.{IsIterating, sdf-iterates, sr-iterates, director-property, top-number}

-- ---- the first entity of a document

mutual
  unfolding with_entity with_entities

  entity-goes : (before : List Standing) (round : Round) (path : List ℕ) (e : EntityTree) (n : ℕ) (s : Standing) → slice_get before n ≡ Some s → slice_get (with_entity before round path e) n ≡ Some s
  entity-goes before round path (entity own inner) n s at =
      let here = standing before round path (entity own inner) in
      entities-goes (before ++ here ∷ []) (round_in (length before) here) path inner n s (get-left before (here ∷ []) n s at)

  entities-goes : (before : List Standing) (round : Round) (path : List ℕ) (es : EntityTrees) (n : ℕ) (s : Standing) → slice_get before n ≡ Some s → slice_get (with_entities before round path es) n ≡ Some s
  entities-goes before round path no_entities n s at = at
  entities-goes before round path (one_entity e es) n s at = entities-goes (with_entity before round (below path (entity_name e)) e) round path es n s (entity-goes before round (below path (entity_name e)) e n s at)

own-standing : (before : List Standing) (round : Round) (path : List ℕ) (e : EntityTree) → slice_get (with_entity before round path e) (length before) ≡ Some (standing before round path e)
unfolding with_entity with_entities
own-standing before round path (entity own inner) =
    let here = standing before round path (entity own inner) in
    entities-goes (before ++ here ∷ []) (round_in (length before) here) path inner (length before) here (get-last before here)

abbrev pub top_standing : JobTree → Standing
top_standing job = standing [] no_round top_path job.model

first-standing : (job : JobTree) → slice_get (entities job) 0 ≡ Some (top_standing job)
unfolding entities
first-standing job = own-standing [] no_round top_path job.model

-- ---- the top of a net

pub record HasTop (job : JobTree) (net : Net) : Type 0 where
  pub entity : NetEntity
  pub at : IsEntity net 0 entity
  pub same : entity_view entity ≡ entity_tree (top_standing job)

pub has-top : (job : JobTree) (net : Net) → ArePlaced (entities job) → IsNetOf job net → HasTop job net
has-top job net placed is =
    let w = entity-of job net placed is 0 (top_standing job) (first-standing job) refl in
    record { entity = w.0; at = w.1; same = w.2 }

-- ---- its number of iterations

-- the row of a director among rows
row-found : (rows : List DirectorClass) (name : List ℕ) (want : Director) → option_map (λ (r : DirectorClass). r.director) (director_in rows name) ≡ Some want → (row : DirectorClass) × IsIn row rows × (row.name ≡ name) × (row.director ≡ want)
row-found [] name want e = absurd (none-some want e)
row-found (r ∷ rows) name want e = chosen (bytes_eq r.name name) refl e (λ h. row-found rows name want h)
  where
    chosen : (b : Bool) → bytes_eq r.name name ≡ b → option_map (λ (r : DirectorClass). r.director) (if b then Some r else director_in rows name) ≡ Some want → (option_map (λ (r : DirectorClass). r.director) (director_in rows name) ≡ Some want → (row : DirectorClass) × IsIn row rows × (row.name ≡ name) × (row.director ≡ want)) → (row : DirectorClass) × IsIn row (r ∷ rows) × (row.name ≡ name) × (row.director ≡ want)
    chosen true is e rest = (r, inl refl, (bytes_eq-Decides r.name name).0 is, same_Some r.director want e)
    chosen false is e rest = let w = rest e in (w.0, inr w.1, w.2, w.3)

sdf-row : (row : DirectorClass) → IsIn row directors → row.director ≡ Sdf → row.name ≡ codes "SDF"
unfolding directors
sdf-row row (inl is) d = ap (λ (r : DirectorClass). r.name) is
sdf-row row (inr (inl is)) d = absurd (let h : Sr ≡ Sdf = ap (λ (r : DirectorClass). r.director) (sym is) ∙ d in cc)
sdf-row row (inr (inr (inl is))) d = absurd (let h : De ≡ Sdf = ap (λ (r : DirectorClass). r.director) (sym is) ∙ d in cc)
sdf-row row (inr (inr (inr (inl is)))) d = absurd (let h : Pn ≡ Sdf = ap (λ (r : DirectorClass). r.director) (sym is) ∙ d in cc)
sdf-row row (inr (inr (inr (inr (inl is))))) d = absurd (let h : Rendezvous ≡ Sdf = ap (λ (r : DirectorClass). r.director) (sym is) ∙ d in cc)
sdf-row row (inr (inr (inr (inr (inr is))))) d = absurd is

sr-row : (row : DirectorClass) → IsIn row directors → row.director ≡ Sr → row.name ≡ codes "SR"
unfolding directors
sr-row row (inl is) d = absurd (let h : Sdf ≡ Sr = ap (λ (r : DirectorClass). r.director) (sym is) ∙ d in cc)
sr-row row (inr (inl is)) d = ap (λ (r : DirectorClass). r.name) is
sr-row row (inr (inr (inl is))) d = absurd (let h : De ≡ Sr = ap (λ (r : DirectorClass). r.director) (sym is) ∙ d in cc)
sr-row row (inr (inr (inr (inl is)))) d = absurd (let h : Pn ≡ Sr = ap (λ (r : DirectorClass). r.director) (sym is) ∙ d in cc)
sr-row row (inr (inr (inr (inr (inl is))))) d = absurd (let h : Rendezvous ≡ Sr = ap (λ (r : DirectorClass). r.director) (sym is) ∙ d in cc)
sr-row row (inr (inr (inr (inr (inr is))))) d = absurd is

iterating : (o : Option NetDirector) (d : NetDirector) → o ≡ Some d → (named o ≡ Some Sdf) ⊎ (named o ≡ Some Sr) → IsIterating d.class
unfolding director_row
iterating o d is (inl sdf) = let w = row-found directors d.class Sdf (ap named (sym is) ∙ sdf) in subst IsIterating (sym (sdf-row w.0 w.1 w.3) ∙ w.2) sdf-iterates
iterating o d is (inr sr) = let w = row-found directors d.class Sr (ap named (sym is) ∙ sr) in subst IsIterating (sym (sr-row w.0 w.1 w.3) ∙ w.2) sr-iterates

by-director : (e : NetEntity) → IsDirectedBy e (By Sdf) ⊎ IsDirectedBy e (By Sr) → (named e.director ≡ Some Sdf) ⊎ (named e.director ≡ Some Sr)
by-director e (inl sdf) = inl (named-of e Sdf sdf)
by-director e (inr sr) = inr (named-of e Sr sr)

composite-of : (e : NetEntity) → IsDirectedBy e (By Sdf) ⊎ IsDirectedBy e (By Sr) → IsDirected e
composite-of e (inl sdf) = is-directed e Sdf sdf
composite-of e (inr sr) = is-directed e Sr sr

class-given : (o : Option (List ℕ)) → names_director o ≡ true → o ≡ Some (unwrap_or o [])
class-given None e = absurd (let h : false ≡ true = e in cc)
class-given (Some class) e = refl

pub top-iterates : (net : Net) (values : Values) (e : NetEntity) → IsNetOfDocument net → IsValued (net_view net) values → IsEntity net 0 e → IsDirectedBy e (By Sdf) ⊎ IsDirectedBy e (By Sr) → (n : ℕ) × (iterations (net_view net) values ≡ Some n)
top-iterates net values e doc valued at built =
    let leaves = documents-leaves doc.bytes doc.job doc.read in
    let placed = all-placed doc.job leaves in
    let top = has-top doc.job net placed doc.made in
    let own = parts doc.job.model in
    let same : entity_view e ≡ entity_tree (top_standing doc.job) = ap entity_view (same_Some e top.entity (sym at ∙ top.at)) ∙ top.same in
    let directed = composite-of e built in
    let d = director_view directed.director in
    let has : (entity_view e).director ≡ Some d = ap (λ (o : Option NetDirector). option_map director_view o) directed.has in
    let p = director-property own.properties d (ap (λ (x : NetEntityTree). x.director) (sym same) ∙ has) in
    let ruled = documents-ruled doc.bytes doc.job doc.read in
    let kind : ruled.kind ≡ Composite = in-kind top_path own.properties own.ports p.0 p.1 p.2 ruled.kind ruled.given ruled.rules in
    let rules : parts_fit top_path Composite own.properties own.ports ≡ Ok ruled.given = subst (λ k. parts_fit top_path k own.properties own.ports ≡ Ok ruled.given) kind ruled.rules in
    let tests = and_parts (not (is_layout (property_name p.0))) (names_director (property_class p.0)) p.2 in
    let iterates : IsIterating (director_tree p.0).class = subst (λ (t : DirectorTree). IsIterating t.class) (sym p.3) (iterating e.director directed.director directed.has (by-director e built)) in
    let given = director-given own.properties own.ports p.0 (director_tree p.0).class ruled.given rules p.1 (not-true (is_layout (property_name p.0)) tests.0) (class-given (property_class p.0) tests.1) iterates.takes in
    let viewed = view-at entity_view net.entities.items 0 e at in
    top-number (net_view net) values (entity_view e) p.0 valued viewed ((net-rooted doc.job net leaves doc.made).top (entity_view e) viewed) (has ∙ ap (λ t. Some t) (sym p.3)) iterates given
