-- Where the top of a net has a director, all its composites are directed: each entity stands in one of them, and only composites have directors.
use Rattle.std.proofs.Common.{◌≡◌, ◌⊎◌, inl, inr, ◌<◌, ℕ, zero, suc, List, [], ◌∷◌, Bool, true, false, not, cond, ◌||◌, if◌then◌else◌, Option, Some, None, codes, bytes_eq, option_map, refl, sym, ap, ap₂, subst, ◌∙◌, arith}
use Rattle.std.specs.Prelude.{is_some, unwrap_or}
use Rattle.std.specs.List.{find, list_any, slice_get}
use Rattle.std.proofs.lemmas.Bool.{and_parts, both_ways}
use Rattle.std.proofs.lemmas.Option.{none-some, same_Some, slice_get_within}
use Rattle.pt_document.specs.declared.classes.Director.{Director}
use Rattle.pt_document.specs.Classes.{DirectorClass, director_row}
use Rattle.pt_document.specs.Document.{property_name, property_class, parts, JobTree}
use Rattle.pt_document.specs.Names.{is_layout}
use Rattle.pt_net.specs.declared.net.Net.{Net}
use Rattle.pt_net.specs.declared.net.NetDirector.{NetDirector}
use Rattle.pt_net.specs.declared.net.NetEntity.{NetEntity}
use Rattle.pt_net.specs.Standing.{Standing, Round, names_director, is_director, has_director, is_composite, is_kept, is_kept_as, no_round, entities}
use Rattle.pt_net.specs.Net.{NetEntityTree, DirectorTree, director_tree, director_view, entity_tree, entity_view, IsNetOf}
use Rattle.pt_scopes.specs.Scopes.{net_view, is_composite_class}
use Rattle.pt_start.specs.Nested.{IsNested}
use Rattle.pt_start.proofs.Outward.{view-at}
use Rattle.pt_trees.specs.declared.directing.Directing.{Directing}
use Rattle.pt_trees.specs.declared.directing.Directing.TheVariants.{By, Modal}
use Rattle.pt_trees.specs.Directors.{named, modal_unless, director_of}
use Rattle.pt_trees.specs.Trees.{IsEntity, IsDirected}
use Rattle.pt_trees.proofs.DirectorLaws.{is-directed, is-modal}
use Rattle.pt_cover.proofs.Walk.{ArePlaced}
use Rattle.pt_cover.proofs.Nesting.{IsRooted, get-within, viewed}
use Rattle.pt_order.proofs.Standings.{IsIn, AreSeen}
use Rattle.pt_order.proofs.NetStandings.{IsStandingOf, standing-of, is-directed as is-directed-standing}
use Rattle.pt_buildable.specs.Composites.{HasDirectedComposites, HasOpaqueRefinements}
use Rattle.pt_buildable.proofs.Directors.{directed-composite}

-- ---- a director of the document directs

some-there : {X : Type 0} (o : Option X) → is_some o ≡ true → (x : X) × (o ≡ Some x)
some-there None e = absurd (let h : false ≡ true = e in cc)
some-there (Some x) e = (x, refl)

-- what some element passes finds one
any-found : {X : Type 0} (test : X → Bool) (xs : List X) → list_any test xs ≡ true → (x : X) × (find test xs ≡ Some x) × (test x ≡ true)
any-found test [] e = absurd (let h : false ≡ true = e in cc)
any-found {X = X} test (y ∷ xs) e = chosen (test y) refl e (λ h. any-found test xs h)
  where
    chosen : (b : Bool) → test y ≡ b → (b || list_any test xs) ≡ true → (list_any test xs ≡ true → (x : X) × (find test xs ≡ Some x) × (test x ≡ true)) → (x : X) × (cond b (Some y) (find test xs) ≡ Some x) × (test x ≡ true)
    chosen true is e rest = (y, refl, is)
    chosen false is e rest = rest e

-- the class of a director has a row
row-there : (class : Option (List ℕ)) → names_director class ≡ true → (r : DirectorClass) × (director_row (unwrap_or class []) ≡ Some r)
row-there None e = absurd (let h : false ≡ true = e in cc)
row-there (Some class) e = some-there (director_row class) e

-- what has a director in the document has a named one in the net
named-there : (e : NetEntity) (s : Standing) → entity_view e ≡ entity_tree s → has_director (parts s.tree) ≡ true → (by : Director) × (named e.director ≡ Some by)
named-there e s same directed =
    let own = parts s.tree in
    let w = any-found is_director own.properties directed in
    let row = row-there (property_class w.0) (and_parts (not (is_layout (property_name w.0))) (names_director (property_class w.0)) w.2).1 in
    let seen : option_map director_view e.director ≡ Some (director_tree w.0) = ap (λ (x : NetEntityTree). x.director) same ∙ ap (option_map director_tree) w.1 in
    let d = viewed director_view e.director (director_tree w.0) seen in
    let class : d.0.class ≡ unwrap_or (property_class w.0) [] = ap (λ (t : DirectorTree). t.class) d.2 in
    (row.0.director, ap named d.1 ∙ ap (λ (c : List ℕ). option_map (λ (r : DirectorClass). r.director) (director_row c)) class ∙ ap (option_map (λ (r : DirectorClass). r.director)) row.1)

-- a Composite that stays in the net and stands in another entity has a director
kept-directed : (s : Standing) (outer : ℕ) → s.round.outer ≡ Some outer → is_kept s ≡ true → is_composite (parts s.tree) ≡ true → s.is_directed ≡ true
kept-directed s outer out kept composite = sym (ap₂ (λ (o : Option ℕ) (c : Bool). is_kept_as o c s.is_directed) out composite) ∙ kept

-- ---- an entity with a named director is directed, and so is a Modal entity

directed-named : (e : NetEntity) (by : Director) → bytes_eq e.class (codes "Composite") ≡ true → named e.director ≡ Some by → is_some (director_of e) ≡ true
directed-named e by class is =
    ap (λ (b : Bool). is_some (if b then option_map By (named e.director) else (if bytes_eq e.class (codes "Modal") then modal_unless e.director else None))) class
    ∙ ap (λ (o : Option Director). is_some (option_map By o)) is

directed-modal : (e : NetEntity) → bytes_eq e.class (codes "Composite") ≡ false → bytes_eq e.class (codes "Modal") ≡ true → e.director ≡ None → is_some (director_of e) ≡ true
directed-modal e class modal none =
    ap (λ (b : Bool). is_some (if b then option_map By (named e.director) else (if bytes_eq e.class (codes "Modal") then modal_unless e.director else None))) class
    ∙ ap (λ (b : Bool). is_some (if b then modal_unless e.director else None)) modal ∙ ap (λ (o : Option NetDirector). is_some (modal_unless o)) none

-- ---- what is directed and has a director

is-directed-by : (e : NetEntity) (d : NetDirector) → e.director ≡ Some d → is_some (director_of e) ≡ true → IsDirected e
is-directed-by e d has built = by-director (director_of e) refl built
  where
    by-director : (o : Option Directing) → director_of e ≡ o → is_some o ≡ true → IsDirected e
    by-director None is b = absurd (let h : false ≡ true = b in cc)
    by-director (Some (By director)) is b = is-directed e director is
    by-director (Some Modal) is b = absurd (none-some d (sym (is-modal e is).unnamed ∙ has))

named-composite : (class : List ℕ) → bytes_eq class (codes "Composite") ≡ true → is_composite_class class ≡ true
named-composite class e = ap (λ b. b || bytes_eq class (codes "Modal")) e

module _ (job : JobTree) (net : Net) (seen : AreSeen (entities job)) (placed : ArePlaced (entities job)) (is : IsNetOf job net) where
  -- what has a director is a Composite
  director-class : (k : ℕ) (e : NetEntity) (d : NetDirector) → IsEntity net k e → e.director ≡ Some d → bytes_eq e.class (codes "Composite") ≡ true
  director-class k e d at has =
      let st = standing-of job net placed is k e at in
      let s = seen st.place st.standing st.at in
      let own = parts st.standing.tree in
      let composite : is_composite own ≡ true = directed-composite own s.read (is-directed-standing e st.standing d st.same has) in
      ap (λ (x : NetEntityTree). bytes_eq x.class (codes "Composite")) st.same ∙ composite

  pub director-composite : (k : ℕ) (e : NetEntity) (d : NetDirector) → IsEntity net k e → e.director ≡ Some d → is_composite_class e.class ≡ true
  director-composite k e d at has = named-composite e.class (director-class k e d at has)

  -- ---- all composites are directed, where the top has a director

  module _ (rooted : IsRooted (net_view net)) (top : NetEntity) (first : NetDirector) (there : IsEntity net 0 top) (directed : top.director ≡ Some first) where
    -- a Composite that isn't the top has a director in the document
    inner-directed : (k : ℕ) (e : NetEntity) → 0 < k → IsEntity net k e → bytes_eq e.class (codes "Composite") ≡ true → (st : IsStandingOf (entities job) k e) → has_director (parts st.standing.tree) ≡ true
    inner-directed k e later at class st = by-round (seen st.place st.standing st.at).round
      where
        composite : is_composite (parts st.standing.tree) ≡ true
        composite = sym (ap (λ (x : NetEntityTree). bytes_eq x.class (codes "Composite")) st.same) ∙ class

        by-round : (st.standing.round ≡ no_round) ⊎ IsIn (entities job) st.standing.round → has_director (parts st.standing.tree) ≡ true
        by-round (inl none) =
            let parent = rooted.others k (entity_view e) later (view-at entity_view net.entities.items k e at) in
            absurd (none-some parent.0 (sym (ap (λ (r : Round). r.parent) none) ∙ sym (ap (λ (x : NetEntityTree). x.parent) st.same) ∙ parent.1))
        by-round (inr within) =
            sym (seen st.place st.standing st.at).directed ∙ kept-directed st.standing within.outer (ap (λ (r : Round). r.outer) within.is) st.kept composite

    -- and so has the top
    composite-directed : (k : ℕ) (e : NetEntity) → IsEntity net k e → bytes_eq e.class (codes "Composite") ≡ true → (st : IsStandingOf (entities job) k e) → has_director (parts st.standing.tree) ≡ true
    composite-directed zero e at class st = is-directed-standing e st.standing first st.same (subst (λ (x : NetEntity). x.director ≡ Some first) (same_Some top e (sym there ∙ at)) directed)
    composite-directed (suc k) e at class st = inner-directed (suc k) e (omega arith) at class st

    by-class : (k : ℕ) (e : NetEntity) → IsEntity net k e → (c m : Bool) → bytes_eq e.class (codes "Composite") ≡ c → bytes_eq e.class (codes "Modal") ≡ m → (c || m) ≡ true → (o : Option NetDirector) → e.director ≡ o → is_some (director_of e) ≡ true
    by-class k e at true m class modal either o has =
        let st = standing-of job net placed is k e at in
        let by = named-there e st.standing st.same (composite-directed k e at class st) in
        directed-named e by.0 class by.1
    by-class k e at false true class modal either None has = directed-modal e class modal has
    by-class k e at false true class modal either (Some d) has = absurd (both_ways (bytes_eq e.class (codes "Composite")) class (director-class k e d at has))
    by-class k e at false false class modal either o has = absurd (let h : false ≡ true = either in cc)

    pub all-directed : HasDirectedComposites net
    all-directed k e at composite = by-class k e at (bytes_eq e.class (codes "Composite")) (bytes_eq e.class (codes "Modal")) refl refl composite e.director refl

  module _ (nested : IsNested (net_view net)) (rooted : IsRooted (net_view net)) (all : HasDirectedComposites net) where
    pub directed-there : (k : ℕ) (e : NetEntity) (d : NetDirector) → IsEntity net k e → e.director ≡ Some d → IsDirected e
    directed-there k e d at has = is-directed-by e d has (all k e at (director-composite k e d at has))

    -- what an entity stands in is directed
    pub holder-there : (k j : ℕ) (e : NetEntity) → IsEntity net k e → e.parent ≡ Some j → (f : NetEntity) × IsEntity net j f × (is_some (director_of f) ≡ true)
    holder-there k j e at round =
        let below = nested.parent_before k j (entity_view e) (view-at entity_view net.entities.items k e at) round in
        let w = slice_get_within net.entities.items k e at in
        let f = get-within net.entities.items j (omega (arith, w, below)) in
        (f.0, f.1, all j f.0 f.1 ((nested.entities k (entity_view e) (view-at entity_view net.entities.items k e at)).opaque j (entity_view f.0) round (view-at entity_view net.entities.items j f.0 f.1)))

    -- what is of a library stands in a composite with a director
    pub holder-directed : HasOpaqueRefinements net → (k j : ℕ) (e : NetEntity) → IsEntity net k e → e.parent ≡ Some j → is_composite_class e.class ≡ false → (f : NetEntity) × IsEntity net j f × IsDirected f
    holder-directed opaque k j e at round plain = let h = holder-there k j e at round in by-director h.0 h.1 (director_of h.0) refl h.2
      where
        by-director : (f : NetEntity) → IsEntity net j f → (o : Option Directing) → director_of f ≡ o → is_some o ≡ true → (f : NetEntity) × IsEntity net j f × IsDirected f
        by-director f there None is b = absurd (let h : false ≡ true = b in cc)
        by-director f there (Some (By director)) is b = (f, there, is-directed f director is)
        by-director f there (Some Modal) is b = absurd (both_ways (is_composite_class e.class) plain (opaque k j e f at round there is))

    pub stands-in : (k : ℕ) (e : NetEntity) → IsEntity net k e → (k ≡ 0 → ⊥) → (j : ℕ) × (e.parent ≡ Some j)
    stands-in zero e at later = absurd (later refl)
    stands-in (suc k) e at later = let r = rooted.others (suc k) (entity_view e) (omega arith) (view-at entity_view net.entities.items (suc k) e at) in (r.0, r.1)
