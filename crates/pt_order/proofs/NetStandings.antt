-- Where the entities of a net stand in the document, and that their ports are those of the tables.
use Rattle.std.proofs.Common.{◌≡◌, inl, inr, ℕ, zero, suc, List, [], ◌∷◌, ◌++◌, Bool, true, false, cond, ◌||◌, Option, Some, None, map, filter, refl, sym, ap, ap₂, ◌∙◌, arith}
use Rattle.std.specs.Prelude.{option_map}
use Rattle.std.proofs.lemmas.Bool.{cases_order}
use Rattle.std.proofs.lemmas.List.{map-append}
use Rattle.std.proofs.lemmas.Option.{none-some, same_Some, slice_get-map}
use Rattle.std.specs.List.{find, list_any, slice_get}
use Rattle.pt_document.specs.declared.job.Direction.{Direction}
use Rattle.pt_document.specs.declared.job.Direction.TheVariants.{Input, Output}
use Rattle.pt_document.specs.declared.job.Port.{Port}
use Rattle.pt_document.specs.Classes.{ClassPort, Kind, Composite, Modal, Actor, kind_of}
use Rattle.pt_document.specs.Document.{PropertyTree, PortTree, Parts, parts, JobTree}
use Rattle.pt_document.specs.View.{port_view}
use Rattle.pt_net.specs.declared.net.Net.{Net}
use Rattle.pt_net.specs.declared.net.NetDirector.{NetDirector}
use Rattle.pt_net.specs.declared.net.NetEntity.{NetEntity}
use Rattle.pt_net.specs.Standing.{Standing, is_kept, is_director, has_director, entities}
use Rattle.pt_net.specs.Table.{declared_port, joined_ports, ports_of_kind, ports_of}
use Rattle.pt_net.specs.Net.{NetEntityTree, director_tree, director_view, row_port, net_ports_of_kind, net_ports, entity_tree, entity_view, IsNetOf}
use Rattle.pt_scopes.specs.Scopes.{net_view}
use Rattle.pt_scopes.proofs.Places.{place, rises, filter-place, place-count}
use Rattle.pt_cover.proofs.Walk.{ArePlaced}
use Rattle.pt_cover.proofs.Nesting.{viewed, entity-there}
use Rattle.pt_order.proofs.PlaceBlocks.{way}

-- ---- lists

filter-passes : {X : Type 0} (p : X → Bool) (xs : List X) (n : ℕ) (x : X) → slice_get (filter p xs) n ≡ Some x → p x ≡ true
filter-passes p [] n x e = absurd (none-some x e)
filter-passes {X = X} p (y ∷ xs) n x e = chosen (p y) refl n e (λ m f. filter-passes p xs m x f)
  where
    chosen : (b : Bool) → p y ≡ b → (n : ℕ) → slice_get (cond b (y ∷ filter p xs) (filter p xs)) n ≡ Some x → ((m : ℕ) → slice_get (filter p xs) m ≡ Some x → p x ≡ true) → p x ≡ true
    chosen true is zero e rest = ap p (sym (same_Some y x e)) ∙ is
    chosen true is (suc n) e rest = rest n e
    chosen false is n e rest = rest n e

one-place : {X : Type 0} (p : X → Bool) (xs : List X) (i j : ℕ) → place p xs i ≡ place p xs j → i ≡ j
one-place p xs i j e = elim (cases_order i j) [ inl same ↦ same | inr other ↦ elim other as (λ o. i ≡ j) [ inl l ↦ (let r = rises p xs i j l in absurd (omega (arith, e, r))) | inr l ↦ (let r = rises p xs j i l in absurd (omega (arith, e, r))) ] ]

find-any : {X : Type 0} (test : X → Bool) (xs : List X) (x : X) → find test xs ≡ Some x → list_any test xs ≡ true
find-any test [] x e = absurd (none-some x e)
find-any test (y ∷ xs) x e = chosen (test y) e (λ f. find-any test xs x f)
  where
    chosen : (b : Bool) → cond b (Some y) (find test xs) ≡ Some x → (find test xs ≡ Some x → list_any test xs ≡ true) → (b || list_any test xs) ≡ true
    chosen true e rest = refl
    chosen false e rest = rest e

-- ---- ports

abbrev pub port_way : Port → Direction
port_way p = p.direction

abbrev pub tree_way : PortTree → Direction
tree_way p = p.direction

viewed-ways : (ps : List Port) → map tree_way (map port_view ps) ≡ map port_way ps
viewed-ways [] = refl
viewed-ways (p ∷ ps) = ap (λ ds. p.direction ∷ ds) (viewed-ways ps)

declared-ways : (ps : List PortTree) → map tree_way ps ≡ map way (map declared_port ps)
declared-ways [] = refl
declared-ways (p ∷ ps) = ap (λ ds. p.direction ∷ ds) (declared-ways ps)

row-ways : (ps : List ClassPort) → map tree_way (map row_port ps) ≡ map way ps
row-ways [] = refl
row-ways (p ∷ ps) = ap (λ ds. p.direction ∷ ds) (row-ways ps)

joined-ways : (d : Option Direction) (ps : List PortTree) (qs : List ClassPort) → map tree_way (joined_ports d ps (map row_port qs)) ≡ map way (joined_ports d (map declared_port ps) qs)
joined-ways None ps qs = map-append tree_way ps (map row_port qs) ∙ ap₂ (λ (xs ys : List Direction). xs ++ ys) (declared-ways ps) (row-ways qs) ∙ sym (map-append way (map declared_port ps) qs)
joined-ways (Some Input) ps qs = map-append tree_way ps (map row_port qs) ∙ ap₂ (λ (xs ys : List Direction). xs ++ ys) (declared-ways ps) (row-ways qs) ∙ sym (map-append way (map declared_port ps) qs)
joined-ways (Some Output) ps qs = map-append tree_way (map row_port qs) ps ∙ ap₂ (λ (xs ys : List Direction). xs ++ ys) (row-ways qs) (declared-ways ps) ∙ sym (map-append way qs (map declared_port ps))

kind-ways : (kind : Option Kind) (ps : List PortTree) → map tree_way (net_ports_of_kind kind ps) ≡ map way (ports_of_kind kind (map declared_port ps))
kind-ways (Some (Actor class)) ps = joined-ways class.declares ps class.ports
kind-ways (Some Composite) ps = declared-ways ps
kind-ways (Some Modal) ps = declared-ways ps
kind-ways None ps = declared-ways ps

pub tree-ways : (own : Parts) → map tree_way (net_ports own) ≡ map way (ports_of own)
unfolding ports_of
tree-ways own = kind-ways (kind_of own.class) own.ports

-- ---- entities

-- an entity of the net stands here in the document
pub record IsStandingOf (all : List Standing) (k : ℕ) (e : NetEntity) : Type 0 where
  pub standing : Standing
  pub place : ℕ
  pub at : slice_get all place ≡ Some standing
  pub among : slice_get (filter is_kept all) k ≡ Some standing
  pub kept : is_kept standing ≡ true
  pub number : standing.number ≡ k
  pub same : entity_view e ≡ entity_tree standing

-- its ports have the directions of those of the tables
pub net-ways : (e : NetEntity) (s : Standing) → entity_view e ≡ entity_tree s → map port_way e.ports.items ≡ map way (ports_of (parts s.tree))
net-ways e s same = sym (viewed-ways e.ports.items) ∙ ap (λ (x : NetEntityTree). map tree_way x.ports) same ∙ tree-ways (parts s.tree)

pub port-in-net : (e : NetEntity) (s : Standing) (i : ℕ) (q : ClassPort) → entity_view e ≡ entity_tree s → slice_get (ports_of (parts s.tree)) i ≡ Some q → (p : Port) × (slice_get e.ports.items i ≡ Some p) × (p.direction ≡ q.direction)
port-in-net e s i q same at =
    viewed port_way (slice_get e.ports.items i) q.direction
    (sym (slice_get-map port_way e.ports.items i) ∙ ap (λ ds. slice_get ds i) (net-ways e s same) ∙ slice_get-map way (ports_of (parts s.tree)) i ∙ ap (λ (o : Option ClassPort). option_map way o) at)

-- where it has a director, it is directed in the document
pub is-directed : (e : NetEntity) (s : Standing) (d : NetDirector) → entity_view e ≡ entity_tree s → e.director ≡ Some d → has_director (parts s.tree) ≡ true
is-directed e s d same directed = found (find is_director (parts s.tree).properties) refl
  where
    both : option_map director_tree (find is_director (parts s.tree).properties) ≡ Some (director_view d)
    both = sym (ap (λ (x : NetEntityTree). x.director) same) ∙ ap (λ (o : Option NetDirector). option_map director_view o) directed

    found : (o : Option PropertyTree) → find is_director (parts s.tree).properties ≡ o → has_director (parts s.tree) ≡ true
    found None is = absurd (none-some (director_view d) (sym (ap (λ (o : Option PropertyTree). option_map director_tree o) is) ∙ both))
    found (Some p) is = find-any is_director (parts s.tree).properties p is

module _ (job : JobTree) (net : Net) (placed : ArePlaced (entities job)) (is : IsNetOf job net) where
  pub standing-of : (k : ℕ) (e : NetEntity) → slice_get net.entities.items k ≡ Some e → IsStandingOf (entities job) k e
  standing-of k e at =
      let all = entities job in
      let kept = filter is_kept all in
      let seen : option_map entity_tree (slice_get kept k) ≡ Some (entity_view e) = sym (slice_get-map entity_tree kept k) ∙ ap (λ (es : List NetEntityTree). slice_get es k) (sym is.each_entity) ∙ slice_get-map entity_view net.entities.items k ∙ ap (option_map entity_view) at in
      let w = viewed entity_tree (slice_get kept k) (entity_view e) seen in
      let there = filter-place is_kept all k w.0 w.1 in
      let passes = filter-passes is_kept all k w.0 w.1 in
      record {
        standing = w.0;
        place = place is_kept all k;
        at = there;
        among = w.1;
        kept = passes;
        number = one-place is_kept all w.0.number k (ap (place is_kept all) (placed (place is_kept all k) w.0 there).number ∙ place-count is_kept all (place is_kept all k) w.0 there passes);
        same = sym w.2;
      }

  -- and what stays in the net is one of its entities
  pub entity-of : (o : ℕ) (s : Standing) → slice_get (entities job) o ≡ Some s → is_kept s ≡ true → (e : NetEntity) × (slice_get net.entities.items s.number ≡ Some e) × (entity_view e ≡ entity_tree s)
  entity-of o s at kept =
      viewed entity_view (slice_get net.entities.items s.number) (entity_tree s)
      (sym (slice_get-map entity_view net.entities.items s.number) ∙ entity-there (entities job) (net_view net) placed is.each_entity is.each_transparent o s at kept)
