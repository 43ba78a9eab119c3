-- What an actor is started from is that of its entity.
use Rattle.std.proofs.Common.{◌≡◌, ℕ, zero, suc, ◌+◌, ◌<◌, ◌≤◌, List, [], ◌∷◌, length, map, get_or, refl, sym, ap, ap₂, ◌∙◌, arith}
use Rattle.std.specs.Prelude.{Option, Some, None, slice_get, count_by}
use Rattle.std.specs.List.{AllZip, enumerate_from}
use Rattle.std.proofs.lemmas.Option.{slice_get_within, slice_get-get_or}
use Rattle.pt_document.specs.Document.{PortTree}
use Rattle.pt_document.specs.View.{port_view}
use Rattle.pt_net.specs.declared.net.Channel.{Channel}
use Rattle.pt_net.specs.declared.net.NetEntity.{NetEntity}
use Rattle.pt_net.specs.Net.{NetEntityTree, entity_view}
use Rattle.pt_scopes.specs.declared.values.EntityValues.{EntityValues}
use Rattle.pt_scopes.specs.Scopes.{net_view}
use Rattle.pt_scopes.specs.Valued.{IsEntityValued}
use Rattle.pt_scopes.specs.Valued as valued
use Rattle.pt_datatypes.specs.Datatype.{Datatype}
use Rattle.pt_flow_base.specs.declared.params.Params.{Params}
use Rattle.pt_library.specs.declared.library_actor.LibraryActor.{LibraryActor}
use Rattle.pt_library.specs.LibraryActor.{start}
use Rattle.pt_start.specs.declared.starts.Starts.{Starts}
use Rattle.pt_start.specs.Nested.{AreRound}
use Rattle.pt_start.specs.Started.{ends_at, counted_port, typed_port, type_at, types_of, given_tree, ArePortTypes, IsActor, IsStart, PortTyping}
use Rattle.pt_start.specs.PortTypes.{named_types}
use Rattle.pt_start.specs.Counts.{port_with}
use Rattle.pt_start.specs.Seen.{IsReady, IsMade}
use Rattle.pt_start.proofs.Outward.{zip-at, view-at}
use Rattle.pt_start.proofs.Treeless.{with_types, start-treeless, no-tree}

some-same : {A : Type 0} (x y : A) → Some x ≡ Some y → x ≡ y
some-same x y e = cc

cons-same : {A : Type 0} (x y : A) (xs ys : List A) → x ∷ xs ≡ y ∷ ys → (x ≡ y) × (xs ≡ ys)
cons-same x y xs ys e = ((cc), (cc))

map-length : {A B : Type 0} (f : A → B) (xs : List A) → length (map f xs) ≡ length xs
map-length f [] = refl
map-length f (x ∷ xs) = ap (λ n. suc n) (map-length f xs)

zip-length : {A B : Type 0} (R : A → B → Type 0) (xs : List A) (ys : List B) → AllZip R xs ys → length xs ≡ length ys
zip-length R [] [] h = refl
zip-length R [] (y ∷ ys) h = absurd h
zip-length R (x ∷ xs) [] h = absurd h
zip-length R (x ∷ xs) (y ∷ ys) h = ap (λ n. suc n) (zip-length R xs ys h.1)

-- there are values of each entity, and numbers of channels
pub number-below : (s : Starts) (k : ℕ) → IsActor s.net.now k → k < length s.net.now.entities.items
number-below s k actor =
    let short = slice_get_within (map entity_view s.net.now.entities.items) k actor.entity actor.at in
    omega (arith, short, map-length entity_view s.net.now.entities.items)

pub values-below : (s : Starts) (k : ℕ) → IsReady s → IsActor s.net.now k → k < length s.values.now.entities.items
values-below s k ready actor =
    let short = number-below s k actor in
    let same = zip-length (IsEntityValued (net_view s.net.now)) (map entity_view s.net.now.entities.items) (map valued.entity_view s.values.now.entities.items) ready.valued.entities in
    omega (arith, short, same, map-length entity_view s.net.now.entities.items, map-length valued.entity_view s.values.now.entities.items)

pub counts-below : (s : Starts) (k : ℕ) → IsReady s → IsActor s.net.now k → k < length s.counts.items
counts-below s k ready actor =
    let short = number-below s k actor in
    let same : length s.counts.items ≡ length s.net.now.entities.items = sym (map-length length s.counts.items) ∙ ap length ready.prepared.sized ∙ map-length (λ e. length e.ports.items) s.net.now.entities.items in
    omega (arith, short, same)

pub read-at : {A : Type 0} (xs : List A) (k : ℕ) (x : A) → k < length xs → x ≡ get_or xs k x → slice_get xs k ≡ Some x
read-at xs k x short is = slice_get-get_or xs k x short ∙ ap Some (sym is)

pub round-at : (s : Starts) (k : ℕ) (e : NetEntity) → IsReady s → slice_get s.net.now.entities.items k ≡ Some e → AreRound (net_view s.net.now) e.within e.parent
round-at s k e ready at = ready.nested.entities k (entity_view e) (view-at entity_view s.net.now.entities.items k e at)

sized-at : {A : Type 0} (f : A → ℕ) (es : List A) (rows : List (List ℕ)) (k : ℕ) (e : A) → map length rows ≡ map f es → slice_get es k ≡ Some e → length (get_or rows k []) ≡ f e
sized-at f [] rows k e h at = cc
sized-at f (x ∷ es) [] k e h at = cc
sized-at f (x ∷ es) (r ∷ rows) zero e h at = (cons-same (length r) (f x) (map length rows) (map f es) h).0 ∙ ap f (some-same x e at)
sized-at f (x ∷ es) (r ∷ rows) (suc k) e h at = sized-at f es rows k e (cons-same (length r) (f x) (map length rows) (map f es) h).1 at

ports-same : (ks : List Channel) (k : ℕ) (counts : List ℕ) (ps : List PortTree) (n : ℕ) → ((i : ℕ) → n ≤ i → i < n + length ps → get_or counts i 0 ≡ count_by (ends_at k i) ks) → map (port_with counts) (enumerate_from n ps) ≡ map (counted_port ks k) (enumerate_from n ps)
ports-same ks k counts [] n h = refl
ports-same ks k counts (p ∷ ps) n h = ap₂ (λ m more. (p.name, m) ∷ more) (h n (omega arith) (omega arith)) (ports-same ks k counts ps (n + 1) (λ i low high. h i (omega (arith, low)) (omega (arith, high))))

types-same : (typing : PortTyping) (k : ℕ) (ps : List PortTree) (n : ℕ) → named_types ps (map (type_at typing k) (enumerate_from n ps)) ≡ map (typed_port typing k) (enumerate_from n ps)
types-same typing k [] n = refl
types-same typing k (p ∷ ps) n = ap (λ more. (p.name, typing k n) ∷ more) (types-same typing k ps (n + 1))

module _ (s : Starts) (k : ℕ) (e : NetEntity) (vs : EntityValues) (counts : List ℕ) (types : List Datatype) (params : Params) (ready : IsReady s) (actor : IsActor s.net.now k) (at : slice_get s.net.now.entities.items k ≡ Some e) (held_at : slice_get s.values.now.entities.items k ≡ Some vs) (counts_at : counts ≡ get_or s.counts.items k []) (made : IsMade (net_view s.net.now) e vs counts types params) where
  view : slice_get (map entity_view s.net.now.entities.items) k ≡ Some (entity_view e)
  view = view-at entity_view s.net.now.entities.items k e at

  same-entity : actor.entity ≡ entity_view e
  same-entity = some-same actor.entity (entity_view e) (sym actor.at ∙ view)

  valued-so : IsEntityValued (net_view s.net.now) (entity_view e) (valued.entity_view vs)
  valued-so = zip-at (IsEntityValued (net_view s.net.now)) (map entity_view s.net.now.entities.items) (map valued.entity_view s.values.now.entities.items) k (entity_view e) (valued.entity_view vs) ready.valued.entities view (view-at valued.entity_view s.values.now.entities.items k vs held_at)

  count-is : (i : ℕ) → 0 ≤ i → i < 0 + length (map port_view e.ports.items) → get_or counts i 0 ≡ count_by (ends_at k i) s.net.now.channels.items
  count-is i low high =
      let long : length (get_or s.counts.items k []) ≡ length e.ports.items = sized-at (λ (x : NetEntity). length x.ports.items) s.net.now.entities.items s.counts.items k e ready.prepared.sized at in
      let short : i < length (get_or s.counts.items k []) = omega (arith, high, long, map-length port_view e.ports.items) in
      ap (λ (row : List ℕ). get_or row i 0) counts_at ∙ ready.prepared.counts k i short

  -- without a tree it is that of any types
  pub is-treeless : given_tree vs.parameters.items ≡ None → (found : Option LibraryActor) → found ≡ start params → (typing : PortTyping) → IsStart s.net.now s.values.now typing k found
  is-treeless none found is typing = record {
    params = with_types params (types_of typing k (entity_view e));
    started_from = record {
      entity = entity_view e;
      at = view;
      undirected = ap (λ (d : NetEntityTree). d.director) (sym same-entity) ∙ actor.undirected;
      held = vs;
      held_at = held_at;
      seen = valued-so.around;
      sees = valued-so.sees;
      from = record {
        class_is = made.class_is;
        values_are = made.values_are valued-so.around valued-so.sees;
        ports_are = made.ports_are ∙ ports-same s.net.now.channels.items k counts (map port_view e.ports.items) 0 count-is;
        types_are = refl;
        tree_is = made.tree_is;
      };
    };
    is = start-treeless params (types_of typing k (entity_view e)) (no-tree params.tree (made.tree_is ∙ none)) ∙ sym is;
  }

  pub is-start : (found : Option LibraryActor) → found ≡ start params → (typing : PortTyping) → ArePortTypes s.net.now typing k types → IsStart s.net.now s.values.now typing k found
  is-start found is typing typed = record {
    params = params;
    started_from = record {
      entity = entity_view e;
      at = view;
      undirected = ap (λ (d : NetEntityTree). d.director) (sym same-entity) ∙ actor.undirected;
      held = vs;
      held_at = held_at;
      seen = valued-so.around;
      sees = valued-so.sees;
      from = record {
        class_is = made.class_is;
        values_are = made.values_are valued-so.around valued-so.sees;
        ports_are = made.ports_are ∙ ports-same s.net.now.channels.items k counts (map port_view e.ports.items) 0 count-is;
        types_are = made.types_are ∙ ap (named_types (map port_view e.ports.items)) (typed (entity_view e) view) ∙ types-same typing k (map port_view e.ports.items) 0;
        tree_is = made.tree_is;
      };
    };
    is = sym is;
  }
