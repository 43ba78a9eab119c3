-- What the entities of a net start as, one by one.
use Rattle.std.proofs.Common.{◌≡◌, ℕ, ◌+◌, ◌<◌, inl, inr, List, [], ◌∷◌, ◌++◌, length, map, refl, sym, ap, subst, ◌∙◌, arith}
use Rattle.std.specs.List.{enumerate_from}
use Rattle.std.specs.Prelude.{Option, Some, None, option_map, slice_get}
use Rattle.std.proofs.lemmas.Bool.{cases_order}
use Rattle.std.proofs.lemmas.List.{length_push}
use Rattle.std.proofs.lemmas.Option.{none-some, same_Some, slice_get_within}
use Rattle.pt_document.specs.View.{port_view}
use Rattle.pt_net.specs.declared.net.Net.{Net}
use Rattle.pt_net.specs.declared.net.NetDirector.{NetDirector}
use Rattle.pt_net.specs.declared.net.NetEntity.{NetEntity}
use Rattle.pt_net.specs.Net.{NetEntityTree, entity_view, director_view}
use Rattle.pt_datatypes.specs.Datatype.{Datatype}
use Rattle.pt_typing.specs.Least.{Assignment}
use Rattle.pt_scopes.specs.declared.values.Values.{Values}
use Rattle.pt_library.specs.declared.library_actor.LibraryActor.{LibraryActor}
use Rattle.pt_flow_base.specs.declared.params.Params.{Params}
use Rattle.pt_library.specs.LibraryActor.{start}
use Rattle.pt_start.specs.Started.{PortTyping, type_at, ArePortTypes, IsActor, IsStart}
use Rattle.pt_start.proofs.Outward.{view-at}
use Rattle.pt_trees.specs.Trees.{IsEntity, IsUndirected, Starts, AreStarted}
use Rattle.pt_trees.proofs.DirectorLaws.{decided}
use Rattle.pt_cover.specs.Leaves.{AreStartedByClass}
use Rattle.pt_cover.proofs.Starting.{by-class}
use Rattle.pt_elaboration.specs.Resolved.{port_typing, IsStartOf, AreStartsOf}
use Rattle.pt_elaboration.proofs.Lists.{read, get-last, get-before}

-- ---- one entity

-- a library actor is one that may be started
pub is-actor : (net : Net) (k : ℕ) (e : NetEntity) → IsEntity net k e → IsUndirected e → IsActor net k
is-actor net k e at undirected = record {
  entity = entity_view e;
  at = view-at entity_view net.entities.items k e at;
  undirected = ap (option_map director_view) undirected.unnamed;
}

-- the types of its ports are those that the typing has
pub are-types : (net : Net) (typing : PortTyping) (k : ℕ) (e : NetEntity) (types : List Datatype) → IsEntity net k e → types ≡ map (type_at typing k) (enumerate_from 0 (map port_view e.ports.items)) → ArePortTypes net typing k types
are-types net typing k e types at is = λ v seen.
    let same : entity_view e ≡ v = same_Some (entity_view e) v (sym (view-at entity_view net.entities.items k e at) ∙ seen) in
    is ∙ ap (λ (t : NetEntityTree). map (type_at typing k) (enumerate_from 0 t.ports)) same

pub starts-actor : (net : Net) (values : Values) (typing : Assignment) (k : ℕ) (e : NetEntity) (s : Option LibraryActor) → IsUndirected e → IsStart net values (port_typing typing) k s → IsStartOf net values typing k e s
starts-actor net values typing k e s undirected is = record { actor = λ u. is; other = λ directed. absurd (directed undirected) }

pub starts-none : (net : Net) (values : Values) (typing : Assignment) (k : ℕ) (e : NetEntity) → (IsUndirected e → ⊥) → IsStartOf net values typing k e None
starts-none net values typing k e directed = record { actor = λ undirected. absurd (directed undirected); other = λ u. refl }

pub start-same : (n m : Net) (v w : Values) (typing : Assignment) (k : ℕ) (e : NetEntity) (s : Option LibraryActor) → n ≡ m → v ≡ w → IsStartOf n v typing k e s → IsStartOf m w typing k e s
start-same n m v w typing k e s net_is values_are is = subst (λ (x : Net). IsStartOf x w typing k e s) net_is (subst (λ (y : Values). IsStartOf n y typing k e s) values_are is)

-- ---- all entities

-- so many entities start as these
pub record AreFirst (net : Net) (values : Values) (typing : Assignment) (count : ℕ) (starts : List (Option LibraryActor)) : Type 0 where
  pub counted : length starts ≡ count
  pub each : (k : ℕ) (e : NetEntity) → k < count → IsEntity net k e → (s : Option LibraryActor) × (slice_get starts k ≡ Some s) × IsStartOf net values typing k e s

pub first-more : (net : Net) (values : Values) (typing : Assignment) (count : ℕ) (old new : List (Option LibraryActor)) (e : NetEntity) (s : Option LibraryActor) → AreFirst net values typing count old → IsEntity net count e → IsStartOf net values typing count e s → new ≡ old ++ s ∷ [] → AreFirst net values typing (count + 1) new
first-more net values typing count old new e s are at is put = subst (λ (v : List (Option LibraryActor)). AreFirst net values typing (count + 1) v) (sym put) (record { counted = longer old s are.counted; each = each })
  where
    longer : (xs : List (Option LibraryActor)) (x : Option LibraryActor) → length xs ≡ count → length (xs ++ x ∷ []) ≡ count + 1
    longer xs x h = length_push xs x ∙ ap (λ n. n + 1) h

    last : (k : ℕ) (f : NetEntity) → k ≡ count → IsEntity net k f → (t : Option LibraryActor) × (slice_get (old ++ s ∷ []) k ≡ Some t) × IsStartOf net values typing k f t
    last k f same there =
        let entity : e ≡ f = same_Some e f (sym at ∙ ap (λ i. slice_get net.entities.items i) (sym same) ∙ there) in (
          s,
          ap (λ i. slice_get (old ++ s ∷ []) i) (same ∙ sym are.counted) ∙ get-last old s,
          subst (λ g. IsStartOf net values typing k g s) entity (subst (λ i. IsStartOf net values typing i e s) (sym same) is),
        )

    before : (k : ℕ) (f : NetEntity) → k < count → IsEntity net k f → (t : Option LibraryActor) × (slice_get (old ++ s ∷ []) k ≡ Some t) × IsStartOf net values typing k f t
    before k f short there = let r = are.each k f short there in (r.0, get-before old s k r.0 r.1, r.2)

    each : (k : ℕ) (f : NetEntity) → k < count + 1 → IsEntity net k f → (t : Option LibraryActor) × (slice_get (old ++ s ∷ []) k ≡ Some t) × IsStartOf net values typing k f t
    each k f short there = elim (cases_order k count) [ inl same ↦ last k f same there | inr other ↦ elim other [ inl below ↦ before k f below there | inr above ↦ absurd (omega (arith, short, above)) ] ]

pub first-all : (net : Net) (values : Values) (typing : Assignment) (count : ℕ) (starts : List (Option LibraryActor)) → count ≡ length net.entities.items → AreFirst net values typing count starts → AreStartsOf net values typing starts
first-all net values typing count starts all are = record {
  counted = are.counted ∙ all;
  actors = λ k e at undirected. let r = are.each k e (short k e at) at in (r.0, r.1, r.2.actor undirected);
  others = λ k e at directed. let r = are.each k e (short k e at) at in r.1 ∙ ap Some (r.2.other directed);
}
  where
    short : (k : ℕ) (e : NetEntity) → IsEntity net k e → k < count
    short k e at = let h = slice_get_within net.entities.items k e at in omega (arith, all, h)

-- each actor is one that parameters of the class of its entity start
pub started-by-class : (net : Net) (values : Values) (typing : Assignment) (starts : Starts) → AreStartsOf net values typing starts.actors → AreStartedByClass net starts
started-by-class net values typing starts are k e a at is = elim (decided e) [
  | inl undirected ↦ (
      let r = are.actors k e at undirected in
      by-class net values (port_typing typing) k e a at (subst (λ (s : Option LibraryActor). IsStart net values (port_typing typing) k s) (same_Some r.0 (Some a) (sym r.1 ∙ is)) r.2))
  | inr directed ↦ (
      let none : slice_get starts.actors k ≡ Some None = are.others k e at directed in
      absurd (none-some a (same_Some None (Some a) (sym none ∙ is))))
]

-- so each is one that parameters start
pub are-started : (net : Net) (values : Values) (typing : Assignment) (starts : Starts) → AreStartsOf net values typing starts.actors → AreStarted starts
are-started net values typing starts are k a is =
    let there : k < length net.entities.items = let h = slice_get_within starts.actors k (Some a) is in omega (arith, h, are.counted) in
    let found : (e : NetEntity) × IsEntity net k e = read net.entities.items k there in
    let by = started-by-class net values typing starts are k found.0 a found.1 is in
    (by.0, by.2)
