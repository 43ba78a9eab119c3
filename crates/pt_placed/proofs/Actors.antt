-- The actors of a net: what each needs, where no director of Rendezvous is round it a count for each place.
use Rattle.std.proofs.Common.{◌≡◌, inl, inr, ◌<◌, ℕ, zero, suc, List, [], ◌∷◌, false, Option, Some, None, length, get_or, refl, sym, ap, subst, ◌∙◌, arith}
use Rattle.std.specs.Prelude.{codes, option_map}
use Rattle.std.specs.List.{Contains}
use Rattle.std.proofs.lemmas.Option.{none-some, same_Some}
use Rattle.pt_meaning.specs.Machine.{Need, Counts, Any}
use Rattle.pt_document.specs.declared.code.Code.TheVariants as code
use Rattle.pt_document.specs.declared.classes.Director.{Director}
use Rattle.pt_document.specs.declared.classes.Director.TheVariants.{Rendezvous}
use Rattle.pt_document.specs.Classes.{Class, class_row, classes}
use Rattle.pt_net.specs.declared.net.Net.{Net}
use Rattle.pt_net.specs.declared.net.NetDirector.{NetDirector}
use Rattle.pt_net.specs.declared.net.NetEntity.{NetEntity}
use Rattle.pt_net.specs.Net.{NetEntityTree, director_view, entity_view}
use Rattle.pt_net.specs.Inside.{place_count}
use Rattle.pt_scopes.specs.declared.values.Values.{Values}
use Rattle.pt_scopes.specs.Scopes.{net_view, is_composite_class}
use Rattle.pt_typing.specs.Least.{Assignment}
use Rattle.pt_library.specs.declared.library_actor.LibraryActor.{LibraryActor}
use Rattle.pt_library.specs.LibraryActor.{need}
use Rattle.pt_start.specs.Places.{director_in, director_at, director_over}
use Rattle.pt_start.specs.Misplaced.{barred}
use Rattle.pt_start.specs.Started.{IsStart, ports_of}
use Rattle.pt_start.proofs.Outward.{view-at}
use Rattle.pt_trees.specs.declared.directing.Directing.TheVariants.{By}
use Rattle.pt_trees.specs.Directors.{named, IsDirectedBy}
use Rattle.pt_trees.specs.Rendezvous.{IsPlaced}
use Rattle.pt_trees.specs.Trees.{IsEntity, StartsAs, Starts}
use Rattle.pt_trees.proofs.DirectorLaws.{named-of}
use Rattle.pt_order.specs.ClassPorts.{HaveClassPorts}
use Rattle.pt_typed.specs.RowLaw.{AreStartedIn, types_of_ports}
use Rattle.pt_placed.specs.Counted.{IsCounted}
use Rattle.pt_placed.specs.Laws.{IsAllowed, IsUnder, ActorsArePlaced, ActorsAreCounted}
use Rattle.pt_placed.proofs.Places.{NeedsPlaces, actor-needs}

-- ---- needs

pub counted-placed : (places : ℕ) (n : Need) → IsCounted places n → IsPlaced places n
counted-placed places n c = subst (IsPlaced places) (sym c.is) c.counted

needs-placed : (class : List ℕ) (places : ℕ) (n : Need) → NeedsPlaces class places n → IsPlaced places n
needs-placed class places n (inl c) = counted-placed places n c
needs-placed class places n (inr m) = subst (IsPlaced places) (sym m.0) tt

-- of an actor of a net, with the class of its entity
pub its-needs : (net : Net) (values : Values) (typing : Assignment) (k : ℕ) (e : NetEntity) (a : LibraryActor) → HaveClassPorts net → IsEntity net k e → is_composite_class e.class ≡ false → IsStart net values (types_of_ports typing) k (Some a) → NeedsPlaces e.class (place_count net.channels.items k) (need a)
its-needs net values typing k e a ports at plain start =
    let from = start.started_from in
    let view : from.entity ≡ entity_view e = same_Some from.entity (entity_view e) (sym from.at ∙ view-at entity_view net.entities.items k e at) in
    let classed : start.params.class ≡ e.class = from.from.class_is ∙ ap (λ (x : NetEntityTree). x.class) view in
    subst (λ (c : List ℕ). NeedsPlaces c (place_count net.channels.items k) (need a)) classed
    (actor-needs net typing k e (ports k e at plain) start.params classed (from.from.ports_are ∙ ap (ports_of net.channels.items k) view) a start.is)

pub actors-placed : ActorsArePlaced
actors-placed net values typing starts k a order started at =
    let s = started k a at in
    needs-placed s.0.class (place_count net.channels.items k) (need a) (its-needs net values typing k s.0 a order.class_ports s.1 s.2 s.3)

-- ---- a Merge stands only under Rendezvous

abbrev directors_in : Option Class → List Director
directors_in None = []
directors_in (Some row) = row.directors

record IsOnlyMet (name : List ℕ) : Type 0 where
  row : Class
  is : class_row name ≡ Some row
  alone : row.directors ≡ Rendezvous ∷ []

only : (name : List ℕ) (o : Option Class) → class_row name ≡ o → directors_in o ≡ Rendezvous ∷ [] → IsOnlyMet name
only name None is e = absurd (let h : [] ≡ Rendezvous ∷ [] = e in cc)
only name (Some row) is e = record { row = row; is = is; alone = e }

merge-met : IsOnlyMet (codes "Merge")
unfolding class_row classes
merge-met = only (codes "Merge") (class_row (codes "Merge")) refl refl

in-one : (d : Director) → Contains (Rendezvous ∷ []) d → d ≡ Rendezvous
in-one d (zero, below, is) = sym is
in-one d (suc i, below, is) = absurd (omega (arith, below))

same-director : (o : Option NetDirector) → director_in (option_map director_view o) ≡ named o
same-director None = refl
same-director (Some d) = refl

over : (net : Net) (e : NetEntity) (director : Director) → IsUnder net e director → director_over (net_view net) (entity_view e).parent ≡ Some director
over net e director u = ap (director_over (net_view net)) u.parent ∙ ap director_at (view-at entity_view net.entities.items u.number u.owner u.at) ∙ same-director u.owner.director ∙ named-of u.owner director u.by

no-merge : (net : Net) (values : Values) (k : ℕ) (e : NetEntity) (director : Director) → IsAllowed net values → IsEntity net k e → IsUnder net e director → (director ≡ Rendezvous → ⊥) → e.class ≡ codes "Merge" → ⊥
no-merge net values k e director allowed at under other is =
    allowed code.Place k (record {
      entity = entity_view e;
      at = view-at entity_view net.entities.items k e at;
      refused = barred (record { class = merge-met.row; class_is = ap class_row is ∙ merge-met.is; director = director; over = over net e director under; barred = λ c. other (in-one director (subst (λ (ds : List Director). Contains ds director) merge-met.alone c)) });
    })

pub actors-counted : ActorsAreCounted
actors-counted net values typing starts k e a director allowed order started at starts_as under other =
    let s = started k a starts_as in
    let same : s.0 ≡ e = same_Some s.0 e (sym s.1 ∙ at) in
    by-needs (its-needs net values typing k e a order.class_ports at (ap (λ (x : NetEntity). is_composite_class x.class) (sym same) ∙ s.2) s.3)
  where
    by-needs : NeedsPlaces e.class (place_count net.channels.items k) (need a) → IsCounted (place_count net.channels.items k) (need a)
    by-needs (inl c) = c
    by-needs (inr m) = absurd (no-merge net values k e director allowed at under other m.1)
