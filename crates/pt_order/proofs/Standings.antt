-- What stands round each entity of a document, and that its parts keep the rules.
use Rattle.std.proofs.Common.{◌≡◌, ◌⊎◌, inl, inr, ℕ, List, [], ◌∷◌, ◌++◌, Some, length, refl, subst}
use Rattle.std.proofs.lemmas.Option.{none-some}
use Rattle.std.specs.List.{slice_get}
use Rattle.pt_document.specs.Document.{EntityTree, EntityTrees, entity, no_entities, one_entity, entity_name, parts, JobTree}
use Rattle.pt_document.specs.Names.{top_path, below}
use Rattle.pt_moml.specs.Reading.{IsJobOf}
use Rattle.pt_net.specs.Standing.{Standing, Round, standing, has_director, round_in, no_round, with_entity, with_entities, entities}
use Rattle.pt_scopes.proofs.Document.{get-left, get-last, get-cases}
use Rattle.pt_order.proofs.ReadParts.{IsRead, IsReadWhole, AreRead, documents-read}

-- one of these entities is round something
pub record IsIn (all : List Standing) (round : Round) : Type 0 where
  pub outer : ℕ
  pub outer_at : Standing
  pub at : slice_get all outer ≡ Some outer_at
  pub is : round ≡ round_in outer outer_at

-- an entity is the top, or stands in one of these, and its parts are as they are read
pub record IsSeen (all : List Standing) (s : Standing) : Type 0 where
  pub directed : s.is_directed ≡ has_director (parts s.tree)
  pub read : IsRead (parts s.tree)
  pub round : (s.round ≡ no_round) ⊎ IsIn all s.round

-- so is each
abbrev pub AreSeen : List Standing → Type 0
AreSeen all = (n : ℕ) (s : Standing) → slice_get all n ≡ Some s → IsSeen all s

-- a list goes on
abbrev GoesOn : List Standing → List Standing → Type 0
GoesOn old new = (n : ℕ) (s : Standing) → slice_get old n ≡ Some s → slice_get new n ≡ Some s

stays-in : (old new : List Standing) (round : Round) → GoesOn old new → (round ≡ no_round) ⊎ IsIn old round → (round ≡ no_round) ⊎ IsIn new round
stays-in old new round g (inl top) = inl top
stays-in old new round g (inr i) = inr (record { outer = i.outer; outer_at = i.outer_at; at = g i.outer i.outer_at i.at; is = i.is })

stays-seen : (old new : List Standing) (s : Standing) → GoesOn old new → IsSeen old s → IsSeen new s
stays-seen old new s g h = record { directed = h.directed; read = h.read; round = stays-in old new s.round g h.round }

-- the parts of an entity are read
own-read : (e : EntityTree) → IsReadWhole e → IsRead (parts e)
own-read (entity own inner) r = r.0

one-more : (before : List Standing) (round : Round) (path : List ℕ) (e : EntityTree) → IsReadWhole e → AreSeen before → (round ≡ no_round) ⊎ IsIn before round → AreSeen (before ++ standing before round path e ∷ [])
one-more before round path e r all round_is n s at = elim (get-cases before st n s at) [ inl l ↦ stays-seen before now s grows (all n s l) | inr h ↦ subst (λ (x : Standing). IsSeen now x) h.1 first ]
  where
    st : Standing
    st = standing before round path e

    now : List Standing
    now = before ++ standing before round path e ∷ []

    grows : GoesOn before (before ++ standing before round path e ∷ [])
    grows = get-left before (standing before round path e ∷ [])

    first : IsSeen (before ++ standing before round path e ∷ []) (standing before round path e)
    first = record { directed = refl; read = own-read e r; round = stays-in before (before ++ standing before round path e ∷ []) round (get-left before (standing before round path e ∷ [])) round_is }

mutual
  unfolding with_entity with_entities

  entity-seen : (before : List Standing) (round : Round) (path : List ℕ) (e : EntityTree) → IsReadWhole e → AreSeen before → (round ≡ no_round) ⊎ IsIn before round → AreSeen (with_entity before round path e) × GoesOn before (with_entity before round path e)
  entity-seen before round path (entity own inner) r all round_is =
      let s = standing before round path (entity own inner) in
      let now = before ++ s ∷ [] in
      let seen : AreSeen now = one-more before round path (entity own inner) r all round_is in
      let within : IsIn now (round_in (length before) s) = record { outer = length before; outer_at = s; at = get-last before s; is = refl } in
      let rest = entities-seen now (round_in (length before) s) path inner r.1 seen (inr within) in
      (rest.0, λ n t at. rest.1 n t (get-left before (s ∷ []) n t at))

  entities-seen : (before : List Standing) (round : Round) (path : List ℕ) (es : EntityTrees) → AreRead es → AreSeen before → (round ≡ no_round) ⊎ IsIn before round → AreSeen (with_entities before round path es) × GoesOn before (with_entities before round path es)
  entities-seen before round path no_entities r all round_is = (all, λ n t at. at)
  entities-seen before round path (one_entity e es) r all round_is =
      let now = with_entity before round (below path (entity_name e)) e in
      let first = entity-seen before round (below path (entity_name e)) e r.0 all round_is in
      let rest = entities-seen now round path es r.1 first.0 (stays-in before now round first.1 round_is) in
      (rest.0, λ n t at. rest.1 n t (first.1 n t at))

pub documents-seen : (bytes : List ℕ) (job : JobTree) → IsJobOf bytes job → AreSeen (entities job)
unfolding entities
documents-seen bytes job is = (entity-seen [] no_round top_path job.model (documents-read bytes job is) (λ n s e. absurd (none-some s e)) (inl refl)).0
