-- How many entities stand round each entity of a document: so many that with the levels within it they are within the limit.
use Rattle.std.proofs.Common.{◌≡◌, inl, inr, ◌≤◌, ◌+◌, ℕ, suc, List, [], ◌∷◌, ◌++◌, Some, length, refl, subst, arith}
use Rattle.std.proofs.lemmas.Option.{none-some}
use Rattle.std.specs.List.{slice_get}
use Rattle.pt_document.specs.Document.{EntityTree, EntityTrees, entity, no_entities, one_entity, entity_name, JobTree}
use Rattle.pt_document.specs.Names.{top_path, below}
use Rattle.pt_moml.specs.Reading.{IsJobOf}
use Rattle.pt_net.specs.Standing.{Standing, Round, standing, round_in, no_round, with_entity, with_entities, entities}
use Rattle.pt_scopes.proofs.Document.{get-left, get-last, get-cases}
use Rattle.pt_buildable.proofs.Depths.{levels_in, levels_of, documents-small}

-- so many of these entities are round something, each in the one before
pub data IsRoundAt (all : List Standing) : ℕ → Round → Type 0 where
  outmost : (round : Round) → round ≡ no_round → IsRoundAt all 0 round
  inside : (depth n : ℕ) (outer : Standing) (round : Round) → slice_get all n ≡ Some outer → round ≡ round_in n outer → IsRoundAt all depth outer.round → IsRoundAt all (suc depth) round

-- so many stand round it that with the levels within it they are at most this
pub record IsShallow (most : ℕ) (all : List Standing) (s : Standing) : Type 0 where
  pub depth : ℕ
  pub round : IsRoundAt all depth s.round
  pub levels : depth + levels_in s.tree ≤ most

-- so it is of each
abbrev pub AreShallow : ℕ → List Standing → Type 0
AreShallow most all = (n : ℕ) (s : Standing) → slice_get all n ≡ Some s → IsShallow most all s

abbrev GoesOn : List Standing → List Standing → Type 0
GoesOn old new = (n : ℕ) (s : Standing) → slice_get old n ≡ Some s → slice_get new n ≡ Some s

stays-at : {old new : List Standing} {depth : ℕ} {round : Round} → GoesOn old new → IsRoundAt old depth round → IsRoundAt new depth round
stays-at g (outmost round is) = outmost round is
stays-at g (inside depth n outer round at is further) = inside depth n outer round (g n outer at) is (stays-at g further)

stays-shallow : (most : ℕ) (old new : List Standing) (s : Standing) → GoesOn old new → IsShallow most old s → IsShallow most new s
stays-shallow most old new s g h = record { depth = h.depth; round = stays-at g h.round; levels = h.levels }

one-more : (most : ℕ) (before : List Standing) (depth : ℕ) (round : Round) (path : List ℕ) (e : EntityTree) → AreShallow most before → IsRoundAt before depth round → depth + levels_in e ≤ most → AreShallow most (before ++ standing before round path e ∷ [])
one-more most before depth round path e all round_is levels n s at =
    elim (get-cases before (standing before round path e) n s at) [
      | inl l ↦ stays-shallow most before (before ++ standing before round path e ∷ []) s grows (all n s l)
      | inr h ↦ subst (λ (x : Standing). IsShallow most (before ++ standing before round path e ∷ []) x) h.1 (record { depth = depth; round = stays-at grows round_is; levels = levels })
    ]
  where
    grows : GoesOn before (before ++ standing before round path e ∷ [])
    grows = get-left before (standing before round path e ∷ [])

module _ (most : ℕ) where
  mutual
    unfolding with_entity with_entities

    entity-shallow : (before : List Standing) (depth : ℕ) (round : Round) (path : List ℕ) (e : EntityTree) → AreShallow most before → IsRoundAt before depth round → depth + levels_in e ≤ most → AreShallow most (with_entity before round path e) × GoesOn before (with_entity before round path e)
    entity-shallow before depth round path (entity own inner) all round_is levels =
        let s = standing before round path (entity own inner) in
        let now = before ++ s ∷ [] in
        let shallow : AreShallow most now = one-more most before depth round path (entity own inner) all round_is levels in
        let within : IsRoundAt now (suc depth) (round_in (length before) s) = inside depth (length before) s (round_in (length before) s) (get-last before s) refl (stays-at (get-left before (s ∷ [])) round_is) in
        let rest = entities-shallow now depth (round_in (length before) s) path inner shallow within levels in
        (rest.0, λ n t at. rest.1 n t (get-left before (s ∷ []) n t at))

    -- what is in an entity below so many
    entities-shallow : (before : List Standing) (depth : ℕ) (round : Round) (path : List ℕ) (es : EntityTrees) → AreShallow most before → IsRoundAt before (suc depth) round → depth + levels_of es ≤ most → AreShallow most (with_entities before round path es) × GoesOn before (with_entities before round path es)
    entities-shallow before depth round path no_entities all round_is levels = (all, λ n t at. at)
    entities-shallow before depth round path (one_entity e es) all round_is levels =
        let now = with_entity before round (below path (entity_name e)) e in
        let first = entity-shallow before (suc depth) round (below path (entity_name e)) e all round_is (omega (arith, levels)) in
        let rest = entities-shallow now depth round path es first.0 (stays-at first.1 round_is) (omega (arith, levels)) in
        (rest.0, λ n t at. rest.1 n t (first.1 n t at))

-- The entities of a document stand below at most fifteen others.
pub documents-shallow : (bytes : List ℕ) (job : JobTree) → IsJobOf bytes job → AreShallow 15 (entities job)
unfolding entities
documents-shallow bytes job is = (entity-shallow 15 [] 0 no_round top_path job.model (λ n s e. absurd (none-some s e)) (outmost no_round refl) (omega (arith, (documents-small bytes job is).levels))).0
