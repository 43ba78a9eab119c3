-- The entities of a job, in the order of the document.
use Rattle.std.specs.Prelude.{ℕ, ◌-◌, List, [], ◌∷◌, ◌++◌, length, Bool, false, not, ◌&&◌, ◌||◌, Option, Some, None, is_some, if◌then◌else◌, bytes_eq, codes}
use Rattle.std.specs.List.{list_any, count_by}
use Rattle.std.specs.Option.{is_none}
use Rattle.pt_document.specs.Document.{PropertyTree, property_name, property_class, Parts, EntityTree, EntityTrees, entity, no_entities, one_entity, parts, entity_name, JobTree}
use Rattle.pt_document.specs.Classes.{director_row}
use Rattle.pt_document.specs.Names.{is_layout, top_path, below}

-- a property of this class is a director
abbrev pub names_director : Option (List ℕ) → Bool
names_director None = false
names_director (Some class) = is_some (director_row class)

-- a property is the director of its composite
abbrev pub is_director : PropertyTree → Bool
is_director p = not (is_layout (property_name p)) && names_director (property_class p)

abbrev pub has_director : Parts → Bool
has_director own = list_any is_director own.properties

abbrev pub is_composite : Parts → Bool
is_composite own = bytes_eq own.class (codes "Composite")

abbrev pub is_modal : Parts → Bool
is_modal own = bytes_eq own.class (codes "Modal")

-- an entity stays in the net, as a library actor or an opaque composite: the top always, and of the others those that aren't
-- Composites without a director
abbrev pub is_kept_as : Option ℕ → Bool → Bool → Bool
is_kept_as outer composite directed = is_none outer || not composite || directed

-- what stands round an entity: the entity that it is a child of, by its number in the document; the innermost one that stays in
-- the net, by its number there; where the entity is a child of a transparent composite, the number of that one; and whether
-- it is a refinement, a child of a Modal entity
pub record Round : Type 0 where
  pub outer : Option ℕ
  pub parent : Option ℕ
  pub within : Option ℕ
  pub is_refinement : Bool

-- an entity where it stands: what is round it; its number in the net, the entities before it that stay there; whether it has
-- a director; its path; and what it is
pub record Standing : Type 0 where
  pub round : Round
  pub number : ℕ
  pub is_directed : Bool
  pub path : List ℕ
  pub tree : EntityTree

-- an entity is opaque: a library actor, a Composite with a director or a Modal, and so any but a Composite without a director
abbrev pub is_opaque : Standing → Bool
is_opaque s = not (is_composite (parts s.tree)) || s.is_directed

abbrev pub is_kept : Standing → Bool
is_kept s = is_kept_as s.round.outer (is_composite (parts s.tree)) s.is_directed

-- those of them that stay in the net
abbrev pub kept_count : List Standing → ℕ
kept_count all = count_by is_kept all

-- an entity behind those before it
abbrev pub standing : List Standing → Round → List ℕ → EntityTree → Standing
standing before round path e = record { round = round; number = kept_count before; is_directed = has_director (parts e); path = path; tree = e }

-- what stands round the children of an entity of this number in the document
abbrev pub round_in : ℕ → Standing → Round
round_in n s =
    record { outer = Some n; parent = if is_kept s then Some s.number else s.round.parent; within = if is_kept s then None else Some (n - s.number); is_refinement = is_modal (parts s.tree) }

-- after the entities before it, an entity and all that are in it
unfoldable mutual
  pub with_entity : List Standing → Round → List ℕ → EntityTree → List Standing
  with_entity before round path (entity own inner) =
      let s = standing before round path (entity own inner) in
      with_entities (before ++ s ∷ []) (round_in (length before) s) path inner

  -- the same for each of the children of an entity
  pub with_entities : List Standing → Round → List ℕ → EntityTrees → List Standing
  with_entities before round path no_entities = before
  with_entities before round path (one_entity e es) =
      with_entities (with_entity before round (below path (entity_name e)) e) round path es

-- nothing stands round the top
abbrev pub no_round : Round
no_round = record { outer = None; parent = None; within = None; is_refinement = false }

-- the entities of a job: the top, and each other one behind the entity round it
unfoldable pub entities : JobTree → List Standing
entities job = with_entity [] no_round top_path job.model
