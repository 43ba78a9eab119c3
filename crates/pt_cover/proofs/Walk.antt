-- The walk through a document: each entity but the top stands within one that stays in the net, and before which it isn't.
use Rattle.std.proofs.Common.{◌≡◌, ◌⊎◌, inl, inr, ◌≤◌, ◌<◌, ◌-◌, ℕ, List, [], ◌∷◌, ◌++◌, Bool, true, false, cond, Option, Some, None, length, take, refl, sym, ap, subst, ◌∙◌, arith}
use Rattle.std.specs.Prelude.{IsTrue}
use Rattle.std.proofs.lemmas.List.{length-append, take-append-le, take_at}
use Rattle.std.proofs.lemmas.Option.{none-some, same_Some, slice_get_within}
use Rattle.std.specs.List.{slice_get}
use Rattle.pt_document.specs.Document.{EntityTree, EntityTrees, entity, no_entities, one_entity, entity_name, parts, JobTree}
use Rattle.pt_document.specs.Names.{top_path, below}
use Rattle.pt_net.specs.Standing.{Standing, Round, is_kept, is_kept_as, is_composite, standing, kept_count, round_in, no_round, with_entity, with_entities, entities}
use Rattle.pt_scopes.specs.Scopes.{is_composite_class}
use Rattle.pt_scopes.proofs.Document.{get-left, get-last, get-cases}
use Rattle.pt_cover.specs.Leaves.{has_entities, HasLeafActors, HaveLeafActors, ActorsAreLeaves}

-- before this place stands an entity that stays in the net, under that number there, and that may have others within it
pub record IsHolder (all : List Standing) (n parent : ℕ) : Type 0 where
  pub place : ℕ
  pub holder : Standing
  pub before : place < n
  pub at : slice_get all place ≡ Some holder
  pub kept : is_kept holder ≡ true
  pub number_is : holder.number ≡ parent
  pub holds : IsTrue (is_composite_class (parts holder.tree).class)

-- before this place stands a transparent composite of that number, which stands in that opaque one
pub record IsLeft (all : List Standing) (n t : ℕ) (parent : Option ℕ) : Type 0 where
  pub place : ℕ
  pub left : Standing
  pub before : place < n
  pub at : slice_get all place ≡ Some left
  pub left_out : is_kept left ≡ false
  pub number_is : place - left.number ≡ t
  pub parent_is : left.round.parent ≡ parent

-- what stands round an entity stands before it
pub record IsWithin (all : List Standing) (n : ℕ) (round : Round) : Type 0 where
  pub parent : ℕ
  pub parent_is : round.parent ≡ Some parent
  pub holder : IsHolder all n parent
  pub transparent : (t : ℕ) → round.within ≡ Some t → IsLeft all n t round.parent

-- the top is the first
abbrev pub IsTop : ℕ → Round → Type 0
IsTop n round = (n ≡ 0) × (round ≡ no_round)

pub record IsPlaced (all : List Standing) (n : ℕ) (s : Standing) : Type 0 where
  pub number : s.number ≡ kept_count (take n all)
  pub round : IsTop n s.round ⊎ IsWithin all n s.round

abbrev pub ArePlaced : List Standing → Type 0
ArePlaced all = (n : ℕ) (s : Standing) → slice_get all n ≡ Some s → IsPlaced all n s

-- ---- a list that goes on

record GoesOn (old new : List Standing) : Type 0 where
  longer : length old ≤ length new
  same : (n : ℕ) (s : Standing) → slice_get old n ≡ Some s → slice_get new n ≡ Some s

goes-on : (xs : List Standing) (s : Standing) → GoesOn xs (xs ++ s ∷ [])
goes-on xs s = record { longer = omega (arith, length-append xs (s ∷ [])); same = get-left xs (s ∷ []) }

goes-further : (xs ys zs : List Standing) → GoesOn xs ys → GoesOn ys zs → GoesOn xs zs
goes-further xs ys zs f g = record { longer = omega (arith, f.longer, g.longer); same = λ n s e. g.same n s (f.same n s e) }

holder-stays : (old new : List Standing) (n m parent : ℕ) → GoesOn old new → n ≤ m → IsHolder old n parent → IsHolder new m parent
holder-stays old new n m parent g l h = record { place = h.place; holder = h.holder; before = omega (arith, h.before, l); at = g.same h.place h.holder h.at; kept = h.kept; number_is = h.number_is; holds = h.holds }

left-stays : (old new : List Standing) (n m t : ℕ) (parent : Option ℕ) → GoesOn old new → n ≤ m → IsLeft old n t parent → IsLeft new m t parent
left-stays old new n m t parent g l h = record { place = h.place; left = h.left; before = omega (arith, h.before, l); at = g.same h.place h.left h.at; left_out = h.left_out; number_is = h.number_is; parent_is = h.parent_is }

within-stays : (old new : List Standing) (n m : ℕ) (round : Round) → GoesOn old new → n ≤ m → IsWithin old n round → IsWithin new m round
within-stays old new n m round g l w = record { parent = w.parent; parent_is = w.parent_is; holder = holder-stays old new n m w.parent g l w.holder; transparent = λ t e. left-stays old new n m t round.parent g l (w.transparent t e) }

round-stays : (old new : List Standing) (n : ℕ) (round : Round) → GoesOn old new → IsTop n round ⊎ IsWithin old n round → IsTop n round ⊎ IsWithin new n round
round-stays old new n round g (inl top) = inl top
round-stays old new n round g (inr w) = inr (within-stays old new n n round g (omega arith) w)

one-more : (before : List Standing) (round : Round) (path : List ℕ) (e : EntityTree) → ArePlaced before → IsTop (length before) round ⊎ IsWithin before (length before) round → ArePlaced (before ++ standing before round path e ∷ [])
one-more before round path e all round_is n s at = elim (get-cases before st n s at) [ inl l ↦ old l | inr r ↦ new r ]
  where
    st : Standing
    st = standing before round path e

    grows : GoesOn before (before ++ st ∷ [])
    grows = goes-on before st

    old : slice_get before n ≡ Some s → IsPlaced (before ++ st ∷ []) n s
    old l =
        let p = all n s l in
        let short : n ≤ length before = omega (arith, slice_get_within before n s l) in
        record {
          number = p.number ∙ ap kept_count (sym (take-append-le n before (st ∷ []) short));
          round = round-stays before (before ++ st ∷ []) n s.round grows p.round;
        }

    first : IsPlaced (before ++ st ∷ []) (length before) st
    first = record {
      number = ap kept_count (sym (take_at before (st ∷ []) (length before) refl));
      round = round-stays before (before ++ st ∷ []) (length before) round grows round_is;
    }

    new : (n ≡ length before) × (st ≡ s) → IsPlaced (before ++ st ∷ []) n s
    new r = subst (λ (k : ℕ). IsPlaced (before ++ st ∷ []) k s) (sym r.0) (subst (λ (x : Standing). IsPlaced (before ++ st ∷ []) (length before) x) r.1 first)

-- ---- what stands round the children of an entity

-- the top stays in the net
top-kept : (n : ℕ) (s : Standing) → IsTop n s.round → is_kept s ≡ true
top-kept n s top = ap (λ (r : Round). is_kept_as r.outer (is_composite (parts s.tree)) s.is_directed) top.1

module _ (now : List Standing) (n m : ℕ) (s : Standing) (later : n < m) (at : slice_get now n ≡ Some s) (placed : IsPlaced now n s) (holds : IsTrue (is_composite_class (parts s.tree).class)) where
  in-opaque : is_kept s ≡ true → IsWithin now m (record { outer = Some n; parent = Some s.number; within = None; is_refinement = (round_in n s).is_refinement })
  in-opaque kept = record {
    parent = s.number;
    parent_is = refl;
    holder = record { place = n; holder = s; before = later; at = at; kept = kept; number_is = refl; holds = holds };
    transparent = λ t e. absurd (none-some t e);
  }

  in-transparent : is_kept s ≡ false → IsWithin now m (record { outer = Some n; parent = s.round.parent; within = Some (n - s.number); is_refinement = (round_in n s).is_refinement })
  in-transparent out = of-round placed.round
    where
      of-round : IsTop n s.round ⊎ IsWithin now n s.round → IsWithin now m (record { outer = Some n; parent = s.round.parent; within = Some (n - s.number); is_refinement = (round_in n s).is_refinement })
      of-round (inl top) = let both : true ≡ false = sym (top-kept n s top) ∙ out in absurd cc
      of-round (inr w) = record {
        parent = w.parent;
        parent_is = w.parent_is;
        holder = holder-stays now now n m w.parent (record { longer = omega arith; same = λ k x e. e }) (omega (arith, later)) w.holder;
        transparent = λ t e. record { place = n; left = s; before = later; at = at; left_out = out; number_is = same_Some (n - s.number) t e; parent_is = refl };
      }

  within-entity : IsWithin now m (round_in n s)
  within-entity = chosen (is_kept s) refl
    where
      chosen : (b : Bool) → is_kept s ≡ b → IsWithin now m (round_in n s)
      chosen true k = subst (λ (b : Bool). IsWithin now m (record { outer = Some n; parent = cond b (Some s.number) s.round.parent; within = cond b None (Some (n - s.number)); is_refinement = (round_in n s).is_refinement })) (sym k) (in-opaque k)
      chosen false k = subst (λ (b : Bool). IsWithin now m (record { outer = Some n; parent = cond b (Some s.number) s.round.parent; within = cond b None (Some (n - s.number)); is_refinement = (round_in n s).is_refinement })) (sym k) (in-transparent k)

-- ---- the walk

mutual
  unfolding with_entity with_entities

  entity-placed : (before : List Standing) (round : Round) (path : List ℕ) (e : EntityTree) → HasLeafActors e → ArePlaced before → IsTop (length before) round ⊎ IsWithin before (length before) round → ArePlaced (with_entity before round path e) × GoesOn before (with_entity before round path e)
  entity-placed before round path (entity own inner) leaves all round_is =
      let s = standing before round path (entity own inner) in
      let now = before ++ s ∷ [] in
      let placed : ArePlaced now = one-more before round path (entity own inner) all round_is in
      let at : slice_get now (length before) ≡ Some s = get-last before s in
      let later : length before < length now = omega (arith, length-append before (s ∷ [])) in
      let rest = entities-placed now (round_in (length before) s) path inner leaves.1 placed (λ some. within-entity now (length before) (length now) s later at (placed (length before) s at) (leaves.0 some)) in
      (rest.0, goes-further before now (with_entities now (round_in (length before) s) path inner) (goes-on before s) rest.1)

  entities-placed : (before : List Standing) (round : Round) (path : List ℕ) (es : EntityTrees) → HaveLeafActors es → ArePlaced before → (IsTrue (has_entities es) → IsWithin before (length before) round) → ArePlaced (with_entities before round path es) × GoesOn before (with_entities before round path es)
  entities-placed before round path no_entities leaves all round_is = (all, record { longer = omega arith; same = λ n s e. e })
  entities-placed before round path (one_entity e es) leaves all round_is =
      let now = with_entity before round (below path (entity_name e)) e in
      let first = entity-placed before round (below path (entity_name e)) e leaves.0 all (inr (round_is refl)) in
      let rest = entities-placed now round path es leaves.1 first.0 (λ some. within-stays before now (length before) (length now) round first.1 first.1.longer (round_is refl)) in
      (rest.0, goes-further before now (with_entities now round path es) first.1 rest.1)

pub all-placed : (job : JobTree) → ActorsAreLeaves job → ArePlaced (entities job)
unfolding entities
all-placed job leaves = (entity-placed [] no_round top_path job.model leaves (λ n s e. absurd (none-some s e)) (inl (refl, refl))).0
