-- Each entity of a document has a path that is named below each composite round it that stays in the net.
use Rattle.std.proofs.Common.{◌≡◌, ◌⊎◌, inl, inr, ℕ, zero, suc, ◌<◌, List, [], ◌∷◌, ◌++◌, Bool, true, false, cond, Option, Some, length, refl, sym, ap, subst, ◌∙◌, arith}
use Rattle.std.proofs.lemmas.Option.{none-some, same_Some, slice_get_within}
use Rattle.std.specs.List.{slice_get}
use Rattle.pt_document.specs.Document.{EntityTree, EntityTrees, entity, no_entities, one_entity, entity_name, JobTree}
use Rattle.pt_document.specs.Names.{top_path, below, is_name}
use Rattle.pt_moml.specs.Reading.{IsJobOf}
use Rattle.pt_net.specs.Standing.{Standing, Round, is_kept, standing, round_in, no_round, with_entity, with_entities, entities}
use Rattle.pt_scopes.proofs.Document.{get-left, get-last, get-cases}
use Rattle.pt_cover.proofs.Reading.{IsSound, AreSound, documents-sound}
use Rattle.pt_trace.specs.ReportForm.{IsPath}
use Rattle.pt_tellable.proofs.Names.{name-of}
use Rattle.pt_tellable.proofs.Naming.{IsNamed, named-one, named-more, path-below}

-- an entity is the top, or stands in one of these, before it, under a name
pub record IsUnder (all : List Standing) (n : ℕ) (s : Standing) : Type 0 where
  pub outer : ℕ
  pub outer_at : Standing
  pub before : outer < n
  pub at : slice_get all outer ≡ Some outer_at
  pub is : s.round ≡ round_in outer outer_at
  pub name : List ℕ
  pub named : is_name name ≡ true
  pub path : s.path ≡ below outer_at.path name

abbrev pub IsTop : Standing → Type 0
IsTop s = (s.round ≡ no_round) × (s.path ≡ top_path)

abbrev pub ArePlaced : List Standing → Type 0
ArePlaced all = (n : ℕ) (s : Standing) → slice_get all n ≡ Some s → IsTop s ⊎ IsUnder all n s

-- where the children of an entity stand
record IsIn (all : List Standing) (round : Round) (path : List ℕ) : Type 0 where
  outer : ℕ
  outer_at : Standing
  at : slice_get all outer ≡ Some outer_at
  is : round ≡ round_in outer outer_at
  same : outer_at.path ≡ path

abbrev GoesOn : List Standing → List Standing → Type 0
GoesOn old new = (n : ℕ) (s : Standing) → slice_get old n ≡ Some s → slice_get new n ≡ Some s

stays : (old new : List Standing) (n : ℕ) (s : Standing) → GoesOn old new → IsTop s ⊎ IsUnder old n s → IsTop s ⊎ IsUnder new n s
stays old new n s g (inl top) = inl top
stays old new n s g (inr u) = inr (record { outer = u.outer; outer_at = u.outer_at; before = u.before; at = g u.outer u.outer_at u.at; is = u.is; name = u.name; named = u.named; path = u.path })

-- one entity more
one-more : (before : List Standing) (round : Round) (path : List ℕ) (e : EntityTree) → ArePlaced before → IsTop (standing before round path e) ⊎ IsUnder before (length before) (standing before round path e) → ArePlaced (before ++ standing before round path e ∷ [])
one-more before round path e all here n s at = elim (get-cases before (standing before round path e) n s at) [
  | inl l ↦ stays before (before ++ standing before round path e ∷ []) n s (get-left before (standing before round path e ∷ [])) (all n s l)
  | inr h ↦ subst (λ (k : ℕ). IsTop s ⊎ IsUnder (before ++ standing before round path e ∷ []) k s) (sym h.0)
      (subst (λ (x : Standing). IsTop x ⊎ IsUnder (before ++ standing before round path e ∷ []) (length before) x) h.1 (stays before (before ++ standing before round path e ∷ []) (length before) (standing before round path e) (get-left before (standing before round path e ∷ [])) here))
]

mutual
  unfolding with_entity with_entities

  entity-placed : (before : List Standing) (round : Round) (path : List ℕ) (e : EntityTree) → IsSound e → ArePlaced before → IsTop (standing before round path e) ⊎ IsUnder before (length before) (standing before round path e) → ArePlaced (with_entity before round path e) × GoesOn before (with_entity before round path e)
  entity-placed before round path (entity own inner) sound all here =
      let s = standing before round path (entity own inner) in
      let now = before ++ s ∷ [] in
      let placed : ArePlaced now = one-more before round path (entity own inner) all here in
      let within : IsIn now (round_in (length before) s) path = record { outer = length before; outer_at = s; at = get-last before s; is = refl; same = refl } in
      let rest = entities-placed now (round_in (length before) s) path inner sound.2 placed within in
      (rest.0, λ n t at. rest.1 n t (get-left before (s ∷ []) n t at))

  entities-placed : (before : List Standing) (round : Round) (path : List ℕ) (es : EntityTrees) → AreSound es → ArePlaced before → IsIn before round path → ArePlaced (with_entities before round path es) × GoesOn before (with_entities before round path es)
  entities-placed before round path no_entities sound all within = (all, λ n t at. at)
  entities-placed before round path (one_entity e es) sound all within =
      let here : IsUnder before (length before) (standing before round (below path (entity_name e)) e) = record {
        outer = within.outer;
        outer_at = within.outer_at;
        before = slice_get_within before within.outer within.outer_at within.at;
        at = within.at;
        is = within.is;
        name = entity_name e;
        named = sound.0;
        path = ap (λ v. below v (entity_name e)) (sym within.same);
      } in
      let now = with_entity before round (below path (entity_name e)) e in
      let first = entity-placed before round (below path (entity_name e)) e sound.1 all (inr here) in
      let rest = entities-placed now round path es sound.2 first.0 (record { outer = within.outer; outer_at = within.outer_at; at = first.1 within.outer within.outer_at within.at; is = within.is; same = within.same }) in
      (rest.0, λ n t at. rest.1 n t (first.1 n t at))

pub document-placed : (bytes : List ℕ) (job : JobTree) → IsJobOf bytes job → ArePlaced (entities job)
unfolding entities
document-placed bytes job is = (entity-placed [] no_round top_path job.model (documents-sound bytes job is) (λ n s at. absurd (none-some s at)) (inl (refl, refl))).0

-- ---- names below what stays in the net

-- the composite that stays in the net and is innermost round an entity
pub record HasHolder (all : List Standing) (s : Standing) (parent : ℕ) : Type 0 where
  pub place : ℕ
  pub holder : Standing
  pub at : slice_get all place ≡ Some holder
  pub kept : is_kept holder ≡ true
  pub number : holder.number ≡ parent
  pub named : IsNamed holder.path s.path

-- what the composite is in which an entity stands, by whether the one round it stays in the net
parent-of : (s : Standing) (n : ℕ) (outer : Standing) (b : Bool) → s.round ≡ round_in n outer → is_kept outer ≡ b → s.round.parent ≡ cond b (Some outer.number) outer.round.parent
parent-of s n outer b is kept = ap (λ (r : Round). r.parent) is ∙ ap (λ (t : Bool). cond t (Option.Some outer.number) outer.round.parent) kept

module _ (all : List Standing) (placed : ArePlaced all) where
  abbrev Held : ℕ → Type 0
  Held n = (s : Standing) → slice_get all n ≡ Some s → (k : ℕ) → s.round.parent ≡ Some k → HasHolder all s k

  held-in : (n : ℕ) (s : Standing) (u : IsUnder all n s) → Held u.outer → (k : ℕ) → s.round.parent ≡ Some k → HasHolder all s k
  held-in n s u before k e = by_kept (is_kept u.outer_at) refl
    where
      by_kept : (b : Bool) → is_kept u.outer_at ≡ b → HasHolder all s k
      by_kept true kept = record {
        place = u.outer;
        holder = u.outer_at;
        at = u.at;
        kept = kept;
        number = same_Some u.outer_at.number k (sym (parent-of s u.outer u.outer_at true u.is kept) ∙ e);
        named = subst (λ v. IsNamed u.outer_at.path v) (sym u.path) (named-one u.outer_at.path u.name (name-of u.name u.named));
      }
      by_kept false left =
          let h = before u.outer_at u.at k (sym (parent-of s u.outer u.outer_at false u.is left) ∙ e) in record {
            place = h.place;
            holder = h.holder;
            at = h.at;
            kept = h.kept;
            number = h.number;
            named = subst (λ v. IsNamed h.holder.path v) (sym u.path) (named-more h.holder.path u.outer_at.path u.name h.named (name-of u.name u.named));
          }

  held-below : (bound n : ℕ) → n < bound → Held n
  held-below zero n l s at k e = absurd (omega (arith, l))
  held-below (suc b) n l s at k e = elim (placed n s at) [
    | inl top ↦ absurd (none-some k (sym (ap (λ (r : Round). r.parent) top.0) ∙ e))
    | inr u ↦ held-in n s u (held-below b u.outer (let before = u.before in omega (arith, l, before))) k e
  ]

  pub has-holder : (n : ℕ) (s : Standing) → slice_get all n ≡ Some s → (k : ℕ) → s.round.parent ≡ Some k → HasHolder all s k
  has-holder n s at k e = held-below (suc n) n (omega arith) s at k e

  -- and its path has the form of one
  formed-below : (bound n : ℕ) → n < bound → (s : Standing) → slice_get all n ≡ Some s → IsPath s.path
  formed-below zero n l s at = absurd (omega (arith, l))
  formed-below (suc b) n l s at = elim (placed n s at) [
    | inl top ↦ inl top.1
    | inr u ↦ inr (path-below u.outer_at.path s.path (formed-below b u.outer (let before = u.before in omega (arith, l, before)) u.outer_at u.at) (subst (λ v. IsNamed u.outer_at.path v) (sym u.path) (named-one u.outer_at.path u.name (name-of u.name u.named))))
  ]

  pub is-path : (n : ℕ) (s : Standing) → slice_get all n ≡ Some s → IsPath s.path
  is-path n s at = formed-below (suc n) n (omega arith) s at
