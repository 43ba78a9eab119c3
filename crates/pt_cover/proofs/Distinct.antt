-- No two entities of a document have one path: the names of what is within one entity differ, and a name has no dot.
use Rattle.std.proofs.Common.{◌≡◌, ◌⊎◌, inl, inr, ◌<◌, ℕ, List, [], ◌∷◌, ◌++◌, Bool, true, false, cond, ◌&&◌, ◌||◌, Some, length, filter, option_map, nat_lt, nat_le, slice_index, codes, bytes_eq, refl, sym, ap, subst, ◌∙◌, arith, length-append, append_assoc, append-nil}
use Rattle.std.proofs.lemmas.List.{append_cancel_left}
use Rattle.std.proofs.lemmas.List.Folds.{list_any-append}
use Rattle.std.proofs.lemmas.Option.{none-some, slice_get-map}
use Rattle.std.proofs.lemmas.Bool.{cases_order, ltb-true}
use Rattle.std.proofs.lemmas.Slice.Eq.{bytes_eq-Decides}
use Rattle.std.specs.List.{list_all, list_any, slice_get}
use Rattle.pt_document.specs.Document.{EntityTree, EntityTrees, entity, no_entities, one_entity, entity_name, JobTree}
use Rattle.pt_document.specs.Names.{is_first, is_later, is_name, has_name, are_distinct_after, top_path, below}
use Rattle.pt_moml.specs.Reading.{IsJobOf}
use Rattle.pt_net.specs.declared.net.Net.{Net}
use Rattle.pt_net.specs.declared.net.NetEntity.{NetEntity}
use Rattle.pt_net.specs.Standing.{Standing, Round, is_kept, standing, round_in, no_round, with_entity, with_entities, entities}
use Rattle.pt_net.specs.Net.{NetEntityTree, entity_view, entity_tree, IsNetOf}
use Rattle.pt_scopes.proofs.Document.{get-cases}
use Rattle.pt_scopes.proofs.Places.{place, rises, filter-place}
use Rattle.pt_trees.specs.Trees.{IsEntity}
use Rattle.pt_cover.proofs.Reading.{IsSound, AreSound, names_of, documents-sound}
use Rattle.pt_cover.proofs.Nesting.{viewed}

-- ---- names

-- no character is a dot
abbrev HasNoDot : List ℕ → Type 0
HasNoDot [] = Unit {0}
HasNoDot (c ∷ n) = (c ≡ 46 → ⊥) × HasNoDot n

-- a text without dots that isn't empty
record IsPlain (n : List ℕ) : Type 0 where
  dotless : HasNoDot n
  some : 0 < length n

no-dot : (n : List ℕ) → list_all is_later n ≡ true → HasNoDot n
no-dot [] e = tt
no-dot (c ∷ n) e = of-first (is_later c) refl e (λ f. no-dot n f)
  where
    of-first : (b : Bool) → is_later c ≡ b → (b && list_all is_later n) ≡ true → (list_all is_later n ≡ true → HasNoDot n) → HasNoDot (c ∷ n)
    of-first true is f rest = (λ dot. (let both : false ≡ true = sym (ap is_later dot) ∙ is in cc), rest f)
    of-first false is f rest = absurd cc

and-left : (a b : Bool) → (a && b) ≡ true → a ≡ true
and-left true b e = refl
and-left false b e = absurd cc

and-right : (a b : Bool) → (a && b) ≡ true → b ≡ true
and-right true b e = e
and-right false b e = absurd cc

plain-name : (n : List ℕ) → is_name n ≡ true → IsPlain n
unfolding is_name
plain-name n e =
    let all = and-right (nat_lt 0 (length n) && nat_le (length n) 64 && is_first (slice_index n 0)) (list_all is_later n) e in
    let first = and-left (nat_lt 0 (length n) && nat_le (length n) 64 && is_first (slice_index n 0)) (list_all is_later n) e in
    let short = and-left (nat_lt 0 (length n) && nat_le (length n) 64) (is_first (slice_index n 0)) first in
    record { dotless = no-dot n all; some = ltb-true 0 (length n) (and-left (nat_lt 0 (length n)) (nat_le (length n) 64) short) }

-- a text that begins with this one, and goes on with a dot if it goes on
abbrev IsTail : List ℕ → Type 0
IsTail [] = Unit {0}
IsTail (c ∷ r) = c ≡ 46

abbrev IsUnder : List ℕ → List ℕ → Type 0
IsUnder path text = (r : List ℕ) × (text ≡ path ++ r) × IsTail r

one-name : (n m r s : List ℕ) → HasNoDot n → HasNoDot m → IsTail r → IsTail s → n ++ r ≡ m ++ s → n ≡ m
one-name [] [] r s a b t u e = refl
one-name [] (d ∷ m) [] s a b t u e = absurd cc
one-name [] (d ∷ m) (c ∷ r) s a b t u e = let same : c ≡ d = cc in absurd (b.0 (sym same ∙ t))
one-name (c ∷ n) [] r [] a b t u e = absurd cc
one-name (c ∷ n) [] r (d ∷ s) a b t u e = let same : c ≡ d = cc in absurd (a.0 (same ∙ u))
one-name (c ∷ n) (d ∷ m) r s a b t u e =
    let first : c ≡ d = cc in
    let more : n ++ r ≡ m ++ s = cc in
    let rest : n ≡ m = one-name n m r s a.1 b.1 t u more in
    cc

-- ---- paths

dotted : (path name : List ℕ) → path ++ codes "." ++ name ≡ path ++ 46 ∷ name
dotted path name = append_assoc path (codes ".") name

-- the path of what is in the top is its name, and further in it is the path of what it is in, a dot and its name
below-cases : (path name : List ℕ) → ((path ≡ top_path) × (below path name ≡ name)) ⊎ ((path ≡ top_path → ⊥) × (below path name ≡ path ++ 46 ∷ name))
unfolding below
below-cases path name = chosen (bytes_eq path top_path) refl
  where
    chosen : (b : Bool) → bytes_eq path top_path ≡ b → ((path ≡ top_path) × (cond b name (path ++ codes "." ++ name) ≡ name)) ⊎ ((path ≡ top_path → ⊥) × (cond b name (path ++ codes "." ++ name) ≡ path ++ 46 ∷ name))
    chosen true is = inl ((bytes_eq-Decides path top_path).0 is, refl)
    chosen false is = inr (λ e. (let both : false ≡ true = sym is ∙ (bytes_eq-Decides path top_path).1 e in cc), dotted path name)

not-top : (path name : List ℕ) → IsPlain name → below path name ≡ top_path → ⊥
not-top path name plain e = elim (below-cases path name) [ inl a ↦ plain-not-dot name plain (sym a.1 ∙ e) | inr b ↦ (let l = ap length (sym b.1 ∙ e) in let k = length-append path (46 ∷ name) in omega (arith, plain.some, l, k)) ]
  where
    plain-not-dot : (n : List ℕ) → IsPlain n → n ≡ top_path → ⊥
    plain-not-dot [] p f = omega (arith, p.some)
    plain-not-dot (c ∷ n) p f = let first : c ≡ 46 = cc in p.dotless.0 first

-- what is within an entity has another path
not-itself : (path name : List ℕ) → IsPlain name → IsUnder (below path name) path → ⊥
not-itself path name plain u = elim (below-cases path name) [
  | inl a ↦ no-dot-first name u.0 plain (sym a.0 ∙ u.1 ∙ ap (λ (b : List ℕ). b ++ u.0) a.1)
  | inr b ↦ (let l = ap length (u.1 ∙ ap (λ (b : List ℕ). b ++ u.0) b.1) in let k = length-append (path ++ 46 ∷ name) u.0 in let j = length-append path (46 ∷ name) in omega (arith, l, k, j))
]
  where
    no-dot-first : (n r : List ℕ) → IsPlain n → top_path ≡ n ++ r → ⊥
    no-dot-first [] r p f = omega (arith, p.some)
    no-dot-first (c ∷ n) r p f = let first : 46 ≡ c = cc in p.dotless.0 (sym first)

-- but one that goes on from its own
under-further : (path name text : List ℕ) → (path ≡ top_path → ⊥) → IsUnder (below path name) text → IsUnder path text
under-further path name text inner u = elim (below-cases path name) [ inl a ↦ absurd (inner a.0) | inr b ↦ (46 ∷ (name ++ u.0), u.1 ∙ ap (λ (t : List ℕ). t ++ u.0) b.1 ∙ append_assoc path (46 ∷ name) u.0, refl) ]

-- what goes on from two paths in one entity has one name there
one-child : (path n m text : List ℕ) → IsPlain n → IsPlain m → IsUnder (below path n) text → IsUnder (below path m) text → n ≡ m
one-child path n m text p q u v = elim (below-cases path n) [ inl a ↦ in-top a.0 | inr b ↦ further b.0 ]
  where
    both : below path n ++ u.0 ≡ below path m ++ v.0
    both = sym u.1 ∙ v.1

    in-top : path ≡ top_path → n ≡ m
    in-top top = elim (below-cases path n) [
      | inl a ↦ elim (below-cases path m) [ inl b ↦ one-name n m u.0 v.0 p.dotless q.dotless u.2 v.2 (sym (ap (λ (t : List ℕ). t ++ u.0) a.1) ∙ both ∙ ap (λ (t : List ℕ). t ++ v.0) b.1) | inr b ↦ absurd (b.0 top) ]
      | inr a ↦ absurd (a.0 top)
    ]

    further : (path ≡ top_path → ⊥) → n ≡ m
    further inner = elim (below-cases path n) [
      | inl a ↦ absurd (inner a.0)
      | inr a ↦ elim (below-cases path m) [
        | inl b ↦ absurd (inner b.0)
        | inr b ↦ (let whole : path ++ (46 ∷ (n ++ u.0)) ≡ path ++ (46 ∷ (m ++ v.0)) = sym (append_assoc path (46 ∷ n) u.0) ∙ sym (ap (λ (t : List ℕ). t ++ u.0) a.1) ∙ both ∙ ap (λ (t : List ℕ). t ++ v.0) b.1 ∙ append_assoc path (46 ∷ m) v.0 in
            let rest = append_cancel_left path (46 ∷ (n ++ u.0)) (46 ∷ (m ++ v.0)) whole in
            let tails : n ++ u.0 ≡ m ++ v.0 = cc in
            one-name n m u.0 v.0 p.dotless q.dotless u.2 v.2 tails)
      ]
    ]

-- ---- names within one entity

-- the name is none of these
abbrev Differs : List ℕ → List (List ℕ) → Type 0
Differs n [] = Unit {0}
Differs n (m ∷ ms) = (n ≡ m → ⊥) × Differs n ms

or-left : (a b : Bool) → a ≡ true → (a || b) ≡ true
or-left true b e = refl
or-left false b e = absurd cc

or-right : (a b : Bool) → b ≡ true → (a || b) ≡ true
or-right true b e = refl
or-right false b e = e

differs-seen : (seen : List (List ℕ)) (n : List ℕ) (ms : List (List ℕ)) → has_name seen n ≡ true → are_distinct_after seen ms ≡ true → Differs n ms
differs-seen seen n [] here e = tt
differs-seen seen n (m ∷ ms) here e = chosen (has_name seen m) refl e (λ h. differs-seen (seen ++ m ∷ []) n ms kept h)
  where
    kept : has_name (seen ++ m ∷ []) n ≡ true
    kept = list_any-append (bytes_eq n) seen (m ∷ []) ∙ or-left (list_any (bytes_eq n) seen) (list_any (bytes_eq n) (m ∷ [])) here

    chosen : (b : Bool) → has_name seen m ≡ b → cond b false (are_distinct_after (seen ++ m ∷ []) ms) ≡ true → (are_distinct_after (seen ++ m ∷ []) ms ≡ true → Differs n ms) → Differs n (m ∷ ms)
    chosen true is e rest = absurd cc
    chosen false is e rest = (λ same. (let both : false ≡ true = sym is ∙ sym (ap (has_name seen) same) ∙ here in cc), rest e)

distinct-first : (seen : List (List ℕ)) (n : List ℕ) (ms : List (List ℕ)) → are_distinct_after seen (n ∷ ms) ≡ true → Differs n ms × (are_distinct_after (seen ++ n ∷ []) ms ≡ true)
distinct-first seen n ms e = chosen (has_name seen n) e
  where
    last : has_name (seen ++ n ∷ []) n ≡ true
    last = list_any-append (bytes_eq n) seen (n ∷ []) ∙ or-right (list_any (bytes_eq n) seen) (list_any (bytes_eq n) (n ∷ [])) (or-left (bytes_eq n n) false ((bytes_eq-Decides n n).1 refl))

    chosen : (b : Bool) → cond b false (are_distinct_after (seen ++ n ∷ []) ms) ≡ true → Differs n ms × (are_distinct_after (seen ++ n ∷ []) ms ≡ true)
    chosen true e = absurd cc
    chosen false e = (differs-seen (seen ++ n ∷ []) n ms last e, e)

-- ---- the walk

abbrev IsAt : List Standing → ℕ → Standing → Type 0
IsAt all n s = slice_get all n ≡ Some s

-- no two of them have one path
abbrev AreApart : List Standing → Type 0
AreApart all = (n m : ℕ) (s t : Standing) → IsAt all n s → IsAt all m t → s.path ≡ t.path → n ≡ m

-- the text goes on from the path of one of these in an entity
abbrev IsUnderOne : List ℕ → EntityTrees → List ℕ → Type 0
IsUnderOne path no_entities text = ⊥
IsUnderOne path (one_entity e es) text = IsUnder (below path (entity_name e)) text ⊎ IsUnderOne path es text

-- the text goes on from the path of something of a plain name in an entity
abbrev IsInside : List ℕ → List ℕ → Type 0
IsInside path text = (name : List ℕ) × IsPlain name × IsUnder (below path name) text

under-inside : (path : List ℕ) (es : EntityTrees) (text : List ℕ) → AreSound es → IsUnderOne path es text → IsInside path text
under-inside path no_entities text s u = absurd u
under-inside path (one_entity e es) text s (inl u) = (entity_name e, plain-name (entity_name e) s.0, u)
under-inside path (one_entity e es) text s (inr u) = under-inside path es text s.2 u

-- of two in one entity
not-both : (path n : List ℕ) (es : EntityTrees) (text : List ℕ) → IsPlain n → AreSound es → Differs n (names_of es) → IsUnder (below path n) text → IsUnderOne path es text → ⊥
not-both path n no_entities text p s d u v = v
not-both path n (one_entity e es) text p s d u (inl v) = d.0 (one-child path n (entity_name e) text p (plain-name (entity_name e) s.0) u v)
not-both path n (one_entity e es) text p s d u (inr v) = not-both path n es text p s.2 d.1 u v

apart-push : (before : List Standing) (st : Standing) → AreApart before → ((n : ℕ) (s : Standing) → IsAt before n s → s.path ≡ st.path → ⊥) → AreApart (before ++ st ∷ [])
apart-push before st apart new n m s t at there same = of-both (get-cases before st n s at) (get-cases before st m t there)
  where
    of-both : (IsAt before n s ⊎ ((n ≡ length before) × (st ≡ s))) → (IsAt before m t ⊎ ((m ≡ length before) × (st ≡ t))) → n ≡ m
    of-both (inl a) (inl b) = apart n m s t a b same
    of-both (inl a) (inr b) = absurd (new n s a (same ∙ sym (ap (λ (x : Standing). x.path) b.1)))
    of-both (inr a) (inl b) = absurd (new m t b (sym same ∙ sym (ap (λ (x : Standing). x.path) a.1)))
    of-both (inr a) (inr b) = a.0 ∙ sym b.0

-- the paths of what is new
abbrev AreNew : (before all : List Standing) → (List ℕ → Type 0) → Type 0
AreNew before all P = (n : ℕ) (s : Standing) → IsAt all n s → IsAt before n s ⊎ P s.path

-- no path of these is such
abbrev AreOther : List Standing → (List ℕ → Type 0) → Type 0
AreOther all P = (n : ℕ) (s : Standing) → IsAt all n s → P s.path → ⊥

-- the path of an entity, or one within
abbrev IsOf : List ℕ → List ℕ → Type 0
IsOf path text = (text ≡ path) ⊎ IsInside path text

of-under : (path text : List ℕ) → (path ≡ top_path → ⊥) → IsOf path text → IsUnder path text
of-under path text inner (inl e) = ([], e ∙ sym (append-nil path), tt)
of-under path text inner (inr i) = under-further path i.0 text inner i.2

-- what stands so far has no path of what is within, nor has the entity itself
now-other : (before : List Standing) (st : Standing) (path : List ℕ) (es : EntityTrees) → AreSound es → st.path ≡ path → AreOther before (IsOf path) → (n : ℕ) (s : Standing) → IsAt before n s ⊎ ((n ≡ length before) × (st ≡ s)) → IsUnderOne path es s.path → ⊥
now-other before st path es sound own other n s (inl at) u = other n s at (inr (under-inside path es s.path sound u))
now-other before st path es sound own other n s (inr new) u =
    let i = under-inside path es s.path sound u in
    let here : s.path ≡ path = sym (ap (λ (x : Standing). x.path) new.1) ∙ own in
    not-itself path i.0 i.1 (subst (λ (t : List ℕ). IsUnder (below path i.0) t) here i.2)

of-new : (before : List Standing) (st : Standing) (path : List ℕ) (es : EntityTrees) → AreSound es → st.path ≡ path → (n : ℕ) (s : Standing) → IsAt (before ++ st ∷ []) n s ⊎ IsUnderOne path es s.path → IsAt before n s ⊎ IsOf path s.path
of-new before st path es sound own n s (inr u) = inr (inr (under-inside path es s.path sound u))
of-new before st path es sound own n s (inl at) = elim (get-cases before st n s at) [ inl old ↦ inl old | inr new ↦ inr (inl (sym (ap (λ (x : Standing). x.path) new.1) ∙ own)) ]

-- and none of what is within the next ones
still-other : (before : List Standing) (path name : List ℕ) (es : EntityTrees) → IsPlain name → AreSound es → Differs name (names_of es) → (below path name ≡ top_path → ⊥) → AreOther before (IsUnderOne path es) → (n : ℕ) (s : Standing) → IsAt before n s ⊎ IsOf (below path name) s.path → IsUnderOne path es s.path → ⊥
still-other before path name es plain sound differ inner other n s (inl at) u = other n s at u
still-other before path name es plain sound differ inner other n s (inr o) u = not-both path name es s.path plain sound differ (of-under (below path name) s.path inner o) u

of-rest : (before now : List Standing) (path : List ℕ) (e : EntityTree) (es : EntityTrees) → (below path (entity_name e) ≡ top_path → ⊥) → (n : ℕ) (s : Standing) → AreNew before now (IsOf (below path (entity_name e))) → IsAt now n s ⊎ IsUnderOne path es s.path → IsAt before n s ⊎ IsUnderOne path (one_entity e es) s.path
of-rest before now path e es inner n s first (inr u) = inr (inr u)
of-rest before now path e es inner n s first (inl at) = elim (first n s at) [ inl old ↦ inl old | inr o ↦ inr (inl (of-under (below path (entity_name e)) s.path inner o)) ]

mutual
  unfolding with_entity with_entities

  entity-apart : (before : List Standing) (round : Round) (path : List ℕ) (e : EntityTree) → IsSound e → AreApart before → AreOther before (IsOf path) → AreApart (with_entity before round path e) × AreNew before (with_entity before round path e) (IsOf path)
  entity-apart before round path (entity own inner) sound apart other =
      let s = standing before round path (entity own inner) in
      let now = before ++ s ∷ [] in
      let so_far : AreApart now = apart-push before s apart (λ n t at same. other n t at (inl same)) in
      let fresh : AreOther now (IsUnderOne path inner) = (λ n t at u. now-other before s path inner sound.2 refl other n t (get-cases before s n t at) u) in
      let rest = entities-apart now (round_in (length before) s) path inner [] sound.2 sound.1 so_far fresh in
      (rest.0, λ n t at. of-new before s path inner sound.2 refl n t (rest.1 n t at))

  entities-apart : (before : List Standing) (round : Round) (path : List ℕ) (es : EntityTrees) (seen : List (List ℕ)) → AreSound es → are_distinct_after seen (names_of es) ≡ true → AreApart before → AreOther before (IsUnderOne path es) → AreApart (with_entities before round path es) × AreNew before (with_entities before round path es) (IsUnderOne path es)
  entities-apart before round path no_entities seen sound distinct apart other = (apart, λ n s at. inl at)
  entities-apart before round path (one_entity e es) seen sound distinct apart other =
      let name = entity_name e in
      let now = with_entity before round (below path name) e in
      let plain = plain-name name sound.0 in
      let differ = distinct-first seen name (names_of es) distinct in
      let inner = not-top path name plain in
      let first = entity-apart before round (below path name) e sound.1 apart (λ n s at o. other n s at (inl (of-under (below path name) s.path inner o))) in
      let fresh : AreOther now (IsUnderOne path es) = (λ n s at u. still-other before path name es plain sound.2 differ.0 inner (λ m t old v. other m t old (inr v)) n s (first.1 n s at) u) in
      let rest = entities-apart now round path es (seen ++ name ∷ []) sound.2 differ.1 first.0 fresh in
      (rest.0, λ n s at. of-rest before now path e es inner n s first.1 (rest.1 n s at))

-- ---- the law

document-apart : (bytes : List ℕ) (job : JobTree) → IsJobOf bytes job → AreApart (entities job)
unfolding entities
document-apart bytes job is = (entity-apart [] no_round top_path job.model (documents-sound bytes job is) (λ n m s t at there same. absurd (none-some s at)) (λ n s at o. none-some s at)).0

-- where an entity of the net stands in the document
standing-of : (job : JobTree) (net : Net) (k : ℕ) (e : NetEntity) → IsNetOf job net → IsEntity net k e → (s : Standing) × IsAt (entities job) (place is_kept (entities job) k) s × (s.path ≡ e.path)
standing-of job net k e is at =
    let kept = filter is_kept (entities job) in
    let seen : option_map entity_tree (slice_get kept k) ≡ Some (entity_view e) = sym (slice_get-map entity_tree kept k) ∙ ap (λ (es : List NetEntityTree). slice_get es k) (sym is.each_entity) ∙ slice_get-map entity_view net.entities.items k ∙ ap (option_map entity_view) at in
    let w = viewed entity_tree (slice_get kept k) (entity_view e) seen in
    (w.0, filter-place is_kept (entities job) k w.0 w.1, ap (λ (x : NetEntityTree). x.path) w.2)

one-place : {X : Type 0} (p : X → Bool) (xs : List X) (i j : ℕ) → place p xs i ≡ place p xs j → i ≡ j
one-place p xs i j e = elim (cases_order i j) [ inl same ↦ same | inr other ↦ elim other as (λ o. i ≡ j) [ inl l ↦ (let r = rises p xs i j l in absurd (omega (arith, e, r))) | inr l ↦ (let r = rises p xs j i l in absurd (omega (arith, e, r))) ] ]

pub paths-apart : (bytes : List ℕ) (job : JobTree) (net : Net) → IsJobOf bytes job → IsNetOf job net → (k j : ℕ) (e d : NetEntity) → IsEntity net k e → IsEntity net j d → e.path ≡ d.path → k ≡ j
paths-apart bytes job net read is k j e d at there same =
    let s = standing-of job net k e is at in
    let t = standing-of job net j d is there in
    one-place is_kept (entities job) k j (document-apart bytes job read (place is_kept (entities job) k) (place is_kept (entities job) j) s.0 t.0 s.1 t.1 (s.2 ∙ same ∙ sym t.2))
