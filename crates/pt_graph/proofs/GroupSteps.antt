-- Groups, one step on.
use Rattle.std.proofs.Common.{◌≡◌, ◌≢◌, ℕ, ◌+◌, ◌<◌, ◌≤◌, ◌⊎◌, inl, inr, List, [], ◌++◌, length, get_or, set, refl, sym, ap, subst, ◌∙◌, arith, get_or-set_other, get_or-set_same, length-set}
use Rattle.std.proofs.lemmas.Bool.{cases_eq}
use Rattle.std.proofs.lemmas.List.{get_or_default}
use Rattle.std.proofs.lemmas.List.Elements.{All-contains, Contains-append_left, Contains-append_right, Contains-append_cases}
use Rattle.std.specs.List.{All, Contains}
use Rattle.pt_net.specs.Joined.{Joined, here, along, against, Pairs, IsGrouping}
use Rattle.pt_graph.specs.Groups.{members, Agree, Relabels, Moves, Merges}

-- the things before i got the group, and no others changed theirs
pub record RelabelsFirst (i : ℕ) (things : List ℕ) (to : ℕ) (old new : List ℕ) : Type 0 where
  pub each : (k : ℕ) → k < i → get_or new (get_or things k 0) 0 ≡ to
  pub others : (t : ℕ) → (get_or new t 0 ≡ get_or old t 0) ⊎ (Contains things t × (get_or new t 0 ≡ to))

-- a group's members got another group, and went to its row
pub members_within : (count from : ℕ) (group : List ℕ) (rows : List (List ℕ)) → Agree count group rows → from < count → All (λ t. t < count) (members rows from)
members_within count from group rows kept from_in k d below = (kept.sound from (get_or (members rows from) k d) from_in (k, below, get_or_default (members rows from) k (get_or (members rows from) k d) d below)).0

module _ (count from to : ℕ) (group : List ℕ) (rows : List (List ℕ)) (new : List ℕ) (kept : Agree count group rows) (length_new : length new ≡ count) (from_in : from < count) (to_in : to < count) (apart : from ≢ to) (relabeled : Relabels (members rows from) to group new) where
  pub moves : Moves count from to group new
  moves = record { moved = moved; kept = same }
    where
      moved : (t : ℕ) → t < count → get_or group t 0 ≡ from → get_or new t 0 ≡ to
      moved t below e = All-contains (λ u. get_or new u 0 ≡ to) (members rows from) t relabeled.each (subst (λ c. Contains (members rows c) t) e (kept.complete t below))

      same : (t : ℕ) → t < count → get_or group t 0 ≢ from → get_or new t 0 ≡ get_or group t 0
      same t below ne = elim (relabeled.others t) [ inl e ↦ e | inr w ↦ absurd (ne (kept.sound from t from_in w.0).1) ]

  abbrev after : List (List ℕ)
  after = set (set rows from []) to (members rows to ++ members rows from)

  at_to : members after to ≡ members rows to ++ members rows from
  at_to = get_or-set_same (set rows from []) to _ [] (omega (arith, length-set rows from [], kept.groups))

  at_from : members after from ≡ []
  at_from = get_or-set_other (set rows from []) to from _ [] apart ∙ get_or-set_same rows from [] [] (omega (arith, kept.groups))

  at_other : (c : ℕ) → c ≢ from → c ≢ to → members after c ≡ members rows c
  at_other c nf nt = get_or-set_other (set rows from []) to c _ [] nt ∙ get_or-set_other rows from c [] [] nf

  pub agree_after : Agree count new after
  agree_after = record { things = length_new; groups = length-set (set rows from []) to _ ∙ length-set rows from [] ∙ kept.groups; within = within; complete = complete; sound = sound }
    where
      within : (t : ℕ) → t < count → get_or new t 0 < count
      within t below = elim (cases_eq (get_or group t 0) from) [ inl e ↦ omega (arith, moves.moved t below e) | inr ne ↦ omega (arith, moves.kept t below ne, kept.within t below) ]

      complete : (t : ℕ) → t < count → Contains (members after (get_or new t 0)) t
      complete t below = elim (cases_eq (get_or group t 0) from) [ inl e ↦ from_case e | inr ne ↦ other_case ne (cases_eq (get_or group t 0) to) ]
        where
          in_to : Contains (members after to) t → get_or new t 0 ≡ to → Contains (members after (get_or new t 0)) t
          in_to h e = subst (λ c. Contains (members after c) t) (sym e) h

          from_case : get_or group t 0 ≡ from → Contains (members after (get_or new t 0)) t
          from_case e = in_to (subst (λ ts. Contains ts t) (sym at_to) (Contains-append_right (members rows to) (members rows from) t (subst (λ c. Contains (members rows c) t) e (kept.complete t below)))) (moves.moved t below e)

          other_case : get_or group t 0 ≢ from → (get_or group t 0 ≡ to) ⊎ (get_or group t 0 ≢ to) → Contains (members after (get_or new t 0)) t
          other_case nf (inl e) = in_to (subst (λ ts. Contains ts t) (sym at_to) (Contains-append_left (members rows to) (members rows from) t (subst (λ c. Contains (members rows c) t) e (kept.complete t below)))) (moves.kept t below nf ∙ e)
          other_case nf (inr nt) = subst (λ c. Contains (members after c) t) (sym (moves.kept t below nf)) (subst (λ ts. Contains ts t) (sym (at_other (get_or group t 0) nf nt)) (kept.complete t below))

      sound : (c t : ℕ) → c < count → Contains (members after c) t → (t < count) × (get_or new t 0 ≡ c)
      sound c t c_in h = elim (cases_eq c from) [ inl e ↦ absurd (none (subst (λ ts. Contains ts t) at_from (subst (λ d. Contains (members after d) t) e h))) | inr nf ↦ not_from nf (cases_eq c to) ]
        where
          none : Contains [] t → ⊥
          none w = omega (arith, w.1)

          not_from : c ≢ from → (c ≡ to) ⊎ (c ≢ to) → (t < count) × (get_or new t 0 ≡ c)
          not_from nf (inl e) = elim (Contains-append_cases (members rows to) (members rows from) t (subst (λ ts. Contains ts t) at_to (subst (λ d. Contains (members after d) t) e h))) [ inl w ↦ was_to w | inr w ↦ was_from w ]
            where
              was_to : Contains (members rows to) t → (t < count) × (get_or new t 0 ≡ c)
              was_to w = let s = kept.sound to t to_in w in (s.0, moves.kept t s.0 (λ g. apart (sym g ∙ s.1)) ∙ s.1 ∙ sym e)

              was_from : Contains (members rows from) t → (t < count) × (get_or new t 0 ≡ c)
              was_from w = let s = kept.sound from t from_in w in (s.0, moves.moved t s.0 s.1 ∙ sym e)
          not_from nf (inr nt) =
              let s = kept.sound c t c_in (subst (λ ts. Contains ts t) (at_other c nf nt) h) in
              (s.0, moves.kept t s.0 (λ g. nf (sym s.1 ∙ g)) ∙ s.1)

-- the groups so far are told by links alone, and the ends of the links so far have one group
pub record GroupsFirst (i count : ℕ) (links : List (ℕ × ℕ)) (group : List ℕ) : Type 0 where
  pub closed : (k : ℕ) (d : ℕ × ℕ) → k < i → get_or group (get_or links k d).0 0 ≡ get_or group (get_or links k d).1 0
  pub sound : (a b : ℕ) → a < count → b < count → get_or group a 0 ≡ get_or group b 0 → Joined (Pairs links) a b

-- one path after another, and a path taken back
pub after_path : {Step : ℕ → ℕ → Type 0} (a b c : ℕ) → Joined Step a b → Joined Step b c → Joined Step a c
after_path a b c (here x) q = q
after_path a b c (along x y z s p) q = along x y c s (after_path y z c p q)
after_path a b c (against x y z s p) q = against x y c s (after_path y z c p q)

pub back_path : {Step : ℕ → ℕ → Type 0} (a b : ℕ) → Joined Step a b → Joined Step b a
back_path a b (here x) = here x
back_path a b (along x y z s p) = after_path z y x (back_path y z p) (against y x x s (here x))
back_path a b (against x y z s p) = after_path z y x (back_path y z p) (along y x x s (here x))

-- a path stays where each step does
pub path_kept : {Step : ℕ → ℕ → Type 0} {A : Type 0} (f : ℕ → A) → ((x y : ℕ) → Step x y → f x ≡ f y) → (a b : ℕ) → Joined Step a b → f a ≡ f b
path_kept f keeps a b (here x) = refl
path_kept f keeps a b (along x y z s p) = keeps x y s ∙ path_kept f keeps y z p
path_kept f keeps a b (against x y z s p) = sym (keeps y x s) ∙ path_kept f keeps y z p

abbrev pub AreEnds : ℕ → List (ℕ × ℕ) → Type 0
AreEnds count links = All (λ link. (link.0 < count) × (link.1 < count)) links

pub apart_first : (count : ℕ) (links : List (ℕ × ℕ)) (group : List ℕ) → ((t : ℕ) → t < count → get_or group t 0 ≡ t) → GroupsFirst 0 count links group
apart_first count links group own = record {
  closed = λ k d below. absurd (omega arith);
  sound = λ a b a_in b_in e. subst (λ c. Joined (Pairs links) a c) (sym (own a a_in) ∙ e ∙ own b b_in) (here a);
}

-- one link more
module _ (i count : ℕ) (links : List (ℕ × ℕ)) (old new : List ℕ) where
  abbrev a : ℕ
  a = (get_or links i (0, 0)).0

  abbrev b : ℕ
  b = (get_or links i (0, 0)).1

  pub groups_one : AreEnds count links → i < length links → Merges count a b old new → GroupsFirst i count links old → GroupsFirst (i + 1) count links new
  groups_one ends within merged so_far = record { closed = closed; sound = sound }
    where
      is : (d : ℕ × ℕ) → get_or links i d ≡ (a, b)
      is d = get_or_default links i d (0, 0) within

      a_in : a < count
      a_in = (ends i (0, 0) within).0

      b_in : b < count
      b_in = (ends i (0, 0) within).1

      step : Joined (Pairs links) a b
      step = along a b b (i, within, is (a, b)) (here b)

      closed : (k : ℕ) (d : ℕ × ℕ) → k < i + 1 → get_or new (get_or links k d).0 0 ≡ get_or new (get_or links k d).1 0
      closed k d below = elim (cases_eq k i) [ inl e ↦ newest e | inr ne ↦ earlier (omega arith) ]
        where
          newest : k ≡ i → get_or new (get_or links k d).0 0 ≡ get_or new (get_or links k d).1 0
          newest e = subst (λ (l : ℕ × ℕ). get_or new l.0 0 ≡ get_or new l.1 0) (sym (ap (λ j. get_or links j d) e ∙ is d)) merged.one

          earlier : k < i → get_or new (get_or links k d).0 0 ≡ get_or new (get_or links k d).1 0
          earlier lt = let w = ends k d (omega arith) in merged.same (get_or links k d).0 (get_or links k d).1 w.0 w.1 (so_far.closed k d lt)

      sound : (s t : ℕ) → s < count → t < count → get_or new s 0 ≡ get_or new t 0 → Joined (Pairs links) s t
      sound s t s_in t_in e =
          elim (merged.only s t s_in t_in e) [
            | inl h ↦ so_far.sound s t s_in t_in h
            | inr w ↦ elim w [
              | inl h ↦ after_path s a t (so_far.sound s a s_in a_in h.0) (after_path a b t step (so_far.sound b t b_in t_in (sym h.1)))
              | inr h ↦ after_path s b t (so_far.sound s b s_in b_in h.0) (after_path b a t (back_path a b step) (so_far.sound a t a_in t_in (sym h.1)))
            ]
          ]

pub grouped : (i count : ℕ) (links : List (ℕ × ℕ)) (group : List ℕ) → length links ≤ i → length group ≡ count → ((t : ℕ) → t < count → get_or group t 0 < count) → GroupsFirst i count links group → IsGrouping count links group
grouped i count links group whole each within all = record { each = each; within = λ k d below. rw (get_or_default group k d 0 below) (within k (omega (arith, each))); joined = λ a b a_in b_in. (λ e. all.sound a b a_in b_in e, λ p. path_kept (λ t. get_or group t 0) keeps a b p) }
  where
    keeps : (x y : ℕ) → Pairs links x y → get_or group x 0 ≡ get_or group y 0
    keeps x y w = subst (λ (l : ℕ × ℕ). get_or group l.0 0 ≡ get_or group l.1 0) w.2 (all.closed w.0 (x, y) (omega (arith, w.1)))
