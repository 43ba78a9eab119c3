-- The first feed of each port is marked.
use Rattle.std.proofs.Common.{◌≡◌, ℕ, ◌+◌, ◌<◌, List, [], Bool, true, false, length, get_or, set, map, Vec, Global, ap, sym, subst, ◌∙◌, arith, ⊎_elim, length-set}
use Rattle.std.proofs.lemmas.List.{get_or-set_same, get_or-set_other, map-set, set-get_or, length-map, get_or_past, get_or_default}
use Rattle.std.proofs.lemmas.Bool.{cases_eq, cases_lt}
use Rattle.std.proofs.Math.ListN.{get_or-map}
use Rattle.pt_meaning.specs.Net.{Source}
use Rattle.pt_sdf_parts.specs.declared.feeds.Feed.{Feed}
use Rattle.pt_sdf_parts.specs.Feeds.{target_of, targets, rows_in, no_feed, AreTargets, MovesOnce}
use Rattle.pt_sdf_parts.proofs.Lists.{read-at}

module _ (row : List Feed) (k : ℕ) (f : Feed) (first : Bool) (h : k < length row) (e : f ≡ get_or row k f) where
  abbrev marked : Feed
  marked = record { channel = f.channel; port = f.port; moves = first }

  pub marked-targets : map target_of (set row k (record { channel = f.channel; port = f.port; moves = first })) ≡ map target_of row
  marked-targets =
      map-set target_of row k marked ∙ ap (λ t. set (map target_of row) k t) (ap target_of (read-at row k f no_feed h e) ∙ sym (get_or-map target_of row k no_feed)) ∙ set-get_or (map target_of row) k (target_of no_feed)

  is-marked : get_or (set row k marked) k no_feed ≡ marked
  is-marked = get_or-set_same row k marked no_feed h

  is-other : (j : ℕ) → (j ≡ k → ⊥) → get_or (set row k marked) j no_feed ≡ get_or row j no_feed
  is-other j z = get_or-set_other row k j marked no_feed z

  module _ (seen seen' : List Bool) (a : f.port < length seen → get_or seen' f.port false ≡ true) (b : (p : ℕ) → get_or seen p false ≡ true → get_or seen' p false ≡ true) (d : first ≡ true → get_or seen f.port true ≡ false)
      (sighted : (j : ℕ) → j < k → (get_or row j no_feed).port < length seen → get_or seen (get_or row j no_feed).port false ≡ true) where
    pub marked-sighted : (j : ℕ) → j < k + 1 → (get_or (set row k (record { channel = f.channel; port = f.port; moves = first })) j no_feed).port < length seen → get_or seen' (get_or (set row k (record { channel = f.channel; port = f.port; moves = first })) j no_feed).port false ≡ true
    marked-sighted j l =
        ⊎_elim (λ z. subst (λ v. (get_or (set row k marked) v no_feed).port < length seen → get_or seen' (get_or (set row k marked) v no_feed).port false ≡ true) (sym z) (subst (λ (v : Feed). v.port < length seen → get_or seen' v.port false ≡ true) (sym is-marked) a))
        (λ z. subst (λ (v : Feed). v.port < length seen → get_or seen' v.port false ≡ true) (sym (is-other j z)) (λ q. b (get_or row j no_feed).port (sighted j (omega arith) q))) (cases_eq j k)

    pub marked-once : ((i j : ℕ) → i < j → j < k → (get_or row j no_feed).moves ≡ true → (get_or row i no_feed).port ≡ (get_or row j no_feed).port → ⊥) → (i j : ℕ) → i < j → j < k + 1 → (get_or (set row k (record { channel = f.channel; port = f.port; moves = first })) j no_feed).moves ≡ true →
        (get_or (set row k (record { channel = f.channel; port = f.port; moves = first })) i no_feed).port ≡ (get_or (set row k (record { channel = f.channel; port = f.port; moves = first })) j no_feed).port → ⊥
    marked-once once i j l m =
        ⊎_elim
        (λ z.
        subst (λ v. (get_or (set row k marked) v no_feed).moves ≡ true → (get_or (set row k marked) i no_feed).port ≡ (get_or (set row k marked) v no_feed).port → ⊥) (sym z)
        (subst (λ (v : Feed). v.moves ≡ true → (get_or (set row k marked) i no_feed).port ≡ v.port → ⊥) (sym is-marked)
        (subst (λ (v : Feed). first ≡ true → v.port ≡ f.port → ⊥) (sym (is-other i (λ w. omega arith))) (λ t q. clash (get_or row i no_feed).port q (d t) (sighted i (omega arith))))))
        (λ z.
        subst (λ (v : Feed). v.moves ≡ true → (get_or (set row k marked) i no_feed).port ≡ v.port → ⊥) (sym (is-other j z))
        (subst (λ (v : Feed). (get_or row j no_feed).moves ≡ true → v.port ≡ (get_or row j no_feed).port → ⊥) (sym (is-other i (λ w. omega arith))) (once i j l (omega arith)))) (cases_eq j k)
      where
        clash : (p : ℕ) → p ≡ f.port → get_or seen f.port true ≡ false → (p < length seen → get_or seen p false ≡ true) → ⊥
        clash p q n s =
            ⊎_elim (λ l. absurd (cc (subst (λ v. get_or seen v true ≡ false) (sym q) n, s l, get_or_default seen p true false l))) (λ l. absurd (cc (subst (λ v. get_or seen v true ≡ false) (sym q) n, get_or_past seen p true l))) (cases_lt p (length seen))

-- a row that is marked feeds what it did
module _ (n : ℕ) (ss : List Source) (rows : List (Vec Feed Global)) (r : ℕ) (old new : Vec Feed Global) (h : r < length rows) (e : old ≡ get_or rows r old) where
  rows-set : rows_in (set rows r new) ≡ set (rows_in rows) r new.items
  rows-set = map-set (λ (v : Vec Feed Global). v.items) rows r new

  wide : r < length (rows_in rows)
  wide = omega (arith, h, length-map rows (λ (v : Vec Feed Global). v.items))

  old-row : old.items ≡ get_or (rows_in rows) r []
  old-row = ap (λ (v : Vec Feed Global). v.items) e ∙ sym (get_or-map (λ (v : Vec Feed Global). v.items) rows r old) ∙ get_or_default (rows_in rows) r old.items [] wide

  new-row : get_or (rows_in (set rows r new)) r [] ≡ new.items
  new-row = ap (λ v. get_or v r []) rows-set ∙ get_or-set_same (rows_in rows) r new.items [] wide

  same-row : (i : ℕ) → (i ≡ r → ⊥) → get_or (rows_in (set rows r new)) i [] ≡ get_or (rows_in rows) i []
  same-row i z = ap (λ v. get_or v i []) rows-set ∙ get_or-set_other (rows_in rows) r i new.items [] z

  pub row-marked : map target_of new.items ≡ map target_of old.items → AreTargets n ss rows → AreTargets n ss (set rows r new)
  row-marked t a = record {
    counted = length-set rows r new ∙ a.counted;
    each = λ i l.
        ⊎_elim (λ z. subst (λ v. map target_of (get_or (rows_in (set rows r new)) v []) ≡ targets n v 0 ss) (sym z) (ap (λ v. map target_of v) new-row ∙ t ∙ ap (λ v. map target_of v) old-row ∙ a.each r (subst (λ v. v < n + 1) z l)))
        (λ z. ap (λ v. map target_of v) (same-row i z) ∙ a.each i l) (cases_eq i r);
  }

  pub rows-once : MovesOnce new.items → ((i : ℕ) → i < r → MovesOnce (get_or (rows_in rows) i [])) → (i : ℕ) → i < r + 1 → MovesOnce (get_or (rows_in (set rows r new)) i [])
  rows-once m all i l =
      ⊎_elim (λ z. subst (λ v. MovesOnce (get_or (rows_in (set rows r new)) v [])) (sym z) (subst (λ v. MovesOnce v) (sym new-row) m)) (λ z. subst (λ v. MovesOnce v) (sym (same-row i z)) (all i (omega arith))) (cases_eq i r)
