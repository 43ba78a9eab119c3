-- The tokens and the room of channels, of which those that weren't used have none.
use Rattle.std.proofs.Common.{◌≡◌, take, Result, Ok, Err, OnOk, ℕ, zero, suc, ◌+◌, ◌<◌, ◌≤◌, List, [], ◌∷◌, ◌++◌, Bool, true, false, length, get_or, set, replicate, refl, sym, ap, ap₂, subst, ◌∙◌, arith, length-set}
use Rattle.pt_meaning.specs.Streams.{Streams, at}
use Rattle.pt_reaction.specs.Spared.{Spared}
use Rattle.std.proofs.lemmas.List.{get_or-set_same, map_push, map_more, set-get_or}
use Rattle.pt_reaction.specs.Channels.{Lanes, list_if, spare_if, lists_in, spares_in, lists_of, spare_at, lanes_in}

module _ {T : Type 0} where
  pub lists-long : (B : List Bool) (L : List (Spared T)) → length B ≡ length L → length (lists_in B L) ≡ length L
  lists-long [] [] e = refl
  lists-long [] (l ∷ L) e = absurd (omega (arith, e))
  lists-long (b ∷ B) [] e = refl
  lists-long (b ∷ B) (l ∷ L) e = ap (λ n. suc n) (lists-long B L (omega (arith, e)))

  pub list-at : (B : List Bool) (L : List (Spared T)) (c : ℕ) (l : Spared T) → length B ≡ length L → c < length L → l ≡ get_or L c l → at (lists_in B L) c ≡ list_if (get_or B c false) l
  list-at [] [] c l e h r = absurd (omega (arith, h))
  list-at [] (x ∷ L) c l e h r = absurd (omega (arith, e))
  list-at (b ∷ B) [] c l e h r = absurd (omega (arith, h))
  list-at (b ∷ B) (x ∷ L) zero l e h r = ap (λ (v : Spared T). list_if b v) (sym r)
  list-at (b ∷ B) (x ∷ L) (suc c) l e h r = list-at B L c l (omega (arith, e)) (omega (arith, h)) r

  pub spare-is : (B : List Bool) (L : List (Spared T)) (c : ℕ) (l : Spared T) → length B ≡ length L → c < length L → l ≡ get_or L c l → spare_at (spares_in B L) c ≡ spare_if (get_or B c false) l
  spare-is [] [] c l e h r = absurd (omega (arith, h))
  spare-is [] (x ∷ L) c l e h r = absurd (omega (arith, e))
  spare-is (b ∷ B) [] c l e h r = absurd (omega (arith, h))
  spare-is (b ∷ B) (x ∷ L) zero l e h r = ap (λ (v : Spared T). spare_if b v) (sym r)
  spare-is (b ∷ B) (x ∷ L) (suc c) l e h r = spare-is B L c l (omega (arith, e)) (omega (arith, h)) r

  pub empty-at : (B : List Bool) (L : List (Spared T)) (c : ℕ) → get_or B c false ≡ false → at (lists_in B L) c ≡ []
  empty-at [] L c u = refl
  empty-at (b ∷ B) [] c u = refl
  empty-at (b ∷ B) (x ∷ L) zero u = ap (λ f. list_if f x) u
  empty-at (b ∷ B) (x ∷ L) (suc c) u = empty-at B L c u

  -- a channel with room was used
  pub room-used : (B : List Bool) (L : List (Spared T)) (c : ℕ) → 0 < spare_at (spares_in B L) c → get_or B c false ≡ true
  room-used [] L c h = absurd (omega (arith, h))
  room-used (b ∷ B) [] c h = absurd (omega (arith, h))
  room-used (true ∷ B) (x ∷ L) zero h = refl
  room-used (false ∷ B) (x ∷ L) zero h = absurd (omega (arith, h))
  room-used (b ∷ B) (x ∷ L) (suc c) h = room-used B L c h

  -- a channel that wasn't used is, and has no tokens
  pub fresh-lists : (B : List Bool) (L : List (Spared T)) (c : ℕ) (l : Spared T) → length B ≡ length L → get_or B c false ≡ false → l.list ≡ [] → lists_in (set B c true) (set L c l) ≡ lists_in B L
  fresh-lists [] L c l e n z = refl
  fresh-lists (b ∷ B) [] c l e n z = absurd (omega (arith, e))
  fresh-lists (b ∷ B) (x ∷ L) zero l e n z = ap (λ v. v ∷ lists_in B L) (z ∙ ap (λ v. list_if v x) (sym n))
  fresh-lists (b ∷ B) (x ∷ L) (suc c) l e n z = ap (λ v. list_if b x ∷ v) (fresh-lists B L c l (omega (arith, e)) n z)

  pub fresh-spares : (B : List Bool) (L : List (Spared T)) (c : ℕ) (l : Spared T) → length B ≡ length L → get_or B c false ≡ false → (d : ℕ) → spare_at (spares_in B L) d ≤ spare_at (spares_in (set B c true) (set L c l)) d
  fresh-spares [] L c l e n d = omega arith
  fresh-spares (b ∷ B) [] c l e n d = absurd (omega (arith, e))
  fresh-spares (true ∷ B) (x ∷ L) zero l e n d = absurd (cc)
  fresh-spares (false ∷ B) (x ∷ L) zero l e n zero = omega arith
  fresh-spares (false ∷ B) (x ∷ L) zero l e n (suc d) = omega arith
  fresh-spares (b ∷ B) (x ∷ L) (suc c) l e n zero = omega arith
  fresh-spares (b ∷ B) (x ∷ L) (suc c) l e n (suc d) = fresh-spares B L c l (omega (arith, e)) n d

  -- a line is changed
  pub lists-set : (B : List Bool) (L : List (Spared T)) (c : ℕ) (l : Spared T) → get_or B c false ≡ true → lists_in B (set L c l) ≡ set (lists_in B L) c l.list
  lists-set [] L c l u = refl
  lists-set (b ∷ B) [] c l u = refl
  lists-set (true ∷ B) (x ∷ L) zero l u = refl
  lists-set (false ∷ B) (x ∷ L) zero l u = absurd (cc)
  lists-set (b ∷ B) (x ∷ L) (suc c) l u = ap (λ v. list_if b x ∷ v) (lists-set B L c l u)

  -- a channel comes into use with a line
  pub lists-used : (B : List Bool) (L : List (Spared T)) (c : ℕ) (l : Spared T) → length B ≡ length L → lists_in (set B c true) (set L c l) ≡ set (lists_in B L) c l.list
  lists-used [] L c l e = refl
  lists-used (b ∷ B) [] c l e = absurd (omega (arith, e))
  lists-used (b ∷ B) (x ∷ L) zero l e = refl
  lists-used (b ∷ B) (x ∷ L) (suc c) l e = ap (λ v. list_if b x ∷ v) (lists-used B L c l (omega (arith, e)))

  pub set-same : (X : Streams T) (c : ℕ) (xs : List T) → at X c ≡ xs → set X c xs ≡ X
  set-same [] c xs h = refl
  set-same (x ∷ X) zero xs h = ap (λ v. v ∷ X) (sym h)
  set-same (x ∷ X) (suc c) xs h = ap (λ v. x ∷ v) (set-same X c xs h)

  pub more-spares : (B : List Bool) (L : List (Spared T)) (c : ℕ) (x l : Spared T) → x ≡ get_or L c x → x.spare ≤ l.spare → (d : ℕ) → spare_at (spares_in B L) d ≤ spare_at (spares_in B (set L c l)) d
  more-spares [] L c x l r m d = omega arith
  more-spares (b ∷ B) [] c x l r m d = omega arith
  more-spares (b ∷ B) (y ∷ L) zero x l r m zero = let a : x.spare ≡ y.spare = ap (λ (v : Spared T). v.spare) r in by b a
    where
      by : (b : Bool) → x.spare ≡ y.spare → spare_if b y ≤ spare_if b l
      by true a = omega (arith, a, m)
      by false a = omega arith
  more-spares (b ∷ B) (y ∷ L) zero x l r m (suc d) = omega arith
  more-spares (b ∷ B) (y ∷ L) (suc c) x l r m zero = omega arith
  more-spares (b ∷ B) (y ∷ L) (suc c) x l r m (suc d) = more-spares B L c x l r m d

  pub other-spare : (B : List Bool) (L : List (Spared T)) (c d : ℕ) (l : Spared T) → (d ≡ c → ⊥) → spare_at (spares_in B (set L c l)) d ≡ spare_at (spares_in B L) d
  other-spare [] L c d l z = refl
  other-spare (b ∷ B) [] c d l z = refl
  other-spare (b ∷ B) (x ∷ L) zero zero l z = absurd (z refl)
  other-spare (b ∷ B) (x ∷ L) zero (suc d) l z = refl
  other-spare (b ∷ B) (x ∷ L) (suc c) zero l z = refl
  other-spare (b ∷ B) (x ∷ L) (suc c) (suc d) l z = other-spare B L c d l (λ e. z (ap (λ n. suc n) e))

  -- no channel was used
  pub none-lists : (n : ℕ) (L : List (Spared T)) → length L ≡ n → lists_in (replicate n false) L ≡ replicate n []
  none-lists zero L e = refl
  none-lists (suc n) [] e = absurd (omega (arith, e))
  none-lists (suc n) (x ∷ L) e = ap (λ v. [] ∷ v) (none-lists n L (omega (arith, e)))

  -- lines with the same tokens
  pub copied-lists : (B : List Bool) (K L : List (Spared T)) → lists_of K ≡ lists_of L → lists_in B K ≡ lists_in B L
  copied-lists [] K L e = refl
  copied-lists (b ∷ B) [] [] e = refl
  copied-lists (b ∷ B) [] (y ∷ L) e = absurd (cc)
  copied-lists (b ∷ B) (x ∷ K) [] e = absurd (cc)
  copied-lists (true ∷ B) (x ∷ K) (y ∷ L) e = let h : x.list ≡ y.list = cc in let t : lists_of K ≡ lists_of L = cc in ap₂ (λ (a : List T) (X : Streams T). a ∷ X) h (copied-lists B K L t)
  copied-lists (false ∷ B) (x ∷ K) (y ∷ L) e = let t : lists_of K ≡ lists_of L = cc in ap (λ (X : Streams T). [] ∷ X) (copied-lists B K L t)

  pub lists_of-long : (K L : List (Spared T)) → lists_of K ≡ lists_of L → length K ≡ length L
  lists_of-long [] [] e = refl
  lists_of-long [] (y ∷ L) e = absurd (cc)
  lists_of-long (x ∷ K) [] e = absurd (cc)
  lists_of-long (x ∷ K) (y ∷ L) e = let t : lists_of K ≡ lists_of L = cc in ap (λ n. suc n) (lists_of-long K L t)

-- one line more is copied
pub copied-line : {T : Type 0} (L K : List (Spared T)) (i : ℕ) (x l : Spared T) → lists_of K ≡ lists_of (take i L) → i < length L → l ≡ get_or L i l → x.list ≡ l.list → lists_of (K ++ x ∷ []) ≡ lists_of (take (i + 1) L)
copied-line {T} L K i x l e h r q =
    map_push (λ (v : Spared T). v.list) K x ∙ ap₂ (λ (X : Streams T) (xs : List T). X ++ xs ∷ []) e (q ∙ ap (λ (v : Spared T). v.list) r) ∙ sym (map_more (λ (v : Spared T). v.list) L i l h)

-- a mark that is there stays
pub marked-again : (B : List Bool) (c : ℕ) → get_or B c false ≡ true → B ≡ set B c true
marked-again B c u = sym (set-get_or B c false) ∙ ap (λ b. set B c b) u

-- what holds where memory suffices
pub on-ok : {A E : Type 0} (r : Result A E) (P Q : Type 0) → (P → Q) → OnOk r P → OnOk r Q
on-ok (Ok x) P Q f h = f h
on-ok (Err e) P Q f h = h

-- what contracts see of channels
module _ {T : Type 0} (B : List Bool) (L : List (Spared T)) (M : Lanes T) (v : lanes_in B L ≡ M) (e : length B ≡ length L) where
  lists-are : lists_in B L ≡ M.lists
  lists-are = ap (λ (m : Lanes T). m.lists) v

  spares-are : spares_in B L ≡ M.spares
  spares-are = ap (λ (m : Lanes T). m.spares) v

  pub as-long : length M.lists ≡ length L
  as-long = ap (λ (X : Streams T). length X) (sym lists-are) ∙ lists-long B L e

  pub line-there : (c : ℕ) → c < length M.lists → c < length L
  line-there c h = omega (arith, h, as-long)

  pub used-there : (c : ℕ) → c < length M.lists → c < length B
  used-there c h = omega (arith, h, as-long, e)

  pub used-list : (c : ℕ) (l : Spared T) → c < length M.lists → l ≡ get_or L c l → get_or B c false ≡ true → at M.lists c ≡ l.list
  used-list c l h r u = ap (λ (X : Streams T). at X c) (sym lists-are) ∙ list-at B L c l e (line-there c h) r ∙ ap (λ b. list_if b l) u

  pub unused-list : (c : ℕ) → c < length M.lists → get_or B c false ≡ false → at M.lists c ≡ []
  unused-list c h u = ap (λ (X : Streams T). at X c) (sym lists-are) ∙ empty-at B L c u

  pub room-marked : (c : ℕ) → 0 < spare_at M.spares c → get_or B c false ≡ true
  room-marked c h = room-used B L c (subst (λ (S : List ℕ). 0 < spare_at S c) (sym spares-are) h)

  pub room-there : (c : ℕ) (l : Spared T) → c < length M.lists → l ≡ get_or L c l → 0 < spare_at M.spares c → spare_at M.spares c ≡ l.spare
  room-there c l h r p = ap (λ (S : List ℕ). spare_at S c) (sym spares-are) ∙ spare-is B L c l e (line-there c h) r ∙ ap (λ b. spare_if b l) (room-marked c p)

  -- a token is put behind the others
  module _ (c : ℕ) (l l' : Spared T) (x : T) (h : c < length M.lists) (r : l ≡ get_or L c l) (p : 0 < spare_at M.spares c) where
    pub put-lists : l'.list ≡ l.list ++ x ∷ [] → lists_in B (set L c l') ≡ set M.lists c (at M.lists c ++ x ∷ [])
    put-lists q = lists-set B L c l' (room-marked c p) ∙ ap₂ (λ (X : Streams T) (xs : List T). set X c xs) lists-are (q ∙ ap (λ xs. xs ++ x ∷ []) (sym (used-list c l h r (room-marked c p))))

    pub put-spare : l'.spare + 1 ≡ l.spare → spare_at (spares_in B (set L c l')) c + 1 ≡ spare_at M.spares c
    put-spare q =
        let a = spare-is B (set L c l') c l' (e ∙ sym (length-set L c l')) (omega (arith, line-there c h, length-set L c l')) (sym (get_or-set_same L c l' l' (line-there c h))) in
        let b = ap (λ f. spare_if f l') (room-marked c p) in
        let d = room-there c l h r p in
        omega (arith, a, b, d, q)

  pub put-others : (c : ℕ) (l' : Spared T) (d : ℕ) → (d ≡ c → ⊥) → spare_at (spares_in B (set L c l')) d ≡ spare_at M.spares d
  put-others c l' d z = other-spare B L c d l' z ∙ ap (λ (S : List ℕ). spare_at S d) spares-are

  -- a channel gets its first token
  module _ (B' : List Bool) (c : ℕ) (l' : Spared T) (u : B' ≡ set B c true) where
    pub first-sound : length B' ≡ length (set L c l')
    first-sound = ap (λ (b : List Bool). length b) u ∙ length-set B c true ∙ e ∙ sym (length-set L c l')

    pub first-lists : (x : T) → l'.list ≡ x ∷ [] → lists_in B' (set L c l') ≡ set M.lists c (x ∷ [])
    first-lists x q = ap (λ (b : List Bool). lists_in b (set L c l')) u ∙ lists-used B L c l' e ∙ ap₂ (λ (X : Streams T) (xs : List T). set X c xs) lists-are q

  -- the tokens of a channel are taken
  pub taken-lists : (c : ℕ) (l' : Spared T) → get_or B c false ≡ true → l'.list ≡ [] → lists_in B (set L c l') ≡ set M.lists c []
  taken-lists c l' u q = lists-set B L c l' u ∙ ap₂ (λ (X : Streams T) (xs : List T). set X c xs) lists-are q

  pub nothing-taken : (c : ℕ) → c < length M.lists → get_or B c false ≡ false → M.lists ≡ set M.lists c []
  nothing-taken c h u = sym (set-same M.lists c [] (unused-list c h u))

  pub cleared-lists : (B' : List Bool) → B' ≡ replicate (length B) false → lists_in B' L ≡ replicate (length M.lists) []
  cleared-lists B' q = ap (λ (b : List Bool). lists_in b L) q ∙ none-lists (length B) L (sym e) ∙ ap (λ n. replicate n []) (e ∙ sym as-long)

  -- room is made once the channel is used
  module _ (B' : List Bool) (L' : List (Spared T)) (c : ℕ) (l l' : Spared T) (u : B' ≡ set B c true) (n : length L' ≡ length L) (f : lists_in B' L' ≡ lists_in B L) (k : (d : ℕ) → spare_at (spares_in B L) d ≤ spare_at (spares_in B' L') d) (h : c < length M.lists) (r : l ≡ get_or L' c l) where
    is-used : get_or B' c false ≡ true
    is-used = ap (λ (b : List Bool). get_or b c false) u ∙ get_or-set_same B c true false (used-there c h)

    there : c < length L'
    there = omega (arith, line-there c h, n)

    long : length B' ≡ length L'
    long = ap (λ (b : List Bool). length b) u ∙ length-set B c true ∙ e ∙ sym n

    pub room-line : c < length L'
    room-line = there

    pub room-sound : length B' ≡ length (set L' c l')
    room-sound = long ∙ sym (length-set L' c l')

    pub room-lists : l'.list ≡ l.list → lists_in B' (set L' c l') ≡ M.lists
    room-lists q = lists-set B' L' c l' is-used ∙ set-same (lists_in B' L') c l'.list (list-at B' L' c l long there r ∙ ap (λ b. list_if b l) is-used ∙ sym q) ∙ f ∙ lists-are

    pub room-made : (m : ℕ) → m ≤ l'.spare → m ≤ spare_at (spares_in B' (set L' c l')) c
    room-made m q =
        let a = spare-is B' (set L' c l') c l' room-sound (omega (arith, there, length-set L' c l')) (sym (get_or-set_same L' c l' l' there)) in
        let b = ap (λ g. spare_if g l') is-used in
        omega (arith, a, b, q)

    pub room-keeps : l.spare ≤ l'.spare → (d : ℕ) → spare_at M.spares d ≤ spare_at (spares_in B' (set L' c l')) d
    room-keeps q d =
        let a = ap (λ (S : List ℕ). spare_at S d) spares-are in
        let b = k d in
        let g = more-spares B' L' c l l' r q d in
        omega (arith, a, b, g)
