-- The lists and spares of channels after a step, where each has a run of items apart from the others.
use Rattle.std.proofs.Common.{◌≡◌, ℕ, zero, suc, ◌+◌, ◌-◌, ◌^◌, ◌<◌, ◌≤◌, List, [], ◌∷◌, ◌++◌, length, get_or, set, drop, take, map, max, replicate, slice_get, refl, sym, ap, ap₂, ◌∙◌, subst, arith, ⊎_elim, Option, Some, None, Result, Ok, Err, OnOk, is_ok, IfSome, is_some, Bool, true, false, if◌then◌else◌, get_or-set_same, get_or-set_other, length-set, length-append, append_assoc}
use Rattle.std.proofs.Math.Seq.{take-append_seam}
use Rattle.std.proofs.lemmas.Bool.{cases_eq}
use Rattle.std.proofs.lemmas.List.{set-get_or, append-nil, length-map, length-drop, map-append, drop-map, drop-append-le}
use Rattle.pt_recv.specs.Fronts.{joined, lessened, IsCovered, AreCovered}
use Rattle.pt_recv.specs.Lines.{list_at, spare_at, pushed, popped, raised, lowered}

-- what stands at a place
pub run-is : {N : Type 0} (rs : List (List N)) (c : ℕ) → c < length rs → (x : List N) → x ≡ get_or rs c x → get_or rs c [] ≡ x
run-is [] c h x e = absurd (omega (arith, h))
run-is (r ∷ rs) zero h x e = sym e
run-is (r ∷ rs) (suc c) h x e = run-is rs c (omega (arith, h)) x e

module _ {N T : Type 0} (token : N → T) where
  -- a list is its run before those in the region
  pub joined-at : (rs : List (List N)) (ls : List (List T)) (c : ℕ) → c < length ls → get_or (joined token rs ls) c [] ≡ map token (get_or rs c []) ++ get_or ls c []
  joined-at rs [] c h = absurd (omega (arith, h))
  joined-at [] (l ∷ ls) c h = refl
  joined-at (r ∷ rs) (l ∷ ls) zero h = refl
  joined-at (r ∷ rs) (l ∷ ls) (suc c) h = joined-at rs ls c (omega (arith, h))

  pub length-list : (rs : List (List N)) (ls : List (List T)) (c : ℕ) → c < length ls → length (get_or (joined token rs ls) c []) ≡ length (get_or ls c []) + length (get_or rs c [])
  length-list rs ls c h = omega (arith, ap (λ v. length v) (joined-at rs ls c h), length-append (map token (get_or rs c [])) (get_or ls c []), length-map (get_or rs c []) token)

  pub length-joined : (rs : List (List N)) (ls : List (List T)) → length (joined token rs ls) ≡ length ls
  length-joined rs [] = refl
  length-joined [] (l ∷ ls) = refl
  length-joined (r ∷ rs) (l ∷ ls) = ap suc (length-joined rs ls)

  -- a run and a list of the region change together
  joined-set : (rs : List (List N)) (ls : List (List T)) (c : ℕ) (r : List N) (l : List T) → c < length rs → joined token (set rs c r) (set ls c l) ≡ set (joined token rs ls) c (map token r ++ l)
  joined-set [] ls c r l h = absurd (omega (arith, h))
  joined-set (q ∷ rs) [] c r l h = refl
  joined-set (q ∷ rs) (m ∷ ls) zero r l h = refl
  joined-set (q ∷ rs) (m ∷ ls) (suc c) r l h = ap (λ v. (map token q ++ m) ∷ v) (joined-set rs ls c r l (omega (arith, h)))

  -- the lists after a step of channel c
  module _ (rs : List (List N)) (ls : List (List T)) (c : ℕ) (h : c < length rs) (g : c < length ls) where
    -- the run alone changes, or the list of the region alone
    joined-run : (r : List N) → joined token (set rs c r) ls ≡ set (joined token rs ls) c (map token r ++ get_or ls c [])
    joined-run r = ap (λ v. joined token (set rs c r) v) (sym (set-get_or ls c [])) ∙ joined-set rs ls c r (get_or ls c []) h

    joined-list : (l : List T) → joined token rs (set ls c l) ≡ set (joined token rs ls) c (map token (get_or rs c []) ++ l)
    joined-list l = ap (λ v. joined token v (set ls c l)) (sym (set-get_or rs c [])) ∙ joined-set rs ls c (get_or rs c []) l h

    -- items go behind those of the run, where the region has none
    pushed-run : (ns : List N) → get_or ls c [] ≡ [] → joined token (set rs c (get_or rs c [] ++ ns)) ls ≡ set (joined token rs ls) c (list_at (joined token rs ls) c ++ map token ns)
    pushed-run ns empty =
        joined-run (get_or rs c [] ++ ns) ∙ ap (λ l. set (joined token rs ls) c l) (behind (get_or ls c []) empty ∙ ap (λ l. l ++ map token ns) (sym (joined-at rs ls c g)))
      where
        behind : (l : List T) → l ≡ [] → map token (get_or rs c [] ++ ns) ++ l ≡ (map token (get_or rs c []) ++ l) ++ map token ns
        behind l e =
            rw e
            (append-nil (map token (get_or rs c [] ++ ns)) ∙ map-append token (get_or rs c []) ns ∙ ap (λ v. v ++ map token ns) (sym (append-nil (map token (get_or rs c [])))))

    -- a token goes behind the others
    pub pushed-behind : (t : T) → joined token rs (pushed ls c t) ≡ pushed (joined token rs ls) c t
    pushed-behind t =
        joined-list (get_or ls c [] ++ t ∷ []) ∙ ap (λ l. set (joined token rs ls) c l) (sym (append_assoc (map token (get_or rs c [])) (get_or ls c []) (t ∷ [])) ∙ ap (λ l. l ++ t ∷ []) (sym (joined-at rs ls c g)))

    -- the first n items of the run go
    pub dropped-run : (n : ℕ) → n ≤ length (get_or rs c []) → joined token (set rs c (drop n (get_or rs c []))) ls ≡ set (joined token rs ls) c (drop n (list_at (joined token rs ls) c))
    dropped-run n few =
        joined-run (drop n (get_or rs c [])) ∙ ap (λ l. set (joined token rs ls) c l) (ap (λ l. l ++ get_or ls c []) (sym (drop-map token n (get_or rs c []))) ∙ sym (drop-append-le n (map token (get_or rs c [])) (get_or ls c []) (omega (arith, few, length-map (get_or rs c []) token))) ∙ ap (λ l. drop n l) (sym (joined-at rs ls c g)))

    -- where the run has none, the first token of the region goes
    pub popped-behind : get_or rs c [] ≡ [] → joined token rs (popped ls c) ≡ popped (joined token rs ls) c
    popped-behind none =
        joined-list (drop 1 (get_or ls c []))
        ∙ ap (λ r. set (joined token rs ls) c (map token r ++ drop 1 (get_or ls c []))) none
        ∙ ap (λ l. set (joined token rs ls) c (drop 1 l)) (sym (joined-at rs ls c g ∙ ap (λ r. map token r ++ get_or ls c []) none))

    pub first-behind : get_or rs c [] ≡ [] → slice_get (list_at (joined token rs ls) c) 0 ≡ slice_get (list_at ls c) 0
    first-behind none = ap (λ l. slice_get l 0) (joined-at rs ls c g ∙ ap (λ r. map token r ++ get_or ls c []) none)

    -- the run's items are the first tokens
    pub taken-run : map token (get_or rs c []) ≡ take (length (get_or rs c [])) (list_at (joined token rs ls) c)
    taken-run =
        sym (take-append_seam (map token (get_or rs c [])) (get_or ls c []))
        ∙ ap₂ (λ n l. take n l) (length-map (get_or rs c []) token) (sym (joined-at rs ls c g))

module _ {N : Type 0} where
  pub lessened-at : (rs : List (List N)) (ss : List ℕ) (c : ℕ) → get_or (lessened rs ss) c 0 ≡ get_or ss c 0 - length (get_or rs c [])
  lessened-at rs [] c = omega arith
  lessened-at [] (s ∷ ss) c = omega arith
  lessened-at (r ∷ rs) (s ∷ ss) zero = refl
  lessened-at (r ∷ rs) (s ∷ ss) (suc c) = lessened-at rs ss c

  pub length-lessened : (rs : List (List N)) (ss : List ℕ) → length (lessened rs ss) ≡ length ss
  length-lessened rs [] = refl
  length-lessened [] (s ∷ ss) = refl
  length-lessened (r ∷ rs) (s ∷ ss) = ap suc (length-lessened rs ss)

  lessened-set : (rs : List (List N)) (ss : List ℕ) (c : ℕ) (r : List N) (s : ℕ) → c < length rs → lessened (set rs c r) (set ss c s) ≡ set (lessened rs ss) c (s - length r)
  lessened-set [] ss c r s h = absurd (omega (arith, h))
  lessened-set (q ∷ rs) [] c r s h = refl
  lessened-set (q ∷ rs) (z ∷ ss) zero r s h = refl
  lessened-set (q ∷ rs) (z ∷ ss) (suc c) r s h = ap (λ v. (z - length q) ∷ v) (lessened-set rs ss c r s (omega (arith, h)))

  -- the spares after a step of channel c
  module _ (rs : List (List N)) (ss : List ℕ) (c : ℕ) (h : c < length rs) where
    lessened-run : (r : List N) → lessened (set rs c r) ss ≡ set (lessened rs ss) c (get_or ss c 0 - length r)
    lessened-run r = ap (λ v. lessened (set rs c r) v) (sym (set-get_or ss c 0)) ∙ lessened-set rs ss c r (get_or ss c 0) h

    lessened-spare : (s : ℕ) → lessened rs (set ss c s) ≡ set (lessened rs ss) c (s - length (get_or rs c []))
    lessened-spare s = ap (λ v. lessened v (set ss c s)) (sym (set-get_or rs c [])) ∙ lessened-set rs ss c (get_or rs c []) s h

    lowered-run : (ns : List N) → lessened (set rs c (get_or rs c [] ++ ns)) ss ≡ set (lessened rs ss) c (spare_at (lessened rs ss) c - length ns)
    lowered-run ns =
        lessened-run (get_or rs c [] ++ ns) ∙ ap (λ s. set (lessened rs ss) c s) (omega (arith, length-append (get_or rs c []) ns, lessened-at rs ss c))

    pub lowered-behind : lessened rs (lowered ss c) ≡ lowered (lessened rs ss) c
    lowered-behind =
        lessened-spare (get_or ss c 0 - 1) ∙ ap (λ s. set (lessened rs ss) c s) (omega (arith, lessened-at rs ss c))

    pub raised-run : (n : ℕ) → n ≤ length (get_or rs c []) → length (get_or rs c []) ≤ get_or ss c 0 → lessened (set rs c (drop n (get_or rs c []))) ss ≡ set (lessened rs ss) c (spare_at (lessened rs ss) c + n)
    raised-run n few kept =
        lessened-run (drop n (get_or rs c [])) ∙ ap (λ s. set (lessened rs ss) c s) (omega (arith, few, kept, length-drop n (get_or rs c []), lessened-at rs ss c))

    raised-behind : get_or rs c [] ≡ [] → lessened rs (raised ss c) ≡ raised (lessened rs ss) c
    raised-behind none =
        lessened-spare (get_or ss c 0 + 1) ∙ ap (λ s. set (lessened rs ss) c s) (omega (arith, lessened-at rs ss c, ap (λ r. length r) none))

    -- the first token of the region goes, if there is one, where the run has none
    pub behind-spares : get_or rs c [] ≡ [] → (b : Bool) → lessened rs (if b then raised ss c else ss) ≡ (if b then raised (lessened rs ss) c else lessened rs ss)
    behind-spares none true = raised-behind none
    behind-spares none false = refl

    -- cells are reserved for so many tokens and for as many as the run has
    reserved : (n : ℕ) → lessened rs (set ss c (max (n + length (get_or rs c [])) (get_or ss c 0))) ≡ set (lessened rs ss) c (max n (spare_at (lessened rs ss) c))
    reserved n =
        lessened-spare (max (n + length (get_or rs c [])) (get_or ss c 0)) ∙ ap (λ s. set (lessened rs ss) c s) (omega (arith, lessened-at rs ss c))

  module _ {T : Type 0} where
    -- what is covered stays so where one channel changes
    covered-set : (rs qs : List (List N)) (ls ms : List (List T)) (ss zs : List ℕ) (c : ℕ) → AreCovered rs ls ss → ((d : ℕ) → (d ≡ c → ⊥) → get_or qs d [] ≡ get_or rs d []) → ((d : ℕ) → (d ≡ c → ⊥) → get_or ms d [] ≡ get_or ls d []) → ((d : ℕ) → (d ≡ c → ⊥) → get_or zs d 0 ≡ get_or ss d 0) →
        IsCovered (get_or qs c []) (length (get_or ms c [])) (get_or zs c 0) → AreCovered qs ms zs
    covered-set rs qs ls ms ss zs c covered a b e here d = ⊎_elim
        (λ same. subst (λ i. IsCovered (get_or qs i []) (length (get_or ms i [])) (get_or zs i 0)) (sym same) here)
        (λ other. subst (λ f. IsCovered f (length (get_or ms d [])) (get_or zs d 0)) (sym (a d other)) (subst (λ l. IsCovered (get_or rs d []) (length l) (get_or zs d 0)) (sym (b d other)) (subst (λ s. IsCovered (get_or rs d []) (length (get_or ls d [])) s) (sym (e d other)) (covered d))))
        (cases_eq d c)

    module _ (rs : List (List N)) (ls : List (List T)) (ss : List ℕ) (c : ℕ) (covered : AreCovered rs ls ss) where
      -- the run changes
      covered-run : (r : List N) → c < length rs → length r ≤ get_or ss c 0 → AreCovered (set rs c r) ls ss
      covered-run r h kept =
          covered-set rs (set rs c r) ls ls ss ss c covered (λ d other. get_or-set_other rs c d r [] other) (λ d other. refl) (λ d other. refl) record {
            kept = subst (λ v. length v ≤ get_or ss c 0) (sym (get_or-set_same rs c r [] h)) kept;
            counted = (covered c).counted;
          }

      -- the list of the region and the reserved cells change
      pub covered-cells : (l : List T) (s : ℕ) → c < length ls → c < length ss → length (get_or rs c []) ≤ s → length l + s < 2 ^ 64 → AreCovered rs (set ls c l) (set ss c s)
      covered-cells l s g h kept counted =
          covered-set rs rs ls (set ls c l) ss (set ss c s) c covered (λ d other. refl) (λ d other. get_or-set_other ls c d l [] other) (λ d other. get_or-set_other ss c d s 0 other) record {
            kept = subst (λ v. length (get_or rs c []) ≤ v) (sym (get_or-set_same ss c s 0 h)) kept;
            counted = rw (get_or-set_same ls c l [] g, get_or-set_same ss c s 0 h) counted;
          }

-- a step of the run of channel c, as its call tells it
module _ {N T : Type 0} (token : N → T) (rs : List (List N)) (ls : List (List T)) (ss : List ℕ) (c : ℕ) (h : c < length rs) (g : c < length ls) where
  same-runs : set rs c (get_or rs c []) ≡ rs
  same-runs = set-get_or rs c []

  -- items are put at its back, or none
  module _ (ns after : List N) (put : Bool) (is : after ≡ (if put then get_or rs c [] ++ ns else get_or rs c [])) where
    pub put-lists : get_or ls c [] ≡ [] → joined token (set rs c after) ls ≡ (if put then set (joined token rs ls) c (list_at (joined token rs ls) c ++ map token ns) else joined token rs ls)
    put-lists empty = ap (λ v. joined token (set rs c v) ls) is ∙ cases put
      where
        cases : (b : Bool) → joined token (set rs c (if b then get_or rs c [] ++ ns else get_or rs c [])) ls ≡ (if b then set (joined token rs ls) c (list_at (joined token rs ls) c ++ map token ns) else joined token rs ls)
        cases true = pushed-run token rs ls c h g ns empty
        cases false = ap (λ v. joined token v ls) same-runs

    pub put-spares : lessened (set rs c after) ss ≡ (if put then set (lessened rs ss) c (spare_at (lessened rs ss) c - length ns) else lessened rs ss)
    put-spares = ap (λ v. lessened (set rs c v) ss) is ∙ cases put
      where
        cases : (b : Bool) → lessened (set rs c (if b then get_or rs c [] ++ ns else get_or rs c [])) ss ≡ (if b then set (lessened rs ss) c (spare_at (lessened rs ss) c - length ns) else lessened rs ss)
        cases true = lowered-run rs ss c h ns
        cases false = ap (λ v. lessened v ss) same-runs

    pub put-covered : AreCovered rs ls ss → length ns ≤ spare_at (lessened rs ss) c → AreCovered (set rs c after) ls ss
    put-covered covered room = covered-run rs ls ss c covered after h (omega (arith, ap (λ v. length v) is, few put, (covered c).kept, room, lessened-at rs ss c))
      where
        few : (b : Bool) → length (if b then get_or rs c [] ++ ns else get_or rs c []) ≤ length (get_or rs c []) + length ns
        few true = omega (arith, length-append (get_or rs c []) ns)
        few false = omega arith

  -- its first item is taken, or there is none
  module _ (run : List N) (is : get_or rs c [] ≡ run) where
    pub taken-first : (o : Option N) → o ≡ slice_get run 0 → IfSome o (λ n. slice_get (list_at (joined token rs ls) c) 0 ≡ Some (token n))
    taken-first o e = subst (λ v. IfSome v (λ n. slice_get (list_at (joined token rs ls) c) 0 ≡ Some (token n))) (sym e) (cases run is)
      where
        cases : (r : List N) → get_or rs c [] ≡ r → IfSome (slice_get r 0) (λ n. slice_get (list_at (joined token rs ls) c) 0 ≡ Some (token n))
        cases [] f = tt
        cases (n ∷ r) f = ap (λ l. slice_get l 0) (joined-at token rs ls c g ∙ ap (λ v. map token v ++ get_or ls c []) f)

    pub taken-lists : (o : Option N) → o ≡ slice_get run 0 → joined token (set rs c (drop 1 run)) ls ≡ (if is_some o then popped (joined token rs ls) c else joined token rs ls)
    taken-lists o e = subst (λ v. joined token (set rs c (drop 1 run)) ls ≡ (if is_some v then popped (joined token rs ls) c else joined token rs ls)) (sym e) (cases run is)
      where
        cases : (r : List N) → get_or rs c [] ≡ r → joined token (set rs c (drop 1 r)) ls ≡ (if is_some (slice_get r 0) then popped (joined token rs ls) c else joined token rs ls)
        cases [] f = ap (λ v. joined token (set rs c v) ls) (sym f) ∙ ap (λ v. joined token v ls) same-runs
        cases (n ∷ r) f = ap (λ v. joined token (set rs c (drop 1 v)) ls) (sym f) ∙ dropped-run token rs ls c h g 1 (omega (arith, ap (λ v. length v) f))

    pub taken-spares : (o : Option N) → o ≡ slice_get run 0 → AreCovered rs ls ss → lessened (set rs c (drop 1 run)) ss ≡ (if is_some o then raised (lessened rs ss) c else lessened rs ss)
    taken-spares o e covered = subst (λ v. lessened (set rs c (drop 1 run)) ss ≡ (if is_some v then raised (lessened rs ss) c else lessened rs ss)) (sym e) (cases run is)
      where
        cases : (r : List N) → get_or rs c [] ≡ r → lessened (set rs c (drop 1 r)) ss ≡ (if is_some (slice_get r 0) then raised (lessened rs ss) c else lessened rs ss)
        cases [] f = ap (λ v. lessened (set rs c v) ss) (sym f) ∙ ap (λ v. lessened v ss) same-runs
        cases (n ∷ r) f = ap (λ v. lessened (set rs c (drop 1 v)) ss) (sym f) ∙ raised-run rs ss c h 1 (omega (arith, ap (λ v. length v) f)) (covered c).kept

    pub none-taken : None ≡ slice_get run 0 → (get_or rs c [] ≡ []) × (set rs c (drop 1 run) ≡ rs)
    none-taken e = cases run is e
      where
        cases : (r : List N) → get_or rs c [] ≡ r → None ≡ slice_get r 0 → (get_or rs c [] ≡ []) × (set rs c (drop 1 r) ≡ rs)
        cases [] f e = (f, ap (λ v. set rs c v) (sym f) ∙ same-runs)
        cases (n ∷ r) f e = absurd (cc)

-- so many cells are reserved, where that succeeds
module _ {N T : Type 0} (rs : List (List N)) (ls : List (List T)) (ss : List ℕ) (c : ℕ) (h : c < length rs) (g : c < length ls) (l : c < length ss) (n cells : ℕ) (is : cells ≡ n + length (get_or rs c [])) where
  abbrev after : Bool → List ℕ
  after b = if b then set ss c (max cells (get_or ss c 0)) else ss

  pub reserved-count : (b : Bool) → length (after b) ≡ length ss
  reserved-count true = length-set ss c (max cells (get_or ss c 0))
  reserved-count false = refl

  pub reserved-covered : AreCovered rs ls ss → length (get_or ls c []) + cells < 2 ^ 64 → (b : Bool) → AreCovered rs ls (after b)
  reserved-covered covered counted true =
      subst (λ v. AreCovered rs v (after true)) (set-get_or ls c []) (covered-cells rs ls ss c covered (get_or ls c []) (max cells (get_or ss c 0)) g l (omega (arith, (covered c).kept)) (omega (arith, counted, (covered c).counted)))
  reserved-covered covered counted false = covered

  pub reserved-spares : (b : Bool) → lessened rs (after b) ≡ (if b then set (lessened rs ss) c (max n (spare_at (lessened rs ss) c)) else lessened rs ss)
  reserved-spares true = ap (λ v. lessened rs (set ss c (max v (get_or ss c 0)))) is ∙ reserved rs ss c h n
  reserved-spares false = refl

  pub reserved-room : {X E : Type 0} (r : Result X E) → OnOk r (n ≤ spare_at (lessened rs (after (is_ok r))) c)
  reserved-room (Ok x) = omega (arith, is, lessened-at rs (after true) c, get_or-set_same ss c (max cells (get_or ss c 0)) 0 l)
  reserved-room (Err e) = tt

-- channels without tokens
module _ {N T : Type 0} (token : N → T) where
  abbrev no_runs : ℕ → List (List N)
  no_runs n = replicate n []

  abbrev no_lists : ℕ → List (List T)
  no_lists n = replicate n []

  pub joined-none : (n : ℕ) → joined token (no_runs n) (no_lists n) ≡ no_lists n
  joined-none zero = refl
  joined-none (suc n) = ap (λ v. [] ∷ v) (joined-none n)

  pub lessened-none : (n : ℕ) → lessened (no_runs n) (replicate n 0) ≡ replicate n 0
  lessened-none zero = refl
  lessened-none (suc n) = ap (λ v. 0 ∷ v) (lessened-none n)

  pub covered-none : (n : ℕ) → AreCovered (no_runs n) (no_lists n) (replicate n 0)
  covered-none zero c = record { kept = omega arith; counted = omega arith }
  covered-none (suc n) zero = record { kept = omega arith; counted = omega arith }
  covered-none (suc n) (suc c) = covered-none n c

-- what is within channels, and what a contract sees of them: a channel of theirs
module _ {N T : Type 0} (token : N → T) (rs : List (List N)) (ls : List (List T)) (ss : List ℕ) (count : ℕ) (l : length ls ≡ count) (s : length ss ≡ count) (f : length rs ≡ count) (lists : List (List T)) (seen : joined token rs ls ≡ lists) (c : ℕ) (given : c < length lists) where
  pub in-lists : c < length ls
  in-lists = omega (arith, given, ap (λ v. length v) seen, length-joined token rs ls)

  pub in-spares : c < length ss
  in-spares = omega (arith, in-lists, l, s)

  pub in-runs : c < length rs
  in-runs = omega (arith, in-lists, l, f)
