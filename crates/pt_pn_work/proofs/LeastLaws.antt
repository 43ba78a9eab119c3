-- Which of the full channels that are waited for grows: the one of least capacity, and of these the one of least number.
use Rattle.std.proofs.Common.{◌≡◌, ◌⊎◌, inl, inr, ℕ, zero, suc, ◌+◌, ◌<◌, ◌≤◌, List, [], ◌∷◌, Bool, true, false, ◌&&◌, ◌||◌, nat_eq, nat_lt, length, get_or, Option, Some, None, if◌then◌else◌, refl, sym, ap, ap₂, subst, ◌∙◌, arith, zero-add, suc-add}
use Rattle.std.proofs.lemmas.Bool.{ltb-true, ltb-false}
use Rattle.std.proofs.lemmas.Bool.Decides.{nat_tests}
use Rattle.pt_meaning.specs.Streams.{at}
use Rattle.pt_meaning.specs.Process.{Put}
use Rattle.pt_meaning.specs.Jam.{is_next_put}
use Rattle.pt_value.specs.declared.token.Token.{Token}
use Rattle.pt_pn_laws.specs.State.{PnState, least_from, least_full, lesser, greatest_of, capacity_of}
use Rattle.pt_pn_work.specs.Core.{State, PutsOn}
use Rattle.pt_pn_work.specs.Least.{IsBest, HasBest, IsNoWorse, NoneBetter}

abbrev channel_of : List (Put Token) → ℕ
channel_of [] = 0
channel_of (w ∷ ws) = w.channel

-- a channel is the next put of a process, and the other way round
or-right : (a : Bool) → (a || true) ≡ true
or-right true = refl
or-right false = refl

pub next-put : (puts : List (List (Put Token))) (i c : ℕ) (u : Put Token) (us : List (Put Token)) → at puts i ≡ u ∷ us → u.channel ≡ c → is_next_put c puts ≡ true
next-put [] i c u us e z = absurd (cc)
next-put ([] ∷ puts) zero c u us e z = absurd (cc)
next-put ((v ∷ vs) ∷ puts) zero c u us e z = ap (λ b. b || is_next_put c puts) (same v.channel c (ap channel_of e ∙ z))
  where
    same : (a c : ℕ) → a ≡ c → nat_eq a c ≡ true
    same a c e = grind (arith, nat_tests)
next-put ([] ∷ puts) (suc i) c u us e z = next-put puts i c u us e z
next-put ((v ∷ vs) ∷ puts) (suc i) c u us e z = ap (λ b. nat_eq v.channel c || b) (next-put puts i c u us e z) ∙ or-right (nat_eq v.channel c)

pub some-put : (puts : List (List (Put Token))) (c : ℕ) → is_next_put c puts ≡ true → (j : ℕ) × (j < length puts) × ((u : Put Token) × (us : List (Put Token)) × (at puts j ≡ u ∷ us) × (u.channel ≡ c))
some-put [] c e = absurd (cc)
some-put ([] ∷ puts) c e = let r = some-put puts c e in (suc r.0, let l = r.1 in omega (arith, l), r.2)
some-put ((v ∷ vs) ∷ puts) c e = by (λ h. some-put puts c h) (nat_eq v.channel c) refl e
  where
    by : (is_next_put c puts ≡ true → (j : ℕ) × (j < length puts) × ((u : Put Token) × (us : List (Put Token)) × (at puts j ≡ u ∷ us) × (u.channel ≡ c))) → (b : Bool) → nat_eq v.channel c ≡ b → (b || is_next_put c puts) ≡ true → (j : ℕ) × (j < suc (length puts)) × ((u : Put Token) × (us : List (Put Token)) × (at ((v ∷ vs) ∷ puts) j ≡ u ∷ us) × (u.channel ≡ c))
    by ih true w e = (0, omega arith, (v, vs, refl, grind (arith, nat_tests)))
    by ih false w e = let r = ih e in (suc r.0, let l = r.1 in omega (arith, l), r.2)

-- the least of the channels from number c on, by what it is
module _ (s : State) where
  abbrev pub Next : ℕ → Type 0
  Next c = is_next_put c s.halfway.puts ≡ true

  pub record IsLeast (c : ℕ) (ks : List ℕ) (least : ℕ × ℕ) : Type 0 where
    pub number : ℕ
    pub channel : least.0 ≡ c + number
    pub there : number < length ks
    pub capacity : least.1 ≡ get_or ks number 0
    pub next : Next least.0
    pub below : least.1 < greatest_of s least.0
    pub best : (m : ℕ) → m < length ks → Next (c + m) → get_or ks m 0 < greatest_of s (c + m) → (least.1 < get_or ks m 0) ⊎ ((least.1 ≡ get_or ks m 0) × (number ≤ m))

  abbrev pub LeastOf : (c : ℕ) (ks : List ℕ) (o : Option (ℕ × ℕ)) → Type 0
  LeastOf c ks None = (m : ℕ) → m < length ks → Next (c + m) → get_or ks m 0 < greatest_of s (c + m) → ⊥
  LeastOf c ks (Some least) = IsLeast c ks least

  some-is : (x y : ℕ × ℕ) → Option.Some x ≡ Option.Some y → x ≡ y
  some-is x y e = cc

  moved : (c m : ℕ) → suc c + m ≡ c + suc m
  moved c m = omega arith

  -- what is found is there
  record IsFound (c : ℕ) (ks : List ℕ) (least : ℕ × ℕ) : Type 0 where
    number : ℕ
    channel : least.0 ≡ c + number
    there : number < length ks
    capacity : least.1 ≡ get_or ks number 0
    next : Next least.0
    below : least.1 < greatest_of s least.0

  found-next : (c k : ℕ) (ks : List ℕ) (x : ℕ × ℕ) → IsFound (suc c) ks x → IsFound c (k ∷ ks) x
  found-next c k ks x f = record { number = suc f.number; channel = let e = f.channel in omega (arith, e); there = let l = f.there in omega (arith, l); capacity = f.capacity; next = f.next; below = f.below }

  found : (c : ℕ) (ks : List ℕ) (x : ℕ × ℕ) → least_from s c ks ≡ Some x → IsFound c ks x
  found c [] x e = absurd (cc)
  found c (k ∷ ks) x e = by (λ y f. found (suc c) ks y f) (is_next_put c s.halfway.puts) refl (nat_lt k (greatest_of s c)) refl (least_from s (suc c) ks) refl e
    where
      this : is_next_put c s.halfway.puts ≡ true → k < greatest_of s c → IsFound c (k ∷ ks) (c, k)
      this n l = record { number = 0; channel = omega arith; there = omega arith; capacity = refl; next = n; below = l }

      pick : (y : ℕ × ℕ) → IsFound c (k ∷ ks) y → IsFound c (k ∷ ks) (c, k) → (t : Bool) → IsFound c (k ∷ ks) (if t then y else (c, k))
      pick y f g true = f
      pick y f g false = g

      chosen : ((y : ℕ × ℕ) → least_from s (suc c) ks ≡ Some y → IsFound (suc c) ks y) → IsFound c (k ∷ ks) (c, k) → (o : Option (ℕ × ℕ)) → least_from s (suc c) ks ≡ o → IsFound c (k ∷ ks) (lesser c k o)
      chosen ih g None f = g
      chosen ih g (Some y) f = pick y (found-next c k ks y (ih y f)) g (nat_lt y.1 k)

      by : ((y : ℕ × ℕ) → least_from s (suc c) ks ≡ Some y → IsFound (suc c) ks y) → (a : Bool) → is_next_put c s.halfway.puts ≡ a → (b : Bool) → nat_lt k (greatest_of s c) ≡ b → (o : Option (ℕ × ℕ)) → least_from s (suc c) ks ≡ o →
          (if a && b then Some (lesser c k o) else o) ≡ Some x → IsFound c (k ∷ ks) x
      by ih true n true l o f w = subst (λ v. IsFound c (k ∷ ks) v) (some-is (lesser c k o) x w) (chosen ih (this n (ltb-true k (greatest_of s c) l)) o f)
      by ih true n false l o f w = found-next c k ks x (ih x (f ∙ w))
      by ih false n b l o f w = found-next c k ks x (ih x (f ∙ w))

  -- what holds from a channel on holds from the next on
  none-behind : (c k : ℕ) (ks : List ℕ) → LeastOf c (k ∷ ks) None → LeastOf (suc c) ks None
  none-behind c k ks h m l n b = h (suc m) (omega (arith, l)) (subst (λ v. Next v) (moved c m) n) (subst (λ v. get_or ks m 0 < greatest_of s v) (moved c m) b)

  some-behind : (c k : ℕ) (ks : List ℕ) (x : ℕ × ℕ) (h : IsLeast c (k ∷ ks) x) (j : ℕ) → h.number ≡ suc j → IsLeast (suc c) ks x
  some-behind c k ks x h j e = record {
    number = j;
    channel = let z = h.channel in omega (arith, z, e);
    there = let z = h.there in omega (arith, z, e);
    capacity = h.capacity ∙ ap (λ v. get_or (k ∷ ks) v 0) e;
    next = h.next;
    below = h.below;
    best = λ m l n b. shorter m (h.best (suc m) (omega (arith, l)) (subst (λ v. Next v) (moved c m) n) (subst (λ v. get_or ks m 0 < greatest_of s v) (moved c m) b));
  }
    where
      shorter : (m : ℕ) → (x.1 < get_or ks m 0) ⊎ ((x.1 ≡ get_or ks m 0) × (h.number ≤ suc m)) → (x.1 < get_or ks m 0) ⊎ ((x.1 ≡ get_or ks m 0) × (j ≤ m))
      shorter m (inl l) = inl l
      shorter m (inr (q, l)) = inr (q, omega (arith, l, e))

  pub least-is : (c : ℕ) (ks : List ℕ) (o : Option (ℕ × ℕ)) → LeastOf c ks o → least_from s c ks ≡ o
  least-is c [] None h = refl
  least-is c [] (Some x) h = let z = h.there in absurd (omega (arith, z))
  least-is c (k ∷ ks) o h = by (λ p g. least-is (suc c) ks p g) (is_next_put c s.halfway.puts) refl (nat_lt k (greatest_of s c)) refl o h
    where
      zero-plus : (c : ℕ) → c + 0 ≡ c
      zero-plus c = omega arith

      -- the first one isn't one
      skipped : ((p : Option (ℕ × ℕ)) → LeastOf (suc c) ks p → least_from s (suc c) ks ≡ p) → (Next c → k < greatest_of s c → ⊥) → (o : Option (ℕ × ℕ)) → LeastOf c (k ∷ ks) o → least_from s (suc c) ks ≡ o
      skipped ih never None h = ih None (none-behind c k ks h)
      skipped ih never (Some x) h = by-number h.number refl
        where
          by-number : (j : ℕ) → h.number ≡ j → least_from s (suc c) ks ≡ Some x
          by-number zero e =
              let here : x.0 ≡ c = h.channel ∙ ap (λ v. c + v) e ∙ zero-plus c in
              let this : x.1 ≡ k = h.capacity ∙ ap (λ v. get_or (k ∷ ks) v 0) e in
              absurd (never (subst (λ v. Next v) here h.next) (subst (λ v. v < greatest_of s c) this (subst (λ v. x.1 < greatest_of s v) here h.below)))
          by-number (suc j) e = ih (Some x) (some-behind c k ks x h j e)

      -- the first one is one
      taken : ((p : Option (ℕ × ℕ)) → LeastOf (suc c) ks p → least_from s (suc c) ks ≡ p) → Next c → k < greatest_of s c → (o : Option (ℕ × ℕ)) → LeastOf c (k ∷ ks) o → Some (lesser c k (least_from s (suc c) ks)) ≡ o
      taken ih n l None h = absurd (h 0 (omega arith) (subst (λ v. Next v) (sym (zero-plus c)) n) (subst (λ v. k < greatest_of s v) (sym (zero-plus c)) l))
      taken ih n l (Some x) h = by-number h.number refl
        where
          first : (o : Option (ℕ × ℕ)) → least_from s (suc c) ks ≡ o → x.1 ≡ k → h.number ≡ 0 → lesser c k o ≡ (c, k)
          first None f z e = refl
          first (Some y) f z e = let g = found (suc c) ks y f in worse (h.best (suc g.number) (let t = g.there in omega (arith, t)) (subst (λ v. Next v) (g.channel ∙ moved c g.number) g.next) (subst (λ v. v < greatest_of s (c + suc g.number)) g.capacity (subst (λ v. y.1 < greatest_of s v) (g.channel ∙ moved c g.number) g.below)))
            where
              pick : (t : Bool) → nat_lt y.1 k ≡ t → k ≤ y.1 → (if t then y else (c, k)) ≡ (c, k)
              pick true t q = let b = ltb-true y.1 k t in absurd (omega (arith, b, q))
              pick false t q = refl

              worse : (x.1 < get_or ks (found (suc c) ks y f).number 0) ⊎ ((x.1 ≡ get_or ks (found (suc c) ks y f).number 0) × (h.number ≤ suc (found (suc c) ks y f).number)) → (if nat_lt y.1 k then y else (c, k)) ≡ (c, k)
              worse (inl w) = let q = (found (suc c) ks y f).capacity in pick (nat_lt y.1 k) refl (omega (arith, w, q, z))
              worse (inr (w, r)) = let q = (found (suc c) ks y f).capacity in pick (nat_lt y.1 k) refl (omega (arith, w, q, z))

          pair : (x : ℕ × ℕ) (c k : ℕ) → x.0 ≡ c → x.1 ≡ k → (c, k) ≡ x
          pair x c k a b = ap₂ (λ v w. (v, w)) (sym a) (sym b)

          rest : (x.1 < k) ⊎ ((x.1 ≡ k) × (h.number ≤ 0)) → (j : ℕ) → h.number ≡ suc j → (if nat_lt x.1 k then x else (c, k)) ≡ x
          rest (inl w) j e = by (nat_lt x.1 k) refl
            where
              by : (t : Bool) → nat_lt x.1 k ≡ t → (if t then x else (c, k)) ≡ x
              by true t = refl
              by false t = let b = ltb-false x.1 k t in absurd (omega (arith, b, w))
          rest (inr (w, r)) j e = absurd (omega (arith, r, e))

          by-number : (j : ℕ) → h.number ≡ j → Some (lesser c k (least_from s (suc c) ks)) ≡ Some x
          by-number zero e =
              let here : x.0 ≡ c = h.channel ∙ ap (λ v. c + v) e ∙ zero-plus c in
              let this : x.1 ≡ k = h.capacity ∙ ap (λ v. get_or (k ∷ ks) v 0) e in
              ap (λ v. Option.Some v) (first (least_from s (suc c) ks) refl this e ∙ pair x c k here this)
          by-number (suc j) e =
              ap (λ v. Option.Some (lesser c k v)) (ih (Some x) (some-behind c k ks x h j e)) ∙
              ap (λ v. Option.Some v) (rest (h.best 0 (omega arith) (subst (λ v. Next v) (sym (zero-plus c)) n) (subst (λ v. k < greatest_of s v) (sym (zero-plus c)) l)) j e)

      by : ((p : Option (ℕ × ℕ)) → LeastOf (suc c) ks p → least_from s (suc c) ks ≡ p) → (a : Bool) → is_next_put c s.halfway.puts ≡ a → (b : Bool) → nat_lt k (greatest_of s c) ≡ b → (o : Option (ℕ × ℕ)) → LeastOf c (k ∷ ks) o →
          (if a && b then Some (lesser c k (least_from s (suc c) ks)) else least_from s (suc c) ks) ≡ o
      by ih true n true l o h = taken ih n (ltb-true k (greatest_of s c) l) o h
      by ih true n false l o h = skipped ih (λ _ b. let z = ltb-false k (greatest_of s c) l in absurd (omega (arith, z, b))) o h
      by ih false n b l o h = skipped ih (λ m _. no m n) o h
        where
          no : Next c → is_next_put c s.halfway.puts ≡ false → ⊥
          no m n = clash (sym m ∙ n)
            where
              clash : true ≡ false → ⊥
              clash z = cc

-- the best of all processes is the least of all channels
puts-there : (s : State) (c : ℕ) → is_next_put c s.halfway.puts ≡ true → (j : ℕ) × (j < length s.halfway.puts) × PutsOn s j c
puts-there s c e = let r = some-put s.halfway.puts c e in let q = r.2 in (r.0, r.1, record { first = q.0; rest = q.1; next = q.2; on = q.3 })

pub best-is : (s : State) (o : Option (ℕ × ℕ)) (i : ℕ) → length s.halfway.puts ≤ i → ((best : ℕ × ℕ) → o ≡ Some best → best.0 < length s.capacity) → IsBest s i o → least_full s ≡ o
best-is s None i l w h = least-is s 0 s.capacity None none
  where
    none : (m : ℕ) → m < length s.capacity → is_next_put (0 + m) s.halfway.puts ≡ true → get_or s.capacity m 0 < greatest_of s (0 + m) → ⊥
    none m b n g =
        let r = puts-there s m (subst (λ v. is_next_put v s.halfway.puts ≡ true) (zero-add m) n) in
        h r.0 m (let t = r.1 in omega (arith, t, l)) r.2 (subst (λ v. get_or s.capacity m 0 < greatest_of s v) (zero-add m) g)
best-is s (Some best) i l w h =
    least-is s 0 s.capacity (Some best)
    (record {
      number = best.0;
      channel = sym (zero-add best.0);
      there = w best refl;
      capacity = h.capacity;
      next = next-put s.halfway.puts h.process best.0 h.puts.first h.puts.rest h.puts.next h.puts.on;
      below = h.below;
      best = others;
    })
  where
    others : (m : ℕ) → m < length s.capacity → is_next_put (0 + m) s.halfway.puts ≡ true → get_or s.capacity m 0 < greatest_of s (0 + m) → (best.1 < get_or s.capacity m 0) ⊎ ((best.1 ≡ get_or s.capacity m 0) × (best.0 ≤ m))
    others m b n g =
        let r = puts-there s m (subst (λ v. is_next_put v s.halfway.puts ≡ true) (zero-add m) n) in
        h.none r.0 m (let t = r.1 in omega (arith, t, l)) r.2 (subst (λ v. get_or s.capacity m 0 < greatest_of s v) (zero-add m) g)

-- one process more
same-put : (s : State) (i c d : ℕ) → PutsOn s i c → PutsOn s i d → c ≡ d
same-put s i c d p q = sym p.on ∙ ap channel_of (sym p.next ∙ q.next) ∙ q.on

split-last : (j i : ℕ) → j < i + 1 → (j < i) ⊎ (j ≡ i)
split-last j i h = grind arith

pub skip-best : (s : State) (i : ℕ) (o : Option (ℕ × ℕ)) → IsBest s i o → ((c : ℕ) → PutsOn s i c → capacity_of s c < greatest_of s c → ⊥) → IsBest s (i + 1) o
skip-best s i None h never = λ j c l p b. by j c p b (split-last j i l)
  where
    by : (j c : ℕ) → PutsOn s j c → capacity_of s c < greatest_of s c → (j < i) ⊎ (j ≡ i) → ⊥
    by j c p b (inl l) = h j c l p b
    by j c p b (inr e) = never c (subst (λ k. PutsOn s k c) e p) b
skip-best s i (Some best) h never = record {
  process = h.process;
  there = let l = h.there in omega (arith, l);
  puts = h.puts;
  capacity = h.capacity;
  below = h.below;
  none = λ j c l p b. by j c p b (split-last j i l);
}
  where
    by : (j c : ℕ) → PutsOn s j c → capacity_of s c < greatest_of s c → (j < i) ⊎ (j ≡ i) → IsNoWorse best.0 best.1 c (capacity_of s c)
    by j c p b (inl l) = h.none j c l p b
    by j c p b (inr e) = absurd (never c (subst (λ k. PutsOn s k c) e p) b)

-- the best stays, where the next is no better
pub keep-best : (s : State) (i channel : ℕ) (best : ℕ × ℕ) → HasBest s i best → PutsOn s i channel → IsNoWorse best.0 best.1 channel (capacity_of s channel) → HasBest s (i + 1) best
keep-best s i channel best h q w = record {
  process = h.process;
  there = let l = h.there in omega (arith, l);
  puts = h.puts;
  capacity = h.capacity;
  below = h.below;
  none = λ j c l p b. by j c p b (split-last j i l);
}
  where
    by : (j c : ℕ) → PutsOn s j c → capacity_of s c < greatest_of s c → (j < i) ⊎ (j ≡ i) → IsNoWorse best.0 best.1 c (capacity_of s c)
    by j c p b (inl l) = h.none j c l p b
    by j c p b (inr e) = subst (λ d. IsNoWorse best.0 best.1 d (capacity_of s d)) (same-put s i channel c q (subst (λ k. PutsOn s k c) e p)) w

-- the next is the best, where the best was worse or there was none
pub take-best : (s : State) (i channel : ℕ) (o : Option (ℕ × ℕ)) → IsBest s i o → PutsOn s i channel → capacity_of s channel < greatest_of s channel → ((best : ℕ × ℕ) → o ≡ Some best → IsNoWorse channel (capacity_of s channel) best.0 best.1) → HasBest s (i + 1) (channel, capacity_of s channel)
take-best s i channel o h q below w = record {
  process = i;
  there = omega arith;
  puts = q;
  capacity = refl;
  below = below;
  none = λ j c l p b. by j c p b (split-last j i l);
}
  where
    through : (d k c m e n : ℕ) → IsNoWorse d k c m → IsNoWorse c m e n → IsNoWorse d k e n
    through d k c m e n (inl l) (inl r) = inl (omega (arith, l, r))
    through d k c m e n (inl l) (inr r) = let z = r.0 in inl (omega (arith, l, z))
    through d k c m e n (inr l) (inl r) = let z = l.0 in inl (omega (arith, r, z))
    through d k c m e n (inr l) (inr r) = inr (l.0 ∙ r.0, let x = l.1 in let y = r.1 in omega (arith, x, y))

    old : (o : Option (ℕ × ℕ)) → IsBest s i o → ((best : ℕ × ℕ) → o ≡ Some best → IsNoWorse channel (capacity_of s channel) best.0 best.1) → (j c : ℕ) → PutsOn s j c → capacity_of s c < greatest_of s c → j < i → IsNoWorse channel (capacity_of s channel) c (capacity_of s c)
    old None h w j c p b l = absurd (h j c l p b)
    old (Some best) h w j c p b l = through channel (capacity_of s channel) best.0 best.1 c (capacity_of s c) (w best refl) (h.none j c l p b)

    by : (j c : ℕ) → PutsOn s j c → capacity_of s c < greatest_of s c → (j < i) ⊎ (j ≡ i) → IsNoWorse channel (capacity_of s channel) c (capacity_of s c)
    by j c p b (inl l) = old o h w j c p b l
    by j c p b (inr e) = inr (ap (λ d. capacity_of s d) (same-put s i channel c q (subst (λ k. PutsOn s k c) e p)), let z = same-put s i channel c q (subst (λ k. PutsOn s k c) e p) in omega (arith, z))

pub none-best : (s : State) → IsBest s 0 None
none-best s j c l p b = absurd (omega (arith, l))
