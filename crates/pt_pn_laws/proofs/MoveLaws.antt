-- Gets, puts and growths go on with a firing, and leave less to wait for.
use Rattle.std.proofs.Common.{◌≡◌, ◌⊎◌, inl, inr, ℕ, zero, suc, min, ◌+◌, ◌<◌, ◌≤◌, List, [], ◌∷◌, ◌++◌, Bool, true, false, ◌&&◌, not, nat_eq, nat_lt, length, set, take, drop, get_or, Option, Some, None, if◌then◌else◌, refl, sym, ap, ap₂, subst, ◌∙◌, arith, length-append, length-set}
use Rattle.std.proofs.lemmas.Bool.{ltb-true, ltb-false}
use Rattle.pt_meaning.specs.Streams.{Streams, at, get, change_at}
use Rattle.pt_meaning.specs.Log.{Log}
use Rattle.pt_meaning.specs.Machine.{Stepping, Facts}
use Rattle.pt_meaning.specs.Net.{Output, Net}
use Rattle.pt_meaning.specs.Kahn.{logs_of, lengths}
use Rattle.pt_meaning.specs.Pn.{pn_limits}
use Rattle.pt_meaning.specs.Process.{Put}
use Rattle.pt_meaning.specs.Running.{total, runs}
use Rattle.pt_meaning.specs.Places.{Halfway, Consistent, IsGet, IsPut}
use Rattle.pt_meaning.specs.Jam.{IsPutting, IsBetween, HoldsAtMost, is_in_order, is_gathering, is_next_put}
use Rattle.pt_laws.specs.TickRuns.{places_at}
use Rattle.pt_laws.proofs.PlaceLaws.{get-keeps, put-keeps}
use Rattle.pt_pn_laws.specs.State.{PnState, MayGet, MayPut, MayGrow, offset_of, net_of, got_of, need_at, capacity_of, greatest_of, got_from, put_by, lesser, doubled, least_from, grown_by, growth_from, puts_in, start_of, in_places, after_get, after_put, after_grow, waits}
use Rattle.pt_pn_laws.specs.Lawful.{AllGather}
use Rattle.pt_pn_laws.specs.Chain.{AllFeed, Underway}
use Rattle.pt_pn_laws.proofs.ListLaws.{nat-apart, nat-other, either-nat, there-if, at-set, at-set-other, at-change, at-change-other, length-change, get-or-set, get-or-set-other, part-fits, parts-apart, length-part, same-part}
use Rattle.pt_pn_laws.proofs.RunSame.{all-same, putting-kept}
use Rattle.pt_pn_laws.proofs.GatherLaws.{gathers-none, lacking-below, in-order-more, Lacks, lacks-of, part-change}

-- the first token of a list
front-of : {T : Type 0} (xs : List T) → 0 < length xs → (x : T) × (take 1 xs ≡ x ∷ []) × (xs ≡ x ∷ drop 1 xs)
front-of [] l = absurd (omega (arith, l))
front-of (x ∷ xs) l = (x, refl, refl)

pub is-get : {T : Type 0} (c : ℕ) (h : Halfway T) → c < length h.gathered → 0 < length (at h.queued c) → IsGet c h (got_from (Some c) h)
is-get c h g q =
    let f = front-of (at h.queued c) q in
    record {
      token = f.0;
      front = f.2 ∙ ap (λ v. f.0 ∷ v) (sym (at-change h.queued c (λ xs. drop 1 xs) (there-if h.queued c q)));
      back = at-change h.gathered c (λ xs. xs ++ take 1 (at h.queued c)) g ∙ ap (λ v. at h.gathered c ++ v) f.1;
      queues = λ d e. at-change-other h.queued c d (λ xs. drop 1 xs) e;
      gathers = λ d e. at-change-other h.gathered c d (λ xs. xs ++ take 1 (at h.queued c)) e;
      same = refl;
    }

pub is-put : {T : Type 0} (net : Net) (i port : ℕ) (u : Put T) (us : List (Put T)) (h : Halfway T) → at h.puts i ≡ u ∷ us → get net.sources u.channel ≡ Some (Output i port) → u.channel < length h.queued → i < length h.puts → IsPut net i h (put_by i (u ∷ us) h)
is-put net i port u us h e f q l = record {
  first = u;
  rest = us;
  port = port;
  before = e;
  after = at-set h.puts i us l;
  feeds = f;
  back = at-change h.queued u.channel (λ xs. xs ++ (u.token ∷ [])) q;
  queues = λ d z. at-change-other h.queued u.channel d (λ xs. xs ++ (u.token ∷ [])) z;
  puts = λ j z. at-set-other h.puts i j us z;
  same = refl;
}

get-below : {A : Type 0} (xs : List A) (j : ℕ) (x : A) → get xs j ≡ Some x → j < length xs
get-below [] j x e = absurd (cc)
get-below (y ∷ xs) zero x e = omega arith
get-below (y ∷ xs) (suc j) x e = let r = get-below xs j x e in omega (arith, r)

-- how many tokens wait
fewer-queued : {T : Type 0} (X : Streams T) (c : ℕ) → 0 < length (at X c) → suc (total (lengths (change_at c (λ xs. drop 1 xs) X))) ≡ total (lengths X)
fewer-queued [] c l = absurd (omega (arith, l))
fewer-queued ([] ∷ X) zero l = absurd (omega (arith, l))
fewer-queued ((x ∷ xs) ∷ X) zero l = omega arith
fewer-queued (xs ∷ X) (suc c) l = let r = fewer-queued X c l in omega (arith, r)

more-queued : {T : Type 0} (x : T) (X : Streams T) (c : ℕ) → c < length X → total (lengths (change_at c (λ xs. xs ++ (x ∷ [])) X)) ≡ suc (total (lengths X))
more-queued x [] c l = absurd (omega (arith, l))
more-queued x (xs ∷ X) zero l = let e = length-append xs (x ∷ []) in omega (arith, e)
more-queued x (xs ∷ X) (suc c) l = let r = more-queued x X c (omega (arith, l)) in omega (arith, r)

fewer-puts : {T : Type 0} (puts : List (List (Put T))) (i : ℕ) (u : Put T) (us : List (Put T)) → i < length puts → at puts i ≡ u ∷ us → suc (puts_in (set puts i us)) ≡ puts_in puts
fewer-puts [] i u us l e = absurd (omega (arith, l))
fewer-puts (vs ∷ puts) zero u us l e = let z = ap (λ v. length v) e in omega (arith, z)
fewer-puts (vs ∷ puts) (suc i) u us l e = let r = fewer-puts puts i u us (omega (arith, l)) e in omega (arith, r)

shorter : {T : Type 0} (xs : List T) → length (drop 1 xs) ≤ length xs
shorter [] = omega arith
shorter (x ∷ xs) = omega arith

shorter-at : {T : Type 0} (X : Streams T) (c d : ℕ) → length (at (change_at c (λ xs. drop 1 xs) X) d) ≤ length (at X d)
shorter-at [] c d = omega arith
shorter-at (xs ∷ X) zero zero = shorter xs
shorter-at (xs ∷ X) zero (suc d) = omega arith
shorter-at (xs ∷ X) (suc c) zero = omega arith
shorter-at (xs ∷ X) (suc c) (suc d) = shorter-at X c d

-- what a growth may grow
record IsLeast (greatest : ℕ → ℕ) (from : ℕ) (ks : List ℕ) (least : ℕ × ℕ) : Type 0 where
  number : ℕ
  channel : least.0 ≡ from + number
  there : number < length ks
  capacity : least.1 ≡ get_or ks number 0
  below : least.1 < greatest least.0

module _ {T : Type 0} (s : PnState T) where
  least-next : (c k : ℕ) (ks : List ℕ) (least : ℕ × ℕ) → IsLeast (greatest_of s) (suc c) ks least → IsLeast (greatest_of s) c (k ∷ ks) least
  least-next c k ks least m = record {
    number = suc m.number;
    channel = let e = m.channel in omega (arith, e);
    there = let l = m.there in omega (arith, l);
    capacity = m.capacity;
    below = m.below;
  }

  some-is : {A : Type 0} (x y : A) → Option.Some x ≡ Option.Some y → x ≡ y
  some-is x y e = cc

  least-is : (c : ℕ) (ks : List ℕ) (least : ℕ × ℕ) → least_from s c ks ≡ Some least → IsLeast (greatest_of s) c ks least
  least-is c [] least e = absurd (cc)
  least-is c (k ∷ ks) least e = by (λ x f. least-is (suc c) ks x f) (is_next_put c s.halfway.puts) (nat_lt k (greatest_of s c)) refl (least_from s (suc c) ks) refl e
    where
      this : k < greatest_of s c → IsLeast (greatest_of s) c (k ∷ ks) (c, k)
      this l = record { number = 0; channel = omega arith; there = omega arith; capacity = refl; below = l }

      pick : (x : ℕ × ℕ) → IsLeast (greatest_of s) c (k ∷ ks) x → k < greatest_of s c → (t : Bool) → IsLeast (greatest_of s) c (k ∷ ks) (if t then x else (c, k))
      pick x m l true = m
      pick x m l false = this l

      chosen : ((x : ℕ × ℕ) → least_from s (suc c) ks ≡ Some x → IsLeast (greatest_of s) (suc c) ks x) → k < greatest_of s c → (o : Option (ℕ × ℕ)) → least_from s (suc c) ks ≡ o → IsLeast (greatest_of s) c (k ∷ ks) (lesser c k o)
      chosen ih l None f = this l
      chosen ih l (Some x) f = pick x (least-next c k ks x (ih x f)) l (nat_lt x.1 k)

      by : ((x : ℕ × ℕ) → least_from s (suc c) ks ≡ Some x → IsLeast (greatest_of s) (suc c) ks x) → (a b : Bool) → nat_lt k (greatest_of s c) ≡ b → (o : Option (ℕ × ℕ)) → least_from s (suc c) ks ≡ o → (if a && b then Some (lesser c k o) else o) ≡ Some least →
          IsLeast (greatest_of s) c (k ∷ ks) least
      by ih true true l o f w = subst (λ v. IsLeast (greatest_of s) c (k ∷ ks) v) (some-is (lesser c k o) least w) (chosen ih (ltb-true k (greatest_of s c) l) o f)
      by ih true false l o f w = least-next c k ks least (ih least (f ∙ w))
      by ih false b l o f w = least-next c k ks least (ih least (f ∙ w))

-- it leaves less to grow by
less-growth : (greatest : ℕ → ℕ) (from : ℕ) (ks : List ℕ) (j k : ℕ) → j < length ks → get_or ks j 0 < k → k ≤ greatest (from + j) → growth_from greatest from (set ks j k) < growth_from greatest from ks
less-growth greatest from [] j k l a b = absurd (omega (arith, l))
less-growth greatest from (x ∷ ks) zero k l a b = let c : k ≤ greatest from = subst (λ v. k ≤ greatest v) (nothing from) b in omega (arith, a, c)
  where
    nothing : (from : ℕ) → from + 0 ≡ from
    nothing from = omega arith
less-growth greatest from (x ∷ ks) (suc j) k l a b = let r = less-growth greatest (suc from) ks j k (omega (arith, l)) a (subst (λ v. k ≤ greatest v) (next from j) b) in omega (arith, r)
  where
    next : (from j : ℕ) → from + suc j ≡ suc from + j
    next from j = omega arith

module _ {T S : Type 0} (facts : Facts T S) (step : Stepping T S) (before : PnState T) (kids : List S) (inputs : Streams T) (s : PnState T) (ms : List ℕ) (now : List S) (ls : List (Log T)) (u : Underway facts step before kids inputs s ms now ls) where
  abbrev net : Net
  net = net_of s

  abbrev Agrees : Halfway T → Type 0
  Agrees h = Consistent facts step s.tag net kids (start_of before inputs) ms now h

  logs-as : (h : Halfway T) (k : Agrees h) → ls ≡ logs_of (runs facts step s.tag net.places (pn_limits net.places) ms kids k.running.all)
  logs-as h k =
      u.logs ∙
      ap (λ A. logs_of (runs facts step s.tag net.places (pn_limits net.places) ms kids A)) (all-same facts step s.tag net kids (start_of before inputs) u.children ms now now u.consistent.held k.held u.consistent.running k.running)

  putting-as : (h : Halfway T) (k : Agrees h) → ((i : ℕ) → (made : List (Put T)) × (at s.halfway.puts i ≡ made ++ at h.puts i)) → (i : ℕ) → (at h.puts i ≡ []) ⊎ IsPutting facts step s.tag net kids k.running.all ms h i
  putting-as h k less i = by (u.putting i)
    where
      nothing : (xs ys : List (Put T)) → [] ≡ xs ++ ys → ys ≡ []
      nothing [] ys e = sym e
      nothing (x ∷ xs) ys e = absurd (cc)

      by : (at s.halfway.puts i ≡ []) ⊎ IsPutting facts step s.tag net kids u.consistent.running.all ms s.halfway i → (at h.puts i ≡ []) ⊎ IsPutting facts step s.tag net kids k.running.all ms h i
      by (inl e) = inl (nothing (less i).0 (at h.puts i) (sym e ∙ (less i).1))
      by (inr p) = inr (putting-kept facts step s.tag net kids (start_of before inputs) u.children i ms ms now now u.consistent.held k.held u.consistent.running k.running s.halfway h refl (less i).0 (less i).1 p)

  -- a get
  module _ (i : ℕ) (m : MayGet s i) where
    wants : Lacks (need_at s i) (got_of s i) (offset_of net.places i) m.channel
    wants = lacks-of (need_at s i) (got_of s i) (offset_of net.places i) m.channel m.wants

    abbrev q : ℕ
    q = wants.place

    long : total net.places ≤ length s.halfway.gathered
    long = let e = u.sized.gathered in omega (arith, e)

    place-in : q < get_or net.places i 0
    place-in = let r = (lacking-below wants.ns (got_of s i) 0 q wants.lacks).1 in let e = length-part net.places i s.halfway.gathered m.there long in omega (arith, r, e)

    channel-in : m.channel < length s.halfway.gathered
    channel-in = let f = part-fits net.places i m.there in let p = place-in in let e = wants.channel in let l = long in omega (arith, f, p, e, l)

    abbrev h' : Halfway T
    h' = got_from (Some m.channel) s.halfway

    got-then : Agrees h'
    got-then = get-keeps facts step s.tag net kids (start_of before inputs) ms now m.channel s.halfway h' u.consistent (is-get m.channel s.halfway channel-in m.some)

    gathers-then : AllGather (in_places h' s)
    gathers-then j l = by (either-nat i j)
      where
        other : nat_eq i j ≡ false → (p : ℕ) → p < get_or net.places j 0 → nat_eq m.channel (offset_of net.places j + p) ≡ false
        other e p w = nat-other m.channel (offset_of net.places j + p) (λ z. apart z (order i j))
          where
            order : (a b : ℕ) → (a ≡ b) ⊎ ((a < b) ⊎ (b < a))
            order a b = grind arith

            apart : m.channel ≡ offset_of net.places j + p → (i ≡ j) ⊎ ((i < j) ⊎ (j < i)) → ⊥
            apart z (inl a) = nat-apart i j e a
            apart z (inr (inl a)) = let f = parts-apart net.places i j a in let r = place-in in let c = wants.channel in absurd (omega (arith, f, r, c, z))
            apart z (inr (inr a)) = let f = parts-apart net.places j i a in let c = wants.channel in absurd (omega (arith, f, w, c, z))

        by : (i ≡ j) ⊎ (nat_eq i j ≡ false) → is_gathering (at s.halfway.puts j) (need_at s j) (places_at net.places j h'.gathered) ≡ true
        by (inr e) =
            ap (λ X. is_gathering (at s.halfway.puts j) (need_at s j) X)
            (same-part net.places j h'.gathered s.halfway.gathered l (let a = length-change s.halfway.gathered m.channel (λ xs. xs ++ take 1 (at s.halfway.queued m.channel)) in let b = long in omega (arith, a, b)) long
            (λ p w. at-change-other s.halfway.gathered m.channel (offset_of net.places j + p) (λ xs. xs ++ take 1 (at s.halfway.queued m.channel)) (other e p w))) ∙
            u.gathers j l
        by (inl e) = subst (λ j. is_gathering (at s.halfway.puts j) (need_at s j) (places_at net.places j h'.gathered) ≡ true) e mine
          where
            f : (x : T) × (take 1 (at s.halfway.queued m.channel) ≡ x ∷ []) × (at s.halfway.queued m.channel ≡ x ∷ drop 1 (at s.halfway.queued m.channel))
            f = front-of (at s.halfway.queued m.channel) m.some

            in-order : is_in_order wants.ns (got_of s i) ≡ true
            in-order = ap₂ (λ us n. is_gathering us n (got_of s i)) (sym m.none) (sym wants.counts) ∙ u.gathers i m.there

            changed : places_at net.places i h'.gathered ≡ change_at q (λ xs. xs ++ (f.0 ∷ [])) (got_of s i)
            changed =
                ap (λ c. places_at net.places i (change_at c (λ xs. xs ++ take 1 (at s.halfway.queued m.channel)) s.halfway.gathered)) wants.channel ∙
                ap (λ t. places_at net.places i (change_at (offset_of net.places i + q) (λ xs. xs ++ t) s.halfway.gathered)) f.1 ∙ part-change net.places i q s.halfway.gathered (λ xs. xs ++ (f.0 ∷ [])) m.there long place-in

            from-nothing : (q : ℕ) → q ≡ 0 + q
            from-nothing q = omega arith

            mine : is_gathering (at s.halfway.puts i) (need_at s i) (places_at net.places i h'.gathered) ≡ true
            mine =
                ap₂ (λ us n. is_gathering us n (places_at net.places i h'.gathered)) m.none wants.counts ∙ ap (λ X. is_in_order wants.ns X) changed ∙
                in-order-more f.0 wants.ns (got_of s i) 0 q (wants.lacks ∙ ap (λ v. Option.Some v) (from-nothing q)) in-order

    got : Underway facts step before kids inputs (in_places h' s) ms now ls
    got = record {
      lawful = u.lawful;
      network = u.network;
      sized = record {
        capacity = u.sized.capacity;
        gathered = length-change s.halfway.gathered m.channel (λ xs. xs ++ take 1 (at s.halfway.queued m.channel)) ∙ u.sized.gathered;
        queued = length-change s.halfway.queued m.channel (λ xs. drop 1 xs) ∙ u.sized.queued;
        puts = u.sized.puts;
        needs = u.sized.needs;
      };
      needs = u.needs;
      counts = u.counts;
      children = u.children;
      consistent = got-then;
      logs = logs-as h' got-then;
      gathers = gathers-then;
      feeds = u.feeds;
      putting = putting-as h' got-then (λ j. ([], refl));
      short = λ c b. let a = u.short c b in let d = shorter-at s.halfway.queued m.channel c in omega (arith, a, d);
      capped = u.capped;
    }

    pub calls-get : Underway facts step before kids inputs (after_get i s) ms now ls × (waits (after_get i s) < waits s)
    calls-get =
        subst (λ (o : Option ℕ). Underway facts step before kids inputs (in_places (got_from o s.halfway) s) ms now ls × (waits (in_places (got_from o s.halfway) s) < waits s)) (sym m.wants)
        (got, let e = fewer-queued s.halfway.queued m.channel m.some in omega (arith, e))

  -- a put
  module _ (i : ℕ) (m : MayPut s i) where
    abbrev c : ℕ
    c = m.first.channel

    abbrev p' : Halfway T
    p' = put_by i (m.first ∷ m.rest) s.halfway

    fed : AllFeed net i (m.first ∷ m.rest)
    fed = subst (λ us. AllFeed net i us) m.next (u.feeds i)

    put-in : c < length s.halfway.queued
    put-in = let r = get-below net.sources c (Output i fed.0.0) fed.0.1 in let e = u.sized.queued in omega (arith, r, e)

    process-in : i < length s.halfway.puts
    process-in = let e = u.sized.puts in let l = m.there in omega (arith, e, l)

    put-then : Agrees p'
    put-then = put-keeps facts step s.tag net kids (start_of before inputs) ms now i s.halfway p' u.consistent (is-put net i fed.0.0 m.first m.rest s.halfway m.next fed.0.1 put-in process-in)

    puts-less : (j : ℕ) → (made : List (Put T)) × (at s.halfway.puts j ≡ made ++ at p'.puts j)
    puts-less j = by (either-nat i j)
      where
        by : (i ≡ j) ⊎ (nat_eq i j ≡ false) → (made : List (Put T)) × (at s.halfway.puts j ≡ made ++ at p'.puts j)
        by (inr e) = ([], sym (at-set-other s.halfway.puts i j m.rest e))
        by (inl e) = (m.first ∷ [], ap (λ k. at s.halfway.puts k) (sym e) ∙ m.next ∙ ap (λ v. m.first ∷ v) (sym (at-set s.halfway.puts i m.rest process-in)) ∙ ap (λ k. m.first ∷ at p'.puts k) e)

    gathers-put : AllGather (in_places p' s)
    gathers-put j l = by (either-nat i j)
      where
        by : (i ≡ j) ⊎ (nat_eq i j ≡ false) → is_gathering (at p'.puts j) (need_at s j) (got_of s j) ≡ true
        by (inr e) = ap (λ us. is_gathering us (need_at s j) (got_of s j)) (at-set-other s.halfway.puts i j m.rest e) ∙ u.gathers j l
        by (inl e) =
            subst (λ j. is_gathering (at p'.puts j) (need_at s j) (got_of s j) ≡ true) e
            (gathers-none (get_or net.places i 0) (at p'.puts i) (need_at s i) (got_of s i) (u.counts i m.there) (ap (λ us. is_gathering us (need_at s i) (got_of s i)) (sym m.next) ∙ u.gathers i m.there))

    feeds-put : (j : ℕ) → AllFeed net j (at p'.puts j)
    feeds-put j = by (either-nat i j)
      where
        by : (i ≡ j) ⊎ (nat_eq i j ≡ false) → AllFeed net j (at p'.puts j)
        by (inr e) = subst (λ us. AllFeed net j us) (sym (at-set-other s.halfway.puts i j m.rest e)) (u.feeds j)
        by (inl e) = subst (λ k. AllFeed net k (at p'.puts k)) e (subst (λ us. AllFeed net i us) (sym (at-set s.halfway.puts i m.rest process-in)) fed.1)

    short-put : HoldsAtMost net (capacity_of s) p'
    short-put d b = by (either-nat c d)
      where
        room : (n : ℕ) (t : Bool) → nat_lt (length (at s.halfway.queued c)) (capacity_of s c) ≡ t → (r : Bool) → nat_lt c n ≡ r → not (r && not t) ≡ true → c < n → length (at s.halfway.queued c) < capacity_of s c
        room n true e r f w l = ltb-true (length (at s.halfway.queued c)) (capacity_of s c) e
        room n false e true f w l = absurd (cc)
        room n false e false f w l = let z = ltb-false c n f in absurd (omega (arith, z, l))

        by : (c ≡ d) ⊎ (nat_eq c d ≡ false) → length (at p'.queued d) ≤ capacity_of s d
        by (inr e) = subst (λ xs. length xs ≤ capacity_of s d) (sym (at-change-other s.halfway.queued c d (λ xs. xs ++ (m.first.token ∷ [])) e)) (u.short d b)
        by (inl e) =
            let l : c < total net.places = subst (λ v. v < total net.places) (sym e) b.1 in
            let w = room (total net.places) (nat_lt (length (at s.halfway.queued c)) (capacity_of s c)) refl (nat_lt c (total net.places)) refl m.room l in
            let z = length-append (at s.halfway.queued c) (m.first.token ∷ []) in
            subst (λ v. length (at p'.queued v) ≤ capacity_of s v) e (subst (λ xs. length xs ≤ capacity_of s c) (sym (at-change s.halfway.queued c (λ xs. xs ++ (m.first.token ∷ [])) put-in)) (omega (arith, w, z)))

    put : Underway facts step before kids inputs (in_places p' s) ms now ls
    put = record {
      lawful = u.lawful;
      network = u.network;
      sized = record {
        capacity = u.sized.capacity;
        gathered = u.sized.gathered;
        queued = length-change s.halfway.queued c (λ xs. xs ++ (m.first.token ∷ [])) ∙ u.sized.queued;
        puts = length-set s.halfway.puts i m.rest ∙ u.sized.puts;
        needs = u.sized.needs;
      };
      needs = u.needs;
      counts = u.counts;
      children = u.children;
      consistent = put-then;
      logs = logs-as p' put-then;
      gathers = gathers-put;
      feeds = feeds-put;
      putting = putting-as p' put-then puts-less;
      short = short-put;
      capped = u.capped;
    }

    pub calls-put : Underway facts step before kids inputs (after_put i s) ms now ls × (waits (after_put i s) < waits s)
    calls-put =
        subst (λ us. Underway facts step before kids inputs (in_places (put_by i us s.halfway) s) ms now ls × (waits (in_places (put_by i us s.halfway) s) < waits s)) (sym m.next)
        (put, let a = more-queued m.first.token s.halfway.queued c put-in in let b = fewer-puts s.halfway.puts i m.first m.rest process-in m.next in omega (arith, a, b))

  -- a growth
  module _ (m : MayGrow s) where
    least : IsLeast (greatest_of s) 0 s.capacity m.least
    least = least-is s 0 s.capacity m.least m.grows

    abbrev full : ℕ
    full = m.least.0

    abbrev capacity : ℕ
    capacity = doubled (greatest_of s full) m.least.1

    number-is : full ≡ least.number
    number-is = let e = least.channel in omega (arith, e)

    full-in : full < length s.capacity
    full-in = let l = least.there in let e = number-is in omega (arith, l, e)

    was : m.least.1 ≡ capacity_of s full
    was = least.capacity ∙ ap (λ j. get_or s.capacity j 0) (sym number-is)

    may : (0 < capacity_of s full) × (capacity_of s full ≤ greatest_of s full)
    may = u.capped full (let l = full-in in let e = u.sized.capacity in omega (arith, l, e))

    doubles : (k g : ℕ) → 0 < k → k < g → (k < min (k + k) g) × (min (k + k) g ≤ g)
    doubles k g a b = (omega (arith, a, b), omega arith)

    grows : (m.least.1 < capacity) × (capacity ≤ greatest_of s full)
    grows = doubles m.least.1 (greatest_of s full) (let a = may.0 in let e = was in omega (arith, a, e)) least.below

    grown : Underway facts step before kids inputs (grown_by (Some m.least) s) ms now ls
    grown = record {
      lawful = u.lawful;
      network = u.network;
      sized = record { capacity = length-set s.capacity full capacity ∙ u.sized.capacity; gathered = u.sized.gathered; queued = u.sized.queued; puts = u.sized.puts; needs = u.sized.needs };
      needs = u.needs;
      counts = u.counts;
      children = u.children;
      consistent = u.consistent;
      logs = u.logs;
      gathers = u.gathers;
      feeds = u.feeds;
      putting = u.putting;
      short = λ c b. short-one c b (either-nat full c);
      capped = λ c l. capped-one c l (either-nat full c);
    }
      where
        short-one : (c : ℕ) → IsBetween net c → (full ≡ c) ⊎ (nat_eq full c ≡ false) → length (at s.halfway.queued c) ≤ get_or (set s.capacity full capacity) c 0
        short-one c b (inr e) = subst (λ k. length (at s.halfway.queued c) ≤ k) (sym (get-or-set-other s.capacity full c capacity 0 e)) (u.short c b)
        short-one c b (inl e) =
            subst (λ v. length (at s.halfway.queued v) ≤ get_or (set s.capacity full capacity) v 0) e
            (subst (λ k. length (at s.halfway.queued full) ≤ k) (sym (get-or-set s.capacity full capacity 0 full-in)) (let a = u.short full (subst (λ v. IsBetween net v) (sym e) b) in let g = grows.0 in let w = was in omega (arith, a, g, w)))

        capped-one : (c : ℕ) → c < length net.sources → (full ≡ c) ⊎ (nat_eq full c ≡ false) → (0 < get_or (set s.capacity full capacity) c 0) × (get_or (set s.capacity full capacity) c 0 ≤ greatest_of s c)
        capped-one c l (inr e) = subst (λ k. (0 < k) × (k ≤ greatest_of s c)) (sym (get-or-set-other s.capacity full c capacity 0 e)) (u.capped c l)
        capped-one c l (inl e) =
            subst (λ v. (0 < get_or (set s.capacity full capacity) v 0) × (get_or (set s.capacity full capacity) v 0 ≤ greatest_of s v)) e
            (subst (λ k. (0 < k) × (k ≤ greatest_of s full)) (sym (get-or-set s.capacity full capacity 0 full-in)) (let g = grows.0 in (omega (arith, g), grows.1)))

    less : waits (grown_by (Some m.least) s) < waits s
    less =
        let r = less-growth (greatest_of s) 0 s.capacity full capacity full-in (let g = grows.0 in let w = was in omega (arith, g, w)) (subst (λ v. capacity ≤ greatest_of s v) (from full) grows.1) in
        omega (arith, r)
      where
        from : (c : ℕ) → c ≡ 0 + c
        from c = omega arith

    pub calls-grow : Underway facts step before kids inputs (after_grow s) ms now ls × (waits (after_grow s) < waits s)
    calls-grow = subst (λ o. Underway facts step before kids inputs (grown_by o s) ms now ls × (waits (grown_by o s) < waits s)) (sym m.grows) (grown, less)
