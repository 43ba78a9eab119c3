-- Something always comes: an event of a process, a growth, a jam, or the end.
use Rattle.std.proofs.Common.{◌≡◌, ◌⊎◌, inl, inr, ℕ, zero, suc, ◌+◌, ◌<◌, ◌≤◌, List, [], ◌∷◌, Bool, true, false, ◌&&◌, nat_eq, nat_lt, nat_le, length, get_or, take, drop, Option, Some, None, if◌then◌else◌, refl, sym, ap, ap₂, subst, ◌∙◌, arith, append-nil, le-leb}
use Rattle.std.proofs.Math.Seq.{take-append_seam}
use Rattle.std.proofs.lemmas.Bool.Decides.{nat_tests}
use Rattle.pt_meaning.specs.Streams.{Streams, at}
use Rattle.pt_meaning.specs.Machine.{Need, Over, Counts, Any, Takes, front, counted, if_long}
use Rattle.pt_meaning.specs.Process.{Put, lacking}
use Rattle.pt_meaning.specs.Running.{total}
use Rattle.pt_meaning.specs.Jam.{is_in_order, is_gathering, is_empty}
use Rattle.pt_laws.specs.Channels.{further}
use Rattle.pt_pn_laws.specs.State.{PnState, MayGet, MayPut, MayFire, IsStopped, offset_of, net_of, got_of, need_at, has_room, lacking_place, least_full}
use Rattle.pt_pn_laws.specs.Lawful.{IsLawful, IsSized, HasPlaces, AllCount, AllGather}
use Rattle.pt_pn_laws.specs.Comes.{SomethingComes, AlwaysComes}
use Rattle.pt_pn_laws.proofs.ListLaws.{length-part}
use Rattle.pt_pn_laws.proofs.GatherLaws.{first-true, one-true}

-- what is gathered in order, and lacks nothing, is all that is needed
whole-take : {T : Type 0} (n : ℕ) (xs : List T) → length xs ≡ n → take n xs ≡ xs
whole-take n xs e = ap₂ (λ k v. take k v) (sym e) (sym (append-nil xs)) ∙ take-append_seam xs []

pub in-order-takes : {T : Type 0} (ns : List ℕ) (X : Streams T) (b : ℕ) → length ns ≡ length X → is_in_order ns X ≡ true → lacking b ns X ≡ None → (left : Streams T) × (counted ns X ≡ Takes X left)
in-order-takes [] [] b e o l = ([], refl)
in-order-takes [] (x ∷ X) b e o l = absurd (omega (arith, e))
in-order-takes (n ∷ ns) [] b e o l = absurd (omega (arith, e))
in-order-takes {T} (n ∷ ns) (xs ∷ X) b e o l =
    by (λ p q. in-order-takes ns X (suc b) (omega (arith, e)) p q) (nat_lt (length xs) n) refl l (one-true (nat_eq (length xs) n && is_in_order ns X) (nat_lt (length xs) n && is_empty X) o)
  where
    clash : true ≡ false → ⊥
    clash z = cc

    by : (is_in_order ns X ≡ true → lacking (suc b) ns X ≡ None → (left : Streams T) × (counted ns X ≡ Takes X left)) → (t : Bool) → nat_lt (length xs) n ≡ t → (if t then Some b else lacking (suc b) ns X) ≡ None →
        ((nat_eq (length xs) n && is_in_order ns X) ≡ true) ⊎ ((nat_lt (length xs) n && is_empty X) ≡ true) → (left : Streams T) × (if_long (nat_le n (length xs)) n xs (counted ns X) ≡ Takes (xs ∷ X) left)
    by ih true t w p = absurd (cc)
    by ih false t w (inr p) = absurd (clash (sym (first-true (nat_lt (length xs) n) (is_empty X) p).0 ∙ t))
    by ih false t w (inl p) =
        let r = first-true (nat_eq (length xs) n) (is_in_order ns X) p in
        let same : length xs ≡ n = let z = r.0 in grind (arith, nat_tests) in
        let f = ih r.1 w in
        (drop n xs ∷ f.0, ap₂ (λ v g. if_long v n xs g) (le-leb n (length xs) (omega (arith, same))) f.1 ∙ ap (λ v. Takes (v ∷ X) (drop n xs ∷ f.0)) (whole-take n xs same))

module _ {T : Type 0} (s : PnState T) (lawful : IsLawful s.network) (sized : IsSized s) (counts : AllCount s) (gathers : AllGather s) where
  abbrev ns : List ℕ
  ns = (net_of s).places

  abbrev Moves : ℕ → Type 0
  Moves i = MayGet s i ⊎ (MayPut s i ⊎ MayFire s i)

  abbrev Stops : ℕ → Type 0
  Stops i = IsStopped s i (at s.halfway.puts i) (need_at s i)

  -- one process
  module _ (i : ℕ) (there : i < length ns) where
    puts-next : (u : Put T) (us : List (Put T)) → at s.halfway.puts i ≡ u ∷ us → (b : Bool) → has_room s u.channel ≡ b → Moves i ⊎ Stops i
    puts-next u us e true r = inl (inr (inl (record { there = there; first = u; rest = us; next = e; room = r })))
    puts-next u us e false r = inr (subst (λ v. IsStopped s i v (need_at s i)) (sym e) r)

    gets-next : (ms : List ℕ) → at s.halfway.puts i ≡ [] → need_at s i ≡ Counts ms → (q : ℕ) → lacking 0 ms (got_of s i) ≡ Some q → (xs : List T) → at s.halfway.queued (offset_of ns i + q) ≡ xs → Moves i ⊎ Stops i
    gets-next ms e n q l [] z = inr (subst (λ v. IsStopped s i v (need_at s i)) (sym e) (subst (λ v. IsStopped s i [] v) (sym n) (q, l, z)))
    gets-next ms e n q l (x ∷ xs) z =
        inl
        (inl
        (record {
          there = there;
          none = e;
          channel = offset_of ns i + q;
          wants = ap (λ v. further (offset_of ns i) (lacking_place v (got_of s i))) n ∙ ap (λ v. further (offset_of ns i) v) l;
          some = subst (λ v. 0 < length v) (sym z) (omega arith);
        }))

    fires-next : (ms : List ℕ) → at s.halfway.puts i ≡ [] → need_at s i ≡ Counts ms → lacking 0 ms (got_of s i) ≡ None → Moves i ⊎ Stops i
    fires-next ms e n l =
        let long : total ns ≤ length s.halfway.gathered = let g = sized.gathered in omega (arith, g) in
        let count : length ms ≡ get_or ns i 0 = subst (λ v. HasPlaces (get_or ns i 0) v) n (counts i there) in
        let order : is_in_order ms (got_of s i) ≡ true = ap₂ (λ us v. is_gathering us v (got_of s i)) (sym e) (sym n) ∙ gathers i there in
        let r = in-order-takes ms (got_of s i) 0 (count ∙ sym (length-part ns i s.halfway.gathered there long)) order l in
        inl (inr (inr (record { there = there; none = e; left = r.0; ready = ap (λ v. front v (got_of s i)) n ∙ r.1 })))

    needs-next : at s.halfway.puts i ≡ [] → (need : Need) → need_at s i ≡ need → Moves i ⊎ Stops i
    needs-next e Over n = inr (subst (λ v. IsStopped s i v (need_at s i)) (sym e) (subst (λ v. IsStopped s i [] v) (sym n) tt))
    needs-next e Any n = absurd (subst (λ v. HasPlaces (get_or ns i 0) v) n (counts i there))
    needs-next e (Counts ms) n = by (lacking 0 ms (got_of s i)) refl
      where
        by : (o : Option ℕ) → lacking 0 ms (got_of s i) ≡ o → Moves i ⊎ Stops i
        by None l = fires-next ms e n l
        by (Some q) l = gets-next ms e n q l (at s.halfway.queued (offset_of ns i + q)) refl

    process-next : (us : List (Put T)) → at s.halfway.puts i ≡ us → Moves i ⊎ Stops i
    process-next [] e = needs-next e (need_at s i) refl
    process-next (u ∷ us) e = puts-next u us e (has_room s u.channel) refl

  -- the first processes
  found : (n : ℕ) → n ≤ length ns → ((i : ℕ) × Moves i) ⊎ ((j : ℕ) → j < n → Stops j)
  found zero l = inr (λ j h. absurd (omega (arith, h)))
  found (suc n) l = with_last (found n (omega (arith, l)))
    where
      split-last : (j : ℕ) → j < suc n → (j < n) ⊎ (j ≡ n)
      split-last j h = grind arith

      more : ((j : ℕ) → j < n → Stops j) → Moves n ⊎ Stops n → ((i : ℕ) × Moves i) ⊎ ((j : ℕ) → j < suc n → Stops j)
      more h (inl m) = inl (n, m)
      more h (inr z) = inr (λ j w. by j (split-last j w))
        where
          by : (j : ℕ) → (j < n) ⊎ (j ≡ n) → Stops j
          by j (inl b) = h j b
          by j (inr e) = subst (λ k. Stops k) (sym e) z

      with_last : ((i : ℕ) × Moves i) ⊎ ((j : ℕ) → j < n → Stops j) → ((i : ℕ) × Moves i) ⊎ ((j : ℕ) → j < suc n → Stops j)
      with_last (inl m) = inl m
      with_last (inr h) = more h (process-next n (omega (arith, l)) (at s.halfway.puts n) refl)

  waiting : (puts : List (List (Put T))) → ((i : ℕ) × (u : Put T) × (us : List (Put T)) × (at puts i ≡ u ∷ us)) ⊎ ((i : ℕ) → at puts i ≡ [])
  waiting [] = inr (λ i. refl)
  waiting ((u ∷ us) ∷ puts) = inl (0, u, us, refl)
  waiting ([] ∷ puts) = next (waiting puts)
    where
      none : ((i : ℕ) → at puts i ≡ []) → (i : ℕ) → at ([] ∷ puts) i ≡ []
      none h zero = refl
      none h (suc i) = h i

      next : ((i : ℕ) × (u : Put T) × (us : List (Put T)) × (at puts i ≡ u ∷ us)) ⊎ ((i : ℕ) → at puts i ≡ []) → ((i : ℕ) × (u : Put T) × (us : List (Put T)) × (at ([] ∷ puts) i ≡ u ∷ us)) ⊎ ((i : ℕ) → at ([] ∷ puts) i ≡ [])
      next (inl w) = inl (suc w.0, w.1, w.2, w.3)
      next (inr h) = inr (none h)

  pub comes : SomethingComes s
  comes = by (found (length ns) (omega arith))
    where
      stopped : ((j : ℕ) → j < length ns → Stops j) → ((i : ℕ) × (u : Put T) × (us : List (Put T)) × (at s.halfway.puts i ≡ u ∷ us)) ⊎ ((i : ℕ) → at s.halfway.puts i ≡ []) → (o : Option (ℕ × ℕ)) → least_full s ≡ o → SomethingComes s
      stopped h (inr none) o e = inr (inr (inr (record { stopped = h; none = none })))
      stopped h (inl w) (Some least) e = inr (inl (record { stopped = h; least = least; grows = e }))
      stopped h (inl w) None e = inr (inr (inl (record { stopped = h; process = w.0; channel = w.1.channel; waits = (w.1, w.2, w.3, refl); none = e })))

      by : ((i : ℕ) × Moves i) ⊎ ((j : ℕ) → j < length ns → Stops j) → SomethingComes s
      by (inl m) = inl m
      by (inr h) = stopped h (waiting s.halfway.puts) (least_full s) refl

pub always-comes : {T : Type 0} → AlwaysComes T
always-comes s lawful sized counts gathers = comes s lawful sized counts gathers
