-- What is noted of processes stays so where an event wakes the processes that it concerns.
use Rattle.std.proofs.Common.{◌≡◌, ◌⊎◌, inl, inr, ℕ, zero, suc, ◌+◌, ◌<◌, ◌≤◌, List, [], ◌∷◌, ◌++◌, Bool, true, false, not, ◌&&◌, nat_eq, nat_lt, length, set, take, drop, get_or, Option, Some, None, refl, sym, ap, ap₂, subst, ◌∙◌, arith, length-set}
use Rattle.std.proofs.lemmas.Bool.{ltb-true, ltb-false, false≢true}
use Rattle.std.proofs.lemmas.Bool.Decides.{nat_tests}
use Rattle.pt_meaning.specs.Tag.{Tag}
use Rattle.pt_meaning.specs.Streams.{Streams, at, change_at}
use Rattle.pt_meaning.specs.Machine.{Over}
use Rattle.pt_meaning.specs.Process.{Put, emptied}
use Rattle.pt_meaning.specs.Running.{total}
use Rattle.pt_recv.specs.Lines.{list_at, pushed, popped}
use Rattle.pt_value.specs.declared.token.Token.{Token}
use Rattle.pt_pn_laws.specs.State.{Network, Stage, IsStopped, AllStopped, has_room, need_at, lacking_place, offset_of}
use Rattle.pt_process.specs.Network.{greatest_in}
use Rattle.pt_process.specs.Process.{Standing, with_handed}
use Rattle.pt_pn_work.specs.Core.{State, nobody, puts_of_all, state_with, ArePlaced}
use Rattle.pt_pn_work.proofs.CoreLaws.{change-other, placed-long, puts-is, need-is, part-is, put-stops, get-stops, over-stops, room-inside, list-is}
use Rattle.pt_pn.specs.Puts.{all_put}
use Rattle.pt_pn.specs.Waiting.{NonePut}
use Rattle.pt_pn.specs.Noted.{Noted, AwaitsRoom, AwaitsToken, Waits, AreSettled, AreNone, awake, without_token, without_room, woken_if, token_came, room_came, tokens_came, token_awaited, room_awaited, at_end, IsTokenNoted, IsRoomNoted, IsRanked, rank_at}
use Rattle.pt_pn.proofs.ChangedLaws.{cleared, still-set, set-or-same, set-keeps, set-now, list-else, list-longer, list-shorter, number-else, same-number, longer-end, shorter-front}
use Rattle.pt_pn.proofs.RankLaws.{rank-now, rank-stays}

module _ (n : Network Token) where
  -- a process that waits for room waits on, where its channel stays full and marked
  pub room-on : (K K' : List ℕ) (L L' : Streams Token) (m m' : Noted) (i : ℕ) (p : Standing) → m'.writers ≡ m.writers → (h : AwaitsRoom n K L m i p) → get_or K' h.first.channel 0 ≤ length (list_at L' h.first.channel) → get_or m'.rooms h.first.channel false ≡ true → IsRanked n K' m' h.first.channel → AwaitsRoom n K' L' m' i p
  room-on K K' L L' m m' i p w h f r o = record { first = h.first; rest = h.rest; next = h.next; inner = h.inner; full = f; marked = r; writer = ap (λ v. get_or v h.first.channel 0) w ∙ h.writer; ranked = o }

  -- one that waits for a token waits on, where its channel stays empty and marked
  pub token-on : (L L' : Streams Token) (m m' : Noted) (i : ℕ) (p : Standing) → m'.readers ≡ m.readers → (h : AwaitsToken n L m i p) → length (list_at L' (offset_of n.plan.net.places i + h.place)) ≡ 0 → get_or m'.tokens (offset_of n.plan.net.places i + h.place) false ≡ true → AwaitsToken n L' m' i p
  token-on L L' m m' i p w h f r = record { none = h.none; place = h.place; lacks = h.lacks; within = h.within; empty = f; marked = r; reader = ap (λ v. get_or v (offset_of n.plan.net.places i + h.place) 0) w ∙ h.reader }

  -- the notes say the same of channels
  waits-on : (K : List ℕ) (L : Streams Token) (m m' : Noted) (i : ℕ) (p : Standing) → m'.writers ≡ m.writers → m'.readers ≡ m.readers → ((d : ℕ) → IsRanked n K m d → IsRanked n K m' d) → ((d : ℕ) → get_or m.rooms d false ≡ true → get_or m'.rooms d false ≡ true) → ((d : ℕ) → get_or m.tokens d false ≡ true → get_or m'.tokens d false ≡ true) → Waits n K L m i p → Waits n K L m' i p
  waits-on K L m m' i p w r o a b (inl h) = inl (room-on K K L L m m' i p w h h.full (a h.first.channel h.marked) (o h.first.channel h.ranked))
  waits-on K L m m' i p w r o a b (inr (inl h)) = inr (inl (token-on L L m m' i p r h h.empty (b (offset_of n.plan.net.places i + h.place) h.marked)))
  waits-on K L m m' i p w r o a b (inr (inr h)) = inr (inr h)

  -- process i is looked at again, which now stands otherwise
  pub awake-settled : (ps ps' : List Standing) (K : List ℕ) (L : Streams Token) (m : Noted) (i : ℕ) → ((j : ℕ) → nat_eq i j ≡ false → get_or ps' j nobody ≡ get_or ps j nobody) → AreSettled n ps K L m → AreSettled n ps' K L (awake i m)
  awake-settled ps ps' K L m i o h = record {
    settled = λ j e. let r = cleared m.settled i j e in subst (λ p. Waits n K L (awake i m) j p) (sym (o j r.0)) (waits-on K L m (awake i m) j (get_or ps j nobody) refl refl (λ d z. z) (λ d z. z) (λ d z. z) (h.settled j r.1));
    resting = λ j e. let r = cleared m.resting i j e in ap (λ (p : Standing). p.puts) (o j r.0) ∙ h.resting j r.1;
    counted = length-set m.settled i false ∙ h.counted;
    rest_counted = length-set m.resting i false ∙ h.rest_counted;
  }

  -- a channel has tokens more, and who waits for one is looked at again
  pub token-settled : (ps : List Standing) (K : List ℕ) (L L' : Streams Token) (m : Noted) (c : ℕ) → ((d : ℕ) → length (list_at L d) ≤ length (list_at L' d)) → ((d : ℕ) → nat_eq c d ≡ false → list_at L' d ≡ list_at L d) → AreSettled n ps K L m → AreSettled n ps K L' (token_came c m)
  token-settled ps K L L' m c g o h = by (get_or m.tokens c false) refl
    where
      -- a process that doesn't wait on the channel for a token waits on
      on : (j : ℕ) (p : Standing) → (get_or m.tokens c false ≡ true → get_or m.readers c 0 ≡ j → ⊥) → Waits n K L m j p → Waits n K L' (without_token c m) j p
      on j p a (inl w) = inl (room-on K K L L' m (without_token c m) j p refl w (let q = w.full in let l = g w.first.channel in omega (arith, q, l)) w.marked w.ranked)
      on j p a (inr (inr w)) = inr (inr w)
      on j p a (inr (inl w)) = apart (offset_of n.plan.net.places j + w.place) (nat_eq c (offset_of n.plan.net.places j + w.place)) refl refl
        where
          apart : (d : ℕ) (b : Bool) → nat_eq c d ≡ b → d ≡ offset_of n.plan.net.places j + w.place → Waits n K L' (without_token c m) j p
          apart d true e z = let q = same-number c d e ∙ z in absurd (a (ap (λ k. get_or m.tokens k false) q ∙ w.marked) (ap (λ k. get_or m.readers k 0) q ∙ w.reader))
          apart d false e z =
              let f : nat_eq c (offset_of n.plan.net.places j + w.place) ≡ false = ap (λ k. nat_eq c k) (sym z) ∙ e in
              inr (inl (token-on L L' m (without_token c m) j p refl w (ap (λ v. length v) (o (offset_of n.plan.net.places j + w.place) f) ∙ w.empty) (still-set m.tokens c (offset_of n.plan.net.places j + w.place) f w.marked)))

      by : (b : Bool) → get_or m.tokens c false ≡ b → AreSettled n ps K L' (woken_if b (get_or m.readers c 0) (without_token c m))
      by true e = record {
        settled = λ j s. let r = cleared m.settled (get_or m.readers c 0) j s in waits-on K L' (without_token c m) (awake (get_or m.readers c 0) (without_token c m)) j (get_or ps j nobody) refl refl (λ d z. z) (λ d z. z) (λ d z. z) (on j (get_or ps j nobody) (λ _ q. differ (get_or m.readers c 0) j r.0 q) (h.settled j r.1));
        resting = λ j s. h.resting j (cleared m.resting (get_or m.readers c 0) j s).1;
        counted = length-set m.settled (get_or m.readers c 0) false ∙ h.counted;
        rest_counted = length-set m.resting (get_or m.readers c 0) false ∙ h.rest_counted;
      }
        where
          differ : (i j : ℕ) → nat_eq i j ≡ false → i ≡ j → ⊥
          differ i j f q = grind (arith, nat_tests)
      by false e = record {
        settled = λ j s. on j (get_or ps j nobody) (λ t _. false≢true (sym e ∙ t)) (h.settled j s);
        resting = h.resting;
        counted = h.counted;
        rest_counted = h.rest_counted;
      }

  -- a channel has more room, and who waits for it is looked at again
  pub room-settled : (ps : List Standing) (K K' : List ℕ) (L L' : Streams Token) (m : Noted) (c : ℕ) → ((d : ℕ) → length (list_at L' d) ≤ length (list_at L d)) → ((d : ℕ) → nat_eq c d ≡ false → list_at L' d ≡ list_at L d) → ((d : ℕ) → nat_eq c d ≡ false → get_or K' d 0 ≡ get_or K d 0) → AreSettled n ps K L m → AreSettled n ps K' L' (room_came c m)
  room-settled ps K K' L L' m c g o k h = by (get_or m.rooms c false) refl
    where
      still-ranked : (R : List (Option Tag)) (d k k' : ℕ) → k' ≡ k → (k < greatest_in n d → get_or R d None ≡ Some (rank_at k d)) → k' < greatest_in n d → get_or R d None ≡ Some (rank_at k' d)
      still-ranked R d k k' e r = subst (λ x. x < greatest_in n d → get_or R d None ≡ Some (rank_at x d)) (sym e) r

      on : (j : ℕ) (p : Standing) → (get_or m.rooms c false ≡ true → get_or m.writers c 0 ≡ j → ⊥) → Waits n K L m j p → Waits n K' L' (without_room c m) j p
      on j p a (inr (inr w)) = inr (inr w)
      on j p a (inr (inl w)) = inr (inl (token-on L L' m (without_room c m) j p refl w (let q = w.empty in let l = g (offset_of n.plan.net.places j + w.place) in omega (arith, q, l)) w.marked))
      on j p a (inl w) = apart w.first.channel (nat_eq c w.first.channel) refl refl
        where
          apart : (d : ℕ) (b : Bool) → nat_eq c d ≡ b → d ≡ w.first.channel → Waits n K' L' (without_room c m) j p
          apart d true e z = let q = same-number c d e ∙ z in absurd (a (ap (λ y. get_or m.rooms y false) q ∙ w.marked) (ap (λ y. get_or m.writers y 0) q ∙ w.writer))
          apart d false e z =
              let f : nat_eq c w.first.channel ≡ false = ap (λ y. nat_eq c y) (sym z) ∙ e in
              let u = k w.first.channel f in
              let v = ap (λ y. length y) (o w.first.channel f) in
              let q = w.full in
              inl (room-on K K' L L' m (without_room c m) j p refl w (omega (arith, u, v, q)) (still-set m.rooms c w.first.channel f w.marked) (still-ranked m.ranks w.first.channel (get_or K w.first.channel 0) (get_or K' w.first.channel 0) u w.ranked))

      by : (b : Bool) → get_or m.rooms c false ≡ b → AreSettled n ps K' L' (woken_if b (get_or m.writers c 0) (without_room c m))
      by true e = record {
        settled = λ j s. let r = cleared m.settled (get_or m.writers c 0) j s in waits-on K' L' (without_room c m) (awake (get_or m.writers c 0) (without_room c m)) j (get_or ps j nobody) refl refl (λ d z. z) (λ d z. z) (λ d z. z) (on j (get_or ps j nobody) (λ _ q. differ (get_or m.writers c 0) j r.0 q) (h.settled j r.1));
        resting = λ j s. h.resting j (cleared m.resting (get_or m.writers c 0) j s).1;
        counted = length-set m.settled (get_or m.writers c 0) false ∙ h.counted;
        rest_counted = length-set m.resting (get_or m.writers c 0) false ∙ h.rest_counted;
      }
        where
          differ : (i j : ℕ) → nat_eq i j ≡ false → i ≡ j → ⊥
          differ i j f q = grind (arith, nat_tests)
      by false e = record {
        settled = λ j s. on j (get_or ps j nobody) (λ t _. false≢true (sym e ∙ t)) (h.settled j s);
        resting = h.resting;
        counted = h.counted;
        rest_counted = h.rest_counted;
      }

  -- other processes stand as they did
  others : (ps ps' : List Standing) (i : ℕ) (f : Standing → Standing) → ps' ≡ change_at i f ps → (j : ℕ) → nat_eq i j ≡ false → get_or ps' j nobody ≡ get_or ps j nobody
  others ps ps' i f e j q = ap (λ v. get_or v j nobody) e ∙ change-other ps i j nobody f q

  -- a process has put on a channel
  pub put-settled : (ps ps' : List Standing) (K : List ℕ) (L L' : Streams Token) (m m' : Noted) (i c : ℕ) (t : Token) (f : Standing → Standing) → ps' ≡ change_at i f ps → L' ≡ pushed L c t → m' ≡ awake i (token_came c m) → AreSettled n ps K L m → AreSettled n ps' K L' m'
  put-settled ps ps' K L L' m m' i c t f e l q h =
      subst (λ v. AreSettled n ps' K L' v) (sym q)
      (awake-settled ps ps' K L' (token_came c m) i (others ps ps' i f e)
      (subst (λ v. AreSettled n ps K v (token_came c m)) (sym l) (token-settled ps K L (pushed L c t) m c (λ d. list-longer L (list_at L c ++ (t ∷ [])) c d (longer-end (list_at L c) t)) (list-else L (list_at L c ++ (t ∷ [])) c) h)))

  -- a process has got from a channel
  pub get-settled : (ps ps' : List Standing) (K : List ℕ) (L L' : Streams Token) (m m' : Noted) (i c : ℕ) (f : Standing → Standing) → ps' ≡ change_at i f ps → L' ≡ popped L c → m' ≡ awake i (room_came c m) → AreSettled n ps K L m → AreSettled n ps' K L' m'
  get-settled ps ps' K L L' m m' i c f e l q h =
      subst (λ v. AreSettled n ps' K L' v) (sym q)
      (awake-settled ps ps' K L' (room_came c m) i (others ps ps' i f e)
      (subst (λ v. AreSettled n ps K v (room_came c m)) (sym l) (room-settled ps K K L (popped L c) m c (λ d. list-shorter L (drop 1 (list_at L c)) c d (shorter-front (list_at L c))) (list-else L (drop 1 (list_at L c)) c) (λ d _. refl) h)))

  -- a channel has grown
  pub grown-settled : (ps : List Standing) (K K' : List ℕ) (L : Streams Token) (m m' : Noted) (c k : ℕ) → K' ≡ set K c k → m' ≡ room_came c m → AreSettled n ps K L m → AreSettled n ps K' L m'
  grown-settled ps K K' L m m' c k e q h = subst (λ v. AreSettled n ps K' L v) (sym q) (subst (λ v. AreSettled n ps v L (room_came c m)) (sym e) (room-settled ps K (set K c k) L L m c (λ d. omega arith) (λ d _. refl) (λ d q. number-else K k c d q) h))

  -- a process has fired
  pub told-settled : (ps ps' : List Standing) (K : List ℕ) (L L' : Streams Token) (m m' : Noted) (i : ℕ) (f : Standing → Standing) → ps' ≡ change_at i f ps → L' ≡ L → m' ≡ awake i m → AreSettled n ps K L m → AreSettled n ps' K L' m'
  told-settled ps ps' K L L' m m' i f e l q h = subst (λ v. AreSettled n ps' K L' v) (sym q) (subst (λ v. AreSettled n ps' K v (awake i m)) (sym l) (awake-settled ps ps' K L m i (others ps ps' i f e) h))

  -- a process was asked to fire
  pub fired-settled : (ps ps' : List Standing) (K : List ℕ) (L : Streams Token) (m : Noted) (i : ℕ) → ps' ≡ change_at i with_handed ps → AreSettled n ps K L m → AreSettled n ps' K L m
  fired-settled ps ps' K L m i e h = record {
    settled = λ j s. subst (λ v. Waits n K L m j (get_or v j nobody)) (sym e) (handed-waits K L m j (get_or ps j nobody) (get_or (change_at i with_handed ps) j nobody) (handed-same ps i j) (h.settled j s));
    resting = λ j s. ap (λ v. (get_or v j nobody).puts) e ∙ (handed-same ps i j).2 ∙ h.resting j s;
    counted = h.counted;
    rest_counted = h.rest_counted;
  }
    where
      handed-same : (qs : List Standing) (i j : ℕ) → ((get_or (change_at i with_handed qs) j nobody).need ≡ (get_or qs j nobody).need) × ((get_or (change_at i with_handed qs) j nobody).got ≡ (get_or qs j nobody).got) × ((get_or (change_at i with_handed qs) j nobody).puts ≡ (get_or qs j nobody).puts)
      handed-same [] i j = (refl, refl, refl)
      handed-same (q ∷ qs) zero zero = (refl, refl, refl)
      handed-same (q ∷ qs) zero (suc j) = (refl, refl, refl)
      handed-same (q ∷ qs) (suc i) zero = (refl, refl, refl)
      handed-same (q ∷ qs) (suc i) (suc j) = handed-same qs i j

      handed-waits : (K : List ℕ) (L : Streams Token) (m : Noted) (j : ℕ) (p p' : Standing) → (p'.need ≡ p.need) × (p'.got ≡ p.got) × (p'.puts ≡ p.puts) → Waits n K L m j p → Waits n K L m j p'
      handed-waits K L m j p p' (a, b, c) (inl w) = inl (record { first = w.first; rest = w.rest; next = c ∙ w.next; inner = w.inner; full = w.full; marked = w.marked; writer = w.writer; ranked = w.ranked })
      handed-waits K L m j p p' (a, b, c) (inr (inl w)) = inr (inl (record { none = c ∙ w.none; place = w.place; lacks = ap₂ (λ x y. lacking_place x y) a b ∙ w.lacks; within = w.within; empty = w.empty; marked = w.marked; reader = w.reader }))
      handed-waits K L m j p p' (a, b, c) (inr (inr w)) = inr (inr (c ∙ w.0, a ∙ w.1))

  -- the inputs of a firing have arrived
  pub arrived-settled : (us : List (Put Token)) (ps : List Standing) (K : List ℕ) (L : Streams Token) (m : Noted) → AreSettled n ps K L m → AreSettled n ps K (all_put us L) (tokens_came us m)
  arrived-settled [] ps K L m h = h
  arrived-settled (u ∷ us) ps K L m h =
      arrived-settled us ps K (pushed L u.channel u.token) (token_came u.channel m)
      (token-settled ps K L (pushed L u.channel u.token) m u.channel (λ d. list-longer L (list_at L u.channel ++ (u.token ∷ [])) u.channel d (longer-end (list_at L u.channel) u.token)) (list-else L (list_at L u.channel ++ (u.token ∷ [])) u.channel) h)

  pub begun-settled : (ps : List Standing) (K : List ℕ) (L L' : Streams Token) (m m' : Noted) (us : List (Put Token)) → L' ≡ all_put us L → m' ≡ tokens_came us m → AreSettled n ps K L m → AreSettled n ps K L' m'
  begun-settled ps K L L' m m' us l q h = subst (λ v. AreSettled n ps K L' v) (sym q) (subst (λ v. AreSettled n ps K v (tokens_came us m)) (sym l) (arrived-settled us ps K L m h))

  -- the same channels, and what stands for the same processes
  pub same-settled : (ps ps' : List Standing) (K : List ℕ) (L L' : Streams Token) (m : Noted) → ps' ≡ ps → L' ≡ L → AreSettled n ps K L m → AreSettled n ps' K L' m
  same-settled ps ps' K L L' m e l h = subst (λ q. AreSettled n q K L' m) (sym e) (subst (λ v. AreSettled n ps K v m) (sym l) h)

  -- nobody is noted
  pub none-settled : (ps : List Standing) (K : List ℕ) (L : Streams Token) (m : Noted) → AreNone (length n.plan.net.places) m → AreSettled n ps K L m
  none-settled ps K L m h = record { settled = λ i e. absurd (false≢true (sym (h.settled i) ∙ e)); resting = λ i e. absurd (false≢true (sym (h.resting i) ∙ e)); counted = h.counted; rest_counted = h.rest_counted }

  -- a process is stopped, as it was looked at, and this is noted
  pub token-noted : (ps : List Standing) (K : List ℕ) (L : Streams Token) (m m' : Noted) (i c place : ℕ) → (get_or ps i nobody).puts ≡ [] → lacking_place (get_or ps i nobody).need (get_or ps i nobody).got ≡ Some place → place < get_or n.plan.net.places i 0 → c ≡ offset_of n.plan.net.places i + place → length (list_at L c) ≡ 0 →
      IsTokenNoted i c m m' → AreSettled n ps K L m → AreSettled n ps K L m'
  token-noted ps K L m m' i c place z l w k e (inl q) h = subst (λ v. AreSettled n ps K L v) (sym q) h
  token-noted ps K L m m' i c place z l w k e (inr (t, r, q)) h = subst (λ v. AreSettled n ps K L v) (sym q) (record {
    settled = λ j s. by j (set-or-same m.settled i j s);
    resting = λ j s. rests j (set-or-same m.resting i j s);
    counted = length-set m.settled i true ∙ h.counted;
    rest_counted = length-set m.resting i true ∙ h.rest_counted;
  })
    where
      now : AwaitsToken n L (token_awaited i c m) i (get_or ps i nobody)
      now = record {
        none = z;
        place = place;
        lacks = l;
        within = w;
        empty = ap (λ d. length (list_at L d)) (sym k) ∙ e;
        marked = ap (λ d. get_or (set m.tokens c true) d false) (sym k) ∙ set-now m.tokens c t;
        reader = ap (λ d. get_or m.readers d 0) (sym k) ∙ r;
      }

      by : (j : ℕ) → (i ≡ j) ⊎ (get_or m.settled j false ≡ true) → Waits n K L (token_awaited i c m) j (get_or ps j nobody)
      by j (inl y) = subst (λ d. Waits n K L (token_awaited i c m) d (get_or ps d nobody)) y (inr (inl now))
      by j (inr y) = waits-on K L m (token_awaited i c m) j (get_or ps j nobody) refl refl (λ d a. a) (λ d a. a) (λ d a. set-keeps m.tokens c d a) (h.settled j y)

      rests : (j : ℕ) → (i ≡ j) ⊎ (get_or m.resting j false ≡ true) → (get_or ps j nobody).puts ≡ []
      rests j (inl y) = subst (λ d. (get_or ps d nobody).puts ≡ []) y z
      rests j (inr y) = h.resting j y

  pub room-noted : (ps : List Standing) (K : List ℕ) (L : Streams Token) (m m' : Noted) (i c k : ℕ) (u : Put Token) (us : List (Put Token)) → (get_or ps i nobody).puts ≡ u ∷ us → u.channel ≡ c → c < total n.plan.net.places → get_or K c 0 ≤ length (list_at L c) → k ≡ get_or K c 0 →
      IsRoomNoted i c k m m' → AreSettled n ps K L m → AreSettled n ps K L m'
  room-noted ps K L m m' i c k u us z y w f x (inl q) h = subst (λ v. AreSettled n ps K L v) (sym q) h
  room-noted ps K L m m' i c k u us z y w f x (inr (t, l, r, q)) h = subst (λ v. AreSettled n ps K L v) (sym q) (record {
    settled = λ j s. by j (set-or-same m.settled i j s);
    resting = h.resting;
    counted = length-set m.settled i true ∙ h.counted;
    rest_counted = h.rest_counted;
  })
    where
      -- the rank of the channel is what it is, and those of others stay
      here : IsRanked n K (room_awaited i c k m) c
      here _ = rank-now m.ranks (Some (rank_at k c)) c l ∙ ap (λ a. Option.Some (rank_at a c)) x

      there : (d : ℕ) → IsRanked n K m d → IsRanked n K (room_awaited i c k m) d
      there d o g = rank-stays m.ranks (Some (rank_at k c)) (Some (rank_at (get_or K d 0) d)) c d (o g) (λ e. ap (λ a. Option.Some (rank_at a c)) x ∙ ap (λ a. Option.Some (rank_at (get_or K a 0) a)) e)

      now : AwaitsRoom n K L (room_awaited i c k m) i (get_or ps i nobody)
      now = record {
        first = u;
        rest = us;
        next = z;
        inner = subst (λ d. d < total n.plan.net.places) (sym y) w;
        full = subst (λ d. get_or K d 0 ≤ length (list_at L d)) (sym y) f;
        marked = ap (λ d. get_or (set m.rooms c true) d false) y ∙ set-now m.rooms c t;
        writer = ap (λ d. get_or m.writers d 0) y ∙ r;
        ranked = subst (λ d. IsRanked n K (room_awaited i c k m) d) (sym y) here;
      }

      by : (j : ℕ) → (i ≡ j) ⊎ (get_or m.settled j false ≡ true) → Waits n K L (room_awaited i c k m) j (get_or ps j nobody)
      by j (inl e) = subst (λ d. Waits n K L (room_awaited i c k m) d (get_or ps d nobody)) e (inl now)
      by j (inr e) = waits-on K L m (room_awaited i c k m) j (get_or ps j nobody) refl refl there (λ d a. set-keeps m.rooms c d a) (λ d a. a) (h.settled j e)

  pub over-noted : (ps : List Standing) (K : List ℕ) (L : Streams Token) (m m' : Noted) (i : ℕ) → ((get_or ps i nobody).puts ≡ []) × ((get_or ps i nobody).need ≡ Over) → m' ≡ at_end i m → AreSettled n ps K L m → AreSettled n ps K L m'
  over-noted ps K L m m' i (z, o) q h = subst (λ v. AreSettled n ps K L v) (sym q) (record {
    settled = λ j s. by j (set-or-same m.settled i j s);
    resting = λ j s. rests j (set-or-same m.resting i j s);
    counted = length-set m.settled i true ∙ h.counted;
    rest_counted = length-set m.resting i true ∙ h.rest_counted;
  })
    where
      by : (j : ℕ) → (i ≡ j) ⊎ (get_or m.settled j false ≡ true) → Waits n K L (at_end i m) j (get_or ps j nobody)
      by j (inl y) = subst (λ d. Waits n K L (at_end i m) d (get_or ps d nobody)) y (inr (inr (z, o)))
      by j (inr y) = waits-on K L m (at_end i m) j (get_or ps j nobody) refl refl (λ d a. a) (λ d a. a) (λ d a. a) (h.settled j y)

      rests : (j : ℕ) → (i ≡ j) ⊎ (get_or m.resting j false ≡ true) → (get_or ps j nobody).puts ≡ []
      rests j (inl y) = subst (λ d. (get_or ps d nobody).puts ≡ []) y z
      rests j (inr y) = h.resting j y

  -- the own outputs are handed out
  within-total : (ns : List ℕ) (i place : ℕ) → place < get_or ns i 0 → offset_of ns i + place < total ns
  within-total [] i place l = absurd (omega (arith, l))
  within-total (k ∷ ns) zero place l = omega (arith, l)
  within-total (k ∷ ns) (suc i) place l = let r = within-total ns i place l in omega (arith, r)

  left-of : (from : ℕ) (L : Streams Token) (d : ℕ) → d < from → list_at (take from L ++ emptied (drop from L)) d ≡ list_at L d
  left-of zero L d h = absurd (omega (arith, h))
  left-of (suc from) [] d h = refl
  left-of (suc from) (xs ∷ L) zero h = refl
  left-of (suc from) (xs ∷ L) (suc d) h = left-of from L d (omega (arith, h))

  pub finished-settled : (ps : List Standing) (K : List ℕ) (L L' : Streams Token) (m : Noted) (from : ℕ) → from ≡ total n.plan.net.places → L' ≡ take from L ++ emptied (drop from L) → AreSettled n ps K L m → AreSettled n ps K L' m
  finished-settled ps K L L' m from f l h = record { settled = λ j s. by j (get_or ps j nobody) (h.settled j s); resting = h.resting; counted = h.counted; rest_counted = h.rest_counted }
    where
      same : (d : ℕ) → d < total n.plan.net.places → list_at L' d ≡ list_at L d
      same d q = ap (λ v. list_at v d) l ∙ left-of from L d (omega (arith, q, f))

      by : (j : ℕ) (p : Standing) → Waits n K L m j p → Waits n K L' m j p
      by j p (inl w) = inl (room-on K K L L' m m j p refl w (let q = w.full in let e = ap (λ v. length v) (same w.first.channel w.inner) in omega (arith, q, e)) w.marked w.ranked)
      by j p (inr (inl w)) = inr (inl (token-on L L' m m j p refl w (ap (λ v. length v) (same (offset_of n.plan.net.places j + w.place) (within-total n.plan.net.places j w.place w.within)) ∙ w.empty) w.marked))
      by j p (inr (inr w)) = inr (inr w)

  -- where all are settled, no process goes further, and where all are resting, none waits to put
  not-less : (a b : ℕ) → b ≤ a → nat_lt a b ≡ false
  not-less a b l = by (nat_lt a b) refl
    where
      by : (x : Bool) → nat_lt a b ≡ x → x ≡ false
      by true e = let r = ltb-true a b e in absurd (omega (arith, r, l))
      by false e = refl

  module _ (ps : List Standing) (K : List ℕ) (L : Streams Token) (t : Tag) (g : Stage) (a : ArePlaced n.plan.net.places ps) (m : Noted) (h : AreSettled n ps K L m) where
    stopped : (i : ℕ) → i < length n.plan.net.places → Waits n K L m i (get_or ps i nobody) → IsStopped (state_with n ps K L t g) i (at (puts_of_all ps) i) (need_at (state_with n ps K L t g) i)
    stopped i l (inl w) =
        put-stops (state_with n ps K L t g) i w.first.channel (record { first = w.first; rest = w.rest; next = puts-is ps i ∙ w.next; on = refl })
        (sym (room-inside (state_with n ps K L t g) w.first.channel w.inner) ∙ not-less (length (at L w.first.channel)) (get_or K w.first.channel 0) (let q = w.full in let e = ap (λ v. length v) (list-is L w.first.channel) in omega (arith, q, e)))
    stopped i l (inr (inl w)) =
        get-stops (state_with n ps K L t g) i w.place (record { none = puts-is ps i ∙ w.none; lacks = ap₂ (λ x y. lacking_place x y) (need-is ps i) (part-is n.plan.net.places ps i a l) ∙ w.lacks; within = w.within })
        (let q = w.empty in let e = ap (λ v. length v) (list-is L (offset_of n.plan.net.places i + w.place)) in omega (arith, q, e))
    stopped i l (inr (inr w)) = over-stops n ps K L t g a i w

    pub all-stopped : ((i : ℕ) → i < length m.settled → get_or m.settled i false ≡ true) → AllStopped (state_with n ps K L t g)
    all-stopped e i l = stopped i l (h.settled i (e i (let q = h.counted in omega (arith, q, l))))

    past : (qs : List Standing) (i : ℕ) → length qs ≤ i → get_or qs i nobody ≡ nobody
    past [] i l = refl
    past (q ∷ qs) zero l = absurd (omega (arith, l))
    past (q ∷ qs) (suc i) l = past qs i (omega (arith, l))

    pub none-putting : ((i : ℕ) → i < length m.resting → get_or m.resting i false ≡ true) → NonePut (puts_of_all ps)
    none-putting e i = puts-is ps i ∙ by (split i (length m.resting))
      where
        split : (i k : ℕ) → (i < k) ⊎ (k ≤ i)
        split i k = grind arith

        by : (i < length m.resting) ⊎ (length m.resting ≤ i) → (get_or ps i nobody).puts ≡ []
        by (inl l) = h.resting i (e i l)
        by (inr l) = ap (λ (p : Standing). p.puts) (past ps i (let q = h.rest_counted in let k = placed-long n.plan.net.places ps a in omega (arith, q, k, l)))

-- a channel without room ends at a process and is full
pub no-room : (s : State) (c : ℕ) → has_room s c ≡ false → (c < total s.network.plan.net.places) × (get_or s.capacity c 0 ≤ length (at s.halfway.queued c))
no-room s c e = by (nat_lt c (total s.network.plan.net.places)) refl (nat_lt (length (at s.halfway.queued c)) (get_or s.capacity c 0)) refl e
  where
    by : (a : Bool) → nat_lt c (total s.network.plan.net.places) ≡ a → (b : Bool) → nat_lt (length (at s.halfway.queued c)) (get_or s.capacity c 0) ≡ b → not (a && not b) ≡ false → (c < total s.network.plan.net.places) × (get_or s.capacity c 0 ≤ length (at s.halfway.queued c))
    by true x false y z = (ltb-true c (total s.network.plan.net.places) x, ltb-false (length (at s.halfway.queued c)) (get_or s.capacity c 0) y)
    by true x true y z = absurd (false≢true (sym z))
    by false x b y z = absurd (false≢true (sym z))
