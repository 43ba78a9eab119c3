-- A legal meeting of a scene is on one of its channels, or of one of its processes.
use Rattle.std.proofs.Common.{◌≡◌, ℕ, zero, suc, ◌<◌, ◌≤◌, List, [], ◌∷◌, ◌++◌, length, Bool, true, false, ◌&&◌, Option, Some, None, refl, sym, ap, ◌∙◌, arith, append-nil, append_assoc}
use Rattle.pt_meaning.specs.Tag.{Tag}
use Rattle.pt_meaning.specs.Streams.{Streams, IsPrefix, get, change_at}
use Rattle.pt_meaning.specs.Log.{Event, Met, Meeting, Channel, Barrier}
use Rattle.pt_meaning.specs.Machine.{Stepping, Facts}
use Rattle.pt_meaning.specs.Net.{Source, Own, Output, Net}
use Rattle.pt_meaning.specs.Process.{Party, Put, next_at, is_joining, all_advanced, with_put_made, with_token}
use Rattle.pt_meaning.specs.Meetings.{Scene, Target, Place, Outlet, Hop, hops_in, first_on, waiting, offer, offers, all_there, is_received, sent, received, passed, is_legal, meet}
use Rattle.pt_meaning.specs.Rendezvous.{seated, if_ended, settled, if_meets, under_meetings}
use Rattle.pt_laws.specs.LogsOfRuns.{log_in}
use Rattle.pt_meeting_laws.specs.There.{Extent, IsOf, AreOf}

and-left : (a b : Bool) → (a && b) ≡ true → a ≡ true
and-left true b e = refl
and-left false b e = e

and-right : (a b : Bool) → (a && b) ≡ true → b ≡ true
and-right true b e = e
and-right false b e = absurd (cc)

get-length : {A : Type 0} (xs : List A) (i : ℕ) (x : A) → get xs i ≡ Some x → i < length xs
get-length [] i x e = absurd (cc)
get-length (y ∷ xs) zero x e = omega arith
get-length (y ∷ xs) (suc i) x e = let h = get-length xs i x e in omega (arith, h)

joins-there : {T S : Type 0} (facts : Facts T S) (ps : List (Party T S)) (b : ℕ) → is_joining (next_at facts ps b) ≡ true → b < length ps
joins-there facts [] b e = absurd (cc)
joins-there facts (p ∷ ps) zero e = omega arith
joins-there facts (p ∷ ps) (suc b) e = let h = joins-there facts ps b e in omega (arith, h)

module _ {T S : Type 0} (facts : Facts T S) (net : Net) (children : ℕ) where
  abbrev pub extent : Option Extent
  extent = Some (record { channels = length net.sources; children = children })

  offered-there : (sc : Scene T S) (c : ℕ) → all_there (offer net sc c ∷ []) ≡ true → c < length net.sources
  offered-there sc c e = by_source (get net.sources c) refl
    where
      by_source : (o : Option Source) → get net.sources c ≡ o → c < length net.sources
      by_source (Some s) g = get-length net.sources c s g
      by_source None g = let no : false ≡ true = sym (ap (λ o. all_there (first_on c (waiting sc o) ∷ [])) g) ∙ e in absurd (cc)

  pub legal-there : (sc : Scene T S) (m : Meeting) → length sc.parties ≤ children → is_legal facts net sc m ≡ true → IsOf extent m
  legal-there sc (Channel c) l e = offered-there sc c (and-left (all_there (offers net sc (hops_in net (Channel c)))) (is_received facts net sc.parties (Channel c)) e)
  legal-there sc (Barrier b) l e =
      let h = joins-there facts sc.parties b (and-right (all_there (offers net sc (hops_in net (Barrier b)))) (is_received facts net sc.parties (Barrier b)) e) in omega (arith, h, l)

-- ---- the processes stay as many

change-length : {A : Type 0} (i : ℕ) (f : A → A) (xs : List A) → length (change_at i f xs) ≡ length xs
change-length i f [] = refl
change-length zero f (x ∷ xs) = refl
change-length (suc i) f (x ∷ xs) = ap (λ n. suc n) (change-length i f xs)

module _ {T S : Type 0} where
  sent-count : (s : Option Source) (sc : Scene T S) → length (sent s sc).parties ≡ length sc.parties
  sent-count None sc = refl
  sent-count (Some (Own j)) sc = refl
  sent-count (Some (Output i p)) sc = change-length i with_put_made sc.parties

  received-count : (x : T) (t : Target) (sc : Scene T S) → length (received x t sc).parties ≡ length sc.parties
  received-count x (Place i q) sc = change-length i (with_token q x) sc.parties
  received-count x (Outlet o) sc = refl

  passed-count : (net : Net) (hs : List Hop) (xs : List (Option T)) (sc : Scene T S) → length (passed net hs xs sc).parties ≡ length sc.parties
  passed-count net [] xs sc = refl
  passed-count net (h ∷ hs) [] sc = refl
  passed-count net (h ∷ hs) (None ∷ xs) sc = refl
  passed-count net (h ∷ hs) (Some x ∷ xs) sc =
      let next : Scene T S = sent (get net.sources h.channel) sc in
      passed-count net hs xs (received x h.target next) ∙ received-count x h.target next ∙ sent-count (get net.sources h.channel) sc

  advanced-count : (facts : Facts T S) (step : Stepping T S) (tag : Tag) (sources : List Source) (k i : ℕ) (ps : List (Party T S)) → length (all_advanced facts step tag sources k i ps) ≡ length ps
  advanced-count facts step tag sources k i [] = refl
  advanced-count facts step tag sources k i (p ∷ ps) = ap (λ n. suc n) (advanced-count facts step tag sources k (suc i) ps)

  pub seats-most : (bs : List Bool) (gs : List (Streams T)) (us : List (List (Put T))) (ss : List S) → length (seated bs gs us ss) ≤ length ss
  seats-most [] gs us ss = omega arith
  seats-most (b ∷ bs) [] us ss = omega arith
  seats-most (b ∷ bs) (g ∷ gs) [] ss = omega arith
  seats-most (b ∷ bs) (g ∷ gs) (u ∷ us) [] = omega arith
  seats-most (b ∷ bs) (g ∷ gs) (u ∷ us) (s ∷ ss) = let h = seats-most bs gs us ss in omega (arith, h)

-- ---- the events of a firing

-- these meetings as events of a firing
abbrev pub as_events : {T : Type 0} → ℕ → List Meeting → List (Event T)
as_events n [] = []
as_events n (m ∷ ms) = Met [] n m ∷ as_events n ms

-- Behind some events are the first of these meetings, as events of the firing, and they are of the composite.
pub record Behind {T : Type 0} (e : Option Extent) (n : ℕ) (ms : List Meeting) (before after : List (Event T)) : Type 0 where
  pub made : List Meeting
  pub first : IsPrefix made ms
  pub there : AreOf e made
  pub is : after ≡ before ++ as_events n made

module _ {T S : Type 0} where
  sent-met : (s : Option Source) (sc : Scene T S) → (sent s sc).met ≡ sc.met
  sent-met None sc = refl
  sent-met (Some (Own j)) sc = refl
  sent-met (Some (Output i p)) sc = refl

  received-met : (x : T) (t : Target) (sc : Scene T S) → (received x t sc).met ≡ sc.met
  received-met x (Place i q) sc = refl
  received-met x (Outlet o) sc = refl

  passed-met : (net : Net) (hs : List Hop) (xs : List (Option T)) (sc : Scene T S) → (passed net hs xs sc).met ≡ sc.met
  passed-met net [] xs sc = refl
  passed-met net (h ∷ hs) [] sc = refl
  passed-met net (h ∷ hs) (None ∷ xs) sc = refl
  passed-met net (h ∷ hs) (Some x ∷ xs) sc =
      let next : Scene T S = sent (get net.sources h.channel) sc in
      passed-met net hs xs (received x h.target next) ∙ received-met x h.target next ∙ sent-met (get net.sources h.channel) sc

  ended-met : (b : Bool) (sc : Scene T S) → log_in (if_ended b sc) [] ≡ sc.met
  ended-met true sc = refl
  ended-met false sc = refl

  module _ (facts : Facts T S) (step : Stepping T S) (tag : Tag) (net : Net) (k n children : ℕ) where
    abbrev Goes : List Meeting → Scene T S → List (Event T) → Type 0
    Goes ms sc after = Behind (extent facts net children) n ms sc.met after

    abbrev pub now : Scene T S → Scene T S
    now sc = settled facts step tag net k n sc

    few : (sc : Scene T S) → length sc.parties ≤ children → length (now sc).parties ≤ children
    few sc l = let same = advanced-count facts step tag net.sources k 0 sc.parties in omega (arith, same, l)

    few-after : (sc : Scene T S) (m : Meeting) → length sc.parties ≤ children → length (meet net n m (now sc)).parties ≤ children
    few-after sc m l = let same = passed-count net (hops_in net m) (offers net (now sc) (hops_in net m)) (now sc) in let before = few sc l in omega (arith, same, before)

    pub under-met : (ms : List Meeting) (sc : Scene T S) → length sc.parties ≤ children → Goes ms sc (log_in (under_meetings facts step tag net k n ms sc) [])
    unfolding under_meetings
    under-met [] sc l = record { made = []; first = tt; there = tt; is = ended-met _ (now sc) ∙ sym (append-nil sc.met) }
    under-met (m ∷ ms) sc l = by_legal (is_legal facts net (now sc) m) refl (under-met ms (meet net n m (now sc)) (few-after sc m l))
      where
        by_legal : (b : Bool) → is_legal facts net (now sc) m ≡ b → Goes ms (meet net n m (now sc)) (log_in (under_meetings facts step tag net k n ms (meet net n m (now sc))) []) →
            Goes (m ∷ ms) sc (log_in (if_meets facts step tag net k n b (under_meetings facts step tag net k n ms) m (now sc)) [])
        by_legal true e h = record {
          made = m ∷ h.made;
          first = (refl, h.first);
          there = (legal-there facts net children (now sc) m (few sc l) e, h.there);
          is = h.is ∙ ap (λ (es : List (Event T)). (es ++ Met [] n m ∷ []) ++ as_events n h.made) (passed-met net (hops_in net m) (offers net (now sc) (hops_in net m)) (now sc)) ∙ append_assoc sc.met (Met [] n m ∷ []) (as_events n h.made);
        }
        by_legal false e h = record { made = []; first = tt; there = tt; is = ended-met false (now sc) ∙ sym (append-nil sc.met) }
