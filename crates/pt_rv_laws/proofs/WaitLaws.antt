-- A legal meeting takes a put, so that there is less to wait for.
use Rattle.std.proofs.Common.{◌≡◌, ℕ, zero, suc, ◌+◌, ◌<◌, ◌≤◌, List, [], ◌∷◌, Bool, true, false, length, get_or, Option, Some, None, refl, sym, ap, subst, ◌∙◌, arith, if◌then◌else◌}
use Rattle.pt_meaning.specs.Streams.{Streams, any_present, at, get, change_at}
use Rattle.pt_meaning.specs.Log.{Meeting, Channel, Barrier, silent}
use Rattle.pt_meaning.specs.Machine.{Need, Over, Counts, Any, Facts}
use Rattle.pt_meaning.specs.Net.{Source, Own, Output, Net}
use Rattle.pt_meaning.specs.Process.{Put, Mood, Well, Broken, Party, next_event, next_at, if_any, is_joining, due_puts, rest_of, with_put_made, with_token, all_puts}
use Rattle.pt_meaning.specs.Meetings.{Scene, puts_at, waiting, first_on, offer, offers, all_there, Target, Place, Outlet, target_from, Hop, hops, hops_of_child, hops_in, is_legal, sent, received, passed, meet}
use Rattle.pt_meaning.specs.Rendezvous.{seated}
use Rattle.pt_laws.specs.SoundRuns.{got_by, count_at}
use Rattle.pt_laws.proofs.KahnLaws.{and-left, and-right}
use Rattle.pt_rv_laws.specs.State.{RvState, need_facts, puts_in, net_of, IsLegal}
use Rattle.pt_rv_laws.specs.Lawful.{IsSized, HasPlaces, AllCount}

no-put : {A : Type 0} (u : A) (us : List A) → [] ≡ u ∷ us → ⊥
no-put u us e = cc

rest-less : {A : Type 0} (us : List A) → length (rest_of us) ≤ length us
rest-less [] = omega arith
rest-less (u ∷ us) = omega arith

rest-some : {A : Type 0} (us vs : List A) (u : A) → us ≡ u ∷ vs → length (rest_of us) < length us
rest-some [] vs u e = absurd (no-put u vs e)
rest-some (v ∷ us) vs u e = omega arith

-- a sender that makes a put
inputs-less : {T : Type 0} (j : ℕ) (X : List (List (Put T))) → puts_in (change_at j rest_of X) ≤ puts_in X
inputs-less j [] = omega arith
inputs-less zero (us ∷ X) = let r = rest-less us in omega (arith, r)
inputs-less (suc j) (us ∷ X) = let r = inputs-less j X in omega (arith, r)

inputs-some : {T : Type 0} (j : ℕ) (X : List (List (Put T))) (u : Put T) (vs : List (Put T)) → at X j ≡ u ∷ vs → puts_in (change_at j rest_of X) < puts_in X
inputs-some j [] u vs e = absurd (no-put u vs e)
inputs-some zero (us ∷ X) u vs e = let r = rest-some us vs u e in omega (arith, r)
inputs-some (suc j) (us ∷ X) u vs e = let r = inputs-some j X u vs e in omega (arith, r)

due-some : {T : Type 0} (m : Mood) (us vs : List (Put T)) (u : Put T) → due_puts m us ≡ u ∷ vs → us ≡ u ∷ vs
due-some Well us vs u e = e
due-some (Broken fs) us vs u e = absurd (no-put u vs e)

first-there : {T : Type 0} (c : ℕ) (us : List (Put T)) (x : T) → first_on c us ≡ Some x → (u : Put T) × (vs : List (Put T)) × (us ≡ u ∷ vs)
first-there {T} c [] x e = absurd (none-some e)
  where
    none-some : None ≡ Some x → ⊥
    none-some h = cc
first-there c (u ∷ us) x e = (u, us, refl)

false-true : false ≡ true → ⊥
false-true e = cc

module _ {T S : Type 0} where
  puts-less : (i : ℕ) (ps : List (Party T S)) → puts_in (all_puts (change_at i with_put_made ps)) ≤ puts_in (all_puts ps)
  puts-less i [] = omega arith
  puts-less zero (p ∷ ps) = let r = rest-less p.puts in omega (arith, r)
  puts-less (suc i) (p ∷ ps) = let r = puts-less i ps in omega (arith, r)

  puts-some : (i : ℕ) (ps : List (Party T S)) (u : Put T) (vs : List (Put T)) → puts_at ps i ≡ u ∷ vs → puts_in (all_puts (change_at i with_put_made ps)) < puts_in (all_puts ps)
  puts-some i [] u vs e = absurd (no-put u vs e)
  puts-some zero (p ∷ ps) u vs e = let r = rest-some p.puts vs u (due-some p.mood p.puts vs u e) in omega (arith, r)
  puts-some (suc i) (p ∷ ps) u vs e = let r = puts-some i ps u vs e in omega (arith, r)

  token-puts : (i q : ℕ) (x : T) (ps : List (Party T S)) → all_puts (change_at i (with_token q x) ps) ≡ all_puts ps
  token-puts i q x [] = refl
  token-puts zero q x (p ∷ ps) = refl
  token-puts (suc i) q x (p ∷ ps) = ap (λ v. p.puts ∷ v) (token-puts i q x ps)

  -- so many puts are still to be made in a scene
  abbrev pub to_make : Scene T S → ℕ
  to_make sc = puts_in (all_puts sc.parties) + puts_in sc.inputs

  sent-less : (o : Option Source) (sc : Scene T S) → to_make (sent o sc) ≤ to_make sc
  sent-less None sc = omega arith
  sent-less (Some (Own j)) sc = let r = inputs-less j sc.inputs in omega (arith, r)
  sent-less (Some (Output i p)) sc = let r = puts-less i sc.parties in omega (arith, r)

  sent-some : (o : Option Source) (sc : Scene T S) (u : Put T) (vs : List (Put T)) → waiting sc o ≡ u ∷ vs → to_make (sent o sc) < to_make sc
  sent-some None sc u vs e = absurd (no-put u vs e)
  sent-some (Some (Own j)) sc u vs e = let r = inputs-some j sc.inputs u vs e in omega (arith, r)
  sent-some (Some (Output i p)) sc u vs e = let r = puts-some i sc.parties u vs e in omega (arith, r)

  received-same : (x : T) (t : Target) (sc : Scene T S) → to_make (received x t sc) ≡ to_make sc
  received-same x (Place i q) sc = ap (λ v. puts_in v + puts_in sc.inputs) (token-puts i q x sc.parties)
  received-same x (Outlet o) sc = refl

  passed-less : (net : Net) (hs : List Hop) (xs : List (Option T)) (sc : Scene T S) → to_make (passed net hs xs sc) ≤ to_make sc
  passed-less net [] xs sc = omega arith
  passed-less net (h ∷ hs) [] sc = omega arith
  passed-less net (h ∷ hs) (None ∷ xs) sc = omega arith
  passed-less net (h ∷ hs) (Some x ∷ xs) sc =
      let a = sent-less (get net.sources h.channel) sc in
      let b = received-same x h.target (sent (get net.sources h.channel) sc) in
      let c = passed-less net hs xs (received x h.target (sent (get net.sources h.channel) sc)) in
      omega (arith, a, b, c)

  passed-some : (net : Net) (h : Hop) (hs : List Hop) (o : Option T) (xs : List (Option T)) (sc : Scene T S) → all_there (o ∷ xs) ≡ true → first_on h.channel (waiting sc (get net.sources h.channel)) ≡ o → to_make (passed net (h ∷ hs) (o ∷ xs) sc) < to_make sc
  passed-some net h hs None xs sc a e = absurd (false-true a)
  passed-some net h hs (Some x) xs sc a e =
      let w = first-there h.channel (waiting sc (get net.sources h.channel)) x e in
      let p = sent-some (get net.sources h.channel) sc w.0 w.1 w.2 in
      let b = received-same x h.target (sent (get net.sources h.channel) sc) in
      let c = passed-less net hs xs (received x h.target (sent (get net.sources h.channel) sc)) in
      omega (arith, p, b, c)

  -- with one channel at least
  pub meet-less : (facts : Facts T S) (net : Net) (n : ℕ) (m : Meeting) (sc : Scene T S) (h : Hop) (hs : List Hop) → hops_in net m ≡ h ∷ hs → is_legal facts net sc m ≡ true → to_make (meet net n m sc) < to_make sc
  meet-less facts net n m sc h hs e legal =
      let there : all_there (offers net sc (h ∷ hs)) ≡ true = ap (λ v. all_there (offers net sc v)) (sym e) ∙ and-left _ _ legal in
      subst (λ v. to_make (passed net v (offers net sc v) sc) < to_make sc) (sym e) (passed-some net h hs (offer net sc h.channel) (offers net sc hs) sc there refl)

-- a Barrier that gathers has a place
hops-some : (b c : ℕ) (ns : List ℕ) (i n : ℕ) → count_at ns i ≡ suc n → (h : Hop) × (hs : List Hop) × (hops_of_child b c ns i ≡ h ∷ hs)
hops-some b c [] i n e = absurd (omega (arith, e))
hops-some b c (zero ∷ ns) zero n e = absurd (omega (arith, e))
hops-some b c (suc k ∷ ns) zero n e = (record { channel = c; target = Place b 0 }, hops b (suc c) 1 k, refl)
hops-some b c (k ∷ ns) (suc i) n e = hops-some b (c + k) ns i n e

joins-seated : {T : Type 0} (bs : List Bool) (gs : List (Streams T)) (us : List (List (Put T))) (ns : List Need) (i : ℕ) → is_joining (next_at need_facts (seated bs gs us ns) i) ≡ true →
    (is_joining (next_event need_facts (record { barrier = get_or bs i false; state = get_or ns i Over; got = got_by gs i; puts = at us i; mood = Well; log = silent })) ≡ true) × (i < length ns)
joins-seated [] gs us ns i e = absurd (false-true e)
joins-seated (b ∷ bs) [] us ns i e = absurd (false-true e)
joins-seated (b ∷ bs) (g ∷ gs) [] ns i e = absurd (false-true e)
joins-seated (b ∷ bs) (g ∷ gs) (u ∷ us) [] i e = absurd (false-true e)
joins-seated (b ∷ bs) (g ∷ gs) (u ∷ us) (n ∷ ns) zero e = (e, omega arith)
joins-seated (b ∷ bs) (g ∷ gs) (u ∷ us) (n ∷ ns) (suc i) e = let r = joins-seated bs gs us ns i e in (r.0, let l = r.1 in omega (arith, l))

-- its need is a count for one place at least
joins-some : {T : Type 0} (barrier : Bool) (need : Need) (X : Streams T) (us : List (Put T)) (places : ℕ) → is_joining (next_event need_facts (record { barrier = barrier; state = need; got = X; puts = us; mood = Well; log = silent })) ≡ true → HasPlaces places need → (n : ℕ) × (places ≡ suc n)
joins-some barrier need X (u ∷ us) places e h = absurd (false-true e)
joins-some barrier Over X [] places e h = absurd (false-true e)
joins-some barrier (Counts []) X [] places e h = absurd (false-true e)
joins-some barrier (Counts (n ∷ ns)) X [] places e h = (length ns, sym h)
joins-some barrier Any X [] places e h = absurd (go (any_present X) e)
  where
    go : (b : Bool) → is_joining (if_any b) ≡ true → ⊥
    go true g = false-true g
    go false g = false-true g

-- a meeting that is legal for a core has a channel
pub hops-there : {T : Type 0} (s : RvState T) → IsSized s → AllCount s → (m : Meeting) → IsLegal s m → (h : Hop) × (hs : List Hop) × (hops_in (net_of s) m ≡ h ∷ hs)
hops-there s z c (Channel k) e = (record { channel = k; target = target_from 0 (net_of s).places k }, [], refl)
hops-there s z c (Barrier b) e =
    let j = joins-seated s.processes.plan.barriers s.places.got s.places.puts s.needs b (and-right _ _ e) in
    let l = j.1 in
    let w = z.needs in
    let p = joins-some (get_or s.processes.plan.barriers b false) (get_or s.needs b Over) (got_by s.places.got b) (at s.places.puts b) (count_at (net_of s).places b) j.0 (c b (omega (arith, l, w))) in
    hops-some b 0 (net_of s).places b p.0 p.1
