-- A scene: firings and meetings only add to its log and its stuck places.
use Rattle.std.proofs.Common.{◌≡◌, ℕ, zero, suc, List, [], ◌∷◌, ◌++◌, Bool, true, false, Option, Some, None, refl, sym, ap, ap₂, subst, inl}
use Rattle.pt_meaning.specs.Basics.{Tag, Log, LogBelow, IsPrefix, Met, Meeting, log_below}
use Rattle.pt_meaning.specs.Machine.{Fault, Outcome, Done, Stuck, Stepping, Facts}
use Rattle.pt_meaning.specs.Rounds.{Source, Own, Output, Net}
use Rattle.pt_meaning.specs.Dataflow.{Inside, prefixed}
use Rattle.pt_meaning.specs.Modal.{get, change_at}
use Rattle.pt_meaning.specs.Process.{Mood, Well, Broken, Party, next_event, all_advanced, at_rest, with_put_made, with_token, all_rest, mood_faults, party_faults, party_logs}
use Rattle.pt_meaning.specs.Rendezvous.{settled, ended, if_meets, under_meetings, Places, scene_log, left_in, if_ended}
use Rattle.pt_meaning.specs.Meetings.{Scene, offers, Target, Place, Outlet, Hop, hops_in, is_legal, sent, received, passed, meet}
use Rattle.pt_meaning.specs.Laws.{AllIn, Extends}
use Rattle.pt_laws.proofs.Order.{IsPrefix-refl, IsPrefix-trans, IsPrefix-append, log_below-mono}
use Rattle.pt_laws.proofs.KahnLaws.{all_in-append, all_in-prefixed, and-left, and-right}
use Rattle.pt_laws.proofs.PartyLaws.{PartyBelow, advanced-above, party-refl, party-trans, sticks-broken}

-- process by process
abbrev pub PartiesBelow : {T S : Type 0} → List (Party T S) → List (Party T S) → Type 0
PartiesBelow [] [] = Unit {0}
PartiesBelow (p ∷ ps) (q ∷ qs) = PartyBelow p q × PartiesBelow ps qs
PartiesBelow [] (q ∷ qs) = ⊥
PartiesBelow (p ∷ ps) [] = ⊥

pub parties-refl : {T S : Type 0} (ps : List (Party T S)) → PartiesBelow ps ps
parties-refl [] = tt
parties-refl (p ∷ ps) = (party-refl p, parties-refl ps)

pub parties-faults : {T S : Type 0} (i : ℕ) (ps qs : List (Party T S)) → PartiesBelow ps qs → AllIn (party_faults i ps) (party_faults i qs)
parties-faults i [] [] h f m = m
parties-faults i (p ∷ ps) (q ∷ qs) h f m = all_in-append (prefixed i (mood_faults p.mood)) (prefixed i (mood_faults q.mood)) (party_faults (suc i) ps) (party_faults (suc i) qs) (all_in-prefixed i _ _ h.0.faults) (parties-faults (suc i) ps qs h.1) f m
parties-faults i [] (q ∷ qs) h f m = absurd h
parties-faults i (p ∷ ps) [] h f m = absurd h

pub parties-logs : {T S : Type 0} (ps qs : List (Party T S)) → PartiesBelow ps qs → LogBelow (log_below (party_logs ps)) (log_below (party_logs qs))
parties-logs [] [] h x = IsPrefix-refl (log_below [] x)
parties-logs (p ∷ ps) (q ∷ qs) h x = log_below-mono p.log q.log (party_logs ps) (party_logs qs) h.0.log (parties-logs ps qs h.1) x
parties-logs [] (q ∷ qs) h x = absurd h
parties-logs (p ∷ ps) [] h x = absurd h

pub record SceneBelow {T S : Type 0} (a b : Scene T S) : Type 0 where
  pub parties : PartiesBelow a.parties b.parties
  pub met : IsPrefix a.met b.met

pub scene-logs : {T S : Type 0} (a b : Scene T S) → SceneBelow a b → LogBelow (scene_log a) (scene_log b)
scene-logs a b h [] = h.met
scene-logs a b h (i ∷ x) = parties-logs a.parties b.parties h.parties (i ∷ x)

-- where a process is not stuck there is no stuck place
pub rest-clear : {T S : Type 0} (facts : Facts T S) (p : Party T S) → at_rest (next_event facts p) ≡ true → mood_faults p.mood ≡ []
rest-clear facts p a = go p.mood refl
  where
    no : false ≡ true → ⊥
    no h = cc

    go : (m : Mood) → p.mood ≡ m → mood_faults p.mood ≡ []
    go Well h = ap mood_faults h
    go (Broken fs) h = absurd (no (subst (λ n. at_rest n ≡ true) (sticks-broken facts p fs h) a))

pub all-rest-clear : {T S : Type 0} (facts : Facts T S) (i : ℕ) (ps : List (Party T S)) → all_rest facts ps ≡ true → party_faults i ps ≡ []
all-rest-clear facts i [] e = refl
all-rest-clear facts i (p ∷ ps) e =
    let a : mood_faults p.mood ≡ [] = rest-clear facts p (and-left _ _ e) in
    let b : party_faults (suc i) ps ≡ [] = all-rest-clear facts (suc i) ps (and-right _ _ e) in
    ap₂ (λ x y. prefixed i x ++ y) a b

-- the outcome of a scene that goes no further is below whatever a greater one comes to
pub below-extends : {T S : Type 0} (fs gs : List Fault) (l m : Log T) (r : Outcome T S) → AllIn fs gs → LogBelow l m → Extends (Stuck gs m) r → Extends (Stuck fs l) r
below-extends fs gs l m (Stuck hs n) a b e = (λ f i. e.0 f (a f i), λ x. IsPrefix-trans (l x) (m x) (n x) (b x) (e.1 x))
below-extends [] [] l m (Done s out n) a b e = λ x. IsPrefix-trans (l x) (m x) (n x) (b x) (e x)
below-extends [] (g ∷ gs) l m (Done s out n) a b e = absurd e
below-extends (f ∷ fs) [] l m (Done s out n) a b e = absurd (a f (inl refl))
below-extends (f ∷ fs) (g ∷ gs) l m (Done s out n) a b e = absurd e

pub ended-above : {T S : Type 0} (b : Bool) (sc : Scene T S) → (b ≡ true → party_faults 0 sc.parties ≡ []) → Extends (Stuck (party_faults 0 sc.parties) (scene_log sc)) (if_ended b sc)
ended-above false sc clear = (λ f i. i, λ x. IsPrefix-refl (scene_log sc x))
ended-above {T = T} {S = S} true sc clear = subst (λ fs. Extends {T = T} {S = Inside (Places T) S} (Stuck fs (scene_log sc)) (Done (left_in sc) sc.outputs (scene_log sc))) (sym (clear refl)) (λ x. IsPrefix-refl (scene_log sc x))

-- a meeting changes no log of a process and no stuck place
pub change-below : {T S : Type 0} (f : Party T S → Party T S) → ((p : Party T S) → PartyBelow p (f p)) → (j : ℕ) (ps : List (Party T S)) → PartiesBelow ps (change_at j f ps)
change-below f h j [] = tt
change-below f h zero (p ∷ ps) = (h p, parties-refl ps)
change-below f h (suc j) (p ∷ ps) = (party-refl p, change-below f h j ps)

pub parties-trans : {T S : Type 0} (ps qs rs : List (Party T S)) → PartiesBelow ps qs → PartiesBelow qs rs → PartiesBelow ps rs
parties-trans [] [] rs a b = b
parties-trans [] (q ∷ qs) rs a b = absurd a
parties-trans (p ∷ ps) [] rs a b = absurd a
parties-trans (p ∷ ps) (q ∷ qs) [] a b = absurd b
parties-trans (p ∷ ps) (q ∷ qs) (r ∷ rs) a b = (party-trans p q r a.0 b.0, parties-trans ps qs rs a.1 b.1)

pub scene-trans : {T S : Type 0} (a b c : Scene T S) → SceneBelow a b → SceneBelow b c → SceneBelow a c
scene-trans a b c h k = record { parties = parties-trans a.parties b.parties c.parties h.parties k.parties; met = IsPrefix-trans a.met b.met c.met h.met k.met }

pub put-keeps : {T S : Type 0} (p : Party T S) → PartyBelow p (with_put_made p)
put-keeps p = record { log = λ q. IsPrefix-refl (p.log q); faults = λ f h. h }

pub token-keeps : {T S : Type 0} (q : ℕ) (x : T) (p : Party T S) → PartyBelow p (with_token q x p)
token-keeps q x p = record { log = λ q. IsPrefix-refl (p.log q); faults = λ f h. h }

pub sent-above : {T S : Type 0} (o : Option Source) (sc : Scene T S) → SceneBelow sc (sent o sc)
sent-above None sc = record { parties = parties-refl sc.parties; met = IsPrefix-refl sc.met }
sent-above (Some (Own j)) sc = record { parties = parties-refl sc.parties; met = IsPrefix-refl sc.met }
sent-above (Some (Output i p)) sc = record { parties = change-below with_put_made put-keeps i sc.parties; met = IsPrefix-refl sc.met }

pub received-above : {T S : Type 0} (x : T) (t : Target) (sc : Scene T S) → SceneBelow sc (received x t sc)
received-above x (Place i q) sc = record { parties = change-below (with_token q x) (token-keeps q x) i sc.parties; met = IsPrefix-refl sc.met }
received-above x (Outlet o) sc = record { parties = parties-refl sc.parties; met = IsPrefix-refl sc.met }

pub passed-above : {T S : Type 0} (net : Net) (hs : List Hop) (xs : List (Option T)) (sc : Scene T S) → SceneBelow sc (passed net hs xs sc)
passed-above net [] xs sc = record { parties = parties-refl sc.parties; met = IsPrefix-refl sc.met }
passed-above net (h ∷ hs) [] sc = record { parties = parties-refl sc.parties; met = IsPrefix-refl sc.met }
passed-above net (h ∷ hs) (None ∷ xs) sc = record { parties = parties-refl sc.parties; met = IsPrefix-refl sc.met }
passed-above net (h ∷ hs) (Some x ∷ xs) sc =
    scene-trans sc (sent (get net.sources h.channel) sc) (passed net (h ∷ hs) (Some x ∷ xs) sc) (sent-above (get net.sources h.channel) sc)
    (scene-trans (sent (get net.sources h.channel) sc) (received x h.target (sent (get net.sources h.channel) sc)) (passed net (h ∷ hs) (Some x ∷ xs) sc) (received-above x h.target (sent (get net.sources h.channel) sc))
    (passed-above net hs xs (received x h.target (sent (get net.sources h.channel) sc))))

pub meet-above : {T S : Type 0} (net : Net) (n : ℕ) (m : Meeting) (sc : Scene T S) → SceneBelow sc (meet net n m sc)
meet-above net n m sc =
    scene-trans sc (passed net (hops_in net m) (offers net sc (hops_in net m)) sc) (meet net n m sc) (passed-above net (hops_in net m) (offers net sc (hops_in net m)) sc)
    (record { parties = parties-refl (passed net (hops_in net m) (offers net sc (hops_in net m)) sc).parties; met = IsPrefix-append (passed net (hops_in net m) (offers net sc (hops_in net m)) sc).met (Met [] n m ∷ []) })

module _ {T S : Type 0} (facts : Facts T S) (step : Stepping T S) (tag : Tag) (net : Net) (k n : ℕ) where
  pub all-advanced-above : (i : ℕ) (ps : List (Party T S)) → PartiesBelow ps (all_advanced facts step tag net.sources k i ps)
  all-advanced-above i [] = tt
  all-advanced-above i (p ∷ ps) = (advanced-above facts step tag net.sources i k p, all-advanced-above (suc i) ps)

  pub settled-above : (sc : Scene T S) → SceneBelow sc (settled facts step tag net k n sc)
  settled-above sc = record { parties = all-advanced-above 0 sc.parties; met = IsPrefix-refl sc.met }

  -- what a scene holds is in the log and among the stuck places of what it comes to
  pub meets-above : (b : Bool) (more : Scene T S → Outcome T (Inside (Places T) S)) → ((sc : Scene T S) → Extends (Stuck (party_faults 0 sc.parties) (scene_log sc)) (more sc)) → (m : Meeting) (sc : Scene T S) →
      Extends (Stuck (party_faults 0 sc.parties) (scene_log sc)) (if_meets facts step tag net k n b more m sc)
  meets-above false more h m sc = (λ f i. i, λ x. IsPrefix-refl (scene_log sc x))
  meets-above true more h m sc =
      below-extends _ (party_faults 0 (meet net n m sc).parties) _ (scene_log (meet net n m sc)) (more (meet net n m sc)) (parties-faults 0 sc.parties _ (meet-above net n m sc).parties) (scene-logs sc _ (meet-above net n m sc)) (h (meet net n m sc))

  pub under-above : (ms : List Meeting) (sc : Scene T S) → Extends (Stuck (party_faults 0 sc.parties) (scene_log sc)) (under_meetings facts step tag net k n ms sc)
  unfolding under_meetings
  under-above [] sc =
      let t : Scene T S = settled facts step tag net k n sc in
      below-extends _ (party_faults 0 t.parties) _ (scene_log t) (ended facts step tag net k n t) (parties-faults 0 sc.parties t.parties (settled-above sc).parties) (scene-logs sc t (settled-above sc))
      (ended-above _ t (λ e. all-rest-clear facts 0 t.parties (and-left _ _ e)))
  under-above (m ∷ ms) sc =
      let t : Scene T S = settled facts step tag net k n sc in
      below-extends _ (party_faults 0 t.parties) _ (scene_log t) (if_meets facts step tag net k n (is_legal facts net t m) (under_meetings facts step tag net k n ms) m t) (parties-faults 0 sc.parties t.parties (settled-above sc).parties) (scene-logs sc t (settled-above sc))
      (meets-above (is_legal facts net t m) (under_meetings facts step tag net k n ms) (under-above ms) m t)
