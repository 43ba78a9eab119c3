-- The processes of a core as those of a scene: list by list, and as a core knows them, by what they need.
use Rattle.std.proofs.Common.{◌≡◌, ℕ, zero, suc, ◌<◌, List, [], ◌∷◌, Bool, false, length, get_or, set, map, Some, refl, sym, ap, ◌∙◌, arith}
use Rattle.pt_meaning.specs.Streams.{Streams, at, get, change_at}
use Rattle.pt_meaning.specs.Log.{Log, silent, log_then}
use Rattle.pt_meaning.specs.Machine.{Need, Over, Facts}
use Rattle.pt_meaning.specs.Process.{Put, Mood, Well, Party, Fires, Idle, next_event, next_at, emptied, party_states, party_logs, all_got, all_puts}
use Rattle.pt_meaning.specs.Rendezvous.{seated}
use Rattle.pt_laws.specs.LogsOfRuns.{silents, logs_then, log_at}
use Rattle.pt_laws.specs.SoundRuns.{got_by}
use Rattle.pt_rv_laws.specs.State.{need_facts}
use Rattle.pt_rv_laws.specs.Chain.{standing}

-- a process as a core knows it
abbrev pub as_need : {T S : Type 0} → Facts T S → Party T S → Party T Need
as_need facts p = record { barrier = p.barrier; state = facts.need p.state; got = p.got; puts = p.puts; mood = p.mood; log = silent }

abbrev pub seen : {T S : Type 0} → Facts T S → List (Party T S) → List (Party T Need)
seen facts ps = map (λ p. as_need facts p) ps

-- at the same places
pub seats-seen : {T S : Type 0} (facts : Facts T S) (bs : List Bool) (gs : List (Streams T)) (us : List (List (Put T))) (ss : List S) (ls : List (Log T)) → length ls ≡ length ss → seen facts (standing bs gs us ss ls) ≡ seated bs gs us (map (λ c. facts.need c) ss)
seats-seen facts [] gs us ss ls e = refl
seats-seen facts (b ∷ bs) [] us ss ls e = refl
seats-seen facts (b ∷ bs) (g ∷ gs) [] ss ls e = refl
seats-seen facts (b ∷ bs) (g ∷ gs) (u ∷ us) [] ls e = refl
seats-seen facts (b ∷ bs) (g ∷ gs) (u ∷ us) (s ∷ ss) [] e = absurd (omega (arith, e))
seats-seen {T} {S} facts (b ∷ bs) (g ∷ gs) (u ∷ us) (s ∷ ss) (l ∷ ls) e = ap (λ ps. let p : Party T Need = record { barrier = b; state = facts.need s; got = g; puts = u; mood = Well; log = silent } in p ∷ ps) (seats-seen facts bs gs us ss ls (omega (arith, e)))

-- before any firing
pub seats-first : {T S : Type 0} (bs : List Bool) (gs : List (Streams T)) (us : List (List (Put T))) (ss : List S) → standing bs gs us ss (silents ss) ≡ seated bs gs us ss
seats-first [] gs us ss = refl
seats-first (b ∷ bs) [] us ss = refl
seats-first (b ∷ bs) (g ∷ gs) [] ss = refl
seats-first (b ∷ bs) (g ∷ gs) (u ∷ us) [] = refl
seats-first {T} {S} (b ∷ bs) (g ∷ gs) (u ∷ us) (s ∷ ss) = ap (λ ps. let p : Party T S = record { barrier = b; state = s; got = g; puts = u; mood = Well; log = silent } in p ∷ ps) (seats-first bs gs us ss)

-- their parts, where there are as many of each
module _ {T S : Type 0} where
  pub record AllLong (n : ℕ) (bs : List Bool) (gs : List (Streams T)) (us : List (List (Put T))) (ss : List S) (ls : List (Log T)) : Type 0 where
    pub barriers : length bs ≡ n
    pub got : length gs ≡ n
    pub puts : length us ≡ n
    pub states : length ss ≡ n
    pub logs : length ls ≡ n

  shorter : (n : ℕ) (b : Bool) (bs : List Bool) (g : Streams T) (gs : List (Streams T)) (u : List (Put T)) (us : List (List (Put T))) (s : S) (ss : List S) (l : Log T) (ls : List (Log T)) → AllLong (suc n) (b ∷ bs) (g ∷ gs) (u ∷ us) (s ∷ ss) (l ∷ ls) → AllLong n bs gs us ss ls
  shorter n b bs g gs u us s ss l ls a = let e1 = a.barriers in let e2 = a.got in let e3 = a.puts in let e4 = a.states in let e5 = a.logs in record { barriers = omega (arith, e1); got = omega (arith, e2); puts = omega (arith, e3); states = omega (arith, e4); logs = omega (arith, e5) }

  pub record PartsAre (n : ℕ) (bs : List Bool) (gs : List (Streams T)) (us : List (List (Put T))) (ss : List S) (ls : List (Log T)) : Type 0 where
    pub count : length (standing bs gs us ss ls) ≡ n
    pub got : all_got (standing bs gs us ss ls) ≡ gs
    pub puts : all_puts (standing bs gs us ss ls) ≡ us
    pub states : party_states (standing bs gs us ss ls) ≡ ss
    pub logs : party_logs (standing bs gs us ss ls) ≡ ls

  pub parts-are : (n : ℕ) (bs : List Bool) (gs : List (Streams T)) (us : List (List (Put T))) (ss : List S) (ls : List (Log T)) → AllLong n bs gs us ss ls → PartsAre n bs gs us ss ls
  parts-are zero [] [] [] [] [] a = record { count = refl; got = refl; puts = refl; states = refl; logs = refl }
  parts-are (suc n) (b ∷ bs) (g ∷ gs) (u ∷ us) (s ∷ ss) (l ∷ ls) a =
      let r = parts-are n bs gs us ss ls (shorter n b bs g gs u us s ss l ls a) in
      record { count = ap (λ v. suc v) r.count; got = ap (λ v. g ∷ v) r.got; puts = ap (λ v. u ∷ v) r.puts; states = ap (λ v. s ∷ v) r.states; logs = ap (λ v. l ∷ v) r.logs }
  parts-are zero (b ∷ bs) gs us ss ls a = let e = a.barriers in absurd (omega (arith, e))
  parts-are zero [] (g ∷ gs) us ss ls a = let e = a.got in absurd (omega (arith, e))
  parts-are zero [] [] (u ∷ us) ss ls a = let e = a.puts in absurd (omega (arith, e))
  parts-are zero [] [] [] (s ∷ ss) ls a = let e = a.states in absurd (omega (arith, e))
  parts-are zero [] [] [] [] (l ∷ ls) a = let e = a.logs in absurd (omega (arith, e))
  parts-are (suc n) [] gs us ss ls a = let e = a.barriers in absurd (omega (arith, e))
  parts-are (suc n) (b ∷ bs) [] us ss ls a = let e = a.got in absurd (omega (arith, e))
  parts-are (suc n) (b ∷ bs) (g ∷ gs) [] ss ls a = let e = a.puts in absurd (omega (arith, e))
  parts-are (suc n) (b ∷ bs) (g ∷ gs) (u ∷ us) [] ls a = let e = a.states in absurd (omega (arith, e))
  parts-are (suc n) (b ∷ bs) (g ∷ gs) (u ∷ us) (s ∷ ss) [] a = let e = a.logs in absurd (omega (arith, e))

  -- process i among them
  pub party-there : (n : ℕ) (bs : List Bool) (gs : List (Streams T)) (us : List (List (Put T))) (ss : List S) (ls : List (Log T)) → AllLong n bs gs us ss ls → (i : ℕ) (d : S) → i < n →
      get (standing bs gs us ss ls) i ≡ Some (record { barrier = get_or bs i false; state = get_or ss i d; got = got_by gs i; puts = at us i; mood = Well; log = log_at ls i })
  party-there zero bs gs us ss ls a i d o = absurd (omega (arith, o))
  party-there (suc n) (b ∷ bs) (g ∷ gs) (u ∷ us) (s ∷ ss) (l ∷ ls) a zero d o = refl
  party-there (suc n) (b ∷ bs) (g ∷ gs) (u ∷ us) (s ∷ ss) (l ∷ ls) a (suc i) d o = party-there n bs gs us ss ls (shorter n b bs g gs u us s ss l ls a) i d (omega (arith, o))
  party-there (suc n) [] gs us ss ls a i d o = let e = a.barriers in absurd (omega (arith, e))
  party-there (suc n) (b ∷ bs) [] us ss ls a i d o = let e = a.got in absurd (omega (arith, e))
  party-there (suc n) (b ∷ bs) (g ∷ gs) [] ss ls a i d o = let e = a.puts in absurd (omega (arith, e))
  party-there (suc n) (b ∷ bs) (g ∷ gs) (u ∷ us) [] ls a i d o = let e = a.states in absurd (omega (arith, e))
  party-there (suc n) (b ∷ bs) (g ∷ gs) (u ∷ us) (s ∷ ss) [] a i d o = let e = a.logs in absurd (omega (arith, e))

  -- process i is changed
  pub party-changed : (bs : List Bool) (gs : List (Streams T)) (us : List (List (Put T))) (ss : List S) (ls : List (Log T)) (i : ℕ) (d : S) (f : Party T S → Party T S) (c : S) (vs : List (Put T)) (m : Log T) →
      ((l : Log T) → f (record { barrier = get_or bs i false; state = get_or ss i d; got = got_by gs i; puts = at us i; mood = Well; log = l }) ≡ record { barrier = get_or bs i false; state = c; got = emptied (got_by gs i); puts = vs; mood = Well; log = log_then l m }) →
      change_at i f (standing bs gs us ss ls) ≡ standing bs (change_at i emptied gs) (set us i vs) (set ss i c) (logs_then i m ls)
  party-changed [] gs us ss ls i d f c vs m h = refl
  party-changed (b ∷ bs) [] us ss ls i d f c vs m h = refl
  party-changed (b ∷ bs) (g ∷ gs) [] ss ls zero d f c vs m h = refl
  party-changed (b ∷ bs) (g ∷ gs) [] ss ls (suc i) d f c vs m h = refl
  party-changed (b ∷ bs) (g ∷ gs) (u ∷ us) [] ls zero d f c vs m h = refl
  party-changed (b ∷ bs) (g ∷ gs) (u ∷ us) [] ls (suc i) d f c vs m h = refl
  party-changed (b ∷ bs) (g ∷ gs) (u ∷ us) (s ∷ ss) [] zero d f c vs m h = refl
  party-changed (b ∷ bs) (g ∷ gs) (u ∷ us) (s ∷ ss) [] (suc i) d f c vs m h = refl
  party-changed (b ∷ bs) (g ∷ gs) (u ∷ us) (s ∷ ss) (l ∷ ls) zero d f c vs m h = ap (λ p. p ∷ standing bs gs us ss ls) (h l)
  party-changed (b ∷ bs) (g ∷ gs) (u ∷ us) (s ∷ ss) (l ∷ ls) (suc i) d f c vs m h = ap (λ ps. let p : Party T S = record { barrier = b; state = s; got = g; puts = u; mood = Well; log = l } in p ∷ ps) (party-changed bs gs us ss ls i d f c vs m h)

-- what a meeting leaves of a process
pub record Frame (T S : Type 0) : Type 0 where
  pub barrier : Bool
  pub state : S
  pub mood : Mood
  pub log : Log T

abbrev pub frame_of : {T S : Type 0} → Party T S → Frame T S
frame_of p = record { barrier = p.barrier; state = p.state; mood = p.mood; log = p.log }

abbrev pub frames : {T S : Type 0} → List (Party T S) → List (Frame T S)
frames ps = map (λ p. frame_of p) ps

abbrev pub refit : {T S : Type 0} → List (Frame T S) → List (Streams T) → List (List (Put T)) → List (Party T S)
refit (f ∷ fs) (g ∷ gs) (u ∷ us) = record { barrier = f.barrier; state = f.state; got = g; puts = u; mood = f.mood; log = f.log } ∷ refit fs gs us
refit [] gs us = []
refit (f ∷ fs) [] us = []
refit (f ∷ fs) (g ∷ gs) [] = []

module _ {T S : Type 0} where
  refit-self : (ps : List (Party T S)) → refit (frames ps) (all_got ps) (all_puts ps) ≡ ps
  refit-self [] = refl
  refit-self (p ∷ ps) = ap (λ v. p ∷ v) (refit-self ps)

  refit-standing : (bs : List Bool) (gs gs' : List (Streams T)) (us us' : List (List (Put T))) (ss : List S) (ls : List (Log T)) → length gs' ≡ length gs → length us' ≡ length us → refit (frames (standing bs gs us ss ls)) gs' us' ≡ standing bs gs' us' ss ls
  refit-standing [] gs gs' us us' ss ls a b = refl
  refit-standing (x ∷ bs) [] [] us us' ss ls a b = refl
  refit-standing (x ∷ bs) [] (g' ∷ gs') us us' ss ls a b = absurd (omega (arith, a))
  refit-standing (x ∷ bs) (g ∷ gs) [] us us' ss ls a b = absurd (omega (arith, a))
  refit-standing (x ∷ bs) (g ∷ gs) (g' ∷ gs') [] [] ss ls a b = refl
  refit-standing (x ∷ bs) (g ∷ gs) (g' ∷ gs') [] (u' ∷ us') ss ls a b = absurd (omega (arith, b))
  refit-standing (x ∷ bs) (g ∷ gs) (g' ∷ gs') (u ∷ us) [] ss ls a b = absurd (omega (arith, b))
  refit-standing (x ∷ bs) (g ∷ gs) (g' ∷ gs') (u ∷ us) (u' ∷ us') [] ls a b = refl
  refit-standing (x ∷ bs) (g ∷ gs) (g' ∷ gs') (u ∷ us) (u' ∷ us') (s ∷ ss) [] a b = refl
  refit-standing (x ∷ bs) (g ∷ gs) (g' ∷ gs') (u ∷ us) (u' ∷ us') (s ∷ ss) (l ∷ ls) a b = ap (λ ps. let p : Party T S = record { barrier = x; state = s; got = g'; puts = u'; mood = Well; log = l } in p ∷ ps) (refit-standing bs gs gs' us us' ss ls (omega (arith, a)) (omega (arith, b)))

  -- processes whose frames stay stand at their new places
  pub stands-on : (bs : List Bool) (gs : List (Streams T)) (us : List (List (Put T))) (ss : List S) (ls : List (Log T)) (ps : List (Party T S)) → frames ps ≡ frames (standing bs gs us ss ls) → length (all_got ps) ≡ length gs → length (all_puts ps) ≡ length us →
      ps ≡ standing bs (all_got ps) (all_puts ps) ss ls
  stands-on bs gs us ss ls ps e a b = sym (refit-self ps) ∙ ap (λ fs. refit fs (all_got ps) (all_puts ps)) e ∙ refit-standing bs gs (all_got ps) us (all_puts ps) ss ls a b

-- as many of each
pub long-got : {T S : Type 0} (ps : List (Party T S)) → length (all_got ps) ≡ length ps
long-got [] = refl
long-got (p ∷ ps) = ap (λ n. suc n) (long-got ps)

pub long-puts : {T S : Type 0} (ps : List (Party T S)) → length (all_puts ps) ≡ length ps
long-puts [] = refl
long-puts (p ∷ ps) = ap (λ n. suc n) (long-puts ps)

pub long-frames : {T S : Type 0} (ps qs : List (Party T S)) → frames ps ≡ frames qs → length ps ≡ length qs
long-frames [] [] e = refl
long-frames [] (q ∷ qs) e = absurd (clash e)
  where
    clash : [] ≡ frame_of q ∷ frames qs → ⊥
    clash h = cc
long-frames (p ∷ ps) [] e = absurd (clash e)
  where
    clash : frame_of p ∷ frames ps ≡ [] → ⊥
    clash h = cc
long-frames {T} {S} (p ∷ ps) (q ∷ qs) e = ap (λ n. suc n) (long-frames ps qs (rest_same e))
  where
    rest_same : frame_of p ∷ frames ps ≡ frame_of q ∷ frames qs → frames ps ≡ frames qs
    rest_same h = cc

-- a process that fires next, by the lists of a core
pub next-seated : {T : Type 0} (bs : List Bool) (gs : List (Streams T)) (us : List (List (Put T))) (ns : List Need) (i : ℕ) → next_at need_facts (seated bs gs us ns) i ≡ Fires →
    next_event need_facts (record { barrier = get_or bs i false; state = get_or ns i Over; got = got_by gs i; puts = at us i; mood = Well; log = silent }) ≡ Fires
next-seated [] gs us ns i e = absurd (idle e)
  where
    idle : Idle ≡ Fires → ⊥
    idle h = cc
next-seated (b ∷ bs) [] us ns i e = absurd (idle e)
  where
    idle : Idle ≡ Fires → ⊥
    idle h = cc
next-seated (b ∷ bs) (g ∷ gs) [] ns i e = absurd (idle e)
  where
    idle : Idle ≡ Fires → ⊥
    idle h = cc
next-seated (b ∷ bs) (g ∷ gs) (u ∷ us) [] i e = absurd (idle e)
  where
    idle : Idle ≡ Fires → ⊥
    idle h = cc
next-seated (b ∷ bs) (g ∷ gs) (u ∷ us) (n ∷ ns) zero e = e
next-seated (b ∷ bs) (g ∷ gs) (u ∷ us) (n ∷ ns) (suc i) e = next-seated bs gs us ns i e

pub seated-there : {T : Type 0} (bs : List Bool) (gs : List (Streams T)) (us : List (List (Put T))) (ns : List Need) (i : ℕ) → next_at need_facts (seated bs gs us ns) i ≡ Fires → i < length ns
seated-there [] gs us ns i e = absurd (idle e)
  where
    idle : Idle ≡ Fires → ⊥
    idle h = cc
seated-there (b ∷ bs) [] us ns i e = absurd (idle e)
  where
    idle : Idle ≡ Fires → ⊥
    idle h = cc
seated-there (b ∷ bs) (g ∷ gs) [] ns i e = absurd (idle e)
  where
    idle : Idle ≡ Fires → ⊥
    idle h = cc
seated-there (b ∷ bs) (g ∷ gs) (u ∷ us) [] i e = absurd (idle e)
  where
    idle : Idle ≡ Fires → ⊥
    idle h = cc
seated-there (b ∷ bs) (g ∷ gs) (u ∷ us) (n ∷ ns) zero e = omega arith
seated-there (b ∷ bs) (g ∷ gs) (u ∷ us) (n ∷ ns) (suc i) e = let r = seated-there bs gs us ns i e in omega (arith, r)
