-- What the calls of a core leave of what its parts keep, and what they make of what contracts see.
use Rattle.std.proofs.Common.{◌≡◌, ℕ, zero, suc, ◌+◌, ◌-◌, ◌<◌, ◌≤◌, List, [], ◌∷◌, ◌++◌, Bool, true, false, nat_eq, length, set, drop, get_or, Option, Some, Result, Ok, Err, OnOk, OnErr, refl, sym, ap, subst, ◌∙◌, arith, length-set}
use Rattle.std.proofs.lemmas.Bool.Decides.{nat_tests}
use Rattle.pt_meaning.specs.Streams.{Streams, at, change_at}
use Rattle.pt_meaning.specs.Machine.{Need, Over}
use Rattle.pt_meaning.specs.Process.{Put, emptied}
use Rattle.pt_recv.specs.Lines.{list_at, spare_at, pushed, popped, lowered, raised}
use Rattle.pt_value.specs.declared.token.Token.{Token}
use Rattle.pt_pn_laws.specs.State.{Network, Idle, Open, Closed, asked_process}
use Rattle.pt_pn_laws.specs.Lawful.{HasPlaces}
use Rattle.pt_process.specs.Process.{Standing, count_on, with_token, with_put_made, with_handed, once_fired}
use Rattle.pt_process.proofs.NetworkLaws.{at-get-or}
use Rattle.pt_pn_work.specs.Core.{nobody, needs_of, puts_of_all, staged_on, ArePlaced, NoneHanded, IsAlone}
use Rattle.pt_pn_work.proofs.CoreLaws.{change-long, change-at, change-other, map-change, map-kept, placed-long, placed-change, need-is, staged-there, staged-less, staged-new, room-less, room-more}
use Rattle.pt_pn.specs.declared.pn.Stage as declared
use Rattle.pt_pn.specs.declared.pn.Stage.TheVariants as code
use Rattle.pt_pn.specs.Core.{IsKept, StageFits, stage_of}

-- what follows where a call succeeds, or fails
pub where-ok : {A E : Type 0} (r : Result A E) {P Q : Type 0} → (P → Q) → OnOk r P → OnOk r Q
where-ok (Ok x) f p = f p
where-ok (Err e) f p = tt

pub where-err : {A E : Type 0} (r : Result A E) {P Q : Type 0} → (P → Q) → OnErr r P → OnErr r Q
where-err (Ok x) f p = tt
where-err (Err e) f p = f p

-- the stages
pub open-fits : (g : declared.Stage) (ps : List Standing) → stage_of g ≡ Open → StageFits g ps → NoneHanded ps
open-fits code.Idle ps e h = h
open-fits code.Open ps e h = h
open-fits (code.Asked i) ps e h = absurd (cc)
open-fits code.Closed ps e h = h
open-fits code.Blocked ps e h = h

pub fits-open : (g : declared.Stage) (ps : List Standing) → stage_of g ≡ Open → NoneHanded ps → StageFits g ps
fits-open code.Idle ps e h = h
fits-open code.Open ps e h = h
fits-open (code.Asked i) ps e h = absurd (cc)
fits-open code.Closed ps e h = h
fits-open code.Blocked ps e h = h

pub idle-fits : (g : declared.Stage) (ps : List Standing) → stage_of g ≡ Idle → StageFits g ps → NoneHanded ps
idle-fits code.Idle ps e h = h
idle-fits code.Open ps e h = h
idle-fits (code.Asked i) ps e h = absurd (cc)
idle-fits code.Closed ps e h = h
idle-fits code.Blocked ps e h = h

pub closed-fits : (g : declared.Stage) (ps : List Standing) → stage_of g ≡ Closed → StageFits g ps → NoneHanded ps
closed-fits code.Idle ps e h = h
closed-fits code.Open ps e h = h
closed-fits (code.Asked i) ps e h = absurd (cc)
closed-fits code.Closed ps e h = h
closed-fits code.Blocked ps e h = h

-- which process was asked
pub asked-fits : (g : declared.Stage) (ps : List Standing) (i : ℕ) → asked_process (stage_of g) ≡ Some i → StageFits g ps → IsAlone i ps
asked-fits code.Idle ps i e h = absurd (cc)
asked-fits code.Open ps i e h = absurd (cc)
asked-fits (code.Asked j) ps i e h = subst (λ k. IsAlone k ps) (some-is j i e) h
  where
    some-is : (a b : ℕ) → Option.Some a ≡ Option.Some b → a ≡ b
    some-is a b e = cc
asked-fits code.Closed ps i e h = absurd (cc)
asked-fits code.Blocked ps i e h = absurd (cc)

pub asked-now : (g : declared.Stage) (ps : List Standing) (i : ℕ) → asked_process (stage_of g) ≡ Some i → (h : IsAlone i ps) → StageFits g ps
asked-now code.Idle ps i e h = absurd (cc)
asked-now code.Open ps i e h = absurd (cc)
asked-now (code.Asked j) ps i e h = subst (λ k. IsAlone k ps) (sym (some-is j i e)) h
  where
    some-is : (a b : ℕ) → Option.Some a ≡ Option.Some b → a ≡ b
    some-is a b e = cc
asked-now code.Closed ps i e h = absurd (cc)
asked-now code.Blocked ps i e h = absurd (cc)

module _ (n : Network Token) (ps : List Standing) (K : List ℕ) (L : Streams Token) (S P : List ℕ) (w : IsKept n ps K L S P) where
  -- a process that is there
  pub process-there : (i : ℕ) → i < length n.plan.net.places → i < length ps
  process-there i h = let e = placed-long n.plan.net.places ps w.placed in omega (arith, e, h)

  same-need : (g : Standing → Standing) (ps' : List Standing) (i : ℕ) → ((p : Standing) → (g p).need ≡ p.need) → ps' ≡ change_at i g ps → (j : ℕ) → (get_or ps' j nobody).need ≡ (get_or ps j nobody).need
  same-need g ps' i m e j = sym (need-is ps' j) ∙ ap (λ v. get_or v j Over) (ap needs_of e ∙ map-kept (λ (p : Standing). p.need) g ps i m) ∙ need-is ps j

  same-puts : (g : Standing → Standing) (ps' : List Standing) (i : ℕ) → ((p : Standing) → (g p).puts ≡ p.puts) → ps' ≡ change_at i g ps → puts_of_all ps' ≡ puts_of_all ps
  same-puts g ps' i m e = ap puts_of_all e ∙ map-kept (λ (p : Standing). p.puts) g ps i m

  -- processes that are the same
  pub kept-same : (ps' : List Standing) → ps' ≡ ps → IsKept n ps' K L S P
  kept-same ps' e = subst (λ v. IsKept n v K L S P) (sym e) w

  -- a process has taken a token of a channel
  pub kept-get : (i place c : ℕ) (x : Token) (ps' : List Standing) (L' : Streams Token) (S' : List ℕ) → ps' ≡ change_at i (with_token place x) ps → L' ≡ popped L c → S' ≡ raised S c → IsKept n ps' K L' S' P
  kept-get i place c x ps' L' S' e l s = record {
    sound = w.sound;
    placed = subst (λ v. ArePlaced n.plan.net.places v) (sym e) (placed-change n.plan.net.places ps i (with_token place x) w.placed (λ p. change-long p.got place (λ xs. xs ++ (x ∷ []))));
    counts = λ j h. subst (λ m. HasPlaces (get_or n.plan.net.places j 0) m) (sym (same-need (with_token place x) ps' i (λ p. refl) e j)) (w.counts j h);
    capacities = w.capacities;
    lists = ap (λ v. length v) l ∙ length-set L c (drop 1 (list_at L c)) ∙ w.lists;
    spares = ap (λ v. length v) s ∙ length-set S c (spare_at S c + 1) ∙ w.spares;
    promised = w.promised;
    room = λ d. subst (λ v. get_or P d 0 ≤ spare_at v d) (sym s) (room-more P S c w.room d);
    staged = λ d. subst (λ v. staged_on d v ≤ get_or P d 0) (sym (same-puts (with_token place x) ps' i (λ p. refl) e)) (w.staged d);
  }

  -- the put that a process makes next has room
  pub put-there : (i : ℕ) (u : Put Token) (us : List (Put Token)) (c : ℕ) → at (puts_of_all ps) i ≡ u ∷ us → u.channel ≡ c → (1 ≤ get_or P c 0) × (c < length n.plan.net.sources)
  put-there i u us c e z = let r = staged-there c (puts_of_all ps) P w.staged i u us e z in (r.0, let l = r.1 in let m = w.promised in omega (arith, l, m))

  pub some-put : (i : ℕ) (u : Put Token) (us : List (Put Token)) → at (puts_of_all ps) i ≡ u ∷ us → 0 < length (get_or (puts_of_all ps) i [])
  some-put i u us e = let l = ap (λ v. length v) (sym (at-get-or (puts_of_all ps) i) ∙ e) in omega (arith, l)

  -- a process has made its next put
  pub kept-put : (i : ℕ) (u : Put Token) (us : List (Put Token)) (ps' : List Standing) (L' : Streams Token) (S' P' : List ℕ) → at (puts_of_all ps) i ≡ u ∷ us → ps' ≡ change_at i with_put_made ps → L' ≡ pushed L u.channel u.token → S' ≡ lowered S u.channel → P' ≡ set P u.channel (get_or P u.channel 0 - 1) →
      IsKept n ps' K L' S' P'
  kept-put i u us ps' L' S' P' z e l s p =
      let c : ℕ = u.channel in
      let there : c < length P = (staged-there c (puts_of_all ps) P w.staged i u us z refl).1 in
      record {
        sound = w.sound;
        placed = subst (λ v. ArePlaced n.plan.net.places v) (sym e) (placed-change n.plan.net.places ps i with_put_made w.placed (λ q. refl));
        counts = λ j h. subst (λ m. HasPlaces (get_or n.plan.net.places j 0) m) (sym (same-need with_put_made ps' i (λ q. refl) e j)) (w.counts j h);
        capacities = w.capacities;
        lists = ap (λ v. length v) l ∙ length-set L c (list_at L c ++ (u.token ∷ [])) ∙ w.lists;
        spares = ap (λ v. length v) s ∙ length-set S c (spare_at S c - 1) ∙ w.spares;
        promised = ap (λ v. length v) p ∙ length-set P c (get_or P c 0 - 1) ∙ w.promised;
        room = λ d. subst (λ v. get_or v d 0 ≤ spare_at S' d) (sym p) (subst (λ v. get_or (set P c (get_or P c 0 - 1)) d 0 ≤ spare_at v d) (sym s) (room-less P S c w.room there (w.spares ∙ sym w.promised) d));
        staged = λ d. subst (λ v. staged_on d (puts_of_all ps') ≤ get_or v d 0) (sym p) (staged-less (puts_of_all ps) (puts_of_all ps') P i u us w.staged z there (ap puts_of_all e ∙ map-change (λ (q : Standing). q.puts) with_put_made (λ vs. drop 1 vs) ps i (λ q. refl)) d);
      }

  -- a process has handed over what it gathered
  pub kept-hand : (i : ℕ) (ps' : List Standing) → ps' ≡ change_at i with_handed ps → IsKept n ps' K L S P
  kept-hand i ps' e = record {
    sound = w.sound;
    placed = subst (λ v. ArePlaced n.plan.net.places v) (sym e) (placed-change n.plan.net.places ps i with_handed w.placed (λ p. refl));
    counts = λ j h. subst (λ m. HasPlaces (get_or n.plan.net.places j 0) m) (sym (same-need with_handed ps' i (λ p. refl) e j)) (w.counts j h);
    capacities = w.capacities;
    lists = w.lists;
    spares = w.spares;
    promised = w.promised;
    room = w.room;
    staged = λ d. subst (λ v. staged_on d v ≤ get_or P d 0) (sym (same-puts with_handed ps' i (λ p. refl) e)) (w.staged d);
  }

  -- a channel has another capacity
  pub kept-grown : (c k : ℕ) (K' : List ℕ) → K' ≡ set K c k → IsKept n ps K' L S P
  kept-grown c k K' e = record {
    sound = w.sound;
    placed = w.placed;
    counts = w.counts;
    capacities = ap (λ v. length v) e ∙ length-set K c k ∙ w.capacities;
    lists = w.lists;
    spares = w.spares;
    promised = w.promised;
    room = w.room;
    staged = w.staged;
  }

  -- there is more room
  pub kept-promised : (S' P' : List ℕ) → length S' ≡ length S → length P' ≡ length P → ((d : ℕ) → get_or P' d 0 ≤ spare_at S' d) → ((d : ℕ) → get_or P d 0 ≤ get_or P' d 0) → IsKept n ps K L S' P'
  kept-promised S' P' s p r m = record {
    sound = w.sound;
    placed = w.placed;
    counts = w.counts;
    capacities = w.capacities;
    lists = w.lists;
    spares = s ∙ w.spares;
    promised = p ∙ w.promised;
    room = r;
    staged = λ d. let a = w.staged d in let b = m d in omega (arith, a, b);
  }

  -- the channels hold other tokens
  pub kept-lists : (L' : Streams Token) → length L' ≡ length L → IsKept n ps K L' S P
  kept-lists L' l = record {
    sound = w.sound;
    placed = w.placed;
    counts = w.counts;
    capacities = w.capacities;
    lists = l ∙ w.lists;
    spares = w.spares;
    promised = w.promised;
    room = w.room;
    staged = w.staged;
  }

  -- a process has fired
  pub kept-told : (i : ℕ) (need : Need) (us : List (Put Token)) (ps' : List Standing) (S' P' : List ℕ) → i < length n.plan.net.places → at (puts_of_all ps) i ≡ [] → HasPlaces (get_or n.plan.net.places i 0) need → ps' ≡ change_at i (once_fired need us) ps →
      length S' ≡ length S → length P' ≡ length P → ((d : ℕ) → get_or P' d 0 ≤ spare_at S' d) → ((d : ℕ) → get_or P d 0 + count_on d us ≤ get_or P' d 0) → IsKept n ps' K L S' P'
  kept-told i need us ps' S' P' h z f e s p r m = record {
    sound = w.sound;
    placed = subst (λ v. ArePlaced n.plan.net.places v) (sym e) (placed-change n.plan.net.places ps i (once_fired need us) w.placed (λ q. emptied-long q.got));
    counts = λ j l. by j l (nat_eq i j) refl;
    capacities = w.capacities;
    lists = w.lists;
    spares = s ∙ w.spares;
    promised = p ∙ w.promised;
    room = r;
    staged = λ d.
        let a = staged-new d (puts_of_all ps) i us (long ps (process-there i h)) z in
        let b = ap (λ v. staged_on d v) (told-puts i need us ps' (process-there i h) e) in
        let c = w.staged d in
        let q = m d in
        omega (arith, a, b, c, q);
  }
    where
      emptied-long : (X : Streams Token) → length (emptied X) ≡ length X
      emptied-long [] = refl
      emptied-long (xs ∷ X) = ap (λ k. suc k) (emptied-long X)

      long : (qs : List Standing) → i < length qs → i < length (puts_of_all qs)
      long qs l = let q = longer qs in omega (arith, q, l)
        where
          longer : (qs : List Standing) → length (puts_of_all qs) ≡ length qs
          longer [] = refl
          longer (q ∷ qs) = ap (λ k. suc k) (longer qs)

      told-puts : (i : ℕ) (need : Need) (us : List (Put Token)) (ps' : List Standing) → i < length ps → ps' ≡ change_at i (once_fired need us) ps → puts_of_all ps' ≡ set (puts_of_all ps) i us
      told-puts i need us ps' l e = ap puts_of_all e ∙ each ps i
        where
          each : (qs : List Standing) (i : ℕ) → puts_of_all (change_at i (once_fired need us) qs) ≡ set (puts_of_all qs) i us
          each [] i = refl
          each (q ∷ qs) zero = refl
          each (q ∷ qs) (suc i) = ap (λ v. q.puts ∷ v) (each qs i)

      by : (j : ℕ) → j < length n.plan.net.places → (b : Bool) → nat_eq i j ≡ b → HasPlaces (get_or n.plan.net.places j 0) (get_or ps' j nobody).need
      by j l true q =
          let y : i ≡ j = grind (arith, nat_tests) in
          subst (λ k. HasPlaces (get_or n.plan.net.places k 0) (get_or ps' k nobody).need) y
          (subst (λ v. HasPlaces (get_or n.plan.net.places i 0) v) (sym (ap (λ v. (get_or v i nobody).need) e ∙ ap (λ (x : Standing). x.need) (change-at ps i nobody (once_fired need us) (process-there i h)))) f)
      by j l false q = subst (λ v. HasPlaces (get_or n.plan.net.places j 0) v) (sym (ap (λ v. (get_or v j nobody).need) e ∙ ap (λ (x : Standing). x.need) (change-other ps i j nobody (once_fired need us) q))) (w.counts j l)
