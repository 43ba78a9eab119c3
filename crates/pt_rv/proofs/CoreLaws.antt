-- What one answer of a core needs and comes to, from its parties.
use Rattle.std.proofs.Common.{◌≡◌, ◌⊎◌, inl, inr, ℕ, zero, suc, ◌+◌, ◌-◌, ◌<◌, List, [], ◌∷◌, ◌++◌, Bool, true, false, ◌&&◌, length, get_or, Option, Some, None, refl, sym, ap, ap₂, subst, ◌∙◌, arith}
use Rattle.pt_meaning.specs.Tag.{Tag}
use Rattle.pt_meaning.specs.Streams.{change_at}
use Rattle.pt_meaning.specs.Log as log
use Rattle.pt_meaning.specs.Meetings.{Target, Place, Outlet, target_from, all_there, hops_in}
use Rattle.pt_meaning.specs.Process.{Put, Fires, next_at, gets_at, is_joining}
use Rattle.pt_meaning.specs.Rendezvous.{seated}
use Rattle.pt_meaning.specs.Running.{total}
use Rattle.pt_value.specs.declared.token.Token.{Token}
use Rattle.pt_firing.specs.declared.ask.Ask.{Ask}
use Rattle.pt_firing.specs.declared.ask.Ask.TheVariants as ask
use Rattle.pt_firing.specs.declared.ask.Meeting.TheVariants.{Channel, Barrier}
use Rattle.pt_reaction.specs.Spared.{Spared}
use Rattle.pt_rv_laws.specs.State.{Processes, Stage, Idle, Open, Asked, Closed, asked_process, need_facts, MayFire, AllRest, IsLegal, IsOver, in_stage, after_meet}
use Rattle.pt_rv_laws.specs.RvActs.{State, Gives}
use Rattle.pt_rv_laws.specs.Lawful.{HasPlaces}
use Rattle.pt_rv_work.specs.Core.{Standing, Moving, nobody, next_of, with_handed, barriers_of, needs_of, gots_of, puts_of_all, state_with, offer_in, offers_in, gets_there, passed_to, all_passed}
use Rattle.pt_rv_work.specs.Seen.{IsIllegal}
use Rattle.pt_rv_work.proofs.SeenLaws.{processes-are-seen, meetings-are-seen, barriers-are-seen}
use Rattle.pt_rv_plan.specs.Ends.{Arriving}
use Rattle.pt_rv_parts.specs.Team.{NoneHanded, AllAtRest}
use Rattle.pt_rv_parts.proofs.ListLaws.{map-kept, change-at, change-other, change-long}
use Rattle.pt_rv.specs.declared.rv.Stage as declared
use Rattle.pt_rv.specs.declared.rv.Stage.TheVariants as code
use Rattle.pt_rv.specs.declared.parties.Parties.{Parties}
use Rattle.pt_rv.specs.Core.{Kept, IsAlone, StageFits, Looks, MayCome, NoneOnChannels, stage_of}
use Rattle.pt_rv.specs.Parties.{Fit, FitIn, IsLevel, AllLevel, IsOffered, Receives, EndsThere, Joins, moving_in, moving_of, inputs_of, waiting, weights_of, on, is_there}
use Rattle.pt_rv.proofs.NextLaws.{gets-takes, target-place}

-- what a process does next, as a state says it
next-seated : (ps : List (Standing Token)) (i : ℕ) → next_at need_facts (seated (barriers_of ps) (gots_of ps) (puts_of_all ps) (needs_of ps)) i ≡ next_of (get_or ps i nobody)
next-seated [] i = refl
next-seated (p ∷ ps) zero = refl
next-seated (p ∷ ps) (suc i) = next-seated ps i

fires-there : (ps : List (Standing Token)) (i : ℕ) → next_of (get_or ps i nobody) ≡ Fires → i < length ps
fires-there [] i e = absurd (cc)
fires-there (p ∷ ps) zero e = omega arith
fires-there (p ∷ ps) (suc i) e = let r = fires-there ps i e in omega (arith, r)

pub there-is : {A : Type 0} (o : Option A) → is_there o ≡ true → (x : A) × (o ≡ Some x)
there-is None e = absurd (cc)
there-is (Some x) e = (x, refl)

pub there-not : {A : Type 0} (o : Option A) → is_there o ≡ false → o ≡ None
there-not None e = refl
there-not (Some x) e = absurd (cc)

both-true : (a b : Bool) → (a && b) ≡ true → (a ≡ true) × (b ≡ true)
both-true true b e = (refl, e)
both-true false b e = absurd (cc)

either-false : (a b : Bool) → (a && b) ≡ false → (a ≡ false) ⊎ (b ≡ false)
either-false true b e = inr e
either-false false b e = inl refl

-- the stage of the code
pub open-free : (g : declared.Stage) (w : Parties) → stage_of g ≡ Open → StageFits g w → NoneHanded w.team
open-free code.Idle w e f = f
open-free code.Open w e f = f
open-free (code.Asked process) w e f = absurd (cc)
open-free code.Closed w e f = f

pub free-open : (g : declared.Stage) (w : Parties) → stage_of g ≡ Open → NoneHanded w.team → StageFits g w
free-open code.Idle w e f = f
free-open code.Open w e f = f
free-open (code.Asked process) w e f = absurd (cc)
free-open code.Closed w e f = f

module _ (p : Processes) (w : Parties) (met : List log.Meeting) (tag : Tag) (stage : Stage) (s : State) (v : state_with p (moving_in w) met tag stage ≡ s) (fit : FitIn p w) where
  abbrev m : Moving Token
  m = moving_in w

  abbrev seen : State
  seen = state_with p m met tag stage

  next-is : (i : ℕ) → next_at need_facts (seated p.plan.barriers (gots_of w.team) (puts_of_all w.team) (needs_of w.team)) i ≡ next_of (get_or w.team i nobody)
  next-is i = ap (λ bs. next_at need_facts (seated bs (gots_of w.team) (puts_of_all w.team) (needs_of w.team)) i) fit.told ∙ next-seated w.team i

  pub fires-next : (i : ℕ) → MayFire s i → next_of (get_or w.team i nobody) ≡ Fires
  fires-next i h = sym (next-is i) ∙ subst (λ (x : State). MayFire x i) (sym v) h

  pub fires-in : (i : ℕ) → MayFire s i → i < length w.team
  fires-in i h = fires-there w.team i (fires-next i h)

  pub may-fire : (i : ℕ) → next_of (get_or w.team i nobody) ≡ Fires → MayFire s i
  may-fire i e = subst (λ (x : State). MayFire x i) v (next-is i ∙ e)

  pub all-rest : AllAtRest w.team → AllRest s
  all-rest h = subst (λ (x : State). AllRest x) v (processes-are-seen.rests p m met tag stage fit.told h)

  -- what is legal is offered and received
  either-legal : (t : log.Meeting) → IsLegal s t → IsIllegal seen t → ⊥
  either-legal t h i = let a = subst (λ (x : State). IsLegal x t) (sym v) h in cc

  pub legal-offered : (c : ℕ) → IsLegal s (log.Channel c) → IsOffered p w c
  legal-offered c h = by (offer_in p.plan.net m c) refl
    where
      by : (o : Option Token) → offer_in p.plan.net m c ≡ o → IsOffered p w c
      by None e = absurd (either-legal (log.Channel c) h (meetings-are-seen.unoffered p m met tag stage fit.told c e))
      by (Some x) e = (x, e)

  pub legal-received : (c : ℕ) → IsLegal s (log.Channel c) → gets_there m (target_from 0 p.plan.net.places c) ≡ true
  legal-received c h = by (gets_there m (target_from 0 p.plan.net.places c)) refl
    where
      by : (b : Bool) → gets_there m (target_from 0 p.plan.net.places c) ≡ b → gets_there m (target_from 0 p.plan.net.places c) ≡ true
      by true e = e
      by false e = absurd (either-legal (log.Channel c) h (meetings-are-seen.unreceived p m met tag stage fit.told c e))

  pub legal-joins : (b : ℕ) → b < length p.plan.net.places → IsLegal s (log.Barrier b) → Joins p w b
  legal-joins b l h = record {
    there = l;
    offered = offered (all_there (offers_in p.plan.net m (hops_in p.plan.net (log.Barrier b)))) refl;
    joins = joins (is_joining (next_of (get_or w.team b nobody))) refl;
  }
    where
      offered : (t : Bool) → all_there (offers_in p.plan.net m (hops_in p.plan.net (log.Barrier b))) ≡ t → all_there (offers_in p.plan.net m (hops_in p.plan.net (log.Barrier b))) ≡ true
      offered true e = e
      offered false e = absurd (either-legal (log.Barrier b) h (barriers-are-seen.unoffered p m met tag stage fit.told b e))

      joins : (t : Bool) → is_joining (next_of (get_or w.team b nobody)) ≡ t → is_joining (next_of (get_or w.team b nobody)) ≡ true
      joins true e = e
      joins false e = absurd (either-legal (log.Barrier b) h (barriers-are-seen.unjoined p m met tag stage fit.told b e))

  pub channel-legal : (c : ℕ) → is_there (offer_in p.plan.net m c) ≡ true → gets_there m (target_from 0 p.plan.net.places c) ≡ true → IsLegal s (log.Channel c)
  channel-legal c o g = let x = there-is (offer_in p.plan.net m c) o in subst (λ (y : State). IsLegal y (log.Channel c)) v (meetings-are-seen.legal p m met tag stage fit.told c x.0 x.1 g)

  pub channel-unoffered : (c : ℕ) → is_there (offer_in p.plan.net m c) ≡ false → IsIllegal s (log.Channel c)
  channel-unoffered c o = subst (λ (y : State). IsIllegal y (log.Channel c)) v (meetings-are-seen.unoffered p m met tag stage fit.told c (there-not (offer_in p.plan.net m c) o))

  pub channel-unreceived : (c : ℕ) → gets_there m (target_from 0 p.plan.net.places c) ≡ false → IsIllegal s (log.Channel c)
  channel-unreceived c g = subst (λ (y : State). IsIllegal y (log.Channel c)) v (meetings-are-seen.unreceived p m met tag stage fit.told c g)

  pub barrier-legal : (b : ℕ) → all_there (offers_in p.plan.net m (hops_in p.plan.net (log.Barrier b))) ≡ true → is_joining (next_of (get_or w.team b nobody)) ≡ true → IsLegal s (log.Barrier b)
  barrier-legal b o j = subst (λ (y : State). IsLegal y (log.Barrier b)) v (barriers-are-seen.legal p m met tag stage fit.told b o j)

  pub barrier-unoffered : (b : ℕ) → all_there (offers_in p.plan.net m (hops_in p.plan.net (log.Barrier b))) ≡ false → IsIllegal s (log.Barrier b)
  barrier-unoffered b o = subst (λ (y : State). IsIllegal y (log.Barrier b)) v (barriers-are-seen.unoffered p m met tag stage fit.told b o)

  pub barrier-unjoined : (b : ℕ) → is_joining (next_of (get_or w.team b nobody)) ≡ false → IsIllegal s (log.Barrier b)
  barrier-unjoined b j = subst (λ (y : State). IsIllegal y (log.Barrier b)) v (barriers-are-seen.unjoined p m met tag stage fit.told b j)

  -- by whether its token can pass, or all of its tokens can
  pub channel-passes : (c : ℕ) → (is_there (offer_in p.plan.net m c) && gets_there m (target_from 0 p.plan.net.places c)) ≡ true → IsLegal s (log.Channel c)
  channel-passes c h = let r = both-true (is_there (offer_in p.plan.net m c)) (gets_there m (target_from 0 p.plan.net.places c)) h in channel-legal c r.0 r.1

  pub channel-stays : (c : ℕ) → (is_there (offer_in p.plan.net m c) && gets_there m (target_from 0 p.plan.net.places c)) ≡ false → IsIllegal s (log.Channel c)
  channel-stays c h = by (either-false (is_there (offer_in p.plan.net m c)) (gets_there m (target_from 0 p.plan.net.places c)) h)
    where
      by : (is_there (offer_in p.plan.net m c) ≡ false) ⊎ (gets_there m (target_from 0 p.plan.net.places c) ≡ false) → IsIllegal s (log.Channel c)
      by (inl e) = channel-unoffered c e
      by (inr e) = channel-unreceived c e

  pub barrier-joins : (b : ℕ) → (is_joining (next_of (get_or w.team b nobody)) && all_there (offers_in p.plan.net m (hops_in p.plan.net (log.Barrier b)))) ≡ true → IsLegal s (log.Barrier b)
  barrier-joins b h = let r = both-true (is_joining (next_of (get_or w.team b nobody))) (all_there (offers_in p.plan.net m (hops_in p.plan.net (log.Barrier b)))) h in barrier-legal b r.1 r.0

  pub barrier-waits : (b : ℕ) → (is_joining (next_of (get_or w.team b nobody)) && all_there (offers_in p.plan.net m (hops_in p.plan.net (log.Barrier b)))) ≡ false → IsIllegal s (log.Barrier b)
  barrier-waits b h = by (either-false (is_joining (next_of (get_or w.team b nobody))) (all_there (offers_in p.plan.net m (hops_in p.plan.net (log.Barrier b)))) h)
    where
      by : (is_joining (next_of (get_or w.team b nobody)) ≡ false) ⊎ (all_there (offers_in p.plan.net m (hops_in p.plan.net (log.Barrier b))) ≡ false) → IsIllegal s (log.Barrier b)
      by (inl e) = barrier-unjoined b e
      by (inr e) = barrier-unoffered b e

  pub is-over : AllRest s → NoneOnChannels s → ((b : ℕ) → b < length s.processes.plan.net.places → IsIllegal s (log.Barrier b)) → IsOver s
  is-over r c b =
      subst (λ (y : State). IsOver y) v (meetings-are-seen.over p m met tag stage fit.told (subst (λ (y : State). AllRest y) (sym v) r)
      (λ k l. subst (λ (y : State). IsIllegal y (log.Channel k)) (sym v) (c k (let e = ap (λ (y : State). length y.processes.plan.net.sources) v in omega (arith, l, e))))
      (λ k l. subst (λ (y : State). IsIllegal y (log.Barrier k)) (sym v) (b k (let e = ap (λ (y : State). length y.processes.plan.net.places) v in let h = fit.there in omega (arith, l, e, h)))))

  -- who receives may take a token
  pub may-receive : (c : ℕ) (t : Target) → NoneHanded w.team → t ≡ target_from 0 p.plan.net.places c → gets_there m t ≡ true → Receives t w
  may-receive c (Outlet o) free e g = tt
  may-receive c (Place i q) free e g =
      let k = target-place 0 p.plan.net.places c i q (sym e) in
      let a = k.there in
      let h = fit.there in
      let l : i < length w.team = omega (arith, a, h) in
      let d = k.within in
      let n = ap (λ z. get_or p.plan.net.places z 0) (less i) in
      let f = fit.placed i l in
      let there : q < length (get_or w.team i nobody).got = omega (arith, d, n, f) in
      (l, record { gathers = free i; there = there; takes = gets-takes (get_or w.team i nobody) q g })
    where
      less : (i : ℕ) → i - 0 ≡ i
      less i = omega arith

  pub place-gets : (c : ℕ) (t : Target) → NoneHanded w.team → t ≡ target_from 0 p.plan.net.places c → gets_there m t ≡ true → (i q : ℕ) → t ≡ Place i q → (i < length w.team) × (gets_at q (next_of (get_or w.team i nobody)) ≡ true)
  place-gets c t free e g i q z = let r = may-receive c (Place i q) free (sym z ∙ e) (sym (ap (λ x. gets_there m x) z) ∙ g) in (r.0, sym (ap (λ x. gets_there m x) z) ∙ g)

  pub channel-made : (c : ℕ) (t : Target) (x : Token) (u : Parties) (met' : List log.Meeting) → s.stage ≡ Open → AllRest s → IsLegal s (log.Channel c) → t ≡ target_from 0 p.plan.net.places c → offer_in p.plan.net m c ≡ Some x → moving_in u ≡ passed_to p.plan.net c t x m → met' ≡ met ++ (log.Channel c ∷ []) →
      Gives s (ask.Meet (Channel c)) × (state_with p (moving_in u) met' tag stage ≡ after_meet (log.Channel c) s)
  channel-made c t x u met' o r h e f g n = (
    (o, r, h),
    ap₂ (λ y z. state_with p y z tag stage) (g ∙ ap (λ y. passed_to p.plan.net c y x m) e) n ∙ meetings-are-seen.meets p m met tag stage fit.told c x f ∙ ap (λ (y : State). after_meet (log.Channel c) y) v,
  )

  pub barrier-made : (b : ℕ) (u : Parties) (met' : List log.Meeting) → s.stage ≡ Open → AllRest s → IsLegal s (log.Barrier b) → moving_in u ≡ all_passed p.plan.net (hops_in p.plan.net (log.Barrier b)) (offers_in p.plan.net m (hops_in p.plan.net (log.Barrier b))) m → met' ≡ met ++ (log.Barrier b ∷ []) →
      Gives s (ask.Meet (Barrier b)) × (state_with p (moving_in u) met' tag stage ≡ after_meet (log.Barrier b) s)
  barrier-made b u met' o r h g n = (
    (o, r, h),
    ap₂ (λ y z. state_with p y z tag stage) g n ∙ barriers-are-seen.meets p m met tag stage fit.told b ∙ ap (λ (y : State). after_meet (log.Barrier b) y) v,
  )

  -- a process is asked to fire
  pub fire-made : (i : ℕ) (qs : List (Standing Token)) → s.stage ≡ Open → MayFire s i → qs ≡ change_at i with_handed w.team → Gives s (ask.Fire i tag) × (state_with p (moving_of qs w.inlets.items w.outlets.items) met tag (Asked i) ≡ in_stage (Asked i) s)
  fire-made i qs o h e = (
    (o, h, ap (λ (x : State). x.tag) v),
    ap (λ y. state_with p (moving_of y w.inlets.items w.outlets.items) met tag (Asked i)) e ∙ processes-are-seen.hands p m met tag stage i ∙ ap (λ (x : State). in_stage (Asked i) x) v,
  )

-- what is handed over stays what it was
pub change-fit : (p : Processes) (ps qs : List (Standing Token)) (is : List Arriving) (os : List (Spared Token)) (i : ℕ) → qs ≡ change_at i with_handed ps → Fit p ps is os → Fit p qs is os
change-fit p ps qs is os i e fit = subst (λ y. Fit p y is os) (sym e) (record {
  told = fit.told ∙ sym (map-kept (λ (x : Standing Token). x.barrier) with_handed ps i (λ x. refl));
  there = change-long ps i with_handed ∙ fit.there;
  placed = λ j l. let h = change-long ps i with_handed in ap (λ X. length X) (same-got ps i j) ∙ fit.placed j (omega (arith, l, h));
  counts = λ j l. let h = change-long ps i with_handed in subst (λ n. HasPlaces (get_or p.plan.net.places j 0) n) (sym (same-need ps i j)) (fit.counts j (omega (arith, l, h)));
  inlets = fit.inlets;
  outlets = fit.outlets;
  rooms = λ o l. let a = fit.rooms o l in let b = same-waits ps i (on (total p.plan.net.places + o)) in omega (arith, a, b);
})
  where
    same-got : (ps : List (Standing Token)) (i j : ℕ) → (get_or (change_at i with_handed ps) j nobody).got ≡ (get_or ps j nobody).got
    same-got [] i j = refl
    same-got (x ∷ ps) zero zero = refl
    same-got (x ∷ ps) zero (suc j) = refl
    same-got (x ∷ ps) (suc i) zero = refl
    same-got (x ∷ ps) (suc i) (suc j) = same-got ps i j

    same-need : (ps : List (Standing Token)) (i j : ℕ) → (get_or (change_at i with_handed ps) j nobody).need ≡ (get_or ps j nobody).need
    same-need [] i j = refl
    same-need (x ∷ ps) zero zero = refl
    same-need (x ∷ ps) zero (suc j) = refl
    same-need (x ∷ ps) (suc i) zero = refl
    same-need (x ∷ ps) (suc i) (suc j) = same-need ps i j

    same-waits : (ps : List (Standing Token)) (i : ℕ) (f : Put Token → ℕ) → waiting f (moving_of (change_at i with_handed ps) is os) ≡ waiting f (moving_of ps is os)
    same-waits ps i f = ap (λ v. weights_of f v + weights_of f (inputs_of is)) (map-kept (λ (x : Standing Token). x.puts) with_handed ps i (λ x. refl))

pub hand-level : (ps qs : List (Standing Token)) (i : ℕ) → qs ≡ change_at i with_handed ps → AllLevel ps → AllLevel qs
hand-level ps qs i e level = subst AllLevel (sym e) (λ j. by ps i j (level j))
  where
    by : (ps : List (Standing Token)) (i j : ℕ) → IsLevel (get_or ps j nobody) → IsLevel (get_or (change_at i with_handed ps) j nobody)
    by [] i j h = h
    by (x ∷ ps) zero zero h = h
    by (x ∷ ps) zero (suc j) h = h
    by (x ∷ ps) (suc i) zero h = h
    by (x ∷ ps) (suc i) (suc j) h = by ps i j h

pub hand-waits : (ps qs : List (Standing Token)) (is : List Arriving) (os : List (Spared Token)) (i : ℕ) (f : Put Token → ℕ) → qs ≡ change_at i with_handed ps → waiting f (moving_of qs is os) ≡ waiting f (moving_of ps is os)
hand-waits ps qs is os i f e = ap (λ v. weights_of f (puts_of_all v) + weights_of f (inputs_of is)) e ∙ ap (λ v. weights_of f v + weights_of f (inputs_of is)) (map-kept (λ (x : Standing Token). x.puts) with_handed ps i (λ x. refl))

-- it alone has handed over what it gathered
pub hand-alone : (w u : Parties) (i : ℕ) → u.team ≡ change_at i with_handed w.team → NoneHanded w.team → i < length w.team → next_of (get_or w.team i nobody) ≡ Fires → IsAlone i u
hand-alone w u i e free l f = record {
  there = let n = ap (λ v. length v) e ∙ change-long w.team i with_handed in omega (arith, n, l);
  handed = ap (λ (p : Standing Token). p.handed) here;
  others = λ j z. ap (λ v. (get_or v j nobody).handed) e ∙ ap (λ (p : Standing Token). p.handed) (change-other w.team i j nobody with_handed z) ∙ free j;
  fires = ap next_of here ∙ f;
}
  where
    here : get_or u.team i nobody ≡ with_handed (get_or w.team i nobody)
    here = ap (λ v. get_or v i nobody) e ∙ change-at w.team i nobody with_handed l

-- the process that was asked for
pub asked-alone : (g : declared.Stage) (w : Parties) (i : ℕ) → asked_process (stage_of g) ≡ Some i → StageFits g w → IsAlone i w
asked-alone code.Idle w i e f = absurd (cc)
asked-alone code.Open w i e f = absurd (cc)
asked-alone (code.Asked process) w i e f = subst (λ k. IsAlone k w) (some-is process i e) f
  where
    some-is : (a b : ℕ) → Option.Some a ≡ Option.Some b → a ≡ b
    some-is a b e = cc
asked-alone code.Closed w i e f = absurd (cc)

-- where a channel ends somebody is there
pub ends-there : (p : Processes) (w : Parties) (c : ℕ) (t : Target) → FitIn p w → t ≡ target_from 0 p.plan.net.places c → EndsThere t w
ends-there p w c (Outlet o) fit e = tt
ends-there p w c (Place i q) fit e = let k = (target-place 0 p.plan.net.places c i q (sym e)).there in let h = fit.there in omega (arith, k, h)

-- parties that are the same, or of which the processes are
pub sound-again : (p : Processes) (w u : Parties) (spare : ℕ) (g : declared.Stage) → u ≡ w → Kept p w spare → StageFits g w → Kept p u spare × StageFits g u
sound-again p w u spare g e k f = (subst (λ x. Kept p x spare) (sym e) k, subst (λ x. StageFits g x) (sym e) f)

alone-again : (i : ℕ) (w u : Parties) → u.team ≡ w.team → IsAlone i w → IsAlone i u
alone-again i w u e a = record {
  there = subst (λ ps. i < length ps) (sym e) a.there;
  handed = subst (λ ps. (get_or ps i nobody).handed ≡ true) (sym e) a.handed;
  others = λ j z. subst (λ ps. (get_or ps j nobody).handed ≡ false) (sym e) (a.others j z);
  fires = subst (λ ps. next_of (get_or ps i nobody) ≡ Fires) (sym e) a.fires;
}

pub stage-again : (g : declared.Stage) (w u : Parties) → u.team ≡ w.team → StageFits g w → StageFits g u
stage-again code.Idle w u e f = subst NoneHanded (sym e) f
stage-again code.Open w u e f = subst NoneHanded (sym e) f
stage-again (code.Asked process) w u e f = alone-again process w u e f
stage-again code.Closed w u e f = subst NoneHanded (sym e) f

pub idle-free : (g : declared.Stage) (w : Parties) → stage_of g ≡ Idle → StageFits g w → NoneHanded w.team
idle-free code.Idle w e f = f
idle-free code.Open w e f = f
idle-free (code.Asked process) w e f = absurd (cc)
idle-free code.Closed w e f = f

pub closed-free : (g : declared.Stage) (w : Parties) → stage_of g ≡ Closed → StageFits g w → NoneHanded w.team
closed-free code.Idle w e f = f
closed-free code.Open w e f = f
closed-free (code.Asked process) w e f = absurd (cc)
closed-free code.Closed w e f = f

-- what comes of a look at a meeting
pub looks-come : (s : State) (t : log.Meeting) (r : Option Ask) (u : State) → Looks s t r u → MayCome s r u
looks-come s t (Some a) u h = h
looks-come s t None u h = h.1
