-- What the calls of a core keep, and what they make of its state.
use Rattle.std.proofs.Common.{◌≡◌, ◌⊎◌, inl, inr, ℕ, zero, suc, ◌+◌, ◌<◌, ◌≤◌, List, [], ◌∷◌, false, nat_eq, length, get_or, Some, refl, sym, ap, ap₂, subst, ◌∙◌, arith}
use Rattle.std.proofs.lemmas.List.{length-map}
use Rattle.pt_meaning.specs.Tag.{Tag}
use Rattle.pt_meaning.specs.Streams.{Streams, at, change_at}
use Rattle.pt_meaning.specs.Log.{Meeting}
use Rattle.pt_meaning.specs.Machine.{Need}
use Rattle.pt_meaning.specs.Process.{Put, Fires, emptied, puts_of, by_puts, by_need}
use Rattle.pt_meaning.specs.Rendezvous.{arriving}
use Rattle.pt_meaning.specs.Running.{total}
use Rattle.pt_laws.specs.SoundRuns.{got_by}
use Rattle.pt_value.specs.declared.token.Token.{Token}
use Rattle.pt_reaction.specs.Spared.{Spared}
use Rattle.pt_pn_laws.proofs.ListLaws.{either-nat}
use Rattle.pt_rv_laws.specs.State.{Processes, Stage, Idle, Open, asked_process, lent_if, begun, after_told, closed}
use Rattle.pt_rv_laws.specs.RvActs.{State}
use Rattle.pt_rv_laws.specs.Lawful.{HasPlaces}
use Rattle.pt_rv_work.specs.Core.{Standing, Moving, nobody, once_fired, barriers_of, gots_of, puts_of_all, state_with}
use Rattle.pt_rv_work.proofs.SeenLaws.{processes-are-seen}
use Rattle.pt_rv_parts.specs.Team.{NoneHanded}
use Rattle.pt_rv_parts.proofs.ListLaws.{map-kept, map-change, change-at, change-other, change-long}
use Rattle.pt_rv.specs.declared.parties.Parties.{Parties}
use Rattle.pt_rv.specs.Core.{Kept, IsAlone}
use Rattle.pt_rv.specs.Ends.{PromisedMore}
use Rattle.pt_rv.specs.Parties.{FitIn, IsLevel, AllLevel, AreSame, moving_in, inputs_of, outputs_of, waiting, weights_of, each, on, spare_at}
use Rattle.pt_rv.proofs.EndLaws.{inputs-long, promised-none}
use Rattle.pt_rv.proofs.WeightLaws.{weights-new, puts-is, puts-long}

-- the processes fit a plan
pub record TeamFits (p : Processes) (ps : List (Standing Token)) : Type 0 where
  pub told : p.plan.barriers ≡ barriers_of ps
  pub there : length ps ≡ length p.plan.net.places
  pub placed : (i : ℕ) → i < length ps → length (get_or ps i nobody).got ≡ get_or p.plan.net.places i 0
  pub counts : (i : ℕ) → i < length ps → HasPlaces (get_or p.plan.net.places i 0) (get_or ps i nobody).need

team-fits : (p : Processes) (w : Parties) → FitIn p w → TeamFits p w.team
team-fits p w fit = record { told = fit.told; there = fit.there; placed = fit.placed; counts = fit.counts }

-- what is kept where more waits, and there is room for it
pub kept-with : (p : Processes) (w u : Parties) (a b : ℕ) (X : List (List (Put Token))) → Kept p w a → TeamFits p u.team → AllLevel u.team → length u.inlets.items ≡ length w.inlets.items → ((f : Put Token → ℕ) → waiting f (moving_in u) ≤ waiting f (moving_in w) + weights_of f X) →
    PromisedMore (total p.plan.net.places) w.outlets.items u.outlets.items a b X → Kept p u b
kept-with p w u a b X k t level i h more = record {
  sound = k.sound;
  fit = record {
    told = t.told;
    there = t.there;
    placed = t.placed;
    counts = t.counts;
    inlets = i ∙ k.fit.inlets;
    outlets = more.counted ∙ k.fit.outlets;
    rooms = λ o l.
        let n = more.counted in
        let x = k.fit.rooms o (omega (arith, l, n)) in
        let y = more.rooms o (omega (arith, l, n)) in
        let z = h (on (total p.plan.net.places + o)) in
        omega (arith, x, y, z);
  };
  level = level;
  meets = let x = k.meets in let y = more.meets in let z = h each in omega (arith, x, y, z);
}

-- the processes are the same, and so is all that waits
pub kept-same : (p : Processes) (w u : Parties) (a b : ℕ) → Kept p w a → u.team ≡ w.team → inputs_of u.inlets.items ≡ inputs_of w.inlets.items → PromisedMore (total p.plan.net.places) w.outlets.items u.outlets.items a b [] → Kept p u b
kept-same p w u a b k t i more =
    kept-with p w u a b [] k (subst (λ ps. TeamFits p ps) (sym t) (team-fits p w k.fit)) (subst AllLevel (sym t) k.level) (sym (inputs-long u.inlets.items) ∙ ap (λ v. length v) i ∙ inputs-long w.inlets.items)
    (λ f. let e = ap₂ (λ ps is. weights_of f (puts_of_all ps) + weights_of f is) t i in omega (arith, e)) more

-- what was to come has come
pub kept-arrived : (p : Processes) (w u : Parties) (a b : ℕ) (X : List (List (Put Token))) → Kept p w a → u.team ≡ w.team → ((f : Put Token → ℕ) → weights_of f (inputs_of u.inlets.items) ≡ weights_of f (inputs_of w.inlets.items) + weights_of f X) → length u.inlets.items ≡ length w.inlets.items →
    PromisedMore (total p.plan.net.places) w.outlets.items u.outlets.items a b X → Kept p u b
kept-arrived p w u a b X k t h n more =
    kept-with p w u a b X k (subst (λ ps. TeamFits p ps) (sym t) (team-fits p w k.fit)) (subst AllLevel (sym t) k.level) n (λ f. let x = ap (λ ps. weights_of f (puts_of_all ps)) t in let y = h f in omega (arith, x, y)) more

-- own outputs with as much room
pub promised-same : (inner : ℕ) (os ps : List (Spared Token)) (a : ℕ) → length ps ≡ length os → ((o : ℕ) → spare_at ps o ≡ spare_at os o) → PromisedMore inner os ps a a []
promised-same inner os ps a e h = record { counted = e; rooms = λ o l. let x = h o in omega (arith, x); meets = plus a }
  where
    plus : (n : ℕ) → n + 0 ≤ n
    plus n = omega arith

pub emptied-long : (X : Streams Token) → length (emptied X) ≡ length X
emptied-long [] = refl
emptied-long (x ∷ X) = ap (λ v. suc v) (emptied-long X)

pub outputs-long : (os : List (Spared Token)) → length (outputs_of os) ≡ length os
outputs-long os = length-map os (λ (o : Spared Token). o.list)

-- the process that fires next has no put left to make
pub alone-puts : (w : Parties) (i : ℕ) → IsAlone i w → (get_or w.team i nobody).puts ≡ []
alone-puts w i alone = by (get_or w.team i nobody).puts alone.fires
  where
    by : (vs : List (Put Token)) → by_puts vs (by_need (get_or w.team i nobody).barrier (get_or w.team i nobody).need (get_or w.team i nobody).got) ≡ Fires → vs ≡ []
    by [] f = refl
    by (v ∷ vs) f = absurd (cc)

-- one process has fired
module _ (p : Processes) (w u : Parties) (i : ℕ) (need : Need) (us : List (Put Token)) (alone : IsAlone i w) (fit : FitIn p w) (e : u.team ≡ change_at i (once_fired need us) w.team) where
  here : get_or u.team i nobody ≡ once_fired need us (get_or w.team i nobody)
  here = ap (λ v. get_or v i nobody) e ∙ change-at w.team i nobody (once_fired need us) alone.there

  other : (j : ℕ) → nat_eq i j ≡ false → get_or u.team j nobody ≡ get_or w.team j nobody
  other j z = ap (λ v. get_or v j nobody) e ∙ change-other w.team i j nobody (once_fired need us) z

  long : length u.team ≡ length w.team
  long = ap (λ v. length v) e ∙ change-long w.team i (once_fired need us)

  pub told-team : HasPlaces (get_or p.plan.net.places i 0) need → TeamFits p u.team
  told-team h = record {
    told = fit.told ∙ sym (ap (λ v. barriers_of v) e ∙ map-kept (λ (x : Standing Token). x.barrier) (once_fired need us) w.team i (λ x. refl));
    there = long ∙ fit.there;
    placed = λ j l. place j (omega (arith, l, long)) (either-nat i j);
    counts = λ j l. count j (omega (arith, l, long)) (either-nat i j);
  }
    where
      place : (j : ℕ) → j < length w.team → (i ≡ j) ⊎ (nat_eq i j ≡ false) → length (get_or u.team j nobody).got ≡ get_or p.plan.net.places j 0
      place j l (inl z) = subst (λ k. length (get_or u.team k nobody).got ≡ get_or p.plan.net.places k 0) z (ap (λ (x : Standing Token). length x.got) here ∙ emptied-long (get_or w.team i nobody).got ∙ fit.placed i alone.there)
      place j l (inr z) = ap (λ (x : Standing Token). length x.got) (other j z) ∙ fit.placed j l

      count : (j : ℕ) → j < length w.team → (i ≡ j) ⊎ (nat_eq i j ≡ false) → HasPlaces (get_or p.plan.net.places j 0) (get_or u.team j nobody).need
      count j l (inl z) = subst (λ k. HasPlaces (get_or p.plan.net.places k 0) (get_or u.team k nobody).need) z (subst (λ n. HasPlaces (get_or p.plan.net.places i 0) n) (sym (ap (λ (x : Standing Token). x.need) here)) h)
      count j l (inr z) = subst (λ n. HasPlaces (get_or p.plan.net.places j 0) n) (sym (ap (λ (x : Standing Token). x.need) (other j z))) (fit.counts j l)

  pub told-level : AllLevel w.team → AllLevel u.team
  told-level level j = by (either-nat i j)
    where
      none : (X : Streams Token) (q : ℕ) → at (emptied X) q ≡ []
      none [] q = refl
      none (x ∷ X) zero = refl
      none (x ∷ X) (suc q) = none X q

      by : (i ≡ j) ⊎ (nat_eq i j ≡ false) → IsLevel (get_or u.team j nobody)
      by (inl z) = subst (λ k. IsLevel (get_or u.team k nobody)) z (subst IsLevel (sym here) (λ h ns n q r x y. ap (λ v. length v) (none (get_or w.team i nobody).got q ∙ sym (none (get_or w.team i nobody).got r))))
      by (inr z) = subst IsLevel (sym (other j z)) (level j)

  pub told-free : NoneHanded u.team
  told-free j = by (either-nat i j)
    where
      by : (i ≡ j) ⊎ (nat_eq i j ≡ false) → (get_or u.team j nobody).handed ≡ false
      by (inl z) = subst (λ k. (get_or u.team k nobody).handed ≡ false) z (ap (λ (x : Standing Token). x.handed) here)
      by (inr z) = ap (λ (x : Standing Token). x.handed) (other j z) ∙ alone.others j z

  pub told-waits : inputs_of u.inlets.items ≡ inputs_of w.inlets.items → (f : Put Token → ℕ) → waiting f (moving_in u) ≤ waiting f (moving_in w) + weights_of f (us ∷ [])
  told-waits h f =
      let a = ap (λ ps. weights_of f (puts_of_all ps)) e ∙ ap (λ v. weights_of f v) (map-change (λ (x : Standing Token). x.puts) (once_fired need us) (λ vs. us) w.team i (λ x. refl)) in
      let n = puts-long w.team in
      let l = alone.there in
      let b = weights-new f (puts_of_all w.team) i us (omega (arith, l, n)) (puts-is w.team i ∙ alone-puts w i alone) in
      let d = ap (λ v. weights_of f v) h in
      omega (arith, a, b, d)

module _ (p : Processes) (w : Parties) (met : List Meeting) (tag : Tag) (stage : Stage) (s : State) (v : state_with p (moving_in w) met tag stage ≡ s) where
  -- the same parties to be seen
  pub same-is : (u : Parties) (met' : List Meeting) → u.team ≡ w.team → inputs_of u.inlets.items ≡ inputs_of w.inlets.items → outputs_of u.outlets.items ≡ outputs_of w.outlets.items → met' ≡ met → state_with p (moving_in u) met' tag stage ≡ s
  same-is u met' t i o n =
      ap (λ ps. let m : Moving Token = record { processes = ps; inputs = inputs_of u.inlets.items; outputs = outputs_of u.outlets.items } in state_with p m met' tag stage) t ∙
      ap₂ (λ is os. let m : Moving Token = record { processes = w.team; inputs = is; outputs = os } in state_with p m met' tag stage) i o ∙ ap (λ k. state_with p (moving_in w) k tag stage) n ∙ v

  pub begun-is : (now : Tag) (X : Streams Token) (u : Parties) (met' : List Meeting) → u.team ≡ w.team → inputs_of u.inlets.items ≡ arriving p.plan.net.sources 0 (inputs_of w.inlets.items) X → outputs_of u.outlets.items ≡ outputs_of w.outlets.items → met' ≡ [] → state_with p (moving_in u) met' now Open ≡ begun now X s
  begun-is now X u met' t i o n =
      ap (λ ps. let m : Moving Token = record { processes = ps; inputs = inputs_of u.inlets.items; outputs = outputs_of u.outlets.items } in state_with p m met' now Open) t ∙
      ap₂ (λ is os. let m : Moving Token = record { processes = w.team; inputs = is; outputs = os } in state_with p m met' now Open) i o ∙
      ap (λ k. let m : Moving Token = record { processes = w.team; inputs = arriving p.plan.net.sources 0 (inputs_of w.inlets.items) X; outputs = outputs_of w.outlets.items } in state_with p m k now Open) n ∙ ap (λ (x : State). begun now X x) v

  pub closed-is : (u : Parties) (met' : List Meeting) → u.team ≡ w.team → inputs_of u.inlets.items ≡ inputs_of w.inlets.items → outputs_of u.outlets.items ≡ emptied (outputs_of w.outlets.items) → met' ≡ [] → state_with p (moving_in u) met' tag Idle ≡ closed s
  closed-is u met' t i o n =
      ap (λ ps. let m : Moving Token = record { processes = ps; inputs = inputs_of u.inlets.items; outputs = outputs_of u.outlets.items } in state_with p m met' tag Idle) t ∙
      ap₂ (λ is os. let m : Moving Token = record { processes = w.team; inputs = is; outputs = os } in state_with p m met' tag Idle) i o ∙
      ap (λ k. let m : Moving Token = record { processes = w.team; inputs = inputs_of w.inlets.items; outputs = emptied (outputs_of w.outlets.items) } in state_with p m k tag Idle) n ∙ ap (λ (x : State). closed x) v

  pub told-is : (i : ℕ) (out : Streams Token) (need : Need) (us : List (Put Token)) (u : Parties) (met' : List Meeting) → us ≡ puts_of p.plan.net.sources i 0 out → u.team ≡ change_at i (once_fired need us) w.team → inputs_of u.inlets.items ≡ inputs_of w.inlets.items → outputs_of u.outlets.items ≡ outputs_of w.outlets.items → met' ≡ met →
      state_with p (moving_in u) met' tag Open ≡ after_told i out need s
  told-is i out need us u met' e t j o n =
      ap (λ ps. let m : Moving Token = record { processes = ps; inputs = inputs_of u.inlets.items; outputs = outputs_of u.outlets.items } in state_with p m met' tag Open) (t ∙ ap (λ y. change_at i (once_fired need y) w.team) e) ∙
      ap₂ (λ is os. let m : Moving Token = record { processes = change_at i (once_fired need (puts_of p.plan.net.sources i 0 out)) w.team; inputs = is; outputs = os } in state_with p m met' tag Open) j o ∙
      ap (λ k. let m : Moving Token = record { processes = change_at i (once_fired need (puts_of p.plan.net.sources i 0 out)) w.team; inputs = inputs_of w.inlets.items; outputs = outputs_of w.outlets.items } in state_with p m k tag Open) n ∙
      processes-are-seen.tells p (moving_in w) met tag stage i out need ∙ ap (λ (x : State). after_told i out need x) v

  pub lent-is : (i : ℕ) (r : Streams Token) → asked_process s.stage ≡ Some i → r ≡ (get_or w.team i nobody).got → r ≡ lent_if s (asked_process s.stage)
  lent-is i r a e = e ∙ sym (got-is w.team i) ∙ ap (λ (x : State). got_by x.places.got i) v ∙ ap (λ o. lent_if s o) (sym a)
    where
      got-is : (ps : List (Standing Token)) (i : ℕ) → got_by (gots_of ps) i ≡ (get_or ps i nobody).got
      got-is [] i = refl
      got-is (q ∷ ps) zero = refl
      got-is (q ∷ ps) (suc i) = got-is ps i

-- once a process has fired, what is kept holds, and none has handed over what it gathered
pub told-sound : (p : Processes) (w u : Parties) (i : ℕ) (need : Need) (us : List (Put Token)) (a b : ℕ) → Kept p w a → IsAlone i w → HasPlaces (get_or p.plan.net.places i 0) need → u.team ≡ change_at i (once_fired need us) w.team → inputs_of u.inlets.items ≡ inputs_of w.inlets.items →
    PromisedMore (total p.plan.net.places) w.outlets.items u.outlets.items a b (us ∷ []) → Kept p u b × NoneHanded u.team
told-sound p w u i need us a b k alone h e n more = (
  kept-with p w u a b (us ∷ []) k (told-team p w u i need us alone k.fit e h) (told-level p w u i need us alone k.fit e k.level) (sym (inputs-long u.inlets.items) ∙ ap (λ v. length v) n ∙ inputs-long w.inlets.items) (told-waits p w u i need us alone k.fit e n) more,
  told-free p w u i need us alone k.fit e,
)

-- the same parties again
pub copied-sound : (p : Processes) (w u : Parties) (a : ℕ) → Kept p w a → AreSame w u → Kept p u a
copied-sound p w u a k s = kept-same p w u a a k s.team s.inputs (subst (λ os. PromisedMore (total p.plan.net.places) w.outlets.items os a a []) (sym s.outlets) (promised-none (total p.plan.net.places) w.outlets.items a))

-- the own outputs are handed out
pub closed-sound : (p : Processes) (w u : Parties) (a b : ℕ) → Kept p w a → u.team ≡ w.team → u.inlets.items ≡ w.inlets.items → outputs_of u.outlets.items ≡ emptied (outputs_of w.outlets.items) → ((o : ℕ) → spare_at u.outlets.items o ≡ spare_at w.outlets.items o) → b ≡ a → Kept p u b
closed-sound p w u a b k t i o r e =
    subst (λ n. Kept p u n) (sym e) (kept-same p w u a a k t (ap inputs_of i) (promised-same (total p.plan.net.places) w.outlets.items u.outlets.items a (sym (outputs-long u.outlets.items) ∙ ap (λ v. length v) o ∙ emptied-long (outputs_of w.outlets.items) ∙ outputs-long w.outlets.items) r))
