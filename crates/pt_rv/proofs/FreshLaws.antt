-- The parties at their start.
use Rattle.std.proofs.Common.{◌≡◌, ℕ, zero, suc, ◌+◌, ◌-◌, ◌<◌, List, [], ◌∷◌, ◌++◌, Bool, false, length, take, drop, get_or, replicate, refl, sym, ap, ap₂, subst, ◌∙◌, arith, add-one, length-drop}
use Rattle.pt_meaning.specs.Tag.{origin}
use Rattle.pt_meaning.specs.Streams.{Streams, at}
use Rattle.pt_meaning.specs.Machine.{Need, Over}
use Rattle.pt_meaning.specs.Net.{Source}
use Rattle.pt_meaning.specs.Process.{Put}
use Rattle.pt_meaning.specs.Rendezvous.{outlets, no_tokens, none_gathered, none_to_put}
use Rattle.pt_meaning.specs.Running.{total}
use Rattle.pt_value.specs.declared.token.Token.{Token}
use Rattle.pt_rv_laws.specs.State.{Processes, RvState, Idle, started}
use Rattle.pt_rv_laws.specs.Lawful.{HasPlaces}
use Rattle.pt_rv_work.specs.Core.{Standing, Moving, nobody, barriers_of, needs_of, gots_of, puts_of_all, state_with}
use Rattle.pt_rv_plan.specs.Plan.{AreSound}
use Rattle.pt_rv_parts.specs.Process.{at_start}
use Rattle.pt_rv_parts.specs.Team.{NoneHanded}
use Rattle.pt_rv.specs.declared.parties.Parties.{Parties}
use Rattle.pt_rv.specs.Core.{Kept}
use Rattle.pt_rv.specs.Fresh.{IsFresh, starting}
use Rattle.pt_rv.specs.Parties.{AllLevel, moving_in, inputs_of, outputs_of, waiting, weights_of, each, on}
use Rattle.pt_rv.proofs.CallLaws.{outputs-long}
use Rattle.pt_rv.proofs.EndLaws.{inputs-long}

no-tokens : (n : ℕ) → replicate n [] ≡ no_tokens {T = Token} n
no-tokens zero = refl
no-tokens (suc n) = ap (λ v. [] ∷ v) (no-tokens n)

none-long : (ns : List ℕ) → length (none_to_put {T = Token} ns) ≡ length ns
none-long [] = refl
none-long (n ∷ ns) = ap (λ v. suc v) (none-long ns)

none-weighs : (f : Put Token → ℕ) (ns : List ℕ) → weights_of f (none_to_put ns) ≡ 0
none-weighs f [] = refl
none-weighs f (n ∷ ns) = let r = none-weighs f ns in omega (arith, r)

pub none-put : (ns : List ℕ) → replicate (length ns) [] ≡ none_to_put {T = Token} ns
none-put [] = refl
none-put (n ∷ ns) = ap (λ v. [] ∷ v) (none-put ns)

outlets-are : (ns : List ℕ) (cs : List Source) → outlets {T = Token} ns cs ≡ replicate (length cs - total ns) []
outlets-are [] [] = refl
outlets-are [] (c ∷ cs) = ap (λ v. [] ∷ v) (outlets-are [] cs ∙ ap (λ k. replicate k []) (less (length cs))) ∙ ap (λ k. replicate k []) (more (length cs))
  where
    less : (n : ℕ) → n - 0 ≡ n
    less n = omega arith

    more : (n : ℕ) → suc n ≡ suc n - 0
    more n = omega arith
outlets-are (n ∷ ns) cs = outlets-are ns (drop n cs) ∙ ap (λ k. replicate k []) (let e = length-drop n cs in less (length (drop n cs)) (length cs) n (total ns) e)
  where
    less : (d l n t : ℕ) → d ≡ l - n → d - t ≡ l - (n + t)
    less d l n t e = omega arith

pub outlets-for : (ns : List ℕ) (cs : List Source) (X : Streams Token) (k : ℕ) → X ≡ replicate k [] → k ≡ length cs - total ns → X ≡ outlets ns cs
outlets-for ns cs X k e f = e ∙ ap (λ n. replicate n []) f ∙ sym (outlets-are ns cs)

outlets-long : (ns : List ℕ) (cs : List Source) → length (outlets {T = Token} ns cs) ≡ length cs - total ns
outlets-long ns cs = ap (λ v. length v) (outlets-are ns cs) ∙ long (length cs - total ns)
  where
    long : (n : ℕ) → length {A = List Token} (replicate n []) ≡ n
    long zero = refl
    long (suc n) = ap (λ v. suc v) (long n)

-- the processes at their start
start-barriers : (bs : List Bool) (ms : List Need) (ns : List ℕ) → length bs ≡ length ns → length ms ≡ length ns → barriers_of (starting bs ms ns) ≡ bs
start-barriers [] ms ns e f = refl
start-barriers (b ∷ bs) [] [] e f = absurd (omega (arith, e))
start-barriers (b ∷ bs) [] (n ∷ ns) e f = absurd (omega (arith, f))
start-barriers (b ∷ bs) (m ∷ ms) [] e f = absurd (omega (arith, e))
start-barriers (b ∷ bs) (m ∷ ms) (n ∷ ns) e f = ap (λ v. b ∷ v) (start-barriers bs ms ns (omega (arith, e)) (omega (arith, f)))

start-needs : (bs : List Bool) (ms : List Need) (ns : List ℕ) → length bs ≡ length ns → length ms ≡ length ns → needs_of (starting bs ms ns) ≡ ms
start-needs [] [] ns e f = refl
start-needs [] (m ∷ ms) [] e f = absurd (omega (arith, f))
start-needs [] (m ∷ ms) (n ∷ ns) e f = absurd (omega (arith, e))
start-needs (b ∷ bs) [] [] e f = refl
start-needs (b ∷ bs) [] (n ∷ ns) e f = absurd (omega (arith, f))
start-needs (b ∷ bs) (m ∷ ms) [] e f = absurd (omega (arith, e))
start-needs (b ∷ bs) (m ∷ ms) (n ∷ ns) e f = ap (λ v. m ∷ v) (start-needs bs ms ns (omega (arith, e)) (omega (arith, f)))

start-gots : (bs : List Bool) (ms : List Need) (ns : List ℕ) → length bs ≡ length ns → length ms ≡ length ns → gots_of (starting bs ms ns) ≡ none_gathered ns
start-gots [] ms [] e f = refl
start-gots [] ms (n ∷ ns) e f = absurd (omega (arith, e))
start-gots (b ∷ bs) [] [] e f = refl
start-gots (b ∷ bs) [] (n ∷ ns) e f = absurd (omega (arith, f))
start-gots (b ∷ bs) (m ∷ ms) [] e f = refl
start-gots (b ∷ bs) (m ∷ ms) (n ∷ ns) e f = ap₂ (λ x v. x ∷ v) (no-tokens n) (start-gots bs ms ns (omega (arith, e)) (omega (arith, f)))

start-puts : (bs : List Bool) (ms : List Need) (ns : List ℕ) → length bs ≡ length ns → length ms ≡ length ns → puts_of_all (starting bs ms ns) ≡ none_to_put ns
start-puts [] ms [] e f = refl
start-puts [] ms (n ∷ ns) e f = absurd (omega (arith, e))
start-puts (b ∷ bs) [] [] e f = refl
start-puts (b ∷ bs) [] (n ∷ ns) e f = absurd (omega (arith, f))
start-puts (b ∷ bs) (m ∷ ms) [] e f = refl
start-puts (b ∷ bs) (m ∷ ms) (n ∷ ns) e f = ap (λ v. [] ∷ v) (start-puts bs ms ns (omega (arith, e)) (omega (arith, f)))

-- a process at its start has this need and so many places, and nothing is there
record Starts (q : Standing Token) (m : Need) (n : ℕ) : Type 0 where
  need : q.need ≡ m
  places : length q.got ≡ n
  empty : (k : ℕ) → at q.got k ≡ []
  free : q.handed ≡ false

none-there : (n k : ℕ) → at {T = Token} (replicate n []) k ≡ []
none-there zero k = refl
none-there (suc n) zero = refl
none-there (suc n) (suc k) = none-there n k

so-long : (n : ℕ) → length {A = List Token} (replicate n []) ≡ n
so-long zero = refl
so-long (suc n) = ap (λ v. suc v) (so-long n)

start-at : (bs : List Bool) (ms : List Need) (ns : List ℕ) (i : ℕ) → length bs ≡ length ns → length ms ≡ length ns → i < length ns → Starts (get_or (starting bs ms ns) i nobody) (get_or ms i Over) (get_or ns i 0)
start-at bs ms [] i e f l = absurd (omega (arith, l))
start-at [] ms (n ∷ ns) i e f l = absurd (omega (arith, e))
start-at (b ∷ bs) [] (n ∷ ns) i e f l = absurd (omega (arith, f))
start-at (b ∷ bs) (m ∷ ms) (n ∷ ns) zero e f l = record { need = refl; places = so-long n; empty = none-there n; free = refl }
start-at (b ∷ bs) (m ∷ ms) (n ∷ ns) (suc i) e f l = start-at bs ms ns i (omega (arith, e)) (omega (arith, f)) (omega (arith, l))

start-long : (bs : List Bool) (ms : List Need) (ns : List ℕ) → length bs ≡ length ns → length ms ≡ length ns → length (starting bs ms ns) ≡ length ns
start-long [] ms [] e f = refl
start-long [] ms (n ∷ ns) e f = absurd (omega (arith, e))
start-long (b ∷ bs) [] [] e f = absurd (omega (arith, e))
start-long (b ∷ bs) [] (n ∷ ns) e f = absurd (omega (arith, f))
start-long (b ∷ bs) (m ∷ ms) [] e f = absurd (omega (arith, e))
start-long (b ∷ bs) (m ∷ ms) (n ∷ ns) e f = ap (λ v. suc v) (start-long bs ms ns (omega (arith, e)) (omega (arith, f)))

pub start-free : (bs : List Bool) (ms : List Need) (ns : List ℕ) → NoneHanded (starting bs ms ns)
start-free [] ms ns i = refl
start-free (b ∷ bs) [] ns i = refl
start-free (b ∷ bs) (m ∷ ms) [] i = refl
start-free (b ∷ bs) (m ∷ ms) (n ∷ ns) zero = refl
start-free (b ∷ bs) (m ∷ ms) (n ∷ ns) (suc i) = start-free bs ms ns i

start-level : (bs : List Bool) (ms : List Need) (ns : List ℕ) → AllLevel (starting bs ms ns)
start-level [] ms ns i = λ h ns n q r x y. absurd (omega (arith, x))
start-level (b ∷ bs) [] ns i = λ h ns n q r x y. absurd (omega (arith, x))
start-level (b ∷ bs) (m ∷ ms) [] i = λ h ns n q r x y. absurd (omega (arith, x))
start-level (b ∷ bs) (m ∷ ms) (n ∷ ns) zero = λ h ks e q r x y. ap (λ v. length v) (none-there n q ∙ sym (none-there n r))
start-level (b ∷ bs) (m ∷ ms) (n ∷ ns) (suc i) = start-level bs ms ns i

-- one process more
pub starting-more : (bs : List Bool) (ms : List Need) (ns : List ℕ) (k : ℕ) (b : Bool) (m : Need) (n : ℕ) → k < length bs → k < length ms → k < length ns → b ≡ get_or bs k false → m ≡ get_or ms k Over → n ≡ get_or ns k 0 →
    starting (take (k + 1) bs) (take (k + 1) ms) (take (k + 1) ns) ≡ starting (take k bs) (take k ms) (take k ns) ++ (at_start b m n ∷ [])
starting-more bs ms ns k b m n h i j e f g = ap (λ z. starting (take z bs) (take z ms) (take z ns)) (add-one k) ∙ next bs ms ns k h i j ∙ ap (λ y. starting (take k bs) (take k ms) (take k ns) ++ (y ∷ [])) (ap₂ (λ x y. at_start x y (get_or ns k 0)) (sym e) (sym f) ∙ ap (λ z. at_start b m z) (sym g))
  where
    next : (bs : List Bool) (ms : List Need) (ns : List ℕ) (k : ℕ) → k < length bs → k < length ms → k < length ns →
        starting (take (suc k) bs) (take (suc k) ms) (take (suc k) ns) ≡ starting (take k bs) (take k ms) (take k ns) ++ (at_start (get_or bs k false) (get_or ms k Over) (get_or ns k 0) ∷ [])
    next [] ms ns k h i j = absurd (omega (arith, h))
    next (b ∷ bs) [] ns k h i j = absurd (omega (arith, i))
    next (b ∷ bs) (m ∷ ms) [] k h i j = absurd (omega (arith, j))
    next (b ∷ bs) (m ∷ ms) (n ∷ ns) zero h i j = refl
    next (b ∷ bs) (m ∷ ms) (n ∷ ns) (suc k) h i j = ap (λ v. at_start b m n ∷ v) (next bs ms ns k (omega (arith, h)) (omega (arith, i)) (omega (arith, j)))

module _ (p : Processes) (w : Parties) (sound : AreSound p) (fresh : IsFresh p w) where
  abbrev bs : List Bool
  bs = p.plan.barriers

  abbrev ms : List Need
  ms = p.starts

  abbrev ns : List ℕ
  ns = p.plan.net.places

  fresh-waits : (f : Put Token → ℕ) → waiting f (moving_in w) ≡ 0
  fresh-waits f =
      let a = ap (λ ps. weights_of f (puts_of_all ps)) fresh.processes ∙ ap (λ v. weights_of f v) (start-puts bs ms ns sound.lawful.barriers sound.lawful.starts) ∙ none-weighs f ns in
      let b = ap (λ v. weights_of f v) fresh.inputs ∙ none-weighs f p.plan.takes in
      omega (arith, a, b)

  pub fresh-kept : (spare : ℕ) → Kept p w spare
  fresh-kept spare = record {
    sound = sound;
    fit = record {
      told = sym (ap (λ v. barriers_of v) fresh.processes ∙ start-barriers bs ms ns sound.lawful.barriers sound.lawful.starts);
      there = ap (λ v. length v) fresh.processes ∙ start-long bs ms ns sound.lawful.barriers sound.lawful.starts;
      placed = λ i l. ap (λ v. length (get_or v i nobody).got) fresh.processes ∙ (start-at bs ms ns i sound.lawful.barriers sound.lawful.starts (in-net i l)).places;
      counts = λ i l. subst (λ n. HasPlaces (get_or ns i 0) n) (sym (ap (λ v. (get_or v i nobody).need) fresh.processes ∙ (start-at bs ms ns i sound.lawful.barriers sound.lawful.starts (in-net i l)).need)) (sound.counts i (in-net i l));
      inlets = sym (inputs-long w.inlets.items) ∙ ap (λ v. length v) fresh.inputs ∙ none-long p.plan.takes;
      outlets = sym (outputs-long w.outlets.items) ∙ ap (λ v. length v) fresh.outputs ∙ outlets-long ns p.plan.net.sources;
      rooms = λ o l. let a = fresh-waits (on (total ns + o)) in omega (arith, a);
    };
    level = subst AllLevel (sym fresh.processes) (start-level bs ms ns);
    meets = let a = fresh-waits each in omega (arith, a);
  }
    where
      in-net : (i : ℕ) → i < length w.team → i < length ns
      in-net i l = let e = ap (λ v. length v) fresh.processes ∙ start-long bs ms ns sound.lawful.barriers sound.lawful.starts in omega (arith, l, e)

  pub fresh-free : NoneHanded w.team
  fresh-free = subst NoneHanded (sym fresh.processes) (start-free bs ms ns)

  pub fresh-is : state_with p (moving_in w) [] origin Idle ≡ started p
  fresh-is =
      ap (λ ps. let m : Moving Token = record { processes = ps; inputs = inputs_of w.inlets.items; outputs = outputs_of w.outlets.items } in state_with p m [] origin Idle) fresh.processes ∙
      ap₂ (λ is os. let m : Moving Token = record { processes = starting bs ms ns; inputs = is; outputs = os } in state_with p m [] origin Idle) fresh.inputs fresh.outputs ∙ parts
    where
      parts : (let m : Moving Token = record { processes = starting bs ms ns; inputs = none_to_put p.plan.takes; outputs = outlets ns p.plan.net.sources } in state_with p m [] origin Idle) ≡ started p
      parts =
          ap₂ (λ n g. let r : RvState Token = record { processes = p; needs = n; places = record { got = g; puts = puts_of_all (starting bs ms ns); inputs = none_to_put p.plan.takes }; outputs = outlets ns p.plan.net.sources; met = []; tag = origin; stage = Idle } in r)
          (start-needs bs ms ns sound.lawful.barriers sound.lawful.starts) (start-gots bs ms ns sound.lawful.barriers sound.lawful.starts) ∙
          ap (λ u. let r : RvState Token = record { processes = p; needs = ms; places = record { got = none_gathered ns; puts = u; inputs = none_to_put p.plan.takes }; outputs = outlets ns p.plan.net.sources; met = []; tag = origin; stage = Idle } in r) (start-puts bs ms ns sound.lawful.barriers sound.lawful.starts)
