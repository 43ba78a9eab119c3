-- Reading the tables of a plan.
use Rattle.std.proofs.Common.{◌≡◌, ℕ, zero, suc, ◌+◌, ◌<◌, ◌≤◌, List, [], ◌∷◌, length, map, take, get_or, Option, Some, refl, sym, ap, ◌∙◌, arith, add-one}
use Rattle.std.proofs.lemmas.List.{length-map}
use Rattle.pt_meaning.specs.Running.{total}
use Rattle.pt_meaning.specs.Streams.{get}
use Rattle.pt_meaning.specs.Meetings as meetings
use Rattle.pt_meaning.specs.Net.{Output, Own}
use Rattle.pt_meaning.specs.Process.{channels_from}
use Rattle.pt_reaction.proofs.OffsetLaws.{begins-at, begins-long}
use Rattle.pt_pn_laws.specs.State.{offset_of}
use Rattle.pt_puts.specs.Fans.{fan_at, fans_in}
use Rattle.pt_rv_laws.specs.State.{Processes}
use Rattle.pt_rv_plan.specs.declared.targets.Target.{Target}
use Rattle.pt_rv_plan.specs.declared.rv_plan.Plan.TheInside.{Inside}
use Rattle.pt_rv_plan.specs.Plan.{IsSound, AreTargets, seen_plan, target_of}

pub offset-long : (n : Inside) → IsSound n → length n.offsets.items ≡ suc (length n.plan.places)
offset-long n w = ap (λ v. length v) w.offsets ∙ begins-long 0 n.plan.places

pub offset-is : (n : Inside) → IsSound n → (i : ℕ) → i ≤ length n.plan.places → (v : ℕ) → v ≡ get_or n.offsets.items i v → v ≡ offset_of n.plan.places i
offset-is n w i h v e =
    same (get_or n.offsets.items i v) v (get_or n.offsets.items i 0) (sym e) (other n.offsets.items i v (let l = offset-long n w in omega (arith, l, h))) ∙ ap (λ x. get_or x i 0) w.offsets ∙ begins-at 0 n.plan.places i h ∙ none (total (take i n.plan.places))
  where
    same : (a v b : ℕ) → a ≡ v → a ≡ b → v ≡ b
    same a v b e f = sym e ∙ f

    none : (t : ℕ) → 0 + t ≡ t
    none t = omega arith

    other : (xs : List ℕ) (i v : ℕ) → i < length xs → get_or xs i v ≡ get_or xs i 0
    other [] i v h = absurd (omega (arith, h))
    other (x ∷ xs) zero v h = refl
    other (x ∷ xs) (suc i) v h = other xs i v (omega (arith, h))

pub offset-at : (n : Inside) → IsSound n → (i : ℕ) → i ≤ length n.plan.places → get_or n.offsets.items i 0 ≡ offset_of n.plan.places i
offset-at n w i h = ap (λ x. get_or x i 0) w.offsets ∙ begins-at 0 n.plan.places i h ∙ none (total (take i n.plan.places))
  where
    none : (t : ℕ) → 0 + t ≡ t
    none t = omega arith

-- the places of a process end where those of the next begin
offset-next : (ns : List ℕ) (i : ℕ) → i < length ns → offset_of ns (suc i) ≡ offset_of ns i + get_or ns i 0
offset-next [] i h = absurd (omega (arith, h))
offset-next (n ∷ ns) zero h = plus n
  where
    plus : (n : ℕ) → n + 0 ≡ 0 + n
    plus n = omega arith
offset-next (n ∷ ns) (suc i) h = let r = offset-next ns i (omega (arith, h)) in omega (arith, r)

-- the channel at a place comes before the places of the next process
pub channel-within : (n : Inside) → IsSound n → (offsets : List ℕ) → offsets ≡ n.offsets.items → (i place : ℕ) → i < length n.plan.places → place < get_or n.plan.places i 0 → get_or offsets i 0 + place < get_or offsets (i + 1) 0
channel-within n w offsets e i place h l =
    let a = ap (λ v. get_or v i 0) e ∙ offset-at n w i (omega (arith, h)) in
    let b = ap (λ v. get_or v (i + 1) 0) e ∙ ap (λ j. get_or n.offsets.items j 0) (add-one i) ∙ offset-at n w (suc i) (omega (arith, h)) in
    let c = offset-next n.plan.places i h in
    omega (arith, a, b, c, l)

get-there : {A : Type 0} (xs : List A) (i : ℕ) (x : A) → get xs i ≡ Some x → i < length xs
get-there [] i x e = absurd (cc)
get-there (y ∷ xs) zero x e = omega arith
get-there (y ∷ xs) (suc i) x e = let r = get-there xs i x e in omega (arith, r)

pub target-there : (ts : List Target) (places : List ℕ) (channels c : ℕ) → AreTargets places channels ts → c < channels → c < length ts
target-there ts places channels c a h = let l = get-there (map target_of ts) c (meetings.target_from 0 places c) (a c h) in let n = length-map ts target_of in omega (arith, l, n)

pub target-is : (ts : List Target) (places : List ℕ) (channels c : ℕ) (t : Target) → AreTargets places channels ts → c < channels → t ≡ get_or ts c t → target_of t ≡ meetings.target_from 0 places c
target-is ts places channels c t a h e = some-is (target_of t) (meetings.target_from 0 places c) (sym (read ts c t (target-there ts places channels c a h) e) ∙ a c h)
  where
    some-is : (x y : meetings.Target) → Option.Some x ≡ Option.Some y → x ≡ y
    some-is x y e = cc

    read : (ts : List Target) (c : ℕ) (t : Target) → c < length ts → t ≡ get_or ts c t → get (map target_of ts) c ≡ Some (target_of t)
    read [] c t l e = absurd (omega (arith, l))
    read (u ∷ ts) zero t l e = ap (λ v. Option.Some (target_of v)) (sym e)
    read (u ∷ ts) (suc c) t l e = read ts c t (omega (arith, l)) e

pub fan-is : (n : Inside) (p : Processes) → IsSound n → seen_plan n ≡ p → (process port : ℕ) (fan : List ℕ) → process < length p.plan.net.places → fan ≡ fan_at (fans_in n.fans.items) process port → fan ≡ channels_from 0 (Output process port) p.plan.net.sources
fan-is n p w v process port fan h e = e ∙ w.fans (Output process port) (let l = ap (λ (x : Processes). length x.plan.net.places) v in omega (arith, l, h)) ∙ ap (λ (x : Processes). channels_from 0 (Output process port) x.plan.net.sources) v

pub own-fan-is : (n : Inside) (p : Processes) → IsSound n → seen_plan n ≡ p → (count port : ℕ) (fan : List ℕ) → count ≡ length n.plan.places → fan ≡ fan_at (fans_in n.fans.items) count port → fan ≡ channels_from 0 (Own port) p.plan.net.sources
own-fan-is n p w v count port fan c e = e ∙ ap (λ k. fan_at (fans_in n.fans.items) k port) c ∙ w.fans (Own port) tt ∙ ap (λ (x : Processes). channels_from 0 (Own port) x.plan.net.sources) v
