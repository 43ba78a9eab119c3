-- What a Modal logs, by the logs of its children, and what its calls leave as it is.
use Rattle.std.proofs.Common.{◌≡◌, ℕ, zero, suc, ◌+◌, ◌<◌, List, [], ◌∷◌, Bool, true, false, nat_eq, length, map, set, Option, Some, None, if◌then◌else◌, refl, sym, ap, ap₂, subst, ◌∙◌, arith}
use Rattle.std.proofs.lemmas.Bool.Decides.{nat_tests}
use Rattle.std.proofs.Math.Path.{fun_ext}
use Rattle.pt_meaning.specs.Streams.{IsPrefix, Streams, at, get}
use Rattle.pt_meaning.specs.Log.{Log, LogBelow, Path, silent, log_below}
use Rattle.pt_meaning.specs.Machine.{Outcome}
use Rattle.pt_meaning.specs.Net.{Inside}
use Rattle.pt_meaning.specs.Modal.{Chart, Modes, Choice, Nothing, One, Wrong, Acted, Acts, Fails, chosen, picked, below_number, unfired_outputs}
use Rattle.pt_meaning.specs.Children.{Child, numbered}
use Rattle.pt_meaning.specs.Closed.{as_own}
use Rattle.pt_laws.specs.Explained.{Turned, gives_in}
use Rattle.pt_laws.specs.LogsOfRuns.{silents, logs_then, log_at, log_in}
use Rattle.pt_laws.proofs.Order.{IsPrefix-refl}
use Rattle.pt_modal_laws.specs.State.{Stage, Idle, Due, Asked, Resets, Over, Closed, Failed, ModalState, stage_after, pared, chart_in, after_taken, after_chosen, after_given, after_calm, after_preemptive}
use Rattle.pt_modal_laws.specs.Chain.{IsKnownIn}
use Rattle.pt_modal_laws.specs.ModalActs.{MayAsk}

-- lists of children
pub numbered-get : {S : Type 0} (b i n : ℕ) (ss : List S) (s : S) → n ≡ b + i → get ss i ≡ Some s → get (numbered b ss) i ≡ Some (record { number = n; node = s })
numbered-get b i n [] s h e = absurd (cc)
numbered-get {S} b zero n (x ∷ ss) s h e =
    let same : x ≡ s = cc in let a : b ≡ n = omega (arith, h) in ap₂ (λ (v : ℕ) (y : S). let c : Child S = record { number = v; node = y } in Option.Some c) a same
numbered-get b (suc i) n (x ∷ ss) s h e = numbered-get (suc b) i n ss s (omega (arith, h)) e

pub map-set : {B C : Type 0} (f : B → C) (xs : List B) (i : ℕ) (x : B) → set (map f xs) i (f x) ≡ map f (set xs i x)
map-set f [] i x = refl
map-set f (y ∷ xs) zero x = refl
map-set f (y ∷ xs) (suc i) x = ap (λ ys. f y ∷ ys) (map-set f xs i x)

-- logs of children of which one has logged
pub silents-below : {T S : Type 0} (ss : List S) → log_below (silents {T = T} ss) ≡ silent
silents-below {T} ss = fun_ext one
  where
    below : {R : Type 0} (rs : List R) (j : ℕ) (p : Path) → log_below (silents {T = T} rs) (j ∷ p) ≡ []
    below [] j p = refl
    below (r ∷ rs) zero p = refl
    below (r ∷ rs) (suc j) p = below rs j p

    one : (p : Path) → log_below (silents {T = T} ss) p ≡ silent {T = T} p
    one [] = refl
    one (j ∷ p) = below ss j p

pub silents-at : {T S : Type 0} (ss : List S) (j : ℕ) → log_at (silents {T = T} ss) j ≡ silent
silents-at [] j = refl
silents-at (s ∷ ss) zero = refl
silents-at (s ∷ ss) (suc j) = silents-at ss j

pub silents-long : {S : Type 0} (T : Type 0) (ss : List S) → length (silents {T = T} ss) ≡ length ss
silents-long T [] = refl
silents-long T (s ∷ ss) = ap (λ n. suc n) (silents-long T ss)

nat-below : (i j : ℕ) → nat_eq (suc i) (suc j) ≡ nat_eq i j
nat-below i j = grind (arith, nat_tests)

zero-not : (j : ℕ) → nat_eq 0 (suc j) ≡ false
zero-not j = grind (arith, nat_tests)

suc-not : (i : ℕ) → nat_eq (suc i) 0 ≡ false
suc-not i = grind (arith, nat_tests)

one-below : {T S : Type 0} (i j : ℕ) (l : Log T) (ss : List S) (p : Path) → i < length ss → (if nat_eq i j then l p else []) ≡ log_below (logs_then i l (silents ss)) (j ∷ p)
one-below i j l [] p h = absurd (omega (arith, h))
one-below zero zero l (s ∷ ss) p h = refl
one-below {T} zero (suc j) l (s ∷ ss) p h = rw (zero-not j) (sym (ap (λ (m : Log T). m (j ∷ p)) (silents-below ss)))
one-below (suc i) zero l (s ∷ ss) p h = rw (suc-not i) refl
one-below (suc i) (suc j) l (s ∷ ss) p h = ap (λ b. if b then l p else []) (nat-below i j) ∙ one-below i j l ss p (omega (arith, h))

pub number-below : {T S : Type 0} (i : ℕ) (l : Log T) (ss : List S) → i < length ss → below_number i l ≡ log_below (logs_then i l (silents ss))
number-below {T} i l ss h = fun_ext one
  where
    one : (p : Path) → below_number i l p ≡ log_below (logs_then i l (silents ss)) p
    one [] = refl
    one (j ∷ p) = one-below i j l ss p h

pub number-grows : {T : Type 0} (i : ℕ) (l m : Log T) → LogBelow l m → LogBelow (below_number i l) (below_number i m)
number-grows i l m g [] = tt
number-grows i l m g (j ∷ p) = by (nat_eq i j)
  where
    by : (b : Bool) → IsPrefix (if b then l p else []) (if b then m p else [])
    by true = g p
    by false = tt

-- what a refinement takes came through the own inputs of its ports
pub picked-exact : {T : Type 0} (ps : List ℕ) (inputs : Streams T) (q : ℕ) (ts : ℕ → List (Turned T)) → IsPrefix (at (picked ps inputs) q) (gives_in inputs ts (as_own (get ps q)))
picked-exact [] inputs q ts = tt
picked-exact (p ∷ ps) inputs zero ts = IsPrefix-refl (at inputs p)
picked-exact (p ∷ ps) inputs (suc q) ts = picked-exact ps inputs q ts

pub picked-long : {T : Type 0} (ps : List ℕ) (inputs : Streams T) → length (picked ps inputs) ≡ length ps
picked-long [] inputs = refl
picked-long (p ∷ ps) inputs = ap (λ n. suc n) (picked-long ps inputs)

-- stages
pub due-number : (i j : ℕ) → Due i ≡ Due j → i ≡ j
due-number i j e = ap (λ s. number_of s) e
  where
    number_of : Stage → ℕ
    number_of Idle = 0
    number_of (Due n) = n
    number_of (Asked n) = n
    number_of (Resets n) = n
    number_of Over = 0
    number_of Closed = 0
    number_of (Failed n) = n

-- where it is known what a reaction comes to, what comes next may be asked for, and what is logged is known
module _ {T S : Type 0} (reset : S → S) (made : ℕ) (modes : Modes T) (out : Streams T) (kids : List S) (l : Log T) (r : Outcome T (Inside (Modes T) S)) where
  pub known-asks : (stage : Stage) → IsKnownIn reset made modes out kids l r stage → MayAsk stage
  known-asks Idle k = absurd k
  known-asks (Due i) k = absurd k
  known-asks (Asked i) k = absurd k
  known-asks (Resets i) k = tt
  known-asks Over k = tt
  known-asks Closed k = absurd k
  known-asks (Failed code) k = tt

  pub known-log : (stage : Stage) → IsKnownIn reset made modes out kids l r stage → log_in r ≡ l
  known-log Idle k = absurd k
  known-log (Due i) k = absurd k
  known-log (Asked i) k = absurd k
  known-log (Resets i) k = ap (λ v. log_in v) k
  known-log Over k = ap (λ v. log_in v) k
  known-log Closed k = absurd k
  known-log (Failed code) k = ap (λ v. log_in v) k

  pub never-due : (i : ℕ) (stage : Stage) → IsKnownIn reset made modes out kids l r stage → stage ≡ Due i → ⊥
  never-due i stage k e = subst (λ t. IsKnownIn reset made modes out kids l r t) e k

-- tests of guards and a transition change neither the plan nor the wakes, and only the refinement of a mode is to be reset
pub record Keeps {T M : Type 0} (reads : M → Chart T) (s t : ModalState T M) : Type 0 where
  pub plan : t.plan ≡ s.plan
  pub wakes : t.wakes ≡ s.wakes
  pub reset : (i : ℕ) → t.stage ≡ Resets i → (mode : ℕ) × ((chart_in reads s).refinement mode ≡ Some i)

after-resets : (keeps : Bool) (o : Option ℕ) (i : ℕ) → stage_after keeps o ≡ Resets i → o ≡ Some i
after-resets true None i e = absurd (cc)
after-resets false None i e = absurd (cc)
after-resets true (Some j) i e = absurd (cc)
after-resets false (Some j) i e = ap (λ (s : Stage). Option.Some (number_of s)) e
  where
    number_of : Stage → ℕ
    number_of Idle = 0
    number_of (Due n) = n
    number_of (Asked n) = n
    number_of (Resets n) = n
    number_of Over = 0
    number_of Closed = 0
    number_of (Failed n) = n

failed-resets : (code i : ℕ) → Failed code ≡ Resets i → ⊥
failed-resets code i e = cc

over-resets : (i : ℕ) → Over ≡ Resets i → ⊥
over-resets i e = cc

due-resets : (j i : ℕ) → Due j ≡ Resets i → ⊥
due-resets j i e = cc

-- after a transition what comes next may be asked for
asks-after : (keeps : Bool) (o : Option ℕ) → MayAsk (stage_after keeps o)
asks-after true None = tt
asks-after false None = tt
asks-after true (Some i) = tt
asks-after false (Some i) = tt

module _ {T M : Type 0} (reads : M → Chart T) where
  taken-keeps : (early : Bool) (n : ℕ) (a : Acted T) (s : ModalState T M) → Keeps reads s (after_taken reads early n a s)
  taken-keeps early n (Fails code) s = record { plan = refl; wakes = refl; reset = λ i e. absurd (failed-resets code i e) }
  taken-keeps early n (Acts out values) s = record {
    plan = refl;
    wakes = refl;
    reset = λ i e. ((chart_in reads s).target early s.modes.mode n, after-resets ((chart_in reads s).keeps_history early s.modes.mode n) ((chart_in reads s).refinement ((chart_in reads s).target early s.modes.mode n)) i e);
  }

  chosen-keeps : (given : Streams T) (c : Choice) (s : ModalState T M) → Keeps reads s (after_chosen reads given c s)
  chosen-keeps given Nothing s = record { plan = refl; wakes = refl; reset = λ i e. absurd (over-resets i e) }
  chosen-keeps given (One n) s = taken-keeps false n ((chart_in reads s).act false s.modes.mode n s.modes.values s.inputs given) s
  chosen-keeps given (Wrong code) s = record { plan = refl; wakes = refl; reset = λ i e. absurd (failed-resets code i e) }

  pub given-keeps : (given : Streams T) (s : ModalState T M) → Keeps reads s (after_given reads given s)
  given-keeps given s = chosen-keeps given (chosen 0 ((chart_in reads s).others s.modes.mode s.modes.values s.inputs given)) s

  calm-keeps : (o : Option ℕ) (s : ModalState T M) → Keeps reads s (after_calm reads o s)
  calm-keeps None s = given-keeps (unfired_outputs (chart_in reads s)) s
  calm-keeps (Some j) s = record { plan = refl; wakes = refl; reset = λ i e. absurd (due-resets j i e) }

  pub preemptive-keeps : (c : Choice) (s : ModalState T M) → Keeps reads s (after_preemptive reads c s)
  preemptive-keeps Nothing s = calm-keeps ((chart_in reads s).refinement s.modes.mode) s
  preemptive-keeps (One n) s = taken-keeps true n ((chart_in reads s).act true s.modes.mode n s.modes.values s.inputs (unfired_outputs (chart_in reads s))) s
  preemptive-keeps (Wrong code) s = record { plan = refl; wakes = refl; reset = λ i e. absurd (failed-resets code i e) }

  pub pared-keeps : (s t : ModalState T M) → Keeps reads s t → Keeps reads s (pared t)
  pared-keeps s t k = record { plan = k.plan; wakes = k.wakes; reset = k.reset }

  -- and it may be asked what comes next
  taken-asks : (early : Bool) (n : ℕ) (a : Acted T) (s : ModalState T M) → MayAsk (after_taken reads early n a s).stage
  taken-asks early n (Fails code) s = tt
  taken-asks early n (Acts out values) s = asks-after ((chart_in reads s).keeps_history early s.modes.mode n) ((chart_in reads s).refinement ((chart_in reads s).target early s.modes.mode n))

  chosen-asks : (given : Streams T) (c : Choice) (s : ModalState T M) → MayAsk (after_chosen reads given c s).stage
  chosen-asks given Nothing s = tt
  chosen-asks given (One n) s = taken-asks false n ((chart_in reads s).act false s.modes.mode n s.modes.values s.inputs given) s
  chosen-asks given (Wrong code) s = tt

  pub given-asks : (given : Streams T) (s : ModalState T M) → MayAsk (after_given reads given s).stage
  given-asks given s = chosen-asks given (chosen 0 ((chart_in reads s).others s.modes.mode s.modes.values s.inputs given)) s
