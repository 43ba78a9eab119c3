-- Where a composite of any director may be left off: between two firings of its children, and within one.
use Rattle.std.proofs.Common.{◌≡◌, ℕ, zero, suc, ◌+◌, ◌<◌, List, [], ◌∷◌, Bool, true, false, length, Option, Some, None, refl, sym, ap, ap₂, subst, arith, ◌∙◌, append-nil}
use Rattle.std.proofs.Math.Path.{fun_ext}
use Rattle.pt_meaning.specs.Tag.{Tag}
use Rattle.pt_meaning.specs.Streams.{Streams, get}
use Rattle.pt_meaning.specs.Log.{Log, LogBelow, silent, log_then}
use Rattle.pt_meaning.specs.Machine.{Fault}
use Rattle.pt_meaning.specs.Meetings.{Meets, below_child}
use Rattle.pt_meaning.specs.Children.{Child, numbered, child_facts}
use Rattle.pt_meaning.specs.Tree.{Rows, Core, Past, Node, Nodes, list_of, height, heights}
use Rattle.pt_meaning.specs.NodeFacts.{facts_of}
use Rattle.pt_meaning.specs.Asked as asked
use Rattle.pt_meaning.specs.Closed.{Begun, is_modal, IsTagBelow}
use Rattle.pt_laws.specs.CompositeRuns.{steps_below}
use Rattle.pt_laws.specs.Explained.{IsTakenWell}
use Rattle.pt_laws.specs.LogsOfRuns.{log_in, log_at, logs_then}
use Rattle.pt_laws.proofs.HeightLaws.{levels-agree}
use Rattle.pt_records.specs.Middle.{IsLeft, IsLeftAt, IsBetween, IsIn, below_place, PausesAreShut}
use Rattle.pt_records.proofs.MiddleShut.{middle-is-shut}

-- the child of that number
same : ℕ → ℕ → Bool
same zero zero = true
same zero (suc j) = false
same (suc i) zero = false
same (suc i) (suc j) = same i j

same-true : (i j : ℕ) → same i j ≡ true → i ≡ j
unfolding same
same-true zero zero e = refl
same-true zero (suc j) e = absurd (cc)
same-true (suc i) zero e = absurd (cc)
same-true (suc i) (suc j) e = ap (λ n. suc n) (same-true i j e)

same-far : (i j : ℕ) → i < j → same i j ≡ false
unfolding same
same-far zero zero o = absurd (omega (arith, o))
same-far zero (suc j) o = refl
same-far (suc i) zero o = absurd (omega (arith, o))
same-far (suc i) (suc j) o = same-far i j (omega (arith, o))

same-self : (i : ℕ) → same i i ≡ true
unfolding same
same-self zero = refl
same-self (suc i) = same-self i

rest_if : {T : Type 0} → Bool → Log T → Log T
rest_if true l = l
rest_if false l = silent

begun_if : {T : Type 0} → Bool → Begun T → Option (Begun T)
begun_if true b = Some b
begun_if false b = None

at_if : Bool → Option Fault → Option Fault
at_if true place = place
at_if false place = None

log-at-then : {T : Type 0} (i j : ℕ) (l : Log T) (ls : List (Log T)) → i < length ls → log_at (logs_then i l ls) j ≡ log_then (log_at ls j) (rest_if (same i j) l)
unfolding same rest_if
log-at-then i j l [] o = absurd (omega (arith, o))
log-at-then zero zero l (m ∷ ls) o = refl
log-at-then zero (suc j) l (m ∷ ls) o = sym (fun_ext (λ p. append-nil (log_at ls j p)))
log-at-then (suc i) zero l (m ∷ ls) o = sym (fun_ext (λ p. append-nil (m p)))
log-at-then (suc i) (suc j) l (m ∷ ls) o = log-at-then i j l ls (omega (arith, o))

numbered-there : {S : Type 0} (b i : ℕ) (ss : List S) (s : S) → get ss i ≡ Some s → get (numbered b ss) i ≡ Some (record { number = b + i; node = s })
numbered-there b i [] s e = absurd (cc)
numbered-there {S} b zero (x ∷ ss) s e =
    let same_state : x ≡ s = cc in let a : b ≡ b + 0 = omega arith in ap₂ (λ (n : ℕ) (y : S). let c : Child S = record { number = n; node = y } in Option.Some c) a same_state
numbered-there {S} b (suc i) (x ∷ ss) s e = let a : suc b + i ≡ b + suc i = omega arith in numbered-there (suc b) i ss s e ∙ ap (λ (n : ℕ). let c : Child S = record { number = n; node = s } in Option.Some c) a

get-within : {S : Type 0} (ss : List S) (i : ℕ) (s : S) → get ss i ≡ Some s → i < length ss
get-within [] i s e = absurd (cc)
get-within (x ∷ ss) zero s e = omega arith
get-within (x ∷ ss) (suc i) s e = let r = get-within ss i s e in omega (arith, r)

module _ {T A : Type 0} (rows : Rows T A) (k : ℕ) (m : Meets) (tag : Tag) (h : Past) (state : Core T) (kids : Nodes T A) (inputs : Streams T) (now : List (Node T A)) (ls : List (Log T)) (b : IsBetween rows k m tag state kids inputs now ls) where
  -- none is begun
  left-between : IsLeftAt rows k m tag h state kids inputs (numbered 0 now) ls ls (λ i. None) (λ i. None) None (λ i. silent)
  left-between = record {
    turns = b.turns;
    made = b.made;
    none = b.none;
    joined = λ i. sym (fun_ext (λ q. append-nil (log_at ls i q)));
    ends = λ i z e. (refl, refl);
    beyond = λ i g. (refl, refl, refl);
    tagged = λ i x e. absurd (none-some x e);
    takes = b.takes;
    asks = λ i z x g e. absurd (none-some x e);
    placed = λ f e. absurd (none-placed f e);
  }
    where
      none-some : (x : Begun T) → None ≡ Some x → ⊥
      none-some x e = cc

      none-placed : (f : Fault) → None ≡ Some f → ⊥
      none-placed f e = cc

  -- child i is asked for a firing, which it doesn't finish
  module _ (i : ℕ) (child : Node T A) (when : Tag) (got : Streams T) (place : Option Fault) (inside : Log T) (x : IsIn rows k m tag h state kids inputs now ls b.turns i child when got place inside) where
    abbrev asked_for : Begun T
    asked_for = record { tag = when; inputs = got }

    abbrev its : Child (Node T A)
    its = record { number = 0 + i; node = child }

    in-now : i < length now
    in-now = get-within now i child x.there

    takes-one : (j q : ℕ) (c : Bool) → same i j ≡ c → IsTakenWell (child_facts (facts_of rows)) state (numbered 0 (list_of kids)) inputs b.turns (λ n. begun_if c asked_for) tag j q
    unfolding begun_if
    takes-one j q true e = subst (λ n. IsTakenWell (child_facts (facts_of rows)) state (numbered 0 (list_of kids)) inputs b.turns (λ j. Some asked_for) tag n q) (same-true i j e) (x.takes q)
    takes-one j q false e = b.takes j q

    tagged-one : (c : Bool) (y : Begun T) → begun_if c asked_for ≡ Some y → IsTagBelow (is_modal state) tag y.tag
    unfolding begun_if
    tagged-one true y e = subst (λ (z : Begun T). IsTagBelow (is_modal state) tag z.tag) (some-begun e) x.at_tag
      where
        some-begun : Some asked_for ≡ Some y → asked_for ≡ y
        some-begun e = cc
    tagged-one false y e = absurd (cc)

    beyond-one : (j : ℕ) → i < j → (rest_if (same i j) inside ≡ silent) × (begun_if (same i j) asked_for ≡ None) × (at_if (same i j) place ≡ None)
    unfolding begun_if rest_if at_if
    beyond-one j o = let e = same-far i j o in (ap (λ b. rest_if b inside) e, ap (λ b. begun_if b asked_for) e, ap (λ b. at_if b place) e)

    -- the place is one of child i
    placed-one : (f : Fault) (o : Option Fault) → below_place i o ≡ Some f → (j : ℕ) × (g : Fault) × (at_if (same i j) o ≡ Some g) × (f ≡ record { path = j ∷ g.path; firing = g.firing; code = g.code })
    unfolding at_if
    placed-one f None e = absurd (cc)
    placed-one f (Some g) e = (i, g, ap (λ b. at_if b (Some g)) (same-self i), sym (some-fault e))
      where
        some-fault : Some (record { path = i ∷ g.path; firing = g.firing; code = g.code }) ≡ Some f → record { path = i ∷ g.path; firing = g.firing; code = g.code } ≡ f
        some-fault e = cc

    ends-one : (j : ℕ) (z : Child (Node T A)) → get (numbered 0 now) j ≡ Some z → (c : Bool) → same i j ≡ c → IsLeft rows k (heights kids) m z (begun_if c asked_for) (at_if c place) (rest_if c inside)
    unfolding begun_if rest_if at_if
    ends-one j z g false e = (refl, refl)
    ends-one j z g true e = subst (λ (y : Child (Node T A)). IsLeft rows k (heights kids) m y (Some asked_for) place inside) (some-child (sym (numbered-there 0 i now child x.there) ∙ ap (λ n. get (numbered 0 now) n) (same-true i j e) ∙ g)) at_it
      where
        some-child : Some its ≡ Some z → its ≡ z
        some-child e = cc

        at_it : IsLeft rows k (heights kids) m its (Some asked_for) place inside
        at_it =
            let zero_i : i ≡ 0 + i = omega arith in
            subst (λ (n : ℕ). let y : Child (Node T A) = record { number = n; node = child } in IsLeft rows k (heights kids) m y (Some asked_for) place inside) zero_i (
              x.shut,
              x.low,
              subst (λ (o : Log T). LogBelow inside o) (ap (λ o. log_in o) (levels-agree rows k (height child) (heights kids) (below_child i m) when child got (omega arith) x.low)) x.below,
            )

    -- child i is asked for it
    asks-one : (j : ℕ) (z : Child (Node T A)) (y : Begun T) → get (numbered 0 now) j ≡ Some z → (c : Bool) → same i j ≡ c → begun_if c asked_for ≡ Some y →
        asked.IsAsked (child_facts (facts_of rows)) (steps_below rows k (heights kids) m) (m [] h.made) h.made state (numbered 0 (list_of kids)) tag inputs j z y.tag y.inputs
    unfolding begun_if
    asks-one j z y g false e w = absurd (cc)
    asks-one j z y g true e w =
        subst (λ (v : Begun T). asked.IsAsked (child_facts (facts_of rows)) (steps_below rows k (heights kids) m) (m [] h.made) h.made state (numbered 0 (list_of kids)) tag inputs j z v.tag v.inputs) (same-begun w)
        (subst (λ n. asked.IsAsked (child_facts (facts_of rows)) (steps_below rows k (heights kids) m) (m [] h.made) h.made state (numbered 0 (list_of kids)) tag inputs n z when got) (same-true i j e)
        (subst (λ (c : Child (Node T A)). asked.IsAsked (child_facts (facts_of rows)) (steps_below rows k (heights kids) m) (m [] h.made) h.made state (numbered 0 (list_of kids)) tag inputs i c when got) same-child x.asks))
      where
        same-begun : Some asked_for ≡ Some y → asked_for ≡ y
        same-begun w = cc

        some-child : Some its ≡ Some z → its ≡ z
        some-child e = cc

        same-child : record { number = i; node = child } ≡ z
        same-child =
            let zero_i : i ≡ 0 + i = omega arith in
            ap (λ (n : ℕ). let y : Child (Node T A) = record { number = n; node = child } in y) zero_i ∙ some-child (sym (numbered-there 0 i now child x.there) ∙ ap (λ n. get (numbered 0 now) n) (same-true i j e) ∙ g)

    left-within : IsLeftAt rows k m tag h state kids inputs (numbered 0 now) ls (logs_then i inside ls) (λ j. begun_if (same i j) asked_for) (λ j. at_if (same i j) place) (below_place i place) (λ j. rest_if (same i j) inside)
    left-within = record {
      turns = b.turns;
      made = b.made;
      none = b.none;
      joined = λ j. log-at-then i j inside ls (omega (arith, in-now, b.count, b.logged));
      ends = λ j z g. ends-one j z g (same i j) refl;
      beyond = λ j g. beyond-one j (omega (arith, g, in-now, b.count));
      tagged = λ j y e. tagged-one (same i j) y e;
      takes = λ j q. takes-one j q (same i j) refl;
      asks = λ j z y g e. asks-one j z y g (same i j) refl e;
      placed = λ f e. placed-one f place e;
    }

pub pauses-are-shut : {T A : Type 0} → PausesAreShut T A
pauses-are-shut = record {
  between = λ rows law m tag h start state kids inputs now ls k₀ x. middle-is-shut rows law m tag h start state kids inputs (numbered 0 now) ls ls (λ i. None) (λ i. None) None (λ i. silent) k₀
      (λ fits k o. left-between rows k m tag h state kids inputs now ls (x fits k o));
  within = λ rows law m tag h start state kids inputs now ls i child when got place inside k₀ x. middle-is-shut rows law m tag h start state kids inputs (numbered 0 now) ls (logs_then i inside ls) (λ j. begun_if (same i j) (record { tag = when; inputs = got })) (λ j. at_if (same i j) place) (below_place i place) (λ j. rest_if (same i j) inside) k₀
      (λ fits k o. let y = x fits k o in left-within rows k m tag h state kids inputs now ls y.0 i child when got place inside y.1);
}
