-- Own inputs and outputs, one by one.
use Rattle.std.proofs.Common.{◌≡◌, ◌⊎◌, inl, inr, ℕ, zero, suc, ◌+◌, ◌<◌, ◌≤◌, List, [], ◌∷◌, ◌++◌, Bool, true, false, nat_eq, length, set, take, get_or, replicate, Result, Ok, Err, OnOk, OnErr, refl, sym, ap, ap₂, subst, ◌∙◌, arith, add-one}
use Rattle.std.proofs.lemmas.List.{length-map}
use Rattle.std.proofs.lemmas.Bool.Decides.{nat_tests}
use Rattle.pt_meaning.specs.Streams.{Streams, at, change_at}
use Rattle.pt_meaning.specs.Net.{Source, Own}
use Rattle.pt_meaning.specs.Process.{Put, rest_of, puts_of_port, channels_from}
use Rattle.pt_meaning.specs.Rendezvous.{arriving}
use Rattle.pt_value.specs.declared.token.Token.{Token}
use Rattle.pt_reaction.specs.Spared.{Spared}
use Rattle.pt_pn_laws.proofs.ListLaws.{either-nat, nat-apart}
use Rattle.pt_puts.specs.declared.puts.StagedPut.{StagedPut}
use Rattle.pt_puts.specs.Puts.{put_of, puts_in}
use Rattle.pt_rv_plan.specs.Ends.{Arriving}
use Rattle.pt_rv.specs.Ends.{PromisedMore, comings_of, arrived_in, no_inlet}
use Rattle.pt_rv.specs.Parties.{inputs_of, outputs_of, weight_of, each, on, one_if, spare_at}
use Rattle.pt_rv.proofs.WeightLaws.{weights-append}

-- own inputs
pub input-at : (is : List Arriving) (j : ℕ) (i : Arriving) → j < length is → i ≡ get_or is j i → at (inputs_of is) j ≡ i.puts
input-at [] j i h e = absurd (omega (arith, h))
input-at (x ∷ is) zero i h e = ap (λ (v : Arriving). v.puts) (sym e)
input-at (x ∷ is) (suc j) i h e = input-at is j i (omega (arith, h)) e

pub input-set : (is : List Arriving) (j : ℕ) (i k : Arriving) → j < length is → i ≡ get_or is j i → k.puts ≡ rest_of i.puts → inputs_of (set is j k) ≡ change_at j rest_of (inputs_of is)
input-set [] j i k h e f = absurd (omega (arith, h))
input-set (x ∷ is) zero i k h e f = ap (λ v. v ∷ inputs_of is) (f ∙ ap (λ (v : Arriving). rest_of v.puts) e)
input-set (x ∷ is) (suc j) i k h e f = ap (λ v. x.puts ∷ v) (input-set is j i k (omega (arith, h)) e f)

pub input-same : (is : List Arriving) (j : ℕ) (i k : Arriving) → i ≡ get_or is j i → k.puts ≡ i.puts → inputs_of (set is j k) ≡ inputs_of is
input-same [] j i k e f = refl
input-same (x ∷ is) zero i k e f = ap (λ v. v ∷ inputs_of is) (f ∙ ap (λ (v : Arriving). v.puts) e)
input-same (x ∷ is) (suc j) i k e f = ap (λ v. x.puts ∷ v) (input-same is j i k e f)

pub inlet-here : (is : List Arriving) (j : ℕ) (k d : Arriving) → j < length is → get_or (set is j k) j d ≡ k
inlet-here [] j k d h = absurd (omega (arith, h))
inlet-here (x ∷ is) zero k d h = refl
inlet-here (x ∷ is) (suc j) k d h = inlet-here is j k d (omega (arith, h))

pub inlet-other : (is : List Arriving) (j i : ℕ) (k d : Arriving) → nat_eq j i ≡ false → get_or (set is j k) i d ≡ get_or is i d
inlet-other [] j i k d e = refl
inlet-other (x ∷ is) zero zero k d e = absurd (cc)
inlet-other (x ∷ is) zero (suc i) k d e = refl
inlet-other (x ∷ is) (suc j) zero k d e = refl
inlet-other (x ∷ is) (suc j) (suc i) k d e = inlet-other is j i k d (next j i e)
  where
    next : (c d : ℕ) → nat_eq (suc c) (suc d) ≡ false → nat_eq c d ≡ false
    next c d e = grind (arith, nat_tests)

pub inputs-long : (is : List Arriving) → length (inputs_of is) ≡ length is
inputs-long is = length-map is (λ (i : Arriving). i.puts)

-- what is to come to one more
pub coming-more : (sources : List Source) (X : Streams Token) (before after : List Arriving) (k : ℕ) → ((j : ℕ) → j < k → (get_or before j no_inlet).coming ≡ puts_of_port (channels_from 0 (Own j) sources) (at X j)) → (get_or after k no_inlet).coming ≡ puts_of_port (channels_from 0 (Own k) sources) (at X k) →
    ((j : ℕ) → nat_eq k j ≡ false → get_or after j no_inlet ≡ get_or before j no_inlet) → (j : ℕ) → j < k + 1 → (get_or after j no_inlet).coming ≡ puts_of_port (channels_from 0 (Own j) sources) (at X j)
coming-more sources X before after k h e o j l = by (either-nat k j)
  where
    by : (k ≡ j) ⊎ (nat_eq k j ≡ false) → (get_or after j no_inlet).coming ≡ puts_of_port (channels_from 0 (Own j) sources) (at X j)
    by (inl z) = subst (λ i. (get_or after i no_inlet).coming ≡ puts_of_port (channels_from 0 (Own i) sources) (at X i)) z e
    by (inr z) = ap (λ (i : Arriving). i.coming) (o j z) ∙ h j (let n = nat-apart k j z in grind arith)

-- what has come is what arrives by the definitions
pub arrived-is : (sources : List Source) (X : Streams Token) (is : List Arriving) (k : ℕ) → ((j : ℕ) → j < length is → (get_or is j no_inlet).coming ≡ puts_of_port (channels_from 0 (Own (k + j)) sources) (at X (k + j))) → arrived_in is ≡ arriving sources k (inputs_of is) X
arrived-is sources X [] k h = refl
arrived-is sources X (i ∷ is) k h =
    ap₂ (λ v w. (i.puts ++ v) ∷ w) (h 0 (omega arith) ∙ ap (λ j. puts_of_port (channels_from 0 (Own j) sources) (at X j)) (plus k))
    (arrived-is sources X is (suc k) (λ j l. h (suc j) (omega (arith, l)) ∙ ap (λ n. puts_of_port (channels_from 0 (Own n) sources) (at X n)) (moved k j)))
  where
    plus : (k : ℕ) → k + 0 ≡ k
    plus k = omega arith

    moved : (k j : ℕ) → k + suc j ≡ suc k + j
    moved k j = omega arith

-- own outputs
pub output-put : (os : List (Spared Token)) (j : ℕ) (o n : Spared Token) (x : Token) → j < length os → o ≡ get_or os j o → n.list ≡ o.list ++ (x ∷ []) → outputs_of (set os j n) ≡ change_at j (λ xs. xs ++ (x ∷ [])) (outputs_of os)
output-put [] j o n x h e f = absurd (omega (arith, h))
output-put (y ∷ os) zero o n x h e f = ap (λ v. v ∷ outputs_of os) (f ∙ ap (λ (v : Spared Token). v.list ++ (x ∷ [])) e)
output-put (y ∷ os) (suc j) o n x h e f = ap (λ v. y.list ∷ v) (output-put os j o n x (omega (arith, h)) e f)

pub output-same : (os : List (Spared Token)) (j : ℕ) (o n : Spared Token) → o ≡ get_or os j o → n.list ≡ o.list → outputs_of (set os j n) ≡ outputs_of os
output-same [] j o n e f = refl
output-same (y ∷ os) zero o n e f = ap (λ v. v ∷ outputs_of os) (f ∙ ap (λ (v : Spared Token). v.list) e)
output-same (y ∷ os) (suc j) o n e f = ap (λ v. y.list ∷ v) (output-same os j o n e f)

pub spare-is : (os : List (Spared Token)) (j : ℕ) (o : Spared Token) → j < length os → o ≡ get_or os j o → spare_at os j ≡ o.spare
spare-is [] j o h e = absurd (omega (arith, h))
spare-is (y ∷ os) zero o h e = ap (λ (v : Spared Token). v.spare) (sym e)
spare-is (y ∷ os) (suc j) o h e = spare-is os j o (omega (arith, h)) e

-- whether two numbers are the same, by the numbers before them
zero-not : (k : ℕ) → one_if (nat_eq 0 (suc k)) ≡ 0
zero-not k = ap one_if (let e : nat_eq 0 (suc k) ≡ false = grind (arith, nat_tests) in e)

suc-not : (j : ℕ) → one_if (nat_eq (suc j) 0) ≡ 0
suc-not j = ap one_if (let e : nat_eq (suc j) 0 ≡ false = grind (arith, nat_tests) in e)

one-below : (j k : ℕ) → one_if (nat_eq (suc j) (suc k)) ≡ one_if (nat_eq j k)
one-below j k = ap one_if (let e : nat_eq (suc j) (suc k) ≡ nat_eq j k = grind (arith, nat_tests) in e)

pub spare-less : (os : List (Spared Token)) (j : ℕ) (o n : Spared Token) → j < length os → o ≡ get_or os j o → n.spare + 1 ≡ o.spare → (k : ℕ) → spare_at (set os j n) k + one_if (nat_eq j k) ≡ spare_at os k
spare-less [] j o n h e f k = absurd (omega (arith, h))
spare-less (y ∷ os) zero o n h e f zero = f ∙ ap (λ (v : Spared Token). v.spare) e
spare-less (y ∷ os) zero o n h e f (suc k) = let a = zero-not k in omega (arith, a)
spare-less (y ∷ os) (suc j) o n h e f zero = let a = suc-not j in omega (arith, a)
spare-less (y ∷ os) (suc j) o n h e f (suc k) = let a = one-below j k in let r = spare-less os j o n (omega (arith, h)) e f k in omega (arith, a, r)

pub spare-more : (os : List (Spared Token)) (j : ℕ) (o n : Spared Token) (more : ℕ) → o ≡ get_or os j o → n.spare ≡ o.spare + more → (k : ℕ) → spare_at os k ≤ spare_at (set os j n) k
spare-more [] j o n more e f k = omega arith
spare-more (y ∷ os) zero o n more e f zero = let a = ap (λ (v : Spared Token). v.spare) e in omega (arith, a, f)
spare-more (y ∷ os) zero o n more e f (suc k) = omega arith
spare-more (y ∷ os) (suc j) o n more e f zero = omega arith
spare-more (y ∷ os) (suc j) o n more e f (suc k) = spare-more os j o n more e f k

pub spare-raised : (os : List (Spared Token)) (j : ℕ) (o n : Spared Token) → j < length os → o ≡ get_or os j o → n.spare ≡ o.spare + 1 → (k : ℕ) → spare_at os k + one_if (nat_eq j k) ≤ spare_at (set os j n) k
spare-raised [] j o n h e f k = absurd (omega (arith, h))
spare-raised (y ∷ os) zero o n h e f zero = let a = ap (λ (v : Spared Token). v.spare) e in omega (arith, a, f)
spare-raised (y ∷ os) zero o n h e f (suc k) = let a = zero-not k in omega (arith, a)
spare-raised (y ∷ os) (suc j) o n h e f zero = let a = suc-not j in omega (arith, a)
spare-raised (y ∷ os) (suc j) o n h e f (suc k) = let a = one-below j k in let r = spare-raised os j o n (omega (arith, h)) e f k in omega (arith, a, r)

-- room that is promised, step by step
pub promised-none : (inner : ℕ) (os : List (Spared Token)) (spare : ℕ) → PromisedMore inner os os spare spare []
promised-none inner os spare = record { counted = refl; rooms = λ o l. plus (spare_at os o); meets = plus spare }
  where
    plus : (n : ℕ) → n + 0 ≤ n
    plus n = omega arith

pub promised-then : (inner : ℕ) (os ps qs : List (Spared Token)) (a b c : ℕ) (X Y Z : List (List (Put Token))) → Z ≡ X ++ Y → PromisedMore inner os ps a b X → PromisedMore inner ps qs b c Y → PromisedMore inner os qs a c Z
promised-then inner os ps qs a b c X Y Z e f g = subst (λ V. PromisedMore inner os qs a c V) (sym e) (record {
  counted = g.counted ∙ f.counted;
  rooms = λ o l.
      let h = f.counted in
      let x = f.rooms o l in
      let y = g.rooms o (omega (arith, l, h)) in
      let z = weights-append (on (inner + o)) X Y in
      omega (arith, x, y, z);
  meets =
      let x = f.meets in
      let y = g.meets in
      let z = weights-append each X Y in
      omega (arith, x, y, z);
})

-- what is to come to the own inputs, one after another
pub comings-more : (is : List Arriving) (k : ℕ) (i : Arriving) (us : List (Put Token)) → k < length is → i ≡ get_or is k i → us ≡ i.coming → comings_of (take (k + 1) is) ≡ comings_of (take k is) ++ (us ∷ [])
comings-more is k i us h e f = ap (λ j. comings_of (take j is)) (add-one k) ∙ next is k h e
  where
    next : (is : List Arriving) (k : ℕ) → k < length is → i ≡ get_or is k i → comings_of (take (suc k) is) ≡ comings_of (take k is) ++ (us ∷ [])
    next [] k h e = absurd (omega (arith, h))
    next (x ∷ is) zero h e = ap (λ v. v ∷ []) (ap (λ (v : Arriving). v.coming) (sym e) ∙ sym f)
    next (x ∷ is) (suc k) h e = ap (λ v. x.coming ∷ v) (next is k (omega (arith, h)) e)

-- one more own input or output at its start
pub empty-more : {A : Type 0} (X : List (List A)) (k : ℕ) → X ≡ replicate k [] → X ++ ([] ∷ []) ≡ replicate (k + 1) []
empty-more {A} X k e = ap (λ (v : List (List A)). v ++ ([] ∷ [])) e ∙ next k ∙ ap (λ n. let z : List (List A) = replicate n [] in z) (sym (add-one k))
  where
    next : (k : ℕ) → replicate {A = List A} k [] ++ ([] ∷ []) ≡ replicate (suc k) []
    next zero = refl
    next (suc k) = ap (λ (v : List (List A)). [] ∷ v) (next k)

pub inputs-behind : (is : List Arriving) (i : Arriving) → inputs_of (is ++ (i ∷ [])) ≡ inputs_of is ++ (i.puts ∷ [])
inputs-behind [] i = refl
inputs-behind (x ∷ is) i = ap (λ v. x.puts ∷ v) (inputs-behind is i)

pub outputs-behind : (os : List (Spared Token)) (o : Spared Token) → outputs_of (os ++ (o ∷ [])) ≡ outputs_of os ++ (o.list ∷ [])
outputs-behind [] o = refl
outputs-behind (x ∷ os) o = ap (λ v. x.list ∷ v) (outputs-behind os o)

pub weight-each : (us : List (Put Token)) → weight_of each us ≡ length us
weight-each [] = refl
weight-each (u ∷ us) = let r = weight-each us in next (weight_of each us) (length us) r
  where
    next : (a b : ℕ) → a ≡ b → 1 + a ≡ suc b
    next a b e = omega (arith, e)

-- one put more for which there is room
pub weight-more : (f : Put Token → ℕ) (us : List StagedPut) (k : ℕ) (u : StagedPut) → k < length us → u ≡ get_or us k u → weight_of f (puts_in (take (k + 1) us)) ≡ weight_of f (puts_in (take k us)) + f (put_of u)
weight-more f us k u h e = ap (λ j. weight_of f (puts_in (take j us))) (add-one k) ∙ next us k h e
  where
    next : (us : List StagedPut) (k : ℕ) → k < length us → u ≡ get_or us k u → weight_of f (puts_in (take (suc k) us)) ≡ weight_of f (puts_in (take k us)) + f (put_of u)
    next [] k h e = absurd (omega (arith, h))
    next (v ∷ us) zero h e = plus (f (put_of v)) ∙ ap (λ (x : StagedPut). 0 + f (put_of x)) (sym e)
      where
        plus : (n : ℕ) → n + 0 ≡ 0 + n
        plus n = omega arith
    next (v ∷ us) (suc k) h e = let r = next us k (omega (arith, h)) e in omega (arith, r)

pub one-apart : (a b : ℕ) → (a ≡ b → ⊥) → one_if (nat_eq a b) ≡ 0
one-apart a b h = by (nat_eq a b) refl
  where
    by : (t : Bool) → nat_eq a b ≡ t → one_if (nat_eq a b) ≡ 0
    by true e = absurd (h (grind (arith, nat_tests)))
    by false e = ap one_if e

pub one-moved : (c inner d o : ℕ) → c ≡ inner + d → one_if (nat_eq c (inner + o)) ≤ one_if (nat_eq d o)
one-moved c inner d o e = by (nat_eq d o) refl
  where
    few : (b : Bool) → one_if b ≤ 1
    few true = omega arith
    few false = omega arith

    by : (t : Bool) → nat_eq d o ≡ t → one_if (nat_eq c (inner + o)) ≤ one_if (nat_eq d o)
    by true f = let a = few (nat_eq c (inner + o)) in let b = ap one_if f in omega (arith, a, b)
    by false f = let a = one-apart c (inner + o) (λ z. let g : d ≡ o = omega (arith, z, e) in absurd (grind (arith, nat_tests))) in omega (arith, a)

-- what is promised in one step
pub promised-one : (inner : ℕ) (os ps : List (Spared Token)) (a b : ℕ) (us : List (Put Token)) → length ps ≡ length os → ((o : ℕ) → o < length os → spare_at os o + weight_of (on (inner + o)) us ≤ spare_at ps o) → b ≡ a + length us → PromisedMore inner os ps a b (us ∷ [])
promised-one inner os ps a b us n h e = record {
  counted = n;
  rooms = λ o l. let x = h o l in omega (arith, x);
  meets = let x = weight-each us in omega (arith, x, e);
}

pub promised-less : (inner : ℕ) (os ps : List (Spared Token)) (a b : ℕ) → length ps ≡ length os → ((o : ℕ) → spare_at os o ≤ spare_at ps o) → a ≤ b → PromisedMore inner os ps a b []
promised-less inner os ps a b n h e = record { counted = n; rooms = λ o l. let x = h o in omega (arith, x); meets = omega (arith, e) }

pub promised-weak : (inner : ℕ) (os ps : List (Spared Token)) (a b : ℕ) (X : List (List (Put Token))) → PromisedMore inner os ps a b X → PromisedMore inner os ps a b []
promised-weak inner os ps a b X p = record { counted = p.counted; rooms = λ o l. let x = p.rooms o l in omega (arith, x); meets = let x = p.meets in omega (arith, x) }

-- the same lists are as many
pub outputs-counted : (os ps : List (Spared Token)) → outputs_of ps ≡ outputs_of os → length ps ≡ length os
outputs-counted os ps e = sym (length-map ps (λ (o : Spared Token). o.list)) ∙ ap (λ v. length v) e ∙ length-map os (λ (o : Spared Token). o.list)

-- lists of which those before a number have changed, and those behind have not
pub arrive-more : (is before after : List Arriving) (k : ℕ) → k < length is → length before ≡ length is → ((j : ℕ) → j < k → at (inputs_of before) j ≡ at (arrived_in is) j) → ((j : ℕ) → k ≤ j → get_or before j no_inlet ≡ get_or is j no_inlet) → at (inputs_of after) k ≡ at (arrived_in before) k →
    ((j : ℕ) → nat_eq k j ≡ false → get_or after j no_inlet ≡ get_or before j no_inlet) → (j : ℕ) → j < k + 1 → at (inputs_of after) j ≡ at (arrived_in is) j
arrive-more is before after k h n f g e o j l = by (either-nat k j)
  where
    puts-at : (xs : List Arriving) (j : ℕ) → at (inputs_of xs) j ≡ (get_or xs j no_inlet).puts
    puts-at [] zero = refl
    puts-at [] (suc j) = refl
    puts-at (x ∷ xs) zero = refl
    puts-at (x ∷ xs) (suc j) = puts-at xs j

    arrived-at : (xs : List Arriving) (j : ℕ) → at (arrived_in xs) j ≡ (get_or xs j no_inlet).puts ++ (get_or xs j no_inlet).coming
    arrived-at [] zero = refl
    arrived-at [] (suc j) = refl
    arrived-at (x ∷ xs) zero = refl
    arrived-at (x ∷ xs) (suc j) = arrived-at xs j

    by : (k ≡ j) ⊎ (nat_eq k j ≡ false) → at (inputs_of after) j ≡ at (arrived_in is) j
    by (inl z) = subst (λ i. at (inputs_of after) i ≡ at (arrived_in is) i) z (e ∙ arrived-at before k ∙ ap (λ (i : Arriving). i.puts ++ i.coming) (g k (omega arith)) ∙ sym (arrived-at is k))
    by (inr z) = puts-at after j ∙ ap (λ (i : Arriving). i.puts) (o j z) ∙ sym (puts-at before j) ∙ f j (let d = nat-apart k j z in grind arith)

pub arrive-behind : (is before after : List Arriving) (k : ℕ) → ((j : ℕ) → k ≤ j → get_or before j no_inlet ≡ get_or is j no_inlet) → ((j : ℕ) → nat_eq k j ≡ false → get_or after j no_inlet ≡ get_or before j no_inlet) → (j : ℕ) → k + 1 ≤ j → get_or after j no_inlet ≡ get_or is j no_inlet
arrive-behind is before after k g o j l = by (either-nat k j)
  where
    by : (k ≡ j) ⊎ (nat_eq k j ≡ false) → get_or after j no_inlet ≡ get_or is j no_inlet
    by (inl z) = absurd (omega (arith, z, l))
    by (inr z) = o j z ∙ g j (omega (arith, l))

pub arrive-all : (is now : List Arriving) (k : ℕ) → length is ≤ k → length now ≡ length is → ((j : ℕ) → j < k → at (inputs_of now) j ≡ at (arrived_in is) j) → inputs_of now ≡ arrived_in is
arrive-all is now k l n h = same (inputs_of now) (arrived_in is) (length-map now (λ (i : Arriving). i.puts) ∙ n ∙ sym (length-map is (λ (i : Arriving). i.puts ++ i.coming))) (λ j w. h j (let e = length-map now (λ (i : Arriving). i.puts) in omega (arith, w, e, n, l)))
  where
    same : (X Y : List (List (Put Token))) → length X ≡ length Y → ((j : ℕ) → j < length X → at X j ≡ at Y j) → X ≡ Y
    same [] [] e h = refl
    same [] (y ∷ Y) e h = absurd (omega (arith, e))
    same (x ∷ X) [] e h = absurd (omega (arith, e))
    same (x ∷ X) (y ∷ Y) e h = ap₂ (λ a b. a ∷ b) (h 0 (omega arith)) (same X Y (omega (arith, e)) (λ j w. h (suc j) (omega (arith, w))))

pub arrived-set : (is : List Arriving) (k : ℕ) (i n : Arriving) → k < length is → i ≡ get_or is k i → n.puts ≡ i.puts ++ i.coming → at (inputs_of (set is k n)) k ≡ at (arrived_in is) k
arrived-set [] k i n h e f = absurd (omega (arith, h))
arrived-set (x ∷ is) zero i n h e f = f ∙ ap (λ (v : Arriving). v.puts ++ v.coming) e
arrived-set (x ∷ is) (suc k) i n h e f = arrived-set is k i n (omega (arith, h)) e f

pub spare-kept : {A E : Type 0} (os : List (Spared Token)) (j : ℕ) (o n : Spared Token) (r : Result A E) → o ≡ get_or os j o → OnOk r (n.spare ≡ o.spare + 1) → OnErr r (n.spare ≡ o.spare) → (k : ℕ) → spare_at os k ≤ spare_at (set os j n) k
spare-kept os j o n (Ok x) e f g k = spare-more os j o n 1 e f k
spare-kept os j o n (Err x) e f g k = spare-more os j o n 0 e (g ∙ plus o.spare) k
  where
    plus : (n : ℕ) → n ≡ n + 0
    plus n = omega arith

pub arrived-long : (is : List Arriving) → length (arrived_in is) ≡ length is
arrived-long is = length-map is (λ (i : Arriving). i.puts ++ i.coming)

-- what has come to the own inputs, as it was staged
pub arrived-so : (sources : List Source) (X : Streams Token) (is staged : List Arriving) → inputs_of staged ≡ inputs_of is → ((j : ℕ) → j < length staged → (get_or staged j no_inlet).coming ≡ puts_of_port (channels_from 0 (Own j) sources) (at X j)) → arrived_in staged ≡ arriving sources 0 (inputs_of is) X
arrived-so sources X is staged e h = arrived-is sources X staged 0 (λ j l. h j l ∙ ap (λ n. puts_of_port (channels_from 0 (Own n) sources) (at X n)) (plus j)) ∙ ap (λ v. arriving sources 0 v X) e
  where
    plus : (j : ℕ) → j ≡ 0 + j
    plus j = omega arith

-- what holds holds where a call succeeds
pub always-ok : {A E : Type 0} (r : Result A E) {P : Type 0} → P → OnOk r P
always-ok (Ok x) p = p
always-ok (Err e) p = tt

-- and where it fails
pub always-err : {A E : Type 0} (r : Result A E) {P : Type 0} → P → OnErr r P
always-err (Ok x) p = tt
always-err (Err e) p = p
