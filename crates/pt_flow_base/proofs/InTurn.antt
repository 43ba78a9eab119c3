-- Firings that are made one after another.
use Rattle.std.proofs.Common.{◌≡◌, ℕ, ℤ, zero, suc, ◌+◌, ◌*◌, ◌<◌, ◌≤◌, List, [], ◌∷◌, ◌++◌, length, map, take, drop, get_or, refl, ap, sym, subst, ◌∙◌, arith, add-one}
use Rattle.std.proofs.Math.Nat.{mul-le-mul_right}
use Rattle.std.proofs.lemmas.List.{length-append, length-drop, take-append-le, drop-append-le, drop_at, take_all}
use Rattle.pt_meaning.specs.Basics.{Tag, Streams}
use Rattle.pt_meaning.specs.Node.{Answer, Gives}
use Rattle.pt_value.specs.declared.token.Token.{Token}
use Rattle.pt_value.specs.declared.token.Token.TheVariants.{Int}
use Rattle.pt_flow_base.specs.Number.{MakesInTurn, numbers_of, GivesStretch}

-- it doesn't matter what stands for outputs of firings that weren't made
outputs-same : {A : Type 0} (step : Tag → A → Streams Token → Answer Token A) (inputs outputs others : ℕ → Streams Token) (k : ℕ) (old new : A) → ((j : ℕ) → j < k → outputs j ≡ others j) →
    MakesInTurn step inputs outputs k old new → MakesInTurn step inputs others k old new
outputs-same step inputs outputs others zero old new same m = m
outputs-same step inputs outputs others (suc k) old new same (mid, before, last) =
    (mid, outputs-same step inputs outputs others k old mid (λ j short. same j (omega (arith, short))) before, λ tag. last tag ∙ ap (λ out. Gives new out) (same k (omega arith)))

-- the numbers of a firing are the same with more behind those of all
numbers-before : (rate : ℕ) (ns more : List ℤ) (k j : ℕ) → length ns ≡ k * rate → j < k → numbers_of rate ns j ≡ numbers_of rate (ns ++ more) j
numbers-before rate ns more k j long short =
    let next : suc j ≤ k = omega (arith, short) in
    let room : suc j * rate ≤ k * rate = mul-le-mul_right rate next in
    let here : j * rate ≤ length ns = omega (arith, long, room) in
    let left : rate ≤ length (drop (j * rate) ns) = omega (arith, long, room, length-drop (j * rate) ns) in
    sym (ap (λ v. take rate v) (drop-append-le (j * rate) ns more here) ∙ take-append-le rate (drop (j * rate) ns) more left)

-- those behind all are those of the next firing
numbers-last : (rate : ℕ) (ns more : List ℤ) (k : ℕ) → length ns ≡ k * rate → length more ≡ rate → more ≡ numbers_of rate (ns ++ more) k
numbers-last rate ns more k long rated = sym (ap (λ v. take rate v) (drop_at ns more (k * rate) long) ∙ take_all rate more (omega (arith, rated)))

-- none is made
pub stretch-none : {A : Type 0} (step : Tag → A → Streams Token → Answer Token A) (old : A) (inputs : List (Streams Token)) (rate : ℕ) (ns : List ℤ) → ns ≡ [] → GivesStretch step old inputs rate 0 ns old
stretch-none step old inputs rate ns none = record { few = omega arith; counted = omega (arith, ap (λ v. length v) none); made = refl }

-- one more is made
pub stretch-more : {A : Type 0} (step : Tag → A → Streams Token → Answer Token A) (old mid new : A) (inputs : List (Streams Token)) (rate k : ℕ) (ns more all : List ℤ) → GivesStretch step old inputs rate k ns mid → k < length inputs →
    ((tag : Tag) → step tag mid (get_or inputs k []) ≡ Gives new (map Int more ∷ [])) → length more ≡ rate → all ≡ ns ++ more → GivesStretch step old inputs rate (k + 1) all new
stretch-more step old mid new inputs rate k ns more all g short last rated is =
    let so_far : ℕ → Streams Token = λ j. map Int (numbers_of rate ns j) ∷ [] in
    let after : ℕ → Streams Token = λ j. map Int (numbers_of rate (ns ++ more) j) ∷ [] in
    let next : GivesStretch step old inputs rate (suc k) (ns ++ more) new = record {
      few = omega (arith, short);
      counted = omega (arith, length-append ns more, g.counted, rated);
      made =
          (mid, outputs-same step (λ j. get_or inputs j []) so_far after k old mid (λ j here. ap (λ v. map Int v ∷ []) (numbers-before rate ns more k j g.counted here)) g.made, λ tag. last tag ∙ ap (λ v. Gives new (map Int v ∷ [])) (numbers-last rate ns more k g.counted rated));
    } in
    subst (λ v. GivesStretch step old inputs rate (k + 1) v new) (sym is) (subst (λ n. GivesStretch step old inputs rate n (ns ++ more) new) (sym (add-one k)) next)

-- the same of an actor that is held as a variant
held-in-turn : {S A : Type 0} (held : S → A) (step : Tag → S → Streams Token → Answer Token S) (whole : Tag → A → Streams Token → Answer Token A) → ((tag : Tag) (s t : S) (X out : Streams Token) → step tag s X ≡ Gives t out → whole tag (held s) X ≡ Gives (held t) out) →
    (inputs outputs : ℕ → Streams Token) (k : ℕ) (old new : S) → MakesInTurn step inputs outputs k old new → MakesInTurn whole inputs outputs k (held old) (held new)
held-in-turn held step whole alike inputs outputs zero old new m = ap held m
held-in-turn held step whole alike inputs outputs (suc k) old new (mid, before, last) = (held mid, held-in-turn held step whole alike inputs outputs k old mid before, λ tag. alike tag mid new (inputs k) (outputs k) (last tag))

pub held-stretch : {S A : Type 0} (held : S → A) (step : Tag → S → Streams Token → Answer Token S) (whole : Tag → A → Streams Token → Answer Token A) → ((tag : Tag) (s t : S) (X out : Streams Token) → step tag s X ≡ Gives t out → whole tag (held s) X ≡ Gives (held t) out) →
    (old new : S) (inputs : List (Streams Token)) (rate k : ℕ) (ns : List ℤ) → GivesStretch step old inputs rate k ns new → GivesStretch whole (held old) inputs rate k ns (held new)
held-stretch held step whole alike old new inputs rate k ns g = record {
  few = g.few;
  counted = g.counted;
  made = held-in-turn held step whole alike (λ j. get_or inputs j []) (λ j. map Int (numbers_of rate ns j) ∷ []) k old new g.made;
}
