-- A result, one number after another.
use Rattle.std.proofs.Common.{◌≡◌, ℕ, List, Bool, true, false, length, take, drop, min, Option, Some, None, Result, Ok, Err, ℤ, pos, refl, sym, ap, ap₂, ◌∙◌, if◌then◌else◌, arith}
use Rattle.std.proofs.lemmas.List.{take_min, drop_min, take_all}
use Rattle.pt_meaning.specs.Basics.{Streams}
use Rattle.pt_meaning.specs.Node.{is_none}
use Rattle.pt_value.specs.declared.token.Token.{Token}
use Rattle.pt_firing.specs.declared.fault.RunFault.{RunFault}
use Rattle.pt_flow_numbers.specs.declared.multiply_divide.Operation.{Operation}
use Rattle.pt_flow_numbers.specs.declared.multiply_divide.Operation.TheVariants.{Times, By}
use Rattle.pt_flow_base.specs.Row.{with_number, present}
use Rattle.pt_flow_numbers.specs.MultiplyDivide.{after, after_all, quotient_of, ratio_of}

pub after-next : (op : Operation) (r : Result ℤ RunFault) (number : Option ℤ) (ns : List ℤ) → after_all op (after op r number) ns ≡ after_all op r (with_number number ns)
unfolding after_all
after-next op (Ok q) None ns = refl
after-next op (Ok q) (Some n) ns = refl
after-next op (Err f) None ns = refl
after-next op (Err f) (Some n) ns = refl

pub quotient-is : (X : Streams Token) (m e : ℕ) → e ≡ length X → (p q : Result ℤ RunFault) → p ≡ after_all Times (Ok (pos 1)) (present (drop 0 (take m X))) → q ≡ after_all By p (present (drop m (take e X))) → q ≡ quotient_of m X
unfolding quotient_of
quotient-is X m e long p q product quotient =
    quotient ∙ ap₂ (λ r Y. after_all By r (present (drop m Y))) product (take_all e X (omega (arith, long)))

same-quotient : (X : Streams Token) (p : ℕ) → quotient_of (min p (length X)) X ≡ quotient_of p X
unfolding quotient_of
same-quotient X p = ap₂ (λ Y Z. after_all By (after_all Times (Ok (pos 1)) (present Y)) (present Z)) (take_min p X) (drop_min p X)

if-none : (X : Streams Token) (e : ℕ) (b : Bool) → e ≡ length X → b ≡ is_none (present (drop 0 (take e X))) → b ≡ is_none (present X)
if-none X e b long none = none ∙ ap (λ Y. is_none (present Y)) (take_all e X (omega (arith, long)))

pub ratio-none : (X : Streams Token) (p e : ℕ) (b : Bool) → e ≡ length X → b ≡ is_none (present (drop 0 (take e X))) → b ≡ true → None ≡ ratio_of p X
unfolding ratio_of
ratio-none X p e b long none is = sym (ap (λ c. if c then None else Some (quotient_of p X)) (sym (if-none X e b long none) ∙ is))

pub ratio-some : (X : Streams Token) (p m e : ℕ) (b : Bool) (r : Result ℤ RunFault) → e ≡ length X → m ≡ min p e → b ≡ is_none (present (drop 0 (take e X))) → b ≡ false → r ≡ quotient_of m X → Some r ≡ ratio_of p X
unfolding ratio_of
ratio-some X p m e b r long middle none is quotient =
    ap Some (quotient ∙ ap (λ n. quotient_of n X) (middle ∙ ap (min p) long) ∙ same-quotient X p) ∙ sym (ap (λ c. if c then None else Some (quotient_of p X)) (sym (if-none X e b long none) ∙ is))
