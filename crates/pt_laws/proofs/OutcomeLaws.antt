-- A job comes to one outcome.
use Rattle.std.proofs.Common.{◌≡◌, ◌⊎◌, ℕ, ◌≤◌, ◌+◌, List, [], ◌∷◌, Bool, true, false, nat_le, inl, inr, refl, sym, ap, subst, arith, ◌∙◌}
use Rattle.std.proofs.lemmas.Bool.Decides.{nat_tests}
use Rattle.pt_meaning.specs.Log.{Log}
use Rattle.pt_meaning.specs.Machine.{Fault}
use Rattle.pt_meaning.specs.Meetings.{Meets}
use Rattle.pt_meaning.specs.Laws.{IsIn}
use Rattle.pt_meaning.specs.Tree.{Rows, Node}
use Rattle.pt_meaning.specs.Job.{Schedule, Course, Standing, Goes, Ended, Halted, End, EndsBy, IsStuckPlace, after, begin}
use Rattle.pt_meaning.specs.Lawful.{LawfulRows}
use Rattle.pt_laws.specs.Promises.{StandsOn}
use Rattle.pt_laws.specs.Outcomes.{OneOutcome, ReportsAgree}
use Rattle.pt_laws.proofs.MeaningLaws.{meaning_grows}

pub either-order : (a b : ℕ) → (a ≤ b) ⊎ (b ≤ a)
either-order a b = go (nat_le a b) refl
  where
    go : (t : Bool) → nat_le a b ≡ t → (a ≤ b) ⊎ (b ≤ a)
    go true e = let x : a ≤ b = grind (arith, nat_tests, e) in inl x
    go false e = let x : b ≤ a = grind (arith, nat_tests, e) in inr x

module _ {T A : Type 0} (rows : Rows T A) (law : LawfulRows rows) (m : Meets) (plan : Schedule T A) (top : Node T A) where
  end-of : End → Standing T A → End
  end-of d (Goes c) = d
  end-of d (Ended e c) = e
  end-of d (Halted fs l) = d

  ends-agree : (e e' : End) (c c' : Course T A) → Ended e' c' ≡ Ended e c → e' ≡ e
  unfolding end-of
  ends-agree e e' c c' g = ap (λ s. end-of e s) g

  pub one-end : (e e' : End) → EndsBy rows m plan top e → EndsBy rows m plan top e' → e' ≡ e
  one-end e e' a b = go (either-order a.0 b.0)
    where
      go : (a.0 ≤ b.0) ⊎ (b.0 ≤ a.0) → e' ≡ e
      go (inl o) = ends-agree e e' a.1 b.1 (sym b.2 ∙ subst (λ s. StandsOn s (after b.0 rows m plan b.0 (begin top))) a.2 (meaning_grows rows law m plan top a.0 b.0 o))
      go (inr o) = sym (ends-agree e' e b.1 a.1 (sym a.2 ∙ subst (λ s. StandsOn s (after a.0 rows m plan a.0 (begin top))) b.2 (meaning_grows rows law m plan top b.0 a.0 o)))

  pub no-place : (e : End) (f : Fault) → EndsBy rows m plan top e → IsStuckPlace rows m plan top f → ⊥
  no-place e f a b = go (either-order a.0 b.0)
    where
      clash : (fs : List Fault) (l : Log T) → Halted fs l ≡ Ended e a.1 → ⊥
      clash fs l g = cc

      stays : (fs : List Fault) → IsIn f fs → (l : Log T) → StandsOn (Halted fs l) (Ended e a.1) → ⊥
      stays [] i l s = i
      stays (g ∷ fs) i l s = s

      go : (a.0 ≤ b.0) ⊎ (b.0 ≤ a.0) → ⊥
      go (inl o) = clash b.1 b.2 (sym b.3 ∙ subst (λ s. StandsOn s (after b.0 rows m plan b.0 (begin top))) a.2 (meaning_grows rows law m plan top a.0 b.0 o))
      go (inr o) = stays b.1 b.4 b.2 (subst (λ s. StandsOn (Halted b.1 b.2) s) a.2 (subst (λ s. StandsOn s (after a.0 rows m plan a.0 (begin top))) b.3 (meaning_grows rows law m plan top b.0 a.0 o)))

pub one-outcome : {T A : Type 0} → OneOutcome T A
one-outcome = record {
  one_end = one-end;
  no_place = no-place;
  one_log = λ rows m plan top l l' a b p. let x : a.0 ≤ a.0 + b.0 = omega arith in let y : b.0 ≤ a.0 + b.0 = omega arith in b.1 (a.0 + b.0) y p ∙ sym (a.1 (a.0 + b.0) x p);
}

pub reports-agree : {T A : Type 0} → ReportsAgree T A
reports-agree = record {
  no_fault = λ rows law m plan top e recorded budget maximum counts traces f a r. no-place rows law m plan top e f a r.caused.0;
  its_end = λ rows law m plan top e e' recorded budget maximum counts traces a r. one-end rows law m plan top e e' a r.caused.1;
  never_told = λ rows m plan top recorded budget maximum counts traces f none r. none f r.caused.0;
}
