-- Which meetings are those that were recorded of the children of a composite, once one of them went on.
use Rattle.std.proofs.Common.{◌≡◌, ℕ, ◌∷◌, List, set, Some, refl, sym, ap, subst, ◌∙◌, arith}
use Rattle.pt_meaning.specs.Basics.{Log}
use Rattle.pt_meaning.specs.Streams.{get}
use Rattle.pt_meaning.specs.Meetings.{Meets, below_child}
use Rattle.pt_value.specs.declared.token.Token.{Token}
use Rattle.pt_records.specs.Kept.{Kept, kept_at, kept_by, blank, GrewBy}
use Rattle.pt_records.specs.Made.{meets_of, AreMade, AreMadeBefore, AllMade, AllMadeBefore}
use Rattle.pt_records.proofs.MadeLaws.{all-made-back, kept-there, those-made}
use Rattle.pt_node.specs.Shown.{Shown, all_of}
use Rattle.pt_node.specs.View.{kept_of, kepts_of}
use Rattle.pt_turns.proofs.Children.{kepts-set, kepts-at, kepts-long, get-short}

pub finished-made : (m : Meets) (ks : List (Kept Token)) → AllMade m ks → AllMadeBefore m ks
finished-made m ks made = λ i p n l. made i p n

-- there are such meetings
abbrev pub meets-in : List (Kept Token) → Meets
meets-in ks = meets_of (kept_by blank ks)

pub meets-made : (ks : List (Kept Token)) → AllMadeBefore (meets-in ks) ks
meets-made ks i p n l = those-made (meets-in ks) (kept_by blank ks) (λ q j. refl) (i ∷ p) n

module _ (m : Meets) (now : List Shown) (i : ℕ) (child after : Shown) (e : get now i ≡ Some child) where
  pub kept-after : kept_at (kepts_of (all_of (set now i after))) i ≡ kept_of after
  kept-after = ap (λ ks. kept_at ks i) (kepts-set now i after) ∙ kept-there i (kepts_of (all_of now)) (kept_of after) (omega (arith, get-short now i child e, kepts-long now))

  -- those of the child, and those of all before it
  pub made-of-child : AllMade m (kepts_of (all_of (set now i after))) → AreMade (below_child i m) (kept_of after)
  made-of-child made = subst (λ (k : Kept Token). AreMade (below_child i m) k) kept-after (made i)

  pub made-of-fired : AllMadeBefore m (kepts_of (all_of (set now i after))) → AreMadeBefore (below_child i m) (kept_of after)
  made-of-fired made = subst (λ (k : Kept Token). AreMadeBefore (below_child i m) k) kept-after (made i)

  pub made-before : (l : Log Token) → GrewBy l (kept_of child) (kept_of after) → AllMadeBefore m (kepts_of (all_of (set now i after))) → AllMadeBefore m (kepts_of (all_of now))
  made-before l grew made =
      all-made-back m i l (kepts_of (all_of now)) (kept_of after) (omega (arith, get-short now i child e, kepts-long now))
      (subst (λ k. GrewBy l k (kept_of after)) (sym (kepts-at now i child e)) grew) (subst (λ ks. AllMadeBefore m ks) (kepts-set now i after) made)
