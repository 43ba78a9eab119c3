-- Whether two values are the same.
use Rattle.std.specs.Prelude.{◌≡◌, ◌↔◌, ℤ, pos, negsuc, Bool, true, false, ◌&&◌, ◌==◌, IsTrue}
use Rattle.std.specs.Str.{bytes_eq}
use Rattle.std.proofs.Common.{refl, sym, ap, ◌∙◌, rules}
use Rattle.std.proofs.lemmas.Slice.Eq.{bytes_eq-Decides}
use Rattle.pt_value.specs.Value as val
use Rattle.pt_value.specs.Value.{Value, Values, no_values, value_then, Named, no_fields, field_then}

abbrev pub same_int : ℤ → ℤ → Bool
same_int (pos m) (pos n) = m == n
same_int (negsuc m) (negsuc n) = m == n
same_int _ _ = false

abbrev pub same_truth : Bool → Bool → Bool
same_truth true c = c
same_truth false true = false
same_truth false false = true

-- integers, truth values and texts by themselves, arrays element by element, records by names and values
abbrev mutual
  pub is_same : Value → Value → Bool
  is_same (val.Int m) (val.Int n) = same_int m n
  is_same (val.Bool b) (val.Bool c) = same_truth b c
  is_same (val.Words xs) (val.Words ys) = bytes_eq xs ys
  is_same (val.Array vs) (val.Array ws) = are_same vs ws
  is_same (val.Record fs) (val.Record gs) = have_same fs gs
  is_same _ _ = false

  pub are_same : Values → Values → Bool
  are_same no_values no_values = true
  are_same (value_then v vs) (value_then w ws) = is_same v w && are_same vs ws
  are_same _ _ = false

  pub have_same : Named → Named → Bool
  have_same no_fields no_fields = true
  have_same (field_then m v fs) (field_then n w gs) = bytes_eq m n && (is_same v w && have_same fs gs)
  have_same _ _ = false

both_true : (p q : Bool) → p && q ≡ true → (p ≡ true) × (q ≡ true)
both_true true q e = (refl, e)
both_true false q e = cc

same_int-self : (z : ℤ) → same_int z z ≡ true
same_int-self (pos n) = search rules
same_int-self (negsuc n) = search rules

same_int-equal : (y z : ℤ) → same_int y z ≡ true → y ≡ z
same_int-equal (pos m) (pos n) e = search rules
same_int-equal (negsuc m) (negsuc n) e = search rules
same_int-equal _ _ e = cc

same_truth-self : (b : Bool) → same_truth b b ≡ true
same_truth-self true = refl
same_truth-self false = refl

same_truth-equal : (b c : Bool) → same_truth b c ≡ true → b ≡ c
same_truth-equal true true e = refl
same_truth-equal true false e = sym e
same_truth-equal false true e = e
same_truth-equal false false e = refl

mutual
  is_same-self : (v : Value) → is_same v v ≡ true
  is_same-self (val.Int n) = same_int-self n
  is_same-self (val.Bool b) = same_truth-self b
  is_same-self (val.Words xs) = (bytes_eq-Decides xs xs).1 refl
  is_same-self (val.Array vs) = are_same-self vs
  is_same-self (val.Record fs) = have_same-self fs

  are_same-self : (vs : Values) → are_same vs vs ≡ true
  are_same-self no_values = refl
  are_same-self (value_then v vs) = ap (λ b. b && are_same vs vs) (is_same-self v) ∙ are_same-self vs

  have_same-self : (fs : Named) → have_same fs fs ≡ true
  have_same-self no_fields = refl
  have_same-self (field_then n v fs) = ap (λ b. b && (is_same v v && have_same fs fs)) ((bytes_eq-Decides n n).1 refl) ∙ ap (λ b. b && have_same fs fs) (is_same-self v) ∙ have_same-self fs

mutual
  is_same-equal : (v w : Value) → is_same v w ≡ true → v ≡ w
  is_same-equal (val.Int m) (val.Int n) e = ap val.Int (same_int-equal m n e)
  is_same-equal (val.Bool b) (val.Bool c) e = ap val.Bool (same_truth-equal b c e)
  is_same-equal (val.Words xs) (val.Words ys) e = ap val.Words ((bytes_eq-Decides xs ys).0 e)
  is_same-equal (val.Array vs) (val.Array ws) e = ap val.Array (are_same-equal vs ws e)
  is_same-equal (val.Record fs) (val.Record gs) e = ap val.Record (have_same-equal fs gs e)
  is_same-equal _ _ e = cc

  are_same-equal : (vs ws : Values) → are_same vs ws ≡ true → vs ≡ ws
  are_same-equal no_values no_values e = refl
  are_same-equal (value_then v vs) (value_then w ws) e =
      let h = both_true (is_same v w) (are_same vs ws) e in
      λ i. value_then (is_same-equal v w h.0 i) (are_same-equal vs ws h.1 i)
  are_same-equal _ _ e = cc

  have_same-equal : (fs gs : Named) → have_same fs gs ≡ true → fs ≡ gs
  have_same-equal no_fields no_fields e = refl
  have_same-equal (field_then m v fs) (field_then n w gs) e =
      let h = both_true (bytes_eq m n) (is_same v w && have_same fs gs) e in
      let k = both_true (is_same v w) (have_same fs gs) h.1 in
      λ i. field_then ((bytes_eq-Decides m n).0 h.0 i) (is_same-equal v w k.0 i) (have_same-equal fs gs k.1 i)
  have_same-equal _ _ e = cc

-- exactly equal values are the same
pub is_same-decides : (x y : Value) → IsTrue (is_same x y) ↔ (x ≡ y)
is_same-decides x y = (is_same-equal x y, λ e. ap (λ z. is_same x z) (sym e) ∙ is_same-self x)
