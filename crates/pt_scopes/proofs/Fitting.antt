-- The tests of forms.
use Rattle.std.proofs.Common.{◌≡◌, List, [], ◌∷◌, length, true, false, refl, rules, arith}
use Rattle.std.specs.Prelude.{Bool, IsTrue, ◌↔◌, not, negsuc, zero}
use Rattle.pt_value.specs.Value.{Value, values_of, list_of, list_of-values_of}
use Rattle.pt_scopes.specs.Forms.{is_full, ascend_from}

pub full : (vs : List Value) (b : Bool) → (IsTrue b ↔ (length vs ≡ 0)) → not b ≡ is_full (list_of (values_of vs))
full [] true h = refl
full [] false h = let t : IsTrue false = h.1 refl in search rules
full (v ∷ vs) true h = let e : length (v ∷ vs) ≡ 0 = h.0 (search rules) in absurd (omega arith)
full (v ∷ vs) false h = refl

pub ascending : (vs : List Value) → ascend_from (negsuc zero) vs ≡ ascend_from (negsuc zero) (list_of (values_of vs))
ascending vs = rw (list_of-values_of vs) refl
