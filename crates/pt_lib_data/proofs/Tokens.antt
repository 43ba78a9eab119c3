-- Tokens by what they carry.
use Rattle.std.proofs.Common.{◌≡◌, ◌↔◌, Bool, true, false, IsTrue, Option, Some, None, option_map, refl, sym, ap, ◌∙◌}
use Rattle.std.specs.Borrow.{Bor}
use Rattle.pt_value.specs.Value.{Value}
use Rattle.pt_value.specs.Token.{value_of, token_of, token_of-value_of, same_token}
use Rattle.pt_value.specs.declared.token.Token.{Token}
use Rattle.pt_language.specs.Same.{is_same, is_same-decides}

pub as-token : (o : Option (Bor Token)) (v : Option Value) → option_map (λ t. value_of t.now) o ≡ v → option_map (λ t. t.now) o ≡ option_map token_of v
as-token None v e = ap (option_map token_of) e
as-token (Some t) v e = ap Some (sym (token_of-value_of t.now)) ∙ ap (option_map token_of) e

both : (b c : Bool) → (b ≡ true → c ≡ true) → (c ≡ true → b ≡ true) → b ≡ c
both true c h k = sym (h refl)
both false true h k = k refl
both false false h k = refl

pub same-is : (b : Bool) (t u : Token) → (IsTrue b ↔ (t ≡ u)) → b ≡ is_same (value_of t) (value_of u)
same-is b t u d = both b (is_same (value_of t) (value_of u)) (λ e. (is_same-decides (value_of t) (value_of u)).1 (ap value_of (d.0 e))) (λ e. d.1 (same_token t u ((is_same-decides (value_of t) (value_of u)).0 e)))
