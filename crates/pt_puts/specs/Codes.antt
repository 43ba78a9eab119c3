-- How needs, puts and the tokens that are gathered are told apart from others.
use Rattle.std.specs.Prelude.{◌≡◌, ℕ, zero, suc, List, [], refl}
use Rattle.std.specs.Coded.{Coded, code_by, coded×, coded_ℕ, coded_list}
use Rattle.pt_meaning.specs.Streams.{Streams}
use Rattle.pt_meaning.specs.Machine.{Need, Over, Counts, Any}
use Rattle.pt_meaning.specs.Process.{Put}
use Rattle.pt_value.specs.declared.token.Token.{Token}
use Rattle.pt_value.specs.Token.{coded_token}

abbrev numbers : Coded (List ℕ)
numbers = coded_list coded_ℕ

abbrev pub coded_streams : Coded (Streams Token)
coded_streams = coded_list (coded_list coded_token)

abbrev from_need : Need → ℕ × List ℕ
from_need Over = (0, [])
from_need (Counts ns) = (1, ns)
from_need Any = (2, [])

abbrev need_at : ℕ → List ℕ → Need
need_at zero ns = Over
need_at (suc zero) ns = Counts ns
need_at (suc (suc k)) ns = Any

abbrev to_need : ℕ × List ℕ → Need
to_need p = need_at p.0 p.1

pub to_need-from_need : (n : Need) → to_need (from_need n) ≡ n
to_need-from_need Over = refl
to_need-from_need (Counts ns) = refl
to_need-from_need Any = refl

abbrev pub coded_need : Coded Need
coded_need = code_by (ℕ × List ℕ) (coded× coded_ℕ numbers) from_need to_need to_need-from_need

abbrev pub coded_put : Coded (Put Token)
coded_put = code_by (ℕ × Token) (coded× coded_ℕ coded_token) (λ u. (u.channel, u.token)) (λ p. record { channel = p.0; token = p.1 }) (λ _. refl)
