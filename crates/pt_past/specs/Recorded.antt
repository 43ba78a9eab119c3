-- The recorded ports of a node: what each gave, firing by firing.
use Rattle.std.specs.Prelude.{ℕ, List, [], ◌++◌, refl}
use Rattle.std.specs.Coded.{Coded, code_by, coded_list, coded_ℕ, coded×}
use Rattle.pt_meaning.specs.Basics.{Tag, Streams, at, with_tag}
use Rattle.pt_value.specs.declared.token.Token.{Token}
use Rattle.pt_value.specs.Token.{coded_token}
use Rattle.pt_records.specs.Kept as kept

-- An output that is recorded: which it is, its number and its text in the report, what it gave in firings that are recorded, and what was noted of a firing that isn't yet.
pub record RecordedPort : Type 0 where
  pub port : ℕ
  pub number : ℕ
  pub text : List ℕ
  pub trace : List (Tag × Token)
  pub noted : List (Tag × Token)

abbrev coded_tag : Coded Tag
coded_tag = code_by (ℕ × ℕ) (coded× coded_ℕ coded_ℕ) (λ t. (t.time, t.step)) (λ p. record { time = p.0; step = p.1 }) (λ _. refl)

abbrev coded_trace : Coded (List (Tag × Token))
coded_trace = coded_list (coded× coded_tag coded_token)

abbrev pub coded_port : Coded RecordedPort
coded_port = code_by ((ℕ × ℕ) × (List ℕ × (List (Tag × Token) × List (Tag × Token)))) (coded× (coded× coded_ℕ coded_ℕ) (coded× (coded_list coded_ℕ) (coded× coded_trace coded_trace))) (λ r. ((r.port, r.number), (r.text, (r.trace, r.noted)))) (λ p. record { port = p.0.0; number = p.0.1; text = p.1.0; trace = p.1.1.0; noted = p.1.1.1 }) (λ _. refl)

-- the port, with what a firing at this tag gave on it noted
abbrev pub noting : Tag → Streams Token → RecordedPort → RecordedPort
noting tag out r = record { port = r.port; number = r.number; text = r.text; trace = r.trace; noted = with_tag tag (at out r.port) }

-- the port, with what was noted recorded
abbrev pub recording : RecordedPort → RecordedPort
recording r = record { port = r.port; number = r.number; text = r.text; trace = r.trace ++ r.noted; noted = [] }

-- the port without notes
abbrev pub unnoted : RecordedPort → RecordedPort
unnoted r = record { port = r.port; number = r.number; text = r.text; trace = r.trace; noted = [] }

-- the port before any firing
abbrev pub empty : RecordedPort → RecordedPort
empty r = record { port = r.port; number = r.number; text = r.text; trace = []; noted = [] }

-- what an engine keeps of the port
abbrev pub trace_of : RecordedPort → kept.Recorded Token
trace_of r = record { port = r.port; trace = r.trace }
