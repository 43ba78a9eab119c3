-- Which outputs of an entity are recorded, by their numbers in the report.
use Rattle.std.specs.Prelude.{◌≡◌, ℕ, suc, ◌<◌, List, [], ◌∷◌, length, get_or, map, nat_eq, Option, Some, None, slice_get}
use Rattle.pt_net.specs.declared.net.Net.{Net}
use Rattle.pt_net.specs.declared.net.NetEntity.{NetEntity}
use Rattle.pt_net.specs.declared.net.NetPort.{NetPort}
use Rattle.pt_net.specs.Inside.{child_if, port_number}
use Rattle.pt_past.specs.Recorded.{RecordedPort}

-- the numbers of those of an entity, from number i on
abbrev pub numbers_from : (k i : ℕ) → List NetPort → List ℕ
numbers_from k i [] = []
numbers_from k i (port ∷ ports) = child_if (nat_eq port.entity k) i (numbers_from k (suc i) ports)

abbrev pub numbers_at : ℕ → List NetPort → List ℕ
numbers_at k ports = numbers_from k 0 ports

-- so many entities have these lists
pub record AreRecordLists (count : ℕ) (ports : List NetPort) (lists : List (List ℕ)) : Type 0 where
  pub counted : length lists ≡ count
  pub listed : (k : ℕ) → k < count → get_or lists k [] ≡ numbers_at k ports

abbrev pub port_in : Option NetPort → ℕ
port_in None = 0
port_in (Some port) = port.port

abbrev pub text_in : Option (List ℕ) → List ℕ
text_in None = []
text_in (Some text) = text

-- the recorded output of that number: its port by its number among the outputs of its entity, its text in the report, and no tokens yet
abbrev pub recorded_at : Net → NetEntity → ℕ → RecordedPort
recorded_at net e number =
    record { port = port_number e.ports.items (port_in (slice_get net.recorded.items number)); number = number; text = text_in (slice_get net.records.items number); trace = []; noted = [] }

-- the recorded outputs of an entity
abbrev pub recorded_of : Net → ℕ → NetEntity → List RecordedPort
recorded_of net k e = map (recorded_at net e) (numbers_at k net.recorded.items)
