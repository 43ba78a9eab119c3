-- What whoever fires a node does with its own record: it notes the outputs, and records the firing once it counts.
use Rattle.std.specs.Prelude.{ℕ, zero, suc, ◌+◌, List, true, Some, map}
use Rattle.pt_meaning.specs.Basics.{Tag, Streams}
use Rattle.pt_meaning.specs.Tree as tree
use Rattle.pt_value.specs.declared.token.Token.{Token}
use Rattle.pt_past.specs.Recorded.{RecordedPort, noting, recording, unnoted}
use Rattle.pt_node.specs.Shown.{Shown, Branch}

-- the node with other records
abbrev pub with_records : (List RecordedPort → List RecordedPort) → Shown → Shown
with_records f (Branch g ks) = Branch (record { past = g.past; body = g.body; records = f g.records; path = g.path; labels = g.labels; meetings = g.meetings; live = g.live }) ks

-- with what a firing gave noted
abbrev pub noted : Tag → Streams Token → Shown → Shown
noted tag out s = with_records (map (noting tag out)) s

-- without notes
abbrev pub bare : Shown → Shown
bare s = with_records (map unnoted) s

-- the node with its firing recorded, and live again
abbrev pub recorded : Tag → Shown → Shown
recorded tag (Branch g ks) = Branch (record { past = tree.fired_at tag g.past; body = g.body; records = map recording g.records; path = g.path; labels = g.labels; meetings = g.meetings; live = true }) ks

-- so many firings more at the tag
abbrev pub fired_times : Tag → ℕ → tree.Past → tree.Past
fired_times tag firings h = record { made = h.made + firings; last = Some tag.time }

-- the node with so many firings recorded at the tag, of all of which the notes were made together
abbrev pub recorded_times : Tag → ℕ → Shown → Shown
recorded_times tag firings (Branch g ks) = Branch (record { past = fired_times tag firings g.past; body = g.body; records = map recording g.records; path = g.path; labels = g.labels; meetings = g.meetings; live = true }) ks

-- the node with so many firings noted and recorded at the tag, one after another, each with what it gave
abbrev pub recorded_in_turn : Tag → (outputs : ℕ → Streams Token) → ℕ → Shown → Shown
recorded_in_turn tag outputs zero s = s
recorded_in_turn tag outputs (suc k) s = recorded tag (noted tag (outputs k) (recorded_in_turn tag outputs k s))
