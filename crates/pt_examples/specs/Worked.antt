-- Traces as values.
use Rattle.std.specs.Prelude.{List, [], ◌∷◌}
use Rattle.pt_meaning.specs.Tag.{Tag}
use Rattle.pt_examples.specs.Small.{Token, Num}
use Rattle.pt_examples.specs.declared.worked.Sample.{Sample}

-- the trace that these samples tell
abbrev pub shown : List Sample → List (Tag × Token)
shown [] = []
shown (s ∷ ss) = (record { time = s.time; step = s.step }, Num s.value) ∷ shown ss
