-- RecordAssembler: the record of its inputs, each under the name of its port.
use Rattle.std.specs.Prelude.{ℕ, List, [], ◌∷◌, drop, Option, Some, None, if◌then◌else◌}
use Rattle.pt_meaning.specs.Basics.{Streams}
use Rattle.pt_value.specs.Value.{Value}
use Rattle.pt_value.specs.Token.{value_of, token_of}
use Rattle.pt_value.specs.declared.token.Token.{Token}
use Rattle.pt_language.specs.Outcome.{Outcome, Gives, Stops, Wrong}
use Rattle.pt_language.specs.RecordOf.{record_of}
use Rattle.pt_firing.specs.Row.{token_at, all_present}
use Rattle.pt_lib_data.specs.Reply.{Reply, nothing, sized}

abbrev pub with_field : List ℕ → Option Token → List (List ℕ × Value) → List (List ℕ × Value)
with_field name None fs = fs
with_field name (Some t) fs = (name, value_of t) ∷ fs

-- the first token of each place under the name of its port, as far as there is one
unfoldable pub fields : List (List ℕ) → Streams Token → List (List ℕ × Value)
fields [] X = []
fields (name ∷ names) X = with_field name (token_at X 0) (fields names (drop 1 X))

-- a record that was made, where the fields make one; the names of ports always do
abbrev pub made : Outcome Value → Reply
made (Gives v) = sized (token_of v)
made (Stops fault) = nothing
made Wrong = nothing

abbrev pub assembled : List (List ℕ × Value) → Reply
assembled fs = made (record_of fs)

abbrev pub give : List (List ℕ) → Streams Token → Reply
give names X = if all_present X then assembled (fields names X) else nothing
