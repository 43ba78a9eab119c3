-- The text of a trace: its port, and then a line for each token with its number, its tag and its value.
use Rattle.std.specs.Prelude.{ℕ, suc, List, [], ◌∷◌, ◌++◌, codes, decimal}
use Rattle.pt_meaning.specs.Basics.{Tag}
use Rattle.pt_value.specs.declared.token.Token.{Token}
use Rattle.pt_value.specs.Token.{value_of}
use Rattle.pt_value.specs.Printed.{printed}
use Rattle.pt_trace.specs.Report.{Trace}

abbrev pub tag_text : Tag → List ℕ
tag_text tag = decimal tag.time ++ (codes "." ++ decimal tag.step)

abbrev pub token_line : ℕ → Tag → Token → List ℕ
token_line number tag token = decimal number ++ (codes " " ++ (tag_text tag ++ (codes " " ++ (printed (value_of token) ++ codes "\n"))))

-- the lines of tokens, numbered from a number on
abbrev pub token_lines : ℕ → List (Tag × Token) → List ℕ
token_lines number [] = []
token_lines number (t ∷ ts) = token_line number t.0 t.1 ++ token_lines (suc number) ts

abbrev pub trace_text : Trace → List ℕ
trace_text trace = (codes "trace " ++ (trace.text ++ codes "\n")) ++ token_lines 0 trace.tokens
