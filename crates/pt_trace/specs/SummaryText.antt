-- The text of a summary: how many firings were made, what each recorded port gave last, what is full, and the end.
use Rattle.std.specs.Prelude.{ℕ, ◌-◌, List, ◌++◌, Option, None, Some, length, slice_get, flat_map, codes, decimal}
use Rattle.pt_meaning.specs.Basics.{Tag}
use Rattle.pt_value.specs.declared.token.Token.{Token}
use Rattle.pt_value.specs.Token.{value_of}
use Rattle.pt_value.specs.Printed.{printed}
use Rattle.pt_trace.specs.Report.{Trace, Report}
use Rattle.pt_trace.specs.EndText.{end_text}

-- the last token, if there is any
abbrev pub last : List (Tag × Token) → Option (Tag × Token)
last tokens = slice_get tokens (length tokens - 1)

-- its value, or a dash
abbrev pub last_text : Option (Tag × Token) → List ℕ
last_text None = codes "-"
last_text (Some token) = printed (value_of token.1)

-- a recorded port: how many tokens it gave, and the value of the last
abbrev pub trace_line : Trace → List ℕ
trace_line trace = codes "trace " ++ (trace.text ++ (codes " " ++ (decimal (length trace.tokens) ++ (codes " " ++ (last_text (last trace.tokens) ++ codes "\n")))))

abbrev pub firings_line : ℕ → List ℕ
firings_line firings = codes "firings " ++ (decimal firings ++ codes "\n")

-- the summary of a run of so many firings that has this report
abbrev pub summary_text : ℕ → Report → List ℕ
summary_text firings report = (firings_line firings ++ flat_map trace_line report.traces) ++ end_text report.end
