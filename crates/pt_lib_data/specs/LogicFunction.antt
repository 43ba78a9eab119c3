-- LogicFunction: a gate over its present inputs.
use Rattle.std.specs.Prelude.{ℕ, ◌+◌, ◌%◌, List, [], ◌∷◌, Bool, true, false, not, nat_eq, Option, Some, None, codes, bytes_eq, if◌then◌else◌}
use Rattle.pt_meaning.specs.Basics.{Streams}
use Rattle.pt_value.specs.declared.token.Token.{Token}
use Rattle.pt_value.specs.declared.token.Token.TheVariants as token
use Rattle.pt_firing.specs.Row.{truth_in}
use Rattle.pt_lib_data.specs.declared.logic_function.Gate.{Gate}
use Rattle.pt_lib_data.specs.declared.logic_function.Gate.TheVariants.{And, Or, Xor, Nand, Nor, Xnor}
use Rattle.pt_lib_data.specs.Params.{text_or}
use Rattle.pt_lib_data.specs.Reply.{Reply, one, nothing}

abbrev pub count_given : Option Bool → ℕ
count_given None = 0
count_given (Some b) = 1

abbrev pub count_true : Option Bool → ℕ
count_true None = 0
count_true (Some true) = 1
count_true (Some false) = 0

-- how many truth values are present, and how many of them are true
unfoldable pub given : Streams Token → ℕ
given [] = 0
given (tokens ∷ X) = count_given (truth_in tokens) + given X

unfoldable pub trues : Streams Token → ℕ
trues [] = 0
trues (tokens ∷ X) = count_true (truth_in tokens) + trues X

-- an exclusive or is true of an odd number of true ones
abbrev pub decided : Gate → ℕ → ℕ → Bool
decided And given trues = nat_eq trues given
decided Nand given trues = not (nat_eq trues given)
decided Or given trues = not (nat_eq trues 0)
decided Nor given trues = nat_eq trues 0
decided Xor given trues = nat_eq (trues % 2) 1
decided Xnor given trues = not (nat_eq (trues % 2) 1)

abbrev pub give : Gate → Streams Token → Reply
give gate X = if nat_eq (given X) 0 then nothing else one (token.Bool (decided gate (given X) (trues X)))

abbrev pub gate_of : List ℕ → Option Gate
gate_of text = if bytes_eq text (codes "and") then Some And else (if bytes_eq text (codes "or") then Some Or else (if bytes_eq text (codes "xor") then Some Xor else (if bytes_eq text (codes "nand") then Some Nand else (if bytes_eq text (codes "nor") then Some Nor else (if bytes_eq text (codes "xnor") then Some Xnor else None)))))

abbrev pub gate_by : Option (List ℕ) → Option Gate
gate_by None = None
gate_by (Some text) = gate_of text

-- by its parameter function, else and
abbrev pub start : List (List ℕ × Token) → Option Gate
start values = gate_by (text_or (codes "function") (codes "and") values)
