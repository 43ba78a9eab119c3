-- The words of a value from any place within them on: what is open there, and what is still to be read.
use Rattle.std.specs.Prelude.{◌≡◌, ℕ, neg_ℤ, pos, List, [], ◌∷◌, ◌++◌, true, false, nat_lt, nat_le, if◌then◌else◌, Option, Some, None, is_some, option_map, Result, Ok, Err}
use Rattle.pt_value.specs.Value as val
use Rattle.pt_value.specs.Value.{Value, no_values, values_of, named_of}
use Rattle.pt_value.specs.Record.{IsRecord}
use Rattle.pt_value.specs.Token.{value_of}
use Rattle.pt_value.specs.declared.token.Token.{Token}
use Rattle.pt_language.specs.declared.word.Word.{Word}
use Rattle.pt_language.specs.declared.word.Word.TheVariants.{Digits, Quoted, Name}
use Rattle.pt_language.specs.declared.word.Word.TheVariants as word
use Rattle.pt_language.specs.declared.word.Symbol.{Symbol}
use Rattle.pt_language.specs.declared.word.Symbol.TheVariants.{True, False, OpenBrace, CloseBrace, Comma, Assign, Minus}
use Rattle.pt_language.specs.Symbol.{after}
use Rattle.pt_language.specs.Descent.{◌>>=◌}
use Rattle.pt_readback.specs.declared.fault.TokenFault.{TokenFault}
use Rattle.pt_readback.specs.declared.fault.TokenFault.TheVariants.{Shape, Memory}
use Rattle.pt_readback.specs.declared.open.Open.{Open}
use Rattle.pt_readback.specs.declared.open.Open.TheVariants as «open»

-- a fault says that nothing is to be found, or that memory ran out
abbrev pub Fails : {Y : Type 0} → TokenFault → Option Y → Type 0
Fails Shape read = read ≡ None
Fails Memory read = Unit {0}

-- what was answered, seen by view, is what is to be found, unless memory ran out
abbrev pub Gives : {X Y : Type 0} → (X → Y) → Result X TokenFault → Option Y → Type 0
Gives view (Ok x) read = read ≡ Some (view x)
Gives view (Err fault) read = Fails fault read

-- the answer is a token of this value, unless memory ran out
abbrev pub Finds : Result Token TokenFault → Value → Type 0
Finds (Ok t) v = value_of t ≡ v
Finds (Err fault) v = fault ≡ Memory

-- named values are in the order of a record, and this is their record
pub record Records (fs : List (List ℕ × Value)) (v : Value) : Type 0 where
  pub lawful : IsRecord fs
  pub is : v ≡ val.Record (named_of fs)

-- an array or a record with one more part, its last one, is this value
abbrev pub Closes : Open → Value → Value → Type 0
Closes («open».Array vs) last v = v ≡ val.Array (values_of (vs ++ last ∷ []))
Closes («open».Record fs name) last v = Records (fs ++ (name, last) ∷ []) v

-- the name of a field, and the words after its equals sign
abbrev pub field_first : List Word → Option (List ℕ × List Word)
field_first [] = None
field_first (Digits n ∷ ws) = None
field_first (Quoted text ∷ ws) = None
field_first (Name name ∷ ws) = option_map (λ rest. (name, rest)) (after Assign ws)
field_first (word.Symbol s ∷ ws) = None

-- a record where a field comes first, else an array, and the words of its first part
abbrev pub opened_by : Option (List ℕ × List Word) → List Word → Open × List Word
opened_by (Some f) ws = («open».Record [] f.0, f.1)
opened_by None ws = («open».Array [], ws)

-- after an opening brace
abbrev pub opened_after : List Word → Option (Open × List Word)
opened_after ws = if is_some (after CloseBrace ws) then None else Some (opened_by (field_first ws) ws)

-- an array or a record of one part or more, that begins here
abbrev pub opened : List Word → Option (Open × List Word)
opened ws = after OpenBrace ws >>= opened_after

-- integers of 64 bits
abbrev pub positive : ℕ → Option Value
positive n = if nat_lt n 0x8000_0000_0000_0000 then Some (val.Int (pos n)) else None

abbrev pub negative : ℕ → Option Value
negative n = if nat_le n 0x8000_0000_0000_0000 then Some (val.Int (neg_ℤ (pos n))) else None

-- a value and the words after it
abbrev pub before : List Word → Option Value → Option (Value × List Word)
before ws v = option_map (λ u. (u, ws)) v

-- after a minus
abbrev pub negative_first : List Word → Option (Value × List Word)
negative_first [] = None
negative_first (Digits n ∷ ws) = before ws (negative n)
negative_first (Quoted text ∷ ws) = None
negative_first (Name name ∷ ws) = None
negative_first (word.Symbol s ∷ ws) = None

-- by a symbol
abbrev pub symbol_first : Symbol → List Word → Option (Value × List Word)
symbol_first True ws = Some (val.Bool true, ws)
symbol_first False ws = Some (val.Bool false, ws)
symbol_first Minus ws = negative_first ws
symbol_first OpenBrace ws = option_map (λ rest. (val.Array no_values, rest)) (after CloseBrace ws)
symbol_first s ws = None

-- an integer, a truth value, a text or an empty array, and the words after it
abbrev pub whole_first : List Word → Option (Value × List Word)
whole_first [] = None
whole_first (Digits n ∷ ws) = before ws (positive n)
whole_first (Quoted text ∷ ws) = Some (val.Words text, ws)
whole_first (Name name ∷ ws) = None
whole_first (word.Symbol s ∷ ws) = symbol_first s ws

-- the same array or record with a part more, where there are others: for a record, with the name of the next
abbrev pub goes_on : Open → Value → List Word → Option (Open × List Word)
goes_on («open».Array vs) v ws = Some («open».Array (vs ++ v ∷ []), ws)
goes_on («open».Record fs name) v ws = option_map (λ f. («open».Record (fs ++ (name, v) ∷ []) f.0, f.1)) (field_first ws)

-- with these arrays and records open, the innermost first, and this value read or one to be read, the words are those that end w
pub data Ends (w : Value) : List Open → Option Value → List Word → Type 0 where
  at_end : Ends w [] (Some w) []
  begins : {os : List Open} {o : Open} {ws rest : List Word} → opened ws ≡ Some (o, rest) → Ends w (o ∷ os) None rest → Ends w os None ws
  has : {os : List Open} {v : Value} {ws rest : List Word} → opened ws ≡ None → whole_first ws ≡ Some (v, rest) → Ends w os (Some v) rest → Ends w os None ws
  goes : {os : List Open} {o next : Open} {v : Value} {ws more rest : List Word} → after CloseBrace ws ≡ None → after Comma ws ≡ Some more → goes_on o v more ≡ Some (next, rest) → Ends w (next ∷ os) None rest → Ends w (o ∷ os) (Some v) ws
  closes : {os : List Open} {o : Open} {v u : Value} {ws rest : List Word} → after CloseBrace ws ≡ Some rest → Closes o v u → Ends w os (Some u) rest → Ends w (o ∷ os) (Some v) ws

-- what was answered, seen by view, leaves words that end w, unless memory ran out
abbrev pub StillEnds : {X : Type 0} → (X → Option Value × List Word) → Value → List Open → Result X TokenFault → Type 0
StillEnds view w os (Ok x) = Ends w os (view x).0 (view x).1
StillEnds view w os (Err fault) = fault ≡ Memory
