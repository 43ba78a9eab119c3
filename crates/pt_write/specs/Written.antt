-- JSON as it is written: objects in the order of their fields, of which some may be absent. It has its tokens, and what
-- serde_json reads it as.
use Rattle.std.specs.Prelude.{ℕ, suc, max, List, [], ◌∷◌, ◌++◌, Bool, decimal}
use Rattle.json.specs.Token.{Token}
use Rattle.serde_json.specs.Data as read
use Rattle.serde_json.specs.Data.{Data, Items, Members, put}

mutual
  pub data Value : Type 0 where
    null : Value
    truth : Bool → Value
    whole : ℕ → Value
    text : List ℕ → Value
    array : Values → Value
    object : Fields → Value

  pub data Values : Type 0 where
    no_values : Values
    value_then : Value → Values → Values

  -- what stands at a field, where anything does
  pub data Slot : Type 0 where
    absent : Slot
    given : Value → Slot

  pub data Fields : Type 0 where
    no_fields : Fields
    field : List ℕ → Slot → Fields → Fields

abbrev pub to_values : List Value → Values
to_values [] = no_values
to_values (v ∷ vs) = value_then v (to_values vs)

-- ---- tokens

abbrev mutual
  pub tokens : Value → List Token
  tokens null = Token.null ∷ []
  tokens (truth b) = Token.boolean b ∷ []
  tokens (whole n) = Token.number (decimal n) ∷ []
  tokens (text s) = Token.string s ∷ []
  tokens (array vs) = Token.begin_array ∷ (items_tokens vs ++ Token.end_array ∷ [])
  tokens (object fs) = Token.begin_object ∷ fields_tokens fs

  pub items_tokens : Values → List Token
  items_tokens no_values = []
  items_tokens (value_then v vs) = tokens v ++ items_tokens vs

  pub slot_tokens : List ℕ → Slot → List Token
  slot_tokens key absent = []
  slot_tokens key (given v) = Token.key key ∷ tokens v

  -- with the closing bracket
  pub fields_tokens : Fields → List Token
  fields_tokens no_fields = Token.end_object ∷ []
  fields_tokens (field key slot fs) = slot_tokens key slot ++ fields_tokens fs

-- ---- what it is read as

abbrev mutual
  pub data_of : Value → Data
  data_of null = read.null
  data_of (truth b) = read.boolean b
  data_of (whole n) = read.number (read.unsigned n)
  data_of (text s) = read.string s
  data_of (array vs) = read.array (items_of vs)
  data_of (object fs) = read.object (members_after fs read.no_members)

  pub items_of : Values → Items
  items_of no_values = read.no_items
  items_of (value_then v vs) = read.item (data_of v) (items_of vs)

  -- the members with what stands at a field
  pub slot_after : List ℕ → Slot → Members → Members
  slot_after key absent ms = ms
  slot_after key (given v) ms = put key (data_of v) ms

  -- the fields go in one after another
  pub members_after : Fields → Members → Members
  members_after no_fields ms = ms
  members_after (field key slot fs) ms = members_after fs (slot_after key slot ms)

-- ---- what it has to keep to be read back

-- how deep arrays and objects nest
abbrev mutual
  pub depth : Value → ℕ
  depth null = 0
  depth (truth b) = 0
  depth (whole n) = 0
  depth (text s) = 0
  depth (array vs) = suc (items_depth vs)
  depth (object fs) = suc (fields_depth fs)

  pub items_depth : Values → ℕ
  items_depth no_values = 0
  items_depth (value_then v vs) = max (depth v) (items_depth vs)

  pub slot_depth : Slot → ℕ
  slot_depth absent = 0
  slot_depth (given v) = depth v

  pub fields_depth : Fields → ℕ
  fields_depth no_fields = 0
  fields_depth (field key slot fs) = max (slot_depth slot) (fields_depth fs)
