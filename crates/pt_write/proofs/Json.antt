-- The JSON that is written, in the words of `json`: it has these tokens, reads as this data and nests as deep.
use Rattle.std.proofs.Common.{◌≡◌, ℕ, suc, ◌^◌, ◌<◌, ◌≤◌, max, List, [], ◌∷◌, ◌++◌, Option, Some, option_map, option_and_then, decimal, refl, sym, ap, ◌∙◌, arith, append_assoc, append-nil}
use Rattle.json.specs.Token.{Token}
use Rattle.json.specs.Lex as lex
use Rattle.json.specs.Json as json
use Rattle.json.specs.Tree as tree
use Rattle.json.proofs.Printed.Trees.{value-json_tokens}
use Rattle.serde_json.specs.Data as read_as
use Rattle.serde_json.specs.Data.{Data, Items, Members}
use Rattle.serde_json.specs.Read.{of_json, of_items, of_members, max_depth, read}
use Rattle.serde_json.proofs.Numbers.{number_of-decimal}
use Rattle.pt_write.specs.Written.{Value, null, truth, whole, text, array, object, Values, no_values, value_then, Slot, absent, given, Fields, no_fields, field, tokens, items_tokens, slot_tokens, fields_tokens, data_of, items_of, slot_after, members_after, depth, items_depth, slot_depth, fields_depth}

-- ---- the same in json's words

abbrev mutual
  json_of : Value → json.Json
  json_of null = json.null
  json_of (truth b) = json.boolean b
  json_of (whole n) = json.number (decimal n)
  json_of (text s) = json.string s
  json_of (array vs) = json.array (json_items vs)
  json_of (object fs) = json.object (json_members fs)

  json_items : Values → json.Items
  json_items no_values = json.no_items
  json_items (value_then v vs) = json.item (json_of v) (json_items vs)

  json_slot : List ℕ → Slot → json.Members → json.Members
  json_slot key absent ms = ms
  json_slot key (given v) ms = json.member key (json_of v) ms

  json_members : Fields → json.Members
  json_members no_fields = json.no_members
  json_members (field key slot fs) = json_slot key slot (json_members fs)

-- ---- tokens

mutual
  tokens_are : (v : Value) → tokens v ≡ tree.json_tokens (json_of v)
  tokens_are null = refl
  tokens_are (truth b) = refl
  tokens_are (whole n) = refl
  tokens_are (text s) = refl
  tokens_are (array vs) = ap (λ (ts : List Token). Token.begin_array ∷ ts) (items_are vs)
  tokens_are (object fs) = ap (λ (ts : List Token). Token.begin_object ∷ ts) (fields_are fs)

  items_are : (vs : Values) → items_tokens vs ++ Token.end_array ∷ [] ≡ tree.items_tokens (json_items vs)
  items_are no_values = refl
  items_are (value_then v vs) = append_assoc (tokens v) (items_tokens vs) (Token.end_array ∷ []) ∙ (λ i. tokens_are v i ++ items_are vs i)

  slot_is : (key : List ℕ) (slot : Slot) (ms : json.Members) → slot_tokens key slot ++ tree.members_tokens ms ≡ tree.members_tokens (json_slot key slot ms)
  slot_is key absent ms = refl
  slot_is key (given v) ms = ap (λ (ts : List Token). Token.key key ∷ (ts ++ tree.members_tokens ms)) (tokens_are v)

  fields_are : (fs : Fields) → fields_tokens fs ≡ tree.members_tokens (json_members fs)
  fields_are no_fields = refl
  fields_are (field key slot fs) = ap (λ (ts : List Token). slot_tokens key slot ++ ts) (fields_are fs) ∙ slot_is key slot (json_members fs)

-- ---- depths

mutual
  depth_is : (v : Value) → tree.depth (json_of v) ≡ depth v
  depth_is null = refl
  depth_is (truth b) = refl
  depth_is (whole n) = refl
  depth_is (text s) = refl
  depth_is (array vs) = ap suc (items_depth_is vs)
  depth_is (object fs) = ap suc (fields_depth_is fs)

  items_depth_is : (vs : Values) → tree.items_depth (json_items vs) ≡ items_depth vs
  items_depth_is no_values = refl
  items_depth_is (value_then v vs) = (λ i. max (depth_is v i) (items_depth_is vs i))

  slot_depth_is : (key : List ℕ) (slot : Slot) (ms : json.Members) (n : ℕ) → tree.members_depth ms ≡ n → tree.members_depth (json_slot key slot ms) ≡ max (slot_depth slot) n
  slot_depth_is key absent ms n e = omega (arith, e)
  slot_depth_is key (given v) ms n e = (λ i. max (depth_is v i) (e i))

  fields_depth_is : (fs : Fields) → tree.members_depth (json_members fs) ≡ fields_depth fs
  fields_depth_is no_fields = refl
  fields_depth_is (field key slot fs) = slot_depth_is key slot (json_members fs) (fields_depth fs) (fields_depth_is fs)

-- ---- data

-- each whole number has 64 bits
abbrev mutual
  pub HasWholes : Value → Type 0
  HasWholes null = Unit {0}
  HasWholes (truth b) = Unit {0}
  HasWholes (whole n) = n < 2 ^ 64
  HasWholes (text s) = Unit {0}
  HasWholes (array vs) = ItemsHaveWholes vs
  HasWholes (object fs) = FieldsHaveWholes fs

  pub ItemsHaveWholes : Values → Type 0
  ItemsHaveWholes no_values = Unit {0}
  ItemsHaveWholes (value_then v vs) = HasWholes v × ItemsHaveWholes vs

  pub SlotHasWholes : Slot → Type 0
  SlotHasWholes absent = Unit {0}
  SlotHasWholes (given v) = HasWholes v

  pub FieldsHaveWholes : Fields → Type 0
  FieldsHaveWholes no_fields = Unit {0}
  FieldsHaveWholes (field key slot fs) = SlotHasWholes slot × FieldsHaveWholes fs

mutual
  data_is : (v : Value) → HasWholes v → of_json (json_of v) ≡ Some (data_of v)
  data_is null h = refl
  data_is (truth b) h = refl
  data_is (whole n) h = ap (option_map read_as.number) (number_of-decimal n h)
  data_is (text s) h = refl
  data_is (array vs) h = ap (option_map read_as.array) (items_data vs h)
  data_is (object fs) h = ap (option_map read_as.object) (fields_data fs read_as.no_members h)

  items_data : (vs : Values) → ItemsHaveWholes vs → of_items (json_items vs) ≡ Some (items_of vs)
  items_data no_values h = refl
  items_data (value_then v vs) h =
      ap (option_and_then (λ d. option_map (read_as.item d) (of_items (json_items vs)))) (data_is v h.0) ∙ ap (option_map (read_as.item (data_of v))) (items_data vs h.1)

  slot_data_is : (key : List ℕ) (slot : Slot) (ms : json.Members) (found : Members) → SlotHasWholes slot → of_members (json_slot key slot ms) found ≡ of_members ms (slot_after key slot found)
  slot_data_is key absent ms found h = refl
  slot_data_is key (given v) ms found h = ap (option_and_then (λ d. of_members ms (read_as.put key d found))) (data_is v h)

  fields_data : (fs : Fields) (found : Members) → FieldsHaveWholes fs → of_members (json_members fs) found ≡ Some (members_after fs found)
  fields_data no_fields found h = refl
  fields_data (field key slot fs) found h = slot_data_is key slot (json_members fs) found h.0 ∙ fields_data fs (slot_after key slot found) h.1

-- ---- the text

-- what is printed is read back
pub read_back : (v : Value) → HasWholes v → depth v ≤ max_depth → (bytes : List ℕ) → lex.tokens bytes ≡ tokens v → read bytes ≡ Some (data_of v)
read_back v wholes shallow bytes same =
    ap (λ (r : Option (json.Json × List Token)). option_and_then of_json (option_and_then (λ p. json.if_last p.0 p.1) r))
    (ap (json.value max_depth) (same ∙ tokens_are v ∙ sym (append-nil (tree.json_tokens (json_of v)))) ∙ value-json_tokens (json_of v) max_depth [] (omega (arith, depth_is v)))
    ∙ data_is v wholes
