-- What is found in a value is less deep than the value.
use Rattle.std.proofs.Common.{◌≡◌, ℕ, zero, suc, ◌+◌, ◌*◌, ◌<◌, ◌≤◌, max, List, [], ◌∷◌, get_or, length, Option, Some, None, refl, Ordering, Less, Equal, Greater, subst, arith}
use Rattle.std.specs.Ordering.{nat_cmp, match_ordering}
use Rattle.std.specs.Cmp.Lexicographic.{slice_cmp}
use Rattle.serde_json.specs.Data.{Data, null, boolean, number, string, array, object, Items, no_items, item, Members, no_members, member, depth, items_depth, members_depth}
use Rattle.serde_json.specs.Find.{get, get_item, get_member, as_array}
use Rattle.pt_json.specs.View.{view, items_view}
use Rattle.pt_json.specs.declared.value.Value.{Value}

chosen_depth : (o : Ordering) (rest : Option Data) (d e : Data) (m : ℕ) → (rest ≡ Some e → depth e ≤ m) → match_ordering o rest (Some d) rest ≡ Some e → depth e ≤ max (depth d) m
chosen_depth Less rest d e m h is = omega (arith, h is)
chosen_depth Equal rest d e m h is = let same : d ≡ e = cc in subst (λ (x : Data). depth x ≤ max (depth d) m) same (omega arith)
chosen_depth Greater rest d e m h is = omega (arith, h is)

member_depth : (k : List ℕ) (ms : Members) (e : Data) → get_member k ms ≡ Some e → depth e ≤ members_depth ms
member_depth k no_members e is = absurd cc
member_depth k (member l d ms) e is = chosen_depth (slice_cmp nat_cmp k l) (get_member k ms) d e (members_depth ms) (member_depth k ms e) is

pub get_depth : (k : List ℕ) (d e : Data) → get k d ≡ Some e → depth e < depth d
get_depth k null e is = absurd cc
get_depth k (boolean b) e is = absurd cc
get_depth k (number n) e is = absurd cc
get_depth k (string s) e is = absurd cc
get_depth k (array ds) e is = absurd cc
get_depth k (object ms) e is = omega (arith, member_depth k ms e is)

pub array_depth : (d : Data) (ds : Items) → as_array d ≡ Some ds → items_depth ds < depth d
array_depth null ds is = absurd cc
array_depth (boolean b) ds is = absurd cc
array_depth (number n) ds is = absurd cc
array_depth (string s) ds is = absurd cc
array_depth (array es) ds is = let same : es ≡ ds = cc in subst (λ (x : Items). items_depth x < suc (items_depth es)) same (omega arith)
array_depth (object ms) ds is = absurd cc

pub item_depth : (vs : List Value) (i : ℕ) (x : Value) → i < length vs → depth (view (get_or vs i x)) ≤ items_depth (items_view vs)
item_depth [] i x h = absurd (omega arith)
item_depth (v ∷ vs) zero x h = omega arith
item_depth (v ∷ vs) (suc i) x h = omega (arith, item_depth vs i x (omega arith))

abbrev pub field_depth : Option Data → ℕ
field_depth None = 0
field_depth (Some d) = depth d

-- what stands at a field is less deep than the object, unless nothing stands there
pub get_field_depth : (k : List ℕ) (d : Data) → 4 * field_depth (get k d) + 2 < 4 * depth d + 3
get_field_depth k d = chosen (get k d) (λ e is. get_depth k d e is)
  where
    chosen : (field : Option Data) → ((e : Data) → field ≡ Some e → depth e < depth d) → 4 * field_depth field + 2 < 4 * depth d + 3
    chosen None h = omega arith
    chosen (Some e) h = omega (arith, h e refl)

-- an item is at most as deep as its list
pub get_item_depth : (i : ℕ) (ds : Items) (x : Data) → get_item i ds ≡ Some x → depth x ≤ items_depth ds
get_item_depth i no_items x is = absurd cc
get_item_depth zero (item d ds) x is = let same : d ≡ x = cc in subst (λ (y : Data). depth y ≤ max (depth d) (items_depth ds)) same (omega arith)
get_item_depth (suc i) (item d ds) x is = omega (arith, get_item_depth i ds x is)

-- an item of a list at a field is less deep than the object by two
pub field_item_depth : (k : List ℕ) (d e : Data) (ds : Items) (i : ℕ) (x : Data) → get k d ≡ Some e → as_array e ≡ Some ds → get_item i ds ≡ Some x → depth x + 1 < depth d
field_item_depth k d e ds i x is list at_i = omega (arith, get_depth k d e is, array_depth e ds list, get_item_depth i ds x at_i)
