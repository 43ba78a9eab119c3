-- The whole numbers of data that was read have 64 bits.
use Rattle.std.proofs.Common.{◌≡◌, ℕ, ◌^◌, ◌<◌, List, drop, Option, Some, None, Bool, true, false, cond, ◌&&◌, ◌==◌, ℤ, Float, nat_lt, slice_index, option_map, option_and_then, Ordering, Less, Equal, Greater, refl, subst, arith}
use Rattle.std.proofs.lemmas.Bool.Decides.{nat_tests}
use Rattle.std.specs.Ordering.{nat_cmp, match_ordering}
use Rattle.std.specs.Cmp.Lexicographic.{slice_cmp}
use Rattle.json.specs.Lex.{tokens}
use Rattle.json.specs.Json as json
use Rattle.std.specs.Float.{binary64, float_is_finite}
use Rattle.fast_float.specs.Text.{Parts, minus, scan, digits_of, nearest}
use Rattle.serde_json.specs.Data.{Num, unsigned, negative, float, Data, null, boolean, number, string, array, object, Items, no_items, item, Members, no_members, member, put}
use Rattle.serde_json.specs.Find.{get, get_member}
use Rattle.serde_json.specs.Read.{is_integer, float_of, number_from, number_of, of_json, of_items, of_members, max_depth, read}

abbrev pub IsSoundNum : Num → Type 0
IsSoundNum (unsigned n) = n < 2 ^ 64
IsSoundNum (negative z) = Unit {0}
IsSoundNum (float x) = Unit {0}

abbrev mutual
  pub IsSound : Data → Type 0
  IsSound null = Unit {0}
  IsSound (boolean b) = Unit {0}
  IsSound (number n) = IsSoundNum n
  IsSound (string s) = Unit {0}
  IsSound (array ds) = AreSound ds
  IsSound (object ms) = HasSound ms

  pub AreSound : Items → Type 0
  AreSound no_items = Unit {0}
  AreSound (item d ds) = IsSound d × AreSound ds

  pub HasSound : Members → Type 0
  HasSound no_members = Unit {0}
  HasSound (member k d ms) = IsSound d × HasSound ms

abbrev If : {A : Type 0} → (A → Type 0) → Option A → Type 0
If P None = Unit {0}
If P (Some a) = P a

If-map : {A B : Type 0} (P : A → Type 0) (Q : B → Type 0) (f : A → B) → ((a : A) → P a → Q (f a)) → (o : Option A) → If P o → If Q (option_map f o)
If-map P Q f h None x = tt
If-map P Q f h (Some a) x = h a x

If-and_then : {A B : Type 0} (P : A → Type 0) (Q : B → Type 0) (f : A → Option B) → ((a : A) → P a → If Q (f a)) → (o : Option A) → If P o → If Q (option_and_then f o)
If-and_then P Q f h None x = tt
If-and_then P Q f h (Some a) x = h a x

-- ---- numbers

either_float : (b : Bool) (x : Float) → If IsSoundNum (cond b (Some (float x)) None)
either_float true x = tt
either_float false x = tt

sound_float : (sign : Bool) (p : Parts) → If IsSoundNum (float_of sign p)
sound_float sign p = either_float (float_is_finite (nearest binary64 sign p)) (nearest binary64 sign p)

either_negative : (b : Bool) (z : ℤ) (o : Option Num) → If IsSoundNum o → If IsSoundNum (cond b (Some (negative z)) o)
either_negative true z o h = tt
either_negative false z o h = h

either : {A : Type 0} (P : A → Type 0) (b : Bool) (x y : Option A) → If P x → If P y → If P (cond b x y)
either P true x y h k = h
either P false x y h k = k

sound_from : (sign : Bool) (p : Parts) → If IsSoundNum (number_from sign p)
sound_from false p = chosen (is_integer p) (nat_lt (digits_of p) (2 ^ 64)) refl
  where
    chosen : (a b : Bool) → nat_lt (digits_of p) (2 ^ 64) ≡ b → If IsSoundNum (cond (a && b) (Some (unsigned (digits_of p))) (float_of false p))
    chosen true true is = grind (arith, nat_tests, is)
    chosen true false is = sound_float false p
    chosen false true is = sound_float false p
    chosen false false is = sound_float false p
sound_from true p = either_negative _ _ (float_of true p) (sound_float true p)

sound_number : (s : List ℕ) → If IsSoundNum (number_of s)
unfolding number_of
sound_number s = either IsSoundNum (slice_index s 0 == minus) (number_from true (scan (drop 1 s))) (number_from false (scan s)) (sound_from true (scan (drop 1 s))) (sound_from false (scan s))

-- ---- values

sound_ordering : (o : Ordering) (a b c : Members) → HasSound a → HasSound b → HasSound c → HasSound (match_ordering o a b c)
sound_ordering Less a b c p q r = p
sound_ordering Equal a b c p q r = q
sound_ordering Greater a b c p q r = r

sound_put : (k : List ℕ) (d : Data) (ms : Members) → IsSound d → HasSound ms → HasSound (put k d ms)
sound_put k d no_members p q = (p, tt)
sound_put k d (member l e ms) p q = sound_ordering _ (member k d (member l e ms)) (member l d ms) (member l e (put k d ms)) (p, q) (p, q.1) (q.0, sound_put k d ms p q.1)

mutual
  sound_json : (j : json.Json) → If IsSound (of_json j)
  sound_json json.null = tt
  sound_json (json.boolean b) = tt
  sound_json (json.number s) = If-map IsSoundNum IsSound number (λ n h. h) (number_of s) (sound_number s)
  sound_json (json.string s) = tt
  sound_json (json.array js) = If-map AreSound IsSound array (λ ds h. h) (of_items js) (sound_items js)
  sound_json (json.object ms) = If-map HasSound IsSound object (λ ms h. h) (of_members ms no_members) (sound_members ms no_members tt)

  sound_items : (js : json.Items) → If AreSound (of_items js)
  sound_items json.no_items = tt
  sound_items (json.item j js) = If-and_then IsSound AreSound _ (λ d h. If-map AreSound AreSound (item d) (λ ds k. (h, k)) (of_items js) (sound_items js)) (of_json j) (sound_json j)

  sound_members : (ms : json.Members) (found : Members) → HasSound found → If HasSound (of_members ms found)
  sound_members json.no_members found h = h
  sound_members (json.member k j ms) found h = If-and_then IsSound HasSound _ (λ d p. sound_members ms (put k d found) (sound_put k d found p h)) (of_json j) (sound_json j)

any_json : (o : Option json.Json) → If IsSound (option_and_then of_json o)
any_json None = tt
any_json (Some j) = sound_json j

pub sound_read : (text : List ℕ) (d : Data) → read text ≡ Some d → IsSound d
sound_read text d e = subst (If IsSound) e (any_json (option_and_then (λ p. json.if_last p.0 p.1) (json.value max_depth (tokens text))))

-- ---- what is found

chosen_sound : (o : Ordering) (rest : Option Data) (d e : Data) → IsSound d → (rest ≡ Some e → IsSound e) → match_ordering o rest (Some d) rest ≡ Some e → IsSound e
chosen_sound Less rest d e p h is = h is
chosen_sound Equal rest d e p h is = let same : d ≡ e = cc in subst IsSound same p
chosen_sound Greater rest d e p h is = h is

member_sound : (k : List ℕ) (ms : Members) (e : Data) → HasSound ms → get_member k ms ≡ Some e → IsSound e
member_sound k no_members e h is = absurd cc
member_sound k (member l d ms) e h is = chosen_sound (slice_cmp nat_cmp k l) (get_member k ms) d e h.0 (member_sound k ms e h.1) is

pub get_sound : (k : List ℕ) (d e : Data) → IsSound d → get k d ≡ Some e → IsSound e
get_sound k null e h is = absurd cc
get_sound k (boolean b) e h is = absurd cc
get_sound k (number n) e h is = absurd cc
get_sound k (string s) e h is = absurd cc
get_sound k (array ds) e h is = absurd cc
get_sound k (object ms) e h is = member_sound k ms e h is
