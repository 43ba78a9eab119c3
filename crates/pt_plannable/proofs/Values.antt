-- How long arrays are: a value that a text comes to has none of more than 65,536 elements, neither itself nor within.
use Rattle.std.proofs.Common.{◌≡◌, ◌≤◌, ℕ, zero, suc, ℤ, pos, negsuc, neg_ℤ, unsigned_abs, List, [], ◌∷◌, ◌++◌, length, Bool, true, false, not, Option, Some, None, refl, subst, arith, slice_get, if◌then◌else◌}
use Rattle.std.specs.Prelude.{nat_le, bytes_eq, int_div, ◌-ℤ◌, ◌*ℤ◌, ◌+ℤ◌, int_lt, chars}
use Rattle.std.specs.List.{AllByRecursion}
use Rattle.std.proofs.lemmas.Bool.{leb-true}
use Rattle.pt_value.specs.Value.{Value, Int, Words, Array, Record, Values, no_values, value_then, values_of, list_of, Named, no_fields, field_then, named_of, fields_of, size, size_of_values}
use Rattle.pt_value.specs.Value.{Bool as Truth}
use Rattle.pt_value.specs.Record.{field_at, names}
use Rattle.pt_language.specs.declared.expr.BinaryOp.{BinaryOp}
use Rattle.pt_language.specs.declared.expr.BinaryOp.TheVariants as op
use Rattle.pt_language.specs.declared.eval_fault.EvalFault.TheVariants.{Overflow, Size}
use Rattle.pt_language.specs.Outcome.{Outcome, Gives, Stops, Wrong, and_then}
use Rattle.pt_language.specs.Scope.{Scope, port_in, presence, presence_in, held, looked_up}
use Rattle.pt_language.specs.Same.{is_same}
use Rattle.pt_language.specs.Comparable.{have_join}
use Rattle.pt_language.specs.RecordOf.{is_below, put, by_name, make_record, record_of}
use Rattle.pt_language.specs.Tree as tree
use Rattle.pt_language.specs.Tree.{Tree, Trees, no_trees, tree_then, NamedTrees}
use Rattle.pt_language.specs.Meaning.{fits, exact, within, of_int, of_ints, truth, negated, denied, magnitude, greatest, least, divided, compared, arithmetic, sum, applied, either, both, operated, chosen, found, at, element, there, field, length_of, recorded, arrayed, value, values, named_values}

-- ---- values

-- each array of the value, be it itself or within, has at most 65,536 elements
abbrev mutual
  pub IsShort : Value → Type 0
  IsShort (Int n) = Unit {0}
  IsShort (Truth b) = Unit {0}
  IsShort (Words xs) = Unit {0}
  IsShort (Array vs) = (length (list_of vs) ≤ 65536) × AreShort vs
  IsShort (Record fs) = HaveShort fs

  pub AreShort : Values → Type 0
  AreShort no_values = Unit {0}
  AreShort (value_then v vs) = IsShort v × AreShort vs

  pub HaveShort : Named → Type 0
  HaveShort no_fields = Unit {0}
  HaveShort (field_then n v fs) = IsShort v × HaveShort fs

IsShortField : List ℕ × Value → Type 0
IsShortField f = IsShort f.1

as-values : (vs : List Value) → AllByRecursion IsShort vs → AreShort (values_of vs)
as-values [] a = tt
as-values (v ∷ vs) a = (a.0, as-values vs a.1)

as-list : (vs : Values) → AreShort vs → AllByRecursion IsShort (list_of vs)
as-list no_values a = tt
as-list (value_then v vs) a = (a.0, as-list vs a.1)

as-named : (fs : List (List ℕ × Value)) → AllByRecursion (λ (f : List ℕ × Value). IsShort f.1) fs → HaveShort (named_of fs)
as-named [] a = tt
as-named (f ∷ fs) a = (a.0, as-named fs a.1)

as-fields : (fs : Named) → HaveShort fs → AllByRecursion (λ (f : List ℕ × Value). IsShort f.1) (fields_of fs)
as-fields no_fields a = tt
as-fields (field_then n v fs) a = (a.0, as-fields fs a.1)

-- each part counts
one-each : (v : Value) → 1 ≤ size v
one-each (Int n) = omega arith
one-each (Truth b) = omega arith
one-each (Words xs) = omega arith
one-each (Array vs) = omega arith
one-each (Record fs) = omega arith

counted : (vs : Values) → length (list_of vs) ≤ size_of_values vs
counted no_values = omega arith
counted (value_then v vs) = let one = one-each v in let more = counted vs in omega (arith, one, more)

-- ---- outcomes

-- a value that is given is such
abbrev OfIf : {A : Type 0} → (A → Type 0) → Outcome A → Type 0
OfIf P (Gives x) = P x
OfIf P (Stops fault) = Unit {0}
OfIf P Wrong = Unit {0}

-- so it is with a value
abbrev Short : Outcome Value → Type 0
Short o = OfIf IsShort o

then-of : {A B : Type 0} (P : A → Type 0) (Q : B → Type 0) (o : Outcome A) (go : A → Outcome B) → OfIf P o → ((x : A) → P x → OfIf Q (go x)) → OfIf Q (and_then o go)
then-of P Q (Gives x) go h f = f x h
then-of P Q (Stops fault) go h f = tt
then-of P Q Wrong go h f = tt

-- whatever is given
any-of : {A : Type 0} (o : Outcome A) → OfIf (λ (x : A). Unit {0}) o
any-of (Gives x) = tt
any-of (Stops fault) = tt
any-of Wrong = tt

if-of : (b : Bool) (x y : Outcome Value) → Short x → Short y → Short (if b then x else y)
if-of true x y h g = h
if-of false x y h g = g

exact-short : (n : ℤ) → Short (exact n)
exact-short n = if-of (fits n) (Gives (Int n)) (Stops Overflow) tt tt

within-short : (v : Value) → IsShort v → Short (within v)
within-short v h = if-of (nat_le (size v) 65536) (Gives v) (Stops Size) h tt

int-short : (go : ℤ → Outcome Value) (v : Value) → ((n : ℤ) → Short (go n)) → Short (of_int go v)
int-short go (Int n) h = h n
int-short go (Truth b) h = tt
int-short go (Words xs) h = tt
int-short go (Array vs) h = tt
int-short go (Record fs) h = tt

ints-short : (go : ℤ → ℤ → Outcome Value) (v w : Value) → ((m n : ℤ) → Short (go m n)) → Short (of_ints go v w)
ints-short go (Int m) (Int n) h = h m n
ints-short go (Int m) (Truth b) h = tt
ints-short go (Int m) (Words xs) h = tt
ints-short go (Int m) (Array vs) h = tt
ints-short go (Int m) (Record fs) h = tt
ints-short go (Truth b) w h = tt
ints-short go (Words xs) w h = tt
ints-short go (Array vs) w h = tt
ints-short go (Record fs) w h = tt

denied-short : (v : Value) → Short (denied v)
denied-short (Int n) = tt
denied-short (Truth b) = tt
denied-short (Words xs) = tt
denied-short (Array vs) = tt
denied-short (Record fs) = tt

divided-short : (go : ℤ → ℤ → Outcome Value) (m n : ℤ) → ((i j : ℤ) → Short (go i j)) → Short (divided go m n)
divided-short go m (pos zero) h = tt
divided-short go m (pos (suc n)) h = h m (pos (suc n))
divided-short go m (negsuc n) h = h m (negsuc n)

arithmetic-short : (o : BinaryOp) (m n : ℤ) → Short (arithmetic o m n)
arithmetic-short op.Or m n = tt
arithmetic-short op.And m n = tt
arithmetic-short op.Equal m n = tt
arithmetic-short op.Unequal m n = tt
arithmetic-short op.Less m n = tt
arithmetic-short op.LessEqual m n = tt
arithmetic-short op.Greater m n = tt
arithmetic-short op.GreaterEqual m n = tt
arithmetic-short op.Add m n = exact-short (m +ℤ n)
arithmetic-short op.Subtract m n = exact-short (m -ℤ n)
arithmetic-short op.Multiply m n = exact-short (m *ℤ n)
arithmetic-short op.Divide m n = divided-short (λ i j. exact (int_div i j)) m n (λ i j. exact-short (int_div i j))
arithmetic-short op.Remainder m n = divided-short (λ i j. Gives (Int (i -ℤ (j *ℤ int_div i j)))) m n (λ i j. tt)

compared-short : (answer : Bool → Bool) (x y : Value) → Short (compared answer x y)
compared-short answer x y = if-of (have_join x y) (Gives (Truth (answer (is_same x y)))) Wrong tt tt

sum-short : (x y : Value) → Short (sum x y)
sum-short (Int m) (Int n) = exact-short (m +ℤ n)
sum-short (Words xs) (Words ys) = within-short (Words (xs ++ ys)) tt
sum-short (Int m) (Truth b) = tt
sum-short (Int m) (Words xs) = tt
sum-short (Int m) (Array vs) = tt
sum-short (Int m) (Record fs) = tt
sum-short (Words xs) (Int n) = tt
sum-short (Words xs) (Truth b) = tt
sum-short (Words xs) (Array vs) = tt
sum-short (Words xs) (Record fs) = tt
sum-short (Truth b) y = tt
sum-short (Array vs) y = tt
sum-short (Record fs) y = tt

applied-short : (o : BinaryOp) (x y : Value) → Short (applied o x y)
applied-short op.Or x y = ints-short (arithmetic op.Or) x y (arithmetic-short op.Or)
applied-short op.And x y = ints-short (arithmetic op.And) x y (arithmetic-short op.And)
applied-short op.Equal x y = compared-short (λ b. b) x y
applied-short op.Unequal x y = compared-short not x y
applied-short op.Less x y = ints-short (arithmetic op.Less) x y (arithmetic-short op.Less)
applied-short op.LessEqual x y = ints-short (arithmetic op.LessEqual) x y (arithmetic-short op.LessEqual)
applied-short op.Greater x y = ints-short (arithmetic op.Greater) x y (arithmetic-short op.Greater)
applied-short op.GreaterEqual x y = ints-short (arithmetic op.GreaterEqual) x y (arithmetic-short op.GreaterEqual)
applied-short op.Add x y = sum-short x y
applied-short op.Subtract x y = ints-short (arithmetic op.Subtract) x y (arithmetic-short op.Subtract)
applied-short op.Multiply x y = ints-short (arithmetic op.Multiply) x y (arithmetic-short op.Multiply)
applied-short op.Divide x y = ints-short (arithmetic op.Divide) x y (arithmetic-short op.Divide)
applied-short op.Remainder x y = ints-short (arithmetic op.Remainder) x y (arithmetic-short op.Remainder)

-- an operand as a truth value
truth-short : (o : Outcome Value) → Short (and_then o (λ y. and_then (truth y) (λ c. Gives (Truth c))))
truth-short o = then-of (λ (x : Value). Unit {0}) IsShort o (λ y. and_then (truth y) (λ c. Gives (Truth c))) (any-of o) (λ y h. then-of (λ (c : Bool). Unit {0}) IsShort (truth y) (λ c. Gives (Truth c)) (any-of (truth y)) (λ c g. tt))

either-short : (first later : Outcome Value) → Short (either first later)
either-short first later = then-of (λ (x : Value). Unit {0}) IsShort first (λ x. and_then (truth x) (λ b. if b then Gives (Truth true) else and_then later (λ y. and_then (truth y) (λ c. Gives (Truth c))))) (any-of first) (λ x h.
    then-of (λ (b : Bool). Unit {0}) IsShort (truth x) (λ b. if b then Gives (Truth true) else and_then later (λ y. and_then (truth y) (λ c. Gives (Truth c)))) (any-of (truth x)) (λ b g. if-of b (Gives (Truth true)) (and_then later (λ y. and_then (truth y) (λ c. Gives (Truth c)))) tt (truth-short later)))

both-short : (first later : Outcome Value) → Short (both first later)
both-short first later = then-of (λ (x : Value). Unit {0}) IsShort first (λ x. and_then (truth x) (λ b. if b then and_then later (λ y. and_then (truth y) (λ c. Gives (Truth c))) else Gives (Truth false))) (any-of first) (λ x h.
    then-of (λ (b : Bool). Unit {0}) IsShort (truth x) (λ b. if b then and_then later (λ y. and_then (truth y) (λ c. Gives (Truth c))) else Gives (Truth false)) (any-of (truth x)) (λ b g. if-of b (and_then later (λ y. and_then (truth y) (λ c. Gives (Truth c)))) (Gives (Truth false)) (truth-short later) tt))

strict-short : (o : BinaryOp) (first later : Outcome Value) → Short (and_then first (λ x. and_then later (applied o x)))
strict-short o first later = then-of (λ (x : Value). Unit {0}) IsShort first (λ x. and_then later (applied o x)) (any-of first) (λ x h. then-of (λ (y : Value). Unit {0}) IsShort later (applied o x) (any-of later) (λ y g. applied-short o x y))

operated-short : (o : BinaryOp) (first later : Outcome Value) → Short (operated o first later)
operated-short op.Or first later = either-short first later
operated-short op.And first later = both-short first later
operated-short op.Equal first later = strict-short op.Equal first later
operated-short op.Unequal first later = strict-short op.Unequal first later
operated-short op.Less first later = strict-short op.Less first later
operated-short op.LessEqual first later = strict-short op.LessEqual first later
operated-short op.Greater first later = strict-short op.Greater first later
operated-short op.GreaterEqual first later = strict-short op.GreaterEqual first later
operated-short op.Add first later = strict-short op.Add first later
operated-short op.Subtract first later = strict-short op.Subtract first later
operated-short op.Multiply first later = strict-short op.Multiply first later
operated-short op.Divide first later = strict-short op.Divide first later
operated-short op.Remainder first later = strict-short op.Remainder first later

chosen-short : (test first second : Outcome Value) → Short first → Short second → Short (chosen test first second)
chosen-short test first second h g = then-of (λ (x : Value). Unit {0}) IsShort test (λ x. and_then (truth x) (λ b. if b then first else second)) (any-of test) (λ x t. then-of (λ (b : Bool). Unit {0}) IsShort (truth x) (λ b. if b then first else second) (any-of (truth x)) (λ b s. if-of b first second h g))

-- an element and a field are parts
found-short : (vs : List Value) (n : ℕ) → AllByRecursion IsShort vs → Short (found (slice_get vs n))
found-short [] n a = tt
found-short (v ∷ vs) zero a = a.0
found-short (v ∷ vs) (suc n) a = found-short vs n a.1

at-short : (vs : List Value) (n : ℤ) → AllByRecursion IsShort vs → Short (at vs n)
at-short vs (pos n) a = found-short vs n a
at-short vs (negsuc n) a = tt

element-short : (x y : Value) → IsShort x → Short (element x y)
element-short (Array vs) (Int n) h = at-short (list_of vs) n (as-list vs h.1)
element-short (Array vs) (Truth b) h = tt
element-short (Array vs) (Words xs) h = tt
element-short (Array vs) (Array ws) h = tt
element-short (Array vs) (Record fs) h = tt
element-short (Int n) y h = tt
element-short (Truth b) y h = tt
element-short (Words xs) y h = tt
element-short (Record fs) y h = tt

there-short : (fs : List (List ℕ × Value)) (name : List ℕ) → AllByRecursion (λ (f : List ℕ × Value). IsShort f.1) fs → Short (there (field_at fs name))
there-short [] name a = tt
there-short (f ∷ fs) name a = by_test (bytes_eq f.0 name) (there-short fs name a.1)
  where
    by_test : (b : Bool) → Short (there (field_at fs name)) → Short (there (if b then Some f.1 else field_at fs name))
    by_test true h = a.0
    by_test false h = h

field-short : (name : List ℕ) (v : Value) → IsShort v → Short (field name v)
field-short name (Record fs) h = there-short (fields_of fs) name (as-fields fs h)
field-short name (Int n) h = tt
field-short name (Truth b) h = tt
field-short name (Words xs) h = tt
field-short name (Array vs) h = tt

length-short : (v : Value) → Short (length_of v)
length-short (Words xs) = exact-short (pos (length (chars xs)))
length-short (Array vs) = exact-short (pos (length (list_of vs)))
length-short (Int n) = tt
length-short (Truth b) = tt
length-short (Record fs) = tt

-- a record has the fields that it is made of
put-short : (f : List ℕ × Value) (gs : List (List ℕ × Value)) → IsShort f.1 → AllByRecursion (λ (g : List ℕ × Value). IsShort g.1) gs → AllByRecursion (λ (g : List ℕ × Value). IsShort g.1) (put f gs)
put-short f [] h a = (h, tt)
put-short f (g ∷ gs) h a = by_test (is_below f.0 g.0) (put-short f gs h a.1)
  where
    by_test : (b : Bool) → AllByRecursion (λ (x : List ℕ × Value). IsShort x.1) (put f gs) → AllByRecursion (λ (x : List ℕ × Value). IsShort x.1) (if b then f ∷ g ∷ gs else g ∷ put f gs)
    by_test true more = (h, a)
    by_test false more = (a.0, more)

ordered-short : (fs : List (List ℕ × Value)) → AllByRecursion (λ (f : List ℕ × Value). IsShort f.1) fs → AllByRecursion (λ (f : List ℕ × Value). IsShort f.1) (by_name fs)
ordered-short [] a = tt
ordered-short (f ∷ fs) a = put-short f (by_name fs) a.0 (ordered-short fs a.1)

recorded-short : (fs : List (List ℕ × Value)) → AllByRecursion (λ (f : List ℕ × Value). IsShort f.1) fs → Short (recorded fs)
recorded-short fs a = then-of IsShort IsShort (record_of fs) within (if-of (make_record (names fs)) (Gives (Record (named_of (by_name fs)))) Wrong (as-named (by_name fs) (ordered-short fs a)) tt) within-short

-- an array that isn't too large has few elements
arrayed-short : (vs : List Value) → AllByRecursion IsShort vs → Short (arrayed vs)
arrayed-short vs a = by_test (nat_le (size (Array (values_of vs))) 65536) refl
  where
    by_test : (b : Bool) → nat_le (size (Array (values_of vs))) 65536 ≡ b → Short (if b then Gives (Array (values_of vs)) else Stops Size)
    by_test true fits_in = let most = leb-true (size (Array (values_of vs))) 65536 fits_in in let few = counted (values_of vs) in (omega (arith, most, few), as-values vs a)
    by_test false fits_in = tt

-- ---- names

-- what is held under a name is such a value
abbrev pub IsShortHeld : Option Value → Type 0
IsShortHeld None = Unit {0}
IsShortHeld (Some v) = IsShort v

abbrev pub IsShortEntry : Option (Option Value) → Type 0
IsShortEntry None = Unit {0}
IsShortEntry (Some o) = IsShortHeld o

held-short : (o : Option Value) → IsShortHeld o → Short (held o)
held-short None h = tt
held-short (Some v) h = h

presence-short : (o : Option (Option Value)) → Short (presence o)
presence-short None = tt
presence-short (Some o) = tt

presence-in-short : (scope : Scope) (o : Option (List ℕ)) → Short (presence_in scope o)
presence-in-short scope None = tt
presence-in-short scope (Some port) = presence-short (scope port)

looked-short : (o : Option (Option Value)) (otherwise : Outcome Value) → IsShortEntry o → Short otherwise → Short (looked_up o otherwise)
looked-short None otherwise h g = g
looked-short (Some o) otherwise h g = held-short o h

-- ---- trees

module _ (scope : Scope) (short : (name : List ℕ) → IsShortEntry (scope name)) where
  mutual
    pub value-short : (t : Tree) → Short (value scope t)
    value-short (tree.Int n) = tt
    value-short (tree.Bool b) = tt
    value-short (tree.Words xs) = tt
    value-short (tree.Name name) = looked-short (scope name) (presence_in scope (port_in name)) (short name) (presence-in-short scope (port_in name))
    value-short (tree.Array ts) = then-of (AllByRecursion IsShort) IsShort (values scope ts) arrayed (values-short ts) arrayed-short
    value-short (tree.Record fs) = then-of (AllByRecursion (λ (f : List ℕ × Value). IsShort f.1)) IsShort (named_values scope fs) recorded (named-short fs) recorded-short
    value-short (tree.Negate t) = then-of IsShort IsShort (value scope t) negated (value-short t) (λ v h. int-short (λ n. exact (neg_ℤ n)) v (λ n. exact-short (neg_ℤ n)))
    value-short (tree.Not t) = then-of IsShort IsShort (value scope t) denied (value-short t) (λ v h. denied-short v)
    value-short (tree.Binary o s t) = operated-short o (value scope s) (value scope t)
    value-short (tree.Cond s t u) = chosen-short (value scope s) (value scope t) (value scope u) (value-short t) (value-short u)
    value-short (tree.Abs t) = then-of IsShort IsShort (value scope t) magnitude (value-short t) (λ v h. int-short (λ n. exact (pos (unsigned_abs n))) v (λ n. exact-short (pos (unsigned_abs n))))
    value-short (tree.Max s t) = then-of IsShort IsShort (value scope s) (λ x. and_then (value scope t) (greatest x)) (value-short s) (λ x h. then-of IsShort IsShort (value scope t) (greatest x) (value-short t) (λ y g. ints-short (λ m n. Gives (Int (if int_lt m n then n else m))) x y (λ m n. tt)))
    value-short (tree.Min s t) = then-of IsShort IsShort (value scope s) (λ x. and_then (value scope t) (least x)) (value-short s) (λ x h. then-of IsShort IsShort (value scope t) (least x) (value-short t) (λ y g. ints-short (λ m n. Gives (Int (if int_lt n m then n else m))) x y (λ m n. tt)))
    value-short (tree.Apply s t) = then-of IsShort IsShort (value scope s) (λ x. and_then (value scope t) (element x)) (value-short s) (λ x h. then-of IsShort IsShort (value scope t) (element x) (value-short t) (λ y g. element-short x y h))
    value-short (tree.Field t name) = then-of IsShort IsShort (value scope t) (field name) (value-short t) (field-short name)
    value-short (tree.Length t) = then-of IsShort IsShort (value scope t) length_of (value-short t) (λ v h. length-short v)

    values-short : (ts : Trees) → OfIf (AllByRecursion IsShort) (values scope ts)
    values-short no_trees = tt
    values-short (tree_then t ts) = then-of IsShort (AllByRecursion IsShort) (value scope t) (λ v. and_then (values scope ts) (λ vs. Gives (v ∷ vs))) (value-short t) (λ v h. then-of (AllByRecursion IsShort) (AllByRecursion IsShort) (values scope ts) (λ vs. Gives (v ∷ vs)) (values-short ts) (λ vs g. (h, g)))

    named-short : (fs : NamedTrees) → OfIf (AllByRecursion (λ (f : List ℕ × Value). IsShort f.1)) (named_values scope fs)
    named-short tree.no_fields = tt
    named-short (tree.field_then n t fs) = then-of IsShort (AllByRecursion (λ (f : List ℕ × Value). IsShort f.1)) (value scope t) (λ v. and_then (named_values scope fs) (λ ps. Gives ((n, v) ∷ ps))) (value-short t) (λ v h. then-of (AllByRecursion (λ (f : List ℕ × Value). IsShort f.1)) (AllByRecursion (λ (f : List ℕ × Value). IsShort f.1)) (named_values scope fs) (λ ps. Gives ((n, v) ∷ ps)) (named-short fs) (λ ps g. (h, g)))

  -- a value that is given is short
  pub given-short : (t : Tree) (v : Value) → value scope t ≡ Gives v → IsShort v
  given-short t v e = subst (λ (o : Outcome Value). Short o) e (value-short t)
