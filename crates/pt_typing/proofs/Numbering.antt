-- Numbers of variables, and a list with a type for each number.
use Rattle.std.proofs.Common.{◌≡◌, ℕ, zero, suc, ◌+◌, ◌<◌, ◌≤◌, Bool, true, false, List, [], ◌∷◌, ◌++◌, length, get_or, refl, sym, ap, ◌∙◌, if◌then◌else◌, arith}
use Rattle.std.proofs.Math.Dec.{ltb}
use Rattle.std.proofs.lemmas.Bool.{lt-ltb, ltb-true, le-ltb, ltb-false}
use Rattle.pt_datatypes.specs.Datatype.{Datatype, Unknown}
use Rattle.pt_datatypes.specs.Normal.{IsType}
use Rattle.pt_datatypes.specs.Rules.{type_at}
use Rattle.pt_typing.specs.declared.variable.Variable.{Variable}
use Rattle.pt_typing.specs.declared.variable.Variable.TheVariants.{Port, Row}
use Rattle.pt_typing.specs.declared.numbers.Numbers.{Numbers}
use Rattle.pt_typing.specs.Numbers.{row_number, total, within, port_number, number, is_there, row_in, port_in, number_in, AreNumbers}

-- ---- numbers

pub row-le : (cs : List ℕ) (k : ℕ) → row_number cs k ≤ total cs
row-le [] k = omega arith
row-le (c ∷ cs) zero = omega arith
row-le (c ∷ cs) (suc k) = omega (arith, row-le cs k)

pub row-next : (cs : List ℕ) (k : ℕ) → k < length cs → row_number cs (suc k) ≡ suc (row_number cs k + get_or cs k 0)
row-next [] k h = absurd (omega arith)
row-next (c ∷ []) zero h = omega arith
row-next (c ∷ d ∷ cs) zero h = omega arith
row-next (c ∷ cs) (suc k) h = omega (arith, row-next cs k (omega arith))

pub row-past : (cs : List ℕ) (k : ℕ) → length cs ≤ k → row_number cs k ≡ total cs
row-past [] k h = refl
row-past (c ∷ cs) zero h = absurd (omega arith)
row-past (c ∷ cs) (suc k) h = omega (arith, row-past cs k (omega arith))

within-by : (b : Bool) (n bound all : ℕ) → ltb n bound ≡ b → bound ≤ all → (if b then n else all) ≤ all
within-by true n bound all e h = omega (arith, ltb-true n bound e)
within-by false n bound all e h = omega arith

pub number-le : (cs : List ℕ) (v : Variable) → number cs v ≤ total cs
number-le cs (Port k i) = within-by (ltb (row_number cs k + suc i) (row_number cs (suc k))) (row_number cs k + suc i) (row_number cs (suc k)) (total cs) refl (row-le cs (suc k))
number-le cs (Row k) = row-le cs k

pub same-number : (cs : List ℕ) (numbers : Numbers) → AreNumbers cs numbers → (v : Variable) → number_in numbers v ≡ number cs v
same-number cs numbers h (Port k i) = λ j. within (h.rows k j + suc i) (h.rows (suc k) j) (h.all j)
same-number cs numbers h (Row k) = h.rows k

-- ---- what isn't there

past-none : (cs : List ℕ) (k : ℕ) → length cs ≤ k → get_or cs k 0 ≡ 0
past-none [] k h = refl
past-none (c ∷ cs) zero h = absurd (omega arith)
past-none (c ∷ cs) (suc k) h = past-none cs k (omega arith)

here-or : (cs : List ℕ) (k : ℕ) (b : Bool) → ltb k (length cs) ≡ b → (i : ℕ) → i < get_or cs k 0 → k < length cs
here-or cs k true e i h = ltb-true k (length cs) e
here-or cs k false e i h = absurd (omega (arith, past-none cs k (ltb-false k (length cs) e)))

outside-by : (cs : List ℕ) (k : ℕ) (b : Bool) → ltb k (length cs) ≡ b → (i : ℕ) → get_or cs k 0 ≤ i → row_number cs (suc k) ≤ row_number cs k + suc i
outside-by cs k true e i h = omega (arith, row-next cs k (ltb-true k (length cs) e))
outside-by cs k false e i h = omega (arith, row-past cs k (ltb-false k (length cs) e), row-past cs (suc k) (omega (arith, ltb-false k (length cs) e)))

pub number-outside : (cs : List ℕ) (v : Variable) → is_there cs v ≡ false → number cs v ≡ total cs
number-outside cs (Port k i) e =
    let n = row_number cs k + suc i in
    ap (λ b. if b then n else total cs) (le-ltb n (row_number cs (suc k)) (outside-by cs k (ltb k (length cs)) refl i (ltb-false i (get_or cs k 0) e)))
number-outside cs (Row k) e = row-past cs k (ltb-false k (length cs) e)

-- ---- a list with a type for each number

module _ (f : Variable → Datatype) where
  abbrev pub of_ports : ℕ → ℕ → ℕ → List Datatype → List Datatype
  of_ports k i zero rest = rest
  of_ports k i (suc n) rest = f (Port k i) ∷ of_ports k (suc i) n rest

  abbrev pub of_all : ℕ → List ℕ → List Datatype → List Datatype
  of_all k [] rest = rest
  of_all k (c ∷ cs) rest = f (Row k) ∷ of_ports k 0 c (of_all (suc k) cs rest)

  ports-skipped : (k i n m : ℕ) (rest : List Datatype) → type_at (of_ports k i n rest) (n + m) ≡ type_at rest m
  ports-skipped k i zero m rest = let e : 0 + m ≡ m = omega arith in ap (type_at rest) e
  ports-skipped k i (suc n) m rest = let e : suc n + m ≡ suc (n + m) = omega arith in ap (type_at (of_ports k i (suc n) rest)) e ∙ ports-skipped k (suc i) n m rest

  port-among : (k i n j : ℕ) (rest : List Datatype) → j < n → type_at (of_ports k i n rest) j ≡ f (Port k (i + j))
  port-among k i zero j rest h = absurd (omega arith)
  port-among k i (suc n) zero rest h = let e : i ≡ i + 0 = omega arith in ap (λ x. f (Port k x)) e
  port-among k i (suc n) (suc j) rest h = let e : suc i + j ≡ i + suc j = omega arith in port-among k (suc i) n j rest (omega arith) ∙ ap (λ x. f (Port k x)) e

  row-at : (k : ℕ) (cs : List ℕ) (j : ℕ) (rest : List Datatype) → j < length cs → type_at (of_all k cs rest) (row_number cs j) ≡ f (Row (k + j))
  row-at k [] j rest h = absurd (omega arith)
  row-at k (c ∷ cs) zero rest h = let e : k ≡ k + 0 = omega arith in ap (λ x. f (Row x)) e
  row-at k (c ∷ cs) (suc j) rest h =
      let e : suc k + j ≡ k + suc j = omega arith in
      ports-skipped k 0 c (row_number cs j) (of_all (suc k) cs rest) ∙ row-at (suc k) cs j rest (omega arith) ∙ ap (λ x. f (Row x)) e

  port-at : (k : ℕ) (cs : List ℕ) (j i : ℕ) (rest : List Datatype) → j < length cs → i < get_or cs j 0 → type_at (of_all k cs rest) (row_number cs j + suc i) ≡ f (Port (k + j) i)
  port-at k [] j i rest h l = absurd (omega arith)
  port-at k (c ∷ cs) zero i rest h l =
      let e : 0 + suc i ≡ suc i = omega arith in
      let d : k ≡ k + 0 = omega arith in
      let a : 0 + i ≡ i = omega arith in
      ap (type_at (of_all k (c ∷ cs) rest)) e ∙ port-among k 0 c i (of_all (suc k) cs rest) l ∙ (λ x. f (Port (d x) (a x)))
  port-at k (c ∷ cs) (suc j) i rest h l =
      let e : suc (c + row_number cs j) + suc i ≡ suc (c + (row_number cs j + suc i)) = omega arith in
      let d : suc k + j ≡ k + suc j = omega arith in
      ap (type_at (of_all k (c ∷ cs) rest)) e ∙ ports-skipped k 0 c (row_number cs j + suc i) (of_all (suc k) cs rest) ∙ port-at (suc k) cs j i rest (omega arith) l ∙ ap (λ x. f (Port x i)) d

  end-at : (k : ℕ) (cs : List ℕ) (t : Datatype) → type_at (of_all k cs (t ∷ [])) (total cs) ≡ t
  end-at k [] t = refl
  end-at k (c ∷ cs) t = ports-skipped k 0 c (total cs) (of_all (suc k) cs (t ∷ [])) ∙ end-at (suc k) cs t

  ports-length : (k i n : ℕ) (rest : List Datatype) → length (of_ports k i n rest) ≡ n + length rest
  ports-length k i zero rest = omega arith
  ports-length k i (suc n) rest = omega (arith, ports-length k (suc i) n rest)

  pub all-length : (k : ℕ) (cs : List ℕ) (rest : List Datatype) → length (of_all k cs rest) ≡ total cs + length rest
  all-length k [] rest = omega arith
  all-length k (c ∷ cs) rest = omega (arith, ports-length k 0 c (of_all (suc k) cs rest), all-length (suc k) cs rest)

  -- ---- each at its number

  row-by : (cs : List ℕ) (t : Datatype) → ((v : Variable) → is_there cs v ≡ false → f v ≡ t) → (k : ℕ) (b : Bool) → ltb k (length cs) ≡ b → type_at (of_all 0 cs (t ∷ [])) (row_number cs k) ≡ f (Row k)
  row-by cs t out k true e = let d : 0 + k ≡ k = omega arith in row-at 0 cs k (t ∷ []) (ltb-true k (length cs) e) ∙ ap (λ x. f (Row x)) d
  row-by cs t out k false e = ap (type_at (of_all 0 cs (t ∷ []))) (row-past cs k (ltb-false k (length cs) e)) ∙ end-at 0 cs t ∙ sym (out (Row k) e)

  port-by : (cs : List ℕ) (t : Datatype) → ((v : Variable) → is_there cs v ≡ false → f v ≡ t) → (k i : ℕ) (b : Bool) → ltb i (get_or cs k 0) ≡ b → type_at (of_all 0 cs (t ∷ [])) (port_number cs k i) ≡ f (Port k i)
  port-by cs t out k i true e =
      let short = ltb-true i (get_or cs k 0) e in
      let here = here-or cs k (ltb k (length cs)) refl i short in
      let n = row_number cs k + suc i in
      let d : 0 + k ≡ k = omega arith in
      let m : n < row_number cs (suc k) = omega (arith, row-next cs k here, short) in
      ap (type_at (of_all 0 cs (t ∷ []))) (ap (λ b. if b then n else total cs) (lt-ltb n (row_number cs (suc k)) m)) ∙ port-at 0 cs k i (t ∷ []) here short ∙ ap (λ x. f (Port x i)) d
  port-by cs t out k i false e = ap (type_at (of_all 0 cs (t ∷ []))) (number-outside cs (Port k i) e) ∙ end-at 0 cs t ∙ sym (out (Port k i) e)

  pub each-at : (cs : List ℕ) (t : Datatype) → ((v : Variable) → is_there cs v ≡ false → f v ≡ t) → (v : Variable) → type_at (of_all 0 cs (t ∷ [])) (number cs v) ≡ f v
  each-at cs t out (Port k i) = port-by cs t out k i (ltb i (get_or cs k 0)) refl
  each-at cs t out (Row k) = row-by cs t out k (ltb k (length cs)) refl

  pub last-at : (cs : List ℕ) (t : Datatype) → type_at (of_all 0 cs (t ∷ [])) (total cs) ≡ t
  last-at cs t = end-at 0 cs t

-- ---- the numbers that the program makes

pub pushed-below : (xs : List ℕ) (a k d : ℕ) → k < length xs → get_or (xs ++ a ∷ []) k d ≡ get_or xs k d
pushed-below [] a k d h = absurd (omega arith)
pushed-below (x ∷ xs) a zero d h = refl
pushed-below (x ∷ xs) a (suc k) d h = pushed-below xs a k d (omega arith)

pub pushed-at : (xs : List ℕ) (a d : ℕ) → get_or (xs ++ a ∷ []) (length xs) d ≡ a
pushed-at [] a d = refl
pushed-at (x ∷ xs) a d = pushed-at xs a d

pub past-default : (xs : List ℕ) (k d : ℕ) → length xs ≤ k → get_or xs k d ≡ d
past-default [] k d h = refl
past-default (x ∷ xs) zero d h = absurd (omega arith)
past-default (x ∷ xs) (suc k) d h = past-default xs k d (omega arith)

pushed-length : (xs : List ℕ) (a : ℕ) → length (xs ++ a ∷ []) ≡ suc (length xs)
pushed-length [] a = refl
pushed-length (x ∷ xs) a = ap suc (pushed-length xs a)

row-zero : (cs : List ℕ) → 0 ≡ row_number cs 0
row-zero [] = refl
row-zero (c ∷ cs) = refl

-- the numbers of the rows of the first n entities, and the one behind them
pub record AreSoFar (cs xs : List ℕ) (all n : ℕ) : Type 0 where
  pub counted : length xs ≡ n
  pub last : all ≡ row_number cs n
  pub each : (k d : ℕ) → k < length xs → get_or xs k d ≡ row_number cs k

pub so-far-none : (cs xs : List ℕ) → xs ≡ [] → AreSoFar cs xs 0 0
so-far-none cs xs e = record { counted = ap length e; last = row-zero cs; each = λ k d h. absurd (omega (arith, ap length e)) }

each-more : (cs xs ys : List ℕ) (all n : ℕ) → AreSoFar cs xs all n → ys ≡ xs ++ all ∷ [] → (k d : ℕ) → k < length ys → (b : Bool) → ltb k (length xs) ≡ b → get_or ys k d ≡ row_number cs k
each-more cs xs ys all n h e k d short true c = ap (λ zs. get_or zs k d) e ∙ pushed-below xs all k d (ltb-true k (length xs) c) ∙ h.each k d (ltb-true k (length xs) c)
each-more cs xs ys all n h e k d short false c =
    let same : k ≡ length xs = omega (arith, ltb-false k (length xs) c, ap length e, pushed-length xs all) in
    let here : k ≡ n = same ∙ h.counted in
    ap (λ zs. get_or zs k d) e ∙ ap (λ j. get_or (xs ++ all ∷ []) j d) same ∙ pushed-at xs all d ∙ h.last ∙ ap (row_number cs) (sym here)

pub so-far-more : (cs xs ys : List ℕ) (all end n : ℕ) → n < length cs → AreSoFar cs xs all n → ys ≡ xs ++ all ∷ [] → end ≡ suc (all + get_or cs n 0) → AreSoFar cs ys end (n + 1)
so-far-more cs xs ys all end n short h e behind = record {
  counted = omega (arith, ap length e, pushed-length xs all, h.counted);
  last = (let one : suc n ≡ n + 1 = omega arith in behind ∙ ap (λ a. suc (a + get_or cs n 0)) h.last ∙ sym (row-next cs n short) ∙ ap (row_number cs) one);
  each = λ k d short. each-more cs xs ys all n h e k d short (ltb k (length xs)) refl;
}

rows-by : (cs : List ℕ) (numbers : Numbers) (n : ℕ) → length cs ≤ n → n ≤ length cs → AreSoFar cs numbers.starts.items numbers.all n → (k : ℕ) (b : Bool) → ltb k (length numbers.starts.items) ≡ b → row_in numbers k ≡ row_number cs k
rows-by cs numbers n long short h k true e = h.each k numbers.all (ltb-true k (length numbers.starts.items) e)
rows-by cs numbers n long short h k false e =
    let past : length cs ≤ k = omega (arith, ltb-false k (length numbers.starts.items) e, h.counted) in
    past-default numbers.starts.items k numbers.all (ltb-false k (length numbers.starts.items) e) ∙ h.last ∙ row-past cs n long ∙ sym (row-past cs k past)

pub so-far-all : (cs : List ℕ) (numbers : Numbers) (n : ℕ) → length cs ≤ n → n ≤ length cs → AreSoFar cs numbers.starts.items numbers.all n → AreNumbers cs numbers
so-far-all cs numbers n long short h = record {
  rows = λ k. rows-by cs numbers n long short h k (ltb k (length numbers.starts.items)) refl;
  all = h.last ∙ row-past cs n long;
}
