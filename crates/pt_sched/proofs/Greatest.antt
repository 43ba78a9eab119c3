-- The greatest length of a channel as an order grows.
use Rattle.std.proofs.Common.{◌≡◌, ℕ, zero, suc, ◌+◌, ◌-◌, ◌*◌, ◌≤◌, inl, inr, max, cond, List, [], ◌++◌, length, replicate, take, sym, ap, subst, ◌∙◌, arith}
use Rattle.std.proofs.lemmas.Bool.{cases_lt, ne_eqb}
use Rattle.std.proofs.lemmas.List.{take-append-le, take_all, take-replicate, length-append, length-replicate}
use Rattle.std.proofs.Math.Nat.{mul-le-mul_left}
use Rattle.std.proofs.Math.Seq.{take-append-add}
use Rattle.pt_sched.specs.Runs.{firings, put_on, taken_from, length_after, IsGreatestLength}
use Rattle.pt_sched.specs.declared.edge.SchedEdge.{SchedEdge}
use Rattle.pt_sched.proofs.Counts.{puts_each, takes_each, put_on-times, taken_from-times}

-- before the first firing
pub greatest-start : (channel : SchedEdge) (most : ℕ) → most ≡ channel.initial → IsGreatestLength channel [] most
greatest-start channel most e = record {
  met = (0, omega arith, omega (arith, e));
  bound = λ k short. none k short;
}
  where
    none : (k : ℕ) → k ≤ 0 → length_after channel (firings (take k [])) ≤ most
    none zero short = omega (arith, e)
    none (suc k) short = absurd (omega arith)

-- what grows and shrinks evenly is greatest at one of the ends
convex : (put taken puts takes j m : ℕ) → put + j * puts - (taken + j * takes) ≤ max (put - taken) (put + (j + m) * puts - (taken + (j + m) * takes))
convex put taken puts takes j m = elim (cases_lt takes puts) [
  | inl grows ↦
      let more : m * takes ≤ m * puts = mul-le-mul_left m (let w : takes ≤ puts = omega (arith, grows) in w) in
      let a : (j + m) * puts ≡ j * puts + m * puts = omega arith in
      let b : (j + m) * takes ≡ j * takes + m * takes = omega arith in
      omega (arith, more, a, b)
  | inr shrinks ↦
      let less : j * puts ≤ j * takes = mul-le-mul_left j shrinks in
      omega (arith, less)
]

module _ (channel : SchedEdge) (order : List ℕ) (child times : ℕ) where
  abbrev longer : List ℕ
  longer = order ++ replicate times child

  abbrev now : ℕ
  now = length_after channel (firings longer)

  begun : (k : ℕ) → k ≤ length order → length_after channel (firings (take k longer)) ≡ length_after channel (firings (take k order))
  begun k short = ap (λ xs. length_after channel (firings xs)) (take-append-le k order (replicate times child) short)

  whole : (k : ℕ) → length longer ≤ k → length_after channel (firings (take k longer)) ≡ now
  whole k over = ap (λ xs. length_after channel (firings xs)) (take_all k longer over)

  long : length longer ≡ length order + times
  long = length-append order (replicate times child) ∙ ap (λ n. length order + n) (length-replicate times child)

  abbrev after : ℕ → ℕ
  after j = length_after channel (firings (order ++ replicate j child))

  -- between the firings in a row the length is no greater than at one of their ends
  between : (j : ℕ) → j ≤ times → after j ≤ max (length_after channel (firings order)) now
  between j within =
      let high = convex (put_on channel (firings order)) (taken_from channel (firings order)) (puts_each channel child) (takes_each channel child) j (times - j) in
      let all : j + (times - j) ≡ times = omega (arith, within) in
      let ends : put_on channel (firings order) + j * puts_each channel child - (taken_from channel (firings order) + j * takes_each channel child) ≤ max (length_after channel (firings order)) (put_on channel (firings order) + times * puts_each channel child - (taken_from channel (firings order) + times * takes_each channel child)) =
      subst (λ n. put_on channel (firings order) + j * puts_each channel child - (taken_from channel (firings order) + j * takes_each channel child) ≤ max (length_after channel (firings order)) (put_on channel (firings order) + n * puts_each channel child - (taken_from channel (firings order) + n * takes_each channel child))) all high
      in
      omega (arith, ends, put_on-times channel order child j, taken_from-times channel order child j, put_on-times channel order child times, taken_from-times channel order child times)

  beyond : (k : ℕ) → length order ≤ k → k ≤ length longer → length_after channel (firings (take k longer)) ≡ after (k - length order)
  beyond k over short =
      let split : k ≡ length order + (k - length order) = omega (arith, over) in
      ap (λ n. length_after channel (firings (take n longer))) split ∙ ap (λ xs. length_after channel (firings xs)) (take-append-add order (replicate times child) (k - length order) ∙ ap (λ xs. order ++ xs) (take-replicate (k - length order) times child (omega (arith, over, short, long))))

  -- the length after the order is one of its lengths
  pub last-bound : (most : ℕ) → IsGreatestLength channel order most → length_after channel (firings order) ≤ most
  last-bound most h = subst (λ xs. length_after channel (firings xs) ≤ most) (take_all (length order) order (omega arith)) (h.bound (length order) (omega arith))

  bounded : (most : ℕ) → IsGreatestLength channel order most → (high : ℕ) → most ≤ high → now ≤ high → (k : ℕ) → k ≤ length longer → length_after channel (firings (take k longer)) ≤ high
  bounded most h high a b k short = elim (cases_lt (length order) k) [
    | inl over ↦ omega (arith, beyond k (omega (arith, over)) short, between (k - length order) (omega (arith, short, long)), last-bound most h, a, b)
    | inr within ↦ omega (arith, begun k within, h.bound k within)
  ]

  -- the length isn't above
  pub greatest-kept : (most : ℕ) → IsGreatestLength channel order most → now ≤ most → IsGreatestLength channel longer most
  greatest-kept most h below = record {
    met = (h.met.0, omega (arith, h.met.1, long), begun h.met.0 h.met.1 ∙ h.met.2);
    bound = bounded most h most (omega arith) below;
  }

  -- the greater of the greatest so far and the length
  pub greatest-more : (most : ℕ) → IsGreatestLength channel order most → IsGreatestLength channel longer (max most now)
  greatest-more most h = elim (cases_lt most now) [
    | inl above ↦
        subst (λ m. IsGreatestLength channel longer m) (let e : now ≡ max most now = omega arith in e) (record {
          met = (length longer, omega arith, whole (length longer) (omega arith));
          bound = bounded most h now (omega arith) (omega arith);
        })
    | inr below ↦ subst (λ m. IsGreatestLength channel longer m) (let e : most ≡ max most now = omega arith in e) (greatest-kept most h below)
  ]

  -- a channel that doesn't begin at the child gets no longer
  pub no_longer : (channel.edge.from ≡ child → ⊥) → now ≤ length_after channel (firings order)
  no_longer d =
      let none : times * puts_each channel child ≡ 0 = ap (λ b. times * cond b channel.edge.produced 0) (ne_eqb child channel.edge.from (λ e. d (sym e))) ∙ omega arith in
      omega (arith, none, put_on-times channel order child times, taken_from-times channel order child times)

-- the greatest already counts the whole order
pub greatest-same : (channel : SchedEdge) (order : List ℕ) (most : ℕ) → IsGreatestLength channel order most → IsGreatestLength channel order (max most (length_after channel (firings order)))
greatest-same channel order most h =
    let below : length_after channel (firings order) ≤ most = subst (λ xs. length_after channel (firings xs) ≤ most) (take_all (length order) order (omega arith)) (h.bound (length order) (omega arith)) in
    subst (λ m. IsGreatestLength channel order m) (let e : most ≡ max most (length_after channel (firings order)) = omega arith in e) h
