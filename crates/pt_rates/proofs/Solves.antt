-- What the solver answers, from the parts that the first channels connect.
use Rattle.std.proofs.Common.{◌≡◌, ℕ, ◌+◌, ◌<◌, ◌≤◌, List, [], ◌∷◌, ◌++◌, length, get_or, take, replicate, All, Contains, false, true, sym, ap, subst, ◌∙◌}
use Rattle.std.proofs.lemmas.List.{get_or_default, take_more, take_all}
use Rattle.std.proofs.lemmas.List.Elements.{All-take, All-contains_itself, All-nil}
use Rattle.pt_rates.specs.Balance.{IsBalancedAt, IsRepetitionVector}
use Rattle.pt_rates.specs.Fault.{BreaksRatio, IsInconsistentAt, HasSum}
use Rattle.pt_rates.specs.Parts.{AreHeld, IsSpanned, ComesAfter}
use Rattle.pt_rates.specs.declared.edge.Edge.{Edge}
use Rattle.pt_rates.specs.declared.parts.Parts.{Parts}
use Rattle.pt_rates.proofs.Spans.{spanned-least}
use Rattle.pt_rates.proofs.Starts.{sum-ones, ones-least}

-- the parts that the first channels connect, within the limit
pub record IsSolved (n : ℕ) (edges : List Edge) (parts : Parts) : Type 0 where
  pub held : AreHeld parts
  pub counted : length parts.labels.items ≡ n
  pub small : parts.sum ≤ 1000000
  pub spanned : IsSpanned n edges parts

some_edges : (edges : List Edge) (k : ℕ) → All (Contains edges) (take k edges)
some_edges edges k = All-take (Contains edges) k edges (All-contains_itself edges)

pub least-held : (n : ℕ) (edges : List Edge) (parts : Parts) → AreHeld parts → length parts.labels.items ≡ n → IsSpanned n edges parts → IsRepetitionVector n edges parts.repetitions.items
least-held n edges parts held counted spanned = spanned-least n edges parts (held.counted ∙ counted) spanned

pub positive-held : (n : ℕ) (edges : List Edge) (parts : Parts) → AreHeld parts → length parts.labels.items ≡ n → IsSpanned n edges parts → All (λ firings. 0 < firings) parts.repetitions.items
positive-held n edges parts held counted spanned = (least-held n edges parts held counted spanned).solution.positive

-- more nodes than firings within the limit
pub sum-start : (n : ℕ) (edges : List Edge) → 1000000 < n → HasSum n edges n
sum-start n edges above = record {
  some = [];
  among = All-nil (Contains edges);
  q = replicate n 1;
  least = ones-least n;
  summed = sum-ones n;
  above = above;
}

-- what stands for an edge behind the last
abbrev pub no_edge : Edge
no_edge = record { from = 0; produced = 0; to = 0; consumed = 0 }

module _ (n : ℕ) (edges : List Edge) (k : ℕ) (old : Parts) (inside : k < length edges) (h : IsSolved n (take k edges) old) where
  abbrev edge : Edge
  edge = get_or edges k no_edge

  is : edge ≡ get_or edges k edge
  is = get_or_default edges k no_edge edge inside

  more : take (k + 1) edges ≡ take k edges ++ edge ∷ []
  more = take_more edges k edge inside ∙ ap (λ e. take k edges ++ e ∷ []) (sym is)

  pub spanned-more : (new : Parts) → ComesAfter edge old new true → IsSpanned n (take (k + 1) edges) new
  spanned-more new after = subst (λ es. IsSpanned n es new) (sym more) (after n (take k edges) (sym h.counted) h.spanned)

  pub sum-more : (new : Parts) → ComesAfter edge old new true → AreHeld new → length new.labels.items ≡ length old.labels.items → 1000000 < new.sum → HasSum n edges new.sum
  sum-more new after held counted above = record {
    some = take (k + 1) edges;
    among = some_edges edges (k + 1);
    q = new.repetitions.items;
    least = least-held n (take (k + 1) edges) new held (counted ∙ h.counted) (spanned-more new after);
    summed = sym held.summed;
    above = above;
  }

  pub inconsistent-at : (new : Parts) → ComesAfter edge old new false → IsInconsistentAt n edges k
  inconsistent-at new after = record {
    inside = inside;
    breaks = λ other.
        subst (λ e. BreaksRatio n edges e) (is ∙ get_or_default edges k edge other inside) (record {
          others = take k edges;
          among = some_edges edges k;
          solvable = (old.repetitions.items, (least-held n (take k edges) old h.held h.counted h.spanned).solution);
          broken = after n (take k edges) (sym h.counted) h.spanned;
        });
    unsolvable = λ q s.
        after n (take k edges) (sym h.counted) h.spanned q
        (record { counted = s.counted; positive = s.positive; balanced = All-take (IsBalancedAt q) k edges s.balanced })
        (subst (λ e. IsBalancedAt q e) (sym is) (s.balanced k edge inside));
  }

pub solved-all : (n : ℕ) (edges : List Edge) (k : ℕ) (parts : Parts) → length edges ≤ k → IsSolved n (take k edges) parts → IsRepetitionVector n edges parts.repetitions.items
solved-all n edges k parts over h = subst (λ es. IsRepetitionVector n es parts.repetitions.items) (take_all k edges over) (least-held n (take k edges) parts h.held h.counted h.spanned)
