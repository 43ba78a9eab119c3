-- A core at its start fits its processes.
use Rattle.std.proofs.Common.{◌≡◌, ℕ, zero, suc, max, ◌<◌, ◌≤◌, List, [], ◌∷◌, true, length, map, take, drop, get_or, refl, ◌∙◌, arith}
use Rattle.std.proofs.lemmas.List.{length-take-le, length-map}
use Rattle.pt_meaning.specs.Streams.{Streams, at}
use Rattle.pt_meaning.specs.Machine.{Facts}
use Rattle.pt_meaning.specs.Running.{total}
use Rattle.pt_meaning.specs.Jam.{is_empty}
use Rattle.pt_pn_laws.specs.State.{Network, PnState, offset_of, first_capacities, got_of, need_at, capacity_of, started}
use Rattle.pt_pn_laws.specs.Lawful.{IsLawful, AllCount, IsFor}
use Rattle.pt_pn_laws.proofs.ListLaws.{length-emptied}
use Rattle.pt_pn_laws.proofs.GatherLaws.{gathers-none, empty-emptied}

-- nothing is on a part of streams without a token
empty-take : {T : Type 0} (k : ℕ) (X : Streams T) → is_empty X ≡ true → is_empty (take k X) ≡ true
empty-take zero X e = refl
empty-take (suc k) [] e = refl
empty-take (suc k) ([] ∷ X) e = empty-take k X e
empty-take (suc k) ((x ∷ xs) ∷ X) e = absurd (cc)

empty-drop : {T : Type 0} (k : ℕ) (X : Streams T) → is_empty X ≡ true → is_empty (drop k X) ≡ true
empty-drop zero X e = e
empty-drop (suc k) [] e = refl
empty-drop (suc k) ([] ∷ X) e = empty-drop k X e
empty-drop (suc k) ((x ∷ xs) ∷ X) e = absurd (cc)

none-put : {T : Type 0} (ns : List ℕ) (i : ℕ) → at {T = T} (map (λ n. []) ns) i ≡ []
none-put [] i = refl
none-put (n ∷ ns) zero = refl
none-put (n ∷ ns) (suc i) = none-put ns i

first-capacity : {T : Type 0} (initial : ℕ) (first : Streams T) (c : ℕ) → c < length first → get_or (first_capacities initial first) c 0 ≡ max initial (length (at first c))
first-capacity initial [] c l = absurd (omega (arith, l))
first-capacity initial (xs ∷ first) zero l = refl
first-capacity initial (xs ∷ first) (suc c) l = first-capacity initial first c (omega (arith, l))

module _ {T S : Type 0} (facts : Facts T S) (n : Network T) (kids : List S) (lawful : IsLawful n) (needs : n.starts ≡ map (λ c. facts.need c) kids) (counts : AllCount (started n)) where
  abbrev s : PnState T
  s = started n

  abbrev ns : List ℕ
  ns = n.plan.net.places

  below-sources : (c : ℕ) → c < total ns → c < length n.plan.net.sources
  below-sources c l = let k = lawful.channels in omega (arith, l, k)

  capacity-is : (c : ℕ) → c < length n.plan.net.sources → capacity_of s c ≡ max n.initial (length (at n.first c))
  capacity-is c l = first-capacity n.initial n.first c (let f = lawful.first in omega (arith, l, f))

  at-least : (a b k : ℕ) → k ≡ max a b → b ≤ k
  at-least a b k e = omega (arith, e)

  within : (a b c k : ℕ) → 0 < a → a ≤ c → k ≡ max a b → (0 < k) × (k ≤ max c b)
  within a b c k p q e = (omega (arith, p, e), omega (arith, q, e))

  pub calls-start : IsFor facts s kids
  calls-start = record {
    lawful = lawful;
    sized = record {
      capacity = length-map n.first (λ xs. max n.initial (length xs)) ∙ lawful.first;
      gathered = length-emptied (take (total ns) n.first) ∙ length-take-le (total ns) n.first (let k = lawful.channels in let f = lawful.first in omega (arith, k, f));
      queued = lawful.first;
      puts = length-map ns (λ places. []);
      needs = lawful.starts;
    };
    needs = needs;
    counts = counts;
    none = λ i. none-put ns i;
    gathers = λ i l.
        gathers-none (get_or ns i 0) (at s.halfway.puts i) (need_at s i) (got_of s i) (counts i l)
        (empty-take (get_or ns i 0) (drop (offset_of ns i) s.halfway.gathered) (empty-drop (offset_of ns i) s.halfway.gathered (empty-emptied (take (total ns) n.first))));
    short = λ c b. at-least n.initial (length (at n.first c)) (capacity_of s c) (capacity-is c (below-sources c b.1));
    capped = λ c l. within n.initial (length (at n.first c)) n.maximum (capacity_of s c) lawful.holds lawful.grows (capacity-is c l);
  }
