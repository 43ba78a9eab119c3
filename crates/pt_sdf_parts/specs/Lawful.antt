-- When a plan is lawful: its lists fit one another, its numbers name what is there, its rates are balanced, and its order never lacks a token (Lee & Messerschmitt 1987; the book, "Dataflow").
use Rattle.std.specs.Prelude.{◌≡◌, ℕ, ◌+◌, ◌*◌, ◌^◌, ◌<◌, ◌≤◌, List, [], ◌∷◌, length, take, get_or, nat_eq, if◌then◌else◌}
use Rattle.std.specs.List.{All}
use Rattle.pt_meaning.specs.Streams.{Streams, at}
use Rattle.pt_meaning.specs.Net.{Source, Own, Output}
use Rattle.pt_meaning.specs.Sdf.{SdfPlan, number_at}
use Rattle.pt_meaning.specs.Running.{total}
use Rattle.pt_sdf_parts.specs.ByNeed.{place_of}

-- how often a number occurs in a list
abbrev pub occurs : ℕ → List ℕ → ℕ
occurs n [] = 0
occurs n (x ∷ xs) = (if nat_eq x n then 1 else 0) + occurs n xs

-- how many tokens a firing of child j gives on a port
abbrev pub rate_at : List (List ℕ) → ℕ → ℕ → ℕ
rate_at rates j port = get_or (get_or rates j []) port 0

-- the channel begins at something that is there
abbrev pub IsNamed : SdfPlan → Source → Type 0
IsNamed p (Own port) = port < length p.takes
IsNamed p (Output child port) = (child < length p.net.places) × (port < length (get_or p.rates child []))

-- where child i is next in the order, a channel with so many first tokens has what its firing needs, after the firings before it
abbrev pub NeverLacks : List ℕ → (first i need j rate : ℕ) → Type 0
NeverLacks order first i need j rate =
    (n : ℕ) → n < length order → get_or order n 0 ≡ i → need * (occurs i (take n order) + 1) ≤ first + rate * occurs j (take n order)

-- a channel on which child i needs so many tokens for a firing: over an iteration as many are put on it as are taken from it, and the order never lacks one
abbrev pub IsSupplied : SdfPlan → List ℕ → (first i need : ℕ) → Source → Type 0
IsSupplied p order first i need (Own port) = need * get_or p.repetitions i 0 ≡ number_at p.takes port
IsSupplied p order first i need (Output j port) =
    (need * get_or p.repetitions i 0 ≡ rate_at p.rates j port * get_or p.repetitions j 0) × NeverLacks order first i need j (rate_at p.rates j port)

-- The order is that of one iteration. The first tokens are those of each channel, and room is the greatest number of tokens that a channel is to hold.
-- Each place and each own output has a channel, and the channels behind these end nowhere.
pub record IsLawful {T : Type 0} (p : SdfPlan) (needs order room : List ℕ) (first : Streams T) : Type 0 where
  pub repetitions : length p.repetitions ≡ length p.net.places
  pub rates : length p.rates ≡ length p.net.places
  pub needed : length needs ≡ total p.net.places
  pub channels : total p.net.places + length p.gives ≤ length p.net.sources
  pub started : length first ≡ length p.net.sources
  pub rooms : length room ≡ length p.net.sources
  pub few : length p.net.sources < 2 ^ 32
  pub named : All (IsNamed p) p.net.sources
  pub children : All (λ i. i < length p.net.places) order
  pub often : (i : ℕ) → i < length p.net.places → occurs i order ≡ get_or p.repetitions i 0
  pub supplied : (i k : ℕ) → i < length p.net.places → k < get_or p.net.places i 0 →
      IsSupplied p order (length (at first (place_of p.net.places i + k))) i (get_or needs (place_of p.net.places i + k) 0) (get_or p.net.sources (place_of p.net.places i + k) (Own 0))
