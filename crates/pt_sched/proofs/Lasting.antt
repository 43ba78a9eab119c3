-- How many firings the tokens of a child last for.
use Rattle.std.proofs.Common.{◌≡◌, ℕ, ◌/◌, ◌<◌, ◌≤◌, List, length, get_or, All, ap, subst, ◌∙◌, arith, min}
use Rattle.std.proofs.Math.Nat.{mul-le-mul_right, div-mul-le_self}
use Rattle.std.proofs.lemmas.List.{get_or_default}
use Rattle.std.proofs.lemmas.List.Elements.{Contains-get_or}
use Rattle.pt_sched.specs.Channels.{IsSchedEdge}
use Rattle.pt_sched.specs.Lists.{AreAt}
use Rattle.pt_sched.specs.Next.{LastsFor, HasTokensFor}
use Rattle.pt_sched.specs.Runs.{length_after, HasTokens}
use Rattle.pt_sched.specs.declared.edge.SchedEdge.{SchedEdge}
use Rattle.pt_sched.specs.declared.lists.Side.TheVariants.{End}
use Rattle.pt_sched.proofs.Listing.{no_channel}

pub lasts-fewer : (fired : ℕ → ℕ) (m n : ℕ) (channel : SchedEdge) → m ≤ n → LastsFor fired n channel → LastsFor fired m channel
lasts-fewer fired m n channel fewer lasts = omega (arith, lasts, mul-le-mul_right channel.edge.consumed fewer)

-- the tokens that are held last for as many firings as they are divided into
pub lasts-quotient : (fired : ℕ → ℕ) (times : ℕ) (channel : SchedEdge) → LastsFor fired 1 channel → LastsFor fired (min times (length_after channel fired / channel.edge.consumed)) channel
lasts-quotient fired times channel one =
    let n : ℕ = length_after channel fired / channel.edge.consumed in
    lasts-fewer fired (min times n) n channel (omega arith) (omega (arith, one, div-mul-le_self (length_after channel fired) channel.edge.consumed))

-- the first of the numbered channels last for so many
abbrev pub AreLasting : List SchedEdge → (ℕ → ℕ) → ℕ → List ℕ → ℕ → Type 0
AreLasting channels fired times numbers index = (j : ℕ) → j < index → LastsFor fired times (get_or channels (get_or numbers j 0) no_channel)

pub lasting-fewer : (channels : List SchedEdge) (fired : ℕ → ℕ) (m n : ℕ) (numbers : List ℕ) (index : ℕ) → m ≤ n → AreLasting channels fired n numbers index → AreLasting channels fired m numbers index
lasting-fewer channels fired m n numbers index fewer h j short = lasts-fewer fired m n (get_or channels (get_or numbers j 0) no_channel) fewer (h j short)

pub has-tokens-for : (channels : List SchedEdge) (fired : ℕ → ℕ) (child times : ℕ) (numbers : List ℕ) → AreAt End channels child numbers → (index : ℕ) → length numbers ≤ index → AreLasting channels fired times numbers index → HasTokensFor channels fired child times
has-tokens-for channels fired child times numbers at index over lasting k d short to =
    let c = at.every k d short to in
    let here : get_or numbers c.0 0 ≡ k = get_or_default numbers c.0 0 k c.1 ∙ c.2 in
    subst (LastsFor fired times) (ap (λ m. get_or channels m no_channel) here ∙ get_or_default channels k no_channel d short) (lasting c.0 (omega (arith, c.1)))

-- a child that has its tokens has those of one firing on each of its channels
pub ready-each : (channels : List SchedEdge) (fired : ℕ → ℕ) (child : ℕ) (numbers : List ℕ) → AreAt End channels child numbers → HasTokens channels fired child → All (λ number. (other : SchedEdge) → LastsFor fired 1 (get_or channels number other)) numbers
ready-each channels fired child numbers at tokens j d short other =
    let o = at.only (get_or numbers j d) (Contains-get_or numbers j d short) in
    omega (arith, tokens (get_or numbers j d) other o.0 (o.1 other))

-- each child's firing puts some tokens on each of the channels that begin there
pub puts-some : (n : ℕ) (channels : List SchedEdge) → All (IsSchedEdge n) channels → All (λ (channel : SchedEdge). 0 < channel.edge.produced) channels
puts-some n channels all k d short = (all k d short).between.puts.0
