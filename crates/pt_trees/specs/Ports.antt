-- The recorded ports of a tree, in the order of their numbers.
use Rattle.std.specs.Prelude.{◌≡◌, ℕ, zero, suc, ◌<◌, List, [], ◌∷◌, ◌++◌, Bool, true, false, nat_eq, length, set}
use Rattle.pt_meaning.specs.Basics.{Tag, Path}
use Rattle.pt_meaning.specs.Headline.{Port}
use Rattle.pt_value.specs.declared.token.Token.{Token}
use Rattle.pt_trace.specs.Report.{Trace}
use Rattle.pt_past.specs.Recorded.{RecordedPort}
use Rattle.pt_node.specs.Shown.{Shown, AllShown, Branch, none, more}
use Rattle.pt_node.specs.View.{outline_of}

-- a recorded port, with the path of its node
pub record Listed : Type 0 where
  pub path : Path
  pub output : RecordedPort

-- those of a node itself, and those of child i, seen from its composite
abbrev pub own_ports : List RecordedPort → List Listed
own_ports [] = []
own_ports (r ∷ rs) = record { path = []; output = r } ∷ own_ports rs

abbrev pub seen_below : ℕ → List Listed → List Listed
seen_below i [] = []
seen_below i (x ∷ xs) = record { path = i ∷ x.path; output = x.output } ∷ seen_below i xs

-- all of a tree, each node's before those of its children
abbrev mutual
  pub ports_in : Shown → List Listed
  ports_in (Branch f ks) = own_ports f.records ++ ports_below 0 ks

  pub ports_below : ℕ → AllShown → List Listed
  ports_below i none = []
  ports_below i (more s ss) = seen_below i (ports_in s) ++ ports_below (suc i) ss

-- those of one number
abbrev pub listed_if : Bool → Listed → List Listed → List Listed
listed_if true x xs = x ∷ xs
listed_if false x xs = xs

abbrev pub of_number : ℕ → List Listed → List Listed
of_number n [] = []
of_number n (x ∷ xs) = listed_if (nat_eq x.output.number n) x (of_number n xs)

-- those of so many numbers from one on, in the order of the numbers
abbrev pub by_number : (from count : ℕ) → List Listed → List Listed
by_number from zero xs = []
by_number from (suc count) xs = of_number from xs ++ by_number (suc from) count xs

-- the recorded ports of the numbers below count
abbrev pub recorded_ports : (count : ℕ) → Shown → List Listed
recorded_ports count s = by_number 0 count (ports_in s)

-- all outputs that are recorded in a tree
abbrev mutual
  pub outputs_in : Shown → List RecordedPort
  outputs_in (Branch f ks) = f.records ++ outputs_below ks

  pub outputs_below : AllShown → List RecordedPort
  outputs_below none = []
  outputs_below (more s ss) = outputs_in s ++ outputs_below ss

-- each has a number below count
abbrev pub AreBelow : ℕ → List RecordedPort → Type 0
AreBelow count [] = Unit {0}
AreBelow count (r ∷ rs) = (r.number < count) × AreBelow count rs

-- each number below count is that of one recorded port, and no other number is
pub record AreNumbered (count : ℕ) (top : Shown) : Type 0 where
  pub once : (n : ℕ) → n < count → length (of_number n (ports_in top)) ≡ 1
  pub below : AreBelow count (outputs_in top)

-- the numbers of recorded ports are names, which no firing changes
abbrev pub NumbersStay : Type 0
NumbersStay = (count : ℕ) (old new : Shown) → outline_of new ≡ outline_of old → AreNumbered count old → AreNumbered count new

-- the ports among the definitions, and what each recorded
abbrev pub ports_of : List Listed → List Port
ports_of [] = []
ports_of (x ∷ xs) = record { path = x.path; port = x.output.port } ∷ ports_of xs

abbrev pub traces_of : List Listed → List (List (Tag × Token))
traces_of [] = []
traces_of (x ∷ xs) = x.output.trace ∷ traces_of xs

-- as a report tells them
abbrev pub told : RecordedPort → Trace
told r = record { text = r.text; tokens = r.trace }

abbrev pub told_of : List Listed → List Trace
told_of [] = []
told_of (x ∷ xs) = told x.output ∷ told_of xs

-- the traces with those of these ports at the places of their numbers
abbrev pub filled : List RecordedPort → List Trace → List Trace
filled [] ts = ts
filled (r ∷ rs) ts = filled rs (set ts r.number (told r))
