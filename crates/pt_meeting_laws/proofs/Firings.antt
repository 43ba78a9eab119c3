-- What the firing of a composite tells of its children, and what a record tells of meetings.
use Rattle.std.proofs.Common.{◌≡◌, ℕ, zero, suc, ◌+◌, ◌≤◌, List, [], ◌∷◌, ◌++◌, length, Some, refl, ap, subst, ◌∙◌, arith, append-nil}
use Rattle.pt_meaning.specs.Tag.{Tag}
use Rattle.pt_meaning.specs.Streams.{Streams}
use Rattle.pt_meaning.specs.Log.{Path, Log, Firing, Meeting, meetings_in, silent, log_then, own, within_firing, all_marked}
use Rattle.pt_meaning.specs.Machine.{Outcome, Stepping}
use Rattle.pt_meaning.specs.Net.{Inside}
use Rattle.pt_meaning.specs.Children.{Child, numbered, child_facts, child_step}
use Rattle.pt_meaning.specs.Tree.{Rows, Core, Past, Node, Nodes, none, more, list_of}
use Rattle.pt_meaning.specs.NodeFacts.{facts_of}
use Rattle.pt_meaning.specs.Step.{as_node}
use Rattle.pt_meaning.specs.Closed.{child_of}
use Rattle.pt_laws.specs.LogsOfRuns.{log_at, log_in}
use Rattle.pt_laws.specs.Explained.{PartOf, Explained}
use Rattle.pt_laws.proofs.SoundLaws.{below-log, within-added}
use Rattle.pt_laws.proofs.CompositeLaws.{log-as-node}
use Rattle.pt_laws.proofs.HeightLaws.{numbered-length}
use Rattle.pt_laws.proofs.ChainLaws.{numbered-get}
use Rattle.pt_records.specs.Counts.{AreWired, AllWired}
use Rattle.pt_records.proofs.MadeLaws.{in-append, in-marked}

-- a record tells no meeting
unmet-own : {T : Type 0} (f : Firing T) (p : Path) (j : ℕ) → meetings_in j (own f p) ≡ []
unmet-own f [] j = refl
unmet-own f (i ∷ p) j = refl

pub with-own : {T : Type 0} (l : Log T) (f : Firing T) (p : Path) (j : ℕ) → meetings_in j (log_then l (own f) p) ≡ meetings_in j (l p)
with-own l f p j = in-append j (l p) (own f p) ∙ ap (λ v. meetings_in j (l p) ++ v) (unmet-own f p j) ∙ append-nil (meetings_in j (l p))

pub wired-child : {T A : Type 0} (kids : Nodes T A) (i : ℕ) (n : Node T A) → AllWired kids → child_of kids i ≡ Some n → AreWired n
wired-child none i n w e = absurd (cc)
wired-child {T} {A} (more k kids) zero n w e = let same : k ≡ n = cc in subst (λ (v : Node T A). AreWired v) same w.0
wired-child (more k kids) (suc i) n w e = wired-child kids i n w.1 e

-- the firing of a composite, explained: what it logs is what its children log
module _ {T A H : Type 0} {ms : List Meeting} (rows : Rows T A) (steps : ℕ → Stepping T (Node T A)) (tag : Tag) (h : Past) (c d : Core T) (kids : Nodes T A) (inputs : Streams T) (core : H → Core T) (r : Outcome T (Inside H (Child (Node T A))))
    (x : Explained (child_facts (facts_of rows)) (child_step steps) ms h.made tag inputs d core (numbered 0 (list_of kids)) r) where
  logged : (i : ℕ) (p : Path) → log_in (as_node tag h c core r) (i ∷ p) ≡ all_marked h.made (log_at x.logs i p)
  logged i p =
      ap (λ (v : Log T). v (i ∷ p)) (log-as-node tag h c core r ∙ ap (λ v. within_firing h.made v) x.log ∙ within-added h.made x.events x.logs) ∙
      ap (λ (v : Log T). all_marked h.made (v p)) (below-log x.logs i)

  pub told-below : (i : ℕ) (p : Path) (j : ℕ) → meetings_in j (log_in (as_node tag h c core r) (i ∷ p)) ≡ meetings_in j (log_at x.logs i p)
  told-below i p j = ap (λ es. meetings_in j es) (logged i p) ∙ in-marked j h.made (log_at x.logs i p)

  pub beyond-silent : (i : ℕ) → length (list_of kids) ≤ i → log_at x.logs i ≡ silent
  beyond-silent i g = (x.beyond i (omega (arith, g, numbered-length 0 (list_of kids)))).0

  pub kid-part : (i : ℕ) (n : Node T A) → child_of kids i ≡ Some n → PartOf (child_facts (facts_of rows)) (child_step steps) (record { number = 0 + i; node = n }) (log_at x.logs i) (x.turns i) (x.way i) (x.ends i)
  kid-part i n e = x.parts i (record { number = 0 + i; node = n }) (numbered-get 0 kids i n e)
