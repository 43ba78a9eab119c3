-- From a tick under way to the firing of its SR or DE composite, and the turns of the children.
use Rattle.std.specs.Prelude.{◌≡◌, ℕ, suc, max, ◌≤◌, ◌<◌, List, [], ◌∷◌, ◌++◌, true, false, length, None, Some, take, drop, get_or}
use Rattle.pt_meaning.specs.Basics.{Tag, Streams, at, joined, Log, LogBelow, silent, log_then, own, log_below, within_firing}
use Rattle.pt_meaning.specs.Machine.{Fault, Done, Stuck, Stepping, Facts, Partial, recorded}
use Rattle.pt_meaning.specs.Tick.{TickPlan, known, tokens_of, all_single, sr_active, sr_turn, de_early, de_active, de_turn, by_rows, rows_of, longest}
use Rattle.pt_meaning.specs.Modal.{get}
use Rattle.pt_meaning.specs.Meetings.{Meets}
use Rattle.pt_meaning.specs.Children.{Child, numbered, nodes, child_facts}
use Rattle.pt_meaning.specs.Node.{Rows, Core, Sr, De, Past, Node, Nodes, Composite, list_of, nodes_of, fired_at, facts_of, step_at}
use Rattle.pt_meaning.specs.Running.{total}
use Rattle.pt_laws.specs.LogsOfRuns.{log_in}
use Rattle.pt_laws.specs.CompositeRuns.{steps_below, IsStuckBelow}
use Rattle.pt_laws.specs.TickRuns.{places_at, TickRun, Knows, FiredAt, FiredOrWaits, LoggedAt, IsWide}
use Rattle.pt_meaning.specs.Laws.{IsIn}
use Rattle.pt_meaning.specs.Lawful.{LawfulRows}

-- the turn of a child under SR: one firing, that gives no two tokens on one port
pub record SrTurns (T S : Type 0) : Type 0 where
  pub done : (facts : Facts T S) (step : Stepping T S) (tag : Tag) (s : S) (X : Streams T) (s' : S) (out : Streams T) (l : Log T) → step tag s X ≡ Done s' out l → all_single out ≡ true →
      sr_turn facts step tag s X ≡ Done s' out (log_then l (own (record { number = facts.made s; tag = tag; inputs = X; outputs = out })))
  pub twice : (facts : Facts T S) (step : Stepping T S) (tag : Tag) (s : S) (X : Streams T) (s' : S) (out : Streams T) (l : Log T) → step tag s X ≡ Done s' out l → all_single out ≡ false →
      sr_turn facts step tag s X ≡ Stuck (record { path = []; firing = facts.made s; code = 35 } ∷ []) l
  pub stuck : (facts : Facts T S) (step : Stepping T S) (tag : Tag) (s : S) (X : Streams T) (fs : List Fault) (l : Log T) → step tag s X ≡ Stuck fs l → sr_turn facts step tag s X ≡ Stuck fs l

-- Under DE a child that takes its lists whole makes one firing, and any other one for each row.
pub record DeTurns (T S : Type 0) : Type 0 where
  pub whole : (facts : Facts T S) (step : Stepping T S) (tag : Tag) (s : S) (X : Streams T) → facts.whole s ≡ true → de_turn facts step tag s X ≡ recorded (facts.made s) tag X (step tag s X)
  pub rows : (facts : Facts T S) (step : Stepping T S) (tag : Tag) (s : S) (X : Streams T) → facts.whole s ≡ false → de_turn facts step tag s X ≡ by_rows facts step tag (rows_of X) s

-- the rows of a turn, one after another
pub record RowsGoOn (T S : Type 0) : Type 0 where
  pub begins : (facts : Facts T S) (step : Stepping T S) (tag : Tag) (s : S) → by_rows facts step tag [] s ≡ Done s [] silent
  pub done : (facts : Facts T S) (step : Stepping T S) (tag : Tag) (s z : S) (Xs : List (Streams T)) (X : Streams T) (out : Streams T) (l : Log T) (z' : S) (more : Streams T) (k : Log T) → by_rows facts step tag Xs s ≡ Done z out l → step tag z X ≡ Done z' more k →
      by_rows facts step tag (Xs ++ (X ∷ [])) s ≡ Done z' (joined out more) (log_then l (log_then k (own (record { number = facts.made z; tag = tag; inputs = X; outputs = more }))))
  pub stuck : (facts : Facts T S) (step : Stepping T S) (tag : Tag) (s z : S) (Xs : List (Streams T)) (X : Streams T) (Ys : List (Streams T)) (out : Streams T) (l : Log T) (fs : List Fault) (k : Log T) → by_rows facts step tag Xs s ≡ Done z out l → step tag z X ≡ Stuck fs k →
      by_rows facts step tag (Xs ++ (X ∷ Ys)) s ≡ Stuck fs (log_then l k)

-- how many rows there are, and what row j has at a place
pub record RowsAre (T : Type 0) : Type 0 where
  pub count : (X : Streams T) → length (rows_of X) ≡ max 1 (longest X)
  pub row : (X : Streams T) (j p : ℕ) → j < max 1 (longest X) → at (get_or (rows_of X) j []) p ≡ take 1 (drop j (at X p))
  pub width : (X : Streams T) (j : ℕ) → j < max 1 (longest X) → length (get_or (rows_of X) j []) ≡ length X

-- a tick of an SR or DE composite under way
abbrev pub SrRun : {T A : Type 0} → Rows T A → ℕ → ℕ → Meets → Tag → TickPlan → Nodes T A → Streams T → List (Partial T) → Type 0
SrRun rows k d m tag p kids inputs V = TickRun (child_facts (facts_of rows)).early sr_active (sr_turn (child_facts (facts_of rows)) (steps_below rows k d m)) tag p.net (numbered 0 (list_of kids)) inputs V

abbrev pub DeRun : {T A : Type 0} → Rows T A → ℕ → ℕ → Meets → Tag → TickPlan → Nodes T A → Streams T → List (Partial T) → Type 0
DeRun rows k d m tag p kids inputs V = TickRun (de_early (child_facts (facts_of rows))) (de_active (child_facts (facts_of rows))) (de_turn (child_facts (facts_of rows)) (steps_below rows k d m)) tag p.net (numbered 0 (list_of kids)) inputs V

module _ {T A : Type 0} (rows : Rows T A) (k d : ℕ) (m : Meets) (tag : Tag) (p : TickPlan) (kids : Nodes T A) (inputs : Streams T) (c : Child (Node T A)) where
  -- each channel is known as well as its source tells, and how child i stands
  abbrev pub SrKnows : List (Partial T) → ℕ → Type 0
  SrKnows V i = Knows (child_facts (facts_of rows)).early sr_active (sr_turn (child_facts (facts_of rows)) (steps_below rows k d m)) tag p.net (numbered 0 (list_of kids)) inputs c V i (get p.net.sources i)

  abbrev pub DeKnows : List (Partial T) → ℕ → Type 0
  DeKnows V i = Knows (de_early (child_facts (facts_of rows))) (de_active (child_facts (facts_of rows))) (de_turn (child_facts (facts_of rows)) (steps_below rows k d m)) tag p.net (numbered 0 (list_of kids)) inputs c V i (get p.net.sources i)

  abbrev pub SrFired : List (Partial T) → List (Child (Node T A)) → List (Streams T) → List (Log T) → ℕ → Type 0
  SrFired V news outs ls i = FiredAt (child_facts (facts_of rows)).early sr_active (sr_turn (child_facts (facts_of rows)) (steps_below rows k d m)) tag p.net (numbered 0 (list_of kids)) inputs c V news outs ls i

  abbrev pub DeFired : List (Partial T) → List (Child (Node T A)) → List (Streams T) → List (Log T) → ℕ → Type 0
  DeFired V news outs ls i = FiredAt (de_early (child_facts (facts_of rows))) (de_active (child_facts (facts_of rows))) (de_turn (child_facts (facts_of rows)) (steps_below rows k d m)) tag p.net (numbered 0 (list_of kids)) inputs c V news outs ls i

  abbrev pub SrFiredOrWaits : List (Partial T) → List (Child (Node T A)) → List (Streams T) → List (Log T) → ℕ → Type 0
  SrFiredOrWaits V news outs ls i = FiredOrWaits (child_facts (facts_of rows)).early sr_active (sr_turn (child_facts (facts_of rows)) (steps_below rows k d m)) tag p.net (numbered 0 (list_of kids)) inputs c V news outs ls i

  abbrev pub DeFiredOrWaits : List (Partial T) → List (Child (Node T A)) → List (Streams T) → List (Log T) → ℕ → Type 0
  DeFiredOrWaits V news outs ls i = FiredOrWaits (de_early (child_facts (facts_of rows))) (de_active (child_facts (facts_of rows))) (de_turn (child_facts (facts_of rows)) (steps_below rows k d m)) tag p.net (numbered 0 (list_of kids)) inputs c V news outs ls i

  abbrev pub SrLogged : List (Partial T) → List (Log T) → ℕ → Type 0
  SrLogged V ls i = LoggedAt (child_facts (facts_of rows)).early sr_active (sr_turn (child_facts (facts_of rows)) (steps_below rows k d m)) tag p.net (numbered 0 (list_of kids)) inputs c V ls i

  abbrev pub DeLogged : List (Partial T) → List (Log T) → ℕ → Type 0
  DeLogged V ls i = LoggedAt (de_early (child_facts (facts_of rows))) (de_active (child_facts (facts_of rows))) (de_turn (child_facts (facts_of rows)) (steps_below rows k d m)) tag p.net (numbered 0 (list_of kids)) inputs c V ls i

-- Where each child has fired or rests, the composite's firing is done, at each fuel from the number of channels on.
abbrev pub SrEnds : Type 0 → Type 0 → Type 0
SrEnds T A = (rows : Rows T A) → LawfulRows rows → (k d : ℕ) (m : Meets) (tag : Tag) (h : Past) (c : Core T) (p : TickPlan) (kids : Nodes T A) (inputs : Streams T) (child : Child (Node T A)) (V : List (Partial T)) (news : List (Child (Node T A))) (outs : List (Streams T)) (ls : List (Log T)) →
    SrRun rows k d m tag p kids inputs V → IsWide p.net (numbered 0 (list_of kids)) news ls → ((i : ℕ) → i < length p.net.sources → SrKnows rows k d m tag p kids inputs child V i) → ((i : ℕ) → i < length p.net.places → SrFired rows k d m tag p kids inputs child V news outs ls i) → length p.net.sources ≤ k →
    step_at rows k (suc d) m tag (Composite h c (Sr p) kids) inputs ≡ Done (Composite (fired_at tag h) c (Sr p) (nodes_of (nodes news))) (tokens_of (drop (total p.net.places) V)) (within_firing h.made (log_below ls))

abbrev pub DeEnds : Type 0 → Type 0 → Type 0
DeEnds T A = (rows : Rows T A) → LawfulRows rows → (k d : ℕ) (m : Meets) (tag : Tag) (h : Past) (c : Core T) (p : TickPlan) (kids : Nodes T A) (inputs : Streams T) (child : Child (Node T A)) (V : List (Partial T)) (news : List (Child (Node T A))) (outs : List (Streams T)) (ls : List (Log T)) →
    DeRun rows k d m tag p kids inputs V → IsWide p.net (numbered 0 (list_of kids)) news ls → ((i : ℕ) → i < length p.net.sources → DeKnows rows k d m tag p kids inputs child V i) → ((i : ℕ) → i < length p.net.places → DeFired rows k d m tag p kids inputs child V news outs ls i) → length p.net.sources ≤ k →
    step_at rows k (suc d) m tag (Composite h c (De p) kids) inputs ≡ Done (Composite (fired_at tag h) c (De p) (nodes_of (nodes news))) (tokens_of (drop (total p.net.places) V)) (within_firing h.made (log_below ls))

-- Where some child waits for ever, and none is stuck, an SR composite is stuck with 36, and a DE composite without a place.
abbrev pub SrLacks : Type 0 → Type 0 → Type 0
SrLacks T A = (rows : Rows T A) → LawfulRows rows → (k d : ℕ) (m : Meets) (tag : Tag) (h : Past) (c : Core T) (p : TickPlan) (kids : Nodes T A) (inputs : Streams T) (child : Child (Node T A)) (V : List (Partial T)) (news : List (Child (Node T A))) (outs : List (Streams T)) (ls : List (Log T)) →
    SrRun rows k d m tag p kids inputs V → IsWide p.net (numbered 0 (list_of kids)) news ls → ((i : ℕ) → i < length p.net.sources → SrKnows rows k d m tag p kids inputs child V i) → ((i : ℕ) → i < length p.net.places → SrFiredOrWaits rows k d m tag p kids inputs child V news outs ls i) →
    (w : ℕ) → w < length p.net.places → known (places_at p.net.places w V) ≡ None → length p.net.sources ≤ k →
    step_at rows k (suc d) m tag (Composite h c (Sr p) kids) inputs ≡ Stuck (record { path = []; firing = h.made; code = 36 } ∷ []) (within_firing h.made (log_below ls))

abbrev pub DeLacks : Type 0 → Type 0 → Type 0
DeLacks T A = (rows : Rows T A) → LawfulRows rows → (k d : ℕ) (m : Meets) (tag : Tag) (h : Past) (c : Core T) (p : TickPlan) (kids : Nodes T A) (inputs : Streams T) (child : Child (Node T A)) (V : List (Partial T)) (news : List (Child (Node T A))) (outs : List (Streams T)) (ls : List (Log T)) →
    DeRun rows k d m tag p kids inputs V → IsWide p.net (numbered 0 (list_of kids)) news ls → ((i : ℕ) → i < length p.net.sources → DeKnows rows k d m tag p kids inputs child V i) → ((i : ℕ) → i < length p.net.places → DeFiredOrWaits rows k d m tag p kids inputs child V news outs ls i) →
    (w : ℕ) → w < length p.net.places → known (places_at p.net.places w V) ≡ None → length p.net.sources ≤ k →
    step_at rows k (suc d) m tag (Composite h c (De p) kids) inputs ≡ Stuck [] (within_firing h.made (log_below ls))

-- Where child i is stuck in its turn, the composite is stuck at its place, and has logged at least what the children have.
abbrev pub SrSticks : Type 0 → Type 0 → Type 0
SrSticks T A = (rows : Rows T A) → LawfulRows rows → (k d : ℕ) (m : Meets) (tag : Tag) (h : Past) (c : Core T) (p : TickPlan) (kids : Nodes T A) (inputs : Streams T) (child : Child (Node T A)) (V : List (Partial T)) (ls : List (Log T)) →
    length (list_of kids) ≡ length p.net.places → length ls ≡ length p.net.places → SrRun rows k d m tag p kids inputs V → ((i : ℕ) → i < length p.net.places → SrLogged rows k d m tag p kids inputs child V ls i) →
    (i : ℕ) → i < length p.net.places → (X : Streams T) → known (places_at p.net.places i V) ≡ Some X → (fs : List Fault) (l : Log T) → sr_turn (child_facts (facts_of rows)) (steps_below rows k d m) tag (get_or (numbered 0 (list_of kids)) i child) X ≡ Stuck fs l → (f : Fault) → IsIn f fs → length p.net.sources ≤ k →
    IsStuckBelow (step_at rows k (suc d) m tag (Composite h c (Sr p) kids) inputs) i f (within_firing h.made (log_below ls))

abbrev pub DeSticks : Type 0 → Type 0 → Type 0
DeSticks T A = (rows : Rows T A) → LawfulRows rows → (k d : ℕ) (m : Meets) (tag : Tag) (h : Past) (c : Core T) (p : TickPlan) (kids : Nodes T A) (inputs : Streams T) (child : Child (Node T A)) (V : List (Partial T)) (ls : List (Log T)) →
    length (list_of kids) ≡ length p.net.places → length ls ≡ length p.net.places → DeRun rows k d m tag p kids inputs V → ((i : ℕ) → i < length p.net.places → DeLogged rows k d m tag p kids inputs child V ls i) →
    (i : ℕ) → i < length p.net.places → (X : Streams T) → known (places_at p.net.places i V) ≡ Some X → de_active (child_facts (facts_of rows)) tag (get_or (numbered 0 (list_of kids)) i child) X ≡ true →
    (fs : List Fault) (l : Log T) → de_turn (child_facts (facts_of rows)) (steps_below rows k d m) tag (get_or (numbered 0 (list_of kids)) i child) X ≡ Stuck fs l → (f : Fault) → IsIn f fs → length p.net.sources ≤ k →
    IsStuckBelow (step_at rows k (suc d) m tag (Composite h c (De p) kids) inputs) i f (within_firing h.made (log_below ls))

-- what the children have logged in the middle is the beginning of the firing's log
abbrev pub SrIsPrefix : Type 0 → Type 0 → Type 0
SrIsPrefix T A = (rows : Rows T A) → LawfulRows rows → (k d : ℕ) (m : Meets) (tag : Tag) (h : Past) (c : Core T) (p : TickPlan) (kids : Nodes T A) (inputs : Streams T) (child : Child (Node T A)) (V : List (Partial T)) (ls : List (Log T)) →
    length (list_of kids) ≡ length p.net.places → length ls ≡ length p.net.places → SrRun rows k d m tag p kids inputs V → ((i : ℕ) → i < length p.net.places → SrLogged rows k d m tag p kids inputs child V ls i) → length p.net.sources ≤ k →
    LogBelow (within_firing h.made (log_below ls)) (log_in (step_at rows k (suc d) m tag (Composite h c (Sr p) kids) inputs))

abbrev pub DeIsPrefix : Type 0 → Type 0 → Type 0
DeIsPrefix T A = (rows : Rows T A) → LawfulRows rows → (k d : ℕ) (m : Meets) (tag : Tag) (h : Past) (c : Core T) (p : TickPlan) (kids : Nodes T A) (inputs : Streams T) (child : Child (Node T A)) (V : List (Partial T)) (ls : List (Log T)) →
    length (list_of kids) ≡ length p.net.places → length ls ≡ length p.net.places → DeRun rows k d m tag p kids inputs V → ((i : ℕ) → i < length p.net.places → DeLogged rows k d m tag p kids inputs child V ls i) → length p.net.sources ≤ k →
    LogBelow (within_firing h.made (log_below ls)) (log_in (step_at rows k (suc d) m tag (Composite h c (De p) kids) inputs))
