-- What a firing of a composite comes to, by its director and its children, whichever director that is.
use Rattle.std.specs.Prelude.{◌≡◌, ℕ, suc, ◌+◌, ◌≤◌, List}
use Rattle.pt_meaning.specs.Basics.{Tag, Streams}
use Rattle.pt_meaning.specs.Meetings.{Meets}
use Rattle.pt_meaning.specs.Tree as tree
use Rattle.pt_value.specs.declared.token.Token.{Token}
use Rattle.pt_records.specs.Kept.{Entry, kept_by}
use Rattle.pt_records.specs.Made.{AllMade, AllMadeBefore}
use Rattle.pt_records.specs.Fired.{FiresTo}
use Rattle.pt_core.specs.Acts.{Calls, Acts}
use Rattle.pt_core.specs.Lawful as lawful
use Rattle.pt_library.specs.LibraryActor.{rows}
use Rattle.pt_node.specs.Shown.{AllShown}
use Rattle.pt_node.specs.View as view
use Rattle.pt_node.specs.View.{Tree, Heading, Outline, nodes_of, kepts_of, outlines_of, counts_of}
use Rattle.pt_node.specs.Live.{AllFit}
use Rattle.pt_past.specs.Meetings.{Serves}
use Rattle.pt_turns.specs.declared.within.Within.{Within}
use Rattle.pt_turns.specs.declared.within.Within.TheVariants.{Done, Fault, Spent, Full, Memory}
use Rattle.pt_turns.specs.Within.{outcome, IsLeftOff, IsStuck, IsFull, SpendsAll}
use Rattle.pt_turns.specs.OwnMeetings.{OwnMeetings, with_meetings, IsOwnPath}

module _ {D : Type 0} (a : Acts rows D) where
  -- the composite, by a state of its director
  abbrev pub composite : tree.Past → D → AllShown → Tree
  composite h s ks = lawful.node a h s (nodes_of ks)

  -- its names, by its path, by the labels of its channels, and by what of it is recorded
  abbrev pub names : (path : List ℕ) (labels : List (List ℕ)) → List Heading → D → AllShown → Outline
  names path labels hs s ks = view.Named path hs (a.calls.maximum s) labels (outlines_of ks)

  -- What its firing comes to, whatever its past and what is kept at its own path. Where it is stuck or full itself, that is told at its path, of the firing of its number. What is kept of its path goes on by the meetings that were recorded in it.
  abbrev pub CompositeTo : (path : List ℕ) (labels : List (List ℕ)) → OwnMeetings → D → AllShown → Tag → Streams Token → Within → D → AllShown → Type 0
  CompositeTo path labels own s ks tag X (Done out) s' ks' = (m : Meets) → AllMadeBefore m (kepts_of ks') → (h : tree.Past) (e : Entry Token) → IsOwnPath m own h e → FiresTo (outcome m (composite h s ks) tag X) (composite (tree.fired_at tag h) s' ks') out (kept_by e (kepts_of ks)) (kept_by (with_meetings own.now e) (kepts_of ks'))
  CompositeTo path labels own s ks tag X (Fault place) s' ks' = (m : Meets) → AllMade m (kepts_of ks') → (h : tree.Past) (e : Entry Token) → IsOwnPath m own h e → (hs : List Heading) → IsStuck m (composite h s ks) tag X (names path labels hs s ks) place (kept_by e (kepts_of ks)) (kept_by (with_meetings own.now e) (kepts_of ks'))
  CompositeTo path labels own s ks tag X Spent s' ks' = (m : Meets) → AllMade m (kepts_of ks') → (h : tree.Past) (e : Entry Token) → IsOwnPath m own h e → IsLeftOff m (composite h s ks) tag X (kept_by e (kepts_of ks)) (kept_by (with_meetings own.now e) (kepts_of ks'))
  CompositeTo path labels own s ks tag X (Full blocked) s' ks' = (m : Meets) → AllMade m (kepts_of ks') → (h : tree.Past) (e : Entry Token) → IsOwnPath m own h e → (hs : List Heading) → IsFull m (composite h s ks) tag X (names path labels hs s ks) blocked (kept_by e (kepts_of ks)) (kept_by (with_meetings own.now e) (kepts_of ks'))
  CompositeTo path labels own s ks tag X Memory s' ks' = (m : Meets) → AllMade m (kepts_of ks') → (h : tree.Past) (e : Entry Token) → IsOwnPath m own h e → IsLeftOff m (composite h s ks) tag X (kept_by e (kepts_of ks)) (kept_by (with_meetings own.now e) (kepts_of ks'))

  -- after a firing that is done the director and the children fit, and what is recorded of its meetings serves the next one
  abbrev pub KeepsFit : OwnMeetings → Within → D → AllShown → Type 0
  KeepsFit own (Done out) s ks = a.Fits s (tree.list_of (nodes_of ks)) × AllFit ks × Serves (a.calls.met s) (suc own.number) own.now
  KeepsFit own (Fault place) s ks = Unit {0}
  KeepsFit own Spent s ks = Unit {0}
  KeepsFit own (Full blocked) s ks = Unit {0}
  KeepsFit own Memory s ks = Unit {0}

  -- what a firing comes to that began from the director `before` and the children olds with this allowance: besides, the children have their names, the director states the maximum capacity that it stated, and the allowance was lowered by each firing of a child
  pub record EndsAs (path : List ℕ) (labels : List (List ℕ)) (own : OwnMeetings) (before : D) (olds : AllShown) (tag : Tag) (X : Streams Token) (allowance : ℕ) (w : Within) (s : D) (now : AllShown) (left : ℕ) : Type 0 where
    pub goes : CompositeTo path labels own before olds tag X w s now
    pub spends : SpendsAll w left
    pub lowered : left ≤ allowance
    pub fit : KeepsFit own w s now
    pub outlines : outlines_of now ≡ outlines_of olds
    pub maximum : a.calls.maximum s ≡ a.calls.maximum before
    pub counted : counts_of now + left ≡ counts_of olds + allowance

-- the own outputs were handed out, or there was no memory for them, and the director is as before
abbrev pub FinishTo : {D : Type 0} → Calls D → D → Within → D → Type 0
FinishTo c s (Done out) s' = (s' ≡ c.closed s) × (out ≡ c.own_of s)
FinishTo c s (Fault place) s' = ⊥
FinishTo c s Spent s' = ⊥
FinishTo c s (Full blocked) s' = ⊥
FinishTo c s Memory s' = s' ≡ s
