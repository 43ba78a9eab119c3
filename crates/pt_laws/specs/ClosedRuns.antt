-- The log of a run of the top is closed, at any fuel.
use Rattle.std.specs.Prelude.{◌≡◌, ◌⊎◌, ℕ, suc, ◌<◌, ◌≤◌, List, [], ◌∷◌, ◌++◌, Bool, true, false, ◌||◌, length, Some, None}
use Rattle.pt_meaning.specs.Basics.{Tag, Streams, Log, Path, Event, Finished, firings_in, log_then, within_firing}
use Rattle.pt_meaning.specs.Rendezvous.{with_meetings}
use Rattle.pt_meaning.specs.Meetings.{Meets}
use Rattle.pt_meaning.specs.Node.{Rows, Core, Past, Node, Nodes, Actor, Composite, none, more, list_of, step_at}
use Rattle.pt_meaning.specs.Lawful.{LawfulRows}
use Rattle.pt_meaning.specs.Job.{Schedule, meaning}
use Rattle.pt_laws.specs.Heights.{IsFitting}
use Rattle.pt_meaning.specs.Streams.{IsPrefix}
use Rattle.pt_meaning.specs.Machine.{Known}
use Rattle.pt_laws.specs.Channels.{held_at, source_of}
use Rattle.pt_meaning.specs.Closed.{child_of, core_at, is_modal, keeps_tokens, is_below_modal, inputs_at, Begun, UnderWay, HasBegun, MayKnow, IsCausedIf, IsTagBelow, CameWithin, IsNext}
use Rattle.pt_laws.specs.SoundRuns.{log_in_child, way_in_child, idle, IsBare, ClosedIn, on_place, IsWired, IsSamePlan, LevelKept, KeptIn, part, all_of, takes_now, gives_now, SoundStep}

-- each place has its channel, and holds only what the plan puts there first
abbrev pub IsFirst : {T : Type 0} → Core T → Type 0
IsFirst c = IsWired c × ((i q : ℕ) → on_place c i q ≡ held_at c i q)

-- a tree that a run begins with: nothing fired, and each core is as at its start
abbrev mutual
  pub IsAtStart : {T A : Type 0} → Node T A → Type 0
  IsAtStart (Actor h a b) = (h.made ≡ 0) × (b ≡ a)
  IsAtStart (Composite h c d kids) = (h.made ≡ 0) × (d ≡ c) × IsFirst c × AllAtStart kids

  pub AllAtStart : {T A : Type 0} → Nodes T A → Type 0
  AllAtStart none = Unit {0}
  AllAtStart (more n ns) = IsAtStart n × AllAtStart ns

-- a firing at any fuel and below any number of levels keeps logs closed, while it is under way and where it is done
abbrev pub FiringsKeepClosed : Type 0 → Type 0 → Type 0
FiringsKeepClosed T A = (rows : Rows T A) → LawfulRows rows → (k d : ℕ) (m : Meets) → SoundStep rows (step_at rows k d m)

-- so the meaning's log is closed at any fuel, and each firing under way is the next of its path
abbrev pub MeaningIsClosed : Type 0 → Type 0 → Type 0
MeaningIsClosed T A = (rows : Rows T A) → LawfulRows rows → (m : Meets) (plan : Schedule T A) (top : Node T A) → IsFitting top → IsAtStart top → (k : ℕ) → (way : UnderWay T) × ClosedIn rows false top (meaning k rows m plan top) way × ((p : Path) (b : Begun T) → way p ≡ Some b → IsNext rows m plan top (meaning k rows m plan top) p b)

-- what is closed level by level is so at each path: each token taken has its cause, a firing under way stands within another, and what came within a firing of a composite came within one that is finished or under way
pub record ClosedAtPaths (T A : Type 0) : Type 0 where
  pub caused : (rows : Rows T A) (u : Bool) (p : Path) (top : Node T A) (l : Log T) (way : UnderWay T) → ClosedIn rows u top l way → (c : Core T) → core_at p top ≡ Some c → (i q n : ℕ) → HasBegun l way p n → IsCausedIf rows top l way (u || is_below_modal p (Some top)) p c i q n
  pub enclosed : (rows : Rows T A) (u : Bool) (p : Path) (top : Node T A) (l : Log T) (way : UnderWay T) → ClosedIn rows u top l way → (i : ℕ) (b : Begun T) → way (p ++ (i ∷ [])) ≡ Some b → (round : Begun T) × (c : Core T) × (way p ≡ Some round) × (core_at p top ≡ Some c) × IsTagBelow (is_modal c) round.tag b.tag
  pub within : (rows : Rows T A) (u : Bool) (p : Path) (top : Node T A) (l : Log T) (way : UnderWay T) → ClosedIn rows u top l way → (n : ℕ) (r : Path) (e : Event T) → CameWithin l p n r e → (n < suc (firings_in (l p))) × (n ≡ firings_in (l p) → (b : Begun T) × (way p ≡ Some b))

-- A composite that a run has come to is firing: es stands at its own path (meetings), and new is what its children have logged in this firing, each below its number.
-- What stands here is what code shows that fires the children one by one: what a child took now is the beginning of what was on its place and what its source gave, or of what may be known of it.
abbrev pub TakenNow : {T A : Type 0} → Rows T A → (resettable : Bool) → Node T A → Core T → Core T → Past → Log T → List (Event T) → Streams T → Log T → UnderWay T → Tag → Type 0
TakenNow {T} rows u top c d h l es inputs new way tag = (i q : ℕ) → IsPrefix (takes_now new way i q) (on_place d i q ++ gives_now inputs new (source_of d i q)) ⊎
    ((keeps_tokens c ≡ false) × (xs : List T) × MayKnow rows top (log_then l (within_firing h.made (with_meetings es new))) way u [] c h.made tag i q (Known xs) × IsPrefix (takes_now new way i q) xs)

-- where all that it took was given
abbrev pub TakenWell : {T : Type 0} → Core T → Streams T → Log T → Type 0
TakenWell d inputs new = (i q : ℕ) → IsPrefix (all_of (inputs_at q) (new (i ∷ []))) (on_place d i q ++ gives_now inputs new (source_of d i q))

-- and where what it left is on its place
abbrev pub LeftWell : {T : Type 0} → Core T → Core T → Streams T → Log T → Type 0
LeftWell d d' inputs new = keeps_tokens d ≡ true → (i q : ℕ) → all_of (inputs_at q) (new (i ∷ [])) ++ on_place d' i q ≡ on_place d i q ++ gives_now inputs new (source_of d i q)

-- each child is closed with what it has logged now
abbrev pub KidsClosed : {T A : Type 0} → Rows T A → Bool → Nodes T A → Log T → Log T → UnderWay T → Type 0
KidsClosed {T} {A} rows u kids l new way = (i : ℕ) (k : Node T A) → child_of kids i ≡ Some k → ClosedIn rows u k (log_then (log_in_child i l) (part i new)) (way_in_child i way)

-- no number beyond the children has a log
abbrev pub NoneBeyond : {T A : Type 0} → Nodes T A → Log T → UnderWay T → Type 0
NoneBeyond kids new way = (i : ℕ) (p : Path) → length (list_of kids) ≤ i → (new (i ∷ p) ≡ []) × (way (i ∷ p) ≡ None)

-- what the composite has logged in this firing: with its own record once it is done
abbrev pub own_event : {T : Type 0} → Past → Tag → Streams T → Streams T → Event T
own_event h tag inputs out = Finished [] (record { number = h.made; tag = tag; inputs = inputs; outputs = out })

-- Then its log is closed with what is logged in the firing, in the middle with the firing under way, and at the end with its record; and there it has come to the state after it.
pub record LevelsGoOn (T A : Type 0) : Type 0 where
  pub under_way : (rows : Rows T A) (u : Bool) (h₀ : Past) (c₀ d₀ : Core T) (kids₀ : Nodes T A) (h : Past) (c d : Core T) (count : ℕ) (l : Log T) → ClosedIn rows u (Composite h₀ c₀ d₀ kids₀) l idle → LevelKept u h c₀ c d (length (list_of kids₀)) count l →
      (es : List (Event T)) → IsBare es → firings_in es ≡ 0 → (new : Log T) (tag : Tag) (inputs : Streams T) (way : UnderWay T) → way [] ≡ Some (record { tag = tag; inputs = inputs }) → ((i : ℕ) (b : Begun T) → way (i ∷ []) ≡ Some b → IsTagBelow (is_modal d) tag b.tag) → NoneBeyond kids₀ new way →
      TakenNow rows u (Composite h₀ c₀ d₀ kids₀) c₀ d h l es inputs new way tag → KidsClosed rows (u || is_modal c₀) kids₀ l new way → ClosedIn rows u (Composite h₀ c₀ d₀ kids₀) (log_then l (within_firing h.made (with_meetings es new))) way
  pub done : (rows : Rows T A) (u : Bool) (h₀ : Past) (c₀ d₀ : Core T) (kids₀ : Nodes T A) (h : Past) (c d : Core T) (count : ℕ) (l : Log T) → ClosedIn rows u (Composite h₀ c₀ d₀ kids₀) l idle → LevelKept u h c₀ c d (length (list_of kids₀)) count l →
      (es : List (Event T)) → IsBare es → firings_in es ≡ 0 → (new : Log T) (tag : Tag) (inputs out : Streams T) → NoneBeyond kids₀ new idle → TakenWell d inputs new → KidsClosed rows (u || is_modal c₀) kids₀ l new idle →
      ClosedIn rows u (Composite h₀ c₀ d₀ kids₀) (log_then l (within_firing h.made (with_meetings (es ++ (own_event h tag inputs out ∷ [])) new))) idle
  pub kept : (rows : Rows T A) (u : Bool) (h₀ : Past) (c₀ d₀ : Core T) (kids₀ : Nodes T A) (h : Past) (c d : Core T) (count : ℕ) (l : Log T) → ClosedIn rows u (Composite h₀ c₀ d₀ kids₀) l idle → LevelKept u h c₀ c d (length (list_of kids₀)) count l →
      (es : List (Event T)) → IsBare es → firings_in es ≡ 0 → (new : Log T) (tag : Tag) (inputs out : Streams T) (h' : Past) (d' : Core T) (kids' : Nodes T A) → h'.made ≡ suc h.made → length (list_of kids') ≡ count → IsWired d' → IsSamePlan d' d → LeftWell d d' inputs new →
      ((i : ℕ) (k₀ k : Node T A) → child_of kids₀ i ≡ Some k₀ → child_of kids' i ≡ Some k → KeptIn rows (u || is_modal c₀) k₀ k (log_then (log_in_child i l) (part i new))) →
      KeptIn rows u (Composite h₀ c₀ d₀ kids₀) (Composite h' c d' kids') (log_then l (within_firing h.made (with_meetings (es ++ (own_event h tag inputs out ∷ [])) new)))
