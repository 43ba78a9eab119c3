-- What the calls of a core of DE change of who is due, one step at a time.
use Rattle.std.specs.Prelude.{◌≡◌, ℕ, suc, ◌+◌, ◌<◌, ◌≤◌, List, [], ◌∷◌, Bool, true, false, ◌&&◌, ◌||◌, length, map, get_or, set, take, drop, nat_eq, Option}
use Rattle.pt_meaning.specs.Tag.{Tag}
use Rattle.pt_meaning.specs.Streams.{Streams, at}
use Rattle.pt_meaning.specs.Machine.{Partial}
use Rattle.pt_meaning.specs.Net.{Source}
use Rattle.pt_meaning.specs.Valuation.{TickPlan, tokens_of}
use Rattle.pt_meaning.specs.Running.{total}
use Rattle.pt_laws.specs.TickRuns.{places_at}
use Rattle.pt_wakes.specs.Due.{DueSet, with_due}
use Rattle.pt_wakes.specs.Due as wakes
use Rattle.pt_wakes.specs.Moved.{with_woken}
use Rattle.pt_de_laws.specs.State.{Roles, Turn, Waits, Answered, Over, Asked, DeState, at_rest, is_some_token, agree, comes, emptied_from, emptied, gained, at_first, asked, begun, after_told, after_heard, after_fired, in_stage, IsFirst, IsLast, IsOver, waiting_in, rows_left, rows_for, inputs_of, Open}
use Rattle.pt_de_laws.specs.Chain.{with_tokens}
use Rattle.pt_de_laws.specs.Lawful.{IsLawful}
use Rattle.pt_reaction.specs.Offsets.{all_readers}
use Rattle.pt_reaction.specs.Feeds.{Target, targets}
use Rattle.pt_reaction.specs.Given.{put_on, known_on}
use Rattle.pt_de_due.specs.Due.{AreWithin, target_at, due_if, put, with_turn, with_wake, IsShaped, AreDue, AreLast, reader_of, makes_due, makes_last, opened, none_due}

-- Tokens on a channel come to the child that reads it, at a place of the channel's kind, and to no other.
abbrev pub TokensCome : Type 0 → Type 0
TokensCome T = (ns : List ℕ) (delayed : List Bool) (X : Streams T) (channels : ℕ) → total ns ≤ length X → length delayed ≡ length X → (delay : Bool) (c : ℕ) (ts : List T) (j : ℕ) → j < length ns →
    comes delay (places_at ns j delayed) (places_at ns j (put c ts X)) ≡ comes delay (places_at ns j delayed) (places_at ns j X) || (nat_eq (get_or (all_readers ns channels) c (length ns)) j && (agree (get_or delayed c false) delay && is_some_token ts))

-- Channels are emptied one after another. Where those of a child are, what is at the places of the others and at the own outputs stays, and nothing is at its own.
pub record InputsLeave (T : Type 0) : Type 0 where
  pub one_more : (o k : ℕ) (X : Streams T) → emptied_from o (suc k) X ≡ set (emptied_from o k X) (o + k) []
  pub next : (o k : ℕ) (X : Streams T) → at (emptied_from o k X) (o + k) ≡ at X (o + k)
  pub others : (ns : List ℕ) (i j : ℕ) (X : Streams T) → (j ≡ i → ⊥) → places_at ns j (emptied ns i X) ≡ places_at ns j X
  pub own : (ns : List ℕ) (i : ℕ) (X : Streams T) → drop (total ns) (emptied ns i X) ≡ drop (total ns) X
  pub itself : (ns : List ℕ) (i : ℕ) (X : Streams T) → places_at ns i (emptied ns i X) ≡ map (λ xs. []) (places_at ns i X)

-- What a child gives, by a firing or early, and what comes to the own inputs is put on one channel after another.
pub record OutputsArePut (T : Type 0) : Type 0 where
  pub given : (n i : ℕ) (out : Streams T) (cs : List Source) (X : Streams T) → i < n → length X ≡ length cs → put_on (λ port. at out port) (targets n i 0 cs) X ≡ gained i out cs X
  pub early : (n i : ℕ) (early : List (Partial T)) (cs : List Source) (X : Streams T) → i < n → length X ≡ length cs → put_on (λ port. known_on early port) (targets n i 0 cs) X ≡ gained i (tokens_of early) cs X
  pub arrived : (n : ℕ) (inputs : Streams T) (cs : List Source) → AreWithin n cs → put_on (λ port. at inputs port) (targets n n 0 cs) (map (λ c. []) cs) ≡ map (λ c. at_first inputs c) cs
  -- the targets of a row are channels that are there, each after the one before
  pub there : (n r : ℕ) (cs : List Source) (k : ℕ) → k < length (targets n r 0 cs) → (target_at (targets n r 0 cs) k).channel < length cs
  pub rising : (n r : ℕ) (cs : List Source) (j k : ℕ) → j < k → k < length (targets n r 0 cs) → (target_at (targets n r 0 cs) j).channel < (target_at (targets n r 0 cs) k).channel

-- Tokens on a channel make its reader due, if it has had no turn, or, at a delay, one of those that fire after all others.
pub record TokensMakeDue (T : Type 0) : Type 0 where
  pub due : (s : DeState T) → IsShaped s → (c : ℕ) (ts : List T) (d : DueSet) → AreDue s d → AreDue (with_tokens (put c ts s.tokens) s) (due_if (makes_due s c ts) (reader_of s c) d)
  pub last : (s : DeState T) → IsShaped s → (c : ℕ) (ts : List T) (d : DueSet) → AreLast s d → AreLast (with_tokens (put c ts s.tokens) s) (due_if (makes_last s c ts) (reader_of s c) d)

-- So in a loop over targets, after k of them and after one more.
pub record TargetsMakeDue (T : Type 0) : Type 0 where
  pub due : (s : DeState T) → IsShaped s → (given : ℕ → List T) (ts : List Target) (k : ℕ) → k < length ts → (d : DueSet) → AreDue (with_tokens (put_on given (take k ts) s.tokens) s) d →
      AreDue (with_tokens (put_on given (take (k + 1) ts) s.tokens) s) (due_if (makes_due s (target_at ts k).channel (given (target_at ts k).port)) (reader_of s (target_at ts k).channel) d)
  pub last : (s : DeState T) → IsShaped s → (given : ℕ → List T) (ts : List Target) (k : ℕ) → k < length ts → (d : DueSet) → AreLast (with_tokens (put_on given (take k ts) s.tokens) s) d →
      AreLast (with_tokens (put_on given (take (k + 1) ts) s.tokens) s) (due_if (makes_last s (target_at ts k).channel (given (target_at ts k).port)) (reader_of s (target_at ts k).channel) d)

-- As a reaction begins those children are due whose wakes are, and none fires after all others, until something comes.
abbrev pub WakesMakeDue : Type 0 → Type 0
WakesMakeDue T = (s : DeState T) → IsShaped s → (tag : Tag) → AreDue (opened tag s) (with_woken tag s.wakes (none_due s)) × AreLast (opened tag s) (none_due s)

-- A child that is asked to fire is in neither set, one that has answered fires after all others, and a wake that is set once a child has had its turn changes nothing.
pub record TurnsChangeDue (T : Type 0) : Type 0 where
  pub due_asked : (s : DeState T) → IsShaped s → (i : ℕ) (d : DueSet) → AreDue s d → AreDue (asked i s) (with_due d i false)
  pub last_asked : (s : DeState T) → IsShaped s → (i : ℕ) (d : DueSet) → AreLast s d → AreLast (asked i s) (with_due d i false)
  pub due_answered : (s : DeState T) → IsShaped s → (i : ℕ) (d : DueSet) → AreDue s d → AreDue (with_turn i Answered s) (with_due d i false)
  pub last_answered : (s : DeState T) → IsShaped s → (i : ℕ) (d : DueSet) → AreLast s d → AreLast (with_turn i Answered s) (with_due d i true)
  pub due_woken : (s : DeState T) → IsShaped s → (i : ℕ) (wake : Option Tag) → (get_or s.turns i Over ≡ Waits → ⊥) → (d : DueSet) → AreDue s d → AreDue (with_wake i wake s) d

-- The calls as such steps: a turn, a wake or a beginning, and then what is put on the channels.
pub record CallsAreSteps (T : Type 0) : Type 0 where
  pub begun : (s : DeState T) (tag : Tag) (inputs : Streams T) → AreWithin (length s.plan.net.places) s.plan.net.sources →
      with_tokens (put_on (λ port. at inputs port) (targets (length s.plan.net.places) (length s.plan.net.places) 0 s.plan.net.sources) (opened tag s).tokens) (opened tag s) ≡ begun tag inputs s
  pub told : (s : DeState T) (i : ℕ) (out : Streams T) (wake : Option Tag) → IsShaped s → i < length s.plan.net.places → get_or s.roles.early i false ≡ false →
      in_stage (after_fired s.stage) (with_tokens (put_on (λ port. at out port) (targets (length s.plan.net.places) i 0 s.plan.net.sources) s.tokens) (with_wake i wake s)) ≡ after_told i out wake s
  pub told_early : (s : DeState T) (i : ℕ) (out : Streams T) (wake : Option Tag) → get_or s.roles.early i false ≡ true → in_stage (after_fired s.stage) (with_wake i wake s) ≡ after_told i out wake s
  pub heard : (s : DeState T) (i : ℕ) (early : List (Partial T)) → IsShaped s → i < length s.plan.net.places →
      in_stage Open (with_tokens (put_on (λ port. known_on early port) (targets (length s.plan.net.places) i 0 s.plan.net.sources) s.tokens) (with_turn i Answered s)) ≡ after_heard i early s

-- The child that comes first in the set of those that are due may have its turn; where none is due, the one that comes first in the set of those that fire after all others; and where none is in either, each has had its turn.
pub record FirstsComeNext (T : Type 0) : Type 0 where
  pub first : (s : DeState T) (due : DueSet) → AreDue s due → (i : ℕ) → wakes.IsFirst due i → IsFirst s i
  pub last : (s : DeState T) (due last : DueSet) → AreDue s due → AreLast s last → wakes.NoneDue due → (i : ℕ) → wakes.IsFirst last i → IsLast s i
  pub over : (s : DeState T) (due last : DueSet) → AreDue s due → AreLast s last → wakes.NoneDue due → wakes.NoneDue last → IsOver s × (due ≡ none_due s) × (last ≡ none_due s)

-- The lists of a core fit its plan whatever is called, if the plan is lawful.
pub record ShapesStay (T : Type 0) : Type 0 where
  pub rests : (plan : TickPlan) (roles : Roles) (wakes : List (Option Tag)) → IsLawful plan roles → length wakes ≡ length plan.net.places → IsShaped (at_rest {T = T} plan roles wakes)
  pub begun : (s : DeState T) (tag : Tag) (inputs : Streams T) → IsShaped s → IsShaped (begun tag inputs s)
  pub asked : (s : DeState T) (i : ℕ) → IsShaped s → IsShaped (asked i s)
  pub told : (s : DeState T) (i : ℕ) (out : Streams T) (wake : Option Tag) → IsShaped s → IsShaped (after_told i out wake s)
  pub heard : (s : DeState T) (i : ℕ) (early : List (Partial T)) → IsShaped s → IsShaped (after_heard i early s)

-- How many have had no turn, and which rows a child has left.
pub record TurnsAreCounted (T : Type 0) : Type 0 where
  pub all_wait : (ns : List ℕ) → waiting_in (map (λ n. Waits) ns) ≡ length ns
  pub one_less : (ts : List Turn) (i : ℕ) (t : Turn) → get_or ts i Over ≡ Waits → (t ≡ Waits → ⊥) → suc (waiting_in (set ts i t)) ≡ waiting_in ts
  pub as_many : (ts : List Turn) (i : ℕ) (t : Turn) → (get_or ts i Over ≡ Waits → ⊥) → (t ≡ Waits → ⊥) → waiting_in (set ts i t) ≡ waiting_in ts
  pub rows_asked : (s : DeState T) (i : ℕ) → rows_left (asked i s).stage i ≡ rows_for (get_or s.roles.whole i false) (inputs_of s i)
  pub rows_others : (i j : ℕ) (rows : List (Streams T)) → (j ≡ i → ⊥) → rows_left (Asked i rows) j ≡ []
  pub rows_fired : (i : ℕ) (X : Streams T) (Xs : List (Streams T)) → rows_left (after_fired (Asked i (X ∷ Xs))) i ≡ Xs
