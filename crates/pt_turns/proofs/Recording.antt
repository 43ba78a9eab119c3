-- What a firing comes to once it is recorded, and what its record changes.
use Rattle.std.proofs.Common.{◌≡◌, ℕ, List, [], ◌∷◌, map, Some, None, refl, sym, ap, subst, ◌∙◌, arith}
use Rattle.pt_meaning.specs.Basics.{Tag, Streams, Log, LogBelow, Firing, silent, log_then, own}
use Rattle.pt_meaning.specs.Machine as machine
use Rattle.pt_meaning.specs.Machine.{Outcome, recorded}
use Rattle.pt_meaning.specs.Meetings.{Meets}
use Rattle.pt_meaning.specs.Tree as tree
use Rattle.pt_meaning.specs.Step.{Step}
use Rattle.pt_laws.specs.LogsOfRuns.{log_in}
use Rattle.pt_laws.proofs.Order.{IsPrefix-refl, IsPrefix-trans, IsPrefix-append}
use Rattle.pt_value.specs.declared.token.Token.{Token}
use Rattle.pt_records.specs.Kept.{Kept, Entry, kept_by, GrewBy, TracesTold}
use Rattle.pt_records.specs.Made.{AreMade, AreMadeBefore, AreMadeWithin, AllMade}
use Rattle.pt_records.specs.Fired.{FiresTo, SticksAt, LeavesOff}
use Rattle.pt_records.specs.Shut.{IsShut}
use Rattle.pt_records.proofs.ShutSteps.{nothing-is-shut, stepped-is-shut}
use Rattle.pt_records.proofs.GrowthLaws.{grew-none, grew-joined, grew-record}
use Rattle.pt_library.specs.LibraryActor.{rows}
use Rattle.pt_library.proofs.RowLaws.{rows_lawful}
use Rattle.pt_node.specs.declared.body.Body.{Body}
use Rattle.pt_node.specs.declared.body.Body.TheVariants as body
use Rattle.pt_past.specs.Recorded.{RecordedPort, noting, recording, unnoted, trace_of}
use Rattle.pt_node.specs.Shown.{Shown, AllShown, Branch}
use Rattle.pt_node.specs.Firing as firing
use Rattle.pt_node.specs.View.{Tree, node_of, nodes_of, node_with, entry_of, kept_of, kepts_of, outline_of, text_at, count_of}
use Rattle.pt_node.specs.Live.{IsFit, HasFired, IsLive, is_live}
use Rattle.pt_turns.specs.Within.{outcome, IsLeftOff, IsStuckIn, fired, path_of, made_of}

-- what has all the recorded meetings has those of the firings that are finished, and what has them with the node's own record has them without
pub made-within : (m : Meets) (k : Kept Token) → AreMade m k → AreMadeWithin m k
made-within m k made = record { own = λ n l. made [] n; below = λ i p n l. made (i ∷ p) n }

pub made-recorded : (m : Meets) (tag : Tag) (out : Streams Token) (mid : Shown) → AreMadeBefore m (kept_of (firing.recorded tag (firing.noted tag out mid))) → AreMadeWithin m (kept_of mid)
made-recorded m tag out (Branch g ks) made = record { own = made []; below = λ i p n l. made (i ∷ p) n l }

pub made-children : (m : Meets) (e : Entry Token) (ks : List (Kept Token)) → AreMade m (kept_by e ks) → AllMade m ks
made-children m e ks made = λ i p n. made (i ∷ p) n

-- nothing was finished yet, or all of a firing that is done
pub off-none : (m : Meets) (n : Tree) (tag : Tag) (X : Streams Token) (k : Kept Token) → IsLeftOff m n tag X k k
off-none m n tag X k = record { log = silent; beginning = (0, λ j l p. tt); kept = grew-none k; part = nothing-is-shut rows rows_lawful m n tag X }

pub off-done : (m : Meets) (n : Tree) (tag : Tag) (X : Streams Token) (next : Tree) (out : Streams Token) (old new : Kept Token) → FiresTo (outcome m n tag X) next out old new → IsLeftOff m n tag X old new
off-done m n tag X next out old new f = record {
  log = f.log;
  beginning = (f.done.0, λ k l p. subst (λ r. LogBelow f.log (log_in r)) (sym (f.done.1 k l)) (λ q. IsPrefix-refl (f.log q)) p);
  kept = f.kept;
  part = subst (λ r. IsShut rows m n tag X None (log_in r)) (f.done.1 f.done.0 (omega arith)) (stepped-is-shut rows rows_lawful m n f.done.0 (tree.height n) (omega arith) tag X);
}

-- with the node's own record
recorded-begins : {S : Type 0} (n : ℕ) (tag : Tag) (X : Streams Token) (l : Log Token) (r : Outcome Token S) → LogBelow l (log_in r) → LogBelow l (log_in (recorded n tag X r))
recorded-begins n tag X l (machine.Done s out k) b p = IsPrefix-trans (l p) (k p) _ (b p) (IsPrefix-append (k p) (own (record { number = n; tag = tag; inputs = X; outputs = out }) p))
recorded-begins n tag X l (machine.Stuck fs k) b p = b p

pub step-off : (m : Meets) (n : Tree) (tag : Tag) (X : Streams Token) (old new : Kept Token) → IsLeftOff m n tag X old new → LeavesOff (λ k. Step k rows m n tag X) (IsShut rows m n tag X None) old new
step-off m n tag X old new f = record { log = f.log; beginning = (f.beginning.0, λ k l. recorded-begins (tree.made_of n) tag X f.log (outcome m n tag X k) (f.beginning.1 k l)); kept = f.kept; part = f.part }

pub step-stuck : (m : Meets) (n : Tree) (tag : Tag) (X : Streams Token) (f : machine.Fault) (old new : Kept Token) → IsStuckIn m n tag X f old new → SticksAt (λ k. Step k rows m n tag X) (IsShut rows m n tag X (Some f)) f old new
step-stuck m n tag X f old new s = record {
  log = s.log;
  stuck = (s.stuck.0, λ k l. let r = s.stuck.1 k l in (r.0, r.1, ap (λ v. recorded (tree.made_of n) tag X v) r.2, r.3, r.4));
  kept = s.kept;
  part = s.part;
}

-- what is recorded of a node
traces-told : (tag : Tag) (out : Streams Token) (rs : List RecordedPort) → TracesTold tag out (map trace_of rs) (map trace_of (map recording (map (noting tag out) rs)))
traces-told tag out [] = tt
traces-told tag out (r ∷ rs) = (refl, refl, traces-told tag out rs)

record-grew : (f : Firing Token) (s : Shown) → GrewBy (own f) (kept_of s) (kept_of (firing.recorded f.tag (firing.noted f.tag f.outputs s)))
record-grew f (Branch g ks) = grew-record f silent (entry_of g) (entry_of g) _ (kepts_of ks) (kepts_of ks) (grew-none (kept_of (Branch g ks))) (record { count = refl; recorded = traces-told f.tag f.outputs g.records; meetings = refl })

fired-body : (tag : Tag) (h : tree.Past) (b : Body) (ks : AllShown) → node_with (tree.fired_at tag h) b (nodes_of ks) ≡ fired tag (node_with h b (nodes_of ks))
fired-body tag h (body.Actor held) ks = refl
fired-body tag h (body.Composite d) ks = refl

node-recorded : (tag : Tag) (out : Streams Token) (s : Shown) → node_of (firing.recorded tag (firing.noted tag out s)) ≡ fired tag (node_of s)
node-recorded tag out (Branch g ks) = fired-body tag g.past g.body ks

pub step-fires : (m : Meets) (old mid : Shown) (tag : Tag) (X out : Streams Token) → FiresTo (outcome m (node_of old) tag X) (fired tag (node_of mid)) out (kept_of old) (kept_of mid) →
    FiresTo (λ k. Step k rows m (node_of old) tag X) (node_of (firing.recorded tag (firing.noted tag out mid))) out (kept_of old) (kept_of (firing.recorded tag (firing.noted tag out mid)))
step-fires m old mid tag X out f =
    let own_firing : Firing Token = record { number = tree.made_of (node_of old); tag = tag; inputs = X; outputs = out } in
    record {
      log = log_then f.log (own own_firing);
      done = (f.done.0, λ k l. ap (λ v. recorded (tree.made_of (node_of old)) tag X v) (f.done.1 k l) ∙ ap (λ (n : Tree). let r : Outcome Token Tree = machine.Done n out (log_then f.log (own own_firing)) in r) (sym (node-recorded tag out mid)));
      kept = grew-joined f.log (own own_firing) (kept_of old) (kept_of mid) (kept_of (firing.recorded tag (firing.noted tag out mid))) f.kept (record-grew own_firing mid);
    }

pub fit-recorded : (tag : Tag) (out : Streams Token) (s : Shown) → HasFired s → IsFit (firing.recorded tag (firing.noted tag out s))
fit-recorded tag out (Branch g ks) f = f

pub live-recorded : (tag : Tag) (out : Streams Token) (s : Shown) → HasFired s → IsLive (firing.recorded tag (firing.noted tag out s))
live-recorded tag out (Branch g ks) f = (refl, f)

-- notes keep what is recorded
traces-unnoted : (rs : List RecordedPort) → map trace_of (map unnoted rs) ≡ map trace_of rs
traces-unnoted [] = refl
traces-unnoted (r ∷ rs) = ap (λ v. trace_of r ∷ v) (traces-unnoted rs)

kept-of-bare : (s : Shown) → kept_of (firing.bare s) ≡ kept_of s
kept-of-bare (Branch g ks) = ap (λ rs. let e : Entry Token = record { count = g.past.made; recorded = rs; meetings = g.meetings } in kept_by e (kepts_of ks)) (traces-unnoted g.records)

pub kept-bare : (s t : Shown) → firing.bare s ≡ firing.bare t → kept_of s ≡ kept_of t
kept-bare s t e = sym (kept-of-bare s) ∙ ap (λ v. kept_of v) e ∙ kept-of-bare t

count-of-bare : (s : Shown) → count_of (firing.bare s) ≡ count_of s
count-of-bare (Branch g ks) = refl

pub count-bare : (s t : Shown) → firing.bare s ≡ firing.bare t → count_of s ≡ count_of t
count-bare s t e = sym (count-of-bare s) ∙ ap (λ v. count_of v) e ∙ count-of-bare t

pub live-bare : (s t : Shown) → firing.bare s ≡ firing.bare t → is_live s ≡ is_live t
live-bare s t e = sym (live-of-bare s) ∙ ap (λ v. is_live v) e ∙ live-of-bare t
  where
    live-of-bare : (v : Shown) → is_live (firing.bare v) ≡ is_live v
    live-of-bare (Branch g ks) = refl

pub fit-bare : (s t : Shown) → firing.bare s ≡ firing.bare t → HasFired t → HasFired s
fit-bare s t e fit = out_of s (subst (λ v. HasFired v) (sym e) (into t fit))
  where
    into : (v : Shown) → HasFired v → HasFired (firing.bare v)
    into (Branch g ks) f = f

    out_of : (v : Shown) → HasFired (firing.bare v) → HasFired v
    out_of (Branch g ks) f = f

-- the path and the number of firings of a node, among its names and the definitions
pub text-own : (s : Shown) → text_at (outline_of s) [] ≡ Some (path_of s)
text-own (Branch g ks) = refl

pub made-own : (s : Shown) → tree.made_of (node_of s) ≡ made_of s
made-own (Branch g ks) = go g.body
  where
    go : (b : Body) → tree.made_of (node_with g.past b (nodes_of ks)) ≡ g.past.made
    go (body.Actor held) = refl
    go (body.Composite d) = refl
