-- A job that its budget allows ends as the definitions say; and the loop over the firings of the top.
use Rattle.std.proofs.Common.{◌≡◌, ℕ, suc, ◌+◌, ◌<◌, [], Option, Some, sym, ap, ap₂, subst, ◌∙◌, arith, refl}
use Rattle.pt_meaning.specs.Basics.{Tag, Streams, Path, Log}
use Rattle.pt_meaning.specs.Meetings.{Meets}
use Rattle.pt_meaning.specs.Step.{Step}
use Rattle.pt_meaning.specs.Job as job
use Rattle.pt_meaning.specs.Job.{Schedule, meaning}
use Rattle.pt_meaning.specs.Headline.{Ending, Defined, Faulty, Spent, Queued}
use Rattle.pt_meaning.specs.Tree.{paths_of}
use Rattle.pt_value.specs.declared.token.Token.{Token}
use Rattle.pt_firing.specs.declared.answer.Answer.TheVariants as answer
use Rattle.pt_firing.specs.declared.answer.Blocked.{Blocked}
use Rattle.pt_firing.specs.declared.answer.Place.{Place}
use Rattle.pt_firing.specs.RunFault.{code_of}
use Rattle.pt_records.specs.Kept.{GrewBy}
use Rattle.pt_records.specs.Fired.{FiresTo}
use Rattle.pt_records.specs.Made.{meets_of, AreMadeBefore}
use Rattle.pt_records.proofs.MadeLaws.{made-back, those-made}
use Rattle.pt_library.specs.declared.library_actor.LibraryActor.{LibraryActor}
use Rattle.pt_library.specs.LibraryActor.{rows}
use Rattle.pt_node.specs.Full.{IsToldFull}
use Rattle.pt_node.specs.Live as live
use Rattle.pt_node.specs.Shown.{Shown}
use Rattle.pt_node.specs.View.{Tree, node_of, kept_of, count_of, Outline, outline_of, text_at}
use Rattle.pt_turns.specs.Within.{AnswersTo}
use Rattle.pt_node.specs.Stuck.{fault_of}
use Rattle.pt_trees.specs.declared.top.Top.{Top}
use Rattle.pt_trees.specs.declared.ended.Ended.{Ended}
use Rattle.pt_trees.specs.declared.ended.Ended.TheVariants as ended
use Rattle.pt_trees.specs.Top.{IsWhole}
use Rattle.pt_trees.specs.Start.{IsRunnable}
use Rattle.pt_trees.specs.Run.{schedule, Reports, IsRun, IsDefined, IsAffordable}
use Rattle.pt_going.specs.Going.{Reached, Going}
use Rattle.pt_next.specs.declared.turn.End.{End}
use Rattle.pt_next.specs.declared.turn.End.TheVariants.{Iterations, Inputs, Stop, Idle, Deadlock}
use Rattle.pt_next.specs.declared.turn.Firing.{Firing}
use Rattle.pt_next.specs.declared.turn.Turn.{Turn}
use Rattle.pt_next.specs.declared.turn.Turn.TheVariants.{Fire, Ends, Limit}
use Rattle.pt_next.specs.Turn.{end_of, turn_of, IsNext, IsPastLimit, ended_by}
use Rattle.pt_going.proofs.Counting.{fires-count}
use Rattle.pt_trees.proofs.TopLaws.{is-whole}
use Rattle.pt_next.proofs.Turns.{takes-fit}
use Rattle.pt_going.proofs.Reaching.{IsLogOf, one-more, reported, defined-end, spent-between, past_limit, stuck-between, spent-within, stuck-within, jammed-within, count-below}

is_complete : (m : Meets) (j : Top) (budget : ℕ) (old new : Shown) (e : Ended) → IsRun m j budget old new e → IsAffordable j budget old → IsDefined e
is_complete m j budget old new ended.Iterations r a = tt
is_complete m j budget old new ended.Inputs r a = tt
is_complete m j budget old new ended.Stop r a = tt
is_complete m j budget old new ended.Idle r a = tt
is_complete m j budget old new ended.Deadlock r a = tt
is_complete m j budget old new (ended.Fault place) r a = let p = r.2 0 in a.never_stuck m p.legal (fault_of r.0 place) p.caused.0
is_complete m j budget old new (ended.Full blocked) r a = let p = r.3 0 in a.never_jammed m p.legal p.log r.0 r.1 p.caused
is_complete m j budget old new (ended.Spent firings) r a =
    let p = r 0 in
    let few = count-below p.log (meaning p.prefix.0 rows m (schedule j) (node_of old)) (paths_of (node_of old)) p.prefix.1 in
    omega (arith, few, p.caused.0, p.caused.1, a.within_budget m p.legal p.prefix.0)

-- Every meeting is one that was recorded of the tree.
abbrev AreThose : Meets → Shown → Type 0
AreThose m now = (p : Path) (n : ℕ) → m p n ≡ meets_of (kept_of now) p n

those-before : (m : Meets) (now : Shown) → AreThose m now → AreMadeBefore m (kept_of now)
those-before m now e = λ p n l. those-made m (kept_of now) e p n

pub its-own : (now : Shown) → AreThose (meets_of (kept_of now)) now
its-own now p n = refl

-- so that its run under these completes
pub completes : (j : Top) (budget : ℕ) (old new : Shown) (e : Ended) → ((m : Meets) → AreThose m new → IsRun m j budget old new e) → IsAffordable j budget old → IsDefined e
completes j budget old new e run a = let m : Meets = meets_of (kept_of new) in is_complete m j budget old new e (run m (its-own new)) a

-- a turn that fires does so at this tag on these inputs, one that ends by this end, and past the limit there is none
pub turn-fires : (plan : Schedule Token LibraryActor) (n : ℕ) (last : Option Tag) (top : Tree) (t : Turn) → IsNext plan n last top t → (f : Firing) → t ≡ Fire f → (X : Streams Token) → X ≡ f.inputs.items → plan n last top ≡ job.Fire f.tag X
turn-fires plan n last top t next f is X e = next ∙ ap turn_of is ∙ ap (λ Y. job.Fire f.tag Y) (sym e)

pub turn-ends : (plan : Schedule Token LibraryActor) (n : ℕ) (last : Option Tag) (top : Tree) (t : Turn) → IsNext plan n last top t → (e : End) → t ≡ Ends e → plan n last top ≡ job.Ends (end_of e)
turn-ends plan n last top t next e is = next ∙ ap turn_of is

pub turn-past : (plan : Schedule Token LibraryActor) (n : ℕ) (last : Option Tag) (top : Tree) (t : Turn) → IsNext plan n last top t → t ≡ Limit → plan n last top ≡ job.Limit
turn-past plan n last top t next is = next ∙ ap turn_of is

-- ---- the ends of the code's loop

module _ (j : Top) (budget : ℕ) (old : Shown) (run : IsRunnable j old) where
  abbrev pub GoingTo : ℕ → Option Tag → Shown → ℕ → Type 0
  GoingTo n last now left = Going j old budget n last now left

  pub whole : IsWhole j
  whole = is-whole j (node_of old) run.fits

  -- what it has come to by the meetings that it has recorded itself
  self : (n : ℕ) (last : Option Tag) (now : Shown) (left : ℕ) → (g : GoingTo n last now left) → Reached (meets_of (kept_of now)) j old n last now
  self n last now left g = g.reached (meets_of (kept_of now)) (those-before (meets_of (kept_of now)) now (its-own now))

  -- what is told, from the log of the run
  told : (m : Meets) (new : Shown) (e : Ending) → outline_of new ≡ outline_of old → IsLogOf m j old budget new e → AreThose m new → (count : ℕ) → Reports m j budget count old new e
  told m new e o l those count = reported m j old run budget new e o l those count

  pub ends-defined : (n : ℕ) (last : Option Tag) (now : Shown) (left : ℕ) → GoingTo n last now left → 0 < left → (e : End) → schedule j n last (node_of now) ≡ job.Ends (end_of e) → (m : Meets) → AreThose m now → IsRun m j budget old now (ended_by e)
  ends-defined n last now left g some e turn m those = by_end e (λ count. told m now (Defined (end_of e)) g.outline (defined-end m j old run n last now (g.reached m (those-before m now those)) (end_of e) turn budget (omega (arith, g.counted, some))) those count)
    where
      by_end : (e : End) → ((count : ℕ) → Reports m j budget count old now (Defined (end_of e))) → IsRun m j budget old now (ended_by e)
      by_end Iterations r = r
      by_end Inputs r = r
      by_end Stop r = r
      by_end Idle r = r
      by_end Deadlock r = r

  -- between two firings nothing is left
  pub ends-spent : (n : ℕ) (last : Option Tag) (now : Shown) (left : ℕ) → GoingTo n last now left → left ≡ 0 → (m : Meets) → AreThose m now → IsRun m j budget old now (ended.Spent budget)
  ends-spent n last now left g z m those =
      let all : budget ≡ count_of now = omega (arith, z, g.counted) in
      told m now (Spent budget) g.outline (spent-between m j old run n last now (g.reached m (those-before m now those)) budget budget all (omega arith)) those

  -- the next tag is past the limit
  pub ends-past : (n : ℕ) (last : Option Tag) (now : Shown) (left : ℕ) → GoingTo n last now left → schedule j n last (node_of now) ≡ job.Limit → (place : Place) → IsPastLimit now n place → (m : Meets) → AreThose m now → IsRun m j budget old now (ended.Fault place)
  ends-past n last now left g turn place at m those =
      let is : fault_of [] place ≡ past_limit n = ap₂ (λ f c. record { path = []; firing = f; code = c }) at.firing (ap code_of at.kind) in (
        [],
        ap (λ v. text_at v []) (sym g.outline) ∙ at.path,
        told m now (Faulty (fault_of [] place)) g.outline (subst (λ f. IsLogOf m j old budget now (Faulty f)) (sym is) (stuck-between m j old run n last now (g.reached m (those-before m now those)) turn budget)) those,
      )

  -- the next firing
  module _ (n : ℕ) (last : Option Tag) (now : Shown) (left : ℕ) (g : GoingTo n last now left) (tag : Tag) (X : Streams Token) (turn : schedule j n last (node_of now) ≡ job.Fire tag X) where
    pub takes-inputs : live.Takes tag now X
    takes-inputs = takes-fit now j n last tag X (self n last now left g).fits whole turn

    module _ (new : Shown) (o : outline_of new ≡ outline_of now) where
      named : outline_of new ≡ outline_of old
      named = o ∙ g.outline

      -- before the firing by the meetings that were recorded after it
      before : (m : Meets) (l : Log Token) → AreThose m new → GrewBy l (kept_of now) (kept_of new) → Reached m j old n last now
      before m l those grew = g.reached m (made-back m l (kept_of now) (kept_of new) grew (those-before m new those))

      pub ends-fault : (place : Place) → AnswersTo now tag X left (answer.Fault place) new → (m : Meets) → AreThose m new → IsRun m j budget old new (ended.Fault place)
      ends-fault place a m those =
          let k = a m (those-made m (kept_of new) those) in (
            k.0,
            ap (λ v. text_at v k.0) (sym g.outline) ∙ k.1,
            told m new (Faulty (fault_of k.0 place)) named (stuck-within m j old run n last now (before m k.2.log those k.2.kept) tag X turn budget new (fault_of k.0 place) k.2) those,
          )

      pub ends-full : (blocked : Blocked) → AnswersTo now tag X left (answer.Full blocked) new → (m : Meets) → AreThose m new → IsRun m j budget old new (ended.Full blocked)
      ends-full blocked a m those =
          let (off, jam) = a m (those-made m (kept_of new) those) in (
            jam.path,
            jam.full,
            subst (λ (o : Outline). IsToldFull o jam.path jam.full blocked) g.outline jam.told,
            told m new (Queued jam.path jam.full) named (jammed-within m j old run n last now (before m off.log those off.kept) tag X turn budget new jam.path jam.full off jam.jams) those,
          )

      -- so much is left after it
      module _ (after : ℕ) (h : count_of new + after ≡ count_of now + left) where
        counted : after + count_of new ≡ budget
        counted = omega (arith, h, g.counted)

        pub ends-within : (made : ℕ) → AnswersTo now tag X left (answer.Spent made) new → (m : Meets) → AreThose m new → IsRun m j budget old new (ended.Spent budget)
        ends-within made a m those =
            let all : budget ≡ count_of new = omega (arith, a.0, a.1, counted, h) in
            let k = a.2 m (those-made m (kept_of new) those) in
            told m new (Spent budget) named (spent-within m j old run n last now (before m k.log those k.kept) tag X turn budget budget new o k all (omega arith)) those

        module _ (out : Streams Token) (a : AnswersTo now tag X left (answer.Done out) new) where
          -- a firing that is done is counted
          more : count_of now < count_of new
          more =
              let m : Meets = meets_of (kept_of new) in
              let f : FiresTo (λ k. Step k rows m (node_of now) tag X) (node_of new) out (kept_of now) (kept_of new) = a.0 m (those-before m new (its-own new)) in
              fires-count m now new tag X out o f

          pub falls : after < left
          falls = omega (arith, more, h)

          pub goes-on : GoingTo (n + 1) (Some tag) new after
          goes-on =
              let one : suc n ≡ n + 1 = omega arith in
              record {
                live = a.1;
                outline = named;
                reached = λ m made. subst (λ n. Reached m j old n (Some tag) new) one (one-more m j old n last now (g.reached m) tag X turn out left new a o made);
                counted = counted;
                few = omega (arith, more, g.few);
              }
