-- What a firing of a composite comes to where it ends, by where it has come to.
use Rattle.std.proofs.Common.{◌≡◌, ◌⊎◌, inl, inr, ℕ, ℤ, ◌+◌, ◌≤◌, List, map, get_or, set, Option, None, ap, subst, ◌∙◌, arith}
use Rattle.pt_meaning.specs.Basics.{Tag, Streams}
use Rattle.pt_value.specs.declared.token.Token.{Token}
use Rattle.pt_firing.specs.declared.ask.Ask.{Ask}
use Rattle.pt_firing.specs.declared.ask.Ask.TheVariants as ask
use Rattle.pt_firing.specs.declared.answer.Blocked.{Blocked}
use Rattle.pt_firing.specs.declared.answer.Place.{Place}
use Rattle.pt_firing.specs.declared.fault.RunFault.{RunFault}
use Rattle.pt_core.specs.Acts.{Acts}
use Rattle.pt_core.specs.Lawful.{Lawful}
use Rattle.pt_library.specs.LibraryActor.{rows}
use Rattle.pt_directors.specs.Directors.{Director}
use Rattle.pt_node.specs.declared.node.Node.{Node}
use Rattle.pt_node.specs.Acts.{acts}
use Rattle.pt_node.specs.Shown.{Shown, shown, shown_node, all_of}
use Rattle.pt_node.specs.View.{outline_of, outlines_of, count_of}
use Rattle.pt_turns.specs.declared.within.Within.{Within}
use Rattle.pt_turns.specs.declared.within.Within.TheVariants as within
use Rattle.pt_turns.specs.declared.rest.Rest.{Rest}
use Rattle.pt_turns.specs.declared.rest.Rest.TheVariants as rest
use Rattle.pt_turns.specs.declared.turn.Turn.TheVariants as turn
use Rattle.pt_turns.specs.Within.{SpendsAll, IsFaultAt, IsFullAt}
use Rattle.pt_turns.specs.Composite.{EndsAs, FinishTo}
use Rattle.pt_turns.specs.Turns.{TurnFrom}
use Rattle.pt_turns.specs.Between.{At, Between, InTurn, Halts, Rested}
use Rattle.pt_turns.specs.OwnMeetings.{OwnMeetings}
use Rattle.pt_turns.proofs.Children.{outlines-set}
use Rattle.pt_turns.proofs.Acting.{acts-law}
use Rattle.pt_turns.proofs.Firing.{off-here, finish-goes, finish-fits, finish-maximum, faulted-goes, faulted-fits, faulted-spends, full-goes, full-fits, full-spends}
use Rattle.pt_turns.proofs.Loop.{between-maximum, given-outline, turn-maximum, turn-outlines, turn-counted, turn-fault, turn-spent, turn-jam, turn-memory, halts-off, halts-outlines, halts-counted}

module _ {D : Type 0} (a : Acts rows D) (law : Lawful a) where
  finish-spends : (s : D) (w : Within) (s' : D) (left : ℕ) → FinishTo a.calls s w s' → SpendsAll w left
  finish-spends s (within.Done out) s' left f = tt
  finish-spends s (within.Fault place) s' left f = tt
  finish-spends s within.Spent s' left f = absurd f
  finish-spends s (within.Full blocked) s' left f = tt
  finish-spends s within.Memory s' left f = tt

  module _ {before : D} {olds : List Shown} {tag : Tag} {X : Streams Token} {allowance : ℕ} {own : OwnMeetings} where
    -- no name has changed where it is the turn of a child
    pub turn-names : {s : D} {now : List Shown} {left i : ℕ} {when : Tag} {given : Option ℤ} → InTurn a before olds tag X allowance own i when given s now left → outlines_of (all_of now) ≡ outlines_of (all_of olds)
    turn-names {s} {now} {left} {i} {when} {given} t =
        ap (λ v. outlines_of (all_of v)) t.others ∙ outlines-set t.kids i t.child t.mid t.there (given-outline given t.child (a.calls.lent_of s) t.mid t.gave) ∙ t.between.at.outlines

    module _ (path : List ℕ) (labels : List (List ℕ)) where
      -- the director is finished
      pub finish-ends : {s : D} {now : List Shown} {left : ℕ} → Between a before olds tag X allowance own ask.Finished s now left → (w : Within) (s' : D) → FinishTo a.calls s w s' → EndsAs a path labels own before (all_of olds) tag X allowance w s' (all_of now) left
      finish-ends {s} {now} {left} p w s' f = record {
        goes = finish-goes a law p.at path labels p.gives s p.asking w s' f;
        spends = finish-spends s w s' left f;
        lowered = p.at.lowered;
        fit = finish-fits a law p.at path labels p.gives s p.asking w s' f;
        outlines = p.at.outlines;
        maximum = finish-maximum a law p.at path labels p.gives s p.asking w s' f;
        counted = p.at.counted;
      }

      -- or the composite is stuck itself
      pub faulted-ends : {s : D} {now : List Shown} {left : ℕ} (kind : RunFault) → Between a before olds tag X allowance own (ask.Faulted kind None) s now left → (w : Within) → IsFaultAt path own.number kind w → EndsAs a path labels own before (all_of olds) tag X allowance w s (all_of now) left
      faulted-ends {s} {now} {left} kind p w f = record {
        goes = faulted-goes a law p.at path labels kind p.gives w s f;
        spends = faulted-spends a law p.at path labels kind p.gives w left f;
        lowered = p.at.lowered;
        fit = faulted-fits a law p.at path labels kind p.gives w s f;
        outlines = p.at.outlines;
        maximum = between-maximum a law p;
        counted = p.at.counted;
      }

      -- or full
      pub full-ends : {s : D} {now : List Shown} {left : ℕ} → Between a before olds tag X allowance own ask.Full s now left → (w : Within) → IsFullAt path labels (a.calls.blocked s) w → EndsAs a path labels own before (all_of olds) tag X allowance w s (all_of now) left
      full-ends {s} {now} {left} p w f = record {
        goes = full-goes a law p.at path labels p.gives s p.asking w s f;
        spends = full-spends a law p.at path labels p.gives s p.asking w left f;
        lowered = p.at.lowered;
        fit = full-fits a law p.at path labels p.gives s p.asking w s f;
        outlines = p.at.outlines;
        maximum = between-maximum a law p;
        counted = p.at.counted;
      }

      -- or nothing is left of the allowance, whether the director was asked or not
      spent-at : {state : D} (s : D) {now : List Shown} {left : ℕ} → left ≡ 0 → At a before olds tag X allowance own state now left → a.calls.maximum s ≡ a.calls.maximum before → EndsAs a path labels own before (all_of olds) tag X allowance within.Spent s (all_of now) left
      spent-at {state} s {now} {left} z at e = record {
        goes = off-here a law at;
        spends = z;
        lowered = at.lowered;
        fit = tt;
        outlines = at.outlines;
        maximum = e;
        counted = at.counted;
      }

      pub spent-ends : {s : D} {now : List Shown} {left : ℕ} → left ≡ 0 → At a before olds tag X allowance own s now left ⊎ ((next : Ask) × Between a before olds tag X allowance own next s now left) → EndsAs a path labels own before (all_of olds) tag X allowance within.Spent s (all_of now) left
      spent-ends {s} {now} {left} z (inl at) = spent-at s z at at.maximum
      spent-ends {s} {now} {left} z (inr asked) = spent-at s z asked.1.at (between-maximum a law asked.1)

      -- or memory was wanting
      pub halts-ends : {s : D} {now : List Shown} {left : ℕ} → Halts a before olds tag X allowance own s now left → EndsAs a path labels own before (all_of olds) tag X allowance within.Memory s (all_of now) left
      halts-ends {s} {now} {left} p = record {
        goes = halts-off a law p;
        spends = tt;
        lowered = p.at.lowered;
        fit = tt;
        outlines = halts-outlines a law p;
        maximum = p.maximum;
        counted = halts-counted a law p;
      }

      -- the turn of a child of the code's list ends it
      module _ {s : D} (kids : List Node) {left i : ℕ} {when : Tag} {given : Option ℤ} (t : InTurn a before olds tag X allowance own i when given s (map shown kids) left) (d : Node) (value : d ≡ get_or kids i d) (n : Node) (s' : D) (left' : ℕ)
          (names : outline_of (shown_node n) ≡ outline_of (shown_node d)) (counts : count_of (shown_node n) + left' ≡ count_of (shown_node d) + left) (fewer : left' ≤ left) (most : a.calls.maximum s' ≡ a.calls.maximum s) where
        lowered : left' ≤ allowance
        lowered = omega (arith, fewer, t.between.at.lowered)

        pub turn-fault-ends : (place : Place) → TurnFrom a.calls given s (shown_node d) i when (turn.Fault place) s' (shown_node n) → EndsAs a path labels own before (all_of olds) tag X allowance (within.Fault place) s' (all_of (map shown (set kids i n))) left'
        turn-fault-ends place f = record {
          goes = turn-fault a law kids t d value n path labels place s' f;
          spends = tt;
          lowered = lowered;
          fit = tt;
          outlines = turn-outlines a law kids t d value n names;
          maximum = turn-maximum a law kids t s' most;
          counted = turn-counted a law kids t d value n left' counts;
        }

        pub turn-jam-ends : (blocked : Blocked) → TurnFrom a.calls given s (shown_node d) i when (turn.Full blocked) s' (shown_node n) → EndsAs a path labels own before (all_of olds) tag X allowance (within.Full blocked) s' (all_of (map shown (set kids i n))) left'
        turn-jam-ends blocked f = record {
          goes = turn-jam a law kids t d value n path labels blocked s' f;
          spends = tt;
          lowered = lowered;
          fit = tt;
          outlines = turn-outlines a law kids t d value n names;
          maximum = turn-maximum a law kids t s' most;
          counted = turn-counted a law kids t d value n left' counts;
        }

        pub turn-spent-ends : left' ≡ 0 → TurnFrom a.calls given s (shown_node d) i when turn.Spent s' (shown_node n) → EndsAs a path labels own before (all_of olds) tag X allowance within.Spent s' (all_of (map shown (set kids i n))) left'
        turn-spent-ends z f = record {
          goes = turn-spent a law kids t d value n s' f;
          spends = z;
          lowered = lowered;
          fit = tt;
          outlines = turn-outlines a law kids t d value n names;
          maximum = turn-maximum a law kids t s' most;
          counted = turn-counted a law kids t d value n left' counts;
        }

        pub turn-memory-ends : TurnFrom a.calls given s (shown_node d) i when turn.Memory s' (shown_node n) → EndsAs a path labels own before (all_of olds) tag X allowance within.Memory s' (all_of (map shown (set kids i n))) left'
        turn-memory-ends f = record {
          goes = turn-memory a law kids t d value n s' f;
          spends = tt;
          lowered = lowered;
          fit = tt;
          outlines = turn-outlines a law kids t d value n names;
          maximum = turn-maximum a law kids t s' most;
          counted = turn-counted a law kids t d value n left' counts;
        }

module _ (before : Director) (olds : List Shown) (tag : Tag) (X : Streams Token) (allowance : ℕ) (own : OwnMeetings) (s : Director) (now : List Shown) (left : ℕ) where
  -- no name has changed where a row of firings has come to
  pub rested-names : (r : Rest) → Rested before olds tag X allowance own r s now left → outlines_of (all_of now) ≡ outlines_of (all_of olds)
  rested-names (rest.Turn i when given) t = turn-names acts acts-law t
  rested-names (rest.Asked next) b = b.at.outlines
  rested-names rest.Memory h = halts-outlines acts acts-law h
  rested-names rest.Spent p = p.1.outlines

  -- what a row of firings has come to, once it is known
  pub rested-as : (r q : Rest) → r ≡ q → Rested before olds tag X allowance own r s now left → Rested before olds tag X allowance own q s now left
  rested-as r q e h = subst (λ v. Rested before olds tag X allowance own v s now left) e h
