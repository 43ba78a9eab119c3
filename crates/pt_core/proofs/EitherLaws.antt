-- Where two directors are lawful, one of them is.
use Rattle.std.proofs.Common.{◌≡◌, ℕ, List, length, map, not, Option, Some, ap}
use Rattle.std.specs.Prelude.{IsSome}
use Rattle.pt_meaning.specs.Tag.{Tag}
use Rattle.pt_meaning.specs.Streams.{Streams}
use Rattle.pt_meaning.specs.Machine.{Need, Partial}
use Rattle.pt_meaning.specs.Tree.{Rows, Node, list_of, nodes_of, reset_of}
use Rattle.pt_meaning.specs.NodeFacts.{core_wake, wakes_of}
use Rattle.pt_value.specs.declared.token.Token.{Token}
use Rattle.pt_firing.specs.declared.ask.Ask.{Ask}
use Rattle.pt_firing.specs.declared.ask.Meeting.{Meeting}
use Rattle.pt_firing.specs.declared.ask.Ask.TheVariants.{Fire, Early, Meet, Finished}
use Rattle.pt_records.specs.Kept.{Kept}
use Rattle.pt_core.specs.declared.either.Either.{Either}
use Rattle.pt_core.specs.declared.either.Either.TheVariants.{First, Other}
use Rattle.pt_core.specs.Acts.{Beginning, Calls, Acts}
use Rattle.pt_core.specs.Met.{none_met, met_after}
use Rattle.pt_core.specs.Lawful.{KeepsMaximum, TellsMeetings, CallsAgree, Middle, Lawful}
use Rattle.pt_core.specs.EitherActs.{either_calls, begun_as, UnderwayFrom, either_acts}

module _ {A B : Type 0} (a : Calls A) (b : Calls B) (la : CallsAgree a) (lb : CallsAgree b) where
  abbrev c : Calls (Either A B)
  c = either_calls a b

  asked-one : (s : Either A B) (i : ℕ) (when : Tag) → c.Gives s (Fire i when) → c.asked_of (c.asking (Fire i when) s) ≡ Some i
  asked-one (First s) i when q = la.asked s i when q
  asked-one (Other s) i when q = lb.asked s i when q

  listened-one : (s : Either A B) (i : ℕ) (when : Tag) → c.Gives s (Early i when) → c.listened_of (c.asking (Early i when) s) ≡ Some i
  listened-one (First s) i when q = la.listened s i when q
  listened-one (Other s) i when q = lb.listened s i when q

  hands-one : (s : Either A B) (i : ℕ) → c.asked_of s ≡ Some i → c.MayLend (c.handed s) × (c.asked_of (c.handed s) ≡ Some i) × (c.lent_of (c.handed s) ≡ c.lent_of s)
  hands-one (First s) i e = la.hands s i e
  hands-one (Other s) i e = lb.hands s i e

  on-one : (s : Either A B) (i : ℕ) → c.asked_of s ≡ Some i → (out : Streams Token) (wake : Option Tag) (need : Need) → (c.told i out wake need (c.handed s) ≡ c.told i out wake need s) × (c.accepts (c.handed s) i out ≡ c.accepts s i out) × (c.refusal (c.handed s) ≡ c.refusal s)
  on-one (First s) i e out wake need = let h = la.hands_on s i e out wake need in (ap (λ v. First v) h.0, h.1, h.2)
  on-one (Other s) i e out wake need = let h = lb.hands_on s i e out wake need in (ap (λ v. Other v) h.0, h.1, h.2)

  asks-one : (s : Either A B) (i : ℕ) (out : Streams Token) (wake : Option Tag) (need : Need) → c.asked_of s ≡ Some i → c.MayAsk (c.told i out wake need s)
  asks-one (First s) i out wake need e = la.asks_on s i out wake need e
  asks-one (Other s) i out wake need e = lb.asks_on s i out wake need e

  tells-one : (s : Either A B) (i : ℕ) (out : Streams Token) (wake : Option Tag) (need : Need) → c.asked_of s ≡ Some i → c.is_wrong (c.told i out wake need s) ≡ not (c.accepts s i out)
  tells-one (First s) i out wake need e = la.tells s i out wake need e
  tells-one (Other s) i out wake need e = lb.tells s i out wake need e

  finishes-one : (s : Either A B) → c.Gives s Finished → c.MayFinish (c.asking Finished s)
  finishes-one (First s) q = la.finishes s q
  finishes-one (Other s) q = lb.finishes s q

  restarts-one : (s : Either A B) → (c.core_of (c.restarted s) ≡ c.start_of s) × (c.start_of (c.restarted s) ≡ c.start_of s)
  restarts-one (First s) = la.restarts s
  restarts-one (Other s) = lb.restarts s

  begun-max : (tag : Tag) (inputs : Streams Token) (s : Either A B) → c.maximum (c.begun tag inputs s) ≡ c.maximum s
  begun-max tag inputs (First s) = la.keeps_maximum.begun tag inputs s
  begun-max tag inputs (Other s) = lb.keeps_maximum.begun tag inputs s

  asking-max : (answer : Ask) (s : Either A B) → c.maximum (c.asking answer s) ≡ c.maximum s
  asking-max answer (First s) = la.keeps_maximum.asking answer s
  asking-max answer (Other s) = lb.keeps_maximum.asking answer s

  handed-max : (s : Either A B) → c.maximum (c.handed s) ≡ c.maximum s
  handed-max (First s) = la.keeps_maximum.handed s
  handed-max (Other s) = lb.keeps_maximum.handed s

  told-max : (i : ℕ) (out : Streams Token) (wake : Option Tag) (need : Need) (s : Either A B) → c.maximum (c.told i out wake need s) ≡ c.maximum s
  told-max i out wake need (First s) = la.keeps_maximum.told i out wake need s
  told-max i out wake need (Other s) = lb.keeps_maximum.told i out wake need s

  heard-max : (i : ℕ) (early : List (Partial Token)) (s : Either A B) → c.maximum (c.heard i early s) ≡ c.maximum s
  heard-max i early (First s) = la.keeps_maximum.heard i early s
  heard-max i early (Other s) = lb.keeps_maximum.heard i early s

  closed-max : (s : Either A B) → c.maximum (c.closed s) ≡ c.maximum s
  closed-max (First s) = la.keeps_maximum.closed s
  closed-max (Other s) = lb.keeps_maximum.closed s

  restarted-max : (s : Either A B) → c.maximum (c.restarted s) ≡ c.maximum s
  restarted-max (First s) = la.keeps_maximum.restarted s
  restarted-max (Other s) = lb.keeps_maximum.restarted s

  keeps-one : KeepsMaximum (either_calls a b)
  keeps-one = record { begun = begun-max; asking = asking-max; handed = handed-max; told = told-max; heard = heard-max; closed = closed-max; restarted = restarted-max }

  tells-met : (m : Meeting) (s : Either A B) → c.Gives s (Meet m) → IsSome (c.met s)
  tells-met m (First s) q = la.tells_meetings.tells m s q
  tells-met m (Other s) q = lb.tells_meetings.tells m s q

  begun-met : (tag : Tag) (inputs : Streams Token) (s : Either A B) → c.met (c.begun tag inputs s) ≡ none_met (c.met s)
  begun-met tag inputs (First s) = la.tells_meetings.begun tag inputs s
  begun-met tag inputs (Other s) = lb.tells_meetings.begun tag inputs s

  asking-met : (answer : Ask) (s : Either A B) → c.met (c.asking answer s) ≡ met_after answer (c.met s)
  asking-met answer (First s) = la.tells_meetings.asking answer s
  asking-met answer (Other s) = lb.tells_meetings.asking answer s

  handed-met : (s : Either A B) → c.met (c.handed s) ≡ c.met s
  handed-met (First s) = la.tells_meetings.handed s
  handed-met (Other s) = lb.tells_meetings.handed s

  told-met : (i : ℕ) (out : Streams Token) (wake : Option Tag) (need : Need) (s : Either A B) → c.met (c.told i out wake need s) ≡ c.met s
  told-met i out wake need (First s) = la.tells_meetings.told i out wake need s
  told-met i out wake need (Other s) = lb.tells_meetings.told i out wake need s

  heard-met : (i : ℕ) (early : List (Partial Token)) (s : Either A B) → c.met (c.heard i early s) ≡ c.met s
  heard-met i early (First s) = la.tells_meetings.heard i early s
  heard-met i early (Other s) = lb.tells_meetings.heard i early s

  closed-met : (s : Either A B) → c.met (c.closed s) ≡ none_met (c.met s)
  closed-met (First s) = la.tells_meetings.closed s
  closed-met (Other s) = lb.tells_meetings.closed s

  restarted-met : (s : Either A B) → c.met (c.restarted s) ≡ none_met (c.met s)
  restarted-met (First s) = la.tells_meetings.restarted s
  restarted-met (Other s) = lb.tells_meetings.restarted s

  tells-one-met : TellsMeetings (either_calls a b)
  tells-one-met = record { tells = tells-met; begun = begun-met; asking = asking-met; handed = handed-met; told = told-met; heard = heard-met; closed = closed-met; restarted = restarted-met }

  pub either-agrees : CallsAgree (either_calls a b)
  either-agrees = record { asked = asked-one; listened = listened-one; hands = hands-one; hands_on = on-one; asks_on = asks-one; tells = tells-one; finishes = finishes-one; restarts = restarts-one; keeps_maximum = keeps-one; tells_meetings = tells-one-met }

module _ {N A B : Type 0} {rows : Rows Token N} (a : Acts rows A) (b : Acts rows B) (la : Lawful a) (lb : Lawful b) where
  abbrev e : Acts rows (Either A B)
  e = either_acts a b

  idle-one : (s : Either A B) (kids : List (Node Token N)) → e.Fits s kids → e.calls.IsIdle s
  idle-one (First s) kids f = la.idle s kids f
  idle-one (Other s) kids f = lb.idle s kids f

  wakes-one : (s : Either A B) (kids : List (Node Token N)) → e.Fits s kids → e.calls.wake s ≡ core_wake (e.calls.core_of s) (wakes_of rows (nodes_of kids))
  wakes-one (First s) kids f = la.wakes s kids f
  wakes-one (Other s) kids f = lb.wakes s kids f

  again-one : (s : Either A B) (kids : List (Node Token N)) → e.Fits s kids → e.Fits (e.calls.restarted s) (map reset_of kids)
  again-one (First s) kids f = la.fits_again s kids f
  again-one (Other s) kids f = lb.fits_again s kids f

  begins-from : (start : Beginning N (Either A B)) (before : Either A B) → e.Fits before (list_of start.kids) → e.calls.Takes before start.inputs → length (list_of start.kids) ≡ length start.olds →
      UnderwayFrom a b start before (e.calls.begun start.tag start.inputs before) (list_of start.kids) start.olds
  begins-from start (First f) fits takes o = la.begins (begun_as start f) fits takes o
  begins-from start (Other f) fits takes o = lb.begins (begun_as start f) fits takes o

  middle-from : (start : Beginning N (Either A B)) (before s : Either A B) (now : List (Node Token N)) (news : List (Kept Token)) → UnderwayFrom a b start before s now news → Middle e (begun_as start before) s now news
  middle-from start (First f) (First s) now news u =
      let m = la.middle (begun_as start f) s now news u in
      record {
        asks = m.asks;
        usual = m.usual;
        fires_one = m.fires_one;
        lends = m.lends;
        goes_on = m.goes_on;
        refuses = m.refuses;
        sticks = m.sticks;
        asks_as = m.asks_as;
        listens = m.listens;
        hears = m.hears;
        learns = m.learns;
        resets_one = m.resets_one;
        resets = m.resets;
        rests = m.rests;
        moves = m.moves;
        ends = m.ends;
        fits = m.fits;
        faults = m.faults;
        jams = m.jams;
        off = m.off;
        off_within = m.off_within;
      }
  middle-from start (First f) (Other s) now news u = absurd u
  middle-from start (Other f) (First s) now news u = absurd u
  middle-from start (Other f) (Other s) now news u =
      let m = lb.middle (begun_as start f) s now news u in
      record {
        asks = m.asks;
        usual = m.usual;
        fires_one = m.fires_one;
        lends = m.lends;
        goes_on = m.goes_on;
        refuses = m.refuses;
        sticks = m.sticks;
        asks_as = m.asks_as;
        listens = m.listens;
        hears = m.hears;
        learns = m.learns;
        resets_one = m.resets_one;
        resets = m.resets;
        rests = m.rests;
        moves = m.moves;
        ends = m.ends;
        fits = m.fits;
        faults = m.faults;
        jams = m.jams;
        off = m.off;
        off_within = m.off_within;
      }

  pub either-is-lawful : Lawful (either_acts a b)
  either-is-lawful = record {
    agree = either-agrees a.calls b.calls la.agree lb.agree;
    idle = idle-one;
    wakes = wakes-one;
    fits_again = again-one;
    begins = λ start fits takes o. begins-from start start.before fits takes o;
    middle = λ start s now news u. middle-from start start.before s now news u;
  }
