-- What a firing comes to whose outputs nobody takes, from what it comes to with them.
use Rattle.std.proofs.Common.{◌≡◌, ℕ, List, map, Option, false, refl, sym, subst}
use Rattle.pt_meaning.specs.Basics.{Tag, Streams}
use Rattle.pt_value.specs.declared.token.Token.{Token}
use Rattle.pt_firing.specs.declared.ask.Ask.TheVariants as ask
use Rattle.pt_records.specs.Kept.{Made}
use Rattle.pt_directors.specs.Directors.{Director, director_calls}
use Rattle.pt_node.specs.declared.node.Node.{Node, roll-Node}
use Rattle.pt_node.specs.declared.node.Node.TheOpen as opens
use Rattle.pt_node.specs.declared.body.Body.TheVariants as body
use Rattle.pt_node.specs.Acts.{acts}
use Rattle.pt_node.specs.Shown.{Shown, AllShown, Branch, level, shown, shown_node, all_of}
use Rattle.pt_node.specs.View.{outline_of}
use Rattle.pt_turns.specs.declared.within.Within.{Within}
use Rattle.pt_turns.specs.declared.within.Within.TheVariants as within
use Rattle.pt_alone.specs.declared.alone.Untaken.{Untaken}
use Rattle.pt_alone.specs.declared.alone.Untaken.TheVariants.{Done, Fault, Spent, Full, Memory}
use Rattle.pt_turns.specs.Within.{WithinTo, StaysFit}
use Rattle.pt_turns.specs.Composite.{EndsAs}
use Rattle.pt_turns.specs.Between.{Between}
use Rattle.pt_turns.specs.OwnMeetings.{OwnMeetings, own_of}
use Rattle.pt_alone.specs.Alone.{untaken_of, UntakenTo, UntakenFits, EndsUntaken, CloseTo}
use Rattle.pt_turns.proofs.Acting.{acts-law}
use Rattle.pt_turns.proofs.Ending.{finish-ends}
use Rattle.pt_turns.proofs.Entering.{composite-enters, composite-named, composite-stays}

-- of a node
module _ (old : Shown) (tag : Tag) (X : Streams Token) (new : Shown) where
  untaken-within : (w : Within) → WithinTo old tag X w new → UntakenTo old tag X (untaken_of w) new
  untaken-within (within.Done out) h = (out, h)
  untaken-within (within.Fault place) h = h
  untaken-within within.Spent h = h
  untaken-within (within.Full blocked) h = h
  untaken-within within.Memory h = h

  pub within-untaken : (w : Within) (u : Untaken) → u ≡ untaken_of w → WithinTo old tag X w new → UntakenTo old tag X u new
  within-untaken w u e h = subst (λ v. UntakenTo old tag X v new) (sym e) (untaken-within w h)

  untaken-fits : (w : Within) → StaysFit w new → UntakenFits (untaken_of w) new
  untaken-fits (within.Done out) h = h
  untaken-fits (within.Fault place) h = h
  untaken-fits within.Spent h = h
  untaken-fits (within.Full blocked) h = h
  untaken-fits within.Memory h = h

  pub fits-untaken : (w : Within) (u : Untaken) → u ≡ untaken_of w → StaysFit w new → UntakenFits u new
  fits-untaken w u e h = subst (λ v. UntakenFits v new) (sym e) (untaken-fits w h)

-- of a composite
module _ (path : List ℕ) (labels : List (List ℕ)) (own : OwnMeetings) (before : Director) (olds : AllShown) (tag : Tag) (X : Streams Token) (allowance : ℕ) (s : Director) (now : AllShown) (left : ℕ) where
  untaken-ends : (w : Within) → EndsAs acts path labels own before olds tag X allowance w s now left → EndsUntaken path labels own before olds tag X allowance (untaken_of w) s now left
  untaken-ends (within.Done out) h = (out, h)
  untaken-ends (within.Fault place) h = h
  untaken-ends within.Spent h = h
  untaken-ends (within.Full blocked) h = h
  untaken-ends within.Memory h = h

  pub ends-untaken : (w : Within) (u : Untaken) → u ≡ untaken_of w → EndsAs acts path labels own before olds tag X allowance w s now left → EndsUntaken path labels own before olds tag X allowance u s now left
  ends-untaken w u e h = subst (λ v. EndsUntaken path labels own before olds tag X allowance v s now left) (sym e) (untaken-ends w h)

-- the director is finished
pub close-ends : {before : Director} {olds : List Shown} {tag : Tag} {X : Streams Token} {allowance : ℕ} {own : OwnMeetings} (path : List ℕ) (labels : List (List ℕ)) {s : Director} {now : List Shown} {left : ℕ} → Between acts before olds tag X allowance own ask.Finished s now left → (u : Untaken) (s' : Director) → CloseTo director_calls s u s' → EndsUntaken path labels own before (all_of olds) tag X allowance u s' (all_of now) left
close-ends path labels {s} p Done s' f = (director_calls.own_of s, finish-ends acts acts-law path labels p (within.Done (director_calls.own_of s)) s' (f, refl))
close-ends path labels p (Fault place) s' f = absurd f
close-ends path labels p Spent s' f = absurd f
close-ends path labels p (Full blocked) s' f = absurd f
close-ends path labels p Memory s' f = finish-ends acts acts-law path labels p within.Memory s' f

-- a composite that is a node
module _ (n n' : Node) (r r' : opens.Node-F Node) (d d' : Director) (ks' : AllShown) (made : Option Made) (e : roll-Node r ≡ n) (e' : roll-Node r' ≡ n') (is : r.body ≡ body.Composite d)
    (now : level r' ≡ Branch (record { past = r.past; body = body.Composite d'; records = r.records; path = r.path; labels = r.labels; meetings = made; live = false }) ks') (tag : Tag) (X : Streams Token) (allowance left : ℕ) where
  pub untaken-enters : (u : Untaken) → EndsUntaken r.path r.labels (own_of r.past.made r.meetings made) d (all_of (map shown r.children.items)) tag X allowance u d' ks' left → UntakenTo (shown_node n) tag X u (shown_node n')
  untaken-enters Done h = (h.0, composite-enters n n' r r' d d' ks' made e e' is (within.Done h.0) now tag X h.1.goes)
  untaken-enters (Fault place) h = composite-enters n n' r r' d d' ks' made e e' is (within.Fault place) now tag X h.goes
  untaken-enters Spent h = composite-enters n n' r r' d d' ks' made e e' is within.Spent now tag X h.goes
  untaken-enters (Full blocked) h = composite-enters n n' r r' d d' ks' made e e' is (within.Full blocked) now tag X h.goes
  untaken-enters Memory h = composite-enters n n' r r' d d' ks' made e e' is within.Memory now tag X h.goes

  pub untaken-stays : (u : Untaken) → EndsUntaken r.path r.labels (own_of r.past.made r.meetings made) d (all_of (map shown r.children.items)) tag X allowance u d' ks' left → UntakenFits u (shown_node n')
  untaken-stays Done h = composite-stays n n' r r' d d' ks' made e e' is (within.Done h.0) now h.1.fit
  untaken-stays (Fault place) h = tt
  untaken-stays Spent h = tt
  untaken-stays (Full blocked) h = tt
  untaken-stays Memory h = tt

  pub untaken-named : (u : Untaken) → EndsUntaken r.path r.labels (own_of r.past.made r.meetings made) d (all_of (map shown r.children.items)) tag X allowance u d' ks' left → outline_of (shown_node n') ≡ outline_of (shown_node n)
  untaken-named Done h = composite-named n n' r r' d d' ks' made e e' is (within.Done h.0) now h.1.maximum h.1.outlines
  untaken-named (Fault place) h = composite-named n n' r r' d d' ks' made e e' is (within.Fault place) now h.maximum h.outlines
  untaken-named Spent h = composite-named n n' r r' d d' ks' made e e' is within.Spent now h.maximum h.outlines
  untaken-named (Full blocked) h = composite-named n n' r r' d d' ks' made e e' is (within.Full blocked) now h.maximum h.outlines
  untaken-named Memory h = composite-named n n' r r' d d' ks' made e e' is within.Memory now h.maximum h.outlines
