-- The firing of a composite whose director is finished as soon as it has begun, so that no child of it fires.
use Rattle.std.proofs.Common.{◌≡◌, ℤ, List, [], ◌∷◌, false, map, Option, refl, sym, ap, subst, ◌∙◌}
use Rattle.pt_meaning.specs.Basics.{Tag, Streams}
use Rattle.pt_meaning.specs.Tree as tree
use Rattle.pt_value.specs.declared.token.Token.{Token}
use Rattle.pt_firing.specs.declared.ask.Ask.TheVariants.{Finished}
use Rattle.pt_library.specs.LibraryActor.{signal_of}
use Rattle.pt_directors.specs.Directors.{Director, director_calls}
use Rattle.pt_node.specs.declared.node.Node.{Node, roll-Node}
use Rattle.pt_node.specs.declared.node.Node.TheViews.{out-roll-Node}
use Rattle.pt_node.specs.declared.node.Node.TheOpen as opens
use Rattle.pt_node.specs.declared.body.Body.TheVariants as body
use Rattle.pt_node.specs.Acts.{acts}
use Rattle.pt_node.specs.Shown.{Shown, Branch, level, shown, shown_node, all_of}
use Rattle.pt_node.specs.View.{nodes_of, kept_of, count_of}
use Rattle.pt_node.specs.Live.{IsFit, Takes}
use Rattle.pt_turns.specs.declared.within.Within.TheVariants.{Done}
use Rattle.pt_turns.specs.Within.{GaveAt}
use Rattle.pt_event_rows.specs.Signals.{EndsAtOnce}
use Rattle.pt_turns.specs.Composite.{EndsAs}
use Rattle.pt_turns.specs.Between.{At}
use Rattle.pt_turns.specs.OwnMeetings.{OwnMeetings, own_of}
use Rattle.pt_turns.proofs.Acting.{acts-law}
use Rattle.pt_turns.proofs.Firing.{at-begun}
use Rattle.pt_turns.proofs.Loop.{once-asked}
use Rattle.pt_turns.proofs.Ending.{finish-ends}
use Rattle.pt_turns.proofs.Entering.{with-body, old-is, composite-enters, composite-named, composite-stays}

module _ (n : Node) (r : opens.Node-F Node) (d : Director) (e : roll-Node r ≡ n) (is : r.body ≡ body.Composite d) where
  abbrev kids : List Shown
  kids = map shown r.children.items

  was-shown : shown_node n ≡ with-body r (body.Composite d)
  was-shown = old-is n r (body.Composite d) e is

  was-fit : IsFit (shown_node n) → IsFit (with-body r (body.Composite d))
  was-fit fit = subst (λ s. IsFit s) was-shown fit

  -- no firing of it is under way
  pub was-idle : IsFit (shown_node n) → director_calls.IsIdle d
  was-idle fit = acts-law.idle d (tree.list_of (nodes_of (all_of kids))) (was-fit fit).0

  -- it has begun at a tag, and is finished
  module _ (tag : Tag) (X : Streams Token) (fit : IsFit (shown_node n)) (takes : Takes tag (shown_node n) X) (given : Option ℤ) (d' : Director) (once : EndsAtOnce director_calls d X given d' tag) where
    abbrev own : OwnMeetings
    own = own_of r.past.made r.meetings r.meetings

    abbrev out : Streams Token
    out = signal_of given ∷ []

    begins : At acts d kids tag X 0 own (director_calls.begun tag X d) kids 0
    begins =
        let f = was-fit fit in
        at-begun acts acts-law d (director_calls.begun tag X d) kids tag X 0 f.0 (subst (λ s. Takes tag s X) was-shown takes) f.1 refl r.past.made r.meetings f.2

    ends : EndsAs acts r.path r.labels own d (all_of kids) tag X 0 (Done out) d' (all_of kids) 0
    ends = finish-ends acts acts-law r.path r.labels (once-asked acts acts-law begins Finished (director_calls.asking Finished (director_calls.begun tag X d)) once.finished refl) (Done out) d' (once.state, sym once.own)

    -- no child of the node has changed
    module _ (n' : Node) (r' : opens.Node-F Node) (e' : roll-Node r' ≡ n')
        (now : level r' ≡ Branch (record { past = r.past; body = body.Composite d'; records = r.records; path = r.path; labels = r.labels; meetings = r.meetings; live = false }) (all_of kids)) where
      is-shown : shown_node n' ≡ Branch (record { past = r.past; body = body.Composite d'; records = r.records; path = r.path; labels = r.labels; meetings = r.meetings; live = false }) (all_of kids)
      is-shown = ap (λ m. shown_node m) (sym e') ∙ ap (λ x. level x) (out-roll-Node r') ∙ now

      pub gave-at-once : GaveAt tag (shown_node n) X out (shown_node n')
      gave-at-once = record {
        goes = composite-enters n n' r r' d d' (all_of kids) r.meetings e e' is (Done out) now tag X ends.goes;
        fit = composite-stays n n' r r' d d' (all_of kids) r.meetings e e' is (Done out) now ends.fit;
        keeps = record {
          kept = ap (λ s. kept_of s) is-shown ∙ sym (ap (λ s. kept_of s) was-shown);
          outline = composite-named n n' r r' d d' (all_of kids) r.meetings e e' is (Done out) now ends.maximum ends.outlines;
          count = ap (λ s. count_of s) is-shown ∙ sym (ap (λ s. count_of s) was-shown);
        };
      }
