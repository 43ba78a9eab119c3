-- The firing of a child whose number was told to the director at once.
use Rattle.std.proofs.Common.{◌≡◌, ℕ, ℤ, List, [], ◌∷◌, true, map, Some, refl, sym, ap, subst, ◌∙◌}
use Rattle.pt_meaning.specs.Basics.{Tag, Streams}
use Rattle.pt_meaning.specs.NodeFacts.{need_of, next_of}
use Rattle.pt_value.specs.declared.token.Token.{Token}
use Rattle.pt_value.specs.declared.token.Token.TheVariants.{Int}
use Rattle.pt_records.specs.Made.{AreMadeWithin}
use Rattle.pt_records.specs.Fired.{FiresTo}
use Rattle.pt_library.specs.LibraryActor.{rows}
use Rattle.pt_directors.specs.Directors.{Director, director_calls}
use Rattle.pt_node.specs.declared.node.Node.{Node, roll-Node, out-Node}
use Rattle.pt_node.specs.declared.node.Node.TheViews.{out-roll-Node}
use Rattle.pt_node.specs.declared.node.Node.TheOpen as opens
use Rattle.pt_past.specs.Recorded.{RecordedPort, noting}
use Rattle.pt_node.specs.Shown.{Shown, Branch, Frame}
use Rattle.pt_node.specs.Firing as firing
use Rattle.pt_node.specs.View.{Tree, node_of, kept_of}
use Rattle.pt_node.specs.Told.{IsTold}
use Rattle.pt_node.proofs.OutlineLaws.{outline_bare}
use Rattle.pt_turns.specs.declared.turn.Turn.TheVariants as turn
use Rattle.pt_turns.specs.Within.{outcome, fired, Gave, Given, made_of}
use Rattle.pt_turns.specs.Turns.{ChildFired}
use Rattle.pt_turns.proofs.Recording.{kept-bare, count-bare, fit-bare}
use Rattle.pt_turns.proofs.Turning.{turn-told}

abbrev pub records_of : Shown → List RecordedPort
records_of (Branch f ks) = f.records

-- nothing is noted where nothing is recorded
pub none-noted : (tag : Tag) (out : Streams Token) (s : Shown) → records_of s ≡ [] → firing.noted tag out s ≡ s
none-noted tag out (Branch g ks) e =
    ap (λ rs. let f : Frame = record { past = g.past; body = g.body; records = rs; path = g.path; labels = g.labels; meetings = g.meetings; live = g.live } in Branch f ks) (ap (λ rs. map (noting tag out) rs) e ∙ sym e)

pub records-in : (n : Node) (r : opens.Node-F Node) → roll-Node r ≡ n → r.records ≡ [] → (out-Node n).records ≡ []
records-in n r e h = ap (λ m. (out-Node m).records) (sym e) ∙ ap (λ (x : opens.Node-F Node). x.records) (out-roll-Node r) ∙ h

pub quickly-fired : (d : Director) (old mid : Shown) (i : ℕ) (tag : Tag) (out : Streams Token) (d' : Director) (after : Shown) → Gave old (director_calls.lent_of d) out mid → made_of mid ≡ made_of old → records_of mid ≡ [] → IsTold director_calls d mid i out d' → director_calls.accepts d i out ≡ true → after ≡ firing.recorded tag mid → ChildFired director_calls d old i tag d' after
quickly-fired d old mid i tag out d' after g p none told right is =
    turn-told director_calls d old mid i tag out turn.Done d' after (g.goes tag) g.fit g.outline p (right, subst (λ v. d' ≡ director_calls.told i out (next_of rows (node_of v)) (need_of rows (node_of v)) d) (sym is) (told tag), is ∙ ap (λ v. firing.recorded tag v) (sym (none-noted tag out mid none)))

-- notes change neither the node among the definitions nor how often it fired
node-of-bare : (s : Shown) → node_of (firing.bare s) ≡ node_of s
node-of-bare (Branch g ks) = refl

node-bare : (s t : Shown) → firing.bare s ≡ firing.bare t → node_of s ≡ node_of t
node-bare s t e = sym (node-of-bare s) ∙ ap (λ v. node_of v) e ∙ node-of-bare t

made-of-bare : (s : Shown) → made_of (firing.bare s) ≡ made_of s
made-of-bare (Branch g ks) = refl

made-bare : (s t : Shown) → firing.bare s ≡ firing.bare t → made_of s ≡ made_of t
made-bare s t e = sym (made-of-bare s) ∙ ap (λ v. made_of v) e ∙ made-of-bare t

-- a child that gave a number gave it whatever was noted of it since
pub given-bare : (old mid after : Shown) (X : Streams Token) (n : ℤ) → firing.bare after ≡ firing.bare mid → Given (Some n) old X mid → Given (Some n) old X after
given-bare old mid after X n e g = (
  record {
    goes = λ tag m made.
        let kept = kept-bare after mid e in
        subst (λ (v : Tree). FiresTo (outcome m (node_of old) tag X) (fired tag v) ((Int n ∷ []) ∷ []) (kept_of old) (kept_of after)) (sym (node-bare after mid e))
        (subst (λ k. FiresTo (outcome m (node_of old) tag X) (fired tag (node_of mid)) ((Int n ∷ []) ∷ []) (kept_of old) k) (sym kept) (g.0.goes tag m (subst (λ k. AreMadeWithin m k) kept made)));
    fit = fit-bare after mid e g.0.fit;
    outline = outline_bare after mid e ∙ g.0.outline;
    count = count-bare after mid e ∙ g.0.count;
  },
  made-bare after mid e ∙ g.1,
)
