-- Firings of one child in a row that one call makes: they are noted and recorded together, and the core is told of all of them.
use Rattle.std.proofs.Common.{◌≡◌, ℕ, ℤ, zero, suc, ◌+◌, ◌*◌, ◌<◌, ◌≤◌, List, [], ◌∷◌, length, map, get_or, set, false, Option, Some, None, Result, Ok, Err, refl, sym, ap, ap₂, subst, ◌∙◌, arith}
use Rattle.std.specs.Prelude.{is_some, OnErr}
use Rattle.pt_meaning.specs.Basics.{Tag, Streams}
use Rattle.pt_meaning.specs.Tree as tree
use Rattle.pt_value.specs.declared.token.Token.{Token}
use Rattle.pt_value.specs.declared.token.Token.TheVariants.{Int}
use Rattle.pt_firing.specs.declared.ask.Ask.TheVariants as ask
use Rattle.pt_library.specs.LibraryActor as library
use Rattle.pt_library.specs.LibraryActor.{MakesInTurn, GivesStretch}
use Rattle.pt_sdf.specs.Clauses as sdf
use Rattle.pt_sdf.specs.InARow.{AsksAgain, TellsInTurn, AreAhead, given_by}
use Rattle.pt_directors.specs.Directors.{Director, of_sdf}
use Rattle.pt_node.specs.declared.node.Node.{Node, roll-Node}
use Rattle.pt_node.specs.declared.node.Node.TheViews.{out-roll-Node}
use Rattle.pt_node.specs.declared.node.Node.TheOpen as opens
use Rattle.pt_node.specs.declared.body.Body.TheVariants as body
use Rattle.pt_node.specs.declared.body.Held.{Held}
use Rattle.pt_node.specs.Acts.{acts}
use Rattle.pt_node.specs.Shown.{Shown, AllShown, Branch, shown, shown_node, level}
use Rattle.pt_node.specs.Firing as firing
use Rattle.pt_node.specs.Firing.{noted, recorded, recorded_times, recorded_in_turn}
use Rattle.pt_node.specs.Reset.{KeepsRecords}
use Rattle.pt_node.specs.View.{outline_of}
use Rattle.pt_node.specs.Live.{IsFit, AllFit}
use Rattle.pt_node.proofs.InTurnLaws.{recorded-together}
use Rattle.pt_node.proofs.OutlineLaws.{outline_bare}
use Rattle.pt_turns.specs.declared.within.Within.TheVariants.{Done}
use Rattle.pt_turns.specs.Between.{At, Between, InTurn}
use Rattle.pt_turns.specs.OwnMeetings.{OwnMeetings}
use Rattle.pt_stretches.specs.Stretches.{FiredOnce, FiresInTurn, MadeRow, FiredInARow}
use Rattle.pt_turns.proofs.Acting.{acts-law}
use Rattle.pt_turns.proofs.Children.{set-same}
use Rattle.pt_turns.proofs.Entering.{with-body, actor-goes, actor-fit}
use Rattle.pt_turns.proofs.Firing.{fire-in}
use Rattle.pt_turns.proofs.Loop.{there-in, set-is}
use Rattle.pt_turns.proofs.Recording.{kept-bare, count-bare}
use Rattle.pt_stretches.proofs.Stretching.{rows-go-on}

-- a node with that actor in place of what it is, and with that actor in the middle of a firing
abbrev pub with_actor : Held → Shown → Shown
with_actor held (Branch g ks) = Branch (record { past = g.past; body = body.Actor held; records = g.records; path = g.path; labels = g.labels; meetings = g.meetings; live = g.live }) ks

abbrev pub under_way : Held → Shown → Shown
under_way held (Branch g ks) = Branch (record { past = g.past; body = body.Actor held; records = g.records; path = g.path; labels = g.labels; meetings = g.meetings; live = false }) ks

abbrev kids_of : Shown → AllShown
kids_of (Branch g ks) = ks

pub is-actor : (r : opens.Node-F Node) (held : Held) → r.body ≡ body.Actor held → level r ≡ with_actor held (level r)
is-actor r held is = ap (λ b. with-body r b) is

same-held : (a b : Held) → a.start ≡ b.start → a.actor ≡ b.actor → a ≡ b
same-held a b start actor = ap₂ (λ x y. let h : Held = record { start = x; actor = y } in h) start actor

kids-recorded : (tag : Tag) (out : Streams Token) (s : Shown) → kids_of (recorded tag (noted tag out s)) ≡ kids_of s
kids-recorded tag out (Branch g ks) = refl

kids-fit : (s : Shown) → IsFit s → AllFit (kids_of s)
kids-fit (Branch g ks) fit = fit.1

-- a firing of the actor
one-fired : (tag : Tag) (s : Shown) (held held' : Held) (X out : Streams Token) → AllFit (kids_of s) → held'.start ≡ held.start → ((t : Tag) → library.step t held.actor X ≡ tree.Gives held'.actor out) → FiredOnce tag (with_actor held s) X out (with_actor held' (recorded tag (noted tag out s)))
one-fired tag (Branch g ks) held held' X out fit start gives = record {
  own = under_way held' (Branch g ks);
  gave = record {
    goes = λ t. actor-goes g held held' ks t X (Done out) (gives t, start);
    fit = actor-fit g held held' ks (Done out) fit;
    outline = refl;
    count = refl;
  };
  made = refl;
  is = refl;
}

-- its firings leave the node with other records, and with the actor that comes of them
actor-recorded : (tag : Tag) (out : Streams Token) (held : Held) (s : Shown) → recorded tag (noted tag out (with_actor held s)) ≡ with_actor held (recorded tag (noted tag out s))
actor-recorded tag out held (Branch g ks) = refl

first-recorded : (tag : Tag) (out : Streams Token) (held : Held) (s : Shown) → recorded tag (noted tag out (under_way held s)) ≡ with_actor held (recorded tag (noted tag out s))
first-recorded tag out held (Branch g ks) = refl

module _ (tag : Tag) (outputs : ℕ → Streams Token) (s : Shown) where
  kids-in-turn : (k : ℕ) → kids_of (recorded_in_turn tag outputs k s) ≡ kids_of s
  kids-in-turn zero = refl
  kids-in-turn (suc k) = kids-recorded tag (outputs k) (recorded_in_turn tag outputs k s) ∙ kids-in-turn k

  actor-in-turn : (held : Held) (k : ℕ) → recorded_in_turn tag outputs (suc k) (under_way held s) ≡ with_actor held (recorded_in_turn tag outputs (suc k) s)
  actor-in-turn held zero = first-recorded tag (outputs 0) held s
  actor-in-turn held (suc k) = ap (λ v. recorded tag (noted tag (outputs (suc k)) v)) (actor-in-turn held k) ∙ actor-recorded tag (outputs (suc k)) held (recorded_in_turn tag outputs (suc k) s)

  all-fired : (inputs : ℕ → Streams Token) (held : Held) → AllFit (kids_of s) → (k : ℕ) (held' : Held) → held'.start ≡ held.start → MakesInTurn library.step inputs outputs k held.actor held'.actor → FiresInTurn tag inputs outputs k (with_actor held s) (with_actor held' (recorded_in_turn tag outputs k s))
  all-fired inputs held fit zero held' start makes = ap (λ h. with_actor h s) (same-held held' held start makes)
  all-fired inputs held fit (suc k) held' start (mid, before_it, gives) =
      let between : Held = record { start = held.start; actor = mid } in (
        with_actor between (recorded_in_turn tag outputs k s),
        all-fired inputs held fit k between refl before_it,
        one-fired tag (recorded_in_turn tag outputs k s) between held' (inputs k) (outputs k) (subst (λ v. AllFit v) (sym (kids-in-turn k)) fit) start gives,
      )

-- so many firings, each of which gave as many of these numbers, that are noted and recorded together
fired-together : (tag : Tag) (inputs : ℕ → Streams Token) (rate : ℕ) (numbers : List ℤ) (k : ℕ) (s : Shown) (held held' : Held) → s ≡ with_actor held s → IsFit s → held'.start ≡ held.start → length numbers ≡ suc k * rate → MakesInTurn library.step inputs (given_by rate numbers) (suc k) held.actor held'.actor →
    FiresInTurn tag inputs (given_by rate numbers) (suc k) s (recorded_times tag (suc k) (noted tag (map Int numbers ∷ []) (under_way held' s)))
fired-together tag inputs rate numbers k s held held' actor fit start long makes =
    let now = recorded_times tag (suc k) (noted tag (map Int numbers ∷ []) (under_way held' s)) in
    subst (λ v. FiresInTurn tag inputs (given_by rate numbers) (suc k) v now) (sym actor)
    (subst (λ v. FiresInTurn tag inputs (given_by rate numbers) (suc k) (with_actor held s) v) (sym (recorded-together tag rate numbers k (under_way held' s) long ∙ actor-in-turn tag (given_by rate numbers) s held' k))
    (all-fired tag (given_by rate numbers) s inputs held (kids-fit s fit) (suc k) held' start makes))

-- The inputs of the firings that a core was told of are those that stood ahead.
module _ (i : ℕ) (rows : List (Streams Token)) (s : sdf.State) (ahead : AreAhead i rows s) (inputs outputs : ℕ → Streams Token) where
  abbrev those : ℕ → Streams Token
  those k = get_or rows k []

  asks-those : (k : ℕ) (t : sdf.State) → k ≤ length rows → AsksAgain i inputs outputs k s t → AsksAgain i those outputs k s t
  asks-those zero t few asks = asks
  asks-those (suc k) t few (m, before_it, takes, now) = (m, asks-those k m (omega (arith, few)) before_it, sym (ahead inputs outputs k m (omega (arith, few)) before_it), now)

  pub tells-those : (k : ℕ) (t : sdf.State) → k ≤ length rows → TellsInTurn i inputs outputs k s t → TellsInTurn i those outputs k s t
  tells-those zero t few tells = tells
  tells-those (suc k) t few (m, before_it, takes, is, goes) = (m, asks-those k m (omega (arith, few)) before_it, sym (ahead inputs outputs k m (omega (arith, few)) before_it), is, goes)

-- the next firings of a child, which its actor made
module _ (n n' : Node) (r r' : opens.Node-F Node) (held held' : Held) (e : roll-Node r ≡ n) (e' : roll-Node r' ≡ n') (is : r.body ≡ body.Actor held) (start : held'.start ≡ held.start) (now : level r' ≡ under_way held' (level r)) where
  was-shown : shown_node n ≡ level r
  was-shown = ap (λ m. shown_node m) (sym e) ∙ ap (λ x. level x) (out-roll-Node r)

  is-shown : shown_node n' ≡ under_way held' (level r)
  is-shown = ap (λ m. shown_node m) (sym e') ∙ ap (λ x. level x) (out-roll-Node r') ∙ now

  row-made-at : (s : sdf.State) (i most rate firings : ℕ) (inputs : List (Streams Token)) (numbers : List ℤ) → AreAhead i inputs s → GivesStretch library.step held.actor inputs rate firings numbers held'.actor → 0 < firings → firings ≤ most → IsFit (level r) → MadeRow s (level r) i most firings rate numbers (under_way held' (level r))
  row-made-at s i most rate zero inputs numbers ahead gives some within fit = absurd (omega (arith, some))
  row-made-at s i most rate (suc k) inputs numbers ahead gives some within fit = record {
    inputs = inputs;
    ahead = ahead;
    few = gives.few;
    within = within;
    fires = λ tag. fired-together tag (λ j. get_or inputs j []) rate numbers k (level r) held held' (is-actor r held is) fit start gives.counted gives.made;
    keeps = record {
      kept = refl;
      outline = ap (λ b. outline_of (with-body r b)) (sym is);
      count = refl;
    };
  }

  pub row-made : (s : sdf.State) (i most rate firings : ℕ) (inputs : List (Streams Token)) (numbers : List ℤ) → AreAhead i inputs s → GivesStretch library.step held.actor inputs rate firings numbers held'.actor → 0 < firings → firings ≤ most → IsFit (shown_node n) → MadeRow s (shown_node n) i most firings rate numbers (shown_node n')
  row-made s i most rate firings inputs numbers ahead gives some within fit =
      subst (λ v. MadeRow s v i most firings rate numbers (shown_node n')) (sym was-shown)
      (subst (λ v. MadeRow s (level r) i most firings rate numbers v) (sym is-shown)
      (row-made-at s i most rate firings inputs numbers ahead gives some within (subst (λ v. IsFit v) was-shown fit)))

-- firings in a row that are noted and recorded, and of which the core was told
pub row-fired : (s t : sdf.State) (i most firings rate : ℕ) (numbers : List ℤ) (tag : Tag) (child mid new : Shown) (left left' : ℕ) → MadeRow s child i most firings rate numbers mid → ((inputs : ℕ → Streams Token) × TellsInTurn i inputs (given_by rate numbers) firings s t) → new ≡ recorded_times tag firings (noted tag (map Int numbers ∷ []) mid) → left' + firings ≡ left → FiredInARow s child i tag left t new left'
row-fired s t i most zero rate numbers tag child mid new left left' row tells is spends = absurd tells.1
row-fired s t i most (suc k) rate numbers tag child mid new left left' row tells is spends = record {
  more = k;
  inputs = λ j. get_or row.inputs j [];
  outputs = given_by rate numbers;
  tells = tells-those i row.inputs s row.ahead tells.0 (given_by rate numbers) (suc k) t row.few tells.1;
  fires = subst (λ v. FiresInTurn tag (λ j. get_or row.inputs j []) (given_by rate numbers) (suc k) child v) (sym is) (row.fires tag);
  spends = spends;
}

-- what is noted of them changes nothing that is kept of the child
pub keeps-noted : (old mid after : Shown) → KeepsRecords old mid → firing.bare after ≡ firing.bare mid → KeepsRecords old after
keeps-noted old mid after k b = record {
  kept = kept-bare after mid b ∙ k.kept;
  outline = outline_bare after mid b ∙ k.outline;
  count = count-bare after mid b ∙ k.count;
}

pub err-so : {A E P : Type 0} (r : Result A E) → P → OnErr r P
err-so (Ok a) p = tt
err-so (Err x) p = p

-- a child of which it is the turn, and which made nothing yet, is as it was when it was asked for
pub turn-asked : {before : Director} {olds : List Shown} {tag : Tag} {X : Streams Token} {allowance : ℕ} {own : OwnMeetings} {i : ℕ} {when : Tag} {s : Director} {now : List Shown} {left : ℕ} (given : Option ℤ) → is_some given ≡ false → InTurn acts before olds tag X allowance own i when given s now left → Between acts before olds tag X allowance own (ask.Fire i when) s now left
turn-asked {before} {olds} {tag} {X} {allowance} {own} {i} {when} {s} {now} {left} (Some n) none t = absurd (cc)
turn-asked {before} {olds} {tag} {X} {allowance} {own} {i} {when} {s} {now} {left} None none t =
    subst (λ ss. Between acts before olds tag X allowance own (ask.Fire i when) s ss left) (sym (t.others ∙ ap (λ v. set t.kids i v) t.gave ∙ set-same t.kids i t.child t.there)) t.between

-- the firing of the composite goes on from firings in a row
pub row-goes-on : {before : Director} {olds : List Shown} {tag : Tag} {X : Streams Token} {allowance : ℕ} {own : OwnMeetings} {i : ℕ} {when : Tag} {s : sdf.State} (kids : List Node) {left : ℕ} → Between acts before olds tag X allowance own (ask.Fire i when) (of_sdf s) (map shown kids) left → (d : Node) → d ≡ get_or kids i d →
    (n : Node) (t : sdf.State) (left' : ℕ) → FiredInARow s (shown_node d) i when left t (shown_node n) left' → At acts before olds tag X allowance own (of_sdf t) (map shown (set kids i n)) left'
row-goes-on {before} {olds} {tag} {X} {allowance} {own} {i} {when} {s} kids {left} b d value n t left' f =
    subst (λ ss. At acts before olds tag X allowance own (of_sdf t) ss left') (set-is kids i n)
    (rows-go-on before olds tag X allowance own s t (map shown kids) left left' i when (shown_node d) (shown_node n) f.inputs f.outputs f.more b (there-in kids i d (fire-in acts acts-law b.at i when b.gives) value) f.tells f.fires f.spends)
