-- Firings of one child in a row, of which an SDF core was told one after another.
use Rattle.std.proofs.Common.{◌≡◌, ℕ, zero, suc, ◌+◌, ◌<◌, List, [], length, get_or, set, Bool, true, false, Some, refl, sym, ap, subst, ◌∙◌, arith}
use Rattle.pt_meaning.specs.Basics.{Tag, Streams}
use Rattle.pt_meaning.specs.Streams.{get}
use Rattle.pt_meaning.specs.Rounds.{has_rates}
use Rattle.pt_value.specs.declared.token.Token.{Token}
use Rattle.pt_core.specs.declared.either.Either.TheVariants.{First, Other}
use Rattle.pt_firing.specs.declared.ask.Ask.TheVariants as ask
use Rattle.pt_sdf.specs.Clauses as sdf
use Rattle.pt_sdf.specs.State.{Open, lent_in, if_told, after_told}
use Rattle.pt_sdf.specs.InARow.{AsksAgain, TellsInTurn}
use Rattle.pt_directors.specs.Directors.{Director, director_calls, of_sdf}
use Rattle.pt_node.specs.Acts.{acts}
use Rattle.pt_node.specs.Shown.{Shown, Branch}
use Rattle.pt_node.specs.Firing.{noted, recorded}
use Rattle.pt_node.specs.View.{outline_of, count_of}
use Rattle.pt_node.proofs.OutlineLaws.{outline_noted, outline_recorded}
use Rattle.pt_turns.specs.declared.within.Within.TheVariants as within
use Rattle.pt_turns.specs.declared.turn.Turn.TheVariants as turn
use Rattle.pt_turns.specs.Within.{WithinTo}
use Rattle.pt_turns.specs.Turns.{ChildFired}
use Rattle.pt_turns.specs.Between.{At, Between}
use Rattle.pt_turns.specs.OwnMeetings.{OwnMeetings}
use Rattle.pt_stretches.specs.Stretches.{FiredOnce, FiresInTurn, RowsGoOn}
use Rattle.pt_turns.proofs.Acting.{acts-law}
use Rattle.pt_turns.proofs.Children.{set-same, set-again, get-again}
use Rattle.pt_turns.proofs.Firing.{fire-in, at-fired}
use Rattle.pt_turns.proofs.Turning.{turn-told}

tag_in : Director → Tag → Tag
tag_in (First s) other = s.tag
tag_in (Other d) other = other

-- the tag of a firing that an SDF core asked for
asked-tag : (d : Director) (i : ℕ) (when : Tag) (s : sdf.State) → director_calls.Gives d (ask.Fire i when) → of_sdf s ≡ director_calls.asking (ask.Fire i when) d → when ≡ s.tag
unfolding tag_in
asked-tag (First u) i when s g e = g.3 ∙ sym (ap (λ d. tag_in d when) e)
asked-tag (Other d) i when s g e = absurd (cc)

-- what a core goes on with fits the rates of the child
rates-fit : (i : ℕ) (out : Streams Token) (s : sdf.State) (b : Bool) → (if_told b i out s).stage ≡ Open → b ≡ true
rates-fit i out s true goes = refl
rates-fit i out s false goes = absurd (cc)

count-once : (tag : Tag) (out : Streams Token) (s : Shown) → count_of (recorded tag (noted tag out s)) ≡ suc (count_of s)
count-once tag out (Branch g ks) = omega arith

module _ (before : Director) (olds : List Shown) (tag : Tag) (X : Streams Token) (allowance : ℕ) (own : OwnMeetings) (kids : List Shown) (i : ℕ) (when : Tag) (in-kids : i < length kids) where
  -- the core asks for the child, which is so by now
  abbrev Asks : sdf.State → Shown → ℕ → Type 0
  Asks m mid left = Between acts before olds tag X allowance own (ask.Fire i when) (of_sdf m) (set kids i mid) left

  abbrev Stands : sdf.State → Shown → ℕ → Type 0
  Stands m mid left = At acts before olds tag X allowance own (of_sdf m) (set kids i mid) left

  -- a firing more
  fired-once : (m : sdf.State) (mid new : Shown) (inputs out : Streams Token) (left : ℕ) → Asks m mid (suc left) → (after_told i out m).stage ≡ Open → inputs ≡ lent_in m.stage → FiredOnce when mid inputs out new → Stands (after_told i out m) new left
  fired-once m mid new inputs out left b goes takes once =
      let o : sdf.State = after_told i out m in
      let there : get (set kids i mid) i ≡ Some mid = get-again kids i mid in-kids in
      let rated : has_rates (get_or m.plan.rates i []) out ≡ true = rates-fit i out m (has_rates (get_or m.plan.rates i []) out) goes in
      let within_it : WithinTo mid when (lent_in m.stage) (within.Done out) once.own = subst (λ (Y : Streams Token). WithinTo mid when Y (within.Done out) once.own) takes (once.gave.goes when) in
      let fired : ChildFired director_calls (of_sdf m) mid i when (of_sdf o) new = turn-told director_calls (of_sdf m) mid once.own i when out turn.Done (of_sdf o) new within_it once.gave.fit once.gave.outline once.made (rated, refl, once.is) in
      let named : outline_of new ≡ outline_of mid = ap (λ v. outline_of v) once.is ∙ outline_recorded when (noted when out once.own) ∙ outline_noted when out once.own ∙ once.gave.outline in
      let counted : count_of new + left ≡ count_of mid + suc left = omega (arith, ap (λ v. count_of v) once.is, count-once when out once.own, once.gave.count) in
      subst (λ ss. At acts before olds tag X allowance own (of_sdf o) ss left) (set-again kids i mid new)
      (at-fired acts acts-law b.at i when b.gives mid there new (of_sdf o) left (subst (λ v. ChildFired director_calls v mid i when (of_sdf o) new) b.asking fired) named counted (omega arith))

  module _ (s : sdf.State) (child : Shown) (left : ℕ) (b : Asks s child left) (inputs outputs : ℕ → Streams Token) where
    asks-on : (k : ℕ) (m : sdf.State) (mid : Shown) (left' : ℕ) → AsksAgain i inputs outputs k s m → FiresInTurn when inputs outputs k child mid → left' + k ≡ left → Asks m mid left' × (when ≡ m.tag)
    asks-on zero m mid left' a f e =
        let same : left' ≡ left = omega (arith, e) in (
          subst (λ n. Asks m mid n) (sym same) (subst (λ v. Asks m v left) (sym f) (subst (λ (v : sdf.State). Asks v child left) (sym a) b)),
          asked-tag b.state i when s b.gives b.asking ∙ sym (ap (λ (v : sdf.State). v.tag) a),
        )
    asks-on (suc k) m mid left' (m0, before_it, takes, now) (mid0, fired, once) e =
        let ih = asks-on k m0 mid0 (suc left') before_it fired (omega (arith, e)) in
        let at = fired-once m0 mid0 mid (inputs k) (outputs k) left' ih.0 now.0 takes once in
        let o : sdf.State = after_told i (outputs k) m0 in
        let asks : Asks m mid left' = record { state = of_sdf o; at = at; gives = (now.0, now.1, now.2, ih.1 ∙ now.3); asking = ap (λ v. of_sdf v) now.4 } in
        (asks, ih.1 ∙ now.3 ∙ sym (ap (λ (v : sdf.State). v.tag) now.4))

    all-told : (k : ℕ) (t : sdf.State) (new : Shown) (left' : ℕ) → TellsInTurn i inputs outputs (suc k) s t → FiresInTurn when inputs outputs (suc k) child new → left' + suc k ≡ left → Stands t new left'
    all-told k t new left' (m, before_it, takes, e, goes) (mid, fired, once) l =
        let ih = asks-on k m mid (suc left') before_it fired (omega (arith, l)) in
        subst (λ (v : sdf.State). Stands v new left') (sym e) (fired-once m mid new (inputs k) (outputs k) left' ih.0 (sym (ap (λ (v : sdf.State). v.stage) e) ∙ goes) takes once)

pub rows-go-on : RowsGoOn
rows-go-on before olds tag X allowance own s t kids left left' i when child new inputs outputs k b there tells fires l =
    let same : set kids i child ≡ kids = set-same kids i child there in
    all-told before olds tag X allowance own kids i when (fire-in acts acts-law b.at i when b.gives) s child left (subst (λ ss. Between acts before olds tag X allowance own (ask.Fire i when) (of_sdf s) ss left) (sym same) b) inputs outputs k t new left' tells fires l
