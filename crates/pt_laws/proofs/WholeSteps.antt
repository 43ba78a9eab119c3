-- What a firing logs at a greater fuel comes later than what it logs at a smaller one.
use Rattle.std.proofs.Common.{◌≡◌, ◌⊎◌, ℕ, zero, suc, ◌+◌, ◌≤◌, List, [], ◌∷◌, ◌++◌, Bool, ◌||◌, length, Option, Some, None, inl, inr, refl, sym, ap, ap₂, subst, arith, ◌∙◌, append-nil}
use Rattle.std.proofs.lemmas.List.{append_cancel_left}
use Rattle.std.proofs.Math.Path.{fun_ext}
use Rattle.pt_meaning.specs.Basics.{Tag, Streams, Log, Path, Firing, Event, Finished, Met, firings_in, silent, log_then, own, Meeting}
use Rattle.pt_meaning.specs.Machine.{Outcome, Done, Stuck, Stepping}
use Rattle.pt_meaning.specs.Dataflow.{Inside}
use Rattle.pt_meaning.specs.Modal.{get}
use Rattle.pt_meaning.specs.Meetings.{Meets, below_child}
use Rattle.pt_meaning.specs.Children.{Child, numbered, child_facts, child_step}
use Rattle.pt_meaning.specs.Node.{Rows, Core, Past, Node, Nodes, Actor, Composite, list_of, facts_of, as_node, level, step_at, made_of}
use Rattle.pt_meaning.specs.Lawful.{LawfulRows}
use Rattle.pt_meaning.specs.Closed.{Has, child_of, Begun, is_modal, rounds_of}
use Rattle.pt_laws.specs.Heights.{IsFitting}
use Rattle.pt_laws.specs.LogsOfRuns.{log_at, log_in}
use Rattle.pt_meaning.specs.Laws.{Extends, Grows}
use Rattle.pt_laws.specs.SoundRuns.{log_in_child, idle, ClosedIn, KeptIn, SoundStep}
use Rattle.pt_laws.specs.Explained.{Turned, ChainOf, EndsWith, Explained}
use Rattle.pt_laws.specs.WholeRuns.{ComesLater, LaterStep, WholeStep, FiringsAreWhole}
use Rattle.pt_laws.proofs.JoinLaws.{log-assoc}
use Rattle.pt_laws.proofs.LogLaws.{log-with_number}
use Rattle.pt_laws.proofs.CompositeLaws.{steps-grow}
use Rattle.pt_laws.proofs.HeightLaws.{with-number-done}
use Rattle.pt_laws.proofs.MeetingIndex.{some-same}
use Rattle.pt_laws.proofs.ClosedLaws.{child-or-beyond}
use Rattle.pt_laws.proofs.LevelLaws.{has-right, count-append, unmarked-append}
use Rattle.pt_laws.proofs.ChainLaws.{no-finished}
use Rattle.pt_laws.proofs.ClosedSteps.{kept-made, director-explained, actor-quiet, sound-at}
use Rattle.pt_laws.proofs.LaterLaws.{later-below, later-joins, later-nothing, later-own}
use Rattle.pt_laws.proofs.LaterSteps.{turn-sound, part-later, as-added, composite-inside, KidNow, kid-now, none-there, logged, later-at}

-- the first firing of a list of events
first_of : {T : Type 0} → List (Event T) → Option (Firing T)
first_of [] = None
first_of (Finished ns f ∷ es) = Some f
first_of (Met ns i m ∷ es) = first_of es

first-append : {T : Type 0} (f : Firing T) (es fs : List (Event T)) → first_of es ≡ Some f → first_of (es ++ fs) ≡ Some f
unfolding first_of
first-append f [] fs e = absurd (cc)
first-append f (Finished ns g ∷ es) fs e = e
first-append f (Met ns i m ∷ es) fs e = first-append f es fs e

first-quiet : {T : Type 0} (f : Firing T) (es : List (Event T)) → firings_in es ≡ 0 → first_of (es ++ (Finished [] f ∷ [])) ≡ Some f
unfolding first_of
first-quiet f [] e = refl
first-quiet f (Finished ns g ∷ es) e = absurd (omega (arith, e))
first-quiet f (Met ns i m ∷ es) e = first-quiet f es e

-- where two lists meet that go on
pub cut : {A : Type 0} (xs ys zs ms : List A) → xs ++ ys ≡ zs ++ ms → ((y : A) (ws : List A) → ys ≡ y ∷ ws → Has y zs → ⊥) → (m : List A) × (xs ≡ zs ++ m) × (ms ≡ m ++ ys)
cut xs ys [] ms e d = (xs, refl, sym e)
cut [] ys (z ∷ zs) ms e d = absurd (d z (zs ++ ms) e (inl refl))
cut {A} (x ∷ xs) ys (z ∷ zs) ms e d =
    let a : x ≡ z = cc in let b : xs ++ ys ≡ zs ++ ms = cc in let r = cut xs ys zs ms b (λ y ws f g. d y ws f (inr g)) in (r.0, ap₂ (λ (v : A) (w : List A). v ∷ w) a r.1, r.2)

nothing-left : {A : Type 0} (xs ys : List A) → [] ≡ xs ++ ys → ys ≡ []
nothing-left [] ys e = sym e
nothing-left (x ∷ xs) ys e = absurd (cc)

-- What a child has logged of a firing that it doesn't finish: no record of its own, all of it within the firing that is due, and what a firing of the child logs behind it comes later.
pub record IsAsked {T A : Type 0} (further : ℕ → Stepping T (Node T A)) (s : Child (Node T A)) (l asked : Log T) : Type 0 where
  pub quiet : firings_in (asked []) ≡ 0
  pub inside : (i : ℕ) (r : Path) (e : Event T) → Has e (asked (i ∷ r)) → (ns : List ℕ) × (rounds_of e ≡ made_of s.node ∷ ns)
  pub whole : (tag : Tag) (X : Streams T) (M : Log T) → log_in (further s.number tag s.node X) ≡ log_then asked M → ComesLater (log_then l asked) M

-- what a child logs after its finished firings: nothing, or what it has logged of one that it doesn't finish
abbrev pub EndsOff : {T A : Type 0} → Rows T A → (ℕ → Stepping T (Node T A)) → Bool → Node T A → Child (Node T A) → Log T → Type 0
EndsOff {T} rows further u n₀ z rest = (rest ≡ silent) ⊎ ((l : Log T) → IsFitting z.node → ClosedIn rows u n₀ l idle → KeptIn rows u n₀ z.node l → IsAsked further z l rest)

-- a child in the same firing of its composite, at two fuels
module _ {T A : Type 0} (rows : Rows T A) (steps further : ℕ → Stepping T (Node T A)) (sound : (i : ℕ) → SoundStep rows (steps i)) (sound' : (i : ℕ) → SoundStep rows (further i)) (later : (i : ℕ) → LaterStep rows (steps i)) (later' : (i : ℕ) → LaterStep rows (further i))
    (whole : (i : ℕ) → WholeStep rows (steps i) (further i)) (grows : Grows (child_step steps) (child_step further)) (u : Bool) (n₀ : Node T A) where
  abbrev Chain : Child (Node T A) → List (Turned T) → Child (Node T A) → Log T → Type 0
  Chain s ts z l = ChainOf (child_facts (facts_of rows)) (child_step steps) s ts z l

  abbrev Further : Child (Node T A) → List (Turned T) → Child (Node T A) → Log T → Type 0
  Further s ts z l = ChainOf (child_facts (facts_of rows)) (child_step further) s ts z l

  -- the firing that was asked for
  module _ (s : Child (Node T A)) (l : Log T) (f : IsFitting s.node) (c : ClosedIn rows u n₀ l idle) (k : KeptIn rows u n₀ s.node l) (asked : Log T) (a : IsAsked further s l asked) (M : Log T) where
    asked-whole : (ts : List (Turned T)) (z : Child (Node T A)) (first rest : Log T) (b' : Option (Begun T)) → Further s ts z first → EndsWith (child_step further) z b' rest → log_then first rest ≡ log_then asked M → ComesLater (log_then l asked) M
    asked-whole [] z first rest None h e same =
        let quiet : M ≡ silent = fun_ext (λ q. nothing-left (asked q) (M q) (sym (ap₂ (λ (u v : Log T). u q ++ v q) h.1 e) ∙ ap (λ v. v q) same)) in subst (λ v. ComesLater (log_then l asked) v) (sym quiet) (later-nothing (log_then l asked))
    asked-whole [] z first rest (Some g) h e same =
        let log : rest ≡ log_in (further s.number g.tag s.node g.inputs) = e ∙ ap (λ (v : Child (Node T A)). log_in (child_step further g.tag v g.inputs)) h.0 ∙ log-with_number s.number (further s.number g.tag s.node g.inputs) in
        a.whole g.tag g.inputs M (sym log ∙ ap (λ v. log_then v rest) (sym h.1) ∙ same)
    asked-whole (t ∷ ts) z first rest b' h e same =
        let y : Child (Node T A) = h.0 in
        let o = turn-sound rows further sound' u n₀ s y l t f c k h.2 h.3 in
        let bare_step : further s.number t.record_of.tag s.node t.record_of.inputs ≡ Done y.node t.record_of.outputs t.inside = with-number-done s.number (further s.number t.record_of.tag s.node t.record_of.inputs) y t.record_of.outputs t.inside h.3 in
        let tail : Log T = log_then (own t.record_of) (log_then h.1 rest) in
        let next = part-later rows further sound' u n₀ later' ts y z (log_then l (log_then t.inside (own t.record_of))) h.1 rest b' o.fits o.closed o.kept h.4 e in
        let joined : log_then t.inside tail ≡ log_then asked M =
        ap (λ v. log_then t.inside v) (log-assoc (own t.record_of) h.1 rest) ∙ log-assoc t.inside (log_then (own t.record_of) h.1) rest ∙ ap (λ v. log_then v rest) (log-assoc t.inside (own t.record_of) h.1) ∙ ap (λ v. log_then v rest) (sym h.5) ∙ same
        in
        let parts = λ (q : Path). cut (t.inside q) (tail q) (asked q) (M q) (ap (λ v. v q) joined) (apart t h.1 rest next q) in
        let M₁ : Log T = λ q. (parts q).0 in
        let front : t.inside ≡ log_then asked M₁ = fun_ext (λ q. (parts q).1) in
        let back : M ≡ log_then M₁ tail = fun_ext (λ q. (parts q).2) in
        let now = a.whole t.record_of.tag t.record_of.inputs M₁ (ap (λ r. log_in r) bare_step ∙ front) in
        let base : log_then (log_then l asked) M₁ ≡ log_then l t.inside = sym (log-assoc l asked M₁) ∙ ap (λ v. log_then l v) (sym front) in
        let behind : ComesLater (log_then l t.inside) tail = later-joins (log_then l t.inside) (own t.record_of) (log_then h.1 rest) (later-own (log_then l t.inside) t.record_of) (subst (λ v. ComesLater v (log_then h.1 rest)) (log-assoc l t.inside (own t.record_of)) next) in
        subst (λ v. ComesLater (log_then l asked) v) (sym back) (later-joins (log_then l asked) M₁ tail now (subst (λ v. ComesLater v tail) (sym base) behind))
      where
        made : firings_in (l []) ≡ made_of s.node
        made = kept-made rows u n₀ s.node l k

        -- what begins behind this firing is none of it
        apart : (t : Turned T) (rest₁ rest : Log T) → ComesLater (log_then l (log_then t.inside (own t.record_of))) (log_then rest₁ rest) → (q : Path) (y : Event T) (ws : List (Event T)) → own t.record_of q ++ (rest₁ q ++ rest q) ≡ y ∷ ws → Has y (asked q) → ⊥
        apart t rest₁ rest next [] y ws e g = no-finished [] t.record_of (asked []) a.quiet (let same : y ≡ Finished [] t.record_of = cc in subst (λ v. Has v (asked [])) same g)
        apart t rest₁ rest next (i ∷ r) y ws e g =
            let here : Has y (rest₁ (i ∷ r) ++ rest (i ∷ r)) = subst (λ (v : List (Event T)). Has y v) (sym e) (inl refl) in
            let w = next [] i r y here in
            let its = a.inside i r y g in
            let n : made_of s.node ≡ w.0 = some-same (made_of s.node) w.0 (sym (ap (λ v. get v 0) its.1) ∙ w.1) in
            let one : firings_in (own t.record_of []) ≡ 1 = refl in
            omega (arith, n, w.2, made, one, count-append (l []) (t.inside [] ++ own t.record_of []), count-append (t.inside []) (own t.record_of []))

  -- what it doesn't finish has no record of it
  rest-quiet : (s z : Child (Node T A)) (l first rest : Log T) (b : Option (Begun T)) → IsFitting s.node → ClosedIn rows u n₀ l idle → KeptIn rows u n₀ s.node l → Further s [] z first → EndsWith (child_step further) z b rest → firings_in ((log_then first rest) []) ≡ 0
  rest-quiet s z l first rest None f c k h e = ap₂ (λ (u v : Log T). firings_in (u [] ++ v [])) h.1 e
  rest-quiet s z l first rest (Some g) f c k h e =
      let log : rest ≡ log_in (further s.number g.tag s.node g.inputs) = e ∙ ap (λ (v : Child (Node T A)). log_in (child_step further g.tag v g.inputs)) h.0 ∙ log-with_number s.number (further s.number g.tag s.node g.inputs) in
      ap₂ (λ (u v : Log T). firings_in (u [] ++ v [])) h.1 log ∙ ((sound' s.number).own_path u n₀ s.node l f c k g.tag g.inputs).1

  -- the same firing at both fuels
  record SameTurn (y y' : Child (Node T A)) (t t' : Turned T) : Type 0 where
    state : y' ≡ y
    log : log_then t'.inside (own t'.record_of) ≡ log_then t.inside (own t.record_of)

  same-turn : (s y y' : Child (Node T A)) (t t' : Turned T) → child_step steps t.record_of.tag s t.record_of.inputs ≡ Done y t.record_of.outputs t.inside → child_step further t'.record_of.tag s t'.record_of.inputs ≡ Done y' t'.record_of.outputs t'.inside → t'.record_of ≡ t.record_of → SameTurn y y' t t'
  same-turn s y y' t t' e e' r =
      let up : child_step further t.record_of.tag s t.record_of.inputs ≡ Done y t.record_of.outputs t.inside = subst (λ o. Extends o (child_step further t.record_of.tag s t.record_of.inputs)) e (grows t.record_of.tag s t.record_of.inputs) in
      let both : Done y' t'.record_of.outputs t'.inside ≡ Done y t.record_of.outputs t.inside = sym e' ∙ ap (λ (v : Firing T). child_step further v.tag s v.inputs) r ∙ up in
      record { state = ap (λ v. state_of v) both; log = ap₂ (λ (u : Log T) (v : Firing T). log_then u (own v)) (ap (λ v. log_in v) both) r }
    where
      state_of : Outcome T (Child (Node T A)) → Child (Node T A)
      state_of (Done z o l) = z
      state_of (Stuck fs l) = y

  first-of-part : (t : Turned T) (tail : Log T) (first rest M : Log T) → firings_in (t.inside []) ≡ 0 → first ≡ log_then (log_then t.inside (own t.record_of)) tail → first_of ((first [] ++ rest []) ++ M []) ≡ Some t.record_of
  first-of-part t tail first rest M q e =
      first-append t.record_of (first [] ++ rest []) (M [])
      (first-append t.record_of (first []) (rest []) (ap (λ (v : Log T). first_of (v [])) e ∙ first-append t.record_of (t.inside [] ++ own t.record_of []) (tail []) (first-quiet t.record_of (t.inside []) q)))

  pub child-whole : (ts : List (Turned T)) (s z : Child (Node T A)) (l first rest : Log T) → IsFitting s.node → ClosedIn rows u n₀ l idle → KeptIn rows u n₀ s.node l → Chain s ts z first → EndsOff rows further u n₀ z rest →
      (ts' : List (Turned T)) (z' : Child (Node T A)) (first' rest' : Log T) (b' : Option (Begun T)) → Further s ts' z' first' → EndsWith (child_step further) z' b' rest' → (M : Log T) → log_then first' rest' ≡ log_then (log_then first rest) M → ComesLater (log_then l (log_then first rest)) M
  child-whole [] s z l first rest f c k h (inl e) ts' z' first' rest' b' h' e' M same =
      let quiet : log_then first rest ≡ silent = ap₂ (λ (u v : Log T). log_then u v) h.1 e in
      let all : M ≡ log_then first' rest' = sym (same ∙ ap (λ v. log_then v M) quiet) in
      let base : log_then l (log_then first rest) ≡ l = ap (λ v. log_then l v) quiet ∙ fun_ext (λ p. append-nil (l p)) in
      subst (λ v. ComesLater v M) (sym base) (subst (λ v. ComesLater l v) (sym all) (part-later rows further sound' u n₀ later' ts' s z' l first' rest' b' f c k h' e'))
  child-whole [] s z l first rest f c k h (inr e) ts' z' first' rest' b' h' e' M same =
      let all : log_then first rest ≡ rest = ap (λ v. log_then v rest) h.1 in
      let its : IsAsked further s l rest = subst (λ (v : Child (Node T A)). (l : Log T) → IsFitting v.node → ClosedIn rows u n₀ l idle → KeptIn rows u n₀ v.node l → IsAsked further v l rest) h.0 e l f c k in
      subst (λ v. ComesLater (log_then l v) M) (sym all) (asked-whole s l f c k rest its M ts' z' first' rest' b' h' e' (same ∙ ap (λ v. log_then v M) all))
  child-whole (t ∷ ts) s z l first rest f c k h e [] z' first' rest' b' h' e' M same =
      let none : firings_in ((log_then first' rest') []) ≡ 0 = rest-quiet s z' l first' rest' b' f c k h' e' in
      let all : firings_in ((first [] ++ rest []) ++ M []) ≡ 0 = sym (ap (λ (v : Log T). firings_in (v [])) same) ∙ none in
      let some : firings_in (first []) ≡ firings_in ((t.inside [] ++ own t.record_of []) ++ h.1 []) = ap (λ (v : Log T). firings_in (v [])) h.5 in
      let one : firings_in (own t.record_of []) ≡ 1 = refl in
      absurd (omega (arith, all, some, one, count-append (first [] ++ rest []) (M []), count-append (first []) (rest []), count-append (t.inside [] ++ own t.record_of []) (h.1 []), count-append (t.inside []) (own t.record_of [])))
  child-whole (t ∷ ts) s z l first rest f c k h e (t' ∷ ts') z' first' rest' b' h' e' M same =
      let y : Child (Node T A) = h.0 in
      let o = turn-sound rows steps sound u n₀ s y l t f c k h.2 h.3 in
      let o' = turn-sound rows further sound' u n₀ s h'.0 l t' f c k h'.2 h'.3 in
      let record_same : t'.record_of ≡ t.record_of =
      some-same t'.record_of t.record_of (sym (first-of-part t' h'.1 first' rest' silent o'.quiet h'.5) ∙ ap (λ v. first_of v) (append-nil (first' [] ++ rest' [])) ∙ ap (λ (v : Log T). first_of (v [])) same ∙ first-of-part t h.1 first rest M o.quiet h.5)
      in
      let turn = same-turn s y h'.0 t t' h.3 h'.3 record_same in
      let pre : Log T = log_then t.inside (own t.record_of) in
      let front : first' ≡ log_then pre h'.1 = h'.5 ∙ ap (λ v. log_then v h'.1) turn.log in
      let left : log_then first' rest' ≡ log_then pre (log_then h'.1 rest') = ap (λ v. log_then v rest') front ∙ sym (log-assoc pre h'.1 rest') in
      let inner : log_then first rest ≡ log_then pre (log_then h.1 rest) = ap (λ v. log_then v rest) h.5 ∙ sym (log-assoc pre h.1 rest) in
      let right : log_then (log_then first rest) M ≡ log_then pre (log_then (log_then h.1 rest) M) = ap (λ v. log_then v M) inner ∙ sym (log-assoc pre (log_then h.1 rest) M) in
      let behind : log_then h'.1 rest' ≡ log_then (log_then h.1 rest) M = fun_ext (λ q. append_cancel_left (pre q) ((log_then h'.1 rest') q) ((log_then (log_then h.1 rest) M) q) (ap (λ v. v q) (sym left ∙ same ∙ right))) in
      let next = child-whole ts y z (log_then l pre) h.1 rest o.fits o.closed o.kept h.4 e ts' z' h'.1 rest' b' (subst (λ (v : Child (Node T A)). Further v ts' z' h'.1) turn.state h'.4) e' M behind in
      subst (λ v. ComesLater v M) (sym (log-assoc l pre (log_then h.1 rest)) ∙ ap (λ v. log_then l v) (sym inner)) next

  -- what it logs of a firing at the smaller fuel
  ends-off : (z : Child (Node T A)) (rest : Log T) (b : Option (Begun T)) → EndsWith (child_step steps) z b rest → EndsOff rows further u n₀ z rest
  ends-off z rest None e = inl e
  ends-off z rest (Some b) e =
      let log : log_in (steps z.number b.tag z.node b.inputs) ≡ rest = sym (log-with_number z.number (steps z.number b.tag z.node b.inputs)) ∙ sym e in
      inr (λ l f c k. subst (λ v. IsAsked further z l v) log
      (record {
        quiet = ((sound z.number).own_path u n₀ z.node l f c k b.tag b.inputs).1;
        inside = (later z.number).inside u n₀ z.node l f c k b.tag b.inputs;
        whole = λ tag X M same. (whole z.number).whole u n₀ z.node l f c k b.tag tag b.inputs X M same;
      }))

-- the firing of a composite, explained at both
module _ {T A H H' : Type 0} {ms : List Meeting} (rows : Rows T A) (steps further : ℕ → Stepping T (Node T A)) (sound : (i : ℕ) → SoundStep rows (steps i)) (sound' : (i : ℕ) → SoundStep rows (further i)) (later : (i : ℕ) → LaterStep rows (steps i)) (later' : (i : ℕ) → LaterStep rows (further i))
    (whole : (i : ℕ) → WholeStep rows (steps i) (further i)) (grows : Grows (child_step steps) (child_step further)) (tag tag' : Tag) (u : Bool) (h₀ : Past) (c₀ d₀ : Core T) (kids₀ : Nodes T A) (h : Past) (c d : Core T) (kids : Nodes T A) (l : Log T) (closed : ClosedIn rows u (Composite h₀ c₀ d₀ kids₀) l idle)
    (kept : KeptIn rows u (Composite h₀ c₀ d₀ kids₀) (Composite h c d kids) l) (fits : IsFitting (Composite h c d kids)) (X X' : Streams T) (core : H → Core T) (core' : H' → Core T) (r : Outcome T (Inside H (Child (Node T A)))) (r' : Outcome T (Inside H' (Child (Node T A))))
    (x : Explained (child_facts (facts_of rows)) (child_step steps) ms h.made tag X d core (numbered 0 (list_of kids)) r) (x' : Explained (child_facts (facts_of rows)) (child_step further) ms h.made tag' X' d core' (numbered 0 (list_of kids)) r') (more : Log T) (same : log_in (as_node tag' h c core' r') ≡ log_then (log_in (as_node tag h c core r)) more) where
  abbrev here : Log T
  here = log_in (as_node tag h c core r)

  log-of : (i : ℕ) → log_in_child i here ≡ log_at x.logs i
  log-of i = logged rows steps sound later tag u h₀ c₀ d₀ kids₀ h c d kids l closed kept fits X core r x i

  further-log : (i : ℕ) → log_in_child i (log_in (as_node tag' h c core' r')) ≡ log_at x'.logs i
  further-log i = logged rows further sound' later' tag' u h₀ c₀ d₀ kids₀ h c d kids l closed kept fits X' core' r' x' i

  joined : (i : ℕ) → log_at x'.logs i ≡ log_then (log_at x.logs i) (log_in_child i more)
  joined i = sym (further-log i) ∙ ap (λ v. log_in_child i v) same ∙ fun_ext (λ q. unmarked-append (here (i ∷ q)) (more (i ∷ q))) ∙ ap (λ v. log_then v (log_in_child i more)) (log-of i)

  pub composite-whole : ComesLater (log_then l here) more
  composite-whole = later-below (log_then l here) more level (λ i. below i (child-or-beyond kids₀ i))
    where
      quiet : firings_in (here []) ≡ 0
      quiet = ap (λ (v : Log T). firings_in (v [])) (as-added rows steps sound later tag u h₀ c₀ d₀ kids₀ h c d kids l closed kept fits X core r x) ∙ x.quiet

      level : (i : ℕ) (q : Path) (e : Event T) → Has e (more (i ∷ q)) → (n : ℕ) × (ns : List ℕ) × (rounds_of e ≡ n ∷ ns) × (firings_in (l [] ++ here []) ≤ n)
      level i q e g =
          let w = composite-inside rows further sound' later' tag' u h₀ c₀ d₀ kids₀ h c d kids l closed kept fits X' core' r' x' i q e (subst (λ (v : Log T). Has e (v (i ∷ q))) (sym same) (has-right e (here (i ∷ q)) (more (i ∷ q)) g)) in
          (h.made, w.0, w.1, omega (arith, count-append (l []) (here []), quiet, kept.0.made))

      below : (i : ℕ) → ((k₀ : Node T A) × (child_of kids₀ i ≡ Some k₀)) ⊎ ((child_of kids₀ i ≡ None) × (length (list_of kids₀) ≤ i)) → ComesLater (log_in_child i (log_then l here)) (log_in_child i more)
      below i (inl k₀) =
          let k : KidNow rows steps sound later tag u h₀ c₀ d₀ kids₀ h c d kids l closed kept fits X core r x i k₀.0 = kid-now rows steps sound later tag u h₀ c₀ d₀ kids₀ h c d kids l closed kept fits X core r x i k₀.0 k₀.1 in
          let s : Child (Node T A) = record { number = 0 + i; node = k.child } in
          let its' = x'.parts i s k.there in
          let inside = child-whole rows steps further sound sound' later later' whole grows (u || is_modal c₀) k₀.0 (x.turns i) s (x.ends i) (log_in_child i l) k.its_part.first k.its_part.rest k.its_fit k.its_closed k.its_kept k.its_part.chain (ends-off rows steps further sound sound' later later' whole grows (u || is_modal c₀) k₀.0 (x.ends i) k.its_part.rest (x.way i) k.its_part.ends) (x'.turns i) (x'.ends i) its'.first its'.rest (x'.way i) its'.chain its'.ends (log_in_child i more)
          (sym its'.whole ∙ joined i ∙ ap (λ v. log_then v (log_in_child i more)) k.its_part.whole)
          in
          subst (λ v. ComesLater v (log_in_child i more)) (ap (λ v. log_then (log_in_child i l) v) (sym (log-of i ∙ k.its_part.whole)) ∙ sym (fun_ext (λ q. unmarked-append (l (i ∷ q)) (here (i ∷ q))))) inside
      below i (inr b) =
          let none : log_at x.logs i ≡ silent = none-there rows steps sound later tag u h₀ c₀ d₀ kids₀ h c d kids l closed kept fits X core r x i b.1 in
          let none' : log_at x'.logs i ≡ silent = none-there rows further sound' later' tag' u h₀ c₀ d₀ kids₀ h c d kids l closed kept fits X' core' r' x' i b.1 in
          let nothing : log_in_child i more ≡ silent = sym (joined i ∙ ap (λ v. log_then v (log_in_child i more)) none) ∙ none' in
          subst (λ v. ComesLater (log_in_child i (log_then l here)) v) (sym nothing) (later-nothing (log_in_child i (log_then l here)))

-- every two steps
module _ {T A : Type 0} (rows : Rows T A) (law : LawfulRows rows) (k k' d d' : ℕ) (o : k ≤ k') (u : d ≤ d') (m : Meets) (whole : (i : ℕ) → WholeStep rows (step_at rows k d (below_child i m)) (step_at rows k' d' (below_child i m))) where
  abbrev one : ℕ → Stepping T (Node T A)
  one i = step_at rows k d (below_child i m)

  abbrev two : ℕ → Stepping T (Node T A)
  two i = step_at rows k' d' (below_child i m)

  level-whole : (w : Bool) (n₀ n : Node T A) (l : Log T) → IsFitting n → ClosedIn rows w n₀ l idle → KeptIn rows w n₀ n l → (t t' : Tag) (X X' : Streams T) (more : Log T) → log_in (level rows two k' (m []) t' n X') ≡ log_then (log_in (level rows one k (m []) t n X)) more → ComesLater (log_then l (log_in (level rows one k (m []) t n X))) more
  level-whole w n₀ (Actor h a b) l f c e t t' X X' more same =
      let quiet : silent ≡ more = sym (actor-quiet rows t' X' h a (rows.react t' b X')) ∙ same ∙ ap (λ v. log_then v more) (actor-quiet rows t X h a (rows.react t b X)) in
      subst (λ v. ComesLater (log_then l (log_in (level rows one k (m []) t (Actor h a b) X))) v) quiet (later-nothing (log_then l (log_in (level rows one k (m []) t (Actor h a b) X))))
  level-whole w (Actor h₀ a₀ b₀) (Composite h s g kids) l f c e t t' X X' more same = absurd e
  level-whole w (Composite h₀ c₀ d₀ kids₀) (Composite h s g kids) l f c e t t' X X' more same =
      director-explained rows law k d m (m [] h.made) t h s kids X g f e.0.wired (λ o. log_in (level rows two k' (m []) t' (Composite h s g kids) X') ≡ log_then (log_in o) more → ComesLater (log_then l (log_in o)) more)
      (λ H core r x. director-explained rows law k' d' m (m [] h.made) t' h s kids X' g f e.0.wired (λ q. log_in q ≡ log_then (log_in (as_node t h s core r)) more → ComesLater (log_then l (log_in (as_node t h s core r))) more)
      (λ H' core' r' x' y. composite-whole rows one two (λ i. sound-at rows law k d (below_child i m)) (λ i. sound-at rows law k' d' (below_child i m)) (λ i. later-at rows law k d (below_child i m)) (λ i. later-at rows law k' d' (below_child i m)) whole (steps-grow rows law m k k' d d' o u) t t' w h₀ c₀ d₀ kids₀ h s g kids l c e f X X' core core' r r' x x' more y))
      same

pub whole-at : {T A : Type 0} → FiringsAreWhole T A
unfolding step_at
whole-at {T} rows law k k' zero d' o u m = record {
  whole = λ w n₀ n l f c e t t' X X' more same. subst (λ v. ComesLater v more) (sym (fun_ext (λ q. append-nil (l q)))) (subst (λ v. ComesLater l v) same ((later-at rows law k' d' m).later w n₀ n l f c e t' X'));
}
whole-at rows law k k' (suc d) zero o u m = absurd (omega arith)
whole-at rows law k k' (suc d) (suc d') o u m = record { whole = level-whole rows law k k' d d' o (omega (arith, u)) m (λ i. whole-at rows law k k' d d' o (omega (arith, u)) (below_child i m)) }
