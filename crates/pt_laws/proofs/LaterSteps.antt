-- A firing at any fuel logs later than what was before.
use Rattle.std.proofs.Common.{◌≡◌, ◌⊎◌, ℕ, zero, suc, ◌+◌, ◌≤◌, List, [], ◌∷◌, ◌++◌, Bool, ◌||◌, length, Option, Some, None, inl, inr, refl, sym, ap, subst, arith, ◌∙◌, append-nil}
use Rattle.std.proofs.Math.Path.{fun_ext}
use Rattle.pt_meaning.specs.Basics.{Tag, Streams, Log, Path, Firing, Event, firings_in, silent, log_then, own, log_below, within_firing, Meeting}
use Rattle.pt_meaning.specs.Machine.{Outcome, Done, Stepping}
use Rattle.pt_meaning.specs.Dataflow.{Inside}
use Rattle.pt_meaning.specs.Modal.{get}
use Rattle.pt_meaning.specs.Meetings.{Meets, below_child}
use Rattle.pt_meaning.specs.Children.{Child, numbered, child_facts, child_step}
use Rattle.pt_meaning.specs.Node.{Rows, Core, Past, Node, Nodes, Actor, Composite, list_of, facts_of, as_node, level, step_at, made_of}
use Rattle.pt_meaning.specs.Lawful.{LawfulRows}
use Rattle.pt_meaning.specs.Closed.{Has, child_of, Begun, is_modal, rounds_of}
use Rattle.pt_laws.specs.Heights.{IsFitting}
use Rattle.pt_laws.specs.LogsOfRuns.{log_at, log_in}
use Rattle.pt_laws.specs.SoundRuns.{log_in_child, idle, ClosedIn, KeptIn, SoundStep}
use Rattle.pt_laws.specs.Explained.{Turned, ChainOf, EndsWith, PartOf, Explained}
use Rattle.pt_laws.specs.WholeRuns.{ComesLater, LaterStep, FiringsComeLater}
use Rattle.pt_laws.proofs.JoinLaws.{log-assoc}
use Rattle.pt_laws.proofs.LogLaws.{log-with_number}
use Rattle.pt_laws.proofs.CompositeLaws.{log-as-node}
use Rattle.pt_laws.proofs.FiringLaws.{number-kept}
use Rattle.pt_laws.proofs.HeightLaws.{with-number-done, numbered-length}
use Rattle.pt_laws.proofs.ClosedLaws.{child-closed, child-or-beyond}
use Rattle.pt_laws.proofs.LevelLaws.{added, marked-rounds, unmarked-marked}
use Rattle.pt_laws.proofs.ChainLaws.{numbered-get, kept-child, fitting-child}
use Rattle.pt_laws.proofs.SoundLaws.{below-log, within-added}
use Rattle.pt_laws.proofs.ClosedSteps.{director-explained, actor-quiet, sound-at}
use Rattle.pt_laws.proofs.LaterLaws.{later-below, later-joins, later-nothing, later-own}

-- a child after one of its firings, with what holds there
pub record TurnSound {T A : Type 0} (rows : Rows T A) (u : Bool) (n₀ : Node T A) (s y : Child (Node T A)) (l : Log T) (t : Turned T) : Type 0 where
  pub number : y.number ≡ s.number
  pub fits : IsFitting y.node
  pub closed : ClosedIn rows u n₀ (log_then l (log_then t.inside (own t.record_of))) idle
  pub kept : KeptIn rows u n₀ y.node (log_then l (log_then t.inside (own t.record_of)))
  pub quiet : firings_in (t.inside []) ≡ 0
  pub log : t.inside ≡ log_in (Done y t.record_of.outputs t.inside)

module _ {T A : Type 0} (rows : Rows T A) (steps : ℕ → Stepping T (Node T A)) (sound : (i : ℕ) → SoundStep rows (steps i)) (u : Bool) (n₀ : Node T A) where
  pub turn-sound : (s y : Child (Node T A)) (l : Log T) (t : Turned T) → IsFitting s.node → ClosedIn rows u n₀ l idle → KeptIn rows u n₀ s.node l → t.record_of.number ≡ made_of s.node → child_step steps t.record_of.tag s t.record_of.inputs ≡ Done y t.record_of.outputs t.inside → TurnSound rows u n₀ s y l t
  turn-sound s y l t f c k n e =
      let bare_step : steps s.number t.record_of.tag s.node t.record_of.inputs ≡ Done y.node t.record_of.outputs t.inside = with-number-done s.number (steps s.number t.record_of.tag s.node t.record_of.inputs) y t.record_of.outputs t.inside e in
      let same_record : record { number = made_of s.node; tag = t.record_of.tag; inputs = t.record_of.inputs; outputs = t.record_of.outputs } ≡ t.record_of =
      ap (λ (v : ℕ). let g : Firing T = record { number = v; tag = t.record_of.tag; inputs = t.record_of.inputs; outputs = t.record_of.outputs } in g) (sym n)
      in
      let done = (sound s.number).done u n₀ s.node y.node l f c k t.record_of.tag t.record_of.inputs t.record_of.outputs t.inside bare_step in
      record {
        number = number-kept s.number (steps s.number t.record_of.tag s.node t.record_of.inputs) y t.record_of.outputs t.inside e;
        fits = (sound s.number).fits t.record_of.tag s.node y.node t.record_of.inputs t.record_of.outputs t.inside f bare_step;
        closed = subst (λ (g : Firing T). ClosedIn rows u n₀ (log_then l (log_then t.inside (own g))) idle) same_record done.0;
        kept = subst (λ (g : Firing T). KeptIn rows u n₀ y.node (log_then l (log_then t.inside (own g)))) same_record done.1;
        quiet = subst (λ r. firings_in (log_in r []) ≡ 0) bare_step ((sound s.number).own_path u n₀ s.node l f c k t.record_of.tag t.record_of.inputs).1;
        log = refl;
      }

  -- what a child logs in a firing of its composite comes later
  module _ (later : (i : ℕ) → LaterStep rows (steps i)) where
    pub turn-later : (s y : Child (Node T A)) (l : Log T) (t : Turned T) → IsFitting s.node → ClosedIn rows u n₀ l idle → KeptIn rows u n₀ s.node l → child_step steps t.record_of.tag s t.record_of.inputs ≡ Done y t.record_of.outputs t.inside → ComesLater l t.inside
    turn-later s y l t f c k e =
        let bare_step : steps s.number t.record_of.tag s.node t.record_of.inputs ≡ Done y.node t.record_of.outputs t.inside = with-number-done s.number (steps s.number t.record_of.tag s.node t.record_of.inputs) y t.record_of.outputs t.inside e in
        subst (λ r. ComesLater l (log_in r)) bare_step ((later s.number).later u n₀ s.node l f c k t.record_of.tag t.record_of.inputs)

    pub part-later : (ts : List (Turned T)) (s z : Child (Node T A)) (l first rest : Log T) (b : Option (Begun T)) → IsFitting s.node → ClosedIn rows u n₀ l idle → KeptIn rows u n₀ s.node l → ChainOf (child_facts (facts_of rows)) (child_step steps) s ts z first → EndsWith (child_step steps) z b rest →
        ComesLater l (log_then first rest)
    part-later [] s z l first rest None f c k h e = later-joins l first rest (subst (λ v. ComesLater l v) (sym h.1) (later-nothing l)) (subst (λ v. ComesLater (log_then l first) v) (sym e) (later-nothing (log_then l first)))
    part-later [] s z l first rest (Some b) f c k h e =
        let log : rest ≡ log_in (steps s.number b.tag s.node b.inputs) = e ∙ ap (λ (v : Child (Node T A)). log_in (child_step steps b.tag v b.inputs)) h.0 ∙ log-with_number s.number (steps s.number b.tag s.node b.inputs) in
        let quiet : l ≡ log_then l first = fun_ext (λ p. sym (append-nil (l p)) ∙ ap (λ v. l p ++ v) (ap (λ v. v p) (sym h.1))) in
        later-joins l first rest (subst (λ v. ComesLater l v) (sym h.1) (later-nothing l)) (subst (λ v. ComesLater v rest) quiet (subst (λ v. ComesLater l v) (sym log) ((later s.number).later u n₀ s.node l f c k b.tag b.inputs)))
    part-later (t ∷ ts) s z l first rest b f c k h e =
        let y : Child (Node T A) = h.0 in
        let o = turn-sound s y l t f c k h.2 h.3 in
        let A : Log T = log_then t.inside (own t.record_of) in
        let next = part-later ts y z (log_then l A) h.1 rest b o.fits o.closed o.kept h.4 e in
        let now = later-joins l t.inside (own t.record_of) (turn-later s y l t f c k h.3) (later-own (log_then l t.inside) t.record_of) in
        subst (λ v. ComesLater l v) (log-assoc A h.1 rest ∙ ap (λ v. log_then v rest) (sym h.5)) (later-joins l A (log_then h.1 rest) now next)

-- the firing of a composite, explained
module _ {T A H : Type 0} {ms : List Meeting} (rows : Rows T A) (steps : ℕ → Stepping T (Node T A)) (sound : (i : ℕ) → SoundStep rows (steps i)) (later : (i : ℕ) → LaterStep rows (steps i)) (tag : Tag) (u : Bool) (h₀ : Past) (c₀ d₀ : Core T) (kids₀ : Nodes T A) (h : Past) (c d : Core T) (kids : Nodes T A) (l : Log T)
    (closed : ClosedIn rows u (Composite h₀ c₀ d₀ kids₀) l idle) (kept : KeptIn rows u (Composite h₀ c₀ d₀ kids₀) (Composite h c d kids) l) (fits : IsFitting (Composite h c d kids)) (inputs : Streams T) (core : H → Core T) (r : Outcome T (Inside H (Child (Node T A))))
    (x : Explained (child_facts (facts_of rows)) (child_step steps) ms h.made tag inputs d core (numbered 0 (list_of kids)) r) where
  abbrev v : Bool
  v = u || is_modal c₀

  pub as-added : log_in (as_node tag h c core r) ≡ added h.made x.events (log_below x.logs)
  as-added = log-as-node tag h c core r ∙ ap (λ v. within_firing h.made v) x.log ∙ within-added h.made x.events x.logs

  pub composite-inside : (i : ℕ) (p : Path) (e : Event T) → Has e (log_in (as_node tag h c core r) (i ∷ p)) → (ns : List ℕ) × (rounds_of e ≡ h.made ∷ ns)
  composite-inside i p e g = marked-rounds h.made e (log_below x.logs (i ∷ p)) (subst (λ (v : Log T). Has e (v (i ∷ p))) as-added g)

  -- each child with its part
  pub record KidNow (i : ℕ) (k₀ : Node T A) : Type 0 where
    pub child : Node T A
    pub there : get (numbered 0 (list_of kids)) i ≡ Some (record { number = 0 + i; node = child })
    pub its_fit : IsFitting child
    pub its_closed : ClosedIn rows v k₀ (log_in_child i l) idle
    pub its_kept : KeptIn rows v k₀ child (log_in_child i l)
    pub its_part : PartOf (child_facts (facts_of rows)) (child_step steps) (record { number = 0 + i; node = child }) (log_at x.logs i) (x.turns i) (x.way i) (x.ends i)

  pub kid-now : (i : ℕ) (k₀ : Node T A) → child_of kids₀ i ≡ Some k₀ → KidNow i k₀
  kid-now i k₀ e =
      let zero_i : 0 + i ≡ i = omega arith in
      let k = kept-child rows v kids₀ kids 0 i l k₀ kept.1 e in
      record {
        child = k.0;
        there = numbered-get 0 kids i k.0 k.1;
        its_fit = fitting-child kids i k.0 fits.2 k.1;
        its_closed = subst (λ w. ClosedIn rows v k₀ (log_in_child w l) idle) zero_i (child-closed rows v kids₀ 0 i k₀ l idle closed.2 e);
        its_kept = subst (λ w. KeptIn rows v k₀ k.0 (log_in_child w l)) zero_i k.2;
        its_part = x.parts i (record { number = 0 + i; node = k.0 }) (numbered-get 0 kids i k.0 k.1);
      }

  pub none-there : (i : ℕ) → length (list_of kids₀) ≤ i → log_at x.logs i ≡ silent
  none-there i g = (x.beyond i (omega (arith, g, numbered-length 0 (list_of kids), kept.0.counts))).0

  pub logged : (i : ℕ) → log_in_child i (log_in (as_node tag h c core r)) ≡ log_at x.logs i
  logged i = ap (λ v. log_in_child i v) as-added ∙ fun_ext (λ p. unmarked-marked h.made (log_below x.logs (i ∷ p))) ∙ below-log x.logs i

  pub composite-later : ComesLater l (log_in (as_node tag h c core r))
  composite-later = later-below l (log_in (as_node tag h c core r)) (λ i p e g. let w = composite-inside i p e g in (h.made, w.0, w.1, omega (arith, kept.0.made))) (λ i. below i (child-or-beyond kids₀ i))
    where
      below : (i : ℕ) → ((k₀ : Node T A) × (child_of kids₀ i ≡ Some k₀)) ⊎ ((child_of kids₀ i ≡ None) × (length (list_of kids₀) ≤ i)) → ComesLater (log_in_child i l) (log_in_child i (log_in (as_node tag h c core r)))
      below i (inl k₀) =
          let k = kid-now i k₀.0 k₀.1 in
          subst (λ v. ComesLater (log_in_child i l) v) (sym (logged i ∙ k.its_part.whole))
          (part-later rows steps sound v k₀.0 later (x.turns i) (record { number = 0 + i; node = k.child }) (x.ends i) (log_in_child i l) k.its_part.first k.its_part.rest (x.way i) k.its_fit k.its_closed k.its_kept k.its_part.chain k.its_part.ends)
      below i (inr b) = subst (λ v. ComesLater (log_in_child i l) v) (sym (logged i ∙ none-there i b.1)) (later-nothing (log_in_child i l))

-- every step
module _ {T A : Type 0} (rows : Rows T A) (law : LawfulRows rows) (k d : ℕ) (m : Meets) (later : (i : ℕ) → LaterStep rows (step_at rows k d (below_child i m))) where
  abbrev below : ℕ → Stepping T (Node T A)
  below i = step_at rows k d (below_child i m)

  abbrev next : Tag → Node T A → Streams T → Outcome T (Node T A)
  next t n X = level rows below k (m []) t n X

  sound : (i : ℕ) → SoundStep rows (below i)
  sound i = sound-at rows law k d (below_child i m)

  level-later : (u : Bool) (n₀ n : Node T A) (l : Log T) → IsFitting n → ClosedIn rows u n₀ l idle → KeptIn rows u n₀ n l → (t : Tag) (X : Streams T) → ComesLater l (log_in (next t n X))
  level-later u n₀ (Actor h a b) l f c e t X = subst (λ (v : Log T). ComesLater l v) (sym (actor-quiet rows t X h a (rows.react t b X))) (later-nothing l)
  level-later u (Actor h₀ a₀ b₀) (Composite h s g kids) l f c e t X = absurd e
  level-later u (Composite h₀ c₀ d₀ kids₀) (Composite h s g kids) l f c e t X =
      director-explained rows law k d m (m [] h.made) t h s kids X g f e.0.wired (λ o. ComesLater l (log_in o))
      (λ H core r x. composite-later rows below sound later t u h₀ c₀ d₀ kids₀ h s g kids l c e f X core r x)

  level-inside : (u : Bool) (n₀ n : Node T A) (l : Log T) → IsFitting n → ClosedIn rows u n₀ l idle → KeptIn rows u n₀ n l → (t : Tag) (X : Streams T) → (i : ℕ) (r : Path) (v : Event T) → Has v (log_in (next t n X) (i ∷ r)) → (ns : List ℕ) × (rounds_of v ≡ made_of n ∷ ns)
  level-inside u n₀ (Actor h a b) l f c e t X = λ i r v g. absurd (subst (λ (w : Log T). Has v (w (i ∷ r))) (actor-quiet rows t X h a (rows.react t b X)) g)
  level-inside u (Actor h₀ a₀ b₀) (Composite h s g kids) l f c e t X = absurd e
  level-inside u (Composite h₀ c₀ d₀ kids₀) (Composite h s g kids) l f c e t X =
      director-explained rows law k d m (m [] h.made) t h s kids X g f e.0.wired (λ o. (i : ℕ) (r : Path) (v : Event T) → Has v (log_in o (i ∷ r)) → (ns : List ℕ) × (rounds_of v ≡ h.made ∷ ns))
      (λ H core r x. composite-inside rows below sound later t u h₀ c₀ d₀ kids₀ h s g kids l c e f X core r x)

pub later-at : {T A : Type 0} → FiringsComeLater T A
unfolding step_at
later-at rows law k zero m = record { later = λ u n₀ n l f c e t X. later-nothing l; inside = λ u n₀ n l f c e t X i r v g. absurd g }
later-at rows law k (suc d) m = record {
  later = level-later rows law k d m (λ i. later-at rows law k d (below_child i m));
  inside = level-inside rows law k d m (λ i. later-at rows law k d (below_child i m));
}
