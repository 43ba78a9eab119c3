-- The calls of a core, from its fields to what is seen of it.
use Rattle.std.proofs.Common.{◌≡◌, ◌↔◌, ◌⊎◌, inl, inr, ℕ, ◌<◌, ◌≤◌, List, [], ◌∷◌, false, length, get_or, replicate, Some, IsSome, Option, Result, IfOk, refl, sym, ap, subst, ◌∙◌, arith}
use Rattle.pt_meaning.specs.Tag.{Tag, least}
use Rattle.pt_meaning.specs.Streams.{Streams}
use Rattle.pt_meaning.specs.Machine.{Counts, Partial}
use Rattle.pt_meaning.specs.Valuation.{TickPlan}
use Rattle.pt_value.specs.declared.token.Token.{Token}
use Rattle.pt_de_laws.specs.State.{Waits, Over, Stage, Idle, Open, Listens, Asked, Between, Closed, DeState, IsOver, MayFire, MayAnswer, in_stage, started, restarted, begun, asked, asked_on, after_told, after_heard, after_fired, closed, rows_for, inputs_of, partial_of, own_of, wake_of, asked_child, listened_child, asked_row}
use Rattle.pt_de_laws.specs.Chain.{AsksFor}
use Rattle.pt_de_laws.specs.DeActs.{partial_if}
use Rattle.pt_de_parts.specs.Rows.{Rowing}
use Rattle.pt_de_parts.specs.Net.{Planned}
use Rattle.pt_de_reaction.specs.Signals.{HasRoom}
use Rattle.pt_de.specs.declared.de.Stage as declared
use Rattle.pt_de.specs.declared.de.Stage.TheVariants as code
use Rattle.pt_de.specs.declared.de.DeCore.TheInside.{Inside}
use Rattle.pt_de.specs.Seen.{stage_of, stage_left, seen_core, StageFits, IsListening, HasTurn, IsSound, IsCore}
use Rattle.pt_de.proofs.StageLaws.{idle-fits, open-fits, closed-fits, asked-fits, listened-fits, row-lent, more-after, none-after, due-waits, fire-there}

-- a core of a plan
pub new-keeps : (net : Planned) (s : DeState Token) (r : Rowing Token) (width inputs need : ℕ) → s ≡ started net.plan net.roles → ((i : ℕ) → get_or net.plan.net.places i 0 ≤ width) → r.width ≡ width → inputs ≡ net.plan.inputs → need ≡ inputs → IsSound code.Idle s r need
new-keeps net s r width inputs need e w q n m = record {
  fits = ap (λ (x : DeState Token). x.stage) e;
  room = λ i. subst (λ (x : DeState Token). get_or x.plan.net.places i 0 ≤ r.width) (sym e) (subst (λ k. get_or net.plan.net.places i 0 ≤ k) (sym q) (w i));
  needs = m ∙ n ∙ sym (ap (λ (x : DeState Token). x.plan.inputs) e);
}

pub new-is : (net planned : Planned) (s : DeState Token) → net ≡ planned → s ≡ started net.plan net.roles → in_stage Idle s ≡ started planned.plan planned.roles
new-is net planned s n e = ap (λ (x : DeState Token). in_stage Idle x) e ∙ ap (λ (p : Planned). started p.plan p.roles) n

module _ (c : Inside) (a : IsCore c) (now : DeState Token) (v : seen_core c ≡ now) where
  abbrev s : DeState Token
  s = c.reaction.state

  stage-is : stage_of c.stage c.rows ≡ now.stage
  stage-is = ap (λ (x : DeState Token). x.stage) v

  tag-is : (tag : Tag) → tag ≡ s.tag → tag ≡ now.tag
  tag-is tag q = q ∙ ap (λ (x : DeState Token). x.tag) v

  -- what the stage tells of the reaction
  pub idle-now : now.stage ≡ Idle → s.stage ≡ Idle
  idle-now e = idle-fits c.stage s c.rows a.fits (stage-is ∙ e)

  pub open-now : now.stage ≡ Open → s.stage ≡ Open
  open-now e = open-fits c.stage s c.rows a.fits (stage-is ∙ e)

  pub closed-now : now.stage ≡ Closed → (s.stage ≡ Open) × IsOver s
  closed-now e = closed-fits c.stage s c.rows a.fits (stage-is ∙ e)

  pub turn-now : (i : ℕ) → asked_child now.stage ≡ Some i → HasTurn s i
  turn-now i e = asked-fits c.stage s c.rows i a.fits (ap (λ g. asked_child g) stage-is ∙ e)

  pub listening-now : (i : ℕ) → listened_child now.stage ≡ Some i → IsListening s i
  listening-now i e = listened-fits c.stage s c.rows i a.fits (ap (λ g. listened_child g) stage-is ∙ e)

  -- a child that was asked is there, and its room is that of the reaction
  pub asked-there : (i : ℕ) → (asked_child now.stage ≡ Some i) ⊎ (listened_child now.stage ≡ Some i) → i < length s.plan.net.places
  asked-there i (inl e) = let f = turn-now i e in f.there
  asked-there i (inr e) = let f = listening-now i e in f.there

  pub room-now : (i : ℕ) → HasRoom now i → HasRoom s i
  room-now i h = subst (λ (x : DeState Token). HasRoom x i) (sym v) h

  pub room-seen : {B : Type 0} (i : ℕ) → B ↔ HasRoom s i → B ↔ HasRoom now i
  room-seen {B} i h = subst (λ (x : DeState Token). B ↔ HasRoom x i) v h

  -- where what comes next is open the reaction is all that is seen
  open-is : now.stage ≡ Open → s ≡ now
  open-is o = ap (λ g. in_stage g s) (open-now o ∙ sym (stage-is ∙ o)) ∙ v

  -- the plan stays, and so does the room
  keeps : (g : declared.Stage) (t : DeState Token) (r : Rowing Token) → StageFits g t r → t.plan ≡ s.plan → r.width ≡ c.rows.width → IsSound g t r c.need
  keeps g t r f p w = record {
    fits = f;
    room = λ i. subst (λ (x : TickPlan). get_or x.net.places i 0 ≤ r.width) (sym p) (subst (λ n. get_or s.plan.net.places i 0 ≤ n) (sym w) (a.room i));
    needs = a.needs ∙ sym (ap (λ (x : TickPlan). x.inputs) p);
  }

  -- a call that found no memory
  pub still-keeps : (t : DeState Token) → t ≡ s → IsSound c.stage t c.rows c.need
  still-keeps t e = subst (λ (x : DeState Token). IsSound c.stage x c.rows c.need) (sym e) a

  pub still-is : (t : DeState Token) → t ≡ s → in_stage (stage_of c.stage c.rows) t ≡ now
  still-is t e = ap (λ (x : DeState Token). in_stage (stage_of c.stage c.rows) x) e ∙ v

  -- what it needs
  pub needs-one : (ns : List ℕ) → ns ≡ replicate c.need 1 → Counts ns ≡ Counts (replicate now.plan.inputs 1)
  needs-one ns e = ap (λ xs. Counts xs) (e ∙ ap (λ n. replicate n 1) (a.needs ∙ ap (λ (x : DeState Token). x.plan.inputs) v))

  -- a reaction begins
  pub begin-keeps : (tag : Tag) (inputs : Streams Token) (t : DeState Token) → t ≡ begun tag inputs s → IsSound code.Open t c.rows c.need
  begin-keeps tag inputs t e = keeps code.Open t c.rows (ap (λ (x : DeState Token). x.stage) e) (ap (λ (x : DeState Token). x.plan) e) refl

  pub begin-is : (tag : Tag) (inputs : Streams Token) (t : DeState Token) → t ≡ begun tag inputs s → in_stage Open t ≡ begun tag inputs now
  begin-is tag inputs t e = ap (λ (x : DeState Token). in_stage Open x) e ∙ ap (λ (x : DeState Token). begun tag inputs x) v

  -- a child that has rows left is asked to fire on the next
  between : (i : ℕ) → c.stage ≡ code.Between i → HasTurn s i × (0 < length c.rows.rest)
  between i e = subst (λ (g : declared.Stage). StageFits g s c.rows) e a.fits

  pub row-more : (i : ℕ) → c.stage ≡ code.Between i → 0 < length c.rows.rest
  row-more i e = (between i e).1

  pub row-keeps : (i : ℕ) (r : Rowing Token) → c.stage ≡ code.Between i → r.width ≡ c.rows.width → IsSound (code.Asked i) s r c.need
  row-keeps i r e w = keeps (code.Asked i) s r (between i e).0 refl w

  pub row-gives : (i : ℕ) (tag : Tag) → c.stage ≡ code.Between i → tag ≡ s.tag → AsksFor now now.stage i × (tag ≡ now.tag)
  row-gives i tag e q = (subst (λ g. AsksFor now g i) (ap (λ (g : declared.Stage). stage_of g c.rows) (sym e) ∙ stage-is) refl, tag-is tag q)

  pub row-is : (i : ℕ) (r : Rowing Token) → c.stage ≡ code.Between i → r.row ∷ r.rest ≡ c.rows.rest → in_stage (Asked i (r.row ∷ r.rest)) s ≡ asked_on now.stage i now
  row-is i r e h =
      ap (λ Xs. in_stage (Asked i Xs) s) h ∙ ap (λ (g : declared.Stage). asked_on (stage_of g c.rows) i (in_stage (stage_of g c.rows) s)) (sym e) ∙ ap (λ (x : DeState Token). asked_on x.stage i x) v

  -- a child is asked for its turn
  pub take-keeps : (i : ℕ) (t : DeState Token) (r : Rowing Token) → MayFire s i → t ≡ in_stage Open (asked i s) → get_or t.turns i Waits ≡ Over → r.width ≡ c.rows.width → IsSound (code.Asked i) t r c.need
  take-keeps i t r m e o w =
      keeps (code.Asked i) t r (record { running = ap (λ (x : DeState Token). x.stage) e; there = subst (λ (x : DeState Token). i < length x.plan.net.places) (sym e) (fire-there s i m); over = o }) (ap (λ (x : DeState Token). x.plan) e) w

  pub take-gives : (i : ℕ) (tag : Tag) → now.stage ≡ Open → MayFire s i → tag ≡ s.tag → AsksFor now now.stage i × (tag ≡ now.tag)
  take-gives i tag o m q = (subst (λ g. AsksFor now g i) (sym o) (subst (λ (x : DeState Token). MayFire x i) (open-is o) m), tag-is tag q)

  pub take-is : (i : ℕ) (t : DeState Token) (r : Rowing Token) → now.stage ≡ Open → t ≡ in_stage Open (asked i s) → r.row ∷ r.rest ≡ rows_for (get_or s.roles.whole i false) (inputs_of s i) → in_stage (Asked i (r.row ∷ r.rest)) t ≡ asked_on now.stage i now
  take-is i t r o e h =
      ap (λ (x : DeState Token). in_stage (Asked i (r.row ∷ r.rest)) x) e ∙ ap (λ Xs. in_stage (Asked i Xs) (asked i s)) h ∙ ap (λ (x : DeState Token). asked i x) (open-is o) ∙ ap (λ g. asked_on g i now) (sym o)

  -- a child is asked for an early answer
  pub listen-keeps : (i : ℕ) → now.stage ≡ Open → MayAnswer s i → IsSound (code.Listens i) s c.rows c.need
  listen-keeps i o m = let f = m.0 in keeps (code.Listens i) s c.rows (record { running = open-now o; there = f.there; waits = due-waits (get_or s.turns i Over) _ f.due }) refl refl

  pub listen-gives : (i : ℕ) (tag : Tag) → now.stage ≡ Open → MayAnswer s i → tag ≡ s.tag → (now.stage ≡ Open) × MayAnswer now i × (tag ≡ now.tag)
  listen-gives i tag o m q = (o, subst (λ (x : DeState Token). MayAnswer x i) (open-is o) m, tag-is tag q)

  pub listen-is : (i : ℕ) → in_stage (Listens i) s ≡ in_stage (Listens i) now
  listen-is i = ap (λ (x : DeState Token). in_stage (Listens i) x) v

  -- no turn is left
  pub over-keeps : now.stage ≡ Open → IsOver s → IsSound code.Closed s c.rows c.need
  over-keeps o m = keeps code.Closed s c.rows (open-now o, m) refl refl

  pub over-gives : now.stage ≡ Open → IsOver s → (now.stage ≡ Open) × IsOver now
  over-gives o m = (o, subst (λ (x : DeState Token). IsOver x) (open-is o) m)

  pub over-is : in_stage Closed s ≡ in_stage Closed now
  over-is = ap (λ (x : DeState Token). in_stage Closed x) v

  -- what a child is lent
  pub lent-is : (X : Streams Token) → IsSome (asked_child now.stage) → X ≡ c.rows.row → X ≡ asked_row now.stage
  lent-is X h e = e ∙ row-lent c.stage c.rows (subst (λ g. IsSome (asked_child g)) (sym stage-is) h) ∙ ap (λ g. asked_row g) stage-is

  -- a child was asked for its turn and has fired on a row
  told-turn : (i : ℕ) (out : Streams Token) (wake : Option Tag) (t : DeState Token) → asked_child now.stage ≡ Some i → t ≡ after_told i out wake s → HasTurn t i
  told-turn i out wake t h e =
      let f = turn-now i h in
      subst (λ (x : DeState Token). HasTurn x i) (sym e) (record { running = ap (λ g. after_fired g) f.running; there = f.there; over = f.over })

  told-more-keeps : (i : ℕ) (out : Streams Token) (wake : Option Tag) (t : DeState Token) → asked_child now.stage ≡ Some i → t ≡ after_told i out wake s → 0 < length c.rows.rest → IsSound (code.Between i) t c.rows c.need
  told-more-keeps i out wake t h e m = keeps (code.Between i) t c.rows (told-turn i out wake t h e, m) (ap (λ (x : DeState Token). x.plan) e) refl

  told-last-keeps : (i : ℕ) (out : Streams Token) (wake : Option Tag) (t : DeState Token) → asked_child now.stage ≡ Some i → t ≡ after_told i out wake s → IsSound code.Open t c.rows c.need
  told-last-keeps i out wake t h e = let f = told-turn i out wake t h e in keeps code.Open t c.rows f.running (ap (λ (x : DeState Token). x.plan) e) refl

  told-is : (i : ℕ) (out : Streams Token) (wake : Option Tag) (t : DeState Token) (g : Stage Token) → t ≡ after_told i out wake s → g ≡ after_fired (stage_of c.stage c.rows) → in_stage g t ≡ after_told i out wake now
  told-is i out wake t g e q =
      ap (λ (x : DeState Token). in_stage g x) e ∙ ap (λ k. in_stage k (after_told i out wake s)) q ∙ ap (λ (x : DeState Token). after_told i out wake x) v

  told-more-is : (i : ℕ) (out : Streams Token) (wake : Option Tag) (t : DeState Token) → asked_child now.stage ≡ Some i → t ≡ after_told i out wake s → 0 < length c.rows.rest → in_stage (Between i c.rows.rest) t ≡ after_told i out wake now
  told-more-is i out wake t h e m = told-is i out wake t (Between i c.rows.rest) e (more-after c.stage c.rows i (ap (λ g. asked_child g) stage-is ∙ h) m)

  told-last-is : (i : ℕ) (out : Streams Token) (wake : Option Tag) (t : DeState Token) → asked_child now.stage ≡ Some i → t ≡ after_told i out wake s → ¬ (0 < length c.rows.rest) → in_stage Open t ≡ after_told i out wake now
  told-last-is i out wake t h e m = told-is i out wake t Open e (none-after c.stage c.rows i (ap (λ g. asked_child g) stage-is ∙ h) m)

  -- whether or not rows are left
  pub told-keeps : (i : ℕ) (out : Streams Token) (wake : Option Tag) (t : DeState Token) (g : declared.Stage) → asked_child now.stage ≡ Some i → t ≡ after_told i out wake s → g ≡ stage_left i c.rows.rest → IsSound g t c.rows c.need
  told-keeps i out wake t g h e q = subst (λ (x : declared.Stage). IsSound x t c.rows c.need) (sym q) (by c.rows.rest refl)
    where
      by : (Xs : List (Streams Token)) → c.rows.rest ≡ Xs → IsSound (stage_left i Xs) t c.rows c.need
      by [] r = told-last-keeps i out wake t h e
      by (X ∷ Xs) r = told-more-keeps i out wake t h e (subst (λ (Ys : List (Streams Token)). 0 < length Ys) (sym r) (omega arith))

  pub told-now : (i : ℕ) (out : Streams Token) (wake : Option Tag) (t : DeState Token) (g : declared.Stage) → asked_child now.stage ≡ Some i → t ≡ after_told i out wake s → g ≡ stage_left i c.rows.rest → in_stage (stage_of g c.rows) t ≡ after_told i out wake now
  told-now i out wake t g h e q = ap (λ (x : declared.Stage). in_stage (stage_of x c.rows) t) q ∙ by c.rows.rest refl
    where
      by : (Xs : List (Streams Token)) → c.rows.rest ≡ Xs → in_stage (stage_of (stage_left i Xs) c.rows) t ≡ after_told i out wake now
      by [] r = told-last-is i out wake t h e (λ m. absurd (omega (arith, subst (λ (Ys : List (Streams Token)). 0 < length Ys) r m)))
      by (X ∷ Xs) r = told-more-is i out wake t h e (subst (λ (Ys : List (Streams Token)). 0 < length Ys) (sym r) (omega arith))

  -- a child has answered early
  pub heard-keeps : (i : ℕ) (early : List (Partial Token)) (t : DeState Token) → t ≡ after_heard i early s → IsSound code.Open t c.rows c.need
  heard-keeps i early t e = keeps code.Open t c.rows (ap (λ (x : DeState Token). x.stage) e) (ap (λ (x : DeState Token). x.plan) e) refl

  pub heard-is : (i : ℕ) (early : List (Partial Token)) (t : DeState Token) → t ≡ after_heard i early s → in_stage Open t ≡ after_heard i early now
  heard-is i early t e = ap (λ (x : DeState Token). in_stage Open x) e ∙ ap (λ (x : DeState Token). after_heard i early x) v

  -- what is known of the inputs of a child that was asked
  pub partial-is : {E : Type 0} (result : Result (List (Partial Token)) E) (i : ℕ) → c.stage ≡ code.Listens i → IfOk result (λ p. p ≡ partial_of s i) → IfOk result (λ p. p ≡ partial_if now (listened_child now.stage))
  partial-is result i e h =
      subst (λ (x : DeState Token). IfOk result (λ p. p ≡ partial_if x (listened_child x.stage))) v
      (subst (λ (g : declared.Stage). IfOk result (λ p. p ≡ partial_if (in_stage (stage_of g c.rows) s) (listened_child (stage_of g c.rows)))) (sym e) h)

  -- the own outputs are handed out
  pub end-keeps : (t : DeState Token) → t ≡ closed s → IsSound code.Idle t c.rows c.need
  end-keeps t e = keeps code.Idle t c.rows (ap (λ (x : DeState Token). x.stage) e) (ap (λ (x : DeState Token). x.plan) e) refl

  pub end-is : (t : DeState Token) → t ≡ closed s → in_stage Idle t ≡ closed now
  end-is t e = ap (λ (x : DeState Token). in_stage Idle x) e ∙ ap (λ (x : DeState Token). closed x) v

  pub own-is : (X : Streams Token) → X ≡ own_of s → X ≡ own_of now
  own-is X e = e ∙ ap (λ (x : DeState Token). own_of x) v

  pub wake-is : (wake : Option Tag) → wake ≡ least s.wakes → wake ≡ wake_of now
  wake-is wake e = e ∙ ap (λ (x : DeState Token). least x.wakes) v

  -- the start is brought back
  pub reset-keeps : (t : DeState Token) → t ≡ restarted s → IsSound code.Idle t c.rows c.need
  reset-keeps t e = keeps code.Idle t c.rows (ap (λ (x : DeState Token). x.stage) e) (ap (λ (x : DeState Token). x.plan) e) refl

  pub reset-is : (t : DeState Token) → t ≡ restarted s → in_stage Idle t ≡ restarted now
  reset-is t e = ap (λ (x : DeState Token). in_stage Idle x) e ∙ ap (λ (x : DeState Token). restarted x) v

  -- a copy of each part
  pub copy-keeps : (t : DeState Token) (r : Rowing Token) (n : ℕ) → t ≡ s → r ≡ c.rows → n ≡ c.need → IsSound c.stage t r n
  copy-keeps t r n e h k =
      subst (λ (x : DeState Token). IsSound c.stage x r n) (sym e) (subst (λ (x : Rowing Token). IsSound c.stage s x n) (sym h) (subst (λ m. IsSound c.stage s c.rows m) (sym k) a))

  pub copy-is : (t : DeState Token) (r : Rowing Token) → t ≡ s → r ≡ c.rows → in_stage (stage_of c.stage r) t ≡ now
  copy-is t r e h = ap (λ (x : DeState Token). in_stage (stage_of c.stage r) x) e ∙ ap (λ (x : Rowing Token). in_stage (stage_of c.stage x) s) h ∙ v
