-- The states of a reaction, as its parts make them.
use Rattle.std.proofs.Common.{◌≡◌, ℕ, zero, suc, ◌<◌, List, [], ◌∷◌, ◌++◌, Bool, true, false, ◌&&◌, not, length, get_or, set, map, take, replicate, Option, refl, sym, ap, ap₂, subst, ◌∙◌, arith, true≢false, length-set}
use Rattle.std.proofs.lemmas.List.{get_or-replicate, length-replicate}
use Rattle.pt_meaning.specs.Tag.{Tag, origin}
use Rattle.pt_meaning.specs.Streams.{Streams, at}
use Rattle.pt_meaning.specs.Net.{Source}
use Rattle.pt_meaning.specs.Running.{total}
use Rattle.pt_value.specs.declared.token.Token.{Token}
use Rattle.pt_wakes.specs.Due.{DueSet, with_due, NoneDue}
use Rattle.pt_wakes.specs.Moved.{with_woken}
use Rattle.pt_de_laws.specs.State.{Turn, Waits, Answered, Over, Stage, Idle, Open, Listens, Asked, Between, Closed, DeState, IsOver, is_some_token, at_rest, asked, emptied_from}
use Rattle.pt_de_laws.specs.Lawful.{IsLawful}
use Rattle.pt_de_due.specs.Due.{IsShaped, AreDue, AreLast, none_due, opened, put, is_waiting, due_if}
use Rattle.pt_de_due.proofs.PutLaws.{due-put, last-put, shaped-with}
use Rattle.pt_de_due.proofs.TurnLaws.{shaped-turn, shaped-wake, shaped-asked, due-turned, last-answered, due-asked, last-asked, due-wake, shaped-opened, due-opened, last-opened}
use Rattle.pt_de_due.proofs.CallLaws.{shaped-rest}
use Rattle.pt_de_due.proofs.FirstLaws.{none-left, none-last-left}
use Rattle.pt_de_parts.specs.Agenda.{Dates}
use Rattle.pt_de_parts.specs.Net.{Planned, reader_in}
use Rattle.pt_de_parts.specs.Telling.{told_due, told_last}
use Rattle.pt_de_reaction.specs.Reaction.{stage_if, state_of, DueFits, LastFits, IsSound}

abbrev is-idle : Stage Token → Bool
is-idle Idle = true
is-idle Open = false
is-idle (Listens child) = false
is-idle (Asked child rows) = false
is-idle (Between child rows) = false
is-idle Closed = false

pub idle-rests : (b : Bool) → stage_if b ≡ Idle → b ≡ false
idle-rests true e = absurd (true≢false (sym (ap (λ s. is-idle s) e)))
idle-rests false e = refl

pub open-runs : (b : Bool) → stage_if b ≡ Open → b ≡ true
open-runs true e = refl
open-runs false e = absurd (true≢false (ap (λ s. is-idle s) e))

pub runs-open : (b : Bool) → b ≡ true → stage_if b ≡ Open
runs-open b e = ap (λ x. stage_if x) e

-- as many, all the same
pub all-wait : (ns : List ℕ) → replicate (length ns) Waits ≡ map (λ n. Waits) ns
all-wait [] = refl
all-wait (n ∷ ns) = ap (λ v. Waits ∷ v) (all-wait ns)

pub none-there : (cs : List Source) → replicate (length cs) [] ≡ map (λ (c : Source). let none : List Token = [] in none) cs
none-there [] = refl
none-there (c ∷ cs) = ap (λ v. [] ∷ v) (none-there cs)

-- no child is in a set that is told to have none
pub none-in : (s : DeState Token) (d : DueSet) → d ≡ none_due s → NoneDue d
none-in s d e j h = ap (λ (x : DueSet). get_or x.due j false) e ∙ get_or-replicate (length s.plan.net.places) j false false (let n = ap (λ (x : DueSet). length x.due) e in let m = length-replicate (length s.plan.net.places) false in omega (arith, h, n, m))

module _ (net : Planned) (wakes : List (Option Tag)) (tokens : Streams Token) (turns : List Turn) (tag : Tag) where
  -- nothing is under way
  pub rest-is : tokens ≡ replicate (length net.plan.net.sources) [] → turns ≡ replicate (length net.plan.net.places) Waits → tag ≡ origin → state_of net wakes tokens turns tag false ≡ at_rest net.plan net.roles wakes
  rest-is x t o =
      ap (λ (X : Streams Token). state_of net wakes X turns tag false) (x ∙ none-there net.plan.net.sources) ∙ ap (λ ts. state_of net wakes (map (λ c. []) net.plan.net.sources) ts tag false) (t ∙ all-wait net.plan.net.places) ∙
      ap (λ g. state_of net wakes (map (λ c. []) net.plan.net.sources) (map (λ n. Waits) net.plan.net.places) g false) o

  pub rest-sound : (due last : DueSet) → IsLawful net.plan net.roles → length wakes ≡ length net.plan.net.places → tokens ≡ replicate (length net.plan.net.sources) [] → turns ≡ replicate (length net.plan.net.places) Waits → tag ≡ origin →
      due ≡ record { depths = net.roles.depths; due = replicate (length net.plan.net.places) false } → last ≡ record { depths = net.roles.depths; due = replicate (length net.plan.net.places) false } → IsSound (state_of net wakes tokens turns tag false) false due last
  rest-sound due last w l x t o d e = record {
    lawful = w;
    shaped = subst (λ (s : DeState Token). IsShaped s) (sym (rest-is x t o)) (shaped-rest net.plan net.roles wakes w l);
    dues = d;
    lasts = e;
    rests = λ b. rest-is x t o;
  }

  module _ (b : Bool) (due last : DueSet) (a : IsSound (state_of net wakes tokens turns tag b) b due last) where
    -- a reaction begins
    pub open-is : b ≡ false → (g : Tag) → state_of net wakes tokens turns g true ≡ opened g (state_of net wakes tokens turns tag b)
    open-is e g =
        let r = a.rests e in
        ap (λ (X : Streams Token). state_of net wakes X turns g true) (ap (λ (s : DeState Token). s.tokens) r) ∙ ap (λ ts. state_of net wakes (map (λ c. []) net.plan.net.sources) ts g true) (ap (λ (s : DeState Token). s.turns) r)

    pub none-due-now : b ≡ false → due ≡ none_due (state_of net wakes tokens turns tag b)
    none-due-now e = subst (λ x. DueFits x (state_of net wakes tokens turns tag b) due) e a.dues

    pub none-last-now : b ≡ false → last ≡ none_due (state_of net wakes tokens turns tag b)
    none-last-now e = subst (λ x. LastFits x (state_of net wakes tokens turns tag b) last) e a.lasts

    pub are-due : b ≡ true → AreDue (state_of net wakes tokens turns tag b) due
    are-due e = subst (λ x. DueFits x (state_of net wakes tokens turns tag b) due) e a.dues

    pub are-last : b ≡ true → AreLast (state_of net wakes tokens turns tag b) last
    are-last e = subst (λ x. LastFits x (state_of net wakes tokens turns tag b) last) e a.lasts

    pub open-sound : b ≡ false → (g : Tag) (d : Dates) → d ≡ record { wakes = wakes; set = with_woken g wakes due } → IsSound (state_of net d.wakes tokens turns g true) true d.set last
    open-sound e g d f = subst (λ (x : Dates). IsSound (state_of net x.wakes tokens turns g true) true x.set last) (sym f) (record {
      lawful = a.lawful;
      shaped = subst (λ (s : DeState Token). IsShaped s) (sym (open-is e g)) (shaped-opened (state_of net wakes tokens turns tag b) a.shaped g);
      dues = subst (λ (s : DeState Token). AreDue s (with_woken g wakes due)) (sym (open-is e g)) (subst (λ x. AreDue (opened g (state_of net wakes tokens turns tag b)) (with_woken g wakes x)) (sym (none-due-now e)) (due-opened (state_of net wakes tokens turns tag b) a.shaped g));
      lasts = subst (λ (s : DeState Token). AreLast s last) (sym (open-is e g)) (subst (λ x. AreLast (opened g (state_of net wakes tokens turns tag b)) x) (sym (none-last-now e)) (last-opened (state_of net wakes tokens turns tag b) a.shaped g));
      rests = λ z. absurd (true≢false z);
    })

    -- the same, but for the room
    pub same-sound : (X : Streams Token) → X ≡ tokens → IsSound (state_of net wakes X turns tag b) b due last
    same-sound X e = subst (λ (Y : Streams Token). IsSound (state_of net wakes Y turns tag b) b due last) (sym e) a

    fits-due : (s' : DeState Token) (d : DueSet) → b ≡ true → AreDue s' d → DueFits b s' d
    fits-due s' d e h = subst (λ x. DueFits x s' d) (sym e) h

    fits-last : (s' : DeState Token) (d : DueSet) → b ≡ true → AreLast s' d → LastFits b s' d
    fits-last s' d e h = subst (λ x. LastFits x s' d) (sym e) h

    runs-not : (s' : DeState Token) → b ≡ true → b ≡ false → s' ≡ at_rest s'.plan s'.roles s'.wakes
    runs-not s' e z = absurd (true≢false (sym e ∙ z))

    -- a channel has some tokens more
    pub put-sound : b ≡ true → (c : ℕ) (ts : List Token) → is_some_token ts ≡ true → (X : Streams Token) (d : Dates) (l : DueSet) → X ≡ put c ts tokens →
        d ≡ record { wakes = wakes; set = told_due net turns c due } → l ≡ told_last net turns c last → IsSound (state_of net d.wakes X turns tag b) b d.set l
    put-sound e c ts h X d l x f g =
        subst (λ (Y : Streams Token). IsSound (state_of net d.wakes Y turns tag b) b d.set l) (sym x) (
        subst (λ (y : Dates). IsSound (state_of net y.wakes (put c ts tokens) turns tag b) b y.set l) (sym f) (subst (λ m. IsSound (state_of net wakes (put c ts tokens) turns tag b) b (told_due net turns c due) m) (sym g) (record {
          lawful = a.lawful;
          shaped = shaped-with (state_of net wakes tokens turns tag b) (put c ts tokens) a.shaped (length-set tokens c (at tokens c ++ ts));
          dues = fits-due (state_of net wakes (put c ts tokens) turns tag b) (told_due net turns c due) e
              (subst (λ x. AreDue (state_of net wakes (put c ts tokens) turns tag b) (due_if (is_waiting (get_or turns (reader_in net c) Over) && x) (reader_in net c) due)) (and-some (not (get_or net.roles.delayed c false)) h)
              (due-put (state_of net wakes tokens turns tag b) a.shaped c ts due (are-due e)));
          lasts = fits-last (state_of net wakes (put c ts tokens) turns tag b) (told_last net turns c last) e
              (subst (λ x. AreLast (state_of net wakes (put c ts tokens) turns tag b) (due_if (is_waiting (get_or turns (reader_in net c) Over) && x) (reader_in net c) last)) (and-some (get_or net.roles.delayed c false) h)
              (last-put (state_of net wakes tokens turns tag b) a.shaped c ts last (are-last e)));
          rests = runs-not (state_of net wakes (put c ts tokens) turns tag b) e;
        }))
        )
      where
        and-some : (x : Bool) → is_some_token ts ≡ true → (x && is_some_token ts) ≡ x
        and-some true h = h
        and-some false h = refl

    -- a child is asked for its turn
    pub ask-sound : b ≡ true → (i : ℕ) → i < length net.plan.net.places → (first places : ℕ) → first ≡ total (take i net.plan.net.places) → places ≡ get_or net.plan.net.places i 0 → (X : Streams Token) (ts : List Turn) (d : Dates) (l : DueSet) → X ≡ emptied_from first places tokens → ts ≡ set turns i Over →
        d ≡ record { wakes = wakes; set = with_due due i false } → l ≡ with_due last i false → IsSound (state_of net d.wakes X ts tag b) b d.set l
    ask-sound e i h first places p q X ts d l x t f g =
        subst (λ (Y : Streams Token). IsSound (state_of net d.wakes Y ts tag b) b d.set l) (sym (emptied-at first places p q X x)) (
        subst (λ us. IsSound (state_of net d.wakes (emptied_from (total (take i net.plan.net.places)) (get_or net.plan.net.places i 0) tokens) us tag b) b d.set l) (sym t) (subst (λ (y : Dates). IsSound (state_of net y.wakes (emptied_from (total (take i net.plan.net.places)) (get_or net.plan.net.places i 0) tokens) (set turns i Over) tag b) b y.set l) (sym f) (
        subst (λ m. IsSound (state_of net wakes (emptied_from (total (take i net.plan.net.places)) (get_or net.plan.net.places i 0) tokens) (set turns i Over) tag b) b (with_due due i false) m) (sym g) (record {
          lawful = a.lawful;
          shaped = shape-of (shaped-asked (state_of net wakes tokens turns tag b) a.shaped i);
          dues = fits-due (state_of net wakes (emptied_from (total (take i net.plan.net.places)) (get_or net.plan.net.places i 0) tokens) (set turns i Over) tag b) (with_due due i false) e (due-asked (state_of net wakes tokens turns tag b) a.shaped i due (are-due e));
          lasts = fits-last (state_of net wakes (emptied_from (total (take i net.plan.net.places)) (get_or net.plan.net.places i 0) tokens) (set turns i Over) tag b) (with_due last i false) e (last-asked (state_of net wakes tokens turns tag b) a.shaped i last (are-last e));
          rests = runs-not (state_of net wakes (emptied_from (total (take i net.plan.net.places)) (get_or net.plan.net.places i 0) tokens) (set turns i Over) tag b) e;
        })
        ))
        )
      where
        shape-of : IsShaped (asked i (state_of net wakes tokens turns tag b)) → IsShaped (state_of net wakes (emptied_from (total (take i net.plan.net.places)) (get_or net.plan.net.places i 0) tokens) (set turns i Over) tag b)
        shape-of w = record { depths = w.depths; turns = w.turns; wakes = w.wakes; tokens = w.tokens; delayed = w.delayed; channels = w.channels }

        emptied-at : (first places : ℕ) → first ≡ total (take i net.plan.net.places) → places ≡ get_or net.plan.net.places i 0 → (X : Streams Token) → X ≡ emptied_from first places tokens → X ≡ emptied_from (total (take i net.plan.net.places)) (get_or net.plan.net.places i 0) tokens
        emptied-at first places p q X x = x ∙ ap₂ (λ o n. emptied_from o n tokens) p q

    -- a child has answered early
    pub answer-sound : b ≡ true → (i : ℕ) → (ts : List Turn) (d : Dates) (l : DueSet) → ts ≡ set turns i Answered → d ≡ record { wakes = wakes; set = with_due due i false } → l ≡ with_due last i true → IsSound (state_of net d.wakes tokens ts tag b) b d.set l
    answer-sound e i ts d l t f g =
        subst (λ us. IsSound (state_of net d.wakes tokens us tag b) b d.set l) (sym t) (subst (λ (y : Dates). IsSound (state_of net y.wakes tokens (set turns i Answered) tag b) b y.set l) (sym f) (
        subst (λ m. IsSound (state_of net wakes tokens (set turns i Answered) tag b) b (with_due due i false) m) (sym g) (record {
          lawful = a.lawful;
          shaped = shaped-turn (state_of net wakes tokens turns tag b) a.shaped i Answered;
          dues = fits-due (state_of net wakes tokens (set turns i Answered) tag b) (with_due due i false) e (due-turned (state_of net wakes tokens turns tag b) a.shaped i Answered (λ z. absurd (true≢false (ap (λ t. not (is_waiting t)) z))) due (are-due e));
          lasts = fits-last (state_of net wakes tokens (set turns i Answered) tag b) (with_due last i true) e (last-answered (state_of net wakes tokens turns tag b) a.shaped i last (are-last e));
          rests = runs-not (state_of net wakes tokens (set turns i Answered) tag b) e;
        })
        ))

    -- a child that had its turn has another wake
    pub wake-sound : b ≡ true → (i : ℕ) (w : Option Tag) → (get_or turns i Waits ≡ Over) → (d : Dates) → d ≡ record { wakes = set wakes i w; set = due } → IsSound (state_of net d.wakes tokens turns tag b) b d.set last
    wake-sound e i w o d f = subst (λ (y : Dates). IsSound (state_of net y.wakes tokens turns tag b) b y.set last) (sym f) (record {
      lawful = a.lawful;
      shaped = shaped-wake (state_of net wakes tokens turns tag b) a.shaped i w;
      dues = fits-due (state_of net (set wakes i w) tokens turns tag b) due e (due-wake (state_of net wakes tokens turns tag b) a.shaped i w (had-turn turns i o) due (are-due e));
      lasts = fits-last (state_of net (set wakes i w) tokens turns tag b) last e (last-still (are-last e));
      rests = runs-not (state_of net (set wakes i w) tokens turns tag b) e;
    })
      where
        had-turn : (ts : List Turn) (i : ℕ) → get_or ts i Waits ≡ Over → get_or ts i Over ≡ Waits → ⊥
        had-turn [] i e z = absurd (true≢false (ap (λ t. is_waiting t) e))
        had-turn (t ∷ ts) zero e z = absurd (true≢false (ap (λ t. is_waiting t) (sym z ∙ e)))
        had-turn (t ∷ ts) (suc i) e z = had-turn ts i e z

        last-still : AreLast (state_of net wakes tokens turns tag b) last → AreLast (state_of net (set wakes i w) tokens turns tag b) last
        last-still h = record { depths = h.depths; long = h.long; each = h.each }

    -- each child has had its turn
    pub over-none : b ≡ true → IsOver (state_of net wakes tokens turns tag b) → (due ≡ none_due (state_of net wakes tokens turns tag b)) × (last ≡ none_due (state_of net wakes tokens turns tag b))
    over-none e o = (
      none-left (state_of net wakes tokens turns tag b) due (are-due e) no-due,
      none-last-left (state_of net wakes tokens turns tag b) due last (are-due e) (are-last e) no-due no-last,
    )
      where
        no-due : NoneDue due
        no-due j h = let a = are-due e in let n = a.long in a.each j (omega (arith, h, n)) ∙ o.none_due j (omega (arith, h, n))

        no-last : NoneDue last
        no-last j h = let a = are-last e in let n = a.long in a.each j (omega (arith, h, n)) ∙ o.none_last j (omega (arith, h, n))
