-- The calls of a reaction, from its fields to what is seen of it.
use Rattle.std.proofs.Common.{◌≡◌, ℕ, ◌+◌, ◌-◌, ◌<◌, ◌≤◌, List, [], ◌∷◌, Bool, true, false, length, get_or, set, map, take, drop, replicate, Option, refl, sym, ap, ap₂, subst, ◌∙◌, arith, inl, inr, Result, Ok, Err, OnOk, OnErr, IfOk}
use Rattle.std.proofs.lemmas.List.{length-replicate}
use Rattle.pt_meaning.specs.Tag.{Tag, origin}
use Rattle.pt_meaning.specs.Streams.{Streams, at}
use Rattle.pt_meaning.specs.Machine.{Partial}
use Rattle.pt_meaning.specs.Running.{total}
use Rattle.pt_meaning.specs.Valuation.{TickPlan}
use Rattle.pt_value.specs.declared.token.Token.{Token}
use Rattle.pt_wakes.specs.Due.{DueSet, with_due, NoneDue}
use Rattle.pt_wakes.specs.Due as wakes
use Rattle.pt_wakes.specs.Moved.{with_woken}
use Rattle.pt_reaction.specs.Channels.{spare_at}
use Rattle.pt_reaction.specs.declared.feeds.Feed.{Feed}
use Rattle.pt_reaction.specs.Feeds.{targets, target_of, no_feed}
use Rattle.pt_reaction.specs.Given.{put_on, known_on, gifts}
use Rattle.pt_reaction.proofs.OffsetLaws.{total-within, total-more}
use Rattle.pt_de_laws.specs.State.{Turn, Waits, Answered, Over, Idle, Open, DeState, IsFirst, IsLast, IsOver, MayFire, MayAnswer, NoneIsDue, is_some_token, in_stage, at_rest, started, restarted, begun, asked, after_told, after_heard, closed, inputs_of, rows_for, emptied_from, after_fired, partial_of, beside_delays}
use Rattle.pt_de_laws.specs.Chain.{with_tokens}
use Rattle.pt_de_laws.specs.Lawful.{IsLawful}
use Rattle.pt_de_due.specs.Due.{IsShaped, with_turn, with_wake, opened, put}
use Rattle.pt_de_due.proofs.PutLaws.{put-nothing}
use Rattle.pt_de_due.proofs.CallLaws.{lawful-within, begun-is, told-is, told-early-is, heard-is}
use Rattle.pt_de_due.proofs.FirstLaws.{first-is-first, none-is-due, first-is-last, none-is-over}
use Rattle.pt_de_parts.specs.Agenda.{Dates}
use Rattle.pt_de_parts.specs.Net.{Planned}
use Rattle.pt_de_parts.specs.Telling.{told_due, told_last}
use Rattle.pt_de_reaction.specs.Reaction.{Flow, stage_if, state_of, flow_in, IsSound, IsReaction, IsStaged}
use Rattle.pt_de_reaction.specs.declared.reaction.Reaction.TheInside.{Inside}
use Rattle.pt_de_reaction.proofs.DeliverLaws.{are-staged}
use Rattle.pt_de_reaction.proofs.StateLaws.{idle-rests, open-runs, none-in, rest-is, rest-sound, open-is, none-due-now, none-last-now, are-due, are-last, open-sound, put-sound, ask-sound, answer-sound, wake-sound, over-none}

module _ (r : Inside) (a : IsReaction r) (now : Flow) (v : flow_in r ≡ now) where
  abbrev s : DeState Token
  s = state_of r.net r.agenda.wakes r.channels.lists r.turns r.tag r.under_way

  seen : state_of r.net r.agenda.wakes r.channels.lists r.turns r.tag r.under_way ≡ now.state
  seen = ap (λ (f : Flow). f.state) v

  pub is-idle : now.state.stage ≡ Idle → r.under_way ≡ false
  is-idle e = idle-rests r.under_way (ap (λ (f : Flow). f.state.stage) v ∙ e)

  pub is-open : now.state.stage ≡ Open → r.under_way ≡ true
  is-open e = open-runs r.under_way (ap (λ (f : Flow). f.state.stage) v ∙ e)

  -- a number of a child, or of a channel, is within the lists
  pub child-there : (i : ℕ) → i < length now.state.plan.net.places → i < length r.net.plan.net.places
  child-there i h = let e = ap (λ (f : Flow). length f.state.plan.net.places) v in omega (arith, h, e)

  pub row-there : (i : ℕ) → i ≤ length now.state.plan.net.places → i ≤ length r.net.plan.net.places
  row-there i h = let e = ap (λ (f : Flow). length f.state.plan.net.places) v in omega (arith, h, e)

  pub channel-there : (c : ℕ) → c < length now.state.plan.net.sources → c < length r.net.plan.net.sources
  channel-there c h = let e = ap (λ (f : Flow). length f.state.plan.net.sources) v in omega (arith, h, e)

  pub list-there : (c : ℕ) → c < length now.state.plan.net.sources → c < length r.channels.lists
  list-there c h = let e = channel-there c h in let w = a.shaped in let n = w.tokens in omega (arith, e, n)

  pub lists-long : length r.channels.lists ≡ length r.net.plan.net.sources
  lists-long = let w = a.shaped in w.tokens

  pub turns-long : length r.turns ≡ length r.net.plan.net.places
  turns-long = let w = a.shaped in w.turns

  pub wakes-long : length r.agenda.wakes ≡ length r.net.plan.net.places
  wakes-long = let w = a.shaped in w.wakes

  pub lasts-long : length r.last.due ≡ length r.net.plan.net.places
  lasts-long = by r.under_way refl
    where
      by : (b : Bool) → r.under_way ≡ b → length r.last.due ≡ length r.net.plan.net.places
      by true e = let d = are-last r.net r.agenda.wakes r.channels.lists r.turns r.tag r.under_way r.agenda.set r.last a e in d.long
      by false e = ap (λ (d : DueSet). length d.due) (none-last-now r.net r.agenda.wakes r.channels.lists r.turns r.tag r.under_way r.agenda.set r.last a e) ∙ length-replicate (length r.net.plan.net.places) false

  pub dues-long : length r.agenda.set.due ≡ length r.net.plan.net.places
  dues-long = by r.under_way refl
    where
      by : (b : Bool) → r.under_way ≡ b → length r.agenda.set.due ≡ length r.net.plan.net.places
      by true e = let d = are-due r.net r.agenda.wakes r.channels.lists r.turns r.tag r.under_way r.agenda.set r.last a e in d.long
      by false e = ap (λ (d : DueSet). length d.due) (none-due-now r.net r.agenda.wakes r.channels.lists r.turns r.tag r.under_way r.agenda.set r.last a e) ∙ length-replicate (length r.net.plan.net.places) false

  pub places-seen : (i : ℕ) → get_or now.state.plan.net.places i 0 ≡ get_or r.net.plan.net.places i 0
  places-seen i = sym (ap (λ (f : Flow). get_or f.state.plan.net.places i 0) v)

  pub early-seen : (i : ℕ) → get_or r.net.roles.early i false ≡ get_or now.state.roles.early i false
  early-seen i = ap (λ (f : Flow). get_or f.state.roles.early i false) v

  pub lawful-now : IsLawful now.state.plan now.state.roles
  lawful-now = subst (λ (f : Flow). IsLawful f.state.plan f.state.roles) v a.lawful

  pub shaped-now : IsShaped now.state
  shaped-now = subst (λ (f : Flow). IsShaped f.state) v a.shaped

  -- room was made on the channels
  pub room-keeps : (X : Streams Token) → X ≡ r.channels.lists → IsSound (state_of r.net r.agenda.wakes X r.turns r.tag r.under_way) r.under_way r.agenda.set r.last
  room-keeps X e = subst (λ (Y : Streams Token). IsSound (state_of r.net r.agenda.wakes Y r.turns r.tag r.under_way) r.under_way r.agenda.set r.last) (sym e) a

  pub room-is : (X : Streams Token) → X ≡ r.channels.lists → state_of r.net r.agenda.wakes X r.turns r.tag r.under_way ≡ now.state
  room-is X e = ap (λ (Y : Streams Token). state_of r.net r.agenda.wakes Y r.turns r.tag r.under_way) e ∙ seen

  pub stage-is : stage_if r.under_way ≡ now.state.stage
  stage-is = ap (λ (f : Flow). f.state.stage) v

  pub turn-is : (i : ℕ) (d : Turn) → get_or r.turns i d ≡ get_or now.state.turns i d
  turn-is i d = ap (λ (f : Flow). get_or f.state.turns i d) v

  -- a reaction begins
  pub start-needs : now.state.stage ≡ Idle → NoneDue r.agenda.set
  start-needs e = none-in s r.agenda.set (none-due-now r.net r.agenda.wakes r.channels.lists r.turns r.tag r.under_way r.agenda.set r.last a (is-idle e))

  pub start-sound : now.state.stage ≡ Idle → (g : Tag) (d : Dates) → d ≡ record { wakes = r.agenda.wakes; set = with_woken g r.agenda.wakes r.agenda.set } → IsSound (state_of r.net d.wakes r.channels.lists r.turns g true) true d.set r.last
  start-sound e g d f = open-sound r.net r.agenda.wakes r.channels.lists r.turns r.tag r.under_way r.agenda.set r.last a (is-idle e) g d f

  pub start-is : now.state.stage ≡ Idle → (g : Tag) (d : Dates) → d ≡ record { wakes = r.agenda.wakes; set = with_woken g r.agenda.wakes r.agenda.set } → state_of r.net d.wakes r.channels.lists r.turns g true ≡ opened g now.state
  start-is e g d f =
      ap (λ (x : Dates). state_of r.net x.wakes r.channels.lists r.turns g true) f ∙ open-is r.net r.agenda.wakes r.channels.lists r.turns r.tag r.under_way r.agenda.set r.last a (is-idle e) g ∙ ap (λ (x : DeState Token). opened g x) seen

  -- tokens are put on a channel
  pub put-keeps : now.state.stage ≡ Open → (c : ℕ) (ts : List Token) → (ts ≡ [] → ⊥) → (X : Streams Token) (d : Dates) (l : DueSet) → X ≡ put c ts r.channels.lists →
      d ≡ record { wakes = r.agenda.wakes; set = told_due r.net r.turns c r.agenda.set } → l ≡ told_last r.net r.turns c r.last → IsSound (state_of r.net d.wakes X r.turns r.tag r.under_way) r.under_way d.set l
  put-keeps e c ts n X d l x f g = put-sound r.net r.agenda.wakes r.channels.lists r.turns r.tag r.under_way r.agenda.set r.last a (is-open e) c ts (some ts n) X d l x f g
    where
      some : (ts : List Token) → (ts ≡ [] → ⊥) → is_some_token ts ≡ true
      some [] n = absurd (n refl)
      some (t ∷ ts) n = refl

  pub put-is : (c : ℕ) (ts : List Token) (X : Streams Token) (d : Dates) → X ≡ put c ts r.channels.lists → d ≡ record { wakes = r.agenda.wakes; set = told_due r.net r.turns c r.agenda.set } → state_of r.net d.wakes X r.turns r.tag r.under_way ≡ with_tokens (put c ts now.state.tokens) now.state
  put-is c ts X d x f =
      ap (λ (Y : Streams Token). state_of r.net d.wakes Y r.turns r.tag r.under_way) x ∙ ap (λ (y : Dates). state_of r.net y.wakes (put c ts r.channels.lists) r.turns r.tag r.under_way) f ∙ ap (λ (y : DeState Token). with_tokens (put c ts y.tokens) y) seen

  -- a child is asked for its turn
  pub ask-within : (i first places : ℕ) → i < length now.state.plan.net.places → first ≡ total (take i r.net.plan.net.places) → places ≡ get_or r.net.plan.net.places i 0 → first + places ≤ length r.channels.lists
  ask-within i first places h p q =
      let b = total-within r.net.plan.net.places i (child-there i h) in
      let w = a.shaped in
      let n = w.tokens in
      let m = w.channels in
      omega (arith, b, n, m, p, q)

  -- how many places are between the ends
  pub between : (i first end : ℕ) → i < length now.state.plan.net.places → first ≡ total (take i r.net.plan.net.places) → end ≡ total (take (i + 1) r.net.plan.net.places) → (first ≤ end) × (end - first ≡ get_or r.net.plan.net.places i 0)
  between i first end h p q = let m = total-more r.net.plan.net.places i (child-there i h) in (omega (arith, m, p, q), omega (arith, m, p, q))

  pub ask-keeps : now.state.stage ≡ Open → (i : ℕ) → i < length now.state.plan.net.places → (first places : ℕ) → first ≡ total (take i r.net.plan.net.places) → places ≡ get_or r.net.plan.net.places i 0 → (X : Streams Token) (ts : List Turn) (d : Dates) (l : DueSet) →
      X ≡ emptied_from first places r.channels.lists → ts ≡ set r.turns i Over → d ≡ record { wakes = r.agenda.wakes; set = with_due r.agenda.set i false } → l ≡ with_due r.last i false → IsSound (state_of r.net d.wakes X ts r.tag r.under_way) r.under_way d.set l
  ask-keeps e i h first places p q X ts d l x t f g = ask-sound r.net r.agenda.wakes r.channels.lists r.turns r.tag r.under_way r.agenda.set r.last a (is-open e) i (child-there i h) first places p q X ts d l x t f g

  pub ask-is : now.state.stage ≡ Open → (i first places : ℕ) → first ≡ total (take i r.net.plan.net.places) → places ≡ get_or r.net.plan.net.places i 0 → (X : Streams Token) (ts : List Turn) (d : Dates) → X ≡ emptied_from first places r.channels.lists → ts ≡ set r.turns i Over →
      d ≡ record { wakes = r.agenda.wakes; set = with_due r.agenda.set i false } → state_of r.net d.wakes X ts r.tag r.under_way ≡ in_stage Open (asked i now.state)
  ask-is e i first places p q X ts d x t f =
      ap (λ (Y : Streams Token). state_of r.net d.wakes Y ts r.tag r.under_way) (x ∙ ap₂ (λ o n. emptied_from o n r.channels.lists) p q) ∙
      ap (λ us. state_of r.net d.wakes (emptied_from (total (take i r.net.plan.net.places)) (get_or r.net.plan.net.places i 0) r.channels.lists) us r.tag r.under_way) t ∙
      ap (λ (y : Dates). state_of r.net y.wakes (emptied_from (total (take i r.net.plan.net.places)) (get_or r.net.plan.net.places i 0) r.channels.lists) (set r.turns i Over) r.tag r.under_way) f ∙
      ap (λ b. in_stage (stage_if b) (asked i (state_of r.net r.agenda.wakes r.channels.lists r.turns r.tag r.under_way))) (is-open e) ∙ ap (λ (y : DeState Token). in_stage Open (asked i y)) seen

  pub rows-are : (i first places : ℕ) (whole : Bool) (R : List (Streams Token)) → first ≡ total (take i r.net.plan.net.places) → places ≡ get_or r.net.plan.net.places i 0 → whole ≡ get_or r.net.roles.whole i false → R ≡ rows_for whole (take places (drop first r.channels.lists)) →
      R ≡ rows_for (get_or now.state.roles.whole i false) (inputs_of now.state i)
  rows-are i first places whole R p q w e =
      e ∙ ap (λ b. rows_for b (take places (drop first r.channels.lists))) w ∙ ap₂ (λ o n. rows_for (get_or r.net.roles.whole i false) (take n (drop o r.channels.lists))) p q ∙ ap (λ (y : DeState Token). rows_for (get_or y.roles.whole i false) (inputs_of y i)) seen

  -- a child has another wake
  pub wake-keeps : now.state.stage ≡ Open → (i : ℕ) (w : Option Tag) → get_or now.state.turns i Waits ≡ Over → (d : Dates) → d ≡ record { wakes = set r.agenda.wakes i w; set = r.agenda.set } → IsSound (state_of r.net d.wakes r.channels.lists r.turns r.tag r.under_way) r.under_way d.set r.last
  wake-keeps e i w o d f = wake-sound r.net r.agenda.wakes r.channels.lists r.turns r.tag r.under_way r.agenda.set r.last a (is-open e) i w (ap (λ (y : DeState Token). get_or y.turns i Waits) seen ∙ o) d f

  pub wake-is : (i : ℕ) (w : Option Tag) (d : Dates) → d ≡ record { wakes = set r.agenda.wakes i w; set = r.agenda.set } → state_of r.net d.wakes r.channels.lists r.turns r.tag r.under_way ≡ with_wake i w now.state
  wake-is i w d f = ap (λ (y : Dates). state_of r.net y.wakes r.channels.lists r.turns r.tag r.under_way) f ∙ ap (λ (y : DeState Token). with_wake i w y) seen

  -- a child has answered early
  pub answer-keeps : now.state.stage ≡ Open → (i : ℕ) (ts : List Turn) (d : Dates) (l : DueSet) → ts ≡ set r.turns i Answered → d ≡ record { wakes = r.agenda.wakes; set = with_due r.agenda.set i false } → l ≡ with_due r.last i true → IsSound (state_of r.net d.wakes r.channels.lists ts r.tag r.under_way) r.under_way d.set l
  answer-keeps e i ts d l t f g = answer-sound r.net r.agenda.wakes r.channels.lists r.turns r.tag r.under_way r.agenda.set r.last a (is-open e) i ts d l t f g

  pub answer-is : (i : ℕ) (ts : List Turn) (d : Dates) → ts ≡ set r.turns i Answered → d ≡ record { wakes = r.agenda.wakes; set = with_due r.agenda.set i false } → state_of r.net d.wakes r.channels.lists ts r.tag r.under_way ≡ with_turn i Answered now.state
  answer-is i ts d t f = ap₂ (λ us (y : Dates). state_of r.net y.wakes r.channels.lists us r.tag r.under_way) t f ∙ ap (λ (y : DeState Token). with_turn i Answered y) seen

  -- what comes next
  pub first-comes : now.state.stage ≡ Open → (i : ℕ) → wakes.IsFirst r.agenda.set i → IsFirst now.state i
  first-comes e i f = subst (λ (y : DeState Token). IsFirst y i) seen (first-is-first s r.agenda.set (are-due r.net r.agenda.wakes r.channels.lists r.turns r.tag r.under_way r.agenda.set r.last a (is-open e)) i f)

  pub none-comes : now.state.stage ≡ Open → NoneDue r.agenda.set → NoneIsDue now.state
  none-comes e n = subst (λ (y : DeState Token). NoneIsDue y) seen (none-is-due s r.agenda.set (are-due r.net r.agenda.wakes r.channels.lists r.turns r.tag r.under_way r.agenda.set r.last a (is-open e)) n)

  none-due-of : now.state.stage ≡ Open → NoneIsDue now.state → NoneDue r.agenda.set
  none-due-of e n j h =
      let d = are-due r.net r.agenda.wakes r.channels.lists r.turns r.tag r.under_way r.agenda.set r.last a (is-open e) in
      let long = d.long in
      let m : NoneIsDue s = subst (λ (y : DeState Token). NoneIsDue y) (sym seen) n in
      d.each j (omega (arith, h, long)) ∙ m j (omega (arith, h, long))

  pub last-comes : now.state.stage ≡ Open → NoneIsDue now.state → (i : ℕ) → wakes.IsFirst r.last i → IsLast now.state i
  last-comes e n i f =
      subst (λ (y : DeState Token). IsLast y i) seen (first-is-last s r.agenda.set r.last (are-due r.net r.agenda.wakes r.channels.lists r.turns r.tag r.under_way r.agenda.set r.last a (is-open e)) (are-last r.net r.agenda.wakes r.channels.lists r.turns r.tag r.under_way r.agenda.set r.last a (is-open e)) (none-due-of e n) i f)

  pub over-comes : now.state.stage ≡ Open → NoneIsDue now.state → NoneDue r.last → IsOver now.state
  over-comes e n f =
      subst (λ (y : DeState Token). IsOver y) seen (none-is-over s r.agenda.set r.last (are-due r.net r.agenda.wakes r.channels.lists r.turns r.tag r.under_way r.agenda.set r.last a (is-open e)) (are-last r.net r.agenda.wakes r.channels.lists r.turns r.tag r.under_way r.agenda.set r.last a (is-open e)) (none-due-of e n) f)

  -- the reaction ends, or its start is brought back
  pub end-keeps : now.state.stage ≡ Open → IsOver now.state → (X : Streams Token) (Y : Streams Token) (ts : List Turn) → length X ≡ length r.channels.lists → Y ≡ replicate (length X) [] → ts ≡ replicate (length r.turns) Waits → IsSound (state_of r.net r.agenda.wakes Y ts origin false) false r.agenda.set r.last
  end-keeps e o X Y ts l x t =
      let n = over-none r.net r.agenda.wakes r.channels.lists r.turns r.tag r.under_way r.agenda.set r.last a (is-open e) (subst (λ (y : DeState Token). IsOver y) (sym seen) o) in
      rest-sound r.net r.agenda.wakes Y ts origin r.agenda.set r.last a.lawful wakes-long (x ∙ ap (λ k. replicate k []) (l ∙ lists-long)) (t ∙ ap (λ k. replicate k Waits) turns-long) refl n.0 n.1

  pub end-is : (X : Streams Token) (Y : Streams Token) (ts : List Turn) → length X ≡ length r.channels.lists → Y ≡ replicate (length X) [] → ts ≡ replicate (length r.turns) Waits → state_of r.net r.agenda.wakes Y ts origin false ≡ closed now.state
  end-is X Y ts l x t = rest-is r.net r.agenda.wakes Y ts origin (x ∙ ap (λ k. replicate k []) (l ∙ lists-long)) (t ∙ ap (λ k. replicate k Waits) turns-long) refl ∙ ap (λ (y : DeState Token). closed y) seen

  pub starts-fit : length r.net.roles.depths ≡ length r.net.roles.starts
  starts-fit = let w = a.lawful in w.depths ∙ sym w.starts

  pub reset-keeps : (starts : List (Option Tag)) (depths depths' : List ℕ) (d : Dates) (l : DueSet) (Y : Streams Token) (ts : List Turn) → starts ≡ r.net.roles.starts → depths ≡ r.net.roles.depths → depths' ≡ r.net.roles.depths → d ≡ record { wakes = starts; set = record { depths = depths; due = replicate (length depths) false } } →
      l ≡ record { depths = depths'; due = replicate (length depths') false } → Y ≡ replicate (length r.channels.lists) [] → ts ≡ replicate (length r.turns) Waits → IsSound (state_of r.net d.wakes Y ts origin false) false d.set l
  reset-keeps starts depths depths' d l Y ts p q q' f g x t =
      rest-sound r.net d.wakes Y ts origin d.set l a.lawful (ap (λ (y : Dates). length y.wakes) f ∙ ap (λ k. length k) p ∙ starts-long) (x ∙ ap (λ k. replicate k []) lists-long) (t ∙ ap (λ k. replicate k Waits) turns-long) refl
      (ap (λ (y : Dates). y.set) f ∙ none-of depths q) (g ∙ none-of depths' q')
    where
      starts-long : length r.net.roles.starts ≡ length r.net.plan.net.places
      starts-long = let w = a.lawful in w.starts

      none-of : (ds : List ℕ) → ds ≡ r.net.roles.depths → (let y : DueSet = record { depths = ds; due = replicate (length ds) false } in y) ≡ record { depths = r.net.roles.depths; due = replicate (length r.net.plan.net.places) false }
      none-of ds e =
          let w = a.lawful in
          let n = w.depths in
          ap (λ (xs : List ℕ). let y : DueSet = record { depths = xs; due = replicate (length xs) false } in y) e ∙ ap (λ k. let y : DueSet = record { depths = r.net.roles.depths; due = replicate k false } in y) n

  pub reset-is : (starts : List (Option Tag)) (d : Dates) (Y : Streams Token) (ts : List Turn) (set' : DueSet) → starts ≡ r.net.roles.starts → d ≡ record { wakes = starts; set = set' } → Y ≡ replicate (length r.channels.lists) [] → ts ≡ replicate (length r.turns) Waits → state_of r.net d.wakes Y ts origin false ≡ restarted now.state
  reset-is starts d Y ts set' p f x t =
      rest-is r.net d.wakes Y ts origin (x ∙ ap (λ k. replicate k []) lists-long) (t ∙ ap (λ k. replicate k Waits) turns-long) refl ∙ ap (λ (w : List (Option Tag)). at_rest r.net.plan r.net.roles w) (ap (λ (y : Dates). y.wakes) f ∙ p) ∙ ap (λ (y : DeState Token). restarted y) seen

  -- what is known of the places of a child
  pub partial-seen : {E : Type 0} (result : Result (List (Partial Token)) E) (i first end : ℕ) → first ≡ total (take i r.net.plan.net.places) → end - first ≡ get_or r.net.plan.net.places i 0 →
      IfOk result (λ p. p ≡ beside_delays (take (end - first) (drop first r.net.roles.delayed)) (take (end - first) (drop first r.channels.lists))) → IfOk result (λ p. p ≡ partial_of now.state i)
  partial-seen result i first end e q h =
      subst (λ (y : DeState Token). IfOk result (λ p. p ≡ partial_of y i)) seen
      (subst (λ n. IfOk result (λ p. p ≡ beside_delays (take n (drop (total (take i r.net.plan.net.places)) r.net.roles.delayed)) (take n (drop (total (take i r.net.plan.net.places)) r.channels.lists)))) q
      (subst (λ o. IfOk result (λ p. p ≡ beside_delays (take (end - first) (drop o r.net.roles.delayed)) (take (end - first) (drop o r.channels.lists)))) e h))

  pub delayed-long : length r.net.roles.delayed ≡ length r.net.plan.net.sources
  delayed-long = let w = a.shaped in w.delayed

  -- a copy of each part
  pub copy-keeps : (net : Planned) (d : Dates) (l : DueSet) (ts : List Turn) (X : Streams Token) → net ≡ r.net → d ≡ r.agenda → l ≡ r.last → ts ≡ r.turns → X ≡ r.channels.lists → IsSound (state_of net d.wakes X ts r.tag r.under_way) r.under_way d.set l
  copy-keeps net d l ts X n f g t x =
      subst (λ (m : Planned). IsSound (state_of m d.wakes X ts r.tag r.under_way) r.under_way d.set l) (sym n) (
      subst (λ (y : Dates). IsSound (state_of r.net y.wakes X ts r.tag r.under_way) r.under_way y.set l) (sym f) (
      subst (λ (m : DueSet). IsSound (state_of r.net r.agenda.wakes X ts r.tag r.under_way) r.under_way r.agenda.set m) (sym g) (
      subst (λ us. IsSound (state_of r.net r.agenda.wakes X us r.tag r.under_way) r.under_way r.agenda.set r.last) (sym t) (room-keeps X x))))

  pub copy-is : (net : Planned) (d : Dates) (ts : List Turn) (X : Streams Token) → net ≡ r.net → d ≡ r.agenda → ts ≡ r.turns → X ≡ r.channels.lists → state_of net d.wakes X ts r.tag r.under_way ≡ now.state
  copy-is net d ts X n f t x =
      ap (λ (m : Planned). state_of m d.wakes X ts r.tag r.under_way) n ∙ ap (λ (y : Dates). state_of r.net y.wakes X ts r.tag r.under_way) f ∙ ap (λ us. state_of r.net r.agenda.wakes X us r.tag r.under_way) t ∙ room-is X x

-- no tokens are put on a channel
pub none-put : (s : DeState Token) (c : ℕ) (ts : List Token) → ts ≡ [] → s ≡ with_tokens (put c ts s.tokens) s
none-put s c ts e = sym (ap (λ (X : Streams Token). with_tokens X s) (ap (λ xs. put c xs s.tokens) e ∙ put-nothing s.tokens c))

pub on-err : {T E : Type 0} {P : Type 0} (result : Result T E) → P → OnErr result P
on-err (Ok t) p = tt
on-err (Err e) p = p

-- what a call staged, as contracts see it
both : {E : Type 0} {P Q R : Type 0} (result : Result (Unit {0}) E) → (P → Q → R) → OnOk result P → OnOk result Q → OnOk result R
both (Ok u) f p q = f p q
both (Err e) f p q = q

pub staged-seen : {E : Type 0} (result : Result (Unit {0}) E) (r : Inside) (now : Flow) (v : flow_in r ≡ now) (row : ℕ) (F : List Feed) (e : map target_of F ≡ targets (length r.net.plan.net.places) row 0 r.net.plan.net.sources) (given : ℕ → List Token) (staged : List (List Token)) (spares : List ℕ) → OnOk result (staged ≡ gifts given F) →
    OnOk result ((k : ℕ) → k < length F → length (given (get_or F k no_feed).port) ≤ spare_at spares (get_or F k no_feed).channel) → OnOk result (IsStaged given (targets (length now.state.plan.net.places) row 0 now.state.plan.net.sources) staged spares)
staged-seen result r now v row F e given staged spares s room =
    both result
    (λ x y. subst (λ (f : Flow). IsStaged given (targets (length f.state.plan.net.places) row 0 f.state.plan.net.sources) staged spares) v (are-staged (length r.net.plan.net.places) row r.net.plan.net.sources F e given staged spares x y)) s room

pub staged-own-seen : {E : Type 0} (result : Result (Unit {0}) E) (r : Inside) (now : Flow) (v : flow_in r ≡ now) (row : ℕ) (F : List Feed) (e : map target_of F ≡ targets (length r.net.plan.net.places) row 0 r.net.plan.net.sources) (given : ℕ → List Token) (staged : List (List Token)) (spares : List ℕ) → row ≡ length r.net.plan.net.places → OnOk result (staged ≡ gifts given F) →
    OnOk result ((k : ℕ) → k < length F → length (given (get_or F k no_feed).port) ≤ spare_at spares (get_or F k no_feed).channel) → OnOk result (IsStaged given (targets (length now.state.plan.net.places) (length now.state.plan.net.places) 0 now.state.plan.net.sources) staged spares)
staged-own-seen result r now v row F e given staged spares q s room =
    subst (λ n. OnOk result (IsStaged given (targets (length now.state.plan.net.places) n 0 now.state.plan.net.sources) staged spares)) (q ∙ ap (λ (f : Flow). length f.state.plan.net.places) v) (staged-seen result r now v row F e given staged spares s room)

-- a reaction of a plan at its start
pub new-keeps : (net : Planned) (starts : List (Option Tag)) (depths depths' : List ℕ) (d : Dates) (l : DueSet) (Y : Streams Token) (ts : List Turn) (m n : ℕ) → IsLawful net.plan net.roles → starts ≡ net.roles.starts → depths ≡ net.roles.depths → depths' ≡ net.roles.depths → d ≡ record { wakes = starts; set = record { depths = depths; due = replicate (length depths) false } } →
    l ≡ record { depths = depths'; due = replicate (length depths') false } → m ≡ length net.plan.net.sources → Y ≡ replicate m [] → n ≡ length net.plan.net.places → ts ≡ replicate n Waits → IsSound (state_of net d.wakes Y ts origin false) false d.set l
new-keeps net starts depths depths' d l Y ts m n w p q q' f g u x z t =
    rest-sound net d.wakes Y ts origin d.set l w (ap (λ (y : Dates). length y.wakes) f ∙ ap (λ k. length k) p ∙ w.starts) (x ∙ ap (λ k. replicate k []) u) (t ∙ ap (λ k. replicate k Waits) z) refl (ap (λ (y : Dates). y.set) f ∙ none-of depths q) (g ∙ none-of depths' q')
  where
    none-of : (ds : List ℕ) → ds ≡ net.roles.depths → (let y : DueSet = record { depths = ds; due = replicate (length ds) false } in y) ≡ record { depths = net.roles.depths; due = replicate (length net.plan.net.places) false }
    none-of ds e = ap (λ (xs : List ℕ). let y : DueSet = record { depths = xs; due = replicate (length xs) false } in y) e ∙ ap (λ k. let y : DueSet = record { depths = net.roles.depths; due = replicate k false } in y) w.depths

pub new-is : (net : Planned) (starts : List (Option Tag)) (d : Dates) (Y : Streams Token) (ts : List Turn) (m n : ℕ) (set' : DueSet) → starts ≡ net.roles.starts → d ≡ record { wakes = starts; set = set' } → m ≡ length net.plan.net.sources → Y ≡ replicate m [] → n ≡ length net.plan.net.places → ts ≡ replicate n Waits → state_of net d.wakes Y ts origin false ≡ started net.plan net.roles
new-is net starts d Y ts m n set' p f u x z t =
    rest-is net d.wakes Y ts origin (x ∙ ap (λ k. replicate k []) u) (t ∙ ap (λ k. replicate k Waits) z) refl ∙ ap (λ (w : List (Option Tag)). at_rest net.plan net.roles w) (ap (λ (y : Dates). y.wakes) f ∙ p)

opens : (x : DeState Token) → x.stage ≡ Open → x ≡ in_stage Open x
opens x o = ap (λ g. in_stage g x) o

stays : (s x : DeState Token) → s.stage ≡ Open → x.stage ≡ Open → x ≡ in_stage (after_fired s.stage) x
stays s x o p = opens x p ∙ ap (λ g. in_stage (after_fired g) x) (sym o)

-- what is staged stays so where the plan and the room do
pub staged-still : (given : ℕ → List Token) (row : ℕ) (s0 s1 : DeState Token) (staged : List (List Token)) (spares0 spares1 : List ℕ) → s1.plan ≡ s0.plan → spares1 ≡ spares0 → IsStaged given (targets (length s0.plan.net.places) row 0 s0.plan.net.sources) staged spares0 →
    IsStaged given (targets (length s1.plan.net.places) row 0 s1.plan.net.sources) staged spares1
staged-still given row s0 s1 staged spares0 spares1 p q a =
    subst (λ (x : TickPlan). IsStaged given (targets (length x.net.places) row 0 x.net.sources) staged spares1) (sym p) (subst (λ v. IsStaged given (targets (length s0.plan.net.places) row 0 s0.plan.net.sources) staged v) (sym q) a)

pub staged-over : (given : ℕ → List Token) (row : ℕ) (s0 s1 s2 : DeState Token) (staged : List (List Token)) (spares1 spares2 : List ℕ) → s1 ≡ s0 → s2.plan ≡ s1.plan → spares2 ≡ spares1 → IsStaged given (targets (length s0.plan.net.places) row 0 s0.plan.net.sources) staged spares1 →
    IsStaged given (targets (length s2.plan.net.places) row 0 s2.plan.net.sources) staged spares2
staged-over given row s0 s1 s2 staged spares1 spares2 e p q a = staged-still given row s0 s2 staged spares1 spares2 (p ∙ ap (λ (s : DeState Token). s.plan) e) q a

pub staged-own : (given : ℕ → List Token) (row : ℕ) (s0 s1 s2 : DeState Token) (staged : List (List Token)) (spares1 spares2 : List ℕ) → s1 ≡ s0 → s2.plan ≡ s1.plan → spares2 ≡ spares1 → row ≡ length s2.plan.net.places → IsStaged given (targets (length s0.plan.net.places) (length s0.plan.net.places) 0 s0.plan.net.sources) staged spares1 →
    IsStaged given (targets (length s2.plan.net.places) row 0 s2.plan.net.sources) staged spares2
staged-own given row s0 s1 s2 staged spares1 spares2 e p q r a =
    staged-over given row s0 s1 s2 staged spares1 spares2 e p q (subst (λ k. IsStaged given (targets (length s0.plan.net.places) k 0 s0.plan.net.sources) staged spares1) (sym (r ∙ ap (λ (x : TickPlan). length x.net.places) p ∙ ap (λ (s : DeState Token). length s.plan.net.places) e)) a)

-- the calls, from what was put on the channels
pub begun-whole : (tag : Tag) (inputs : Streams Token) (row : ℕ) (s0 s1 s2 : DeState Token) → IsLawful s0.plan s0.roles → row ≡ length s0.plan.net.places → s1 ≡ opened tag s0 → s2 ≡ with_tokens (put_on (at inputs) (targets (length s1.plan.net.places) row 0 s1.plan.net.sources) s1.tokens) s1 → s2 ≡ begun tag inputs s0
begun-whole tag inputs row s0 s1 s2 w r e f =
    f ∙ ap (λ (x : DeState Token). with_tokens (put_on (at inputs) (targets (length x.plan.net.places) row 0 x.plan.net.sources) x.tokens) x) e ∙
    ap (λ k. with_tokens (put_on (at inputs) (targets (length s0.plan.net.places) k 0 s0.plan.net.sources) (opened tag s0).tokens) (opened tag s0)) r ∙ begun-is s0 tag inputs (lawful-within s0.plan s0.roles w)

pub told-whole : (i : ℕ) (out : Streams Token) (wake : Option Tag) (s0 s1 s2 : DeState Token) → IsShaped s0 → i < length s0.plan.net.places → s0.stage ≡ Open → get_or s0.roles.early i false ≡ false → s1 ≡ with_wake i wake s0 →
    s2 ≡ with_tokens (put_on (at out) (targets (length s1.plan.net.places) i 0 s1.plan.net.sources) s1.tokens) s1 → s2 ≡ after_told i out wake s0
told-whole i out wake s0 s1 s2 w h o q e f =
    f ∙ ap (λ (x : DeState Token). with_tokens (put_on (at out) (targets (length x.plan.net.places) i 0 x.plan.net.sources) x.tokens) x) e ∙ stays s0 (with_tokens (put_on (at out) (targets (length s0.plan.net.places) i 0 s0.plan.net.sources) s0.tokens) (with_wake i wake s0)) o o ∙ told-is s0 i out wake w h q

pub told-early-whole : (i : ℕ) (out : Streams Token) (wake : Option Tag) (s0 s1 : DeState Token) → s0.stage ≡ Open → get_or s0.roles.early i false ≡ true → s1 ≡ with_wake i wake s0 → s1 ≡ after_told i out wake s0
told-early-whole i out wake s0 s1 o q e = e ∙ stays s0 (with_wake i wake s0) o o ∙ told-early-is s0 i out wake q

pub heard-whole : (i : ℕ) (early : List (Partial Token)) (s0 s1 s2 : DeState Token) → IsShaped s0 → i < length s0.plan.net.places → s0.stage ≡ Open → s1 ≡ with_turn i Answered s0 →
    s2 ≡ with_tokens (put_on (known_on early) (targets (length s1.plan.net.places) i 0 s1.plan.net.sources) s1.tokens) s1 → s2 ≡ after_heard i early s0
heard-whole i early s0 s1 s2 w h o e f =
    f ∙ ap (λ (x : DeState Token). with_tokens (put_on (known_on early) (targets (length x.plan.net.places) i 0 x.plan.net.sources) x.tokens) x) e ∙
    opens (with_tokens (put_on (known_on early) (targets (length s0.plan.net.places) i 0 s0.plan.net.sources) s0.tokens) (with_turn i Answered s0)) o ∙ heard-is s0 i early w h

-- what comes next, by the number that is told
pub comes-early : (s : DeState Token) (i n : ℕ) → IsFirst s i → n ≡ i → get_or s.roles.early i false ≡ true → MayAnswer s n
comes-early s i n f e b = subst (λ k. MayAnswer s k) (sym e) (f, b)

pub comes-fire : (s : DeState Token) (i n : ℕ) → IsFirst s i → n ≡ i → get_or s.roles.early i false ≡ false → MayFire s n
comes-fire s i n f e b = subst (λ k. MayFire s k) (sym e) (inl (f, b))

pub comes-last : (s : DeState Token) (i n : ℕ) → IsLast s i → n ≡ i → MayFire s n
comes-last s i n l e = subst (λ k. MayFire s k) (sym e) (inr l)
