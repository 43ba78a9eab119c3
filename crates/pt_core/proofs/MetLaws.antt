-- What holds of a director that makes no meetings.
use Rattle.std.proofs.Common.{◌≡◌, ℕ, List, Option, None, refl, sym, ap, subst, ◌∙◌}
use Rattle.pt_meaning.specs.Log.{Meeting}
use Rattle.pt_meaning.specs.Meetings.{Meets}
use Rattle.pt_meaning.specs.Tree.{Past}
use Rattle.pt_firing.specs.declared.ask.Ask.{Ask}
use Rattle.pt_firing.specs.declared.ask.Ask.TheVariants.{Fire, Early, Reset, Get, Put, Grow, Meet, Await, Finished, Faulted, Full}
use Rattle.pt_firing.specs.declared.ask.Meeting as asked
use Rattle.pt_records.specs.Kept.{Entry}
use Rattle.pt_core.specs.Acts.{Calls}
use Rattle.pt_core.specs.Met.{HasMet, IsListed, entry_met, none_met, met_after}
use Rattle.pt_core.specs.Lawful.{TellsMeetings}

pub none-after : (answer : Ask) → met_after answer None ≡ None
none-after (Meet m) = refl
none-after (Fire child tag) = refl
none-after (Early child tag) = refl
none-after (Reset child) = refl
none-after (Get child) = refl
none-after (Put child) = refl
none-after Grow = refl
none-after Await = refl
none-after Finished = refl
none-after (Faulted kind child) = refl
none-after Full = refl

-- it tells none
pub tells-none : {C : Type 0} (c : Calls C) → ((s : C) → c.met s ≡ None) → ((m : asked.Meeting) (s : C) → c.Gives s (Meet m) → ⊥) → TellsMeetings c
tells-none c none never = record {
  tells = λ m s q. absurd (never m s q);
  begun = λ tag inputs s. none (c.begun tag inputs s) ∙ sym (ap (λ v. none_met v) (none s));
  asking = λ answer s. none (c.asking answer s) ∙ sym (ap (λ v. met_after answer v) (none s) ∙ none-after answer);
  handed = λ s. none (c.handed s) ∙ sym (none s);
  told = λ i out wake need s. none (c.told i out wake need s) ∙ sym (none s);
  heard = λ i early s. none (c.heard i early s) ∙ sym (none s);
  closed = λ s. none (c.closed s) ∙ sym (ap (λ v. none_met v) (none s));
  restarted = λ s. none (c.restarted s) ∙ sym (ap (λ v. none_met v) (none s));
}

-- nothing is asked of the meetings of its firing, and what is kept of its own path stays
module _ (met : Option (List Meeting)) (none : met ≡ None) where
  pub none-has-met : {T : Type 0} (m : Meets) (h : Past) (e : Entry T) → HasMet met m h e
  none-has-met m h e = subst (λ v. HasMet v m h e) (sym none) tt

  pub none-listed : (m : Meets) (h : Past) → IsListed met m h
  none-listed m h = subst (λ v. IsListed v m h) (sym none) tt

  pub entry-none : {T : Type 0} (n : ℕ) (e : Entry T) → entry_met n met e ≡ e
  entry-none n e = ap (λ v. entry_met n v e) none
