-- A step of an actor that is held as a variant.
use Rattle.std.proofs.Common.{◌≡◌, ℤ, List, Bool, true, false, Option, Some, None, ap, ◌∙◌}
use Rattle.pt_meaning.specs.Basics.{Tag, Streams}
use Rattle.pt_meaning.specs.Node.{Answer, Gives, Fails}
use Rattle.pt_value.specs.declared.token.Token.{Token}
use Rattle.pt_firing.specs.Step.{Makes}
use Rattle.pt_firing.specs.declared.step.Step.{Step}
use Rattle.pt_firing.specs.declared.step.Step.TheVariants as made
use Rattle.pt_lib_flow.specs.FlowActor.{held_as}
use Rattle.pt_flow_base.specs.Number.{GivesNumber, GivesNumbers}

pub held-makes : {S A : Type 0} (held : S → A) (r : Answer Token S) (old new : S) (s : Step) → Makes r old s new → Makes (held_as held r) (held old) s (held new)
held-makes held (Gives next streams) old new (made.Done outputs) m = (m.0, ap held m.1)
held-makes held (Gives next streams) old new (made.Fault kind) m = absurd m
held-makes held (Gives next streams) old new made.Memory m = ap held m
held-makes held (Fails code) old new (made.Done outputs) m = absurd m
held-makes held (Fails code) old new (made.Fault kind) m = (m.0, ap held m.1)
held-makes held (Fails code) old new made.Memory m = ap held m

-- the same of a firing that gives a number
pub held-number : {S A : Type 0} (held : S → A) (step : Tag → S → Streams Token → Answer Token S) (whole : Tag → A → Streams Token → Answer Token A) (old new : S) (X : Streams Token) (r : Option ℤ) → ((tag : Tag) → whole tag (held old) X ≡ held_as held (step tag old X)) →
    GivesNumber step old X r new → GivesNumber whole (held old) X r (held new)
held-number held step whole old new X (Some n) is g = λ tag. is tag ∙ ap (held_as held) (g tag)
held-number held step whole old new X None is g = ap held g

-- and of one that gives several
pub held-numbers : {S A : Type 0} (held : S → A) (step : Tag → S → Streams Token → Answer Token S) (whole : Tag → A → Streams Token → Answer Token A) (old new : S) (X : Streams Token) (b : Bool) (ns : List ℤ) → ((tag : Tag) → whole tag (held old) X ≡ held_as held (step tag old X)) →
    GivesNumbers step old X b ns new → GivesNumbers whole (held old) X b ns (held new)
held-numbers held step whole old new X true ns is g = λ tag. is tag ∙ ap (held_as held) (g tag)
held-numbers held step whole old new X false ns is g = ap held g
