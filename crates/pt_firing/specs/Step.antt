-- What a step comes to, beside what the row of an actor answers.
use Rattle.std.specs.Prelude.{◌≡◌, Result, Ok, Err}
use Rattle.pt_meaning.specs.Node.{Answer, Gives, Fails}
use Rattle.pt_value.specs.declared.token.Token.{Token}
use Rattle.pt_firing.specs.declared.outputs.Outputs.{Outputs}
use Rattle.pt_firing.specs.declared.step.Step.{Step}
use Rattle.pt_firing.specs.declared.step.Step.TheVariants as step
use Rattle.pt_firing.specs.declared.step.StepFault.{StepFault}
use Rattle.pt_firing.specs.declared.step.StepFault.TheVariants as fault
use Rattle.pt_firing.specs.RunFault.{code_of}

abbrev pub step_of : Result Outputs StepFault → Step
step_of (Ok outputs) = step.Done outputs
step_of (Err (fault.Run kind)) = step.Fault kind
step_of (Err fault.Memory) = step.Memory

-- The call made the step that the row answers: it gave the row's outputs and the next state, or told the row's code and left the actor as before.
-- For want of memory it may have made none, and the actor is as before.
abbrev pub Makes : {A : Type 0} → Answer Token A → A → Step → A → Type 0
Makes (Gives next streams) old (step.Done outputs) new = (outputs ≡ streams) × (new ≡ next)
Makes (Gives next streams) old (step.Fault kind) new = ⊥
Makes (Gives next streams) old step.Memory new = new ≡ old
Makes (Fails code) old (step.Done outputs) new = ⊥
Makes (Fails code) old (step.Fault kind) new = (code_of kind ≡ code) × (new ≡ old)
Makes (Fails code) old step.Memory new = new ≡ old

-- the step didn't want memory
abbrev pub IsMade : Step → Type 0
IsMade (step.Done outputs) = Unit {0}
IsMade (step.Fault kind) = Unit {0}
IsMade step.Memory = ⊥
