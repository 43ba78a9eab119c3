-- The calls of a core as steps: what children give and what arrives is put on one channel after another.
use Rattle.std.proofs.Common.{◌≡◌, ℕ, ◌<◌, List, [], Bool, true, false, length, get_or, Option, refl, sym, ap, ◌∙◌, length-set}
use Rattle.std.proofs.lemmas.List.{length-map}
use Rattle.pt_meaning.specs.Tag.{Tag}
use Rattle.pt_meaning.specs.Streams.{Streams, at}
use Rattle.pt_meaning.specs.Machine.{Partial}
use Rattle.pt_meaning.specs.Net.{Source, Output}
use Rattle.pt_meaning.specs.Valuation.{TickPlan, tokens_of}
use Rattle.pt_de_laws.specs.State.{Roles, Waits, Answered, Open, DeState, given_by, at_first, in_stage, at_rest, begun, after_fired, after_told, after_heard}
use Rattle.pt_de_laws.specs.Chain.{with_tokens}
use Rattle.pt_de_laws.specs.Lawful.{IsLawful}
use Rattle.pt_de_laws.proofs.GainLaws.{gained-long}
use Rattle.pt_reaction.specs.Feeds.{targets}
use Rattle.pt_reaction.specs.Given.{put_on, known_on}
use Rattle.pt_de_due.specs.Due.{AreWithin, with_turn, with_wake, IsShaped, opened}
use Rattle.pt_de_due.proofs.GainedLaws.{gained-puts, early-puts, begun-puts}

-- a plan that is lawful
pub lawful-within : (plan : TickPlan) (roles : Roles) → IsLawful plan roles → AreWithin (length plan.net.places) plan.net.sources
lawful-within plan roles w c child port e = w.named c (Output child port) e

module _ {T : Type 0} where
  pub lawful-shaped : (s : DeState T) → IsLawful s.plan s.roles → length s.turns ≡ length s.plan.net.places → length s.wakes ≡ length s.plan.net.places → length s.tokens ≡ length s.plan.net.sources → IsShaped s
  lawful-shaped s w t a k = record { depths = w.depths; turns = t; wakes = a; tokens = k; delayed = w.delayed; channels = w.channels }

  pub shaped-rest : (plan : TickPlan) (roles : Roles) (wakes : List (Option Tag)) → IsLawful plan roles → length wakes ≡ length plan.net.places → IsShaped (at_rest {T = T} plan roles wakes)
  shaped-rest plan roles wakes w e = record {
    depths = w.depths;
    turns = length-map plan.net.places (λ n. Waits);
    wakes = e;
    tokens = length-map plan.net.sources (λ (c : Source). let none : List T = [] in none);
    delayed = w.delayed;
    channels = w.channels;
  }

  module _ (s : DeState T) where
    -- a reaction begins, and then what arrives is put on the channels of the own inputs
    pub begun-is : (tag : Tag) (inputs : Streams T) → AreWithin (length s.plan.net.places) s.plan.net.sources →
        with_tokens (put_on (λ port. at inputs port) (targets (length s.plan.net.places) (length s.plan.net.places) 0 s.plan.net.sources) (opened tag s).tokens) (opened tag s) ≡ begun tag inputs s
    begun-is tag inputs h = ap (λ (X : Streams T). with_tokens X (opened tag s)) (begun-puts (length s.plan.net.places) inputs s.plan.net.sources h)

    -- a child is told to have fired: its wake is set, and then what it gave is put on its channels
    pub told-is : (i : ℕ) (out : Streams T) (wake : Option Tag) → IsShaped s → i < length s.plan.net.places → get_or s.roles.early i false ≡ false →
        in_stage (after_fired s.stage) (with_tokens (put_on (λ port. at out port) (targets (length s.plan.net.places) i 0 s.plan.net.sources) s.tokens) (with_wake i wake s)) ≡ after_told i out wake s
    told-is i out wake w h e =
        ap (λ (X : Streams T). in_stage (after_fired s.stage) (with_tokens X (with_wake i wake s)))
        (gained-puts (length s.plan.net.places) i out s.plan.net.sources s.tokens h w.tokens ∙ ap (λ b. given_by b i out s.plan.net.sources s.tokens) (sym e))

    -- a child with delays has told already what it gives
    pub told-early-is : (i : ℕ) (out : Streams T) (wake : Option Tag) → get_or s.roles.early i false ≡ true → in_stage (after_fired s.stage) (with_wake i wake s) ≡ after_told i out wake s
    told-early-is i out wake e = ap (λ b. in_stage (after_fired s.stage) (with_tokens (given_by b i out s.plan.net.sources s.tokens) (with_wake i wake s))) (sym e)

    -- a child has answered, and then what it told is put on its channels
    pub heard-is : (i : ℕ) (early : List (Partial T)) → IsShaped s → i < length s.plan.net.places →
        in_stage Open (with_tokens (put_on (λ port. known_on early port) (targets (length s.plan.net.places) i 0 s.plan.net.sources) s.tokens) (with_turn i Answered s)) ≡ after_heard i early s
    heard-is i early w h = ap (λ (X : Streams T). in_stage Open (with_tokens X (with_turn i Answered s))) (early-puts (length s.plan.net.places) i early s.plan.net.sources s.tokens h w.tokens)

    given-long : (b : Bool) (i : ℕ) (out : Streams T) (cs : List Source) (X : Streams T) → length (given_by b i out cs X) ≡ length X
    given-long true i out cs X = refl
    given-long false i out cs X = gained-long i out cs X

    pub shaped-begun : (tag : Tag) (inputs : Streams T) → IsShaped s → IsShaped (begun tag inputs s)
    shaped-begun tag inputs w = record {
      depths = w.depths;
      turns = length-map s.plan.net.places (λ n. Waits);
      wakes = w.wakes;
      tokens = length-map s.plan.net.sources (λ c. at_first inputs c);
      delayed = w.delayed;
      channels = w.channels;
    }

    pub shaped-told : (i : ℕ) (out : Streams T) (wake : Option Tag) → IsShaped s → IsShaped (after_told i out wake s)
    shaped-told i out wake w = record {
      depths = w.depths;
      turns = w.turns;
      wakes = length-set s.wakes i wake ∙ w.wakes;
      tokens = given-long (get_or s.roles.early i false) i out s.plan.net.sources s.tokens ∙ w.tokens;
      delayed = w.delayed;
      channels = w.channels;
    }

    pub shaped-heard : (i : ℕ) (early : List (Partial T)) → IsShaped s → IsShaped (after_heard i early s)
    shaped-heard i early w = record {
      depths = w.depths;
      turns = length-set s.turns i Answered ∙ w.turns;
      wakes = w.wakes;
      tokens = gained-long i (tokens_of early) s.plan.net.sources s.tokens ∙ w.tokens;
      delayed = w.delayed;
      channels = w.channels;
    }
