use Rattle.std.proofs.Common.{◌≡◌, ◌++◌, ◌∷◌, ◌∙◌, Some, decimal, append_assoc, sym, ap}
use Rattle.std.proofs.lemmas.Option.{none-some, same_Some}
use Rattle.pt_readback.proofs.Bytes.{name_bytes, name_lacks_dot}
use Rattle.pt_readback.proofs.Lines.{number_no_dot}
use Rattle.pt_readback.proofs.names.place_parts.Goals as goal

pub returns-in_err-rest-clause-found : goal.returns-in_err-rest-clause-found
returns-in_err-rest-clause-found c = λ p h.
    absurd (none-some _ (c.in_err-rest.ensures.last (p.child ++ 46 ∷ p.port) (decimal p.channel) (number_no_dot p.channel) (append_assoc p.child (46 ∷ p.port) (46 ∷ decimal p.channel) ∙ h.is)))

pub returns-in_err-child-clause-found : goal.returns-in_err-child-clause-found
returns-in_err-child-clause-found c = λ p h.
    let q = same_Some _ _ (c.in_ok-rest.ensures.last (p.child ++ 46 ∷ p.port) (decimal p.channel) (number_no_dot p.channel) (append_assoc p.child (46 ∷ p.port) (46 ∷ decimal p.channel) ∙ h.is)) in
    absurd (none-some _ (c.in_err-child.ensures.last p.child p.port (name_lacks_dot p.port (name_bytes p.port h.form.port)) (sym (ap (λ r. r.0) q))))

pub returns-in_err-number-clause-found : goal.returns-in_err-number-clause-found
returns-in_err-number-clause-found c = λ p h.
    let q = same_Some _ _ (c.in_ok-rest.ensures.last (p.child ++ 46 ∷ p.port) (decimal p.channel) (number_no_dot p.channel) (append_assoc p.child (46 ∷ p.port) (46 ∷ decimal p.channel) ∙ h.is)) in
    absurd (none-some _ (c.in_err-number.ensures.found p.channel h.short (sym (ap (λ r. r.1) q))))

pub returns-clause-found : goal.returns-clause-found
returns-clause-found c = λ p h.
    let q = same_Some _ _ (c.in_ok-rest.ensures.last (p.child ++ 46 ∷ p.port) (decimal p.channel) (number_no_dot p.channel) (append_assoc p.child (46 ∷ p.port) (46 ∷ decimal p.channel) ∙ h.is)) in
    let d = same_Some _ _ (c.in_ok-child.ensures.last p.child p.port (name_lacks_dot p.port (name_bytes p.port h.form.port)) (sym (ap (λ r. r.0) q))) in
    let n = same_Some _ _ (c.in_ok-number.ensures.found p.channel h.short (sym (ap (λ r. r.1) q))) in
    λ i. Some ((d i).0, (d i).1, n i)
