-- The values that contracts see, as codes.
use Rattle.std.specs.Prelude.{ℕ, List, Bool, Option, refl}
use Rattle.std.specs.Coded.{Coded, code_by, coded_list, coded_option, coded×, coded_ℕ, coded_bool}
use Rattle.pt_meaning.specs.Tag.{Tag}
use Rattle.pt_wakes.specs.Due.{DueSet}

abbrev coded_tag : Coded Tag
coded_tag = code_by (ℕ × ℕ) (coded× coded_ℕ coded_ℕ) (λ t. (t.time, t.step)) (λ p. record { time = p.0; step = p.1 }) (λ _. refl)

abbrev pub coded_wake : Coded (Option Tag)
coded_wake = coded_option coded_tag

abbrev pub coded_wakes : Coded (List (Option Tag))
coded_wakes = coded_list coded_wake

abbrev pub coded_due : Coded DueSet
coded_due = code_by (List ℕ × List Bool) (coded× (coded_list coded_ℕ) (coded_list coded_bool)) (λ s. (s.depths, s.due)) (λ p. record { depths = p.0; due = p.1 }) (λ _. refl)
