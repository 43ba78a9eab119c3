use Rattle.std.proofs.Common.{rules, ◌≡◌, ◌∙◌, sym, ap, arith, true, false, [], ◌∷◌, drop, to_z, of_z, w64}
use Rattle.std.proofs.lemmas.Int.{to_z-of_z}
use Rattle.pt_value.specs.declared.token.Token.TheVariants.{Int}
use Rattle.pt_lib_timed.specs.PendingStore.{is_front_due}
use Rattle.pt_lib_timed.proofs.PendingLaws.{not-front, only-first}
use Rattle.pt_lib_timed.proofs.pending.number_due.Goals as goal

pub returns-then-not-is_front_due-clause-due : goal.returns-then-not-is_front_due-clause-due
returns-then-not-is_front_due-clause-due c =
    let none : is_front_due c.args.tag c.args.events.now.items ≡ false = first_of (cc, search rules) in
    (not-front c.args.tag c.args.events.now.items c.requires none).0

pub returns-then-not-is_front_due-clause-left : goal.returns-then-not-is_front_due-clause-left
returns-then-not-is_front_due-clause-left c =
    let none : is_front_due c.args.tag c.args.events.now.items ≡ false = first_of (cc, search rules) in
    (not-front c.args.tag c.args.events.now.items c.requires none).1

pub returns-clause-due : goal.returns-clause-due
returns-clause-due c =
    let es = c.args.events.now.items in
    let first : is_front_due c.args.tag es ≡ true = first_of (cc, search rules) in
    let second : is_front_due c.args.tag (drop 1 es) ≡ false = first_of (cc, search rules) in
    let here = c.in_ok-number.ensures in
    let passed : to_z w64 (of_z w64 c.in_ok-number.number) ≡ c.in_ok-number.number = first_of (search rules, grind (arith, to_z-of_z)) in
    (only-first c.args.tag es here.0 (Int c.in_ok-number.number) here.1 c.requires first second).0 ∙ ap (λ k. Int k ∷ []) (sym passed)

pub returns-clause-left : goal.returns-clause-left
returns-clause-left c =
    let es = c.args.events.now.items in
    let first : is_front_due c.args.tag es ≡ true = first_of (cc, search rules) in
    let second : is_front_due c.args.tag (drop 1 es) ≡ false = first_of (cc, search rules) in
    let here = c.in_ok-number.ensures in
    (only-first c.args.tag es here.0 (Int c.in_ok-number.number) here.1 c.requires first second).1
