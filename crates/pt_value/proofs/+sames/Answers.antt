use Rattle.std.proofs.Common.{sym, ◌∙◌, rules}
use Rattle.std.proofs.lemmas.Slice.Zip.{zip_turn}
use Rattle.std.proofs.lemmas.List.{length_push}
use Rattle.pt_value.specs.Token.{value_of, entry_of, same_token, same_field}
use Rattle.pt_value.proofs.Pairs.{take-map-more, map-same-at}
use Rattle.pt_value.proofs.+sames.Goals as goal

pub items::Items::same-returns-then-not-same : goal.items::Items::same-returns-then-not-same
items::Items::same-returns-then-not-same t c =
    let z = zip_turn c.self.inside.tokens.items c.other.inside.tokens.items c.loop-mine.yielded c.into_iter-mine-iterator.result c.loop-mine.mine-iterator c.next.new.self _ (cc) (cc) c.loop-mine.yielded_by _ c.in-Some.is c.next.ensures.steps in
    (search rules, λ e. c.if-not-same.ensures.1 (map-same-at value_of c.self.inside.tokens.items c.other.inside.tokens.items _ c.in-Some.mine.now c.in-Some.theirs.now same_token z (c.self.view_is ∙ e ∙ sym c.other.view_is)))

pub items::Items::same-loop-mine-preserved : goal.items::Items::same-loop-mine-preserved
items::Items::same-loop-mine-preserved t c =
    let z = zip_turn c.self.inside.tokens.items c.other.inside.tokens.items c.loop-mine.yielded c.into_iter-mine-iterator.result c.loop-mine.mine-iterator c.next.new.self _ (cc) (cc) c.loop-mine.yielded_by _ c.in-Some.is c.next.ensures.steps in
    rw (length_push c.loop-mine.yielded (c.in-Some.mine, c.in-Some.theirs), ← c.self.view_is, ← c.other.view_is) (search rules, search rules, take-map-more value_of c.self.inside.tokens.items c.other.inside.tokens.items _ c.in-Some.mine.now c.in-Some.theirs.now z (search rules) (search rules))

pub fields::Fields::same-returns-then-not-same : goal.fields::Fields::same-returns-then-not-same
fields::Fields::same-returns-then-not-same t c =
    let z = zip_turn c.self.inside.fields.items c.other.inside.fields.items c.loop-mine.yielded c.into_iter-mine-iterator.result c.loop-mine.mine-iterator c.next.new.self _ (cc) (cc) c.loop-mine.yielded_by _ c.in-Some.is c.next.ensures.steps in
    (search rules, λ e. c.if-not-same.ensures.1 (map-same-at entry_of c.self.inside.fields.items c.other.inside.fields.items _ c.in-Some.mine.now c.in-Some.theirs.now same_field z (c.self.view_is ∙ e ∙ sym c.other.view_is)))

pub fields::Fields::same-loop-mine-preserved : goal.fields::Fields::same-loop-mine-preserved
fields::Fields::same-loop-mine-preserved t c =
    let z = zip_turn c.self.inside.fields.items c.other.inside.fields.items c.loop-mine.yielded c.into_iter-mine-iterator.result c.loop-mine.mine-iterator c.next.new.self _ (cc) (cc) c.loop-mine.yielded_by _ c.in-Some.is c.next.ensures.steps in
    rw (length_push c.loop-mine.yielded (c.in-Some.mine, c.in-Some.theirs), ← c.self.view_is, ← c.other.view_is) (search rules, search rules, take-map-more entry_of c.self.inside.fields.items c.other.inside.fields.items _ c.in-Some.mine.now c.in-Some.theirs.now z (search rules) (search rules))
