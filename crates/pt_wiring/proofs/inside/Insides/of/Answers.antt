use Rattle.std.proofs.Common.{◌≡◌, ℕ, ◌<◌, List, [], length, get_or, sym, ap, ◌∙◌, subst}
use Rattle.pt_net.specs.declared.net.Channel.{Channel}
use Rattle.pt_net.specs.declared.net.NetEntity.{NetEntity}
use Rattle.pt_net.specs.Inside.{ports_at}
use Rattle.pt_wiring.specs.Ports.{ArePortNumbers}
use Rattle.pt_wiring.specs.Children.{AreChildren}
use Rattle.pt_wiring.specs.Channels.{AreSources, AreArrivals, counts_at}
use Rattle.pt_wiring.proofs.InsideLaws.{numbers-are, insides-are}
use Rattle.pt_wiring.proofs.inside.Insides.of.Goals as goal

pub returns : goal.returns
returns c =
    let es : List NetEntity = c.args.net.now.entities.items in
    let ks : List Channel = c.args.net.now.channels.items in
    let children : AreChildren (length es) es c.in_ok-children.children.lists.items c.in_ok-children.children.numbers.items = subst (λ xs. AreChildren (length xs) xs c.in_ok-children.children.lists.items c.in_ok-children.children.numbers.items) c.deref.ensures.value c.in_ok-children.ensures in
    let ports : (i : ℕ) → i < length es → ArePortNumbers (ports_at es i) (get_or c.in_ok-rows_of.field-0.items i []) = subst (λ xs. (i : ℕ) → i < length xs → ArePortNumbers (ports_at xs i) (get_or c.in_ok-rows_of.field-0.items i [])) c.deref-2.ensures.value c.in_ok-rows_of.ensures.each in
    let numbers = numbers-are es c.in_ok-children.children.lists.items c.in_ok-children.children.numbers.items c.in_ok-rows_of.field-0.items children (c.in_ok-rows_of.ensures.counted ∙ ap length c.deref-2.ensures.value) ports in
    let sources : AreSources es ks c.in_ok-sources.sources.items = subst (λ xs. AreSources es xs c.in_ok-sources.sources.items) c.deref-3.ensures.value (c.in_ok-sources.ensures es numbers) in
    let arrivals : AreArrivals (length es) ks c.in_ok-arrivals.arrivals.items = subst (λ n. AreArrivals n ks c.in_ok-arrivals.arrivals.items) (c.len.ensures ∙ sym c.deref.ensures.len ∙ ap length c.deref.ensures.value) (subst (λ xs. AreArrivals c.len.result xs c.in_ok-arrivals.arrivals.items) c.deref-4.ensures.value c.in_ok-arrivals.ensures) in
    let counted : length c.in_ok-places.places.items ≡ length c.in_ok-children.children.lists.items = c.in_ok-places.ensures.counted ∙ ap length c.deref-5.ensures.value in
    let each : (d : ℕ) → d < length c.in_ok-children.children.lists.items → get_or c.in_ok-places.places.items d [] ≡ counts_at c.in_ok-arrivals.arrivals.items (get_or c.in_ok-children.children.lists.items d []) = subst (λ ns. (d : ℕ) → d < length c.in_ok-children.children.lists.items → get_or c.in_ok-places.places.items d [] ≡ counts_at ns (get_or c.in_ok-children.children.lists.items d [])) c.deref-6.ensures.value (subst (λ xs. (d : ℕ) → d < length xs → get_or c.in_ok-places.places.items d [] ≡ counts_at c.deref-6.result.now (get_or xs d [])) c.deref-5.ensures.value c.in_ok-places.ensures.each) in
    insides-are es ks _ _ _ _ _ children sources arrivals counted each
