use Rattle.std.proofs.Common.{◌≡◌, true, ap, ◌∙◌, sym, subst}
use Rattle.std.specs.Prelude.{is_some}
use Rattle.std.proofs.lemmas.List.{get_or_read}
use Rattle.net_form.specs.declared.net.Strand.{Strand}
use Rattle.net_form.specs.Admitted.{strand_at, no_strand}
use Rattle.al_iter.specs.SettleSums.{IsOpenAt}
use Rattle.al_iter.proofs.SettleShut.{open_last}
use Rattle.al_iter.proofs.settle_open.open_at_exit.Goals as goal

pub returns-then-is_some : goal.returns-then-is_some
returns-then-is_some c = λ p ps was may.
    let net = c.args.net.now in
    let s = c.args.strand in
    let own = get_or_read net.strands s c.index-own.result.now c.requires.strand
    c.index-own.ensures no_strand in
    let tied : is_some (strand_at net s).exit_group ≡ true =
    ap (λ (t : Strand). is_some t.exit_group) (sym own) ∙ sym c.is_some.ensures
    ∙ c.if-is_some.true in
    c.open_at.ensures p was
    (subst (λ (t : Strand). IsOpenAt net c.args.taken.now s t.last p) (sym own)
    (open_last net c.args.taken.now p s ps may tied))
