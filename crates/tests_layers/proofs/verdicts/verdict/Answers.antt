-- The network of sized code is formed.
use Rattle.std.proofs.Common.{refl}
use Rattle.net_form.proofs.NetworkFormed.{formed}
use Rattle.net_form.specs.Tables.{all_tables}
use Rattle.tests_layers.proofs.verdicts.verdict.Goals as goal

pub said-requires : goal.said-requires
said-requires c =
    formed all_tables c.args.code.now c.in_ok-net.net c.in_ok-net.ensures
    (c.if-not-is_sized.ensures.0 refl)
