-- The network of valid, sized code is built.
use Rattle.std.proofs.Common.{refl}
use Rattle.net_laws.proofs.Built.{built}
use Rattle.tests_price.proofs.made.network.Goals as goal

pub returns : goal.returns
returns c =
    built c.args.code.now c.in_ok-build.field-0 c.in_ok-build.ensures
    (c.if-not-is_valid.ensures.0 refl) (c.if-not-is_sized.ensures.0 refl)
