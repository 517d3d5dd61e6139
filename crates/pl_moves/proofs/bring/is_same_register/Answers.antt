use Rattle.std.proofs.Common.{◌≡◌, ap₂, nat_eq}
use Rattle.pra_base.specs.Places.{number, register_of}
use Rattle.pl_moves.proofs.Alone.{number-alone}
use Rattle.pl_moves.proofs.bring.is_same_register.Goals as goal

pub returns : goal.returns
returns c =
    let one : c.number.result ≡ register_of (number c.args.one) = cc (number-alone c.args.one) in
    let other : c.number-2.result ≡ register_of (number c.args.other) =
    cc (number-alone c.args.other) in
    ap₂ nat_eq one other
