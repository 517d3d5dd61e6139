use Rattle.std.proofs.Common.{sym}
use Rattle.al_round.proofs.OneShape.{as_many_paths, each_as_long}
use Rattle.al_round.proofs.copies.overwrite_routes.Goals as goal

pub overwrite_all-requires : goal.overwrite_all-requires
overwrite_all-requires c =
    let net = c.args.net.now in
    let to = c.args.to.now in
    let from = c.args.from.now in
    record {
      many = sym (as_many_paths net to from c.requires.to c.requires.from);
      long = λ s lt. sym (each_as_long net to from c.requires.to c.requires.from s lt);
    }
