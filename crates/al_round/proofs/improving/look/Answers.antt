use Rattle.al_iter.proofs.SettleRows.{sizes_routes, routes_sizes}
use Rattle.al_round.proofs.improving.look.Goals as goal

pub kick-requires : goal.kick-requires
kick-requires g c =
    let net = c.args.net.now in
    let built = c.requires.net in
    record {
      kept = c.requires.kept;
      net = built.formed;
      room = c.requires.spare.taken;
      found = sizes_routes net built.formed c.args.spare.now.routes c.requires.spare.routes;
    }

pub returns-clause-spare : goal.returns-clause-spare
returns-clause-spare g c =
    let net = c.args.net.now in
    record {
      taken = c.kick.ensures.room;
      routes = routes_sizes net c.requires.net.formed _ c.kick.ensures.found;
      zero = c.requires.spare.zero;
    }
