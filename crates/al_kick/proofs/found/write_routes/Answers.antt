use Rattle.al_kick.proofs.SameShape.{of_one_shape}
use Rattle.al_kick.proofs.found.write_routes.Goals as goal

pub returns : goal.returns
returns c = of_one_shape c.args._net.now c.args.found.now
    (record { places = c.write_paths.new.paths }) c.requires.found
    c.write_paths.ensures.many c.write_paths.ensures.long
