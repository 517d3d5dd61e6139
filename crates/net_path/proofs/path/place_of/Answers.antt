use Rattle.pra_base.proofs.PlaceNumbers.{numbered_is}
use Rattle.net_path.proofs.path.place_of.Goals as goal

pub returns : goal.returns
returns c = let is = numbered_is c.args.place c.requires in
    cc (c.unwrap_or.ensures, c.of_number.ensures)
