use Rattle.ob_read.proofs.EachIsRead.{each_is_read}
use Rattle.ob_read.proofs.Reading.{one_reading}
use Rattle.ob_read.proofs.laws.one_reading.Goals as goal

pub returns : goal.returns
returns c = record { one = one_reading; either = each_is_read }
