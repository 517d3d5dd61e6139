use Rattle.ob_check.proofs.OneAnswer.{found_in, cause_in, ok_where, fault_where}
use Rattle.ob_check.proofs.checker.check.Goals as goal

pub returns : goal.returns
returns c =
    let bytes = c.args.bytes.now in
    let tokens = c.args.tokens.now in
    let m = c.args.tree in
    let r = c.answer.result in
    let h = c.answer.ensures in
    record {
      found = found_in bytes tokens m r h;
      cause = cause_in bytes tokens m r h;
      ok_where = ok_where bytes tokens m r h;
      fault_where = fault_where bytes tokens m r h;
    }
