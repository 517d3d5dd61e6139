use Rattle.std.proofs.Common.{refl}
use Rattle.ob_read.specs.Source.{HasText, IsUnparsed}
use Rattle.ob_read.proofs.Exactly.{ok_where, fault_where, text_in, unread_in}
use Rattle.ob_read.proofs.Reading.{one_text_or_fault}
use Rattle.ob_read.proofs.reader.read.Goals as goal

pub returns : goal.returns
returns c =
    let bytes = c.args.bytes.now in
    let r = c.text_of.result in
    let h = c.text_of.ensures in
    record {
      found = h.found;
      spans = h.spans;
      cause = unread_in bytes r h.cause;
      ok_where = λ tokens tree p.
          ok_where HasText IsUnparsed one_text_or_fault bytes r h.cause
          (record { bytes = bytes; tokens = tokens; tree = tree }) (refl, p);
      fault_where =
          fault_where HasText IsUnparsed one_text_or_fault bytes r (text_in bytes r h.found)
          h.cause;
    }
