use Rattle.std.proofs.Common.{refl}
use Rattle.ob_read.specs.Source.{ParsedText, IsRead, IsUnreadable}
use Rattle.ob_read.proofs.Exactly.{ok_where, fault_where, read_in}
use Rattle.ob_read.proofs.Reading.{one_reading}
use Rattle.ob_read.proofs.reader.resolve.Goals as goal

pub returns : goal.returns
returns c =
    let bytes = c.args.bytes.now in
    let text : ParsedText =
    record { bytes = bytes; tokens = c.args.tokens.now; tree = c.args.tree } in
    let r = c.checked_of.result in
    let h = c.checked_of.ensures in
    let parsed = c.requires.parsed in
    record {
      found = h.found;
      cause = h.cause;
      ok_where = λ x is.
          ok_where IsRead IsUnreadable one_reading bytes r h.cause
          (record { text = text; checked = x }) (refl, parsed, is);
      fault_where =
          fault_where IsRead IsUnreadable one_reading bytes r
          (read_in bytes c.args.tokens.now c.args.tree r parsed h.found) h.cause;
    }
