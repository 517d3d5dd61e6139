-- The texts of what a compiled program writes, and of the report on its procedures.
use Rattle.std.specs.Prelude.{ℕ, List, [], ◌∷◌, ◌++◌, codes}
use Rattle.std.specs.Fmt.{decimal, signed_decimal}
use Rattle.pra_base.specs.declared.event.OutEvent.{OutEvent}
use Rattle.pra_base.specs.declared.event.OutEvent.TheVariants.{Number, Line}

-- Write prints one blank and the decimal number, with - before a negative one; WriteLn one LF.
abbrev pub event_text : OutEvent → List ℕ
event_text (Number n) = codes " " ++ signed_decimal n
event_text Line = codes "\n"

abbrev pub output_text : List OutEvent → List ℕ
output_text [] = []
output_text (event ∷ events) = event_text event ++ output_text events

-- the line on a procedure: its number, its name, and the bytes of its frame
abbrev pub procedure_line : ℕ → List ℕ → ℕ → List ℕ
procedure_line number name frame =
    codes "procedure " ++ decimal number ++ codes " " ++ name
    ++ codes " frame " ++ decimal frame ++ codes "\n"
