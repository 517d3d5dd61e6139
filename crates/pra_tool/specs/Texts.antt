-- The texts that the program writes.
use Rattle.std.specs.Prelude.{ℕ, ◌+◌, List, [], ◌∷◌, ◌++◌, codes}
use Rattle.std.specs.Fmt.{decimal}
use Rattle.pra_base.specs.declared.event.TrapKind.{TrapKind}
use Rattle.pra_base.specs.declared.event.TrapKind.TheVariants as trap
use Rattle.cert_check.specs.declared.check.Reason.{Reason}
use Rattle.cert_check.specs.declared.check.Reason.TheVariants as reason
use Rattle.cert_form.specs.declared.certificate.Cert.{Cert}
use Rattle.cert_form.specs.declared.certificate.Certificate.{Certificate}
use Rattle.ia_step.specs.declared.out.Ending.{Ending}
use Rattle.ia_step.specs.declared.out.Ending.TheVariants.{Going, Ended, Trap, Fault}
use Rattle.ia_step.specs.declared.out.FaultKind.{FaultKind}
use Rattle.ia_step.specs.declared.out.FaultKind.TheVariants as machine
use Rattle.ia_step.specs.declared.out.RunOut.{RunOut}
use Rattle.ob_interp.specs.declared.interpret.UnitEnding.{UnitEnding}
use Rattle.ob_interp.specs.declared.interpret.UnitEnding.TheVariants as unit
use Rattle.ob_interp.specs.declared.interpret.UnitOut.{UnitOut}
use Rattle.pra_base.specs.declared.limit.LimitKind.{LimitKind}
use Rattle.pra_base.specs.declared.limit.LimitKind.TheVariants as limit
use Rattle.pra_base.specs.Limits.{limit_name, limit_maximum}
use Rattle.ob_lex.specs.declared.scanner.LexFault.{LexFault}
use Rattle.ob_lex.specs.declared.scanner.LexFault.TheVariants as lex
use Rattle.ob_read.specs.declared.fault.SourceFault.TheVariants.{Lex, Grammar, Rule}
use Rattle.ob_read.specs.declared.fault.LimitFault.TheVariants.{Count, Depth}
use Rattle.vc_run.specs.declared.out.Cause.{Cause}
use Rattle.vc_run.specs.declared.out.CodeEnding.{CodeEnding}
use Rattle.vc_run.specs.declared.out.CodeEnding.TheVariants as code
use Rattle.vc_run.specs.declared.out.CodeOut.{CodeOut}
use Rattle.vc_run.specs.declared.out.StuckKind.{StuckKind}
use Rattle.vc_run.specs.declared.out.StuckKind.TheVariants as stuck
use Rattle.pra_tool.specs.declared.source.CodeWrong.{CodeWrong}
use Rattle.pra_tool.specs.declared.source.CodeWrong.TheVariants as wrong
use Rattle.pra_tool.specs.declared.source.SourceFault.{SourceFault}
use Rattle.pra_tool.specs.declared.source.SourceFault.TheVariants as fault
use Rattle.pra_tool.specs.declared.input.WrongInput.{WrongInput}
use Rattle.pra_tool.specs.declared.input.WrongInput.TheVariants.{TooLong, NoWord}
use Rattle.ob_read.specs.declared.fault.ReadFault.{ReadFault}
use Rattle.ob_read.specs.declared.fault.ReadFault.TheVariants.{Source, Limit, OutOfMemory}
use Rattle.ia_asm.specs.declared.image_file.Field.{Field}
use Rattle.ia_asm.specs.declared.image_file.Field.TheVariants as field
use Rattle.pra_tool.specs.declared.listing.Unlisted.{Unlisted}
use Rattle.pra_tool.specs.declared.listing.Unlisted.TheVariants as unlisted
use Rattle.pra_tool.specs.declared.listing.Unassembled.{Unassembled}
use Rattle.pra_tool.specs.declared.listing.Unassembled.TheVariants as unassembled
use Rattle.net_form.specs.declared.prices.Line.{Line}
use Rattle.pra_report.specs.declared.report.ProcOut.{ProcOut}
use Rattle.pra_report.specs.Report.{total_line}
use Rattle.pra_report.specs.Texts.{procedure_line}
use Rattle.pra_tool.specs.declared.applied.Misapplied.{Misapplied}
use Rattle.pra_tool.specs.declared.applied.Misapplied.TheVariants as misapplied
use Rattle.pra_tool.specs.declared.certified.Uncertified.{Uncertified}
use Rattle.pra_tool.specs.declared.certified.Uncertified.TheVariants as uncertified

abbrev pub trap_name : TrapKind → List ℕ
trap_name trap.Index = codes "Index"
trap_name trap.Divide = codes "Divide"
trap_name trap.Input = codes "Input"
trap_name trap.Stack = codes "Stack"

abbrev pub fault_name : FaultKind → List ℕ
fault_name machine.Fetch = codes "fetch"
fault_name machine.Decode = codes "decode"
fault_name machine.Access = codes "access"
fault_name machine.Flag = codes "flag"
fault_name machine.Divide = codes "divide"
fault_name machine.Service = codes "service"

-- how a run ended; with a fault of the machine no module ends that was compiled
abbrev pub ending_words : Ending → List ℕ
ending_words Going = codes "going"
ending_words Ended = codes "ended"
ending_words (Trap kind) = codes "trap " ++ trap_name kind
ending_words (Fault kind) = codes "machine " ++ fault_name kind

-- how the run ended, the steps that it made, the last one included, and the input words that it
-- took
abbrev pub ending_line : RunOut → List ℕ
ending_line run = ending_words run.ending ++ codes " steps " ++ decimal run.steps ++
    codes " reads " ++ decimal run.reads ++ codes "\n"

-- the same of a run by the meaning
abbrev pub unit_ending_words : UnitEnding → List ℕ
unit_ending_words unit.Going = codes "going"
unit_ending_words unit.Ended = codes "ended"
unit_ending_words (unit.Trap kind) = codes "trap " ++ trap_name kind

-- how it ended, the units that were begun, and the input words that it took
abbrev pub units_line : UnitOut → List ℕ
units_line run = unit_ending_words run.ending ++ codes " units " ++ decimal run.units ++
    codes " reads " ++ decimal run.reads ++ codes "\n"

-- why the next step of code means nothing
abbrev pub stuck_name : StuckKind → List ℕ
stuck_name stuck.Address = codes "address"
stuck_name stuck.Nothing = codes "nothing"
stuck_name stuck.Access = codes "access"
stuck_name stuck.Divide = codes "divide"

-- that, and where it is
abbrev pub stuck_words : Cause → List ℕ
stuck_words cause =
    codes "stuck " ++ stuck_name cause.kind ++ codes " procedure " ++ decimal cause.proc.0
    ++ codes " block " ++ decimal cause.block.0
    ++ codes " instruction " ++ decimal cause.instruction

-- how a run of code by its meaning ended
abbrev pub code_ending_words : CodeEnding → List ℕ
code_ending_words code.Going = codes "going"
code_ending_words code.Ended = codes "ended"
code_ending_words (code.Trap kind) = codes "trap " ++ trap_name kind
code_ending_words (code.Stuck cause) = stuck_words cause

-- how it ended, the steps that it made, the last one included, and the input words that it took
abbrev pub code_line : CodeOut → List ℕ
code_line run = code_ending_words run.ending ++ codes " steps " ++ decimal run.steps ++
    codes " reads " ++ decimal run.reads ++ codes "\n"

-- ---- what is wrong with a source; what no source is refused for has no line

-- a lexical fault, and the byte at which it begins
abbrev pub lexical_line : LexFault → List ℕ
lexical_line (lex.BadByte at) = codes "fault bad-byte at " ++ decimal at ++ codes "\n"
lexical_line (lex.OpenComment at) = codes "fault open-comment at " ++ decimal at ++ codes "\n"
lexical_line (lex.NumberTooLarge at) =
    codes "fault number-too-large at " ++ decimal at ++ codes "\n"
lexical_line (lex.TokensOver count) = []
lexical_line lex.OutOfMemory = []

-- a token, and its first byte
abbrev pub place_text : ℕ → ℕ → List ℕ
place_text token at = decimal token ++ codes " at " ++ decimal at ++ codes "\n"

-- of what there is too much, how much there is, and how much there may be
abbrev pub over_line : List ℕ → ℕ → ℕ → List ℕ
over_line name count maximum = codes "limit " ++ name ++ codes " count " ++ decimal count ++
    codes " maximum " ++ decimal maximum ++ codes "\n"

abbrev pub count_line : LimitKind → ℕ → List ℕ
count_line kind count = over_line (limit_name kind) count (limit_maximum kind)

abbrev pub fault_line : ReadFault → List ℕ
fault_line (Source (Lex f)) = lexical_line f
fault_line (Source (Grammar token at)) = codes "fault grammar token " ++ place_text token at
fault_line (Source (Rule rule token at)) =
    codes "fault rule " ++ decimal rule ++ codes " token " ++ place_text token at
fault_line (Limit (Count kind count)) = count_line kind count
fault_line (Limit (Depth token at)) = codes "limit depth token " ++ place_text token at
fault_line OutOfMemory = []

-- what is wrong with a source of code
abbrev pub no_code_line : CodeWrong → List ℕ
no_code_line wrong.TooLong = over_line (codes "code") 16777217 16777216
no_code_line wrong.NotJson = codes "fault json\n"
no_code_line wrong.NotCode = codes "fault code form\n"
no_code_line (wrong.Procedures count) = over_line (codes "procedures") count 65536
no_code_line (wrong.Broken p) = codes "fault code procedure " ++ decimal p ++ codes "\n"

-- whatever a source is
abbrev pub source_line : SourceFault → List ℕ
source_line (fault.Module f) = fault_line f
source_line (fault.Code f) = no_code_line f
source_line fault.OutOfMemory = []

-- code of so many bytes, for which an image has no room
abbrev pub image_over_line : ℕ → List ℕ
image_over_line count = over_line (codes "image") count 41943040

-- ---- what is wrong with an input: its first byte too many, or the first byte of what is no word

abbrev pub input_line : WrongInput → List ℕ
input_line TooLong = count_line limit.Input 1048577
input_line (NoWord at) = codes "fault input at " ++ decimal at ++ codes "\n"

-- ---- what is wrong with an image that is to be listed

-- the name of a field
abbrev pub field_name : Field → List ℕ
field_name field.Length = codes "Length"
field_name field.Magic = codes "Magic"
field_name field.Version = codes "Version"
field_name field.CodeLength = codes "CodeLength"
field_name field.DataWords = codes "DataWords"

abbrev pub unlisted_line : Unlisted → List ℕ
unlisted_line unlisted.TooLong = over_line (codes "image") 41943057 41943056
unlisted_line (unlisted.Broken broken at) =
    codes "fault image " ++ field_name broken ++ codes " at " ++ decimal at ++ codes "\n"
unlisted_line (unlisted.Code at) = codes "fault code at " ++ decimal at ++ codes "\n"
unlisted_line (unlisted.LongText count) = over_line (codes "listing") count 67108864
unlisted_line unlisted.OutOfMemory = []

-- ---- what is wrong with a text that is to be assembled

abbrev pub unassembled_line : Unassembled → List ℕ
unassembled_line unassembled.TooLong = over_line (codes "listing") 67108865 67108864
unassembled_line (unassembled.Line number) = codes "fault line " ++ decimal number ++ codes "\n"
unassembled_line unassembled.Empty = codes "fault empty\n"
unassembled_line unassembled.OutOfMemory = []

-- ---- certificates

-- what is told of a procedure of a certificate that holds: its number, total and bound
abbrev pub held_line : ℕ → Cert → List ℕ
held_line number cert =
    codes "procedure " ++ decimal number ++ codes " cost " ++ decimal cert.total
    ++ codes " bound " ++ decimal cert.bound ++ codes "\n"

-- procedures in their order, the first of which has this number
abbrev pub held_lines : ℕ → List Cert → List ℕ
held_lines number [] = []
held_lines number (cert ∷ certs) = held_line number cert ++ held_lines (number + 1) certs

abbrev pub held_text : Certificate → List ℕ
held_text c = held_lines 0 c.procs ++ codes "certificate holds\n"

abbrev pub reason_name : Reason → List ℕ
reason_name reason.Code = codes "code"
reason_name reason.Routes = codes "routes"
reason_name reason.Prices = codes "prices"
reason_name reason.Total = codes "total"
reason_name reason.Bound = codes "bound"

abbrev pub uncertified_line : Uncertified → List ℕ
uncertified_line uncertified.TooLong = over_line (codes "certificate") 16777217 16777216
uncertified_line uncertified.NotJson = codes "fault json\n"
uncertified_line uncertified.NotCertificate = codes "fault certificate form\n"
uncertified_line (uncertified.Fails p r) =
    codes "fault certificate procedure " ++ decimal p ++ codes " " ++ reason_name r ++ codes "\n"
uncertified_line uncertified.OutOfMemory = []

-- ---- certificates that are applied

abbrev pub misapplied_line : Misapplied → List ℕ
misapplied_line misapplied.Count = codes "fault certificate module\n"
misapplied_line (misapplied.Module p) =
    codes "fault certificate procedure " ++ decimal p ++ codes " module\n"
misapplied_line (misapplied.Fails p r) = uncertified_line (uncertified.Fails p r)
misapplied_line (misapplied.TooLong count) = image_over_line count
misapplied_line misapplied.OutOfMemory = []

-- what routes cost, and a bound
abbrev pub routes_line : Line → List ℕ
routes_line l =
    codes "routes cost " ++ decimal l.cost ++ codes " bound " ++ decimal l.bound ++ codes "\n"

abbrev pub routes_lines : List Line → List ℕ
routes_lines [] = []
routes_lines (l ∷ ls) = routes_line l ++ routes_lines ls

-- procedures in their order, the first of which has this number
abbrev pub applied_lines : ℕ → List ProcOut → List ℕ
applied_lines number [] = []
applied_lines number (p ∷ ps) =
    procedure_line number p.name p.frame ++ routes_lines p.lines ++ applied_lines (number + 1) ps

abbrev pub applied_text : List ProcOut → ℕ → List ℕ
applied_text procs code = applied_lines 0 procs ++ total_line procs code
