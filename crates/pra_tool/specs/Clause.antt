-- What the call that does all promises.
use Rattle.std.specs.Prelude.{◌≡◌, ◌⊎◌, ℕ, ℤ, Bool, true, false, List, [], ◌∷◌, ◌++◌, length}
use Rattle.std.specs.Prelude.{None, Some, Result, Ok, Err}
use Rattle.std.specs.Io.KnownBytes.{Keeps}
use Rattle.ia_code.specs.declared.image.Image.{Image}
use Rattle.ia_step.specs.declared.out.RunOut.{RunOut}
use Rattle.ia_step.specs.Run.{machine_run}
use Rattle.pra_compile.specs.declared.output.Compiled.{Compiled}
use Rattle.pra_gen.specs.Module.{module_text}
use Rattle.pra_report.specs.Report.{report_text, total_line, generated_line, output_line}
use Rattle.pra_report.specs.Texts.{output_text}
use Rattle.pra_words.specs.declared.words.FileKind.{FileKind}
use Rattle.pra_words.specs.declared.words.FileKind.TheVariants as a_file
use Rattle.pra_words.specs.declared.words.Mode.{Mode as Word}
use Rattle.pra_words.specs.declared.words.Mode.TheVariants as word
use Rattle.pra_words.specs.declared.words.WordsFault.{WordsFault}
use Rattle.pra_words.specs.Texts.{words_lines}
use Rattle.pra_words.specs.Words.{Asked}
use Rattle.pra_tool.specs.declared.compiler.Made.{Made}
use Rattle.pra_tool.specs.declared.status.Status.{Status}
use Rattle.pra_tool.specs.declared.status.Status.TheVariants.{Ended, OverLimit, BadWords, NoMemory}
use Rattle.pra_tool.specs.Inputs.{HasNumbers, inputs}
use Rattle.pra_tool.specs.Sources.{source_kind}
use Rattle.pra_tool.specs.Compiling.{MadeOf, ImageOver}
use Rattle.pra_tool.specs.Status.{IsStatusOf, IsRunStatus}
use Rattle.pra_tool.specs.Texts.{ending_line, image_over_line}
use Rattle.pra_tool.specs.Outside.{Seen, Refused, Untouched}
use Rattle.pra_tool.specs.Writes.{FileText, Writes, one_file, image_file, Stored}
use Rattle.pra_tool.specs.Modes.{Mode, Answers}
use Rattle.pra_tool.specs.Interpreted.{interp_makes}
use Rattle.pra_tool.specs.Listings.{IsTextOf, images, loadable, listings, ListMakes}
use Rattle.pra_tool.specs.Executed.{ExecMakes}
use Rattle.pra_tool.specs.Applied.{certificate_texts, ApplyMakes, ApplyRefuses}
use Rattle.pra_tool.specs.Certified.{CertMakes, CertOver, certificates, CheckMakes}
use Rattle.pra_tool.specs.declared.tool.Then.{Then}
use Rattle.pra_tool.specs.declared.tool.Then.TheVariants.{Run, Write, Interpret, Certify}

-- ---- what is written

-- the run of an image on an input within the steps
abbrev pub run_of : Image → List ℤ → ℕ → RunOut
run_of image input steps = machine_run image input steps

-- what `run` writes: the image, the output of its run within the steps, and as notes the report and
-- the run's ending line
abbrev pub run_writes : Asked → Compiled → List ℤ → Writes
run_writes asked compiled input = record {
  files = image_file asked.image compiled.image;
  out = output_text (run_of compiled.image input asked.steps).events;
  notes = report_text compiled.procs (length compiled.image.code)
      ++ ending_line (run_of compiled.image input asked.steps);
}

-- what `compile` writes: the image, and as output the report
abbrev pub compile_writes : Asked → Compiled → Writes
compile_writes asked compiled = record {
  files = image_file asked.image compiled.image;
  out = report_text compiled.procs (length compiled.image.code);
  notes = [];
}

-- What `run` makes of a source and an input: what the source is compiled to, and the status by the
-- ending of the image's run on the numbers of the input.
pub record RunMakes (kind : FileKind) (asked : Asked) (source input : List ℕ) (w : Writes)
    (s : Status) : Type 0 where
  pub made : Made
  pub made_of : MadeOf kind asked source made
  pub numbers : List ℤ
  pub has : HasNumbers input numbers
  pub writes : w ≡ run_writes asked made.compiled numbers
  pub ended : IsRunStatus kind (run_of made.compiled.image numbers asked.steps).ending s

-- What `compile` makes of a source; the input, which it does not read, counts as empty.
pub record CompileMakes (kind : FileKind) (asked : Asked) (source input : List ℕ) (w : Writes)
    (s : Status) : Type 0 where
  pub made : Made
  pub made_of : MadeOf kind asked source made
  pub no_input : input ≡ []
  pub writes : w ≡ compile_writes asked made.compiled
  pub done : s ≡ Ended

-- what `gen` tells of a module, whose text has so many bytes, and of its run, in four lines
abbrev pub summary : Asked → ℕ → Compiled → RunOut → List ℕ
summary asked bytes compiled run =
    generated_line asked.seed asked.size bytes
    ++ total_line compiled.procs (length compiled.image.code)
    ++ ending_line run
    ++ output_line (length (output_text run.events))

-- what `gen` writes: the module's text, its image, and as output what is told of them and of the
-- image's run on no input within the steps
abbrev pub gen_writes : Asked → List ℕ → Compiled → Writes
gen_writes asked text compiled = record {
  files = record { name = asked.file; bytes = text } ∷ image_file asked.image compiled.image;
  out = summary asked (length text) compiled (run_of compiled.image [] asked.steps);
  notes = [];
}

-- What `gen` makes of the text of the seed and the size: what it is compiled to, and the status by
-- the ending of the image's run on no input.
pub record GenMakes (asked : Asked) (source input : List ℕ) (w : Writes) (s : Status)
    : Type 0 where
  pub text : source ≡ module_text asked.seed asked.size
  pub made : Made
  pub made_of : MadeOf a_file.Module asked source made
  pub no_input : input ≡ []
  pub writes : w ≡ gen_writes asked source made.compiled
  pub ended : IsStatusOf (run_of made.compiled.image [] asked.steps).ending s

-- what `asm` writes: the image
abbrev pub asm_writes : Asked → Image → Writes
asm_writes asked image = record {
  files = image_file asked.image image;
  out = [];
  notes = [];
}

-- What `asm` makes of a text; the input, which it does not read, counts as empty.
pub record AsmMakes (asked : Asked) (text input : List ℕ) (w : Writes) (s : Status)
    : Type 0 where
  pub image : Image
  pub listed : IsTextOf text image
  pub no_input : input ≡ []
  pub writes : w ≡ asm_writes asked image
  pub done : s ≡ Ended

-- ---- the modes

-- what is made of a source of this kind
abbrev pub makes : Then → FileKind → Asked → List ℕ → List ℕ → Writes → Status → Type 0
makes Run = RunMakes
makes Write = CompileMakes
makes Interpret = interp_makes
makes Certify = CertMakes

-- A certificate that is too long is refused. So is code for which an image has no room, which of
-- a module there always is.
abbrev pub refuses : FileKind → Then → Asked → (source input line : List ℕ) → Status → Type 0
refuses a_file.Module Run asked source input line s = ⊥
refuses a_file.Module Write asked source input line s = ⊥
refuses a_file.Module Interpret asked source input line s = ⊥
refuses a_file.Module Certify asked source input line s =
    CertOver a_file.Module asked source input line s
refuses a_file.Code Run asked source input line s =
    ImageOver a_file.Code asked source input line s
refuses a_file.Code Write asked source input line s =
    ImageOver a_file.Code asked source input line s
refuses a_file.Code Interpret asked source input line s =
    ImageOver a_file.Code asked source input line s
refuses a_file.Code Certify asked source input line s =
    CertOver a_file.Code asked source input line s
    ⊎ ImageOver a_file.Code asked source input line s

-- An image has no room for so many bytes of the source's code: whatever the input is, if it is one,
-- that is told.
abbrev pub IsOver : Then → Asked → List ℕ → ℕ → Type 0
IsOver next asked source count = (input : List ℕ) → inputs.IsRight input →
    refuses asked.from next asked source input (image_over_line count) OverLimit

-- whether the input is read before that
abbrev pub takes_input : Then → Bool
takes_input Run = true
takes_input Write = false
takes_input Interpret = true
takes_input Certify = false

-- the files that are written
abbrev pub files_of : Then → Asked → List (List ℕ)
files_of Run asked = asked.image ∷ []
files_of Write asked = asked.image ∷ []
files_of Interpret asked = []
files_of Certify asked = []

-- FILE is a source of the kind that is asked for, which is compiled, and then this is done
abbrev pub compiling : Then → Asked → Mode
compiling next asked = record {
  source = source_kind asked.from;
  own = None;
  input = inputs;
  reads_input = takes_input next;
  Makes = makes next asked.from asked;
  Refuses = refuses asked.from next asked;
  files = files_of next asked;
  Leaves = Untouched;
}

-- FILE holds this text, no other file changed, and nothing else was written
pub record TextLeft (name text : List ℕ) (old new : Seen) : Type 0 where
  pub files : Stored (one_file name text) old.folder new.folder
  pub out : Keeps old.out.bytes new.out.bytes
  pub notes : Keeps old.notes.bytes new.notes.bytes

-- the source is made, compiled and run; where memory was wanting for the image's file, FILE may
-- hold the text
abbrev pub generating : Asked → Mode
generating asked = record {
  source = source_kind a_file.Module;
  own = Some (module_text asked.seed asked.size);
  input = inputs;
  reads_input = false;
  Makes = GenMakes asked;
  Refuses = λ source input line s. ⊥;
  files = asked.file ∷ asked.image ∷ [];
  Leaves = λ old new. Untouched old new ⊎
      TextLeft asked.file (module_text asked.seed asked.size) old new;
}

-- FILE is an image, which is listed
abbrev pub listing : Mode
listing = record {
  source = images;
  own = None;
  input = inputs;
  reads_input = false;
  Makes = ListMakes;
  Refuses = λ source input line s. ⊥;
  files = [];
  Leaves = Untouched;
}

-- FILE is the text of an image, which is assembled
abbrev pub assembling : Asked → Mode
assembling asked = record {
  source = listings;
  own = None;
  input = inputs;
  reads_input = false;
  Makes = AsmMakes asked;
  Refuses = λ source input line s. ⊥;
  files = asked.image ∷ [];
  Leaves = Untouched;
}

-- FILE is a certificate, which is tested
abbrev pub checking : Mode
checking = record {
  source = certificates;
  own = None;
  input = inputs;
  reads_input = false;
  Makes = CheckMakes;
  Refuses = λ source input line s. ⊥;
  files = [];
  Leaves = Untouched;
}

-- FILE is an image, which runs on the input
abbrev pub executing : Asked → Mode
executing asked = record {
  source = loadable;
  own = None;
  input = inputs;
  reads_input = true;
  Makes = ExecMakes asked;
  Refuses = λ source input line s. ⊥;
  files = [];
  Leaves = Untouched;
}

-- FILE is a source, which is compiled with the routes of the certificate that the input is
abbrev pub applying : Asked → Mode
applying asked = record {
  source = source_kind asked.from;
  own = None;
  input = certificate_texts;
  reads_input = true;
  Makes = ApplyMakes asked.from asked;
  Refuses = ApplyRefuses asked.from;
  files = asked.image ∷ [];
  Leaves = Untouched;
}

-- the mode of this word
abbrev pub mode_by : Word → Asked → Mode
mode_by word.Run asked = compiling Run asked
mode_by word.Compile asked = compiling Write asked
mode_by word.Gen asked = generating asked
mode_by word.List asked = listing
mode_by word.Asm asked = assembling asked
mode_by word.Interp asked = compiling Interpret asked
mode_by word.Cert asked = compiling Certify asked
mode_by word.Check asked = checking
mode_by word.Exec asked = executing asked
mode_by word.Apply asked = applying asked

abbrev pub reads_input : Word → Bool
reads_input word.Run = true
reads_input word.Interp = true
reads_input word.Exec = true
reads_input word.Apply = true
reads_input mode = false

-- the mode that is asked for
abbrev pub mode_of : Asked → Mode
mode_of asked = mode_by asked.mode asked

-- ---- the whole

-- The words are refused: their lines are told, unless memory was wanting, and nothing is read or
-- written.
pub record WordsRefused (fault : WordsFault) (old new : Seen) (status : Status) : Type 0 where
  pub known : (status ≡ BadWords) ⊎ (status ≡ NoMemory)
  pub told : status ≡ BadWords → Refused (words_lines fault) old new
  pub memory : status ≡ NoMemory → Untouched old new

-- the whole promise, by what the words ask for
abbrev pub Promise : Result Asked WordsFault → Seen → Seen → Status → Type 0
Promise (Err fault) old new status = WordsRefused fault old new status
Promise (Ok asked) old new status = Answers (mode_of asked) asked.file old new status

-- the words ask for a mode that reads the input
abbrev pub asks_input : Result Asked WordsFault → Bool
asks_input (Err fault) = false
asks_input (Ok asked) = reads_input asked.mode
