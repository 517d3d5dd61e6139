-- The simple command by which the line is read.
use Rattle.std.specs.Prelude.{true, List, [], ◌∷◌, Option, Some, None, codes, map, fold}
use Rattle.clap.specs.Kinds.{Kinds}
use Rattle.clap.specs.Walk.{Row, Rule, Text, first_of}
use Rattle.clap.specs.Simple.{App, matches_of, new_app, new_rule, on_top, with_rule}
use Rattle.clap.specs.Faults.{fault_of}
use Rattle.clap.specs.declared.builder.action.ArgAction.TheVariants.{Set}
use Rattle.pra_words.specs.declared.words.Word.TheVariants.{Mode, File}
use Rattle.pra_words.specs.Texts.{word_name}
use Rattle.pra_words.specs.CommandLine.{Line, line_in, options, option_name}

-- a value that is wanted, at its place in the line
abbrev pub wanted : Text → Rule
wanted name = record (new_rule name) { required = true; action = Some Set }

-- `--NAME`, with a value
abbrev pub option : Text → Text → Rule
option id name = record (new_rule id) { long = Some name; action = Some Set }

-- the line has no program's name, and `--help` is none of its words
abbrev pub bare : App
bare = on_top (λ s. record s { no_binary_name = true; disable_help_flag = true })
    (new_app (codes "pra"))

-- the rules of the words: MODE, FILE and the options
abbrev pub word_rules : List Rule
word_rules = wanted (word_name Mode) ∷ wanted (word_name File)
    ∷ map (λ word. option (word_name word) (option_name word)) options

abbrev pub command : App
command = fold with_rule bare word_rules

-- the values that the command's rows have
abbrev pub line_of_rows : List Row → Option Line
line_of_rows rows = line_in (λ word. first_of (word_name word) rows)

abbrev pub unless : Kinds → Option Line → Option Line
unless [] line = line
unless (kind ∷ kinds) line = None

-- the values that the command gives, where it takes the words
abbrev pub taken_line : List Text → Option Line
taken_line words = unless (fault_of command words) (line_of_rows (matches_of command words))
