-- What is told of words that are refused.
use Rattle.std.specs.Prelude.{ℕ, List, [], ◌++◌, codes}
use Rattle.pra_words.specs.declared.words.Word.{Word}
use Rattle.pra_words.specs.declared.words.Word.TheVariants.{Mode, File, Rounds, Cost, Steps}
use Rattle.pra_words.specs.declared.words.Word.TheVariants.{Gap, From, Image, Seed, Size}
use Rattle.pra_words.specs.declared.words.WordsFault.{WordsFault}
use Rattle.pra_words.specs.declared.words.WordsFault.TheVariants.{Words, Value, OutOfMemory}

-- a word that has a value, as it is told
abbrev pub word_name : Word → List ℕ
word_name Mode = codes "MODE"
word_name File = codes "FILE"
word_name Rounds = codes "--rounds"
word_name Cost = codes "--cost"
word_name Steps = codes "--steps"
word_name Gap = codes "--gap"
word_name From = codes "--from"
word_name Image = codes "--image"
word_name Seed = codes "--seed"
word_name Size = codes "--size"

abbrev pub usage : List ℕ
usage = codes "usage: pra MODE FILE [--rounds N] [--cost size|speed] [--steps M]"
    ++ codes " [--gap G] [--from module|code] [--image NAME] [--seed S] [--size Z]\n"

-- what is wrong, and the usage line; want of memory has no line
abbrev pub words_lines : WordsFault → List ℕ
words_lines Words = codes "fault words\n" ++ usage
words_lines (Value word) = codes "fault value " ++ word_name word ++ codes "\n" ++ usage
words_lines OutOfMemory = []
