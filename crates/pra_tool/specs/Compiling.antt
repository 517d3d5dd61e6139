-- What the code of a source is compiled to.
use Rattle.std.specs.Prelude.{◌≡◌, ℕ, ℤ, List}
use Rattle.net_cost.specs.declared.weights.Weights.{Weights}
use Rattle.net_cost.specs.Weights.{size_weights, speed_weights}
use Rattle.pra_compile.specs.Compiled.{Wanted, wanted_of, granted, IsBuilt, IsTooLong}
use Rattle.pra_words.specs.declared.words.CostWord.{CostWord}
use Rattle.pra_words.specs.declared.words.CostWord.TheVariants.{Size, Speed}
use Rattle.pra_words.specs.declared.words.FileKind.{FileKind}
use Rattle.pra_words.specs.Words.{Asked}
use Rattle.pra_tool.specs.declared.compiler.Made.{Made}
use Rattle.pra_tool.specs.declared.source.Sourced.{Sourced}
use Rattle.pra_tool.specs.declared.status.Status.{Status}
use Rattle.pra_tool.specs.declared.status.Status.TheVariants.{OverLimit}
use Rattle.pra_tool.specs.Inputs.{HasNumbers}
use Rattle.pra_tool.specs.Sources.{IsSourced}
use Rattle.pra_tool.specs.Texts.{image_over_line}

-- the weights that the word says
abbrev pub weights_by : CostWord → Weights
weights_by Size = size_weights
weights_by Speed = speed_weights

-- what is wanted of each procedure's registers
abbrev pub wanted_by : Asked → Wanted
wanted_by asked = wanted_of (weights_by asked.cost) asked.rounds asked.gap

-- This is what the code of the source is compiled to: a valid image that follows the code until
-- that gets stuck, with the frames that are told of its procedures, and that carries their codes
-- and flows. The flows are what the rounds leave that were asked for, and the lines are what these
-- rounds say of cost and bound. What the source means is kept beside it.
pub record MadeOf (kind : FileKind) (asked : Asked) (source : List ℕ) (made : Made)
    : Type 0 where
  pub sourced : Sourced
  pub is : IsSourced kind source sourced
  pub meaning : made.meaning ≡ sourced.meaning
  pub built : IsBuilt sourced.file (wanted_by asked) made.compiled

-- An image has no room for the code of the source, and the line tells how many bytes that has. The
-- input, which counts as empty where it is not read, has numbers.
pub record ImageOver (kind : FileKind) (asked : Asked) (source input line : List ℕ) (s : Status)
    : Type 0 where
  pub sourced : Sourced
  pub is : IsSourced kind source sourced
  pub numbers : List ℤ
  pub has : HasNumbers input numbers
  pub count : ℕ
  pub long : IsTooLong sourced.file (granted (wanted_by asked)) count
  pub line_is : line ≡ image_over_line count
  pub status_is : s ≡ OverLimit
