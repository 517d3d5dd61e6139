-- What stands behind the values of the code: the texts of a line, and what was asked.
use Rattle.std.specs.Prelude.{ℕ, List, Option, option_map}
use Rattle.std.specs.Borrow.{Bor}
use Rattle.pra_words.specs.declared.line.Line.{Line}
use Rattle.pra_words.specs.declared.words.Request.{Request}
use Rattle.pra_words.specs.CommandLine as line
use Rattle.pra_words.specs.Words.{Asked}

abbrev pub text_in : Option (Bor (List ℕ)) → Option (List ℕ)
text_in = option_map (λ s. s.now)

abbrev pub written : Line → line.Line
written l = record {
  mode = l.mode.now;
  file = l.file.now;
  rounds = text_in l.rounds;
  cost = text_in l.cost;
  steps = text_in l.steps;
  gap = text_in l.gap;
  from = text_in l.from;
  image = text_in l.image;
  seed = text_in l.seed;
  size = text_in l.size;
}

abbrev pub asked_by : Request → Asked
asked_by r = record {
  mode = r.mode;
  file = r.file.now;
  rounds = r.rounds;
  cost = r.cost;
  steps = r.steps;
  gap = r.gap;
  from = r.from;
  image = r.image.now;
  seed = r.seed;
  size = r.size;
}
