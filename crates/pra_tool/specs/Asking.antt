-- What is known of what is asked for, once the words were read.
use Rattle.std.specs.Prelude.{◌≡◌, ◌≢◌, ◌≤◌, true}
use Rattle.pra_words.specs.Words.{Asked, writes_image}

-- The numbers lie within what their words may say, and an image file that is written is not FILE.
pub record IsAnswerable (asked : Asked) : Type 0 where
  pub rounds : asked.rounds ≤ 1000
  pub seed : asked.seed ≤ 2147483647
  pub some : 1 ≤ asked.size
  pub size : asked.size ≤ 200
  pub apart : writes_image asked.mode ≡ true → asked.image ≢ asked.file
