-- What the simple command holds of the values that it was given.
use Rattle.std.proofs.Common.{◌≡◌, ◌∙◌, Bool, true, false, ◌&&◌, ◌||◌, if◌then◌else◌, List, [], ◌∷◌}
use Rattle.std.proofs.Common.{◌++◌, map, Some, None, refl, sym, ap, append-nil}
use Rattle.std.specs.Prelude.{unwrap_or}
use Rattle.std.proofs.lemmas.List.{map-append}
use Rattle.std.specs.List.{list_any}
use Rattle.std.specs.Str.{bytes_eq}
use Rattle.clap.specs.Kinds.{Kinds, or_else}
use Rattle.clap.specs.declared.error.kind.ErrorKind.TheVariants.{ArgumentConflict, InvalidValue}
use Rattle.clap.specs.declared.parser.matches.ValueSource.TheVariants.{CommandLine}
use Rattle.clap.specs.declared.builder.value_parser.Reading.{Reading}
use Rattle.clap.specs.Walk.{Held, Row, Rule, at_row, more_values, without, with_values, has_row}
use Rattle.clap.specs.Walk.{reading_by, used, settled, settled_rows, arg_by_id}
use Rattle.clap.specs.Simple.{Shape, built, new_rule}
use Rattle.clap.specs.Faults.{use_fault, settle_fault}
use Rattle.pra_words.specs.declared.words.Word.{Word}
use Rattle.pra_words.specs.declared.words.Word.TheVariants.{Mode}
use Rattle.pra_words.specs.Texts.{word_name}
use Rattle.pra_words.specs.CommandLine.{Text, Given, is_of}
use Rattle.pra_words.specs.Command.{command}

-- ---- the command as it is built

abbrev pub top : Shape
top = (built command).top

abbrev pub rules : List Rule
rules = top.rules

abbrev pub rule : Word → Rule
rule w = unwrap_or (arg_by_id rules (word_name w)) (new_rule [])

abbrev pub row : Given → Row
row g = record {
  id = word_name g.word;
  values = g.value ∷ [];
  count = None;
  source =
      Some CommandLine;
  reading = reading_by (rule g.word);
}

abbrev pub by : Word → Text → Given
by w v = record { word = w; value = v }

-- ---- rows

pub has : (w : Word) (gs : List Given) → has_row (word_name w) (map row gs) ≡ list_any (is_of w) gs
has w [] = refl
has w (g ∷ gs) = ap (λ b. is_of w g || b) (has w gs)

no_row : (id : Text) (change : Row → List Row) (missing rows : List Row) → has_row id rows ≡ false →
    at_row id change missing rows ≡ rows ++ missing
no_row id change missing [] e = refl
no_row id change missing (r ∷ rs) e = step (bytes_eq r.id id) e (no_row id change missing rs)
  where
    step : (b : Bool) → (b || has_row id rs) ≡ false →
        (has_row id rs ≡ false → at_row id change missing rs ≡ rs ++ missing) →
        (if b then change r ++ rs else r ∷ at_row id change missing rs) ≡ r ∷ (rs ++ missing)
    step true f k = cc
    step false f k = ap (λ t. r ∷ t) (k f)

put : (id : Text) (how : Reading) (v : Text) (rows : List Row) → has_row id rows ≡ false →
    with_values id how CommandLine (v ∷ []) (without id rows) ≡ rows
    ++ record { id = id; values = v ∷ []; count = None; source = Some CommandLine; reading = how } ∷
    []
put id how v rows e =
    ap (λ rs. with_values id how CommandLine (v ∷ []) rs)
    (no_row id (λ r. []) [] rows e ∙ append-nil rows)
    ∙ no_row id (more_values CommandLine (v ∷ [])) _ rows e

use_of : (w : Word) (v : Text) (rows : List Row) → used (rule w) (v ∷ []) rows ≡
    with_values (word_name w) (reading_by (rule w)) CommandLine (v ∷ [])
    (without (word_name w) rows)
use_of Mode v rows = refl
use_of _ v rows = refl

pub used_word : (w : Word) (v : Text) (rows : List Row) → has_row (word_name w) rows ≡ false →
    used (rule w) (v ∷ []) rows ≡ rows ++ row (by w v) ∷ []
used_word w v rows e = use_of w v rows ∙ put (word_name w) (reading_by (rule w)) v rows e

-- ---- one use

abbrev pub repeat : Bool → Kinds
repeat b = if b then ArgumentConflict ∷ [] else []

repeat_is : (b : Bool) → or_else (if b && true then ArgumentConflict ∷ [] else []) [] ≡ repeat b
repeat_is true = refl
repeat_is false = refl

one_use : (w : Word) (v : Text) (rows : List Row) → use_fault false (rule w) (v ∷ []) rows ≡
    or_else (if has_row (word_name w) rows && true then ArgumentConflict ∷ [] else []) []
one_use Mode v rows = refl
one_use _ v rows = refl

pub use_is : (w : Word) (v : Text) (rows : List Row) → use_fault false (rule w) (v ∷ []) rows ≡
    repeat (has_row (word_name w) rows)
use_is w v rows = one_use w v rows ∙ repeat_is (has_row (word_name w) rows)

pub no_value : (w : Word) (rows : List Row) → use_fault false (rule w) [] rows ≡ InvalidValue ∷ []
no_value Mode rows = refl
no_value _ rows = refl

-- ---- what is held

abbrev pub held : List Given → Held
held gs = record { rows = map row gs; pending = None; skip = 0 }

abbrev pub pending : List Given → Word → List Text → Held
pending gs w vs = record { rows = map row gs; pending = Some (word_name w, vs); skip = 0 }

-- these values are held, one of them perhaps still waiting
pub record Good (h : Held) (gs : List Given) : Type 0 where
  pub skip : h.skip ≡ 0
  pub clean : settle_fault rules false h ≡ []
  pub settles : settled rules h ≡ held gs

pub good_held : (gs : List Given) → Good (held gs) gs
good_held gs = record { skip = refl; clean = refl; settles = refl }

pub settle_word : (w : Word) (vs : List Text) (gs : List Given) →
    settle_fault rules false (pending gs w vs) ≡ use_fault false (rule w) vs (map row gs)
settle_word Mode vs gs = refl
settle_word _ vs gs = refl

rows_word : (w : Word) (v : Text) (rows : List Row) →
    settled_rows rules (Some (word_name w, v ∷ [])) rows ≡ used (rule w) (v ∷ []) rows
rows_word Mode v rows = refl
rows_word _ v rows = refl

pub settle_pending : (gs : List Given) (w : Word) (v : Text) →
    settle_fault rules false (pending gs w (v ∷ [])) ≡ repeat (list_any (is_of w) gs)
settle_pending gs w v = settle_word w (v ∷ []) gs ∙ use_is w v (map row gs) ∙ ap repeat (has w gs)

pub one_more : (gs : List Given) (w : Word) (v : Text) → list_any (is_of w) gs ≡ false →
    used (rule w) (v ∷ []) (map row gs) ≡ map row (gs ++ by w v ∷ [])
one_more gs w v e = used_word w v (map row gs) (has w gs ∙ e)
    ∙ sym (map-append row gs (by w v ∷ []))

pub good_pending : (gs : List Given) (w : Word) (v : Text) → list_any (is_of w) gs ≡ false →
    Good (pending gs w (v ∷ [])) (gs ++ by w v ∷ [])
good_pending gs w v e = record {
  skip = refl;
  clean = settle_pending gs w v ∙ ap repeat e;
  settles = ap (λ rows. record { rows = rows; pending = None; skip = 0 })
      (rows_word w v (map row gs) ∙ one_more gs w v e);
}
