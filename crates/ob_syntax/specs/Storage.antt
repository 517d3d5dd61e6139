-- How many words values have, and where the parts of an array or a record lie. A word has 4 bytes.
-- INTEGER and BOOLEAN have one word; the elements of an array and the fields of a record follow one
-- another in order, without gaps.
use Rattle.std.specs.Prelude.{ℕ, ◌*◌, List, [], ◌∷◌, ◌++◌, map, sum, take, slice_index}
use Rattle.ob_syntax.specs.declared.checked.Shape.{Shape}
use Rattle.ob_syntax.specs.declared.checked.Shape.TheVariants.{Integer, Boolean, Array, Record}

-- the words of a type, from those of the types before it
abbrev pub shape_words : List ℕ → Shape → ℕ
shape_words before Integer = 1
shape_words before Boolean = 1
shape_words before (Array count element) = count * slice_index before element
shape_words before (Record fields) = sum (map (slice_index before) fields)

-- the words of each type, where before has those of the types in front
abbrev pub words_after : List ℕ → List Shape → List ℕ
words_after before [] = before
words_after before (shape ∷ shapes) = words_after (before ++ shape_words before shape ∷ []) shapes

-- the words of each type, by its number
abbrev pub all_words : List Shape → List ℕ
all_words shapes = words_after [] shapes

-- the words of the type of this number
abbrev pub type_words : List Shape → ℕ → ℕ
type_words shapes type_id = slice_index (all_words shapes) type_id

-- how many words lie in a record before field k, where fields has the types of all its fields
abbrev pub field_offset : List Shape → List ℕ → ℕ → ℕ
field_offset shapes fields k = sum (map (type_words shapes) (take k fields))

-- how many words lie in an array before element k, where the elements have this type
abbrev pub element_offset : List Shape → ℕ → ℕ → ℕ
element_offset shapes element k = k * type_words shapes element
