-- The parts of a variable that a target names are named by the shifted target.
use Rattle.std.proofs.Common.{◌≡◌, ℕ, ◌+◌, ◌*◌, ◌<◌, true, false, List, length, map, take, Some}
use Rattle.std.proofs.Common.{None, refl, ap, ◌∙◌, ⊎_elim, arith}
use Rattle.std.specs.Prelude.{ℤ, pos, ◌+ℤ◌, sum, slice_index, nat_eq, nat_lt, unwrap_or}
use Rattle.std.specs.Prelude.{if◌then◌else◌}
use Rattle.std.proofs.lemmas.Bool.{ltb-true, lt-ltb, eqb-true, or_cases}
use Rattle.std.proofs.lemmas.Option.{slice_get-get_or}
use Rattle.pra_base.specs.declared.code.Addr.{Addr}
use Rattle.ob_syntax.specs.Expressions.{integer, boolean}
use Rattle.ob_syntax.specs.Storage.{all_words}
use Rattle.ob_syntax.specs.WellFormed.{is_scalar}
use Rattle.ob_syntax.specs.declared.checked.Checked.{Checked}
use Rattle.ob_syntax.specs.declared.checked.Shape.{Shape}
use Rattle.ob_syntax.specs.declared.checked.Shape.TheVariants.{Integer, Boolean, Array, Record}
use Rattle.ob_mean.specs.Designators.{shape_of, array_length, element_type, field_types, field_type}
use Rattle.ob_mean.specs.Store.{part}
use Rattle.ob_mean.specs.declared.store.LiveCall.{LiveCall}
use Rattle.ob_mean.specs.declared.store.Location.{Location}
use Rattle.vc_code.specs.Machine.{State}
use Rattle.vc_code.specs.Selected.{Vars}
use Rattle.vc_build.specs.Runs.{Codes}
use Rattle.vc_relation.specs.Layout.{part_in, words_before, TypesInOrder, IsLaidOut}
use Rattle.vc_select.specs.declared.target.Target.{Target}
use Rattle.vc_select.specs.declared.target.Target.TheVariants.{Var, Memory}
use Rattle.vc_select.specs.Targets.{shifted, words_to_field, IsWord, IsNamed}
use Rattle.vc_typed.specs.Typing.{is_array}
use Rattle.vc_select.proofs.Placing.{part_is}

-- a scalar is no record and no array
pub scalar_shape : (shapes : List Shape) → TypesInOrder shapes → (t : ℕ) → is_scalar t ≡ true →
    (length (field_types (shape_of shapes t)) ≡ 0) × (is_array (shape_of shapes t) ≡ false)
scalar_shape shapes ordered t e =
    ⊎_elim
    (λ (a : nat_eq t integer ≡ true). both Integer
    (ap (shape_of shapes) (eqb-true t integer a) ∙ ap (λ o. unwrap_or o Integer) ordered.first)
    refl refl)
    (λ (b : nat_eq t boolean ≡ true). both Boolean
    (ap (shape_of shapes) (eqb-true t boolean b) ∙ ap (λ o. unwrap_or o Integer) ordered.second)
    refl refl)
    (or_cases (nat_eq t integer) (nat_eq t boolean) e)
  where
    both : (s : Shape) → shape_of shapes t ≡ s → length (field_types s) ≡ 0 → is_array s ≡ false →
        (length (field_types (shape_of shapes t)) ≡ 0) × (is_array (shape_of shapes t) ≡ false)
    both s is f a = (ap (λ x. length (field_types x)) is ∙ f, ap is_array is ∙ a)

module _ (program : Checked) (laid : IsLaidOut program) (w : Codes) (calls : List LiveCall)
    (s : State Vars) where
  abbrev types : List Shape
  types = program.types

  offset_on : (a : ℤ) (offset d : ℕ) → a ≡ pos offset → a +ℤ pos (4 * d) ≡ pos (offset + 4 * d)
  offset_on a offset d e = ap (λ z. z +ℤ pos (4 * d)) e

  word_shifted : (a : Addr) (l : Location) (type_id k element d : ℕ) →
      IsWord program w calls s a l type_id → part_in (shape_of types type_id) k ≡ Some element →
      d ≡ words_before types (shape_of types type_id) k →
      IsWord program w calls s (record a { offset = a.offset +ℤ pos (4 * d) }) (part l k) element
  word_shifted a l type_id k element d x there is = record {
    object = x.object;
    word = x.word + words_before types (shape_of types type_id) k;
    place = part_is program w.frames calls laid l x.object x.word type_id k element x.place there;
    begin = x.begin;
    offset = x.offset + 4 * d;
    index = x.index;
    base_is = x.base_is;
    offset_is = offset_on a.offset x.offset d x.offset_is;
    index_is = x.index_is;
    sum = omega (arith, x.sum, is);
  }

  -- what has parts is no variable of the code
  pub named_shifted : (target : Target) (l : Location) (type_id k element d : ℕ) →
      IsNamed program w calls s target l type_id → (is_scalar type_id ≡ true → ⊥) →
      part_in (shape_of types type_id) k ≡ Some element →
      d ≡ words_before types (shape_of types type_id) k →
      IsNamed program w calls s (shifted d target) (part l k) element
  named_shifted (Var v) l type_id k element d x apart there is = absurd (apart x.scalar)
  named_shifted (Memory a) l type_id k element d x apart there is =
      word_shifted a l type_id k element d x there is

  -- ---- fields

  field_part : (s : Shape) (k : ℕ) → k < length (field_types s) → part_in s k ≡
      Some (field_type s k)
  field_part (Record fields) k lt = slice_get-get_or fields k 0 lt
  field_part Integer k lt = absurd (omega (arith, lt))
  field_part Boolean k lt = absurd (omega (arith, lt))
  field_part (Array count element) k lt = absurd (omega (arith, lt))

  field_before : (words : List ℕ) → words ≡ all_words types → (s : Shape) (k : ℕ) →
      k < length (field_types s) → words_to_field words (field_types s) k ≡ words_before types s k
  field_before words e (Record fields) k lt = ap (λ ws. sum (map (slice_index ws) (take k fields)))
      e
  field_before words e Integer k lt = absurd (omega (arith, lt))
  field_before words e Boolean k lt = absurd (omega (arith, lt))
  field_before words e (Array count element) k lt = absurd (omega (arith, lt))

  no_scalar_field : (type_id k : ℕ) → k < length (field_types (shape_of types type_id)) →
      is_scalar type_id ≡ true → ⊥
  no_scalar_field type_id k lt e = omega (arith, lt, (scalar_shape types laid.types type_id e).0)

  pub field_named : (words : List ℕ) → words ≡ all_words types → (target : Target) (l : Location)
      (type_id k : ℕ) → nat_lt k (length (field_types (shape_of types type_id))) ≡ true →
      IsNamed program w calls s target l type_id →
      IsNamed program w calls s
      (shifted (words_to_field words (field_types (shape_of types type_id)) k) target)
      (part l k) (field_type (shape_of types type_id) k)
  field_named words e target l type_id k has x =
      let lt = ltb-true k (length (field_types (shape_of types type_id))) has in
      named_shifted target l type_id k (field_type (shape_of types type_id) k)
      (words_to_field words (field_types (shape_of types type_id)) k) x
      (no_scalar_field type_id k lt)
      (field_part (shape_of types type_id) k lt)
      (field_before words e (shape_of types type_id) k lt)

  -- ---- elements

  pub element_part : (s : Shape) (k : ℕ) → k < array_length s → part_in s k ≡ Some (element_type s)
  element_part (Array count element) k lt = ap (λ b. if b then Some element else None)
      (lt-ltb k count lt)
  element_part Integer k lt = absurd (omega (arith, lt))
  element_part Boolean k lt = absurd (omega (arith, lt))
  element_part (Record fields) k lt = absurd (omega (arith, lt))

  pub element_before : (words : List ℕ) → words ≡ all_words types → (s : Shape) (k : ℕ) →
      k < array_length s → k * slice_index words (element_type s) ≡ words_before types s k
  element_before words e (Array count element) k lt = ap (λ ws. k * slice_index ws element) e
  element_before words e Integer k lt = absurd (omega (arith, lt))
  element_before words e Boolean k lt = absurd (omega (arith, lt))
  element_before words e (Record fields) k lt = absurd (omega (arith, lt))

  pub no_scalar_element : (type_id k : ℕ) → k < array_length (shape_of types type_id) →
      is_scalar type_id ≡ true → ⊥
  no_scalar_element type_id k lt e = no_array (shape_of types type_id) k lt
      (scalar_shape types laid.types type_id e).1
    where
      no_array : (s : Shape) (k : ℕ) → k < array_length s → is_array s ≡ false → ⊥
      no_array (Array count element) k lt' d = cc
      no_array Integer k lt' d = omega (arith, lt')
      no_array Boolean k lt' d = omega (arith, lt')
      no_array (Record fields) k lt' d = omega (arith, lt')

  pub element_named : (words : List ℕ) → words ≡ all_words types → (target : Target) (l : Location)
      (type_id k : ℕ) → k < array_length (shape_of types type_id) →
      IsNamed program w calls s target l type_id →
      IsNamed program w calls s
      (shifted (k * slice_index words (element_type (shape_of types type_id))) target)
      (part l k) (element_type (shape_of types type_id))
  element_named words e target l type_id k lt x =
      named_shifted target l type_id k (element_type (shape_of types type_id))
      (k * slice_index words (element_type (shape_of types type_id))) x
      (no_scalar_element type_id k lt)
      (element_part (shape_of types type_id) k lt)
      (element_before words e (shape_of types type_id) k lt)
