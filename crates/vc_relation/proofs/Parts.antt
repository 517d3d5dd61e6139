-- Parts of variables lie within them, and apart.
use Rattle.std.proofs.Common.{◌≡◌, ℕ, zero, suc, ◌+◌, ◌*◌, ◌<◌, ◌≤◌, true, List, [], ◌∷◌, ◌++◌}
use Rattle.std.proofs.Common.{length, map, sum, take, Option, Some, None, refl, sym, ap, ◌∙◌, subst}
use Rattle.std.proofs.Common.{arith, length-append, ◌⊎◌, ⊎_elim}
use Rattle.std.specs.Prelude.{slice_get, slice_index, nat_eq, nat_lt, get_or, unwrap_or}
use Rattle.std.proofs.Math.ListN.{get_or-append}
use Rattle.std.proofs.Math.Seq.{get_or-append_seam}
use Rattle.std.proofs.Math.Nat.{suc-mul}
use Rattle.std.proofs.lemmas.Nat.{mul-le}
use Rattle.std.proofs.lemmas.List.{take_all}
use Rattle.std.proofs.lemmas.List.Sums.{sum_by-cons}
use Rattle.std.proofs.lemmas.Bool.{ltb-true, eqb-true, or_cases, cases_order}
use Rattle.std.proofs.lemmas.Option.{slice_get-get_or, slice_get_within, cond_some}
use Rattle.pra_list.specs.Options.{◌>>=◌}
use Rattle.pra_list.proofs.Options.{some_same, none_some, bind_some}
use Rattle.ob_syntax.specs.declared.checked.Shape.{Shape}
use Rattle.ob_syntax.specs.declared.checked.Shape.TheVariants.{Integer, Boolean, Array, Record}
use Rattle.ob_syntax.specs.Expressions.{integer, boolean}
use Rattle.ob_syntax.specs.Storage.{shape_words, words_after, all_words, type_words}
use Rattle.ob_syntax.specs.WellFormed.{is_scalar}
use Rattle.ob_mean.specs.Designators.{shape_of}
use Rattle.vc_relation.specs.Layout.{part_in, words_before, Part, further, part_along, NamesBelow}
use Rattle.vc_relation.specs.Layout.{TypesInOrder}

-- ---- the words of a type are those of its parts

module _ (n : ℕ) (xs ys : List ℕ) (same : (i : ℕ) → i < n → slice_index xs i ≡ slice_index ys i)
  where
    same_all : (fields : List ℕ) → ((k field : ℕ) → slice_get fields k ≡ Some field → field < n) →
        map (slice_index xs) fields ≡ map (slice_index ys) fields
    same_all [] below = refl
    same_all (field ∷ fields) below =
        ap (λ w. w ∷ map (slice_index xs) fields) (same field (below 0 field refl))
        ∙ ap (λ ws. slice_index ys field ∷ ws) (same_all fields (λ k f e. below (suc k) f e))

    same_words : (shape : Shape) → NamesBelow n shape → shape_words xs shape ≡ shape_words ys shape
    same_words Integer below = refl
    same_words Boolean below = refl
    same_words (Array count element) below = ap (λ w. count * w) (same element below)
    same_words (Record fields) below = ap sum (same_all fields below)

kept : (shapes : List Shape) (before : List ℕ) (i : ℕ) → i < length before →
    slice_index (words_after before shapes) i ≡ slice_index before i
kept [] before i lt = refl
kept (shape ∷ shapes) before i lt =
    kept shapes (before ++ shape_words before shape ∷ []) i
    (omega (arith, lt, length-append before (shape_words before shape ∷ [])))
    ∙ get_or-append before (shape_words before shape ∷ []) 0 i lt

words_there : (shapes : List Shape) (before : List ℕ) (j : ℕ) (shape : Shape) → slice_get shapes j ≡
    Some shape → NamesBelow (length before + j) shape →
    slice_index (words_after before shapes) (length before + j) ≡
    shape_words (words_after before shapes) shape
words_there [] before j shape e below = absurd (none_some e)
words_there (first ∷ shapes) before zero shape e below =
    let at : length before + 0 ≡ length before = omega arith in
    let is : first ≡ shape = some_same first shape e in
    let whole = words_after (before ++ shape_words before first ∷ []) shapes in
    let lt : length before < length (before ++ shape_words before first ∷ []) =
    omega (arith, length-append before (shape_words before first ∷ [])) in
    ap (slice_index whole) at
    ∙ kept shapes (before ++ shape_words before first ∷ []) (length before) lt
    ∙ get_or-append_seam before (shape_words before first) [] 0
    ∙ ap (shape_words before) is
    ∙ same_words (length before) before whole (λ i h. sym (kept (first ∷ shapes) before i h)) shape
    (subst (λ n. NamesBelow n shape) at below)
words_there (first ∷ shapes) before (suc j) shape e below =
    let next = before ++ shape_words before first ∷ [] in
    let at : length before + suc j ≡ length next + j =
    omega (arith, length-append before (shape_words before first ∷ [])) in
    ap (slice_index (words_after next shapes)) at
    ∙ words_there shapes next j shape e (subst (λ n. NamesBelow n shape) at below)

-- ---- sums of words up to a field

sum_cons : (x : ℕ) (xs : List ℕ) → sum (x ∷ xs) ≡ x + sum xs
sum_cons x xs = sum_by-cons (λ n. n) x xs

module _ (f : ℕ → ℕ) where
  fields_apart : (xs : List ℕ) (j k x : ℕ) → slice_get xs j ≡ Some x → j < k →
      sum (map f (take j xs)) + f x ≤ sum (map f (take k xs))
  fields_apart [] j k x e lt = absurd (none_some e)
  fields_apart (y ∷ ys) zero zero x e lt = absurd (omega (arith, lt))
  fields_apart (y ∷ ys) zero (suc k) x e lt =
      let is : f y ≡ f x = ap f (some_same y x e) in
      omega (arith, is, sum_cons (f y) (map f (take k ys)))
  fields_apart (y ∷ ys) (suc j) zero x e lt = absurd (omega (arith, lt))
  fields_apart (y ∷ ys) (suc j) (suc k) x e lt =
      omega (
        arith,
        sum_cons (f y) (map f (take j ys)),
        sum_cons (f y) (map f (take k ys)),
        fields_apart ys j k x e (omega (arith, lt)),
      )

  fields_within : (xs : List ℕ) (j x : ℕ) → slice_get xs j ≡ Some x →
      sum (map f (take j xs)) + f x ≤ sum (map f xs)
  fields_within xs j x e =
      subst (λ all. sum (map f (take j xs)) + f x ≤ sum (map f all))
      (take_all (length xs) xs (omega arith))
      (fields_apart xs j (length xs) x e (slice_get_within xs j x e))

-- ---- parts of one shape

module _ (shapes : List Shape) where
  part_room : (shape : Shape) (k part : ℕ) → part_in shape k ≡ Some part →
      words_before shapes shape k + type_words shapes part ≤ shape_words (all_words shapes) shape
  part_room Integer k part e = absurd (none_some e)
  part_room Boolean k part e = absurd (none_some e)
  part_room (Array count element) k part e =
      let parts = cond_some (nat_lt k count) element part e in
      let lt : k < count = ltb-true k count parts.0 in
      let w : type_words shapes element ≡ type_words shapes part = ap (type_words shapes) parts.1 in
      omega (
        arith,
        w,
        suc-mul k (type_words shapes element),
        mul-le (suc k) (type_words shapes element) count (type_words shapes element)
            (omega (arith, lt)) (omega arith),
      )
  part_room (Record fields) k part e = fields_within (type_words shapes) fields k part e

  pub parts_apart : (shape : Shape) (j k one other : ℕ) → j < k → part_in shape j ≡ Some one →
      part_in shape k ≡ Some other →
      words_before shapes shape j + type_words shapes one ≤ words_before shapes shape k
  parts_apart Integer j k one other lt e d = absurd (none_some e)
  parts_apart Boolean j k one other lt e d = absurd (none_some e)
  parts_apart (Array count element) j k one other lt e d =
      let w : type_words shapes element ≡ type_words shapes one =
      ap (type_words shapes) (cond_some (nat_lt j count) element one e).1 in
      omega (
        arith,
        w,
        suc-mul j (type_words shapes element),
        mul-le (suc j) (type_words shapes element) k (type_words shapes element)
            (omega (arith, lt)) (omega arith),
      )
  parts_apart (Record fields) j k one other lt e d = fields_apart (type_words shapes) fields j k one
      e lt

part_below : (n : ℕ) (shape : Shape) (k part : ℕ) → NamesBelow n shape → part_in shape k ≡
    Some part → part < n
part_below n Integer k part below e = absurd (none_some e)
part_below n Boolean k part below e = absurd (none_some e)
part_below n (Array count element) k part below e =
    subst (λ m. m < n) (cond_some (nat_lt k count) element part e).1 below
part_below n (Record fields) k part below e = below k part e

-- ---- parts along a path

module _ (shapes : List Shape) (ordered : TypesInOrder shapes) where
  pub words_are : (t : ℕ) (shape : Shape) → slice_get shapes t ≡ Some shape → type_words shapes t ≡
      shape_words (all_words shapes) shape
  words_are t shape e =
      let at : 0 + t ≡ t = omega arith in
      ap (slice_index (all_words shapes)) (sym at) ∙ words_there shapes [] t shape e
      (subst (λ n. NamesBelow n shape) (sym at) (ordered.below t shape e))

  shape_there : (t : ℕ) → t < length shapes → slice_get shapes t ≡ Some (shape_of shapes t)
  shape_there t lt =
      let e : slice_get shapes t ≡ Some (get_or shapes t Integer) =
      slice_get-get_or shapes t Integer lt in
      e ∙ ap Some (sym (ap (λ (o : Option Shape). unwrap_or o Integer) e))

  pub scalar_words : (t : ℕ) → is_scalar t ≡ true → type_words shapes t ≡ 1
  scalar_words t e =
      ⊎_elim
      (λ (a : nat_eq t integer ≡ true). ap (type_words shapes) (eqb-true t integer a)
      ∙ words_are integer Integer ordered.first)
      (λ (b : nat_eq t boolean ≡ true). ap (type_words shapes) (eqb-true t boolean b)
      ∙ words_are boolean Boolean ordered.second)
      (or_cases (nat_eq t integer) (nat_eq t boolean) e)

  pub scalar_within : (t : ℕ) → is_scalar t ≡ true → t < length shapes
  scalar_within t e =
      ⊎_elim
      (λ (a : nat_eq t integer ≡ true). subst (λ n. n < length shapes) (sym (eqb-true t integer a))
      (slice_get_within shapes integer Integer ordered.first))
      (λ (b : nat_eq t boolean ≡ true). subst (λ n. n < length shapes) (sym (eqb-true t boolean b))
      (slice_get_within shapes boolean Boolean ordered.second))
      (or_cases (nat_eq t integer) (nat_eq t boolean) e)

  module _ (t : ℕ) (within : t < length shapes) (k part : ℕ)
      (there : part_in (shape_of shapes t) k ≡ Some part) where
    part_is_below : part < t
    part_is_below = part_below t (shape_of shapes t) k part
        (ordered.below t (shape_of shapes t) (shape_there t within)) there

    part_fits : words_before shapes (shape_of shapes t) k + type_words shapes part ≤
        type_words shapes t
    part_fits = subst (λ n. words_before shapes (shape_of shapes t) k + type_words shapes part ≤ n)
        (sym (words_are t (shape_of shapes t) (shape_there t within)))
        (part_room shapes (shape_of shapes t) k part there)

  abbrev part_from : ℕ → ℕ → List ℕ → ℕ → Option Part
  part_from t k path element = part_along shapes element path >>= λ p. Some
      (further (words_before shapes (shape_of shapes t) k) p)

  pub lies_within : (t : ℕ) (path : List ℕ) (p : Part) → t < length shapes →
      part_along shapes t path ≡ Some p → p.word + type_words shapes p.type_id ≤ type_words shapes t
  lies_within t [] p within e =
      let is = some_same (record { word = 0; type_id = t }) p e in
      let a : 0 ≡ p.word = ap (λ (q : Part). q.word) is in
      let b : type_words shapes t ≡ type_words shapes p.type_id =
      ap (λ (q : Part). type_words shapes q.type_id) is in
      omega (arith, a, b)
  lies_within t (k ∷ path) p within e =
      let one = bind_some (part_in (shape_of shapes t) k) (part_from t k path) p e in
      let two = bind_some (part_along shapes one.0 path)
      (λ q. Some (further (words_before shapes (shape_of shapes t) k) q)) p one.2 in
      let is = some_same (further (words_before shapes (shape_of shapes t) k) two.0) p two.2 in
      let a : words_before shapes (shape_of shapes t) k + two.0.word ≡ p.word =
      ap (λ (q : Part). q.word) is in
      let b : type_words shapes two.0.type_id ≡ type_words shapes p.type_id =
      ap (λ (q : Part). type_words shapes q.type_id) is in
      let below = part_is_below t within k one.0 one.1 in
      omega (
        arith,
        a,
        b,
        part_fits t within k one.0 one.1,
        lies_within one.0 path two.0
            (omega (arith, below, within)) two.1,
      )

  no_parts : (t : ℕ) → is_scalar t ≡ true → (k : ℕ) → part_in (shape_of shapes t) k ≡ None
  no_parts t e k =
      ⊎_elim
      (λ (a : nat_eq t integer ≡ true). ap (λ n. part_in (shape_of shapes n) k)
      (eqb-true t integer a) ∙ ap (λ o. part_in (unwrap_or o Integer) k) ordered.first)
      (λ (b : nat_eq t boolean ≡ true). ap (λ n. part_in (shape_of shapes n) k)
      (eqb-true t boolean b) ∙ ap (λ o. part_in (unwrap_or o Integer) k) ordered.second)
      (or_cases (nat_eq t integer) (nat_eq t boolean) e)

  -- a scalar has no part, so no path leads on from it
  no_path : (t k : ℕ) (path : List ℕ) (p q : Part) → part_along shapes t [] ≡ Some p →
      is_scalar p.type_id ≡ true → part_along shapes t (k ∷ path) ≡ Some q → ⊥
  no_path t k path p q here scalar there =
      let is = some_same (record { word = 0; type_id = t }) p here in
      let at : is_scalar t ≡ true = ap (λ (r : Part). is_scalar r.type_id) is ∙ scalar in
      let one = bind_some (part_in (shape_of shapes t) k) (part_from t k path) q there in
      none_some (sym (no_parts t at k) ∙ one.1)

  -- the first step to a part, and the rest of the path
  record Steps (t k : ℕ) (path : List ℕ) (p : Part) : Type 0 where
    element : ℕ
    inner : Part
    step : part_in (shape_of shapes t) k ≡ Some element
    rest : part_along shapes element path ≡ Some inner
    word : p.word ≡ words_before shapes (shape_of shapes t) k + inner.word
    type_is : inner.type_id ≡ p.type_id

  steps : (t k : ℕ) (path : List ℕ) (p : Part) → part_along shapes t (k ∷ path) ≡ Some p →
      Steps t k path p
  steps t k path p e =
      let one = bind_some (part_in (shape_of shapes t) k) (part_from t k path) p e in
      let two = bind_some (part_along shapes one.0 path)
      (λ q. Some (further (words_before shapes (shape_of shapes t) k) q)) p one.2 in
      let is = some_same (further (words_before shapes (shape_of shapes t) k) two.0) p two.2 in
      record {
        element = one.0;
        inner = two.0;
        step = one.1;
        rest = two.1;
        word =
            sym (ap (λ (q : Part). q.word) is);
        type_is = ap (λ (q : Part). q.type_id) is;
      }

  -- a part behind another one
  behind : (t j k : ℕ) (one other : List ℕ) (p q : Part) → t < length shapes →
      part_along shapes t (j ∷ one) ≡ Some p → part_along shapes t (k ∷ other) ≡ Some q →
      is_scalar p.type_id ≡ true → j < k → p.word < q.word
  behind t j k one other p q within there also scalar lt =
      let a = steps t j one p there in
      let b = steps t k other q also in
      let below = part_is_below t within j a.element a.step in
      let room = lies_within a.element one a.inner (omega (arith, below, within)) a.rest in
      let word : type_words shapes a.inner.type_id ≡ 1 = scalar_words a.inner.type_id
      (ap is_scalar a.type_is ∙ scalar) in
      omega (
        arith,
        a.word,
        b.word,
        room,
        word,
        parts_apart shapes (shape_of shapes t) j k a.element
            b.element lt a.step b.step,
      )

  -- scalars at one word are one part
  pub one_path : (t : ℕ) (one other : List ℕ) (p q : Part) → t < length shapes →
      part_along shapes t one ≡ Some p → part_along shapes t other ≡ Some q → is_scalar p.type_id ≡
      true → is_scalar q.type_id ≡ true → p.word ≡ q.word → one ≡ other
  one_path t [] [] p q within e d s r same = refl
  one_path t [] (k ∷ other) p q within e d s r same = absurd (no_path t k other p q e s d)
  one_path t (j ∷ one) [] p q within e d s r same = absurd (no_path t j one q p d r e)
  one_path t (j ∷ one) (k ∷ other) p q within e d s r same =
      ⊎_elim
      (λ (at : j ≡ k).
      let a = steps t j one p e in
      let b = steps t k other q d in
      let element : a.element ≡ b.element = some_same a.element b.element
      (sym a.step ∙ ap (part_in (shape_of shapes t)) at ∙ b.step) in
      let before : words_before shapes (shape_of shapes t) j ≡ words_before shapes
      (shape_of shapes t) k = ap (words_before shapes (shape_of shapes t)) at in
      let below = part_is_below t within k b.element b.step in
      let rest = one_path b.element one other a.inner b.inner (omega (arith, below, within))
      (subst (λ n. part_along shapes n one ≡ Some a.inner) element a.rest) b.rest
      (ap is_scalar a.type_is ∙ s) (ap is_scalar b.type_is ∙ r)
      (omega (arith, a.word, b.word, before, same)) in
      ap (λ n. n ∷ one) at ∙ ap (λ l. k ∷ l) rest)
      (λ (apart : (j < k) ⊎ (k < j)).
      ⊎_elim
      (λ (lt : j < k). absurd (omega (arith, same, behind t j k one other p q within e d s lt)))
      (λ (lt : k < j). absurd (omega (arith, same, behind t k j other one q p within d e r lt)))
      apart)
      (cases_order j k)
