-- Lists of places beside strands that are told one after the other.
use Rattle.std.proofs.Common.{◌≡◌, ◌≢◌, get_or, ℕ, zero, suc, ◌+◌, ◌-◌, ◌<◌, ◌≤◌, Bool, true, false}
use Rattle.std.proofs.Common.{List, []}
use Rattle.std.proofs.Common.{◌∷◌, ◌++◌, length, drop, slice_get, Option, Some, None}
use Rattle.std.proofs.Common.{option_to_list}
use Rattle.std.proofs.Common.{if◌then◌else◌, nat_eq, refl, sym, ap, ◌∙◌, arith}
use Rattle.std.specs.List.{range_with_len, flat_map, filter_map, cons_option}
use Rattle.std.proofs.lemmas.Bool.{eqb-true, eq-eqb, ne_eqb}
use Rattle.std.proofs.lemmas.List.{drop_all}
use Rattle.std.proofs.lemmas.Option.{slice_get_read}
use Rattle.pra_list.proofs.Elements.{nothing_left, left_begins}
use Rattle.pra_list.proofs.Options.{some_same}
use Rattle.pra_base.specs.declared.ids.Place.{Place}
use Rattle.net_form.specs.declared.net.Strand.{Strand}
use Rattle.net_form.specs.Flow.{HasPlaces}
use Rattle.net_build.specs.Fitting.{is_placed, behind}

-- ---- some strands, and more behind them

pub went_on : (ss ts : List Strand) (lists : List (List Place)) (k n : ℕ) →
    Some n ≡ behind ss lists k → behind (ss ++ ts) lists k ≡ behind ts lists n
unfolding behind
went_on [] ts lists k n went = ap (behind ts lists) (sym (some_same n k went))
went_on (s ∷ ss) ts lists k n went = by_first (is_placed s (slice_get lists k)) went
    (λ rest. went_on ss ts lists (k + 1) n rest)
  where
    by_first : (long : Bool) → Some n ≡ (if long then behind ss lists (k + 1) else None) →
        (Some n ≡ behind ss lists (k + 1) →
        behind (ss ++ ts) lists (k + 1) ≡ behind ts lists n) →
        (if long then behind (ss ++ ts) lists (k + 1) else None) ≡ behind ts lists n
    by_first true went rest = rest went
    by_first false went rest = cc

pub stopped : (ss ts : List Strand) (lists : List (List Place)) (k : ℕ) →
    None ≡ behind ss lists k → None ≡ behind (ss ++ ts) lists k
unfolding behind
stopped [] ts lists k stop = cc
stopped (s ∷ ss) ts lists k stop = by_first (is_placed s (slice_get lists k)) stop
    (λ rest. stopped ss ts lists (k + 1) rest)
  where
    by_first : (long : Bool) → None ≡ (if long then behind ss lists (k + 1) else None) →
        (None ≡ behind ss lists (k + 1) → None ≡ behind (ss ++ ts) lists (k + 1)) →
        None ≡ (if long then behind (ss ++ ts) lists (k + 1) else None)
    by_first true stop rest = rest stop
    by_first false stop rest = refl

pub none_behind : (lists : List (List Place)) (k : ℕ) → Some k ≡ behind [] lists k
unfolding behind
none_behind lists k = refl

one_behind : (s : Strand) (lists : List (List Place)) (k : ℕ) →
    is_placed s (slice_get lists k) ≡ true → Some (k + 1) ≡ behind (s ∷ []) lists k
unfolding behind
one_behind s lists k long = rw long refl

not_behind : (s : Strand) (lists : List (List Place)) (k : ℕ) →
    is_placed s (slice_get lists k) ≡ false → None ≡ behind (s ∷ []) lists k
unfolding behind
not_behind s lists k short = rw short refl

-- one strand, and the list of its number
pub long_behind : (s : Strand) (lists : List (List Place)) (k : ℕ) (list : List Place) →
    k < length lists → list ≡ get_or lists k list → s.first + length list ≡ s.last + 1 →
    Some (k + 1) ≡ behind (s ∷ []) lists k
long_behind s lists k list within read same = one_behind s lists k
    (ap (is_placed s) (slice_get_read lists (length lists) k list refl within read)
    ∙ eq-eqb (s.first + length list) (s.last + 1) same)

pub short_behind : (s : Strand) (lists : List (List Place)) (k : ℕ) (list : List Place) →
    k < length lists → list ≡ get_or lists k list → s.first + length list ≢ s.last + 1 →
    None ≡ behind (s ∷ []) lists k
short_behind s lists k list within read apart = not_behind s lists k
    (ap (is_placed s) (slice_get_read lists (length lists) k list refl within read)
    ∙ ne_eqb (s.first + length list) (s.last + 1) apart)

pub past_behind : (s : Strand) (lists : List (List Place)) (k : ℕ) → length lists ≤ k →
    None ≡ behind (s ∷ []) lists k
past_behind s lists k past = not_behind s lists k
    (ap (is_placed s) (nothing_left lists k (drop_all k lists past)))

-- ---- what is left of the numbers below n, one number less

filter_first : {A : Type 0} (f : ℕ → Option A) (k n : ℕ) → k < n →
    filter_map f (range_with_len k (n - k)) ≡
    option_to_list (f k) ++ filter_map f (range_with_len (k + 1) (n - (k + 1)))
filter_first f k n below =
    ap (λ m. filter_map f (range_with_len k m))
    (let e : n - k ≡ suc (n - (k + 1)) = omega (arith, below) in e)
    ∙ put (f k) (filter_map f (range_with_len (k + 1) (n - (k + 1))))
  where
    put : {A : Type 0} (o : Option A) (xs : List A) → cons_option o xs ≡ option_to_list o ++ xs
    put None xs = refl
    put (Some x) xs = refl

filter_skip : {A : Type 0} (f : ℕ → Option A) (from k n : ℕ) → from + k ≤ n →
    ((x : ℕ) → from ≤ x → x < from + k → f x ≡ None) →
    filter_map f (range_with_len from (n - from)) ≡
    filter_map f (range_with_len (from + k) (n - (from + k)))
filter_skip f from zero n to none = ap (λ m. filter_map f (range_with_len m (n - m)))
    (let e : from ≡ from + 0 = omega arith in e)
filter_skip f from (suc k) n to none =
    filter_first f from n (omega (arith, to))
    ∙ ap (λ o. option_to_list o ++ filter_map f (range_with_len (from + 1) (n - (from + 1))))
    (none from (omega arith) (omega arith))
    ∙ filter_skip f (from + 1) k n (omega (arith, to))
    (λ x le lt. none x (omega (arith, le)) (omega (arith, lt)))
    ∙ ap (λ m. filter_map f (range_with_len m (n - m)))
    (let e : from + 1 + k ≡ from + suc k = omega arith in e)

filter_end : {A : Type 0} (f : ℕ → Option A) (n : ℕ) → filter_map f (range_with_len n (n - n)) ≡ []
filter_end f n = ap (λ m. filter_map f (range_with_len n m))
    (let e : n - n ≡ 0 = omega arith in e)

flat_first : {A : Type 0} (f : ℕ → List A) (k n : ℕ) → k < n →
    flat_map f (range_with_len k (n - k)) ≡
    f k ++ flat_map f (range_with_len (k + 1) (n - (k + 1)))
flat_first f k n below = ap (λ m. flat_map f (range_with_len k m))
    (let e : n - k ≡ suc (n - (k + 1)) = omega (arith, below) in e)

flat_end : {A : Type 0} (f : ℕ → List A) (k n : ℕ) → n ≤ k →
    flat_map f (range_with_len k (n - k)) ≡ []
flat_end f k n past = ap (λ m. flat_map f (range_with_len k m))
    (let e : n - k ≡ 0 = omega (arith, past) in e)

-- ---- loops over the variables of which something may begin, and over layers or blocks

module _ (f : ℕ → Option Strand) (lists : List (List Place)) (n : ℕ) where
  pub from_all : (k : ℕ) → behind (filter_map f (range_with_len 0 (n - 0))) lists k ≡
      behind (filter_map f (range_with_len 0 n)) lists k
  from_all k = ap (λ m. behind (filter_map f (range_with_len 0 m)) lists k)
      (let e : n - 0 ≡ n = omega arith in e)

  to_one : (from var : ℕ) → from ≤ var → var < n →
      ((x : ℕ) → from ≤ x → x < var → f x ≡ None) →
      filter_map f (range_with_len from (n - from)) ≡
      option_to_list (f var) ++ filter_map f (range_with_len (var + 1) (n - (var + 1)))
  to_one from var le lt none =
      let to : from + (var - from) ≡ var = omega (arith, le) in
      filter_skip f from (var - from) n (omega (arith, to, lt))
      (λ x over under. none x over (omega (arith, under, to)))
      ∙ ap (λ m. filter_map f (range_with_len m (n - m))) to ∙ filter_first f var n lt

  pub one_more : (from var k next : ℕ) (whole : Option ℕ) → from ≤ var → var < n →
      ((x : ℕ) → from ≤ x → x < var → f x ≡ None) →
      Some next ≡ behind (option_to_list (f var)) lists k →
      behind (filter_map f (range_with_len from (n - from))) lists k ≡ whole →
      behind (filter_map f (range_with_len (var + 1) (n - (var + 1)))) lists next ≡ whole
  one_more from var k next whole le lt none went before =
      sym (went_on (option_to_list (f var))
      (filter_map f (range_with_len (var + 1) (n - (var + 1)))) lists k next went)
      ∙ ap (λ ss. behind ss lists k) (sym (to_one from var le lt none)) ∙ before

  pub one_stops : (from var k : ℕ) (whole : Option ℕ) → from ≤ var → var < n →
      ((x : ℕ) → from ≤ x → x < var → f x ≡ None) →
      None ≡ behind (option_to_list (f var)) lists k →
      behind (filter_map f (range_with_len from (n - from))) lists k ≡ whole → None ≡ whole
  one_stops from var k whole le lt none stop before =
      stopped (option_to_list (f var))
      (filter_map f (range_with_len (var + 1) (n - (var + 1)))) lists k stop
      ∙ ap (λ ss. behind ss lists k) (sym (to_one from var le lt none)) ∙ before

  pub none_more : (from k : ℕ) (whole : Option ℕ) → from ≤ n →
      ((x : ℕ) → from ≤ x → x < n → f x ≡ None) →
      behind (filter_map f (range_with_len from (n - from))) lists k ≡ whole → Some k ≡ whole
  none_more from k whole le none before =
      let to : from + (n - from) ≡ n = omega (arith, le) in
      none_behind lists k
      ∙ ap (λ ss. behind ss lists k)
      (sym (filter_skip f from (n - from) n (omega (arith, to))
      (λ x over under. none x over (omega (arith, under, to)))
      ∙ ap (λ m. filter_map f (range_with_len m (n - m))) to ∙ filter_end f n)) ∙ before

module _ (f : ℕ → List Strand) (lists : List (List Place)) (n : ℕ) where
  pub flat_all : (k : ℕ) → behind (flat_map f (range_with_len 0 (n - 0))) lists k ≡
      behind (flat_map f (range_with_len 0 n)) lists k
  flat_all k = ap (λ m. behind (flat_map f (range_with_len 0 m)) lists k)
      (let e : n - 0 ≡ n = omega arith in e)

  pub part_more : (i k next : ℕ) (whole : Option ℕ) → i < n → Some next ≡ behind (f i) lists k →
      behind (flat_map f (range_with_len i (n - i))) lists k ≡ whole →
      behind (flat_map f (range_with_len (i + 1) (n - (i + 1)))) lists next ≡ whole
  part_more i k next whole lt went before =
      sym (went_on (f i) (flat_map f (range_with_len (i + 1) (n - (i + 1)))) lists k next went)
      ∙ ap (λ ss. behind ss lists k) (sym (flat_first f i n lt)) ∙ before

  pub part_stops : (i k : ℕ) (whole : Option ℕ) → i < n → None ≡ behind (f i) lists k →
      behind (flat_map f (range_with_len i (n - i))) lists k ≡ whole → None ≡ whole
  part_stops i k whole lt stop before =
      stopped (f i) (flat_map f (range_with_len (i + 1) (n - (i + 1)))) lists k stop
      ∙ ap (λ ss. behind ss lists k) (sym (flat_first f i n lt)) ∙ before

  pub no_part : (i k : ℕ) (whole : Option ℕ) → n ≤ i →
      behind (flat_map f (range_with_len i (n - i))) lists k ≡ whole → Some k ≡ whole
  no_part i k whole past before =
      none_behind lists k ∙ ap (λ ss. behind ss lists k) (sym (flat_end f i n past)) ∙ before

-- ---- all of them

pub fits : (lists : List (List Place)) (ss : List Strand) (rest : List (List Place)) (k : ℕ) →
    drop k lists ≡ rest → Some (length lists) ≡ behind ss lists k → HasPlaces ss rest
unfolding behind
fits lists [] [] k left at_end = tt
fits lists [] (r ∷ rs) k left at_end = absurd
    (some_there lists k r (left_begins lists rs k r left).0
    (some_same (length lists) k at_end))
  where
    some_there : (xs : List (List Place)) (k : ℕ) (x : List Place) → slice_get xs k ≡ Some x →
        length xs ≡ k → ⊥
    some_there [] k x at end = cc
    some_there (y ∷ ys) zero x at end = cc
    some_there (y ∷ ys) (suc k) x at end = some_there ys k x at (omega (arith, end))
fits lists (s ∷ ss) [] k left at_end =
    absurd (stuck (is_placed s (slice_get lists k)) (ap (is_placed s) (nothing_left lists k left))
    at_end)
  where
    stuck : (long : Bool) → long ≡ false → Some (length lists) ≡
        (if long then behind ss lists (k + 1) else None) → ⊥
    stuck true e went = cc
    stuck false e went = cc
fits lists (s ∷ ss) (r ∷ rs) k left at_end =
    let here = left_begins lists rs k r left in
    by_first (is_placed s (slice_get lists k)) (ap (is_placed s) here.0) at_end
    (λ went. fits lists ss rs (k + 1) (let e : k + 1 ≡ suc k = omega arith in
    ap (λ m. drop m lists) e ∙ here.1) went)
  where
    by_first : (long : Bool) → long ≡ nat_eq (s.first + length r) (s.last + 1) →
        Some (length lists) ≡ (if long then behind ss lists (k + 1) else None) →
        (Some (length lists) ≡ behind ss lists (k + 1) → HasPlaces ss rs) →
        (s.first + length r ≡ s.last + 1) × HasPlaces ss rs
    by_first true e went rest = (eqb-true (s.first + length r) (s.last + 1) (sym e), rest went)
    by_first false e went rest = cc

pub fits_back : (lists : List (List Place)) (ss : List Strand) (rest : List (List Place)) (k : ℕ) →
    drop k lists ≡ rest → k ≤ length lists → HasPlaces ss rest →
    Some (length lists) ≡ behind ss lists k
unfolding behind
fits_back lists [] [] k left within has = ap Some (at_end lists k left within)
  where
    at_end : (xs : List (List Place)) (k : ℕ) → drop k xs ≡ [] → k ≤ length xs → length xs ≡ k
    at_end [] k e le = omega (arith, le)
    at_end (x ∷ xs) zero e le = cc
    at_end (x ∷ xs) (suc k) e le = ap suc (at_end xs k e (omega (arith, le)))
fits_back lists [] (r ∷ rs) k left within has = absurd has
fits_back lists (s ∷ ss) [] k left within has = absurd has
fits_back lists (s ∷ ss) (r ∷ rs) k left within has =
    let here = left_begins lists rs k r left in
    rw (here.0, eq-eqb (s.first + length r) (s.last + 1) has.0)
    (fits_back lists ss rs (k + 1) (let e : k + 1 ≡ suc k = omega arith in
    ap (λ m. drop m lists) e ∙ here.1) (more lists k r here.0) has.1)
  where
    more : (xs : List (List Place)) (k : ℕ) (x : List Place) → slice_get xs k ≡ Some x →
        k + 1 ≤ length xs
    more [] k x at = cc
    more (y ∷ ys) zero x at = omega arith
    more (y ∷ ys) (suc k) x at = omega (arith, more ys k x at)
