-- What the operations on words do to the members of a set.
use Rattle.std.proofs.Common.{◌≡◌, ◌≢◌, ℕ, ◌-◌, ◌*◌, ◌/◌, ◌%◌, ◌^◌, ◌<◌, ◌≤◌, inl, inr, Bool, false}
use Rattle.std.proofs.Common.{◌+◌, subst, not, ◌&&◌, ◌||◌, nat_eq, [], List, length, get_or, set}
use Rattle.std.proofs.Common.{bit_and, bit_or}
use Rattle.std.proofs.Common.{replicate, refl, sym, ap, ◌∙◌, arith, get_or-set_same}
use Rattle.std.proofs.Common.{get_or-set_other}
use Rattle.std.specs.Int.{bit_at, bit_not}
use Rattle.std.proofs.Common.{w64}
use Rattle.std.proofs.lemmas.Bool.{cases_eq, cases_order}
use Rattle.std.proofs.lemmas.Bool.Decides.{nat_tests}
use Rattle.std.proofs.lemmas.List.{set-get_or, get_or_past, get_or_default, get_or-replicate}
use Rattle.std.proofs.lemmas.List.{length-replicate}
use Rattle.std.proofs.lemmas.Nat.{le_or_l, or_lt}
use Rattle.std.proofs.lemmas.Nat.Bits.{bit_at_or, bit_at_and, bit_at_not, bit_at_set_same}
use Rattle.std.proofs.lemmas.Nat.Bits.{bit_at_set_other, bit_at_clear_same, bit_at_clear_other}
use Rattle.std.proofs.lemmas.Nat.Bits.{bit_at-zero, shr_and_one}
use Rattle.std.proofs.lemmas.List.Sums.{sum_by-set}
use Rattle.vc_live.specs.Sets.{contains, room, room_in}

abbrev pub bit : ℕ → ℕ → Bool
bit n i = nat_eq (bit_at n i) 1

pub bit-or : (a b i : ℕ) → bit (bit_or a b) i ≡ (bit a i || bit b i)
bit-or a b i =
    let la : bit_at a i < 2 = omega arith in
    let lb : bit_at b i < 2 = omega arith in
    rw (bit_at_or a b i) (max_bits _ _ la lb)
  where
    max_bits : (x y : ℕ) → x < 2 → y < 2 → nat_eq (Prim.Native.Nat.max x y) 1 ≡
        (nat_eq x 1 || nat_eq y 1)
    max_bits x y p q = grind (arith, nat_tests)

pub bit-and_not : (a b i : ℕ) → b < 2 ^ 64 → i < 64 → bit (bit_and a (bit_not w64 b)) i ≡
    (bit a i && not (bit b i))
bit-and_not a b i small within =
    let la : bit_at a i < 2 = omega arith in
    let lb : bit_at b i < 2 = omega arith in
    rw (bit_at_and a (bit_not w64 b) i, bit_at_not w64 b i small within) (min_bits _ _ la lb)
  where
    min_bits : (x y : ℕ) → x < 2 → y < 2 → nat_eq (Prim.Native.Nat.min x (1 - y)) 1 ≡
        (nat_eq x 1 && not (nat_eq y 1))
    min_bits x y p q = grind (arith, nat_tests)

-- ---- one number put in or taken out

-- x is the word of v
pub inserted : (xs : List ℕ) (v x : ℕ) → v / 64 < length xs → x ≡ get_or xs (v / 64) x → (u : ℕ) →
    contains (set xs (v / 64) (bit_or x (1 * 2 ^ (v % 64) % 2 ^ 64))) u ≡
    (nat_eq v u || contains xs u)
unfolding contains
inserted xs v x within read u = elim (cases_eq (u / 64) (v / 64)) [
  | inl same ↦ elim (cases_eq (u % 64) (v % 64)) [
    | inl also ↦ let e : u ≡ v = omega arith in
        rw (e, get_or-set_same xs (v / 64) _ 0 within, bit_at_set_same w64 x (v % 64) (omega arith))
        (grind (arith, nat_tests))
    | inr apart ↦
        let ne : u ≢ v = (λ e. apart (ap (λ n. n % 64) e)) in
        let word : x ≡ get_or xs (v / 64) 0 = read ∙ get_or_default xs (v / 64) x 0 within in
        rw (
          same,
          get_or-set_same xs (v / 64) _ 0 within,
          bit_at_set_other w64 x (v % 64)
              (omega arith) (u % 64) apart,
          ← word,
        ) (grind (arith, nat_tests))
  ]
  | inr apart ↦
      let ne : u ≢ v = (λ e. apart (ap (λ n. n / 64) e)) in
      rw (get_or-set_other xs (v / 64) (u / 64) _ 0 apart) (grind (arith, nat_tests))
]

pub removed : (xs : List ℕ) (v x : ℕ) → v / 64 < length xs → x ≡ get_or xs (v / 64) x → (u : ℕ) →
    contains (set xs (v / 64) (bit_and x (2 ^ 64 - 1 - 1 * 2 ^ (v % 64) % 2 ^ 64))) u ≡
    (not (nat_eq v u) && contains xs u)
unfolding contains
removed xs v x within read u = elim (cases_eq (u / 64) (v / 64)) [
  | inl same ↦ elim (cases_eq (u % 64) (v % 64)) [
    | inl also ↦ let e : u ≡ v = omega arith in
        rw (
          e,
          get_or-set_same xs (v / 64) _ 0 within,
          bit_at_clear_same w64 x (v % 64)
              (omega arith),
        ) (grind (arith, nat_tests))
    | inr apart ↦
        let ne : u ≢ v = (λ e. apart (ap (λ n. n % 64) e)) in
        let word : x ≡ get_or xs (v / 64) 0 = read ∙ get_or_default xs (v / 64) x 0 within in
        rw (
          same,
          get_or-set_same xs (v / 64) _ 0 within,
          bit_at_clear_other w64 x (v % 64)
              (omega arith) (u % 64) (omega arith) apart,
          ← word,
        ) (grind (arith, nat_tests))
  ]
  | inr apart ↦
      let ne : u ≢ v = (λ e. apart (ap (λ n. n / 64) e)) in
      rw (get_or-set_other xs (v / 64) (u / 64) _ 0 apart) (grind (arith, nat_tests))
]

-- ---- whole sets, word by word

pub united : (xs ys zs : List ℕ) →
    ((k : ℕ) → get_or zs k 0 ≡ bit_or (get_or xs k 0) (get_or ys k 0)) → (u : ℕ) → contains zs u ≡
    (contains xs u || contains ys u)
unfolding contains
united xs ys zs words u =
    rw (words (u / 64)) (bit-or (get_or xs (u / 64) 0) (get_or ys (u / 64) 0) (u % 64))

pub subtracted : (xs ys zs : List ℕ) →
    ((k : ℕ) → get_or zs k 0 ≡ bit_and (get_or xs k 0) (2 ^ 64 - 1 - get_or ys k 0)) →
    ((k : ℕ) → get_or ys k 0 < 2 ^ 64) → (u : ℕ) → contains zs u ≡
    (contains xs u && not (contains ys u))
unfolding contains
subtracted xs ys zs words small u =
    rw (words (u / 64)) (bit-and_not (get_or xs (u / 64) 0) (get_or ys (u / 64) 0) (u % 64)
    (small (u / 64)) (omega arith))

-- ---- the room of a set, and a word of it that grows

grown_word : (a b : ℕ) → a < 2 ^ 64 → b < 2 ^ 64 → bit_or a b ≢ a → (a < bit_or a b) ×
    (bit_or a b < 2 ^ 64)
grown_word a b la lb other = let le = le_or_l a b in (omega arith, or_lt 64 a b la lb)

pub grown_room : (xs : List ℕ) (i b : ℕ) → i < length xs → get_or xs i 0 < 2 ^ 64 → b < 2 ^ 64 →
    bit_or (get_or xs i 0) b ≢ get_or xs i 0 →
    room (set xs i (bit_or (get_or xs i 0) b)) < room xs
unfolding room
grown_room xs i b within la lb other =
    let above = grown_word (get_or xs i 0) b la lb other in
    let sums = sum_by-set room_in xs i (bit_or (get_or xs i 0) b) 0 within in
    omega arith

-- the bits of a word are taken in; x is the word there
pub grown : (xs : List ℕ) (at x more : ℕ) → at < length xs → x ≡ get_or xs at x → (u : ℕ) →
    contains (set xs at (bit_or x more)) u ≡
    (contains xs u || (nat_eq (u / 64) at && bit more (u % 64)))
unfolding contains
grown xs at x more within read u = elim (cases_eq (u / 64) at) [
  | inl same ↦
      let word : x ≡ get_or xs at 0 = read ∙ get_or_default xs at x 0 within in
      rw (same, get_or-set_same xs at (bit_or x more) 0 within, ← word, bit-or x more (u % 64))
      (grind (arith, nat_tests))
  | inr apart ↦ rw (get_or-set_other xs at (u / 64) (bit_or x more) 0 apart)
      (grind (arith, nat_tests))
]

-- nothing new is in them
pub not_grown : (xs : List ℕ) (at x more : ℕ) → at < length xs → x ≡ get_or xs at x →
    bit_or x more ≡ x → (u : ℕ) →
    contains xs u ≡ (contains xs u || (nat_eq (u / 64) at && bit more (u % 64)))
not_grown xs at x more within read same u =
    ap (λ ys. contains ys u) (sym (rw (same) (set-as_read xs at x read within)))
    ∙ grown xs at x more within read u
  where
    set-as_read : (xs : List ℕ) (at x : ℕ) → x ≡ get_or xs at x → at < length xs → set xs at x ≡ xs
    set-as_read xs at x read within = rw (read ∙ get_or_default xs at x 0 within)
        (set-get_or xs at 0)

pub grown_less : (xs : List ℕ) (at x more : ℕ) → at < length xs → x ≡ get_or xs at x →
    x < 2 ^ 64 → more < 2 ^ 64 → bit_or x more ≢ x → room (set xs at (bit_or x more)) + 1 ≤ room xs
grown_less xs at x more within read small also other =
    let word : x ≡ get_or xs at 0 = read ∙ get_or_default xs at x 0 within in
    let less : room (set xs at (bit_or (get_or xs at 0) more)) < room xs =
    grown_room xs at more within (subst (λ z. z < 2 ^ 64) word small) also
    (subst (λ z. bit_or z more ≢ z) word other) in
    rw word (omega (arith, less))

-- ---- the same, from what is known of each word of the set

pub united_all : (xs ys zs : List ℕ) → length xs ≡ length ys → length zs ≡ length xs →
    ((k : ℕ) → k < length xs → get_or zs k 0 ≡ bit_or (get_or xs k 0) (get_or ys k 0)) →
    (u : ℕ) → contains zs u ≡ (contains xs u || contains ys u)
united_all xs ys zs same long words = united xs ys zs (λ k. elim (cases_order k (length xs)) [
  | inl at_end ↦ past k (omega arith)
  | inr (inl below) ↦ words k below
  | inr (inr above) ↦ past k (omega arith)
])
  where
    past : (k : ℕ) → length xs ≤ k → get_or zs k 0 ≡ bit_or (get_or xs k 0) (get_or ys k 0)
    past k beyond = rw (
      get_or_past zs k 0 (omega arith),
      get_or_past xs k 0 beyond,
      get_or_past ys k 0 (omega arith),
    ) refl

bit_and-zero : (n : ℕ) → 0 ≡ bit_and 0 n
bit_and-zero n = refl

pub subtracted_all : (xs ys zs : List ℕ) → length xs ≡ length ys → length zs ≡ length xs →
    ((k : ℕ) → k < length xs → get_or zs k 0 ≡ bit_and (get_or xs k 0) (2 ^ 64 - 1 - get_or ys k 0))
    →
    ((k : ℕ) → k < length xs → get_or ys k 0 < 2 ^ 64) → (u : ℕ) → contains zs u ≡
    (contains xs u && not (contains ys u))
subtracted_all xs ys zs same long words small =
    subtracted xs ys zs (λ k. elim (cases_order k (length xs)) [
      | inl at_end ↦ past k (omega arith)
      | inr (inl below) ↦ words k below
      | inr (inr above) ↦ past k (omega arith)
    ]) (λ k. elim (cases_order k (length xs)) [
      | inl at_end ↦ nothing k (omega arith)
      | inr (inl below) ↦ small k below
      | inr (inr above) ↦ nothing k (omega arith)
    ])
  where
    nothing : (k : ℕ) → length xs ≤ k → get_or ys k 0 < 2 ^ 64
    nothing k beyond = rw (get_or_past ys k 0 (omega arith)) (omega arith)

    past : (k : ℕ) → length xs ≤ k → get_or zs k 0 ≡ bit_and (get_or xs k 0)
        (2 ^ 64 - 1 - get_or ys k 0)
    past k beyond = rw (get_or_past zs k 0 (omega arith), get_or_past xs k 0 beyond)
        (bit_and-zero (2 ^ 64 - 1 - get_or ys k 0))

pub contains_read : (xs : List ℕ) (v x : ℕ) → v / 64 < length xs → x ≡ get_or xs (v / 64) x →
    nat_eq (bit_and (x / 2 ^ (v % 64)) 1) 1 ≡ contains xs v
unfolding contains
contains_read xs v x within read =
    let word : x ≡ get_or xs (v / 64) 0 = read ∙ get_or_default xs (v / 64) x 0 within in
    rw (shr_and_one x (v % 64), ← word) refl

pub contains_past : (xs : List ℕ) (v : ℕ) → length xs ≤ v / 64 → contains xs v ≡ false
unfolding contains
contains_past xs v beyond = rw (get_or_past xs (v / 64) 0 beyond, bit_at-zero (v % 64)) refl

-- u stands in the word of v, which is x
pub blank_word : (xs : List ℕ) (v x : ℕ) → v / 64 < length xs → x ≡ get_or xs (v / 64) x → x ≡ 0 →
    (u : ℕ) → u / 64 ≡ v / 64 → contains xs u ≡ false
unfolding contains
blank_word xs v x within read zero u same =
    let word : get_or xs (v / 64) 0 ≡ 0 = sym (read ∙ get_or_default xs (v / 64) x 0 within)
    ∙ zero in
    rw (same, word, bit_at-zero (u % 64)) refl

pub contains-replicate : (n v : ℕ) → contains (replicate n 0) v ≡ false
unfolding contains
contains-replicate n v = rw (get_or-replicate_zero n (v / 64), bit_at-zero (v % 64)) refl
  where
    get_or-replicate_zero : (n k : ℕ) → get_or {A = ℕ} (replicate n 0) k 0 ≡ 0
    get_or-replicate_zero n k = elim (cases_order k n) [
      | inl at_end ↦ get_or_past (replicate n 0) k 0 (omega (arith, length-replicate {A = ℕ} n 0))
      | inr (inl below) ↦ get_or-replicate n k 0 0 below
      | inr (inr above) ↦ get_or_past (replicate n 0) k 0
          (omega (arith, length-replicate {A = ℕ} n 0))
    ]

-- a set whose words are 0
pub none_in : (xs : List ℕ) → ((k : ℕ) → k < length xs → get_or xs k 0 ≡ 0) → (v : ℕ) →
    contains xs v ≡ false
unfolding contains
none_in xs words v = elim (cases_order (v / 64) (length xs)) [
  | inl at_end ↦ rw (get_or_past xs (v / 64) 0 (omega arith), bit_at-zero (v % 64)) refl
  | inr (inl below) ↦ rw (words (v / 64) below, bit_at-zero (v % 64)) refl
  | inr (inr above) ↦ rw (get_or_past xs (v / 64) 0 (omega arith), bit_at-zero (v % 64)) refl
]

bit-confined : (a s b i : ℕ) → b < 2 ^ 64 → i < 64 → bit (bit_and a (bit_or s (bit_not w64 b))) i ≡
    (bit a i && (bit s i || not (bit b i)))
bit-confined a s b i small within =
    let la : bit_at a i < 2 = omega arith in
    let ls : bit_at s i < 2 = omega arith in
    let lb : bit_at b i < 2 = omega arith in
    rw (
      bit_at_and a (bit_or s (bit_not w64 b)) i,
      bit_at_or s (bit_not w64 b) i,
      bit_at_not w64 b i small within,
    ) (three_bits _ _ _ la ls lb)
  where
    three_bits : (x y z : ℕ) → x < 2 → y < 2 → z < 2 →
        nat_eq (Prim.Native.Nat.min x (Prim.Native.Nat.max y (1 - z))) 1 ≡
        (nat_eq x 1 && (nat_eq y 1 || not (nat_eq z 1)))
    three_bits x y z p q r = grind (arith, nat_tests)

pub confined_all : (xs ss bs zs : List ℕ) → length xs ≡ length ss → length xs ≡ length bs →
    length zs ≡ length xs →
    ((k : ℕ) → k < length xs → get_or zs k 0 ≡ bit_and (get_or xs k 0)
    (bit_or (get_or ss k 0) (2 ^ 64 - 1 - get_or bs k 0))) →
    ((k : ℕ) → k < length xs → get_or bs k 0 < 2 ^ 64) →
    (u : ℕ) → contains zs u ≡ (contains xs u && (contains ss u || not (contains bs u)))
unfolding contains
confined_all xs ss bs zs same also long words small u = elim (cases_order (u / 64) (length xs)) [
  | inl at_end ↦ past (omega arith)
  | inr (inl below) ↦ rw (words (u / 64) below)
      (bit-confined (get_or xs (u / 64) 0) (get_or ss (u / 64) 0) (get_or bs (u / 64) 0) (u % 64)
      (small (u / 64) below) (omega arith))
  | inr (inr above) ↦ past (omega arith)
]
  where
    past : length xs ≤ u / 64 → nat_eq (bit_at (get_or zs (u / 64) 0) (u % 64)) 1 ≡
        (nat_eq (bit_at (get_or xs (u / 64) 0) (u % 64)) 1 &&
        (nat_eq (bit_at (get_or ss (u / 64) 0) (u % 64)) 1 || not
        (nat_eq (bit_at (get_or bs (u / 64) 0) (u % 64)) 1)))
    past beyond = rw (
      get_or_past zs (u / 64) 0 (omega arith),
      get_or_past xs (u / 64) 0 beyond,
      bit_at-zero (u % 64),
    ) refl

-- ---- a word of one of some sets

pub word_of : (sets : List (List ℕ)) (b at : ℕ) (set : List ℕ) (word v : ℕ) → b < length sets →
    set ≡ get_or sets b set → word ≡ get_or set at 0 → v / 64 ≡ at →
    bit word (v % 64) ≡ contains (get_or sets b []) v
unfolding contains
word_of sets b at set word v within read is here =
    rw (is, here, ← get_or_default sets b set [] within, ← read) refl

pub no_bits : (i : ℕ) → bit 0 i ≡ false
no_bits i = rw (bit_at-zero i) refl
