-- Words in which no block owes anything, and that they solve the equations.
use Rattle.std.proofs.Common.{◌≡◌, ℕ, ◌+◌, ◌/◌, ◌%◌, ◌<◌, ◌≤◌, ◌⊎◌, inl, inr, Bool, true, false}
use Rattle.std.proofs.Common.{not, ◌||◌, ◌&&◌, nat_eq, List, [], ◌∷◌, ◌++◌, length, get_or}
use Rattle.std.proofs.Common.{refl, sym, ap, subst, ◌∙◌, arith}
use Rattle.std.specs.List.{list_any}
use Rattle.std.proofs.lemmas.Bool.{cases_eq, cases_order, eq-eqb, eqb-true}
use Rattle.std.proofs.lemmas.List.{get_or_past}
use Rattle.std.proofs.lemmas.List.Folds.{list_any-append}
use Rattle.std.proofs.lemmas.Nat.Bits.{bit_at-zero}
use Rattle.pra_base.specs.declared.code.VProc.{VProc}
use Rattle.pra_base.specs.declared.code.End.{End}
use Rattle.pra_base.specs.declared.code.End.TheVariants.{Jump, Branch, Return}
use Rattle.pra_base.specs.Code.{code_of, end_of, IsTarget}
use Rattle.pra_base.specs.Operands.{writes}
use Rattle.vc_live.specs.Sets.{contains}
use Rattle.vc_live.specs.Equations.{entry, through, at_exit, at_targets, live_in, Shape}
use Rattle.vc_live.specs.Equations.{IsSound, IsClosed, InRange, FitsEnd}
use Rattle.vc_live.specs.Spreading.{AreMade, AreStops, makes, HasSpread, IsPassed, is_left}
use Rattle.vc_live.specs.Spreading.{AreWithin}
use Rattle.vc_live.proofs.RowLemmas.{empty_has}
use Rattle.vc_live.proofs.SetLemmas.{contains_past}
use Rattle.vc_live.proofs.Theory.{target_of}
use Rattle.vc_live.proofs.Made.{makes_at, made_or_passed, open_of, sound_made}

false_true : false ≡ true → ⊥
false_true e = cc

not_both : {x : Bool} → x ≡ false → x ≡ true → ⊥
not_both e f = false_true (sym e ∙ f)

cases_past : (a n : ℕ) → (a < n) ⊎ (n ≤ a)
cases_past a n = elim (cases_order a n) [
  | inl at ↦ inr (omega arith)
  | inr (inl below) ↦ inl below
  | inr (inr above) ↦ inr (omega arith)
]

-- ---- who begins

-- the blocks below i that have something in a word are left to do
pub record BegunTo (entries : List (List ℕ)) (word : ℕ) (left : List ℕ) (i : ℕ) : Type 0 where
  pub within : AreWithin left i
  pub all : (b v : ℕ) → b < i → v / 64 ≡ word → contains (entry entries b) v ≡ true →
      is_left left b ≡ true

pub none_begun : (entries : List (List ℕ)) (word : ℕ) → BegunTo entries word [] 0
none_begun entries word = record {
  within = λ b among. absurd (false_true among);
  all = λ b v below at has. absurd (omega arith);
}

or_nothing : (x : Bool) → (x || false) ≡ x
or_nothing true = refl
or_nothing false = refl

either_true : (x y : Bool) → (x || y) ≡ true → (x ≡ true) ⊎ (y ≡ true)
either_true true y is = inl refl
either_true false y is = inr is

or_left : (x y : Bool) → x ≡ true → (x || y) ≡ true
or_left x y is = rw is refl

or_right : (x y : Bool) → y ≡ true → (x || y) ≡ true
or_right true y is = refl
or_right false y is = is

pub one_begun : (entries : List (List ℕ)) (word : ℕ) (left : List ℕ) (i : ℕ) →
    BegunTo entries word left i → BegunTo entries word (left ++ i ∷ []) (i + 1)
one_begun entries word left i so_far = record {
  within = λ b among. elim (either_true (is_left left b) (is_left (i ∷ []) b)
      (sym (list_any-append (nat_eq b) left (i ∷ [])) ∙ among)) [
        | inl old ↦ omega (arith, so_far.within b old)
        | inr new ↦ omega (arith, eqb-true b i (sym (or_nothing (nat_eq b i)) ∙ new))
      ];
  all = λ b v below at has. list_any-append (nat_eq b) left (i ∷ []) ∙ elim (cases_eq b i) [
    | inl same ↦ or_right (is_left left b) (is_left (i ∷ []) b) (rw (eq-eqb b i same) refl)
    | inr apart ↦ or_left (is_left left b) (is_left (i ∷ []) b)
        (so_far.all b v (omega arith) at has)
  ];
}

-- block i has nothing in the word
pub none_there : (entries : List (List ℕ)) (word : ℕ) (left : List ℕ) (i : ℕ) (set : List ℕ) →
    BegunTo entries word left i → set ≡ entry entries i → get_or set word 0 ≡ 0 →
    BegunTo entries word left (i + 1)
unfolding contains
none_there entries word left i set so_far is blank = record {
  within = λ b among. omega (arith, so_far.within b among);
  all = λ b v below at has. elim (cases_eq b i) [
    | inl same ↦ absurd (not_both (nothing b v same at) has)
    | inr apart ↦ so_far.all b v (omega arith) at has
  ];
}
  where
    nothing : (b v : ℕ) → b ≡ i → v / 64 ≡ word → contains (entry entries b) v ≡ false
    nothing b v same at = rw (same, ← is, at, blank, bit_at-zero (v % 64)) refl

pub all_begun : (entries : List (List ℕ)) (word : ℕ) (left : List ℕ) (i : ℕ) →
    BegunTo entries word left i → length entries ≤ i → (b v : ℕ) → v / 64 ≡ word →
    contains (entry entries b) v ≡ true → is_left left b ≡ true
all_begun entries word left i begun past b v at has = elim (cases_past b (length entries)) [
  | inl below ↦ begun.all b v (omega arith) at has
  | inr above ↦ absurd (not_both (ap (λ s. contains s v) (get_or_past entries b [] above)
      ∙ empty_has v) has)
]

-- ---- what is left to do

-- block t is taken off the list: others owe it
pub taken_off : (code : VProc) (stops entries : List (List ℕ)) (word : ℕ) (left rest : List ℕ)
    (t : ℕ) → left ≡ rest ++ t ∷ [] →
    IsPassed code stops entries word (λ b u. is_left left u ≡ true) →
    IsPassed code stops entries word (λ b u. (is_left rest u ≡ true) ⊎ (u ≡ t))
taken_off code stops entries word left rest t is passed b u v below target at has free =
    owed (passed b u v below target at has free)
  where
    owed : {X : Type 0} → X ⊎ (is_left left u ≡ true) → X ⊎ ((is_left rest u ≡ true) ⊎ (u ≡ t))
    owed (inl live) = inl live
    owed (inr waits) = inr (by_part (either_true (is_left rest u) (is_left (t ∷ []) u)
        (sym (ap (λ xs. is_left xs u) is ∙ list_any-append (nat_eq u) rest (t ∷ [])) ∙ waits)))
      where
        by_part : (is_left rest u ≡ true) ⊎ (is_left (t ∷ []) u ≡ true) →
            (is_left rest u ≡ true) ⊎ (u ≡ t)
        by_part (inl old) = inl old
        by_part (inr new) = inr (eqb-true u t (sym (or_nothing (nat_eq u t)) ∙ new))

pub rest_within : (left rest : List ℕ) (t count : ℕ) → left ≡ rest ++ t ∷ [] →
    AreWithin left count → AreWithin rest count × (t < count)
rest_within left rest t count is within = (
  λ b among. within b (ap (λ xs. is_left xs b) is ∙ list_any-append (nat_eq b) rest (t ∷ [])
      ∙ or_left (is_left rest b) (is_left (t ∷ []) b) among),
  within t (ap (λ xs. is_left xs t) is ∙ list_any-append (nat_eq t) rest (t ∷ [])
      ∙ or_right (is_left rest t) (is_left (t ∷ []) t) (rw (eq-eqb t t refl) refl)),
)

-- what nothing can be taken off has nothing
pub empty_of : (left : List ℕ) → (0 < length left → false ≡ true) → left ≡ []
empty_of [] none = refl
empty_of (b ∷ bs) none = absurd (false_true (none (omega arith)))

pub nothing_left : (code : VProc) (stops entries : List (List ℕ)) (word : ℕ) (left : List ℕ) →
    left ≡ [] → IsPassed code stops entries word (λ b t. is_left left t ≡ true) →
    IsPassed code stops entries word (λ b t. ⊥)
nothing_left code stops entries word left is passed b t v below target at has free =
    owed (passed b t v below target at has free)
  where
    owed : {X : Type 0} → X ⊎ (is_left left t ≡ true) → X ⊎ ⊥
    owed (inl live) = inl live
    owed (inr waits) = absurd (false_true (sym (ap (λ xs. is_left xs t) is) ∙ waits))

-- ---- word by word

-- the words below one are solved
pub record SolvedTo (words : ℕ) (code : VProc) (constants : ℕ → Bool) (stops entries :
    List (List ℕ)) (word : ℕ) : Type 0 where
  pub shape : Shape words code entries
  pub sound : IsSound code constants entries
  pub made : (b v : ℕ) → b < length code.blocks → makes constants (code_of code b) v ≡ true →
      contains (entry entries b) v ≡ true
  pub passed : (w : ℕ) → w < word → IsPassed code stops entries w (λ b t. ⊥)

pub none_solved : (words : ℕ) (code : VProc) (constants : ℕ → Bool) (stops entries :
    List (List ℕ)) → AreMade words code constants entries (length code.blocks) →
    SolvedTo words code constants stops entries 0
none_solved words code constants stops entries made = record {
  shape = record { count = made.same_count; sets = made.long };
  sound = λ b v free has. elim (cases_past b (length code.blocks)) [
    | inl below ↦ sound_made code constants b v free (sym (made.members b v below) ∙ has)
    | inr above ↦ absurd (not_both (ap (λ s. contains s v) (get_or_past entries b []
        (omega (arith, made.same_count))) ∙ empty_has v) has)
  ];
  made = λ b v below is. made.members b v below ∙ is;
  passed = λ w below. absurd (omega arith);
}

pub one_solved : (words : ℕ) (code : VProc) (constants : ℕ → Bool) (stops entries next :
    List (List ℕ)) (word : ℕ) → SolvedTo words code constants stops entries word →
    HasSpread words code constants word entries next →
    IsPassed code stops next word (λ b t. ⊥) →
    SolvedTo words code constants stops next (word + 1)
one_solved words code constants stops entries next word so_far spread passed = record {
  shape = spread.shape;
  sound = spread.sound so_far.sound;
  made = λ b v below is. spread.kept b v (so_far.made b v below is);
  passed = λ w below. elim (cases_eq w word) [
    | inl same ↦ subst (λ u. IsPassed code stops next u (λ b t. ⊥)) (sym same) passed
    | inr apart ↦ λ b t v inside target at has free.
        still b v (so_far.passed w (omega arith) b t v inside target at
        (sym (spread.others t v (λ e. apart (sym at ∙ e))) ∙ has) free)
  ];
}
  where
    still : (b v : ℕ) → (contains (entry entries b) v ≡ true) ⊎ ⊥ →
        (contains (entry next b) v ≡ true) ⊎ ⊥
    still b v (inl live) = inl (spread.kept b v live)
    still b v (inr none) = absurd none

exit_parts : (constants : ℕ → Bool) (entries : List (List ℕ)) (code : VProc) (b v : ℕ) →
    at_exit constants entries (end_of code b) v ≡ true →
    (at_targets entries (end_of code b) v ≡ true) × (constants v ≡ false)
unfolding at_exit
exit_parts constants entries code b v live =
    both (at_targets entries (end_of code b) v) (constants v) live
  where
    both : (x y : Bool) → (x && not y) ≡ true → (x ≡ true) × (y ≡ false)
    both true true is = cc
    both true false is = (refl, refl)
    both false y is = cc

live_parts : (code : VProc) (constants : ℕ → Bool) (entries : List (List ℕ)) (b v : ℕ) →
    live_in code constants entries b 0 v ≡
    through constants (code_of code b) (at_exit constants entries (end_of code b)) v
unfolding live_in
live_parts code constants entries b v = refl

pub closed_of : (words : ℕ) (code : VProc) (constants : ℕ → Bool) (stops entries :
    List (List ℕ)) → AreStops words code constants stops (length code.blocks) →
    ((b t : ℕ) → b < length code.blocks → IsTarget (end_of code b) t → t < length code.blocks) →
    SolvedTo words code constants stops entries words → IsClosed code constants entries
closed_of words code constants stops entries are targets solved b below v live =
    by_part (made_or_passed constants (code_of code b)
    (at_exit constants entries (end_of code b)) v
    (λ out. (exit_parts constants entries code b v out).1)
    (sym (live_parts code constants entries b v) ∙ live))
  where
    in_word : (t : ℕ) → t < length code.blocks → contains (entry entries t) v ≡ true →
        v / 64 < words
    in_word t inside has = elim (cases_past (v / 64) words) [
      | inl within ↦ within
      | inr past ↦ absurd (not_both (contains_past (entry entries t) v
          (omega (arith, solved.shape.sets t (omega (arith, solved.shape.count)), past))) has)
    ]

    kept : (contains (entry entries b) v ≡ true) ⊎ ⊥ → contains (entry entries b) v ≡ true
    kept (inl is) = is
    kept (inr none) = absurd none

    by_part : (through constants (code_of code b) (λ u. false) v ≡ true) ⊎
        ((at_exit constants entries (end_of code b) v ≡ true) × (constants v ≡ false) ×
        (list_any (λ i. writes i v) (code_of code b) ≡ false)) →
        contains (entry entries b) v ≡ true
    by_part (inl made) = solved.made b v below (makes_at constants (code_of code b) v ∙ made)
    by_part (inr (out, free, none)) =
        let found = target_of entries (end_of code b) v
        (exit_parts constants entries code b v out).0 in
        kept (solved.passed (v / 64) (in_word found.0 (targets b found.0 below found.1) found.2)
        b found.0 v below found.1 refl found.2
        (open_of code constants words stops b v are below free none))

fits_target : (count : ℕ) (end : End) (t : ℕ) → FitsEnd count end → IsTarget end t → t < count
fits_target count (Jump b) t fits target = subst (λ n. n < count) target fits
fits_target count (Branch c one other) t fits (inl at) = subst (λ n. n < count) at fits.0
fits_target count (Branch c one other) t fits (inr at) = subst (λ n. n < count) at fits.1
fits_target count Return t fits target = absurd target

pub targets_of : (code : VProc) (words : ℕ) → InRange words code → (b t : ℕ) →
    b < length code.blocks → IsTarget (end_of code b) t → t < length code.blocks
targets_of code words range b t below target =
    fits_target (length code.blocks) (end_of code b) t (range.ends b below) target
