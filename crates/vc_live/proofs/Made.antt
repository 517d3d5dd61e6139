-- What a block makes live by itself, and what does not pass it.
use Rattle.std.proofs.Common.{◌≡◌, ℕ, ◌+◌, ◌/◌, ◌<◌, inl, inr, Bool, true, false, not, ◌||◌, ◌&&◌}
use Rattle.std.proofs.Common.{◌⊎◌, List, [], ◌∷◌, ◌++◌, length, get_or, take, slice_get, Some, refl}
use Rattle.std.proofs.Common.{sym, ap, subst, ◌∙◌, arith}
use Rattle.std.specs.List.{list_any}
use Rattle.std.proofs.lemmas.Bool.{cases_eq}
use Rattle.std.proofs.lemmas.List.{get_or_default, get_or_push, get_or_append_left, length_push}
use Rattle.std.proofs.lemmas.List.Folds.{list_any_more}
use Rattle.pra_base.specs.declared.code.VProc.{VProc}
use Rattle.pra_base.specs.declared.code.VInstr.{VInstr}
use Rattle.pra_base.specs.declared.code.Block.{Block}
use Rattle.pra_base.specs.declared.code.End.{End}
use Rattle.pra_base.specs.declared.code.End.TheVariants.{Jump, Branch, Return}
use Rattle.pra_base.specs.Code.{code_of, end_of, block_of, no_block}
use Rattle.pra_base.specs.Operands.{reads, writes}
use Rattle.pra_base.specs.Live.{ReadBeforeWritten}
use Rattle.vc_live.specs.Sets.{contains}
use Rattle.vc_live.specs.Equations.{entry, before, through, at_exit, at_targets, InRange, Fits}
use Rattle.vc_live.specs.Equations.{IsSound}
use Rattle.vc_live.specs.Spreading.{AreSets, AreStops, makes, stops_at, passes}
use Rattle.vc_live.proofs.RowLemmas.{empty_has}
use Rattle.vc_live.proofs.Steps.{before-same}
use Rattle.vc_live.proofs.Theory.{sound_from}

-- ---- what is known of a block that was read by its number

pub block_read : (code : VProc) (b : ℕ) (block : Block) → b < length code.blocks →
    block ≡ get_or code.blocks b block → block ≡ block_of code b
block_read code b block within read = read ∙ get_or_default code.blocks b block no_block within

pub fits_block : (code : VProc) (b words n : ℕ) (block : Block) (is : List VInstr) →
    b < length code.blocks → block ≡ get_or code.blocks b block → InRange words code → n ≡ words →
    is ≡ block.code → Fits n is
fits_block code b words n block is within read range same listed k i at v named =
    let here : is ≡ code_of code b =
    listed ∙ ap (λ x. x.code) (block_read code b block within read) in
    subst (λ m. v / 64 < m) (sym same)
    (range.instrs b k i (subst (λ xs. slice_get xs k ≡ Some i) here at) v named)

-- ---- sets of blocks

pub no_sets : (words : ℕ) (member : ℕ → ℕ → Bool) → AreSets words [] member 0
no_sets words member = record {
  same_count = refl;
  long = λ b below. absurd (omega arith);
  members = λ b v below. absurd (omega arith);
}

pub more_sets : (words : ℕ) (sets : List (List ℕ)) (member : ℕ → ℕ → Bool) (count : ℕ)
    (set : List ℕ) → AreSets words sets member count → length set ≡ words →
    ((v : ℕ) → contains set v ≡ member count v) → AreSets words (sets ++ set ∷ []) member
    (count + 1)
more_sets words sets member count set so_far same members = record {
  same_count = omega (arith, length_push sets set, so_far.same_count);
  long = λ b below. elim (cases_eq b (length sets)) [
    | inl at ↦ rw (get_or_push sets set [] b (sym at)) same
    | inr apart ↦ rw (get_or_append_left sets (set ∷ []) [] b (omega (arith, length_push sets set)))
        (so_far.long b (omega (arith, length_push sets set)))
  ];
  members = λ b v below. elim (cases_eq b count) [
    | inl at ↦ rw (at, get_or_push sets set [] count (so_far.same_count)) (members v)
    | inr apart ↦ rw (get_or_append_left sets (set ∷ []) [] b (omega (arith, so_far.same_count)))
        (so_far.members b v (omega arith))
  ];
}

-- ---- through a block

pub through-at : (constants : ℕ → Bool) (is : List VInstr) (f g : ℕ → Bool) (v : ℕ) → f v ≡ g v →
    through constants is f v ≡ through constants is g v
unfolding through
through-at constants [] f g v same = same
through-at constants (i ∷ is) f g v same = before-same constants (through constants is f)
    (through constants is g) i v (through-at constants is f g v same)

-- an empty set at the end
pub makes_of : (constants : ℕ → Bool) (is : List VInstr) (set : List ℕ) (v : ℕ) →
    ((u : ℕ) → contains set u ≡ false) → through constants is (contains set) v ≡ makes constants is
    v
unfolding makes
makes_of constants is set v none = through-at constants is (contains set) (λ u. false) v (none v)

pub makes_at : (constants : ℕ → Bool) (is : List VInstr) (v : ℕ) →
    makes constants is v ≡ through constants is (λ u. false) v
unfolding makes
makes_at constants is v = refl

pub stops_none : (constants : ℕ → Bool) (v : ℕ) → constants v ≡ stops_at constants (take 0 []) v
unfolding stops_at
stops_none constants v = or_false (constants v)
  where
    or_false : (x : Bool) → x ≡ (x || false)
    or_false true = refl
    or_false false = refl

-- before the first instruction nothing but constants
pub stops_first : (constants : ℕ → Bool) (is : List VInstr) (v : ℕ) →
    constants v ≡ stops_at constants (take 0 is) v
stops_first constants is v = stops_none constants v

-- one more instruction
pub stops_more : (constants : ℕ → Bool) (is : List VInstr) (k : ℕ) (i : VInstr) (old new : Bool)
    (v : ℕ) → k < length is → i ≡ get_or is k i → old ≡ stops_at constants (take k is) v →
    new ≡ (writes i v || old) → new ≡ stops_at constants (take (k + 1) is) v
unfolding stops_at
stops_more constants is k i old new v within read was now =
    now ∙ rw (was, list_any_more (λ j. writes j v) is k i within, ← read)
    (moved (writes i v) (constants v) (list_any (λ j. writes j v) (take k is)))
  where
    moved : (w c n : Bool) → (w || (c || n)) ≡ (c || (n || w))
    moved true true n = refl
    moved true false true = refl
    moved true false false = refl
    moved false true n = refl
    moved false false true = refl
    moved false false false = refl

stops_parts : (constants : ℕ → Bool) (is : List VInstr) (v : ℕ) →
    stops_at constants is v ≡ (constants v || list_any (λ i. writes i v) is)
unfolding stops_at
stops_parts constants is v = refl

no_left : (x y : Bool) → (x || y) ≡ false → x ≡ false
no_left true y is = cc
no_left false y is = refl

no_right : (x y : Bool) → (x || y) ≡ false → y ≡ false
no_right true y is = cc
no_right false y is = is

-- what nothing writes passes
passed_through : (constants : ℕ → Bool) (is : List VInstr) (out : ℕ → Bool) (v : ℕ) →
    list_any (λ i. writes i v) is ≡ false → out v ≡ true → through constants is out v ≡ true
unfolding through before
passed_through constants [] out v free live = live
passed_through constants (i ∷ is) out v free live = rw (
  passed_through constants is out v
      (no_right (writes i v) (list_any (λ j. writes j v) is) free) live,
  no_left (writes i v) (list_any (λ j. writes j v) is) free,
) (always (reads i v) (constants v))
  where
    always : (r c : Bool) → (r || (true && (c || true))) ≡ true
    always true c = refl
    always false true = refl
    always false false = refl

-- what is live before a block is so by itself, or for what is live at the end and passes
pub made_or_passed : (constants : ℕ → Bool) (is : List VInstr) (out : ℕ → Bool) (v : ℕ) →
    (out v ≡ true → constants v ≡ false) → through constants is out v ≡ true →
    (through constants is (λ u. false) v ≡ true) ⊎
    ((out v ≡ true) × (constants v ≡ false) × (list_any (λ i. writes i v) is ≡ false))
unfolding through before
made_or_passed constants [] out v free live = inr (live, free live, refl)
made_or_passed constants (i ∷ is) out v free live =
    by_parts (reads i v) (through constants is out v) (through constants is (λ u. false) v)
    (constants v) (writes i v) (list_any (λ j. writes j v) is) live
    (made_or_passed constants is out v free)
  where
    by_parts : (r t m c w ws : Bool) → (r || (t && (c || not w))) ≡ true →
        (t ≡ true → (m ≡ true) ⊎ ((out v ≡ true) × (c ≡ false) × (ws ≡ false))) →
        ((r || (m && (c || not w))) ≡ true) ⊎
        ((out v ≡ true) × (c ≡ false) × ((w || ws) ≡ false))
    by_parts true t m c w ws live rest = inl refl
    by_parts false false m c w ws live rest = cc
    by_parts false true m c w ws live rest = by_rest m c w ws live (rest refl)
      where
        by_rest : (m c w ws : Bool) → (c || not w) ≡ true →
            (m ≡ true) ⊎ ((out v ≡ true) × (c ≡ false) × (ws ≡ false)) →
            ((m && (c || not w)) ≡ true) ⊎
            ((out v ≡ true) × (c ≡ false) × ((w || ws) ≡ false))
        by_rest m c w ws stays (inl made) = inl (rw (made, stays) refl)
        by_rest m true w ws stays (inr (live, free, none)) = cc
        by_rest m false true ws stays (inr (live, free, none)) = cc
        by_rest m false false ws stays (inr (live, free, none)) = inr (live, refl, none)

exit_of : (constants : ℕ → Bool) (entries : List (List ℕ)) (end : End) (v : ℕ) →
    at_targets entries end v ≡ true → constants v ≡ false → at_exit constants entries end v ≡ true
unfolding at_exit
exit_of constants entries end v live free = rw (live, free) refl

no_exit : (constants : ℕ → Bool) (end : End) (v : ℕ) → at_exit constants [] end v ≡ false
unfolding at_exit
no_exit constants (Jump b) v = rw (empty_has v) refl
no_exit constants (Branch c one other) v = rw (empty_has v) refl
no_exit constants Return v = refl

-- ---- both are live

-- what passes block b is live at its begin
pub sound_passed : (code : VProc) (constants : ℕ → Bool) (words : ℕ)
    (stops entries : List (List ℕ)) (b v : ℕ) →
    AreStops words code constants stops (length code.blocks) → IsSound code constants entries →
    constants v ≡ false → b < length code.blocks → passes code stops entries b v ≡ true →
    ReadBeforeWritten code v (record { block = b; index = 0 })
sound_passed code constants words stops entries b v are sound free below live =
    let parts = both_true (at_targets entries (end_of code b) v) (contains (entry stops b) v) live
    in
    let stays : (constants v || list_any (λ i. writes i v) (code_of code b)) ≡ false =
    sym (are.members b v below ∙ stops_parts constants (code_of code b) v) ∙ parts.1 in
    sound_from code constants entries b v sound free (code_of code b) 0 refl
    (passed_through constants (code_of code b) (at_exit constants entries (end_of code b)) v
    (no_right (constants v) (list_any (λ i. writes i v) (code_of code b)) stays)
    (exit_of constants entries (end_of code b) v parts.0 free))
  where
    both_true : (x y : Bool) → (x && not y) ≡ true → (x ≡ true) × (y ≡ false)
    both_true true true is = cc
    both_true true false is = (refl, refl)
    both_true false y is = cc

-- and so is what it makes
pub sound_made : (code : VProc) (constants : ℕ → Bool) (b v : ℕ) → constants v ≡ false →
    makes constants (code_of code b) v ≡ true →
    ReadBeforeWritten code v (record { block = b; index = 0 })
sound_made code constants b v free live =
    sound_from code constants [] b v (λ c u stays has. absurd (not_both (empty_has u) has)) free
    (code_of code b) 0 refl
    (through-at constants (code_of code b) (at_exit constants [] (end_of code b)) (λ u. false) v
    (no_exit constants (end_of code b) v) ∙ sym (makes_at constants (code_of code b) v) ∙ live)
  where
    not_both : {x : Bool} → x ≡ false → x ≡ true → ⊥
    not_both e f = false_true (sym e ∙ f)
      where
        false_true : false ≡ true → ⊥
        false_true e = cc

pub open_of : (code : VProc) (constants : ℕ → Bool) (words : ℕ) (stops : List (List ℕ)) (b v : ℕ) →
    AreStops words code constants stops (length code.blocks) → b < length code.blocks →
    constants v ≡ false → list_any (λ i. writes i v) (code_of code b) ≡ false →
    contains (entry stops b) v ≡ false
open_of code constants words stops b v are below free none =
    are.members b v below ∙ stops_parts constants (code_of code b) v ∙ rw (free, none) refl
