-- Past the code nothing is live, and with that the answers at all layers are exact.
use Rattle.std.proofs.Common.{◌≡◌, ℕ, ◌+◌, ◌*◌, ◌-◌, ◌/◌, ◌%◌, ◌<◌, ◌≤◌, ◌⊎◌, inl, inr, nat_eq}
use Rattle.std.proofs.Common.{Bool, true, false, ◌&&◌, List, [], Option, Some, None, length, get_or}
use Rattle.std.proofs.Common.{refl, sym, ap, ◌∙◌, ◌↔◌, arith, if◌then◌else◌}
use Rattle.std.proofs.lemmas.Bool.{cases_order}
use Rattle.std.proofs.lemmas.List.{get_or_past}
use Rattle.pra_list.proofs.Truths.{false_from}
use Rattle.pra_base.specs.declared.code.VarKind.TheVariants.{Param, Plain, Constant}
use Rattle.pra_base.specs.declared.code.VarKind.{VarKind}
use Rattle.pra_base.specs.declared.code.VInstr.{VInstr}
use Rattle.pra_base.specs.declared.code.VProc.{VProc}
use Rattle.pra_base.specs.Code.{kind_of, code_of, end_of, IsTarget}
use Rattle.pra_base.specs.Operands.{reads}
use Rattle.pra_base.specs.Live.{Live, Point, ReadBeforeWritten, instr, passes}
use Rattle.pra_base.specs.Valid.{IsSized}
use Rattle.vc_live.specs.Sets.{contains}
use Rattle.vc_live.specs.Equations.{IsSound, IsClosed}
use Rattle.vc_live.specs.Rows.{has_at, constant_at, live_at, is_constant, AreConstants, AllRows}
use Rattle.vc_live.specs.Rows.{IsPast, IsLiveness}
use Rattle.vc_live.proofs.RowLemmas.{no_block_at, no_point_at}
use Rattle.vc_live.proofs.Exact.{plain_exact, constant_exact}

within_or_past : (a b : ℕ) → (a < b) ⊎ (b ≤ a)
within_or_past a b = elim (cases_order a b) [
  | inl at ↦ inr (omega arith)
  | inr (inl before) ↦ inl before
  | inr (inr after) ↦ inr (omega arith)
]

-- no instruction reads a variable past the end
unread : (code : VProc) (v : ℕ) (from : Point) → IsSized code → length code.vars ≤ v →
    ReadBeforeWritten code v from → ⊥
unread code v from sized past live = found (instr code live.to) refl live.read
  where
    found : (here : Option VInstr) → instr code live.to ≡ here → passes (λ i. reads i v) here ≡
        true → ⊥
    found None is read = cc
    found (Some i) is read = let below : v < length code.vars =
        sized.variables_in_range live.to.block live.to.index i is v (inl read) in omega arith

-- the set of a point past the end has nothing
empty_past : (code : VProc) (constants : ℕ → Bool) (entries : List (List ℕ))
    (blocks : List (List (List ℕ))) → AllRows code constants entries blocks (length code.blocks) →
    (b k v : ℕ) → (length code.blocks ≤ b) ⊎ (length (code_of code b) < k) → has_at blocks b k v ≡
    false
empty_past code constants entries blocks all b k v (inl past) =
    sym (no_block_at blocks b k v (omega (arith, all.same_count)))
empty_past code constants entries blocks all b k v (inr past) =
    elim (within_or_past b (length code.blocks)) [
      | inl inside ↦ sym (no_point_at blocks (get_or blocks b []) b k v refl
          (let count = (all.rows b inside).count in omega arith))
      | inr beyond ↦ sym (no_block_at blocks b k v (omega (arith, all.same_count)))
    ]

no_constant : (odd none before : Bool) →
    (if odd then false else (if none then false else (false && before))) ≡ false
no_constant true none before = refl
no_constant false true before = refl
no_constant false false before = refl

pub nothing_past : (code : VProc) (constants : List ℕ) (entries : List (List ℕ))
    (blocks : List (List (List ℕ))) → AreConstants code constants →
    IsSound code (contains constants) entries → IsClosed code (contains constants) entries →
    IsSized code →
    AllRows code (contains constants) entries blocks (length code.blocks) → (v b layer : ℕ) →
    IsPast code v b layer → live_at (record { constants = constants; blocks = blocks }) v b
    layer ≡ false
unfolding live_at
nothing_past code constants entries blocks are sound closed sized all v b layer (inl past) =
    rw free (either (within_or_past b (length code.blocks))
    (within_or_past (2 * length (code_of code b) + 1) layer))
  where
    free : contains constants v ≡ false
    free = are v ∙ ap is_constant (get_or_past code.vars v Plain past)

    either : (b < length code.blocks) ⊎ (length code.blocks ≤ b) →
        (2 * length (code_of code b) + 1 < layer) ⊎ (layer ≤ 2 * length (code_of code b) + 1) →
        has_at blocks b (layer / 2) v ≡ false
    either (inr beyond) _ = empty_past code (contains constants) entries blocks all b (layer / 2) v
        (inl beyond)
    either (inl inside) (inl beyond) = empty_past code (contains constants) entries blocks all b
        (layer / 2) v (inr (omega arith))
    either (inl inside) (inr within) =
        false_from _ (λ has. unread code v (record { block = b; index = layer / 2 }) sized past
        ((plain_exact code (contains constants) entries blocks all b v inside layer free within
        sound closed (λ c t below target. sized.targets_in_range c t below target)).0 has))
nothing_past code constants entries blocks are sound closed sized all v b layer (inr past) =
    by_test (contains constants v)
  where
    none : has_at blocks b (layer / 2) v ≡ false
    none = empty_past code (contains constants) entries blocks all b (layer / 2) v
        (elim past [ inl beyond ↦ inl beyond | inr beyond ↦ inr (omega arith) ])

    by_test : (test : Bool) →
        (if test then constant_at blocks v b layer else has_at blocks b (layer / 2) v) ≡ false
    by_test true = rw none (no_constant (nat_eq (layer % 2) 1) (nat_eq (layer / 2) 0)
        (has_at blocks b (layer / 2 - 1) v))
    by_test false = none

-- ---- the whole

pub live_exact : (code : VProc) (constants : List ℕ) (entries : List (List ℕ))
    (blocks : List (List (List ℕ))) → AreConstants code constants →
    IsSound code (contains constants) entries → IsClosed code (contains constants) entries →
    IsSized code →
    AllRows code (contains constants) entries blocks (length code.blocks) →
    IsLiveness code (record { constants = constants; blocks = blocks })
unfolding live_at
live_exact code constants entries blocks are sound closed sized all = record {
  exact = λ v b layer named inside within. by_kind v b layer inside within (kind_of code v) refl;
  past = nothing_past code constants entries blocks are sound closed sized all;
}
  where
    targets : (c t : ℕ) → c < length code.blocks → IsTarget (end_of code c) t →
        t < length code.blocks
    targets c t below target = sized.targets_in_range c t below target

    plain : (v b layer : ℕ) → b < length code.blocks → layer ≤ 2 * length (code_of code b) + 1 →
        contains constants v ≡ false →
        ((if contains constants v then constant_at blocks v b layer else has_at blocks b
        (layer / 2) v) ≡ true) ↔ ReadBeforeWritten code v
        (record { block = b; index = layer / 2 })
    plain v b layer inside within free =
        rw free (plain_exact code (contains constants) entries blocks all b v inside layer free
        within sound closed targets)

    by_kind : (v b layer : ℕ) → b < length code.blocks → layer ≤ 2 * length (code_of code b) + 1 →
        (kind : VarKind) → kind_of code v ≡ kind →
        ((if contains constants v then constant_at blocks v b layer else has_at blocks b
        (layer / 2) v) ≡ true) ↔ Live code v b layer
    by_kind v b layer inside within (Constant n) is = let const : contains constants v ≡ true =
        are v ∙ ap is_constant is in
        rw (is, const) (constant_exact code (contains constants) entries blocks all b v inside layer
        const within)
    by_kind v b layer inside within Plain is =
        rw is (plain v b layer inside within (are v ∙ ap is_constant is))
    by_kind v b layer inside within (Param i) is =
        rw is (plain v b layer inside within (are v ∙ ap is_constant is))
