-- The blocks of a procedure's code in the order in which they are listed.
use Rattle.std.proofs.Common.{◌≡◌, ℕ, zero, suc, ◌<◌, ◌≤◌, ⊎_elim, List, [], ◌∷◌, length, map}
use Rattle.std.proofs.Common.{refl, sym, ap, ◌∙◌, subst, arith}
use Rattle.std.specs.Prelude.{slice_index_or}
use Rattle.std.proofs.lemmas.Bool.{cases_lt}
use Rattle.std.proofs.lemmas.List.{get_or_past}
use Rattle.pra_base.specs.Code.{no_block, block_of}
use Rattle.pra_base.specs.declared.ids.BlockId.{BlockId}
use Rattle.pra_base.specs.declared.code.Block.{Block}
use Rattle.pra_base.specs.declared.code.VProc.{VProc}
use Rattle.ob_syntax.specs.declared.checked.CheckedProc.{CheckedProc}
use Rattle.vc_build.specs.Grow.{count}
use Rattle.vc_build.specs.Text.{depth_at, times, below, HaveDepths, Enters, IsLast, GoesOn}
use Rattle.vc_build.proofs.Text.{last_is}
use Rattle.vc_order.specs.Order.{depths, number_at, IsListing}
use Rattle.vc_stmt.proofs.AtMost.{AreFew}
use Rattle.vc_proc.specs.Opening.{opened}

-- the entry
abbrev pub first : BlockId
first = record { 0 = 0 }

-- ---- what is asked of the list

as_many : (code : VProc) (bs : List BlockId) (ds : List ℕ) → HaveDepths code bs ds → length bs ≡
    length ds
as_many code [] [] h = refl
as_many code [] (d ∷ ds) h = absurd h
as_many code (b ∷ bs) [] h = absurd h
as_many code (b ∷ bs) (d ∷ ds) h = ap suc (as_many code bs ds h.2)

pub is_listing : (old new : VProc) (order : List BlockId) (ds : List ℕ) → count old ≡ 1 →
    Enters old new (first ∷ []) order ds → IsListing (count new) order
is_listing old new order ds one p = record {
  many = omega (arith, ap (λ l. length l) p.is, as_many new p.more ds p.have, p.blocks, one);
  once = λ b. omega (arith, ap (times b) p.is, p.once b, ap (below b) one);
  entry = ap (λ l. number_at l 0) p.is;
}

-- ---- the depths

depths_have : (code : VProc) (bs : List BlockId) (ds : List ℕ) → HaveDepths code bs ds →
    map (λ b. depth_at code b.0) bs ≡ ds
depths_have code [] [] h = refl
depths_have code [] (d ∷ ds) h = absurd h
depths_have code (b ∷ bs) [] h = absurd h
depths_have code (b ∷ bs) (d ∷ ds) h = ap (λ z. z ∷ map (λ c. depth_at code c.0) bs) h.1
    ∙ ap (λ l. d ∷ l) (depths_have code bs ds h.2)

pub depths_are : (id : ℕ) (proc : CheckedProc) (new : VProc) (order : List BlockId) (ds : List ℕ) →
    Enters (opened id proc) new (first ∷ []) order ds → map (λ b. depth_at new b.0) order ≡ 0 ∷ ds
depths_are id proc new order ds p =
    ap (map (λ (b : BlockId). depth_at new b.0)) p.is
    ∙ ap (λ z. z ∷ map (λ (b : BlockId). depth_at new b.0) p.more) (p.kept 0 (omega arith))
    ∙ ap (λ l. 0 ∷ l) (depths_have new p.more ds p.have)

few_blocks : (blocks : List Block) (ds : List ℕ) → map (λ (b : Block). b.depth) blocks ≡ ds →
    AreFew ds → AreFew (map (λ (b : Block). b.depth) blocks)
few_blocks blocks ds e few = subst AreFew (sym e) few

few_at : (blocks : List Block) (b : ℕ) → AreFew (map (λ (k : Block). k.depth) blocks) →
    b < length blocks → (slice_index_or blocks b no_block).depth ≤ 5
few_at [] b few lt = absurd (omega (arith, lt))
few_at (k ∷ ks) zero few lt = few.0
few_at (k ∷ ks) (suc b) few lt = few_at ks b few.1 (omega (arith, lt))

pub few_depths : (code : VProc) (ds : List ℕ) → depths code ≡ ds → AreFew ds → (b : ℕ) →
    (block_of code b).depth ≤ 5
few_depths code ds e few b = ⊎_elim
    (λ (lt : b < length code.blocks). few_at code.blocks b (few_blocks code.blocks ds e few) lt)
    (λ (past : length code.blocks ≤ b). omega
    (arith, ap (λ (k : Block). k.depth) (get_or_past code.blocks b no_block past)))
    (cases_lt b (length code.blocks))

-- ---- the whole of a procedure's statements

module _ (id : ℕ) (proc : CheckedProc) (start new : VProc) (to : ℕ) (before after : List BlockId)
    (ds : List ℕ) (start_is : start ≡ opened id proc) (before_is : before ≡ first ∷ [])
    (p : GoesOn 0 to start new before after ds) where
  pub its_goes : GoesOn 0 to start new (first ∷ []) after ds
  its_goes = subst (λ l. GoesOn 0 to start new l after ds) before_is p

  pub its_listing : IsListing (count new) after
  its_listing = is_listing start new after ds (ap count start_is) its_goes.enters

  pub its_last : IsLast after to
  its_last = its_goes.last (last_is [] first)
