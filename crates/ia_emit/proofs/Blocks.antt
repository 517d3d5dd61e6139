-- Blocks one behind the other, and the first instruction of each.
use Rattle.std.proofs.Common.{◌≡◌, ℕ, ◌+◌, ◌≤◌, ◌<◌, List, [], ◌∷◌, ◌++◌, length, take, drop, sym}
use Rattle.std.proofs.Common.{ap, ◌∙◌, arith, append_assoc, append-nil, ◌⊎◌, inl, inr}
use Rattle.std.specs.Prelude.{slice_index_or}
use Rattle.pl_place.specs.declared.placed.LBlock.{LBlock}
use Rattle.pl_place.specs.declared.placed.LProc.{LProc}
use Rattle.ia_emit.specs.declared.item.Item.{Item}
use Rattle.ia_emit.specs.Emission.{emit_block, emit_blocks, prologue, emit_proc}
use Rattle.ia_emit.specs.Code.{size, block_start}
use Rattle.ia_emit.specs.Layout.{in_front, AreFirst}
use Rattle.ia_emit.proofs.Sizes.{size-append}
use Rattle.std.proofs.Math.ListN.{get_or-append}
use Rattle.std.proofs.Math.Seq.{get_or-append_seam, take-append_seam}
use Rattle.std.proofs.lemmas.List.{take_all, take-append-drop, length-take-le, get_or_past}

pub emit_blocks-append : (p : LProc) (k : ℕ) (xs ys : List LBlock) → emit_blocks p k (xs ++ ys) ≡
    emit_blocks p k xs ++ emit_blocks p (k + length xs) ys
emit_blocks-append p k [] ys = let same : k ≡ k + 0 = omega arith in
    ap (λ n. emit_blocks p n ys) same
emit_blocks-append p k (x ∷ xs) ys =
    let same : k + 1 + length xs ≡ k + length (x ∷ xs) = omega arith in
    ap (λ l. emit_block p k x ++ l)
    (emit_blocks-append p (k + 1) xs ys
    ∙ ap (λ n. emit_blocks p (k + 1) xs ++ emit_blocks p n ys) same)
    ∙ sym (append_assoc (emit_block p k x) (emit_blocks p (k + 1) xs)
    (emit_blocks p (k + length (x ∷ xs)) ys))

module _ (p : LProc) (k : ℕ) (b : LBlock) (le : k < length p.blocks)
    (next : take (k + 1) p.blocks ≡ take k p.blocks ++ b ∷ []) where
  -- the blocks so far, and one more
  pub one_block_more : (old new : List Item) → old ≡ prologue p ++ emit_blocks p 0
      (take k p.blocks) → new ≡ old ++ emit_block p k b →
      new ≡ prologue p ++ emit_blocks p 0 (take (k + 1) p.blocks)
  one_block_more old new e f =
      let front = emit_blocks p 0 (take k p.blocks) in
      let number : 0 + length (take k p.blocks) ≡ k =
      omega (arith, length-take-le k p.blocks (omega arith)) in
      let last : emit_blocks p (0 + length (take k p.blocks)) (b ∷ []) ≡ emit_block p k b =
      ap (λ n. emit_blocks p n (b ∷ [])) number ∙ append-nil (emit_block p k b) in
      let more : emit_blocks p 0 (take (k + 1) p.blocks) ≡ front ++ emit_block p k b =
      ap (λ l. emit_blocks p 0 l) next ∙ emit_blocks-append p 0 (take k p.blocks) (b ∷ [])
      ∙ ap (λ l. front ++ l) last in
      f ∙ ap (λ l. l ++ emit_block p k b) e ∙ append_assoc (prologue p) front (emit_block p k b)
      ∙ ap (λ l. prologue p ++ l) (sym more)

-- the first instructions of the blocks so far
pub FirstSoFar : LProc → ℕ → List ℕ → Type 0
FirstSoFar p k first = (b d : ℕ) → b < k → slice_index_or first b d ≡ in_front p b

pub no_first : (p : LProc) (first : List ℕ) → FirstSoFar p 0 first
unfolding FirstSoFar
no_first p first b d lt = absurd (omega arith)

pub one_first_more : (p : LProc) (k : ℕ) (items : List Item) (old new : List ℕ) → items ≡ prologue p
    ++ emit_blocks p 0 (take k p.blocks) →
    length old ≡ k → new ≡ old ++ length items ∷ [] → FirstSoFar p k old → FirstSoFar p (k + 1) new
unfolding FirstSoFar
one_first_more p k items old new is len e so_far b d lt =
    elim (below_or_at b k lt) [
      | inl below ↦ ap (λ l. slice_index_or l b d) e ∙ get_or-append old (length items ∷ []) d b
          (omega (arith, len, below)) ∙ so_far b d below
      | inr here ↦
          let at : b ≡ length old = here ∙ sym len in
          ap (λ l. slice_index_or l b d) e ∙ ap (λ n. slice_index_or (old ++ length items ∷ []) n d)
          at
          ∙ get_or-append_seam old (length items) [] d ∙ ap length is ∙ ap (in_front p) (sym here)
    ]
  where
    below_or_at : (b k : ℕ) → b < k + 1 → (b < k) ⊎ (b ≡ k)
    below_or_at b k lt = grind arith

-- behind the last block
pub all_first : (p : LProc) (k : ℕ) (first : List ℕ) → length p.blocks ≤ k → length first ≡ k →
    FirstSoFar p k first → AreFirst p first
unfolding FirstSoFar
all_first p k first le len so_far b =
    elim (below_or_not b k) [
      | inl below ↦ so_far b (length (emit_proc p)) below
      | inr past ↦
          get_or_past first b (length (emit_proc p)) (omega (arith, len, past))
          ∙ ap (λ l. length (prologue p ++ emit_blocks p 0 l))
          (sym (take_all b p.blocks (omega (arith, le, past))))
    ]
  where
    below_or_not : (b k : ℕ) → (b < k) ⊎ (k ≤ b)
    below_or_not b k = grind arith

pub all_items : (p : LProc) (k : ℕ) (items : List Item) → length p.blocks ≤ k → items ≡ prologue p
    ++ emit_blocks p 0 (take k p.blocks) → items ≡ emit_proc p
all_items p k items le e = e ∙ ap (λ l. prologue p ++ emit_blocks p 0 l) (take_all k p.blocks le)

pub no_blocks : (p : LProc) (old more new : List Item) → old ≡ [] → more ≡ prologue p → new ≡ old
    ++ more → new ≡ prologue p ++ emit_blocks p 0 (take 0 p.blocks)
no_blocks p old more new e m f = f ∙ ap (λ l. l ++ more) e ∙ m ∙ sym (append-nil (prologue p))

-- how many bytes stand in front of a block
pub size_in_front : (p : LProc) (at b : ℕ) → at + size (take (in_front p b) (emit_proc p)) ≡
    block_start p at b
size_in_front p at b =
    let front = prologue p ++ emit_blocks p 0 (take b p.blocks) in
    let behind = emit_blocks p (0 + length (take b p.blocks)) (drop b p.blocks) in
    let whole : emit_proc p ≡ front ++ behind =
    ap (λ l. prologue p ++ emit_blocks p 0 l) (sym (take-append-drop b p.blocks))
    ∙ ap (λ l. prologue p ++ l) (emit_blocks-append p 0 (take b p.blocks) (drop b p.blocks))
    ∙ sym (append_assoc (prologue p) (emit_blocks p 0 (take b p.blocks)) behind) in
    let taken : take (length front) (emit_proc p) ≡ front = ap (take (length front)) whole
    ∙ take-append_seam front behind in
    let sizes = size-append (prologue p) (emit_blocks p 0 (take b p.blocks)) in
    ap (λ l. at + size l) taken ∙ omega (arith, sizes)

pub start_of : (p : LProc) (first : List ℕ) (at b k count start : ℕ) → AreFirst p first →
    count ≡ length (emit_proc p) → k ≡ slice_index_or first b count →
    start ≡ at + size (take k (emit_proc p)) → start ≡ block_start p at b
start_of p first at b k count start are same is e =
    let number : k ≡ in_front p b = is ∙ ap (slice_index_or first b) same ∙ are b in
    e ∙ ap (λ n. at + size (take n (emit_proc p))) number ∙ size_in_front p at b
