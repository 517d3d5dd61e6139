-- A call that stands before an instruction: the items of the instruction stand there, and behind
-- them the call stands before the next one.
use Rattle.std.proofs.Common.{◌≡◌, ℕ, zero, suc, ◌+◌, List, [], ◌∷◌, ◌++◌, take, drop, Some, sym}
use Rattle.std.proofs.Common.{ap, ◌∙◌, subst, arith, append_assoc, append-nil}
use Rattle.std.specs.Prelude.{slice_get, flat_map}
use Rattle.std.specs.List.{filter_map}
use Rattle.std.proofs.lemmas.Grind.{flat_map-append}
use Rattle.std.proofs.lemmas.List.{take-append-drop}
use Rattle.ia_emit.specs.declared.item.Item.{Item}
use Rattle.ia_emit.specs.declared.item.Target.{Target}
use Rattle.ia_emit.specs.Code.{size, target_in, block_start, entry}
use Rattle.ia_emit.specs.Emission.{emit, emit_end}
use Rattle.ia_emit.proofs.Sizes.{size-append}
use Rattle.pl_place.specs.declared.placed.LInstr.{LInstr}
use Rattle.pl_place.specs.declared.placed.LProc.{LProc}
use Rattle.pl_place.specs.Machine.{proc_of}
use Rattle.pl_place.specs.Placed.{op_of}
use Rattle.pl_place.specs.Valid.{linstr_at, counts_of}
use Rattle.pra_base.specs.declared.code.End.{End}
use Rattle.pra_base.specs.Valid.{PushesLead, TakesArgs}
use Rattle.ia_simulation.specs.Realizes.{StandsBefore}
use Rattle.ia_simulation.proofs.Here.{AreAt}
use Rattle.ia_simulation.proofs.Here as at
use Rattle.ia_simulation.proofs.Places.{block_at, next_block}

-- ---- the next of a list

next_get : {A : Type 0} (xs : List A) (k : ℕ) (x : A) (more : List A) → drop k xs ≡ x ∷ more →
    slice_get xs k ≡ Some x
next_get [] zero x more e = cc
next_get [] (suc k) x more e = cc
next_get (y ∷ xs) zero x more e = cc
next_get (y ∷ xs) (suc k) x more e = next_get xs k x more e

next_drop : {A : Type 0} (xs : List A) (k : ℕ) (x : A) (more : List A) → drop k xs ≡ x ∷ more →
    more ≡ drop (suc k) xs
next_drop [] zero x more e = cc
next_drop [] (suc k) x more e = cc
next_drop (y ∷ xs) zero x more e = cc
next_drop (y ∷ xs) (suc k) x more e = next_drop xs k x more e

next_take : {A : Type 0} (xs : List A) (k : ℕ) (x : A) (more : List A) → drop k xs ≡ x ∷ more →
    take (suc k) xs ≡ take k xs ++ x ∷ []
next_take [] zero x more e = cc
next_take [] (suc k) x more e = cc
next_take (y ∷ xs) zero x more e = let same : y ≡ x = cc in ap (λ z. z ∷ []) same
next_take (y ∷ xs) (suc k) x more e = ap (λ l. y ∷ l) (next_take xs k x more e)

-- ---- a call that stands

module _ (procs : List LProc) (q block : ℕ) (rest : List LInstr) (end : End) (pushes place : ℕ)
    (s : StandsBefore procs q block rest end pushes place) where
  abbrev pub proc : LProc
  proc = proc_of procs q

  abbrev pub target : Target → ℕ
  target = target_in proc (entry procs q)

  -- how far the place is from the first byte of the code
  abbrev pub here : ℕ
  here = block_start proc (entry procs q) block + size
      (flat_map (emit proc) (take s.index s.code.code))

  abbrev pub left : List Item
  left = flat_map (emit proc) rest ++ emit_end proc (block + 1) end

  pub left_at : AreAt procs target here left
  left_at =
      let code = s.code.code in
      let f = emit proc in
      let first = flat_map f (take s.index code) in
      let parts : flat_map f code ≡ first ++ flat_map f rest =
      ap (flat_map f) (sym (take-append-drop s.index code)) ∙ flat_map-append f (take s.index code)
      (drop s.index code) ∙ ap (λ l. first ++ flat_map f l) (sym s.rest_is) in
      let whole : flat_map f code ++ emit_end proc (block + 1) s.code.end ≡ first ++ left =
      ap (λ l. l ++ emit_end proc (block + 1) s.code.end) parts
      ∙ append_assoc first (flat_map f rest) (emit_end proc (block + 1) s.code.end)
      ∙ ap (λ e. first ++ (flat_map f rest ++ emit_end proc (block + 1) e)) (sym s.end_is) in
      at.behind procs target (block_start proc (entry procs q) block) first left
      (subst (AreAt procs target (block_start proc (entry procs q) block)) whole
      (block_at procs q proc s.there block s.code s.in_block))

  -- the block ends where the next one begins
  pub flows : here + size left ≡ block_start proc (entry procs q) (suc block)
  flows =
      let code = s.code.code in
      let f = emit proc in
      let first = flat_map f (take s.index code) in
      let parts : flat_map f code ≡ first ++ flat_map f rest =
      ap (flat_map f) (sym (take-append-drop s.index code)) ∙ flat_map-append f (take s.index code)
      (drop s.index code) ∙ ap (λ l. first ++ flat_map f l) (sym s.rest_is) in
      let whole : flat_map f code ++ emit_end proc (block + 1) s.code.end ≡ first ++ left =
      ap (λ l. l ++ emit_end proc (block + 1) s.code.end) parts
      ∙ append_assoc first (flat_map f rest) (emit_end proc (block + 1) s.code.end)
      ∙ ap (λ e. first ++ (flat_map f rest ++ emit_end proc (block + 1) e)) (sym s.end_is) in
      let next = next_block proc (entry procs q) block s.code s.in_block in
      let long = ap size whole in
      let both = size-append first left in
      omega (arith, next, long, both)

  module _ (i : LInstr) (more : List LInstr) (e : rest ≡ i ∷ more) where
    dropped : drop s.index s.code.code ≡ i ∷ more
    dropped = sym s.rest_is ∙ e

    pub instr_is : linstr_at proc block s.index i
    instr_is = (s.code, s.in_block, next_get s.code.code s.index i more dropped)

    -- the items of the instruction, and those of what is left
    abbrev pub behind_it : List Item
    behind_it = flat_map (emit proc) more ++ emit_end proc (block + 1) end

    pub instr_at : AreAt procs target here (emit proc i ++ behind_it)
    instr_at =
        let f = emit proc in
        subst (AreAt procs target here)
        (ap (λ l. flat_map f l ++ emit_end proc (block + 1) end) e ∙ append_assoc (f i)
        (flat_map f more) (emit_end proc (block + 1) end))
        left_at

    pub stands_on : (n : ℕ) → PushesLead (TakesArgs (counts_of procs)) n (filter_map op_of more) →
        StandsBefore procs q block more end n (place + size (emit proc i))
    stands_on n lead =
        let f = emit proc in
        let code = s.code.code in
        let taken = ap (λ l. size (flat_map f l)) (next_take code s.index i more dropped)
        ∙ ap size (flat_map-append f (take s.index code) (i ∷ [])) in
        let sum = size-append (flat_map f (take s.index code)) (f i ++ []) in
        let own = ap size (append-nil (f i)) in
        record {
          there = s.there;
          code = s.code;
          in_block = s.in_block;
          index = suc s.index;
          rest_is = next_drop code s.index i more dropped;
          end_is = s.end_is;
          place_is = omega (arith, s.place_is, taken, sum, own);
          pushes_lead = lead;
        }
