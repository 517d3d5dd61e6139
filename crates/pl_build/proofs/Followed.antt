-- The procedures of a module that were placed, together.
use Rattle.std.proofs.Common.{◌≡◌, ℕ, suc, ◌<◌, ◌≤◌, ⊎_elim, List, [], ◌∷◌, length, slice_get}
use Rattle.std.proofs.Common.{slice_index_or, Some, refl, sym, ap, ap₂, subst, ◌∙◌, arith}
use Rattle.std.proofs.lemmas.Bool.{cases_lt}
use Rattle.std.proofs.lemmas.List.{get_or_past, get_or-map, length-map}
use Rattle.std.proofs.lemmas.Option.{slice_get-get_or, slice_get_within}
use Rattle.pra_base.specs.declared.code.Block.{Block}
use Rattle.pra_base.specs.declared.code.VProc.{VProc}
use Rattle.pra_base.specs.Code as base
use Rattle.pra_base.specs.Code.{code_of, block_in}
use Rattle.pra_base.specs.Valid.{PushesLead, PushesBeforeCalls, TakesArgs}
use Rattle.pra_base.specs.Valid as valid
use Rattle.pl_made.specs.Made.{IsMade}
use Rattle.pl_made.proofs.Parts.{behind_of, bare_in}
use Rattle.pl_made.proofs.Whole.{is_placed}
use Rattle.pl_place.specs.declared.placed.LBlock.{LBlock}
use Rattle.pl_place.specs.declared.placed.LProc.{LProc}
use Rattle.pl_place.specs.Behind.{Routed}
use Rattle.pl_place.specs.Machine.{no_block}
use Rattle.pl_place.specs.Placed.{bare, bare_block}
use Rattle.pl_place.specs.Valid.{counts_of, ArePlaced}
use Rattle.pl_routed.specs.Routed.{routed, AreRouted}
use Rattle.pl_build.specs.Placement.{ArePlacements}

-- with moves left out the code of each block is that of the selected code
bare_code : (r : Routed) (p : LProc) → IsMade r p → (b : ℕ) → (block_in (bare p) b).code ≡
    code_of r.code b
bare_code r p made b =
    ⊎_elim
    (λ (lt : b < length p.blocks).
    let block : LBlock = slice_index_or p.blocks b no_block in
    ap (λ (x : Block). x.code) (get_or-map bare_block p.blocks b no_block base.no_block lt)
    ∙ bare_in r b 0 (code_of r.code b) block.code
    (made.lays b block (slice_get-get_or p.blocks b no_block lt)))
    (λ (le : length p.blocks ≤ b).
    let many = length-map p.blocks bare_block in
    let count = made.count in
    ap (λ (x : Block). x.code)
    (get_or_past (bare p) b base.no_block (omega (arith, many, le))
    ∙ sym (get_or_past r.code.blocks b base.no_block (omega (arith, count, le)))))
    (cases_lt b (length p.blocks))

module _ (codes : List VProc) (procs : List LProc) (are : ArePlacements codes procs) where
  code_there : (n : ℕ) (p : LProc) → slice_get procs n ≡ Some p → (code : VProc) ×
      (slice_get codes n ≡ Some code)
  code_there n p e =
      let lt = slice_get_within procs n p e in
      let count = are.count in
      (slice_index_or codes n no_code, slice_get-get_or codes n no_code (omega (arith, lt, count)))
    where
      no_code : VProc
      no_code = record { id = record { 0 = 0 }; args = 0; aggregates = 0; vars = []; blocks = [] }

  same_counts : counts_of procs ≡ valid.counts_of codes
  same_counts = by_each codes procs are.count (λ n code p e f. (are.each n code p e f).made.args)
    where
      by_each : (cs : List VProc) (ps : List LProc) → length ps ≡ length cs →
          ((n : ℕ) (code : VProc) (p : LProc) → slice_get cs n ≡ Some code → slice_get ps n ≡
          Some p → p.args ≡ code.args) → counts_of ps ≡ valid.counts_of cs
      by_each [] [] many same = refl
      by_each [] (p ∷ ps) many same = cc
      by_each (c ∷ cs) [] many same = cc
      by_each (c ∷ cs) (p ∷ ps) many same =
          ap₂ (λ (n : ℕ) (ns : List ℕ). n ∷ ns) (same 0 c p refl refl)
          (by_each cs ps (omega (arith, many)) (λ n code q e f. same (suc n) code q e f))

  all_placed : ArePlaced procs
  all_placed = record {
    each = λ n p e.
        let code = code_there n p e in
        let x = are.each n code.0 p code.1 e in
        is_placed code.0 x.net x.routes x.is_net x.are_routes x.admitted
        (are.valid.each n code.0 code.1) (are.sized n code.0 code.1) p x.made;
    pushes_before_calls = λ n p e b.
        let code = code_there n p e in
        let x = are.each n code.0 p code.1 e in
        subst (λ counts. PushesLead (TakesArgs counts) 0 (block_in (bare p) b).code)
        (sym same_counts)
        (subst (PushesLead (TakesArgs (valid.counts_of codes)) 0)
        (sym (bare_code (routed code.0 x.net x.routes) p x.made b))
        (are.valid.pushes_before_calls n code.0 code.1 b));
    body = subst (λ counts. TakesArgs counts 0 0) (sym same_counts) are.valid.body;
  }

  pub all_routed : AreRouted codes procs
  all_routed = record {
    valid = are.valid;
    placed = all_placed;
    count = are.count;
    sized = are.sized;
    each = λ n code p e f.
        let x = are.each n code p e f in
        record {
          net = x.net;
          routes = x.routes;
          is_net = x.is_net;
          are_routes = x.are_routes;
          admitted = x.admitted;
          behind = behind_of (routed code x.net x.routes) p x.made;
        };
  }
