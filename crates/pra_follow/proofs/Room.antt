-- An image has room for the placed code of a short module.
use Rattle.std.proofs.Common.{◌≡◌, ℕ, ◌+◌, ◌*◌, ◌≤◌, List, length, map, Some, ap, subst, ◌∙◌}
use Rattle.std.proofs.Common.{arith}
use Rattle.std.specs.Prelude.{slice_get, option_map}
use Rattle.std.proofs.lemmas.List.{length-map}
use Rattle.std.proofs.lemmas.Option.{slice_get-map}
use Rattle.pra_base.specs.declared.code.VProc.{VProc}
use Rattle.pra_base.specs.Valid.{instruction_count as count_of}
use Rattle.ob_syntax.specs.declared.checked.Checked.{Checked}
use Rattle.ob_syntax.specs.declared.checked.CheckedProc.{CheckedProc}
use Rattle.ia_carries.proofs.Few.{same_instructions}
use Rattle.ia_code.specs.Image.{max_code_bytes}
use Rattle.ia_emit.specs.Code.{code_size}
use Rattle.ia_emit.specs.Counts.{instruction_count, AreFew}
use Rattle.ia_emit.proofs.FewBytes.{few_bytes}
use Rattle.pl_place.specs.declared.placed.LProc.{LProc}
use Rattle.pl_place.specs.Valid.{IsPlaced}
use Rattle.vc_typed.specs.TypedModules.{scalar_locals, IsLimited}
use Rattle.vc_checked.specs.Short.{IsShort}
use Rattle.pra_follow.specs.Codes.{Carriage, AreCarriages, behind}
use Rattle.pra_follow.specs.Tidied.{IsTidied, AreTidied}
use Rattle.pra_follow.proofs.Carriages.{stands_behind, carriage_placed}
use Rattle.pra_follow.proofs.CodeOf.{is_code}
use Rattle.pra_follow.proofs.Little.{few_instructions, few_blocks}
use Rattle.pra_follow.proofs.Sides.{mapped}
use Rattle.pra_follow.proofs.Sums.{sum_of_front}

module _ (program : Checked) (codes : List VProc) (limited : IsLimited program)
    (short : IsShort program) (tidied : AreTidied program codes) (cs : List Carriage)
    (are : AreCarriages cs) (same : map (λ (c : Carriage). c.code) cs ≡ codes) where
  abbrev placed : List LProc
  placed = map (λ (c : Carriage). c.placed) cs

  abbrev most_instructions : CheckedProc → ℕ
  most_instructions proc = 4 * proc.nodes + scalar_locals proc + 1

  abbrev most_blocks : CheckedProc → ℕ
  most_blocks proc = 2 * proc.nodes + 2

  is_tidied : (k : ℕ) (c : Carriage) → slice_get cs k ≡ Some c → IsTidied program k c.code
  is_tidied k c e = tidied.each k c.code
      (subst (λ (l : List VProc). slice_get l k ≡ Some c.code) same
      (slice_get-map (λ (c : Carriage). c.code) cs k
      ∙ ap (λ o. option_map (λ (c : Carriage). c.code) o) e))

  instructions_of : (k : ℕ) (proc : CheckedProc) (p : LProc) → slice_get program.procs k ≡
      Some proc → slice_get placed k ≡ Some p → instruction_count p ≤ most_instructions proc
  instructions_of k proc p e f =
      let x = mapped (λ (c : Carriage). c.placed) cs k p f in
      let code = is_code program k x.from.code (is_tidied k x.from x.there) proc e in
      let same = same_instructions (behind x.from) x.from.placed
      (stands_behind x.from (are k x.from x.there)) in
      let most : count_of x.from.code.blocks ≤ most_instructions proc = code.counts.instructions in
      let here : instruction_count x.from.placed ≤ most_instructions proc =
      omega (arith, same, most) in
      subst (λ q. instruction_count q ≤ most_instructions proc) x.is here

  blocks_of : (k : ℕ) (proc : CheckedProc) (p : LProc) → slice_get program.procs k ≡ Some proc →
      slice_get placed k ≡ Some p → length p.blocks ≤ most_blocks proc
  blocks_of k proc p e f =
      let x = mapped (λ (c : Carriage). c.placed) cs k p f in
      let code = is_code program k x.from.code (is_tidied k x.from x.there) proc e in
      let same : length x.from.placed.blocks ≡ length x.from.code.blocks =
      (are k x.from x.there).placed.count in
      let most : length x.from.code.blocks ≤ most_blocks proc = code.counts.blocks in
      let here : length x.from.placed.blocks ≤ most_blocks proc = omega (arith, same, most) in
      subst (λ (q : LProc). length q.blocks ≤ most_blocks proc) x.is here

  few_placed : length placed ≤ length program.procs
  few_placed =
      let many = length-map cs (λ (c : Carriage). c.placed) in
      let codes_many = length-map cs (λ (c : Carriage). c.code) in
      let all = ap length same in
      let count = tidied.count in
      omega (arith, many, codes_many, all, count)

  are_few : AreFew placed
  are_few = record {
    instructions = let whole = sum_of_front most_instructions instruction_count program.procs placed
        few_placed instructions_of in let most = few_instructions program limited short in
        omega (arith, whole, most);
    blocks = let whole = sum_of_front most_blocks (λ (p : LProc). length p.blocks) program.procs
        placed few_placed blocks_of in let most = few_blocks program limited short in
        omega (arith, whole, most);
  }

  all_placed : (k : ℕ) (p : LProc) → slice_get placed k ≡ Some p → IsPlaced p
  all_placed k p e = let x = mapped (λ (c : Carriage). c.placed) cs k p e in
      subst IsPlaced x.is (carriage_placed x.from (are k x.from x.there))

  pub has_room : code_size placed ≤ max_code_bytes
  has_room = few_bytes placed are_few all_placed
