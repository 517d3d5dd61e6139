-- How many words live calls have in the stack.
use Rattle.std.proofs.Common.{◌≡◌, ℕ, zero, suc, ◌*◌, ◌≤◌, List, [], ◌∷◌, ◌++◌, length, refl, arith}
use Rattle.std.proofs.Common.{length-append, Some}
use Rattle.std.specs.Prelude.{slice_get}
use Rattle.pra_list.proofs.Options.{some_same}
use Rattle.pl_place.specs.declared.placed.LProc.{LProc}
use Rattle.pl_place.specs.Machine.{Cells, shape, proc_of}
use Rattle.pl_place.specs.Valid.{counts_of}
use Rattle.pra_base.specs.declared.code.VInstr.{VInstr}
use Rattle.pra_base.specs.declared.code.VInstr.TheVariants as instr
use Rattle.pra_base.specs.Valid.{PushesLead, TakesArgs}
use Rattle.vc_code.specs.Machine.{Activation, depth}
use Rattle.ia_simulation.specs.Frames.{saved, rest_of, frames}
use Rattle.ia_simulation.specs.Realizes.{IsLoadable, HasSizes, AllWait}

pub saved_long : (procs : List LProc) (backs : List ℕ) (calls : List (Activation Cells)) →
    length (saved procs backs calls) ≡ 5
saved_long procs backs [] = refl
saved_long procs [] (d ∷ calls) = refl
saved_long procs (b ∷ backs) (d ∷ calls) = refl

module _ (procs : List LProc) where
  frame_long : (c : Activation Cells) (calls : List (Activation Cells)) (backs : List ℕ) →
      HasSizes (proc_of procs c.proc) c.aggregates c.args c.home.slots c.home.regs →
      4 * length (frames procs (rest_of backs) calls) ≡ depth (shape procs) calls →
      4 * length (frames procs backs (c ∷ calls)) ≡ depth (shape procs) (c ∷ calls)
  frame_long c calls backs sizes rest =
      let a = c.aggregates in
      let b = c.home.slots in
      let s = saved procs backs calls in
      let g = c.args in
      let r = frames procs (rest_of backs) calls in
      let la = length-append a (b ++ (s ++ (g ++ r))) in
      let lb = length-append b (s ++ (g ++ r)) in
      let ls = length-append s (g ++ r) in
      let lg = length-append g r in
      let five = saved_long procs backs calls in
      omega (
        arith,
        la,
        lb,
        ls,
        lg,
        five,
        rest,
        sizes.aggregates_long,
        sizes.args_long,
        sizes.slots_long,
      )

  pub frames_long : (calls : List (Activation Cells)) (backs outer : List ℕ) →
      AllWait procs calls outer → 4 * length (frames procs backs calls) ≡ depth (shape procs) calls
  frames_long [] backs outer w = refl
  frames_long (c ∷ calls) backs [] w = absurd w
  frames_long (c ∷ calls) backs (o ∷ outer) w = frame_long c calls backs w.0.sizes
      (frames_long calls (rest_of backs) outer w.1)

  pub live_long : (c : Activation Cells) (calls : List (Activation Cells)) (backs : List ℕ) →
      HasSizes (proc_of procs c.proc) c.aggregates c.args c.home.slots c.home.regs →
      AllWait procs calls backs →
      4 * length (frames procs backs (c ∷ calls)) ≡ depth (shape procs) (c ∷ calls)
  live_long c calls backs sizes w = frame_long c calls backs sizes
      (frames_long calls (rest_of backs) backs w)

-- ---- pushes that stand

module _ (procs : List LProc) (data_words : ℕ) (ok : IsLoadable procs data_words) where
  counted : (procs : List LProc) (q n : ℕ) → slice_get (counts_of procs) q ≡ Some n → (p : LProc) ×
      (slice_get procs q ≡ Some p) × (p.args ≡ n)
  counted [] q n e = cc
  counted (p ∷ procs) zero n e = (p, refl, some_same p.args n e)
  counted (p ∷ procs) (suc q) n e = counted procs q n e

  -- a call takes at most 32
  few_taken : (q n : ℕ) → TakesArgs (counts_of procs) q n → n ≤ 32
  few_taken q n takes = let c = counted procs q n takes in
      omega (arith, c.2, (ok.small q c.0 c.1).args)

  pub few_pushes : (n : ℕ) (rest : List VInstr) → PushesLead (TakesArgs (counts_of procs)) n rest →
      n ≤ 32
  few_pushes n [] lead = omega (arith, lead)
  few_pushes n (instr.Push s ∷ rest) lead = let more = few_pushes (suc n) rest lead in
      omega (arith, more)
  few_pushes n (instr.Call p ∷ rest) lead = few_taken p.0 n lead.0
  few_pushes n (instr.Set v k ∷ rest) lead = omega (arith, lead.0)
  few_pushes n (instr.Copy v s ∷ rest) lead = omega (arith, lead.0)
  few_pushes n (instr.Add v s ∷ rest) lead = omega (arith, lead.0)
  few_pushes n (instr.Sub v s ∷ rest) lead = omega (arith, lead.0)
  few_pushes n (instr.And v s ∷ rest) lead = omega (arith, lead.0)
  few_pushes n (instr.Or v s ∷ rest) lead = omega (arith, lead.0)
  few_pushes n (instr.Xor v s ∷ rest) lead = omega (arith, lead.0)
  few_pushes n (instr.Mul v s ∷ rest) lead = omega (arith, lead.0)
  few_pushes n (instr.Neg v ∷ rest) lead = omega (arith, lead.0)
  few_pushes n (instr.Shift op v k ∷ rest) lead = omega (arith, lead.0)
  few_pushes n (instr.Cmp a b ∷ rest) lead = omega (arith, lead.0)
  few_pushes n (instr.CmpSet k v a b ∷ rest) lead = omega (arith, lead.0)
  few_pushes n (instr.DivMod q r a d ∷ rest) lead = omega (arith, lead.0)
  few_pushes n (instr.Check i k ∷ rest) lead = omega (arith, lead.0)
  few_pushes n (instr.CheckPos d ∷ rest) lead = omega (arith, lead.0)
  few_pushes n (instr.Load v a ∷ rest) lead = omega (arith, lead.0)
  few_pushes n (instr.Store a s ∷ rest) lead = omega (arith, lead.0)
  few_pushes n (instr.Addr v a ∷ rest) lead = omega (arith, lead.0)
  few_pushes n (instr.Read v ∷ rest) lead = omega (arith, lead.0)
  few_pushes n (instr.Write s ∷ rest) lead = omega (arith, lead.0)
  few_pushes n (instr.Line ∷ rest) lead = omega (arith, lead.0)
  few_pushes n (instr.Clear ∷ rest) lead = omega (arith, lead.0)
