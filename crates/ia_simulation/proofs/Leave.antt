-- A procedure ends: its frame goes, and the registers that it kept come back.
use Rattle.std.proofs.Common.{◌≡◌, ℕ, zero, suc, ◌+◌, ◌-◌, ◌*◌, ◌≤◌, List, [], ◌∷◌, ◌++◌, length}
use Rattle.std.proofs.Common.{refl, ap, ◌∙◌, arith, length-append}
use Rattle.std.specs.Prelude.{pos, neg_ℤ, Ok}
use Rattle.std.proofs.lemmas.Int.{ints}
use Rattle.pra_list.specs.Results.{◌>>=◌}
use Rattle.ia_code.specs.declared.ins.Reg.TheVariants.{Ebx, Esp, Ebp, Esi, Edi}
use Rattle.ia_code.specs.declared.ins.Ins.TheVariants as ins
use Rattle.ia_code.specs.declared.ins.Width.TheVariants.{D8}
use Rattle.ia_code.specs.Listing.{bytes_of_all, AreSound}
use Rattle.ia_code.specs.Regions.{stack_base, stack_length}
use Rattle.ia_emit.specs.declared.item.Item.{Item}
use Rattle.ia_emit.specs.declared.item.Item.TheVariants.{Plain}
use Rattle.ia_emit.specs.declared.item.Target.{Target}
use Rattle.ia_emit.specs.Code.{size_of, code_of}
use Rattle.ia_emit.specs.Emission.{return, leave}
use Rattle.ia_emit.specs.Operands.{frame_word}
use Rattle.ia_step.specs.declared.out.Ending.TheVariants.{Going}
use Rattle.ia_step.specs.declared.out.StepOut.TheVariants as out
use Rattle.ia_step.specs.Effect.{effect, goes}
use Rattle.ia_step.specs.Memory.{word_in}
use Rattle.ia_step.specs.Registers.{with_reg}
use Rattle.ia_step.specs.State.{State, at, with_register}
use Rattle.ia_step.proofs.Access.{pop_here}
use Rattle.ia_step.proofs.Reaches.{Reaches, reach_on}
use Rattle.pl_place.specs.declared.placed.LProc.{LProc}
use Rattle.pra_base.specs.Words.{sum32}
use Rattle.vc_code.specs.Value.{Held, Words}
use Rattle.ia_simulation.specs.Frames.{Holds, Stacked}
use Rattle.ia_simulation.proofs.Here as here
use Rattle.ia_simulation.proofs.Walks.{Walks, drop_stacked, reaches, behind_pop, popped_holds, pops}
use Rattle.ia_simulation.proofs.Walks.{pops_on}

-- what the caller finds again
pub record Left (procs : List LProc) (m t : State) (cs : Words) (bx si di bp ret : Held) : Type 0
  where
    pub code : t.code ≡ bytes_of_all (code_of procs)
    pub going : t.ending ≡ Going
    pub stack : Stacked cs t.regs.esp t.stack
    pub ebx : Holds bx t.regs.ebx
    pub esi : Holds si t.regs.esi
    pub edi : Holds di t.regs.edi
    pub ebp : Holds bp t.regs.ebp
    pub eip : Holds ret t.eip
    pub storage : t.storage ≡ m.storage
    pub input : t.input ≡ m.input
    pub taken : t.taken ≡ m.taken

module _ (procs : List LProc) (sound : AreSound (code_of procs)) (p : LProc) (target : Target → ℕ)
    (from : ℕ) (m : State) (frame : Words) (bx si di bp ret : Held) (args cs : Words)
    (args_are : length args ≡ p.args) (few : p.args ≤ 32)
    (w : Walks procs m (frame ++ (di ∷ si ∷ bx ∷ bp ∷ ret ∷ (args ++ cs))) target from
    (leave p))
    (room : 4 * length (frame ++ (di ∷ si ∷ bx ∷ bp ∷ ret ∷ (args ++ cs))) ≤ stack_length)
    (ebp : m.regs.ebp ≡ m.regs.esp + 4 * length frame + 12) where
  abbrev after : Words
  after = di ∷ si ∷ bx ∷ bp ∷ ret ∷ (args ++ cs)

  abbrev x0 : Item
  x0 = Plain (ins.Lea Esp (frame_word D8 (neg_ℤ (pos 12))))

  abbrev last : Item
  last = Plain (return p.args)

  long_all : length (frame ++ after) ≡ length frame + length after
  long_all = length-append frame after

  abbrev esp1 : ℕ
  esp1 = m.regs.esp + 4 * length frame

  abbrev s1 : State
  s1 = record m { regs = with_reg m.regs Esp esp1; eip = m.eip + size_of x0 }

  to_s1 : Reaches 1 m s1
  unfolding effect
  to_s1 =
      let k = w.stack in
      reaches procs sound m (frame ++ after) target from x0 _ w s1
      (ap (λ n. goes (with_register (at m (m.eip + size_of x0)) Esp n))
      (omega (arith, ints, ebp, k.top, long_all, room)))

  w1 : Walks procs s1 after target (from + size_of x0)
      (Plain (ins.PopR Edi) ∷ Plain (ins.PopR Esi) ∷ Plain (ins.PopR Ebx) ∷ Plain
      (ins.PopR Ebp) ∷ last ∷ [])
  w1 = record {
    code = w.code;
    going = w.going;
    stack = drop_stacked frame after m.regs.esp esp1 m.stack refl long_all room w.stack;
    small = w.small;
    place = omega (arith, w.place);
    items_at = here.next procs target from x0 _ w.items_at;
  }

  abbrev more1 : List Item
  more1 = Plain (ins.PopR Esi) ∷ Plain (ins.PopR Ebx) ∷ Plain (ins.PopR Ebp) ∷ last ∷ []

  abbrev more2 : List Item
  more2 = Plain (ins.PopR Ebx) ∷ Plain (ins.PopR Ebp) ∷ last ∷ []

  abbrev more3 : List Item
  more3 = Plain (ins.PopR Ebp) ∷ last ∷ []

  few1 : 4 * length (si ∷ bx ∷ bp ∷ ret ∷ (args ++ cs)) + 4 ≤ stack_length
  few1 = omega (arith, room, long_all)

  abbrev s2 : State
  s2 = behind_pop procs sound s1 di (si ∷ bx ∷ bp ∷ ret ∷ (args ++ cs)) target (from + size_of x0)
      Edi more1 w1 few1

  abbrev at2 : ℕ
  at2 = from + size_of x0 + size_of (Plain (ins.PopR Edi))

  abbrev at3 : ℕ
  at3 = at2 + size_of (Plain (ins.PopR Esi))

  abbrev at4 : ℕ
  at4 = at3 + size_of (Plain (ins.PopR Ebx))

  abbrev at5 : ℕ
  at5 = at4 + size_of (Plain (ins.PopR Ebp))

  w2 : Walks procs s2 (si ∷ bx ∷ bp ∷ ret ∷ (args ++ cs)) target at2 more1
  w2 = pops_on procs sound s1 di (si ∷ bx ∷ bp ∷ ret ∷ (args ++ cs)) target _ Edi more1 w1 few1 refl

  few2 : 4 * length (bx ∷ bp ∷ ret ∷ (args ++ cs)) + 4 ≤ stack_length
  few2 = omega (arith, few1)

  abbrev s3 : State
  s3 = behind_pop procs sound s2 si (bx ∷ bp ∷ ret ∷ (args ++ cs)) target _ Esi more2 w2 few2

  w3 : Walks procs s3 (bx ∷ bp ∷ ret ∷ (args ++ cs)) target at3 more2
  w3 = pops_on procs sound s2 si (bx ∷ bp ∷ ret ∷ (args ++ cs)) target _ Esi more2 w2 few2 refl

  few3 : 4 * length (bp ∷ ret ∷ (args ++ cs)) + 4 ≤ stack_length
  few3 = omega (arith, few2)

  abbrev s4 : State
  s4 = behind_pop procs sound s3 bx (bp ∷ ret ∷ (args ++ cs)) target _ Ebx more3 w3 few3

  w4 : Walks procs s4 (bp ∷ ret ∷ (args ++ cs)) target at4 more3
  w4 = pops_on procs sound s3 bx (bp ∷ ret ∷ (args ++ cs)) target _ Ebx more3 w3 few3 refl

  few4 : 4 * length (ret ∷ (args ++ cs)) + 4 ≤ stack_length
  few4 = omega (arith, few3)

  abbrev s5 : State
  s5 = behind_pop procs sound s4 bp (ret ∷ (args ++ cs)) target _ Ebp (last ∷ []) w4 few4

  w5 : Walks procs s5 (ret ∷ (args ++ cs)) target at5 (last ∷ [])
  w5 = pops_on procs sound s4 bp (ret ∷ (args ++ cs)) target _ Ebp (last ∷ []) w4 few4 refl

  abbrev back : ℕ
  back = word_in s5.stack (s5.regs.esp - stack_base)

  -- the return takes the arguments too
  abbrev esp6 : ℕ
  esp6 = s5.regs.esp + 4 + 4 * p.args

  abbrev s6 : State
  s6 = record s5 { regs = with_reg s5.regs Esp esp6; eip = back }

  returns : (n : ℕ) → n ≡ p.args → effect (at s5 (s5.eip + size_of (Plain (return n)))) (return n) ≡
      Ok (s6, out.Going)
  unfolding effect
  returns zero e =
      let s = at s5 (s5.eip + size_of (Plain (return zero))) in
      let k = w5.stack in
      let up : s5.regs.esp + 4 ≡ esp6 = omega (arith, e) in
      ap (λ x. x >>= λ x. goes (at x.1 x.0))
      (pop_here s w5.small (omega (arith, k.top)) (omega (arith, k.top, few4))
      (omega (arith, k.top, k.long)) (omega (arith, k.top)))
      ∙ ap (λ n. goes (record s5 { regs = with_reg s5.regs Esp n; eip = back })) up
  returns (suc n) e =
      let s = at s5 (s5.eip + size_of (Plain (return (suc n)))) in
      let k = w5.stack in
      let la = length-append args cs in
      let up : sum32 (s5.regs.esp + 4) (4 * suc n) ≡ esp6 =
      omega (arith, e, k.top, la, args_are, few) in
      ap (λ x. x >>= λ x. goes (with_register (at x.1 x.0) Esp (sum32 x.1.regs.esp (4 * suc n))))
      (pop_here s w5.small (omega (arith, k.top)) (omega (arith, k.top, few4))
      (omega (arith, k.top, k.long)) (omega (arith, k.top)))
      ∙ ap (λ n. goes (record s5 { regs = with_reg s5.regs Esp n; eip = back })) up

  pub leaves : (t : State) × Reaches 6 m t × Left procs m t cs bx si di bp ret
  leaves =
      let la = length-append args cs in (
        s6,
        reach_on 1 5 m s1 s6 to_s1
            (reach_on 1 4 s1 s2 s6 (pops procs sound s1 di (si ∷ bx ∷ bp ∷ ret ∷ (args ++ cs))
            target _ Edi more1 w1 few1)
            (reach_on 1 3 s2 s3 s6 (pops procs sound s2 si (bx ∷ bp ∷ ret ∷ (args ++ cs)) target _
            Esi more2 w2 few2)
            (reach_on 1 2 s3 s4 s6 (pops procs sound s3 bx (bp ∷ ret ∷ (args ++ cs)) target _ Ebx
            more3 w3 few3)
            (reach_on 1 1 s4 s5 s6 (pops procs sound s4 bp (ret ∷ (args ++ cs)) target _ Ebp
            (last ∷ []) w4 few4)
            (reaches procs sound s5 (ret ∷ (args ++ cs)) target _ last [] w5 s6
            (returns p.args refl)))))),
        record {
          code = w.code;
          going = w.going;
          stack = drop_stacked (ret ∷ args) cs s5.regs.esp esp6 m.stack (omega (arith, args_are))
              (omega (arith, la)) (omega (arith, few4)) w5.stack;
          ebx = popped_holds procs sound s3 bx (bp ∷ ret ∷ (args ++ cs)) target _ Ebx more3 w3 few3;
          esi = popped_holds procs sound s2 si (bx ∷ bp ∷ ret ∷ (args ++ cs)) target _ Esi more2 w2
              few2;
          edi = popped_holds procs sound s1 di (si ∷ bx ∷ bp ∷ ret ∷ (args ++ cs)) target _ Edi
              more1 w1 few1;
          ebp = popped_holds procs sound s4 bp (ret ∷ (args ++ cs)) target _ Ebp (last ∷ []) w4
              few4;
          eip = w5.stack.held.0;
          storage = refl;
          input = refl;
          taken = refl;
        },
      )
