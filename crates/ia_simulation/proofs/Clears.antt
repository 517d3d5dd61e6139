-- The loop that clears the aggregate words of a call.
use Rattle.std.proofs.Common.{◌≡◌, ℕ, zero, suc, ◌+◌, ◌-◌, ◌*◌, ◌≤◌, ◌<◌, true, List, [], ◌∷◌, ◌++◌}
use Rattle.std.proofs.Common.{length, Some, refl, sym, ap, ◌∙◌, subst, arith, length-append}
use Rattle.std.specs.Prelude.{pos, neg_ℤ, not, ◌==◌, slice_set}
use Rattle.std.proofs.lemmas.Bool.Decides.{nat_tests}
use Rattle.std.proofs.lemmas.Int.{ints}
use Rattle.pra_list.proofs.Elements.{length_set}
use Rattle.pra_list.specs.Results.{◌>>=◌}
use Rattle.ia_code.specs.declared.ins.AluOp.TheVariants as alu
use Rattle.ia_code.specs.declared.ins.Reg.TheVariants.{Ecx, Ebp}
use Rattle.ia_code.specs.declared.ins.Ins.TheVariants as ins
use Rattle.ia_code.specs.declared.ins.MemAddr.{MemAddr}
use Rattle.ia_code.specs.declared.ins.Rm.TheVariants as rm
use Rattle.ia_code.specs.declared.ins.Width.TheVariants.{D32}
use Rattle.ia_code.specs.Image.{max_code_bytes}
use Rattle.ia_code.specs.Listing.{bytes_of_all, AreSound}
use Rattle.ia_code.specs.Regions.{stack_base, stack_length}
use Rattle.ia_emit.specs.declared.item.Item.{Item}
use Rattle.ia_emit.specs.declared.item.Item.TheVariants.{Plain}
use Rattle.ia_emit.specs.declared.item.Target.{Target}
use Rattle.ia_emit.specs.Code.{size_of, code_of}
use Rattle.ia_step.specs.declared.registers.Registers.{Registers}
use Rattle.ia_step.specs.Arithmetic.{diff_flags, holds}
use Rattle.ia_step.specs.Effect.{effect, goes, mov, alu as operation, read_rm, write_rm, branch}
use Rattle.ia_step.specs.Memory.{with_word}
use Rattle.ia_step.specs.Registers.{with_reg, address_of}
use Rattle.ia_step.specs.State.{State, at}
use Rattle.ia_step.proofs.Conditions.{holds-diff_flags}
use Rattle.ia_step.proofs.Reaches.{Reaches, reach_on}
use Rattle.pl_place.specs.declared.placed.LProc.{LProc}
use Rattle.pra_base.specs.declared.ids.Cond.TheVariants as cond
use Rattle.pra_base.specs.Words.{word, sum32, diff32}
use Rattle.vc_code.specs.declared.value.Value.TheVariants.{Num}
use Rattle.vc_code.specs.Value.{Held, Words}
use Rattle.vc_code.specs.Machine.{zeroed}
use Rattle.ia_simulation.specs.Frames.{Stacked}
use Rattle.ia_simulation.proofs.Cells.{set_front, store_cell}
use Rattle.ia_simulation.proofs.Here as here
use Rattle.ia_simulation.proofs.Walks.{Walks, reaches, goes_on}

abbrev zero_word : Held
zero_word = Some (Num 0)

-- words set to 0 from the j-th down
wipe : ℕ → Words → Words
wipe zero xs = xs
wipe (suc j) xs = wipe j (slice_set xs j zero_word)

pub zeroed_long : (xs : Words) → length (zeroed xs) ≡ length xs
zeroed_long [] = refl
zeroed_long (x ∷ xs) = ap suc (zeroed_long xs)

wipe_cons : (j : ℕ) (x : Held) (xs : Words) → wipe (suc j) (x ∷ xs) ≡ zero_word ∷ wipe j xs
unfolding wipe
wipe_cons zero x xs = refl
wipe_cons (suc j) x xs = wipe_cons j x (slice_set xs j zero_word)

wiped : (xs : Words) → wipe (length xs) xs ≡ zeroed xs
unfolding wipe
wiped [] = refl
wiped (x ∷ xs) = wipe_cons (length xs) x xs ∙ ap (λ ys. zero_word ∷ ys) (wiped xs)

module _ (procs : List LProc) (sound : AreSound (code_of procs))
    (short : length (bytes_of_all (code_of procs)) ≤ max_code_bytes) (target : Target → ℕ)
    (rest : Words) (m : ℕ) (more : List Item) (from : ℕ) (few : m ≤ 100000) where
  -- the word that ECX counts
  abbrev last_word : MemAddr
  last_word = record {
    base = Some Ebp;
    index = Some (Ecx, 4);
    disp = neg_ℤ (pos (16 + 4 * m));
    width = D32;
  }

  abbrev y1 : Item
  y1 = Plain (ins.MovRmI (rm.Mem last_word) (pos 0))

  abbrev y2 : Item
  y2 = Plain (ins.AluRmB alu.Sub (rm.Reg Ecx) (pos 1))

  abbrev y3 : Item
  y3 = Plain (ins.Jcc cond.Ne (neg_ℤ (pos 20)))

  abbrev pub loop : List Item
  loop = y1 ∷ y2 ∷ y3 ∷ more

  -- in the midst of a turn
  record Half (s t : State) (j : ℕ) (ws : Words) : Type 0 where
    walks : Walks procs t (slice_set ws j zero_word ++ rest) target (from + size_of y1 + size_of y2)
        (y3 ∷ more)
    flags : t.flags ≡ diff_flags (suc j) 1
    regs : t.regs ≡ with_reg s.regs Ecx j
    storage : t.storage ≡ s.storage
    input : t.input ≡ s.input
    taken : t.taken ≡ s.taken

  half : (j : ℕ) (s : State) (ws : Words) → j < length ws → length ws ≤ m →
      Walks procs s (ws ++ rest) target from loop → 4 * length (ws ++ rest) ≤ stack_length →
      s.regs.ecx ≡ suc j → s.regs.ebp ≡ s.regs.esp + 4 * m + 12 →
      (t : State) × Reaches 2 s t × Half s t j ws
  unfolding effect mov operation read_rm write_rm
  half j s ws small fits w room ecx ebp =
      let cs = ws ++ rest in
      let a = address_of s.regs last_word in
      let l = length-append ws rest in
      let spot : a ≡ s.regs.esp + 4 * j =
      omega (arith, ints, ecx, ebp, w.stack.top, fits, small, l, few) in
      let s0 = at s (s.eip + size_of y1) in
      let c = store_cell cs s0 w.stack w.small room j a (omega (arith, small, l)) spot zero_word 0
      (refl, omega arith) in
      let s1 : State = record s {
        stack = with_word s.stack (a - stack_base) 0;
        eip =
            s.eip + size_of y1;
      } in
      let r1 : Reaches 1 s s1 = reaches procs sound s cs target from y1 (y2 ∷ y3 ∷ more) w s1
      (ap (λ q. q >>= goes) c.0) in
      let moved : slice_set cs j zero_word ≡ slice_set ws j zero_word ++ rest =
      set_front ws rest j zero_word small in
      let w1 : Walks procs s1 (slice_set ws j zero_word ++ rest) target (from + size_of y1)
      (y2 ∷ y3 ∷ more) = record {
        code = w.code;
        going = w.going;
        stack = subst (λ q. Stacked q s.regs.esp s1.stack) moved c.1;
        small = w.small;
        place = omega (arith, w.place);
        items_at = here.next procs target from y1 (y2 ∷ y3 ∷ more) w.items_at;
      } in
      let g : Registers = with_reg s.regs Ecx (diff32 s.regs.ecx 1) in
      let f = diff_flags s.regs.ecx 1 in
      let s2 : State = record s1 { regs = g; flags = f; eip = s1.eip + size_of y2 } in
      let r2 : Reaches 1 s1 s2 = reaches procs sound s1 (slice_set ws j zero_word ++ rest) target
      (from + size_of y1) y2 (y3 ∷ more) w1 s2 refl in
      let less : diff32 s.regs.ecx 1 ≡ j = omega (arith, ecx, small, fits, few) in (
        s2,
        reach_on 1 1 s s1 s2 r1 r2,
        record {
          walks = goes_on procs sound s1 (slice_set ws j zero_word ++ rest) target
              (from + size_of y1) y2 (y3 ∷ more) w1 g f refl;
          flags = ap (λ n. diff_flags n 1) ecx;
          regs = ap (λ n. with_reg s.regs Ecx n) less;
          storage = refl;
          input = refl;
          taken = refl;
        },
      )

  abbrev end : ℕ
  end = from + size_of y1 + size_of y2 + size_of y3

  -- at the end of the loop
  pub record Wiped (s t : State) (words : Words) : Type 0 where
    pub walks : Walks procs t words target end more
    pub regs : (n : ℕ) × (t.regs ≡ with_reg s.regs Ecx n)
    pub storage : t.storage ≡ s.storage
    pub input : t.input ≡ s.input
    pub taken : t.taken ≡ s.taken

  turns : (j : ℕ) (s : State) (ws : Words) → j < length ws → length ws ≤ m →
      Walks procs s (ws ++ rest) target from loop → 4 * length (ws ++ rest) ≤ stack_length →
      s.regs.ecx ≡ suc j → s.regs.ebp ≡ s.regs.esp + 4 * m + 12 →
      (k : ℕ) × (t : State) × Reaches k s t × Wiped s t (wipe (suc j) ws ++ rest)
  unfolding wipe effect
  turns zero s ws small fits w room ecx ebp =
      let h = half zero s ws small fits w room ecx ebp in
      let t = h.0 in
      let x = h.2 in
      let u = at t (t.eip + size_of y3) in
      let condition = ap (λ f. holds f cond.Ne) x.flags ∙ holds-diff_flags 1 1 (omega arith)
      (omega arith) cond.Ne in
      let r : Reaches 1 t u = reaches procs sound t (slice_set ws zero zero_word ++ rest) target
      (from + size_of y1 + size_of y2) y3 more x.walks u
      (ap (branch u (neg_ℤ (pos 20))) condition) in (
        3,
        u,
        reach_on 2 1 s t u h.1 r,
        record {
          walks = goes_on procs sound t (slice_set ws zero zero_word ++ rest) target
              (from + size_of y1 + size_of y2) y3 more x.walks t.regs t.flags refl;
          regs = (0, x.regs);
          storage = x.storage;
          input = x.input;
          taken = x.taken;
        },
      )
  turns (suc j) s ws small fits w room ecx ebp =
      let h = half (suc j) s ws small fits w room ecx ebp in
      let t = h.0 in
      let x = h.2 in
      let ys = slice_set ws (suc j) zero_word in
      let near = here.within procs target from loop w.items_at in
      let e_now = t.eip + size_of y3 in
      let sizes : size_of y1 + size_of y2 + size_of y3 ≡ 20 = refl in
      let to : sum32 e_now (word (neg_ℤ (pos 20))) ≡ s.eip =
      omega (arith, ints, x.walks.place, w.place, sizes, near, short) in
      let u = at t s.eip in
      let other : not (suc (suc j) == 1) ≡ true = grind (arith, nat_tests) in
      let condition = ap (λ f. holds f cond.Ne) x.flags ∙ holds-diff_flags (suc (suc j)) 1
      (omega (arith, small, fits, few)) (omega arith) cond.Ne ∙ ap Some other in
      let r : Reaches 1 t u = reaches procs sound t (ys ++ rest) target
      (from + size_of y1 + size_of y2) y3 more x.walks u
      (ap (branch (at t e_now) (neg_ℤ (pos 20))) condition ∙ ap (λ n. goes (at t n)) to) in
      let long = length_set ws (suc j) zero_word in
      let wu : Walks procs u (ys ++ rest) target from loop =
      record {
        code = x.walks.code;
        going = x.walks.going;
        stack = x.walks.stack;
        small =
            x.walks.small;
        place = w.place;
        items_at = w.items_at;
      } in
      let ebp_u : u.regs.ebp ≡ u.regs.esp + 4 * m + 12 = ap (λ (g : Registers). g.ebp) x.regs ∙ ebp
      ∙ ap (λ (g : Registers). g.esp + 4 * m + 12) (sym x.regs) in
      let la = length-append ws rest in
      let lb = length-append ys rest in
      let z = turns j u ys (omega (arith, small, long)) (omega (arith, fits, long)) wu
      (omega (arith, room, long, la, lb)) (ap (λ (g : Registers). g.ecx) x.regs) ebp_u in
      let v = z.3 in (
        3 + z.0,
        z.1,
        reach_on 3 z.0 s u z.1 (reach_on 2 1 s t u h.1 r) z.2,
        record {
          walks = v.walks;
          regs = (v.regs.0, v.regs.1 ∙ ap (λ (g : Registers). with_reg g Ecx v.regs.0) x.regs);
          storage = v.storage ∙ x.storage;
          input = v.input ∙ x.input;
          taken = v.taken ∙ x.taken;
        },
      )

  -- all words are cleared
  pub clears : (n : ℕ) (s : State) (ws : Words) → suc n ≡ length ws → length ws ≤ m →
      Walks procs s (ws ++ rest) target from loop → 4 * length (ws ++ rest) ≤ stack_length →
      s.regs.ecx ≡ suc n → s.regs.ebp ≡ s.regs.esp + 4 * m + 12 →
      (k : ℕ) × (t : State) × Reaches k s t × Wiped s t (zeroed ws ++ rest)
  clears n s ws count fits w room ecx ebp =
      let z = turns n s ws (omega (arith, count)) fits w room ecx ebp in (
        z.0,
        z.1,
        z.2,
        subst (λ q. Wiped s z.1 (q ++ rest)) (ap (λ k. wipe k ws) count ∙ wiped ws)
            z.3,
      )
