-- Instructions of placed code that are one instruction of the machine: what they have in common.
use Rattle.std.proofs.Common.{◌≡◌, ◌≢◌, ℕ, List, [], ◌∷◌, length, Option, Some, None, refl, sym, ap}
use Rattle.std.proofs.Common.{subst, arith}
use Rattle.std.specs.Prelude.{ℤ, Ok}
use Rattle.std.specs.List.{filter_map}
use Rattle.std.specs.Int.{w8, w32}
use Rattle.std.specs.Int.RustNames.{FitsSigned}
use Rattle.std.proofs.lemmas.Int.{ints}
use Rattle.pra_list.proofs.Choices.{either}
use Rattle.pra_list.specs.Options.{◌>>=◌}
use Rattle.ia_code.specs.declared.ins.AluOp.{AluOp}
use Rattle.ia_code.specs.declared.ins.Ins.{Ins}
use Rattle.ia_code.specs.DecodeTable.{IsSound}
use Rattle.ia_emit.specs.declared.item.Item.TheVariants.{Plain}
use Rattle.ia_emit.specs.declared.item.Operand.{Operand}
use Rattle.ia_emit.specs.declared.item.Operand.TheVariants as at
use Rattle.ia_emit.specs.Emission.{emit, alu_number, combine}
use Rattle.ia_emit.specs.Operands as emitted
use Rattle.ia_step.specs.declared.flags.Flags.{Flags}
use Rattle.ia_step.specs.declared.out.StepOut.TheVariants as out
use Rattle.ia_step.specs.declared.registers.Registers.{Registers}
use Rattle.ia_step.specs.Effect.{effect}
use Rattle.ia_step.specs.Run.{Ran}
use Rattle.ia_step.specs.State as machine
use Rattle.net_form.specs.Tables.{is_short}
use Rattle.pl_place.specs.declared.placed.LInstr.{LInstr}
use Rattle.pl_place.specs.declared.placed.LInstr.TheVariants as placed
use Rattle.pl_place.specs.declared.placed.LProc.{LProc}
use Rattle.pl_place.specs.Machine.{Cells, proc_of, passed, clobbered, operand, put, put_all}
use Rattle.pl_place.specs.Machine.{placed_machine}
use Rattle.pl_place.specs.Placed.{op_of}
use Rattle.pl_place.specs.Valid.{OperandsPlaced, counts_of}
use Rattle.pra_base.specs.declared.code.VInstr.{VInstr}
use Rattle.pra_base.specs.declared.ids.Place.{Place}
use Rattle.pra_base.specs.RunEnd.{Wrong}
use Rattle.pra_base.specs.Valid.{PushesLead, TakesArgs}
use Rattle.vc_code.specs.declared.action.Action.{Action}
use Rattle.vc_code.specs.declared.action.Action.TheVariants as action
use Rattle.vc_code.specs.declared.value.Value.{Value}
use Rattle.vc_code.specs.declared.value.Value.TheVariants.{Num, At}
use Rattle.vc_code.specs.Operation.{number, both}
use Rattle.vc_code.specs.Value.{Held}
use Rattle.vc_code.specs.Machine.{Activation, State, Machine, After, apply, with_top}
use Rattle.ia_simulation.specs.Frames.{Means}
use Rattle.ia_simulation.specs.Realizes.{IsLoadable, FlagsTell, Lies, Runs, Realizes, Leads}
use Rattle.ia_simulation.proofs.Effects.{IsPlace}
use Rattle.ia_simulation.proofs.Spots.{Same, Wrote, read, reads, writes}
use Rattle.ia_simulation.proofs.Standing as standing
use Rattle.ia_simulation.proofs.Steps as steps
use Rattle.ia_simulation.proofs.Steps.{found_ok, lies_clobbered, clobbered_same, same_then}

-- ---- lists of so many places

pub one_is : (l : List Place) → length l ≡ 1 → (a : Place) × (l ≡ a ∷ [])
one_is [] n = cc
one_is (a ∷ []) n = (a, refl)
one_is (a ∷ b ∷ l) n = absurd (omega (arith, n))

pub two_are : (l : List Place) → length l ≡ 2 → (a : Place) × (b : Place) × (l ≡ a ∷ b ∷ [])
two_are [] n = cc
two_are (a ∷ l) n = let m : length l ≡ 1 = omega (arith, n) in let t = one_is l m in
    (a, t.0, ap (λ l. a ∷ l) t.1)

pub three_are : (l : List Place) → length l ≡ 3 → (a : Place) × (b : Place) × (c : Place) ×
    (l ≡ a ∷ b ∷ c ∷ [])
three_are [] n = cc
three_are (a ∷ l) n = let m : length l ≡ 2 = omega (arith, n) in let t = two_are l m in
    (a, t.0, t.1, ap (λ l. a ∷ l) t.2)

-- ---- values

pub number_is : (h : Held) (n : ℕ) → number h ≡ Some n → h ≡ Some (Num n)
number_is None n e = cc
number_is (Some (Num k)) n e = cc
number_is (Some (At x k)) n e = cc

-- ---- numbers of instructions that the table has

pub short_is_word : (n : ℤ) → FitsSigned w8 n → FitsSigned w32 n
short_is_word n f = omega (arith, ints)

pub alu_fits : (op : AluOp) (to : Operand) (n : ℤ) → IsSound (alu_number op to n) → FitsSigned w32 n
alu_fits op to n = either (λ i. IsSound i → FitsSigned w32 n) (is_short n) _ _
    (λ _ s. short_is_word n s.1) (λ _ s. s.1)

pub combined_fits : (op : AluOp) (to from : Operand) → IsSound (combine op to from) → (n : ℤ) →
    from ≡ at.Number n → FitsSigned w32 n
combined_fits op to from sound n e =
    alu_fits op to n (subst (λ o. IsSound (combine op to o)) e sound)

pub no_number : (o : Operand) → IsPlace o → (n : ℤ) → o ≡ at.Number n → FitsSigned w32 n
no_number o is n e = absurd (subst IsPlace e is)

-- all values are written
pub put_done : (p : LProc) (o : Option (Activation Cells)) (places : List ℕ) (xs : List Value)
    (c : Activation Cells) → put_all p o [] places xs ≡ Some c → o ≡ Some c
put_done p None places xs c e = cc
put_done p (Some d) places xs c e = e

module _ (procs : List LProc) (data_words : ℕ) (ok : IsLoadable procs data_words) (s : State Cells)
    (r : Ran) (y : Realizes procs s r) (o : s.over ≡ None) where
  abbrev pub mach : Machine Cells
  mach = placed_machine procs

  abbrev pub p : LProc
  p = proc_of procs s.top.proc

  abbrev P : State Cells → Type 0
  P = Leads procs s r

  abbrev x : Runs procs s r.state
  x = steps.x procs data_words ok s r y o

  -- what an action is made of is there
  pub bound_ok : {A : Type 0} (after : After Cells) (q : Option A) (f : A → Option Action) →
      (apply mach after (q >>= f) s).over ≢ Some Wrong →
      ((a : A) → q ≡ Some a → (apply mach after (f a) s).over ≢ Some Wrong →
      P (apply mach after (f a) s)) → P (apply mach after (q >>= f) s)
  bound_ok after None f ns k = absurd (ns refl)
  bound_ok after (Some a) f ns k = k a refl ns

  pub gives_ok : (after : After Cells) (v : Value) →
      (apply mach after (Some (action.Give v)) s).over ≢ Some Wrong →
      ((c : Activation Cells) → after (v ∷ []) ≡ Some c → P (with_top s c)) →
      P (apply mach after (Some (action.Give v)) s)
  gives_ok after v ns k = found_ok P s (after (v ∷ [])) (λ c. with_top s c) ns (λ c e _. k c e)

  -- two numbers
  pub both_ok : (after : After Cells) (g h : Held) (f : ℕ × ℕ → Option Action) →
      (apply mach after (both (g ∷ h ∷ []) >>= f) s).over ≢ Some Wrong →
      ((a b : ℕ) → g ≡ Some (Num a) → h ≡ Some (Num b) → (apply mach after (f (a, b)) s).over ≢ Some
      Wrong → P (apply mach after (f (a, b)) s)) →
      P (apply mach after (both (g ∷ h ∷ []) >>= f) s)
  both_ok after g h f ns k = one (number g) refl (number h) refl ns
    where
      one : (a : Option ℕ) → number g ≡ a → (b : Option ℕ) → number h ≡ b →
          (apply mach after ((a >>= λ a. b >>= λ b. Some (a, b)) >>= f) s).over ≢ Some Wrong →
          P (apply mach after ((number g >>= λ a. number h >>= λ b. Some (a, b)) >>= f) s)
      one None e b d ns = absurd (ns refl)
      one (Some a) e None d ns = absurd (ns refl)
      one (Some a) e (Some b) d ns =
          subst (λ q. P (apply mach after ((q >>= λ a. number h >>= λ b. Some (a, b)) >>= f) s))
          (sym e)
          (subst (λ q. P (apply mach after ((q >>= λ b. Some (a, b)) >>= f) s)) (sym d)
          (k a b (number_is g a e) (number_is h b d) ns))

  module _ (i : VInstr) (places : _) (more : List LInstr)
      (e : s.top.home.rest ≡ placed.Op i places ∷ more) where
    -- the call behind it, before values are in its written roles
    abbrev pub passed_by : Activation Cells
    passed_by = clobbered i more s.top

    pub operands_placed : OperandsPlaced p i places.items
    operands_placed =
        (ok.placed.each s.top.proc p x.stands.there).operands_placed s.top.home.block x.stands.index
        i places
        (standing.instr_is procs s.top.proc s.top.home.block s.top.home.rest s.top.home.end
        (length s.pushed) r.state.eip x.stands (placed.Op i places) more e)

    module _ (j : Ins) (em : emit p (placed.Op i places) ≡ Plain j ∷ []) where
      -- the state in which the machine executes it
      abbrev pub now : machine.State
      now = steps.fetched procs data_words ok s r y o (placed.Op i places) more e (Plain j) [] em

      pub sound : IsSound j
      sound = steps.sound_here procs data_words ok s r y o (placed.Op i places) more e (Plain j)
          [] em

      pub lies_behind : Lies procs x.backs s.pushed passed_by s.below s.globals now.regs now.stack
          now.storage
      lies_behind = lies_clobbered procs x.backs s.pushed s.top s.below s.globals now.regs now.stack
          now.storage i more x.lies

      -- what an operand holds is read
      pub reads_here : (v q : ℕ) (value : Value) →
          ((n : ℤ) → emitted.operand p v q ≡ at.Number n → FitsSigned w32 n) → operand p s.top v q ≡
          Some value →
          (n : ℕ) × (read now (emitted.operand p v q) ≡ Ok n) × Means value n
      reads_here = reads procs x.backs s.pushed s.top s.below s.globals now x.lies x.waiting
          (steps.few procs data_words ok s r y o)

      -- a value is written
      abbrev pub Writes : Operand → ℕ → Activation Cells → Type 0
      Writes = Wrote procs x.backs s.pushed passed_by s.below s.globals now lies_behind x.waiting
          (steps.few procs data_words ok s r y o)

      pub writes_here : (v q : ℕ) (value : Value) (n : ℕ) (c : Activation Cells) →
          put p passed_by v q (Some value) ≡ Some c → Means value n →
          Writes (emitted.operand p v q) n c
      writes_here = writes procs x.backs s.pushed passed_by s.below s.globals now lies_behind
          x.waiting (steps.few procs data_words ok s r y o)

      -- the machine goes on behind it, having written nothing that is told
      pub changes : (c : Activation Cells) (compared : Option (ℕ × ℕ)) (flags : Flags)
          (regs : Registers) (stack : List ℕ) → Same passed_by c →
          PushesLead (TakesArgs (counts_of procs)) (length s.pushed) (filter_map op_of more) →
          Lies procs x.backs s.pushed c s.below s.globals regs stack now.storage →
          FlagsTell compared flags →
          effect now j ≡ Ok (record now { regs = regs; stack = stack; flags = flags }, out.Going) →
          P (record s { top = c; compared = compared })
      changes c compared flags regs stack same lead lies tell f =
          steps.leads procs data_words ok s r y o (placed.Op i places) more e (Plain j) [] em
          (record now { regs = regs; stack = stack; flags = flags }) out.Going
          (record s { top = c; compared = compared }) f (record {
            ending = y.ending;
            events = y.events;
            taken = y.taken;
            going = λ _.
                steps.runs_on procs data_words ok s r y o (placed.Op i places) more e c compared
                flags regs stack _
                (same_then (passed more s.top) passed_by c (clobbered_same i more s.top) same) lead
                lies tell
                (steps.alone procs data_words ok s r y o (placed.Op i places) more e (Plain j)
                [] em refl);
          })

      -- the same, where a value was written
      pub gave : (op : Operand) (n : ℕ) (c : Activation Cells) (flags : Flags) (w : Writes op n c) →
          PushesLead (TakesArgs (counts_of procs)) (length s.pushed) (filter_map op_of more) →
          effect now j ≡ Ok (
            record now { regs = w.regs; stack = w.stack; flags = flags },
            out.Going,
          ) → P (with_top s c)
      gave op n c flags w lead f = changes c None flags w.regs w.stack w.same lead w.lies tt f
