-- The start: the first call of the code and the body's first instructions lead to where the body of
-- placed code begins.
use Rattle.std.proofs.Common.{◌≡◌, ℕ, zero, suc, ◌+◌, ◌*◌, ◌≤◌, ◌<◌, false, List, [], ◌∷◌, length}
use Rattle.std.proofs.Common.{map, Some, None, refl, sym, ap, ◌∙◌, subst, arith, nat_lt, replicate}
use Rattle.std.specs.Prelude.{ℤ, slice_get, slice_index, slice_index_or}
use Rattle.std.specs.List.{filter_map}
use Rattle.std.proofs.lemmas.Bool.Decides.{nat_tests}
use Rattle.std.proofs.lemmas.List.{length-replicate}
use Rattle.pra_list.specs.Results.{◌>>=◌}
use Rattle.ia_code.specs.declared.image.Image.{Image}
use Rattle.ia_code.specs.Listing.{bytes_of_all}
use Rattle.ia_code.specs.Regions.{code_base, stack_top, stack_length}
use Rattle.ia_emit.specs.declared.item.Item.{Item}
use Rattle.ia_emit.specs.declared.item.Item.TheVariants as item
use Rattle.ia_emit.specs.Code.{size_of, block_start, distance, front, target_in, entry, code_of}
use Rattle.ia_emit.specs.Emission.{prologue}
use Rattle.ia_step.specs.Effect.{effect, goes, jump}
use Rattle.ia_step.specs.Memory.{word_in, zeros}
use Rattle.ia_step.specs.Run.{ran, run_end}
use Rattle.ia_step.specs.State as machine
use Rattle.ia_step.proofs.Access.{push_here, pushed}
use Rattle.ia_step.proofs.Reaches.{Reaches, reach_on}
use Rattle.pl_place.specs.declared.placed.LBlock.{LBlock}
use Rattle.pl_place.specs.declared.placed.LProc.{LProc}
use Rattle.pl_place.specs.Machine.{begun, no_block, proc_of, shape, start}
use Rattle.pl_place.specs.Placed.{bare_block, op_of}
use Rattle.pl_place.specs.Valid.{counts_of}
use Rattle.pra_base.specs.Code as base
use Rattle.pra_base.specs.Valid.{PushesLead, TakesArgs}
use Rattle.pra_base.specs.Words.{word, sum32, stack_limit}
use Rattle.vc_code.specs.declared.value.Value.TheVariants.{Num}
use Rattle.vc_code.specs.Machine.{depth}
use Rattle.ia_simulation.specs.Frames.{WordsHold, Stacked, exit}
use Rattle.ia_simulation.specs.Realizes.{IsLoadable, AreWords, StandsBefore, Realizes}
use Rattle.ia_simulation.proofs.Begin as begin_call
use Rattle.ia_simulation.proofs.Here as here
use Rattle.ia_simulation.proofs.Places.{no_target, front_at, prologue_at}
use Rattle.ia_simulation.proofs.Walks.{Walks, aimed_at, push_stacked, reaches}

-- ---- what is there

there_is : (procs : List LProc) (q : ℕ) (p d : LProc) → slice_get procs q ≡ Some p →
    slice_index_or procs q d ≡ p
there_is [] q p d e = cc
there_is (c ∷ procs) zero p d e = cc
there_is (c ∷ procs) (suc q) p d e = there_is procs q p d e

pub proc_there : (procs : List LProc) (q : ℕ) (p : LProc) → slice_get procs q ≡ Some p →
    slice_get procs q ≡ Some (proc_of procs q)
proc_there procs q p e = e ∙ ap Some (sym (there_is procs q p _ e))

pub counted : (procs : List LProc) (q n : ℕ) → slice_get (counts_of procs) q ≡ Some n →
    (slice_get procs q ≡ Some (proc_of procs q)) × ((proc_of procs q).args ≡ n)
counted [] q n e = cc
counted (p ∷ procs) zero n e = (refl, some_number p.args n e)
  where
    some_number : (a b : ℕ) → Some a ≡ Some b → a ≡ b
    some_number a b e = cc
counted (p ∷ procs) (suc q) n e = counted procs q n e

-- the first block of a list that has one
pub first_there : (blocks : List LBlock) → 0 < length (map bare_block blocks) → slice_get blocks 0 ≡
    Some (slice_index_or blocks 0 no_block)
first_there [] l = absurd (omega (arith, l))
first_there (b ∷ blocks) l = refl

-- a block with its moves left out
pub bare_there : (blocks : List LBlock) (b : ℕ) (x : LBlock) → slice_get blocks b ≡ Some x →
    (base.block_in (map bare_block blocks) b).code ≡ filter_map op_of x.code
bare_there [] b x e = cc
bare_there (y ∷ blocks) zero x e = let same : y ≡ x = cc in
    ap (λ (z : LBlock). filter_map op_of z.code) same
bare_there (y ∷ blocks) (suc b) x e = bare_there blocks b x e

-- a call stands at the begin of a block
module _ (procs : List LProc) (data_words : ℕ) (ok : IsLoadable procs data_words) where
  pub stands_at : (q b : ℕ) (x : LBlock) (place : ℕ) → slice_get procs q ≡ Some (proc_of procs q) →
      slice_get (proc_of procs q).blocks b ≡ Some x →
      place ≡ code_base + block_start (proc_of procs q) (entry procs q) b →
      StandsBefore procs q b x.code x.end 0 place
  stands_at q b x place there has e = record {
    there = there;
    code = x;
    in_block = has;
    index = 0;
    rest_is = refl;
    end_is = refl;
    place_is = omega (arith, e);
    pushes_lead = subst (PushesLead (TakesArgs (counts_of procs)) 0)
        (bare_there (proc_of procs q).blocks b x has)
        (ok.placed.pushes_before_calls q (proc_of procs q) there b);
  }

-- ---- memory that is 0

zero_at : (n a : ℕ) → slice_index (replicate n 0) a ≡ 0
zero_at zero a = refl
zero_at (suc n) zero = refl
zero_at (suc n) (suc a) = zero_at n a

zero_word : (n a : ℕ) → word_in (zeros n) a ≡ 0
unfolding word_in zeros
zero_word n a = rw (zero_at n a, zero_at n (a + 1), zero_at n (a + 2), zero_at n (a + 3)) refl

zeros_hold : (k n a : ℕ) → WordsHold (replicate k (Some (Num 0))) (zeros n) a
zeros_hold zero n a = tt
zeros_hold (suc k) n a = ((zero_word n a, omega arith), zeros_hold k n (a + 4))

zeros_long : (n : ℕ) → length (zeros n) ≡ n
unfolding zeros
zeros_long n = length-replicate n 0

-- ---- the start

module _ (procs : List LProc) (data_words : ℕ) (ok : IsLoadable procs data_words) (image : Image)
    (code : image.code ≡ bytes_of_all (code_of procs)) (words : image.data_words ≡ data_words)
    (input : List ℤ) (fits : AreWords input) where
  abbrev m : machine.State
  m = machine.start image input

  abbrev p : LProc
  p = proc_of procs 0

  body_there : slice_get procs 0 ≡ Some p
  body_there = (counted procs 0 0 ok.placed.body).0

  no_args : 0 ≡ p.args
  no_args = sym (counted procs 0 0 ok.placed.body).1

  abbrev block : LBlock
  block = slice_index_or p.blocks 0 no_block

  block_there : slice_get p.blocks 0 ≡ Some block
  block_there = first_there p.blocks (ok.placed.each 0 p body_there).block_rules.last_return.there

  stacked : Stacked [] m.regs.esp m.stack
  stacked = record { long = zeros_long stack_length; top = refl; held = tt }

  data_long : length m.storage ≡ 4 * data_words
  data_long = let l = zeros_long (image.data_words * 4) in omega (arith, l, words)

  abbrev x0 : Item
  x0 = item.Call (record { 0 = 0 })

  abbrev m1 : machine.State
  m1 = machine.at (pushed (machine.at m (m.eip + size_of x0)) (m.eip + size_of x0))
      (code_base + entry procs 0)

  w0 : Walks procs m [] no_target 0 front
  w0 = record {
    code = code;
    going = refl;
    stack = stacked;
    small =
        omega (arith, data_long, ok.few_data);
    place = refl;
    items_at = front_at procs;
  }

  calls : Reaches 1 m m1
  unfolding effect
  calls =
      let s = machine.at m (m.eip + size_of x0) in
      let in_front = here.within procs no_target 0 front (front_at procs) in
      let in_proc = here.within procs _ (entry procs 0) (prologue p)
      (prologue_at procs 0 p body_there) in
      let to : sum32 (m.eip + size_of x0) (word (distance 5 (entry procs 0))) ≡
      code_base + entry procs 0 = aimed_at 5 (entry procs 0) (omega (arith, in_front, ok.short))
      (omega (arith, in_proc, ok.short)) in
      reaches procs ok.sound m [] no_target 0 x0 _ w0 m1
      (ap (λ t. t >>= λ t. goes (jump t (distance 5 (entry procs 0))))
      (push_here s w0.small (omega arith) (m.eip + size_of x0) (omega arith)
      (omega (arith, stacked.long)))
      ∙ ap (λ k. goes (machine.at (pushed s (m.eip + size_of x0)) k)) to)

  w1 : Walks procs m1 (Some (Num exit) ∷ []) (target_in p (entry procs 0)) (entry procs 0)
      (prologue p)
  w1 = record {
    code = code;
    going = refl;
    stack = push_stacked (Some (Num exit)) [] stack_top (m.eip + size_of x0) m.stack stacked
        (omega arith) (refl, omega arith);
    small = w0.small;
    place = refl;
    items_at = prologue_at procs 0 p body_there;
  }

  few_words : nat_lt stack_limit (depth (shape procs) (begun 0 p [] block ∷ [])) ≡ false
  few_words = let s = ok.small 0 p body_there in
      below_limit _ (omega (arith, s.aggregates, s.slots, no_args))
    where
      below_limit : (d : ℕ) → d ≤ stack_limit → nat_lt stack_limit d ≡ false
      below_limit d l = grind (arith, nat_tests)

  pub starts : (k : ℕ) × Realizes procs (start procs data_words input) (ran m k)
  starts =
      let globals = replicate data_words (Some (Num 0)) in
      let long : length globals ≡ data_words = length-replicate data_words (Some (Num 0)) in
      let b = begin_call.begins procs data_words ok 0 body_there block [] [] [] globals None None
      None None (Some (Num exit)) refl m1 w1 no_args tt (omega arith) tt tt tt tt
      (zeros_hold data_words (image.data_words * 4) 0) (omega (arith, data_long, long))
      (omega (arith, long, ok.few_data)) few_words in
      let t = b.1 in
      let z = b.3 in
      let all : Reaches (1 + b.0) m t = reach_on 1 b.0 m m1 t calls b.2 in (
        1 + b.0,
        subst (Realizes procs (start procs data_words input)) (sym (all.by [] 0)) (record {
          ending = ap run_end z.going;
          events = refl;
          taken = z.taken;
          going = λ _. record {
            backs = [];
            code = z.code;
            stands = stands_at procs data_words ok 0 0 block t.eip body_there block_there z.place;
            waiting = tt;
            lies = z.lies;
            flags = tt;
            input = z.input;
            input_fits = fits;
          };
        }),
      )
