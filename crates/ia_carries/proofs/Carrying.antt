-- The image of placed code carries the code and the flows that stand behind it.
use Rattle.std.proofs.Common.{◌≡◌, ℕ, zero, suc, ◌+◌, Bool, List, [], ◌∷◌, ◌++◌, length, map, take}
use Rattle.std.proofs.Common.{Some, refl, sym, ap, ◌∙◌, subst, arith, append_assoc}
use Rattle.std.specs.Prelude.{slice_get, flat_map, Option, option_map}
use Rattle.std.specs.List.{sum_by}
use Rattle.std.proofs.lemmas.List.Concat.{flat_map-append}
use Rattle.std.proofs.lemmas.List.Sums.{sum_by-cons}
use Rattle.ia_code.specs.declared.image.Image.{Image}
use Rattle.ia_code.specs.declared.ins.Ins.TheVariants as ins
use Rattle.ia_code.specs.declared.ins.Rm.TheVariants as rm
use Rattle.ia_code.specs.declared.ins.Reg.{Reg}
use Rattle.ia_code.specs.Listing.{IsListing}
use Rattle.ia_emit.specs.declared.item.Item.{Item}
use Rattle.ia_emit.specs.declared.item.Item.TheVariants.{Plain, Jump, Branch, Call}
use Rattle.ia_emit.specs.declared.item.Target.{Target}
use Rattle.ia_emit.specs.declared.item.Target.TheVariants.{Block, Stub}
use Rattle.ia_emit.specs.Carries.{framed, IsInstruction, IsBlockFrom, Part, IsPart, joined}
use Rattle.ia_emit.specs.Carries.{items_of, goes_to, begins, parts_from, whole, Carries}
use Rattle.ia_emit.specs.Code.{size, size_of, aimed, all_aimed, distance, front, first_entry}
use Rattle.ia_emit.specs.Code.{target_in, entry, code_from, code_of}
use Rattle.ia_emit.specs.Emission.{reg_of, store, at, via_count, address_count, prologue, emit}
use Rattle.ia_emit.specs.Emission.{emit_move, emit_op, emit_end, emit_block, emit_blocks, emit_proc}
use Rattle.ia_emit.specs.Operands.{object_word, register_at}
use Rattle.pl_moves.specs.declared.transfer.Move.{Move}
use Rattle.pl_moves.specs.declared.transfer.Move.TheVariants as move
use Rattle.pl_place.specs.declared.placed.LBlock.{LBlock}
use Rattle.pl_place.specs.declared.placed.LInstr.{LInstr}
use Rattle.pl_place.specs.declared.placed.LInstr.TheVariants as placed
use Rattle.pl_place.specs.declared.placed.LProc.{LProc}
use Rattle.pl_place.specs.Behind.{Routed, IsBehind, IsOp, Lays, operand_places, slots_of}
use Rattle.pl_place.specs.Placed.{place_in}
use Rattle.pl_place.specs.Valid.{IsPlaced}
use Rattle.pra_base.specs.declared.code.Addr.{Addr}
use Rattle.pra_base.specs.declared.code.Base.{Base}
use Rattle.pra_base.specs.declared.code.Base.TheVariants as base
use Rattle.pra_base.specs.declared.code.End.{End}
use Rattle.pra_base.specs.declared.code.End.TheVariants as end
use Rattle.pra_base.specs.declared.code.VarKind.{VarKind}
use Rattle.pra_base.specs.declared.code.VInstr.{VInstr}
use Rattle.pra_base.specs.declared.code.VInstr.TheVariants as instr
use Rattle.pra_base.specs.declared.ids.Place.{Place}
use Rattle.pra_base.specs.declared.ids.ProcId.{ProcId}
use Rattle.pra_base.specs.declared.ids.VarId.{VarId}
use Rattle.pra_base.specs.Code.{code_of as code_in, end_of}
use Rattle.pra_base.specs.Valid.{near}
use Rattle.pra_list.proofs.Options.{some_same}

-- ---- emission asks of a procedure its frame alone

-- the procedure without its blocks
abbrev shell : LProc → LProc
shell p = record p { blocks = [] }

-- two procedures of which emission makes the same
record Alike (q p : LProc) : Type 0 where
  moves : (m : Move) → emit_move q m ≡ emit_move p m
  ops : (i : VInstr) (places : List Place) → emit_op q i places ≡ emit_op p i places
  ends : (next : ℕ) (e : End) → emit_end q next e ≡ emit_end p next e
  prologues : prologue q ≡ prologue p

shell_moves : (p : LProc) (m : Move) → emit_move (shell p) m ≡ emit_move p m
shell_moves p (move.Copy to from) = refl
shell_moves p x = refl

shell_words : (p : LProc) (b : Base) → object_word (shell p) b ≡ object_word p b
shell_words p (base.Global g) = refl
shell_words p x = refl

abbrev via_in : List Place → Reg
via_in places = register_at (place_in places 0)

abbrev index_in : Addr → List Place → Option (Reg × ℕ)
index_in a places = option_map
    (λ (v : VarId). (register_at (place_in places (via_count a.base)), 4)) a.index

shell_ops : (p : LProc) (i : VInstr) (places : List Place) → emit_op (shell p) i places ≡
    emit_op p i places
shell_ops p (instr.Load v a) places =
    ap (λ w. Plain (ins.MovRRm (reg_of (at p places v (address_count a)))
    (rm.Mem (w (via_in places) a.offset (index_in a places)))) ∷ []) (shell_words p a.base)
shell_ops p (instr.Store a s) places =
    ap (λ w. Plain (store (w (via_in places) a.offset (index_in a places))
    (at p places s (address_count a))) ∷ []) (shell_words p a.base)
shell_ops p (instr.Addr v a) places =
    ap (λ w. Plain (ins.Lea (reg_of (at p places v (address_count a)))
    (w (via_in places) a.offset (index_in a places))) ∷ []) (shell_words p a.base)
shell_ops p x places = refl

shell_ends : (p : LProc) (next : ℕ) (e : End) → emit_end (shell p) next e ≡ emit_end p next e
shell_ends p next (end.Jump b) = refl
shell_ends p next x = refl

shell_is : (p : LProc) → Alike (shell p) p
shell_is p = record {
  moves = shell_moves p;
  ops = shell_ops p;
  ends = shell_ends p;
  prologues =
      refl;
}

-- ---- the frame of code and flow is that of the placed code before them

abbrev var : ℕ → VarId
var v = record { 0 = v }

same_vars : (vs : List VarId) → map var (map (λ (v : VarId). v.0) vs) ≡ vs
same_vars [] = refl
same_vars (v ∷ vs) = ap (λ l. v ∷ l) (same_vars vs)

abbrev empty : ProcId → ℕ → ℕ → List VarKind → List VarId → Bool → LProc
empty id args aggregates vars slots near =
    record {
      id = id;
      args = args;
      aggregates = aggregates;
      vars = vars;
      slots = slots;
      near = near;
      blocks = [];
    }

module _ (r : Routed) (p : LProc) (is : IsBehind r p) (valid : IsPlaced p) where
  framed_is : framed r ≡ shell p
  framed_is =
      let c = r.code in
      let slots_are : map var (slots_of r) ≡ p.slots = sym (ap (map var) is.slots)
      ∙ same_vars p.slots in
      let near_is : near c.vars c.args ≡ p.near = ap (λ vs. near vs c.args) (sym is.vars)
      ∙ ap (near p.vars) (sym is.args) ∙ sym valid.numbers_in_range.near_is in
      ap (λ id. empty id c.args c.aggregates c.vars (map var (slots_of r)) (near c.vars c.args))
      (sym is.id)
      ∙ ap (λ n. empty p.id n c.aggregates c.vars (map var (slots_of r)) (near c.vars c.args))
      (sym is.args)
      ∙ ap (λ n. empty p.id p.args n c.vars (map var (slots_of r)) (near c.vars c.args))
      (sym is.aggregates)
      ∙ ap (λ vs. empty p.id p.args p.aggregates vs (map var (slots_of r)) (near c.vars c.args))
      (sym is.vars)
      ∙ ap (λ vs. empty p.id p.args p.aggregates p.vars vs (near c.vars c.args)) slots_are
      ∙ ap (λ b. empty p.id p.args p.aggregates p.vars p.slots b) near_is

  alike : Alike (framed r) p
  alike = subst (λ q. Alike q p) (sym framed_is) (shell_is p)

-- ---- a block

module _ (r : Routed) (p : LProc) (same : Alike (framed r) p) where
  abbrev moved : List Move → List Item
  moved ms = map (λ m. Plain (emit_move (framed r) m)) ms

  moves_are : (ms : List Move) → flat_map (emit p) (map placed.Move ms) ≡ moved ms
  moves_are [] = refl
  moves_are (m ∷ ms) = ap (λ i. Plain i ∷ flat_map (emit p) (map placed.Move ms))
      (sym (same.moves m)) ∙ ap (λ l. Plain (emit_move (framed r) m) ∷ l) (moves_are ms)

  -- what moves and an instruction become, with what follows
  after_moves : (ms : List Move) (op : LInstr) (rest : List LInstr) (last : List Item) →
      flat_map (emit p) (map placed.Move ms ++ op ∷ rest) ++ last ≡ moved ms
      ++ (emit p op ++ (flat_map (emit p) rest ++ last))
  after_moves ms op rest last =
      ap (λ l. l ++ last) (flat_map-append (emit p) (map placed.Move ms) (op ∷ rest))
      ∙ append_assoc (flat_map (emit p) (map placed.Move ms)) (emit p op ++ flat_map (emit p) rest)
      last
      ∙ ap (λ l. l ++ ((emit p op ++ flat_map (emit p) rest) ++ last)) (moves_are ms)
      ∙ ap (λ l. moved ms ++ l) (append_assoc (emit p op) (flat_map (emit p) rest) last)

  instruction_is : (b k : ℕ) (i : VInstr) (op : LInstr) → IsOp op i (operand_places r b k i) →
      IsInstruction r b k i (emit p op)
  instruction_is b k i (placed.Op j places) is =
      (places.items, is.1, ap (λ i. emit_op p i places.items) is.0 ∙ sym (same.ops i places.items))
  instruction_is b k i (placed.Move m) is = absurd is

  block_is : (b k : ℕ) (code : List VInstr) (left : List LInstr) → Lays r b k code left →
      (e : End) → e ≡ end_of r.code b →
      IsBlockFrom r b k code (flat_map (emit p) left ++ emit_end p (b + 1) e)
  block_is b k [] left lays e is =
      let last = emit_end p (b + 1) e in (
        moved lays.0,
        ap (λ l. flat_map (emit p) l ++ last) lays.1 ∙ ap (λ l. l ++ last) (moves_are lays.0)
            ∙ ap (λ l. moved lays.0 ++ l)
            (sym (same.ends (b + 1) e) ∙ ap (emit_end (framed r) (b + 1)) is),
        (lays.0, refl, lays.2),
      )
  block_is b k (i ∷ code) left lays e is =
      let last = emit_end p (b + 1) e in (
        moved lays.0,
        emit p lays.1,
        flat_map (emit p) lays.2 ++ last,
        ap (λ l. flat_map (emit p) l ++ last) lays.3 ∙ after_moves lays.0 lays.1 lays.2 last,
        (lays.0, refl, lays.4),
        instruction_is b k i lays.1 lays.5,
        block_is b (suc k) code lays.2 lays.6 e is,
      )

-- ---- a procedure

blocks_from : LProc → ℕ → List LBlock → List (List Item)
blocks_from p k [] = []
blocks_from p k (b ∷ bs) = emit_block p k b ∷ blocks_from p (k + 1) bs

joined_is : (p : LProc) (k : ℕ) (bs : List LBlock) → joined (blocks_from p k bs) ≡
    emit_blocks p k bs
unfolding blocks_from
joined_is p k [] = refl
joined_is p k (b ∷ bs) = ap (λ l. emit_block p k b ++ l) (joined_is p (k + 1) bs)

take_is : (p : LProc) (k n : ℕ) (bs : List LBlock) → take n (blocks_from p k bs) ≡
    blocks_from p k (take n bs)
unfolding blocks_from
take_is p k zero bs = refl
take_is p k (suc n) [] = refl
take_is p k (suc n) (b ∷ bs) = ap (λ l. emit_block p k b ∷ l) (take_is p (k + 1) n bs)

count_is : (p : LProc) (k : ℕ) (bs : List LBlock) → length (blocks_from p k bs) ≡ length bs
unfolding blocks_from
count_is p k [] = refl
count_is p k (b ∷ bs) = ap suc (count_is p (k + 1) bs)

block_at : (p : LProc) (k : ℕ) (bs : List LBlock) (j : ℕ) (items : List Item) →
    slice_get (blocks_from p k bs) j ≡ Some items →
    (block : LBlock) × (slice_get bs j ≡ Some block) × (emit_block p (k + j) block ≡ items)
unfolding blocks_from
block_at p k [] j items e = cc
block_at p k (b ∷ bs) zero items e = let place : k + 0 ≡ k = omega arith in
    (b, refl, ap (λ n. emit_block p n b) place ∙ some_same (emit_block p k b) items e)
block_at p k (b ∷ bs) (suc j) items e =
    let x = block_at p (k + 1) bs j items e in
    let place : k + suc j ≡ k + 1 + j = omega arith in
    (x.0, x.1, ap (λ n. emit_block p n x.0) place ∙ x.2)

abbrev part_of : Routed → LProc → Part
part_of r p = record { behind = r; blocks = blocks_from p 0 p.blocks }

module _ (r : Routed) (p : LProc) (is : IsBehind r p) (valid : IsPlaced p) where
  abbrev same : Alike (framed r) p
  same = alike r p is valid

  is_part : IsPart (part_of r p)
  is_part = record {
    count = count_is p 0 p.blocks ∙ is.count;
    each = λ b items there.
        let x = block_at p 0 p.blocks b items there in
        let place : b ≡ 0 + b = omega arith in
        subst (IsBlockFrom r b 0 (code_in r.code b)) (ap (λ n. emit_block p n x.0) place ∙ x.2)
        (block_is r p same b 0 (code_in r.code b) x.0.code (is.lays b x.0 x.1) x.0.end
        (is.ends b x.0 x.1));
  }

  items_are : items_of (part_of r p) ≡ emit_proc p
  items_are = ap (λ l. l ++ joined (blocks_from p 0 p.blocks)) same.prologues
      ∙ ap (λ l. prologue p ++ l) (joined_is p 0 p.blocks)

  goes : (at : ℕ) (t : Target) → goes_to (part_of r p) at t ≡ target_in p at t
  goes at (Block b) =
      ap (λ l. at + size l + size (joined (take b.0 (blocks_from p 0 p.blocks)))) same.prologues
      ∙ ap (λ l. at + size (prologue p) + size l)
      (ap joined (take_is p 0 b.0 p.blocks) ∙ joined_is p 0 (take b.0 p.blocks))
  goes at (Stub trap) = refl

-- ---- the whole

-- what is aimed at the same places is the same
aimed_same : (t u : Target → ℕ) (e f : ℕ → ℕ) → ((x : Target) → t x ≡ u x) → ((k : ℕ) → e k ≡ f k) →
    (behind : ℕ) (i : Item) → aimed t e behind i ≡ aimed u f behind i
aimed_same t u e f ts es behind (Plain i) = refl
aimed_same t u e f ts es behind (Jump x) = ap (λ n. ins.Jmp (distance behind n)) (ts x)
aimed_same t u e f ts es behind (Branch c x) = ap (λ n. ins.Jcc c (distance behind n)) (ts x)
aimed_same t u e f ts es behind (Call q) = ap (λ n. ins.Call (distance behind n)) (es q.0)

all_aimed_same : (t u : Target → ℕ) (e f : ℕ → ℕ) → ((x : Target) → t x ≡ u x) →
    ((k : ℕ) → e k ≡ f k) → (at : ℕ) (items : List Item) → all_aimed t e at items ≡
    all_aimed u f at items
all_aimed_same t u e f ts es at [] = refl
all_aimed_same t u e f ts es at (i ∷ is) =
    ap (λ x. x ∷ all_aimed t e (at + size_of i) is) (aimed_same t u e f ts es (at + size_of i) i)
    ∙ ap (λ l. aimed u f (at + size_of i) i ∷ l) (all_aimed_same t u e f ts es (at + size_of i) is)

-- each of these stands behind the placed code of its number, which is valid
abbrev pub Behind : List Routed → List LProc → Type 0
Behind rs ps = (k : ℕ) (r : Routed) (p : LProc) → slice_get rs k ≡ Some r → slice_get ps k ≡
    Some p → IsBehind r p × IsPlaced p

parts_of : List Routed → List LProc → List Part
parts_of [] ps = []
parts_of (r ∷ rs) [] = []
parts_of (r ∷ rs) (p ∷ ps) = part_of r p ∷ parts_of rs ps

behind_are : (rs : List Routed) (ps : List LProc) → length rs ≡ length ps →
    map (λ (x : Part). x.behind) (parts_of rs ps) ≡ rs
unfolding parts_of
behind_are [] ps e = refl
behind_are (r ∷ rs) [] e = absurd (omega (arith, e))
behind_are (r ∷ rs) (p ∷ ps) e = ap (λ l. r ∷ l) (behind_are rs ps (omega (arith, e)))

each_is_part : (rs : List Routed) (ps : List LProc) → Behind rs ps → (k : ℕ) (x : Part) →
    slice_get (parts_of rs ps) k ≡ Some x → IsPart x
unfolding parts_of
each_is_part [] ps b k x e = cc
each_is_part (r ∷ rs) [] b k x e = cc
each_is_part (r ∷ rs) (p ∷ ps) b zero x e = let z = b 0 r p refl refl in
    subst IsPart (some_same (part_of r p) x e) (is_part r p z.0 z.1)
each_is_part (r ∷ rs) (p ∷ ps) b (suc k) x e = each_is_part rs ps (λ k. b (suc k)) k x e

sizes_are : (rs : List Routed) (ps : List LProc) → length rs ≡ length ps → Behind rs ps → (k : ℕ) →
    sum_by (λ x. size (items_of x)) (take k (parts_of rs ps)) ≡ sum_by (λ p. size (emit_proc p))
    (take k ps)
unfolding parts_of
sizes_are rs ps e b zero = refl
sizes_are [] [] e b (suc k) = refl
sizes_are [] (p ∷ ps) e b (suc k) = absurd (omega (arith, e))
sizes_are (r ∷ rs) [] e b (suc k) = absurd (omega (arith, e))
sizes_are (r ∷ rs) (p ∷ ps) e b (suc k) =
    let z = b 0 r p refl refl in
    sum_by-cons (λ x. size (items_of x)) (part_of r p) (take k (parts_of rs ps))
    ∙ ap (λ l. size l + sum_by (λ x. size (items_of x)) (take k (parts_of rs ps)))
    (items_are r p z.0 z.1)
    ∙ ap (λ n. size (emit_proc p) + n) (sizes_are rs ps (omega (arith, e)) (λ k. b (suc k)) k)
    ∙ sym (sum_by-cons (λ p. size (emit_proc p)) p (take k ps))

parts_are : (e f : ℕ → ℕ) → ((k : ℕ) → e k ≡ f k) → (at : ℕ) (rs : List Routed) (ps : List LProc) →
    length rs ≡ length ps → Behind rs ps →
    parts_from e at (parts_of rs ps) ≡ code_from f at ps
unfolding parts_of
parts_are e f es at [] [] n b = refl
parts_are e f es at [] (p ∷ ps) n b = absurd (omega (arith, n))
parts_are e f es at (r ∷ rs) [] n b = absurd (omega (arith, n))
parts_are e f es at (r ∷ rs) (p ∷ ps) n b =
    let z = b 0 r p refl refl in
    let x = part_of r p in
    let items = items_are r p z.0 z.1 in
    ap (λ l. l ++ parts_from e (at + size (items_of x)) (parts_of rs ps))
    (all_aimed_same (goes_to x at) (target_in p at) e f (goes r p z.0 z.1 at) es at (items_of x)
    ∙ ap (all_aimed (target_in p at) f at) items)
    ∙ ap (λ l. all_aimed (target_in p at) f at (emit_proc p) ++ parts_from e (at + size l)
    (parts_of rs ps)) items
    ∙ ap (λ l. all_aimed (target_in p at) f at (emit_proc p) ++ l)
    (parts_are e f es (at + size (emit_proc p)) rs ps (omega (arith, n)) (λ k. b (suc k)))

pub carries : (procs : List LProc) (image : Image) → IsListing image.code (code_of procs) →
    (routed : List Routed) → length routed ≡ length procs → Behind routed procs →
    Carries image routed
carries procs image listing routed n b =
    let parts = parts_of routed procs in
    let starts : (k : ℕ) → begins parts k ≡ entry procs k = λ k. ap (λ s. first_entry + s)
    (sizes_are routed procs n b k) in
    let none : (t : Target) → 0 ≡ 0 = λ t. refl in
    let same : whole parts ≡ code_of procs =
    ap (λ l. l ++ parts_from (begins parts) first_entry parts)
    (all_aimed_same (λ t. 0) (λ t. 0) (begins parts) (entry procs) none starts 0 front)
    ∙ ap (λ l. all_aimed (λ t. 0) (entry procs) 0 front ++ l)
    (parts_are (begins parts) (entry procs) starts first_entry routed procs n b) in
    record {
      parts = parts;
      behind = behind_are routed procs n;
      each = each_is_part routed procs b;
      listing = subst (IsListing image.code) (sym same) listing;
    }
