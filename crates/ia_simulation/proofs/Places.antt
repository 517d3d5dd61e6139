-- Where the front, the procedures and their blocks stand.
use Rattle.std.proofs.Common.{◌≡◌, ℕ, zero, suc, ◌+◌, List, [], ◌∷◌, ◌++◌, length, take, Some, refl}
use Rattle.std.proofs.Common.{sym, ap, ◌∙◌, subst, arith, append_assoc, append-nil, length-append}
use Rattle.std.specs.Prelude.{slice_get, sum_by}
use Rattle.std.proofs.lemmas.List.Sums.{sum_by-cons}
use Rattle.ia_code.specs.declared.ins.Ins.{Ins}
use Rattle.ia_code.specs.Listing.{bytes_of_all}
use Rattle.ia_code.proofs.Listings.{bytes_of_all-append}
use Rattle.ia_emit.specs.declared.item.Target.{Target}
use Rattle.ia_emit.specs.Code.{size, all_aimed, front, first_entry, target_in, block_start, entry}
use Rattle.ia_emit.specs.Code.{code_from}
use Rattle.ia_emit.specs.Emission.{prologue, emit_block, emit_blocks, emit_proc}
use Rattle.ia_emit.proofs.Blocks.{emit_blocks-append}
use Rattle.ia_emit.proofs.Open.{length_all}
use Rattle.ia_emit.proofs.Sizes.{size-append}
use Rattle.pl_place.specs.declared.placed.LBlock.{LBlock}
use Rattle.pl_place.specs.declared.placed.LProc.{LProc}
use Rattle.ia_simulation.proofs.Here.{AreAt}
use Rattle.ia_simulation.proofs.Here as at

abbrev sizes : LProc → ℕ
sizes p = size (emit_proc p)

-- ---- a procedure in the code of procedures

record InCode (entries : ℕ → ℕ) (from : ℕ) (procs : List LProc) (q : ℕ) (p : LProc) : Type 0 where
  before : List Ins
  behind : List Ins
  start : ℕ
  start_is : start ≡ from + sum_by sizes (take q procs)
  parts : code_from entries from procs ≡ before
      ++ (all_aimed (target_in p start) entries start (emit_proc p) ++ behind)
  place : length (bytes_of_all before) + from ≡ start

in_code : (entries : ℕ → ℕ) (from : ℕ) (procs : List LProc) (q : ℕ) (p : LProc) →
    slice_get procs q ≡ Some p → InCode entries from procs q p
in_code entries from [] q p e = cc
in_code entries from (c ∷ procs) zero p e =
    let same : c ≡ p = cc in
    subst (λ p. InCode entries from (c ∷ procs) zero p) same (record {
      before = [];
      behind = code_from entries (from + size (emit_proc c)) procs;
      start = from;
      start_is = omega arith;
      parts = refl;
      place = omega arith;
    })
in_code entries from (c ∷ procs) (suc q) p e =
    let rest = in_code entries (from + size (emit_proc c)) procs q p e in
    let own = all_aimed (target_in c from) entries from (emit_proc c) in
    let taken = sum_by-cons sizes c (take q procs) in
    record {
      before = own ++ rest.before;
      behind = rest.behind;
      start = rest.start;
      start_is = omega (arith, rest.start_is, taken);
      parts = ap (λ l. own ++ l) rest.parts
          ∙ sym (append_assoc own rest.before
          (all_aimed (target_in p rest.start) entries rest.start (emit_proc p) ++ rest.behind));
      place =
          let both = ap length (bytes_of_all-append own rest.before) in
          let one = length-append (bytes_of_all own) (bytes_of_all rest.before) in
          let long = length_all (target_in c from) entries from (emit_proc c) in
          omega (arith, both, one, long, rest.place);
    }

abbrev pub no_target : Target → ℕ
no_target t = 0

module _ (procs : List LProc) where
  -- the call of the body, the end, and the stubs
  pub front_at : AreAt procs no_target 0 front
  front_at = record {
    before = [];
    behind = code_from (entry procs) first_entry procs;
    parts = refl;
    place = refl;
  }

  module _ (q : ℕ) (p : LProc) (is : slice_get procs q ≡ Some p) where
    abbrev start : ℕ
    start = entry procs q

    pub proc_at : AreAt procs (target_in p start) start (emit_proc p)
    proc_at =
        let c = in_code (entry procs) first_entry procs q p is in
        let head = all_aimed no_target (entry procs) 0 front in
        let list = all_aimed (target_in p c.start) (entry procs) c.start (emit_proc p) in
        subst (λ n. AreAt procs (target_in p n) n (emit_proc p)) c.start_is (record {
          before = head ++ c.before;
          behind = c.behind;
          parts = ap (λ l. head ++ l) c.parts ∙ sym (append_assoc head c.before (list ++ c.behind));
          place =
              let both = ap length (bytes_of_all-append head c.before) in
              let one = length-append (bytes_of_all head) (bytes_of_all c.before) in
              let long : length (bytes_of_all head) ≡ first_entry =
              length_all no_target (entry procs) 0 front in
              omega (arith, both, one, long, c.place);
        })

    pub prologue_at : AreAt procs (target_in p start) start (prologue p)
    prologue_at = at.front procs (target_in p start) start (prologue p) (emit_blocks p 0 p.blocks)
        proc_at

    pub block_at : (b : ℕ) (x : LBlock) → slice_get p.blocks b ≡ Some x →
        AreAt procs (target_in p start) (block_start p start b) (emit_block p b x)
    block_at b x e =
        let first = take b p.blocks in
        let parts = split p.blocks b x e in
        let whole : emit_blocks p 0 p.blocks ≡ emit_blocks p 0 first
        ++ (emit_block p b x ++ emit_blocks p (b + 1) parts.0) =
        ap (emit_blocks p 0) parts.1 ∙ emit_blocks-append p 0 first (x ∷ parts.0)
        ∙ ap (λ n. emit_blocks p 0 first ++ emit_blocks p n (x ∷ parts.0)) parts.2 in
        let target = target_in p start in
        let all = at.behind procs target start (prologue p) (emit_blocks p 0 p.blocks) proc_at in
        let from = start + size (prologue p) in
        let mine = at.behind procs target from (emit_blocks p 0 first)
        (emit_block p b x ++ emit_blocks p (b + 1) parts.0)
        (subst (AreAt procs target from) whole all) in
        at.front procs target (from + size (emit_blocks p 0 first)) (emit_block p b x)
        (emit_blocks p (b + 1) parts.0) mine
      where
        split : (blocks : List LBlock) (b : ℕ) (x : LBlock) → slice_get blocks b ≡ Some x →
            (more : List LBlock) × (blocks ≡ take b blocks ++ x ∷ more) ×
            (0 + length (take b blocks) ≡ b)
        split [] b x e = cc
        split (y ∷ blocks) zero x e = let same : y ≡ x = cc in
            (blocks, ap (λ z. z ∷ blocks) same, refl)
        split (y ∷ blocks) (suc b) x e = let r = split blocks b x e in
            (r.0, ap (λ l. y ∷ l) r.1, omega (arith, r.2))

-- the next block begins where the block ends
pub next_block : (p : LProc) (start b : ℕ) (x : LBlock) → slice_get p.blocks b ≡ Some x →
    block_start p start (suc b) ≡ block_start p start b + size (emit_block p b x)
next_block p start b x e =
    let first = take b p.blocks in
    let parts = taken_more p.blocks b x e in
    let number = ap (λ n. size (emit_blocks p n (x ∷ []))) parts.1 in
    let only = ap size (append-nil (emit_block p b x)) in
    let more = ap (λ l. size (emit_blocks p 0 l)) parts.0
    ∙ ap size (emit_blocks-append p 0 first (x ∷ [])) in
    let sum = size-append (emit_blocks p 0 first) (emit_blocks p (0 + length first) (x ∷ [])) in
    omega (arith, number, only, more, sum)
  where
    taken_more : (blocks : List LBlock) (b : ℕ) (x : LBlock) → slice_get blocks b ≡ Some x →
        (take (suc b) blocks ≡ take b blocks ++ x ∷ []) × (0 + length (take b blocks) ≡ b)
    taken_more [] b x e = cc
    taken_more (y ∷ blocks) zero x e = let same : y ≡ x = cc in (ap (λ z. z ∷ []) same, refl)
    taken_more (y ∷ blocks) (suc b) x e = let r = taken_more blocks b x e in
        (ap (λ l. y ∷ l) r.0, omega (arith, r.1))
