-- Code that grows keeps what it had, and what was added is found in all later code.
use Rattle.std.proofs.Common.{◌≡◌, ◌≢◌, ℕ, ◌+◌, ◌<◌, [], ◌∷◌, ◌++◌, length, Some, None, refl, sym}
use Rattle.std.proofs.Common.{ap, ◌∙◌, subst, ⊎_elim, arith, append_assoc, append-nil}
use Rattle.std.proofs.Common.{length-append}
use Rattle.std.specs.Prelude.{slice_get}
use Rattle.std.proofs.Math.ListN.{get_or-append}
use Rattle.std.proofs.Math.Seq.{get_or-append_seam}
use Rattle.std.proofs.lemmas.List.{get_or-set_same, get_or-set_other, length-set}
use Rattle.std.proofs.lemmas.Bool.{cases_eq}
use Rattle.std.proofs.lemmas.Option.{slice_get-get_or, slice_get_past}
use Rattle.pra_base.specs.Code.{kind_of, no_block, block_of, code_of, end_of}
use Rattle.pra_base.specs.declared.code.VarKind.{VarKind}
use Rattle.pra_base.specs.declared.code.VarKind.TheVariants.{Plain}
use Rattle.pra_base.specs.declared.code.VInstr.{VInstr}
use Rattle.pra_base.specs.declared.code.End.{End}
use Rattle.pra_base.specs.declared.code.Block.{Block}
use Rattle.pra_base.specs.declared.code.VProc.{VProc}
use Rattle.vc_build.specs.Grow.{count, stand_in, IsOpen, with_block, with_instr, with_end}
use Rattle.vc_build.specs.Grow.{open_block, with_open_block, with_variable, Kept, Grows, GrowsAt}

-- ---- growth is an order

pub kept_same : (old new : Block) → new ≡ old → Kept old new
kept_same old new e = record {
  depth = ap (λ b. b.depth) e;
  more = [];
  code = ap (λ b. b.code) e
      ∙ sym (append-nil old.code);
  closed = λ _. e;
}

kept_on : (x y z : Block) → Kept x y → Kept y z → Kept x z
kept_on x y z p q = record {
  depth = q.depth ∙ p.depth;
  more = p.more ++ q.more;
  code = q.code ∙ ap (λ l. l ++ q.more) p.code ∙ append_assoc x.code p.more q.more;
  closed = λ c. let e = p.closed c in q.closed (λ d. c (ap (λ b. b.end) (sym e) ∙ d)) ∙ e;
}

pub grows_on : (a b c : VProc) → Grows a b → Grows b c → Grows a c
grows_on a b c p q = record {
  id = q.id ∙ p.id;
  args = q.args ∙ p.args;
  aggregates = q.aggregates ∙ p.aggregates;
  kinds = λ v l. q.kinds v (omega (arith, l, p.vars)) ∙ p.kinds v l;
  vars = omega (arith, p.vars, q.vars);
  blocks = omega (arith, p.blocks, q.blocks);
  kept = λ n l. kept_on (block_of a n) (block_of b n) (block_of c n) (p.kept n l)
      (q.kept n (omega (arith, l, p.blocks)));
}

pub grows_same : (a : VProc) → Grows a a
grows_same a = record {
  id = refl;
  args = refl;
  aggregates = refl;
  kinds = λ v l. refl;
  vars = omega arith;
  blocks = omega arith;
  kept = λ b l. kept_same (block_of a b) (block_of a b) refl;
}

pub grows_at_on : (a b c : VProc) (from to : ℕ) → GrowsAt from a b → GrowsAt to b c →
    ((n : ℕ) → n < count a → n ≢ from → n ≢ to) → GrowsAt from a c
grows_at_on a b c from to p q apart = record {
  grows = grows_on a b c p.grows q.grows;
  others = λ n l d. q.others n (omega (arith, l, p.grows.blocks)) (apart n l d) ∙ p.others n l d;
}

pub grows_at_again : (a b c : VProc) (from : ℕ) → GrowsAt from a b → GrowsAt from b c →
    GrowsAt from a c
grows_at_again a b c from p q = grows_at_on a b c from from p q (λ n l d. d)

pub grows_at_same : (a : VProc) (from : ℕ) → GrowsAt from a a
grows_at_same a from = record { grows = grows_same a; others = λ b l d. refl }

-- ---- another block in place of one

module _ (at : ℕ) (x : Block) (old : VProc) (within : at < count old) where
  set_here : block_of (with_block at x old) at ≡ x
  set_here = get_or-set_same old.blocks at x no_block within

  set_other : (b : ℕ) → b ≢ at → block_of (with_block at x old) b ≡ block_of old b
  set_other b d = get_or-set_other old.blocks at b x no_block d

  set_count : count (with_block at x old) ≡ count old
  set_count = length-set old.blocks at x

  set_grows : Kept (block_of old at) x → GrowsAt at old (with_block at x old)
  set_grows k = record {
    grows = record {
      id = refl;
      args = refl;
      aggregates = refl;
      kinds = λ v l. refl;
      vars = omega arith;
      blocks = omega (arith, set_count);
      kept = λ b l. ⊎_elim
          (λ (e : b ≡ at). subst (λ n. Kept (block_of old n) (block_of (with_block at x old) n))
          (sym e) (subst (λ y. Kept (block_of old at) y) (sym set_here) k))
          (λ (d : b ≢ at). kept_same (block_of old b) (block_of (with_block at x old) b)
          (set_other b d))
          (cases_eq b at);
    };
    others = λ b l d. set_other b d;
  }

-- ---- one more instruction

module _ (at : ℕ) (i : VInstr) (old : VProc) (o : IsOpen old at) where
  abbrev longer : Block
  longer = record {
    depth = (block_of old at).depth;
    code = code_of old at ++ i ∷ [];
    end =
        end_of old at;
  }

  pub put_block : block_of (with_instr at i old) at ≡ longer
  put_block = set_here at longer old o.0

  pub put_code : code_of (with_instr at i old) at ≡ code_of old at ++ i ∷ []
  put_code = ap (λ b. b.code) put_block

  pub put_count : count (with_instr at i old) ≡ count old
  put_count = set_count at longer old o.0

  pub put_open : IsOpen (with_instr at i old) at
  put_open = (omega (arith, o.0, put_count), ap (λ b. b.end) put_block ∙ o.1)

  pub put_grows : GrowsAt at old (with_instr at i old)
  put_grows = set_grows at longer old o.0
      (record { depth = refl; more = i ∷ []; code = refl; closed = λ c. absurd (c o.1) })

  -- all later code has the instruction where the open block ended
  pub put_there : (last : VProc) → Grows (with_instr at i old) last → slice_get (code_of last at)
      (length (code_of old at)) ≡ Some i
  put_there last g =
      let k = g.kept at put_open.0 in
      let e : code_of last at ≡ code_of old at ++ i ∷ k.more =
      k.code ∙ ap (λ l. l ++ k.more) put_code ∙ append_assoc (code_of old at) (i ∷ []) k.more in
      let within : length (code_of old at) < length (code_of old at ++ i ∷ k.more) =
      omega (arith, length-append (code_of old at) (i ∷ k.more)) in
      ap (λ l. slice_get l (length (code_of old at))) e
      ∙ slice_get-get_or (code_of old at ++ i ∷ k.more) (length (code_of old at)) i within
      ∙ ap Some (get_or-append_seam (code_of old at) i k.more i)

-- ---- an end

module _ (at : ℕ) (end : End) (old : VProc) (o : IsOpen old at) where
  abbrev ended : Block
  ended = record { depth = (block_of old at).depth; code = code_of old at; end = end }

  pub closed_block : block_of (with_end at end old) at ≡ ended
  closed_block = set_here at ended old o.0

  pub closed_count : count (with_end at end old) ≡ count old
  closed_count = set_count at ended old o.0

  pub closed_grows : GrowsAt at old (with_end at end old)
  closed_grows = set_grows at ended old o.0
      (record {
        depth = refl;
        more = [];
        code = sym (append-nil (code_of old at));
        closed =
            λ c. absurd (c o.1);
      })

  module _ (real : end ≢ stand_in) (last : VProc) (g : Grows (with_end at end old) last) where
    closed_last : block_of last at ≡ ended
    closed_last = (g.kept at (omega (arith, o.0, closed_count))).closed
        (λ c. real (ap (λ b. b.end) (sym closed_block) ∙ c)) ∙ closed_block

    -- all later code ends there, so
    pub closed_there : slice_get (code_of last at) (length (code_of old at)) ≡ None
    closed_there = ap (λ b. slice_get b.code (length (code_of old at))) closed_last
        ∙ slice_get_past (code_of old at) (length (code_of old at)) (omega arith)

    pub closed_end : end_of last at ≡ end
    closed_end = ap (λ b. b.end) closed_last

-- ---- one more block

module _ (depth : ℕ) (old : VProc) where
  pub opened_kept : (b : ℕ) → b < count old → block_of (with_open_block depth old) b ≡
      block_of old b
  opened_kept b l = get_or-append old.blocks (open_block depth ∷ []) no_block b l

  pub opened_count : count (with_open_block depth old) ≡ count old + 1
  opened_count = length-append old.blocks (open_block depth ∷ [])

  pub opened_block : block_of (with_open_block depth old) (count old) ≡ open_block depth
  opened_block = get_or-append_seam old.blocks (open_block depth) [] no_block

  pub opened_open : IsOpen (with_open_block depth old) (count old)
  opened_open = (omega (arith, opened_count), ap (λ b. b.end) opened_block)

  pub opened_grows : (from : ℕ) → GrowsAt from old (with_open_block depth old)
  opened_grows from = record {
    grows = record {
      id = refl;
      args = refl;
      aggregates = refl;
      kinds = λ v l. refl;
      vars = omega arith;
      blocks = omega (arith, opened_count);
      kept = λ b l. kept_same (block_of old b) (block_of (with_open_block depth old) b)
          (opened_kept b l);
    };
    others = λ b l d. opened_kept b l;
  }

-- ---- one more variable

module _ (kind : VarKind) (old : VProc) where
  pub declared_kind : kind_of (with_variable kind old) (length old.vars) ≡ kind
  declared_kind = get_or-append_seam old.vars kind [] Plain

  pub declared_count : length (with_variable kind old).vars ≡ length old.vars + 1
  declared_count = length-append old.vars (kind ∷ [])

  pub declared_grows : (from : ℕ) → GrowsAt from old (with_variable kind old)
  declared_grows from = record {
    grows = record {
      id = refl;
      args = refl;
      aggregates = refl;
      kinds = λ v l. get_or-append old.vars (kind ∷ []) Plain v l;
      vars = omega (arith, declared_count);
      blocks = omega arith;
      kept = λ b l. kept_same (block_of old b) (block_of old b) refl;
    };
    others = λ b l d. refl;
  }
