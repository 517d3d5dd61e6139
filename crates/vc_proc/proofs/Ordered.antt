-- Code in the order in which its blocks are listed, whose last block is left by Return.
use Rattle.std.proofs.Common.{◌≡◌, ◌≢◌, ℕ, suc, ◌<◌, inl, inr, ⊎_elim, ◌⊎◌, List, length, Some}
use Rattle.std.proofs.Common.{refl, sym, ap, ◌∙◌, subst, arith}
use Rattle.std.specs.Prelude.{slice_get, slice_index_or}
use Rattle.std.proofs.Math.Seq.{map-set_same}
use Rattle.std.proofs.lemmas.Bool.{cases_eq}
use Rattle.std.proofs.lemmas.List.{length-set, get_or-set_same, get_or-set_other}
use Rattle.std.proofs.lemmas.List.Sums.{sum_by-set}
use Rattle.std.proofs.lemmas.Option.{get_or_from_slice_get, slice_get-get_or, slice_get_within}
use Rattle.pra_list.proofs.Elements.{got_set, got_unset}
use Rattle.pra_list.proofs.Options.{some_same}
use Rattle.pra_base.specs.Code.{no_block, block_of, code_of, end_of, IsTarget}
use Rattle.pra_base.specs.Valid.{PushesLead, TakesArgs, instruction_count}
use Rattle.pra_base.specs.declared.ids.BlockId.{BlockId}
use Rattle.pra_base.specs.declared.code.Block.{Block}
use Rattle.pra_base.specs.declared.code.End.TheVariants.{Return}
use Rattle.pra_base.specs.declared.code.VarKind.{VarKind}
use Rattle.pra_base.specs.declared.code.VarKind.TheVariants.{Plain}
use Rattle.pra_base.specs.declared.code.VInstr.{VInstr}
use Rattle.pra_base.specs.declared.code.VProc.{VProc}
use Rattle.vc_build.specs.Grow.{count, stand_in, IsOpen, with_end}
use Rattle.vc_expr.specs.Rules.{ClosesWell, KeepsRules, Obeys}
use Rattle.vc_expr.proofs.Finished.{is_valid}
use Rattle.vc_order.specs.Order.{Places, block_with, Reordered, IsInOrder, depths}
use Rattle.vc_order.proofs.Kept.{rules_kept, certificate_moves, completes}
use Rattle.vc_order.specs.Turned.{IsTurned}
use Rattle.vc_order.proofs.Beside.{same_runs, turned_runs}
use Rattle.vc_order.proofs.Turning as turning
use Rattle.vc_same.proofs.Carried.{runs_on}
use Rattle.vc_proc.specs.Finished.{KeepsOn, IsFinished}

-- a block that is left by Return instead
abbrev left_by_return : Block → Block
left_by_return block = record { depth = block.depth; code = block.code; end = Return }

same_count : (last : ℕ) (code : VProc) → count (with_end last Return code) ≡ count code
same_count last code = length-set code.blocks last (left_by_return (block_of code last))

same_size : (last : ℕ) (code : VProc) → last < count code →
    instruction_count (with_end last Return code).blocks ≡ instruction_count code.blocks
same_size last code lt =
    omega (
      arith,
      sum_by-set (λ (b : Block). length b.code) code.blocks last
          (left_by_return (block_of code last)) no_block lt,
    )

last_block : (last : ℕ) (code : VProc) → last < count code →
    block_of (with_end last Return code) last ≡ left_by_return (block_of code last)
last_block last code lt = get_or-set_same code.blocks last (left_by_return (block_of code last))
    no_block lt

other_block : (last b : ℕ) (code : VProc) → b ≢ last → block_of (with_end last Return code) b ≡
    block_of code b
other_block last b code d = get_or-set_other code.blocks last b
    (left_by_return (block_of code last)) no_block d

same_code : (last b : ℕ) (code : VProc) → last < count code →
    code_of (with_end last Return code) b ≡ code_of code b
same_code last b code lt =
    ⊎_elim
    (λ (e : b ≡ last). ap (code_of (with_end last Return code)) e ∙ ap (λ (x : Block). x.code)
    (last_block last code lt) ∙ ap (code_of code) (sym e))
    (λ (d : b ≢ last). ap (λ (x : Block). x.code) (other_block last b code d))
    (cases_eq b last)

-- from rules that are kept, whatever block is left by Return
module _ (counts : List ℕ) (last : ℕ) (code : VProc) (lt : last < count code)
    (rules : KeepsRules counts code) where
  by : (b t : ℕ) → b < count code → IsTarget (end_of code b) t →
      ((block_of code b).end ≡ stand_in) ⊎ ClosesWell (count code) (block_of code b) →
      t < count code
  by b t below target (inl e) = let entry : 0 ≡ t = subst (λ x. IsTarget x t) e target in
      omega (arith, below, entry)
  by b t below target (inr w) = (w.targets t target).1

  keeps_on : KeepsOn counts (with_end last Return code)
  keeps_on = record {
    obeys = λ b k i e. rules.obeys b k i
        (ap (λ (is : List VInstr). slice_get is k) (sym (same_code last b code lt)) ∙ e);
    pushes = λ b. subst (PushesLead (TakesArgs counts) 0) (sym (same_code last b code lt))
        (rules.pushes_before_calls b);
    targets = λ b t l target.
        ⊎_elim
        (λ (e : b ≡ last).
        let end : end_of (with_end last Return code) b ≡ Return =
        ap (end_of (with_end last Return code)) e ∙ ap (λ (x : Block). x.end)
        (last_block last code lt) in
        absurd (subst (λ x. IsTarget x t) end target))
        (λ (d : b ≢ last).
        let end : end_of (with_end last Return code) b ≡ end_of code b =
        ap (λ (x : Block). x.end) (other_block last b code d) in
        let below : b < count code = omega (arith, l, same_count last code) in
        let there : t < count code = by b t below (subst (λ x. IsTarget x t) end target)
        (rules.ends b below) in
        omega (arith, there, same_count last code))
        (cases_eq b last);
  }

module _ (to from : Places) (old mid : VProc) (last : ℕ) (is : Reordered to from old mid)
    (o : IsOpen old last) (last_is : suc (to last) ≡ count old) where
  abbrev made : VProc
  made = with_end last Return old

  abbrev new : VProc
  new = with_end (to last) Return mid

  within : to last < count mid
  within = let long : length mid.blocks ≡ length old.blocks = is.count in
      omega (arith, last_is, long)

  last_there : block_of mid (to last) ≡ block_with to (block_of old last)
  last_there = get_or_from_slice_get mid.blocks (to last) (block_with to (block_of old last))
      no_block (is.blocks last (block_of old last) (slice_get-get_or old.blocks last no_block o.0))

  ends_reordered : Reordered to from made new
  ends_reordered = record {
    id = is.id;
    args = is.args;
    aggregates = is.aggregates;
    vars = is.vars;
    count = same_count (to last) mid ∙ is.count ∙ sym (same_count last old);
    entry = is.entry;
    blocks = λ b block e. by b block e (cases_eq b last);
    back = λ b lt. is.back b (omega (arith, lt, same_count last old));
    forth = λ c lt. is.forth c (omega (arith, lt, same_count last old));
    within = λ c lt. let low = is.within c (omega (arith, lt, same_count last old)) in
        omega (arith, low, same_count last old);
    instructions = same_size (to last) mid within ∙ is.instructions ∙ sym (same_size last old o.0);
  }
    where
      by : (b : ℕ) (block : Block) → slice_get made.blocks b ≡ Some block → (b ≡ last) ⊎
          (b ≢ last) → slice_get new.blocks (to b) ≡ Some (block_with to block)
      by b block e (inl same) =
          let there : slice_get made.blocks b ≡ Some (left_by_return (block_of old last)) =
          ap (slice_get made.blocks) same ∙ got_set old.blocks last
          (left_by_return (block_of old last)) o.0 in
          let block_is : left_by_return (block_of old last) ≡ block =
          some_same (left_by_return (block_of old last)) block (sym there ∙ e) in
          ap (λ n. slice_get new.blocks (to n)) same
          ∙ got_set mid.blocks (to last) (left_by_return (block_of mid (to last))) within
          ∙ ap (λ z. Some (left_by_return z)) last_there
          ∙ ap (λ z. Some (block_with to z)) block_is
      by b block e (inr apart) =
          let there : slice_get old.blocks b ≡ Some block =
          sym (got_unset old.blocks last b (left_by_return (block_of old last)) apart) ∙ e in
          let lt = slice_get_within old.blocks b block there in
          got_unset mid.blocks (to last) (to b) (left_by_return (block_of mid (to last)))
          (λ d. apart (sym (is.back b lt) ∙ ap from d ∙ is.back last o.0))
          ∙ is.blocks b block there

  from_entry : from 0 ≡ 0
  from_entry = ap from (sym is.entry) ∙ is.back 0 (omega (arith, o.0))

  depths_stay : depths new ≡ depths mid
  depths_stay = map-set_same (λ (b : Block). b.depth) mid.blocks (to last)
      (left_by_return (block_of mid (to last))) no_block refl

  module _ (ids : List BlockId) (order : IsInOrder old ids mid)
      (closed : (b : ℕ) → b < count old → b ≢ last → end_of old b ≢ stand_in) where
    -- what is left by Return at its new place
    pub finished : IsFinished old last ids new
    finished = record {
      same = same_runs to from made new ends_reordered;
      id = is.id;
      args = is.args;
      aggregates = is.aggregates;
      vars = is.vars;
      count = same_count (to last) mid ∙ is.count;
      instructions = same_size (to last) mid within ∙ is.instructions;
      depths = depths_stay ∙ order.depths;
      keeps = λ counts rules. keeps_on counts (to last) mid within
          (rules_kept to from old mid is counts rules);
      valid = λ counts known rules certifies apart entry.
          is_valid counts (λ b v. known (from b) v) mid (to last)
          (rules_kept to from old mid is counts rules)
          (certificate_moves to from old mid is counts rules known certifies)
          (completes to from old mid is counts rules last o last_is closed apart)
          (λ v e.
          let i = entry v (ap (λ b. known b v) (sym from_entry) ∙ e) in
          (i.0, ap (λ (kinds : List VarKind). slice_index_or kinds v Plain) is.vars ∙ i.1));
    }

-- ---- with branches turned round

pub turned_finished : (old : VProc) (last : ℕ) (ids : List BlockId) (mid new : VProc) →
    IsFinished old last ids mid → IsTurned mid new → IsFinished old last ids new
turned_finished old last ids mid new f is = record {
  same = runs_on (with_end last Return old) mid new f.same (turned_runs mid new is);
  id = is.id ∙ f.id;
  args = is.args ∙ f.args;
  aggregates = is.aggregates ∙ f.aggregates;
  vars = is.vars ∙ f.vars;
  count = is.count ∙ f.count;
  instructions = turning.instructions_too mid new is ∙ f.instructions;
  depths = turning.depths_too mid new is ∙ f.depths;
  keeps = λ counts rules. keeps_too counts (f.keeps counts rules);
  valid = λ counts known rules certifies apart entry.
      turning.valid_too mid new is (f.valid counts known rules certifies apart entry);
}
  where
    keeps_too : (counts : List ℕ) → KeepsOn counts mid → KeepsOn counts new
    keeps_too counts k = record {
      obeys = λ b n i e.
          subst (λ (args : ℕ). Obeys args new.vars i) (sym is.args)
          (subst (λ (vars : List VarKind). Obeys mid.args vars i) (sym is.vars)
          (turning.each_too mid new is (Obeys mid.args mid.vars) k.obeys b n i e));
      pushes = turning.pushes_too mid new is (TakesArgs counts) k.pushes;
      targets = λ b t lt target.
          let long : length new.blocks ≡ length mid.blocks = is.count in
          let there = k.targets b t (omega (arith, lt, long))
          (turning.same_target mid new is b t target) in
          omega (arith, there, long);
    }
