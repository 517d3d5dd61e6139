-- The depths of each form of statement, as equations.
use Rattle.std.proofs.Common.{◌≡◌, ◌≢◌, ℕ, ◌+◌, ◌<◌, ◌≤◌, List, [], ◌∷◌, ◌++◌, length, map, drop}
use Rattle.std.proofs.Common.{get_or, refl, sym, ap, ◌∙◌, append_assoc, append-nil}
use Rattle.std.specs.Prelude.{replicate}
use Rattle.std.proofs.lemmas.List.{drop_all}
use Rattle.pra_base.specs.declared.ids.ProcId.{ProcId}
use Rattle.ob_syntax.specs.declared.checked.RArg.{RArg}
use Rattle.ob_syntax.specs.declared.checked.RArg.TheVariants.{Value, Lent}
use Rattle.ob_syntax.specs.declared.checked.RArm.{RArm, out-RArm, fold_out-RArm}
use Rattle.ob_syntax.specs.declared.checked.RExpr.{RExpr}
use Rattle.ob_syntax.specs.declared.checked.RStmt.{RStmt, RStmt-F, roll-RStmt, map-RStmt}
use Rattle.ob_syntax.specs.declared.checked.RStmt.{fold-roll-RStmt}
use Rattle.ob_syntax.specs.declared.checked.RStmt.TheVariants as s
use Rattle.ob_syntax.specs.declared.checked.RVar.{RVar}
use Rattle.vc_select.specs.Blocks.{needs, needs_of_var}
use Rattle.vc_select.proofs.Arms.{next_item}
use Rattle.vc_typed.proofs.NodeEquations.{sum-cons}
use Rattle.vc_stmt.specs.Depths.{Depths, in_all, arm_depths, if_depths, loop_depths}
use Rattle.vc_stmt.specs.Depths.{blocks_of_argument, blocks_of_arguments, stmt_depths, depths_of}
use Rattle.vc_stmt.specs.Depths.{depths_of_arm, depths_of_all, depths_of_arms, end_depths}

stmt_roll : (y : RStmt-F RStmt RArm) → depths_of (roll-RStmt y) ≡
    stmt_depths (map-RStmt RStmt RArm Depths Depths depths_of depths_of_arm y)
stmt_roll = fold-roll-RStmt Depths Depths stmt_depths arm_depths

module _ (t : RStmt) (d : ℕ) where
  pub depths-Assign : (v : RVar) (e : RExpr) → t ≡ s.Assign v e → depths_of t d ≡
      replicate ((needs_of_var v).blocks + (needs e).value) d
  depths-Assign v e is = ap (λ z. depths_of z d) (is ∙ sym (s.rolls-Assign v e))
      ∙ ap (λ (f : Depths). f d) (stmt_roll (RStmt-F.Assign v e))

  pub depths-If : (arms : List RArm) (other : List RStmt) → t ≡ s.If arms other → depths_of t d ≡
      if_depths (map depths_of_arm arms) (map depths_of other) d
  depths-If arms other is = ap (λ z. depths_of z d) (is ∙ sym (s.rolls-If arms other))
      ∙ ap (λ (f : Depths). f d) (stmt_roll (RStmt-F.If arms other))

  pub depths-While : (test : RExpr) (body : List RStmt) → t ≡ s.While test body → depths_of t d ≡
      loop_depths (needs test).test (depths_of_all body) d
  depths-While test body is = ap (λ z. depths_of z d) (is ∙ sym (s.rolls-While test body))
      ∙ ap (λ (f : Depths). f d) (stmt_roll (RStmt-F.While test body))

  pub depths-Repeat : (body : List RStmt) (test : RExpr) → t ≡ s.Repeat body test → depths_of t d ≡
      loop_depths (needs test).test (depths_of_all body) d
  depths-Repeat body test is = ap (λ z. depths_of z d) (is ∙ sym (s.rolls-Repeat body test))
      ∙ ap (λ (f : Depths). f d) (stmt_roll (RStmt-F.Repeat body test))

  pub depths-Call : (callee : ProcId) (args : List RArg) → t ≡ s.Call callee args → depths_of t d ≡
      replicate (blocks_of_arguments args) d
  depths-Call callee args is = ap (λ z. depths_of z d) (is ∙ sym (s.rolls-Call callee args))
      ∙ ap (λ (f : Depths). f d) (stmt_roll (RStmt-F.Call callee args))

  pub depths-Read : (v : RVar) → t ≡ s.Read v → depths_of t d ≡ replicate (needs_of_var v).blocks d
  depths-Read v is = ap (λ z. depths_of z d) (is ∙ sym (s.rolls-Read v)) ∙ ap (λ (f : Depths). f d)
      (stmt_roll (RStmt-F.Read v))

  pub depths-Write : (e : RExpr) → t ≡ s.Write e → depths_of t d ≡ replicate (needs e).value d
  depths-Write e is = ap (λ z. depths_of z d) (is ∙ sym (s.rolls-Write e))
      ∙ ap (λ (f : Depths). f d) (stmt_roll (RStmt-F.Write e))

  pub depths-WriteLine : t ≡ s.WriteLine → depths_of t d ≡ replicate 0 d
  depths-WriteLine is = ap (λ z. depths_of z d) (is ∙ sym s.rolls-WriteLine)
      ∙ ap (λ (f : Depths). f d) (stmt_roll RStmt-F.WriteLine)

-- the arms alone
pub if_alone : (arms : List Depths) (d : ℕ) → if_depths arms [] d ≡ in_all arms d
if_alone [] d = refl
if_alone (arm ∷ arms) d = refl

pub if_other : (arms : List RArm) (other : List RStmt) (d : ℕ) → arms ≢ [] → other ≢ [] →
    if_depths (map depths_of_arm arms) (map depths_of other) d ≡ depths_of_arms arms d
    ++ (depths_of_all other d ++ d ∷ [])
if_other [] other d some more = absurd (some refl)
if_other (arm ∷ arms) [] d some more = absurd (more refl)
if_other (arm ∷ arms) (t ∷ ts) d some more = refl

module _ (t : RStmt) (arms arms' : List RArm) (other other' : List RStmt) (d : ℕ)
    (is : t ≡ s.If arms other) where
  pub if_both : arms ≢ [] → other ≢ [] → arms' ≡ arms → other' ≡ other → depths_of t d ≡
      depths_of_arms arms' d ++ (depths_of_all other' d ++ d ∷ [])
  if_both some more arms_are other_is =
      depths-If t d arms other is ∙ if_other arms other d some more
      ∙ ap (λ l. depths_of_arms l d ++ (depths_of_all other d ++ d ∷ [])) (sym arms_are)
      ∙ ap (λ l. depths_of_arms arms' d ++ (depths_of_all l d ++ d ∷ [])) (sym other_is)

pub if_none : (t : RStmt) (arms arms' : List RArm) (other : List RStmt) (d : ℕ) →
    t ≡ s.If arms other → other ≡ [] → arms' ≡ arms → depths_of t d ≡ depths_of_arms arms' d
if_none t arms arms' other d is none arms_are =
    depths-If t d arms other is ∙ ap (λ l. if_depths (map depths_of_arm arms) (map depths_of l) d)
    none ∙ if_alone (map depths_of_arm arms) d ∙ ap (λ l. depths_of_arms l d) (sym arms_are)

pub if_no_arms : (t : RStmt) (arms : List RArm) (other other' : List RStmt) (d : ℕ) →
    t ≡ s.If arms other → arms ≡ [] → other' ≡ other → depths_of t d ≡ depths_of_all other' d
if_no_arms t arms other other' d is none other_is =
    depths-If t d arms other is ∙ ap (λ l. if_depths (map depths_of_arm l) (map depths_of other) d)
    none ∙ ap (λ l. depths_of_all l d) (sym other_is)

pub arm_is : (arm : RArm) (d : ℕ) → depths_of_arm arm d ≡ replicate (needs (out-RArm arm).test).test
    d ++ d ∷ (depths_of_all (out-RArm arm).body d ++ d ∷ [])
arm_is arm d = ap (λ (f : Depths). f d) (fold_out-RArm Depths Depths stmt_depths arm_depths arm)

pub arm_depths_are : (arm : RArm) (body : List RStmt) (d : ℕ) → body ≡ (out-RArm arm).body →
    depths_of_arm arm d ≡ replicate (needs (out-RArm arm).test).test d
    ++ d ∷ (depths_of_all body d ++ d ∷ [])
arm_depths_are arm body d same = arm_is arm d
    ∙ ap (λ l. replicate (needs (out-RArm arm).test).test d ++ d ∷ (depths_of_all l d ++ d ∷ []))
    (sym same)

pub end_depths_are : (arm : RArm) (body : List RStmt) (d : ℕ) → body ≡ (out-RArm arm).body →
    end_depths arm d ≡ replicate (needs (out-RArm arm).test).test d ++ d ∷ depths_of_all body d
end_depths_are arm body d same =
    ap (λ l. replicate (needs (out-RArm arm).test).test d ++ d ∷ depths_of_all l d) (sym same)

-- the last arm without ELSE, with the block behind it
pub end_is : (arm : RArm) (d : ℕ) → end_depths arm d ++ d ∷ [] ≡ depths_of_arm arm d
end_is arm d = append_assoc (replicate (needs (out-RArm arm).test).test d)
    (d ∷ depths_of_all (out-RArm arm).body d) (d ∷ []) ∙ sym (arm_is arm d)

in_all_append : (fs gs : List Depths) (d : ℕ) → in_all (fs ++ gs) d ≡ in_all fs d ++ in_all gs d
in_all_append [] gs d = refl
in_all_append (f ∷ fs) gs d = ap (λ l. f d ++ l) (in_all_append fs gs d)
    ∙ sym (append_assoc (f d) (in_all fs d) (in_all gs d))

arms_append : (init : List RArm) (last : RArm) → map depths_of_arm (init ++ last ∷ []) ≡
    map depths_of_arm init ++ depths_of_arm last ∷ []
arms_append [] last = refl
arms_append (arm ∷ init) last = ap (λ l. depths_of_arm arm ∷ l) (arms_append init last)

pub arms_last : (init : List RArm) (last : RArm) (d : ℕ) → depths_of_arms (init ++ last ∷ []) d ≡
    (depths_of_arms init d ++ end_depths last d) ++ d ∷ []
arms_last init last d =
    ap (λ l. in_all l d) (arms_append init last) ∙ in_all_append (map depths_of_arm init)
    (depths_of_arm last ∷ []) d
    ∙ ap (λ l. depths_of_arms init d ++ l) (append-nil (depths_of_arm last d) ∙ sym (end_is last d))
    ∙ sym (append_assoc (depths_of_arms init d) (end_depths last d) (d ∷ []))

-- ---- one after the other

pub all_next : (all : List RStmt) (i : ℕ) (t : RStmt) (d : ℕ) → i < length all →
    t ≡ get_or all i t → depths_of_all (drop i all) d ≡ depths_of t d
    ++ depths_of_all (drop (i + 1) all) d
all_next all i t d lt is = ap (λ l. depths_of_all l d) (next_item all i t lt is)

pub all_done : (all : List RStmt) (i : ℕ) (d : ℕ) → length all ≤ i → depths_of_all (drop i all) d ≡
    []
all_done all i d past = ap (λ l. depths_of_all l d) (drop_all i all past)

pub arms_next : (all : List RArm) (i : ℕ) (arm : RArm) (d : ℕ) → i < length all →
    arm ≡ get_or all i arm → depths_of_arms (drop i all) d ≡ depths_of_arm arm d ++ depths_of_arms
    (drop (i + 1) all) d
arms_next all i arm d lt is = ap (λ l. depths_of_arms l d) (next_item all i arm lt is)

pub arms_done : (all : List RArm) (i : ℕ) (d : ℕ) → length all ≤ i → depths_of_arms (drop i all) d ≡
    []
arms_done all i d past = ap (λ l. depths_of_arms l d) (drop_all i all past)

-- ---- arguments

pub value_blocks : (e : RExpr) (arg : RArg) → arg ≡ Value e → blocks_of_argument arg ≡
    (needs e).value
value_blocks e arg is = ap blocks_of_argument is

pub lent_blocks : (v : RVar) (arg : RArg) → arg ≡ Lent v → blocks_of_argument arg ≡
    (needs_of_var v).blocks
lent_blocks v arg is = ap blocks_of_argument is

pub arguments_next : (all : List RArg) (i : ℕ) (arg : RArg) → i < length all →
    arg ≡ get_or all i arg → blocks_of_arguments (drop i all) ≡
    blocks_of_argument arg + blocks_of_arguments (drop (i + 1) all)
arguments_next all i arg lt is = ap blocks_of_arguments (next_item all i arg lt is)
    ∙ sum-cons (blocks_of_argument arg) (map blocks_of_argument (drop (i + 1) all))

pub arguments_done : (all : List RArg) (i : ℕ) → length all ≤ i → blocks_of_arguments (drop i all) ≡
    0
arguments_done all i past = ap blocks_of_arguments (drop_all i all past)
