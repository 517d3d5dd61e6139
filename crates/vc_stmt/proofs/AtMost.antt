-- No block is made for statements that stands in more than five loops, as blocks count them.
use Rattle.std.proofs.Common.{ℕ, zero, suc, ◌+◌, ◌≤◌, List, [], ◌∷◌, ◌++◌, map, sym, subst}
use Rattle.std.specs.Prelude.{replicate}
use Rattle.std.proofs.Math.Nat.{min-le_right}
use Rattle.ob_syntax.specs.declared.checked.RArm.{RArm, roll-RArm, fold-roll-RArm}
use Rattle.ob_syntax.specs.declared.checked.RExpr.{RExpr}
use Rattle.ob_syntax.specs.declared.checked.RStmt.{RStmt, RStmt-F, roll-RStmt, map-RStmt}
use Rattle.ob_syntax.specs.declared.checked.RStmt.{fold-roll-RStmt, ind-RStmt}
use Rattle.vc_select.specs.Blocks.{needs, needs_of_var}
use Rattle.vc_stmt.specs.Blocks.{deeper}
use Rattle.vc_stmt.specs.Depths.{Depths, in_all, arm_depths, if_depths, loop_depths}
use Rattle.vc_stmt.specs.Depths.{blocks_of_arguments, stmt_depths, depths_of, depths_of_arm}
use Rattle.vc_stmt.specs.Depths.{depths_of_all, depths_of_arms}

-- each is five at most
abbrev pub AreFew : List ℕ → Type 0
AreFew [] = Unit {0}
AreFew (d ∷ ds) = (d ≤ 5) × AreFew ds

few_append : (ds es : List ℕ) → AreFew ds → AreFew es → AreFew (ds ++ es)
few_append [] es p q = q
few_append (d ∷ ds) es p q = (p.0, few_append ds es p.1 q)

few_same : (n d : ℕ) → d ≤ 5 → AreFew (replicate n d)
few_same zero d le = tt
few_same (suc n) d le = (le, few_same n d le)

few_deeper : (d : ℕ) → deeper d ≤ 5
few_deeper d = min-le_right (d + 1) 5

abbrev OfStmt : RStmt → Type 0
OfStmt x = (d : ℕ) → d ≤ 5 → AreFew (depths_of x d)

abbrev OfArm : RArm → Type 0
OfArm x = (d : ℕ) → d ≤ 5 → AreFew (depths_of_arm x d)

abbrev Layer : Type 0
Layer = RStmt-F ((x : RStmt) × OfStmt x) ((x : RArm) × OfArm x)

abbrev bare : Layer → RStmt-F RStmt RArm
bare = map-RStmt ((x : RStmt) × OfStmt x) ((x : RArm) × OfArm x) RStmt RArm (λ x. x.0) (λ x. x.0)

few_statements : (xs : List ((x : RStmt) × OfStmt x)) (d : ℕ) → d ≤ 5 →
    AreFew (depths_of_all (map (λ x. x.0) xs) d)
few_statements [] d le = tt
few_statements (x ∷ xs) d le = few_append (depths_of x.0 d) (depths_of_all (map (λ x. x.0) xs) d)
    (x.1 d le) (few_statements xs d le)

few_arms : (xs : List ((x : RArm) × OfArm x)) (d : ℕ) → d ≤ 5 →
    AreFew (depths_of_arms (map (λ x. x.0) xs) d)
few_arms [] d le = tt
few_arms (x ∷ xs) d le = few_append (depths_of_arm x.0 d) (depths_of_arms (map (λ x. x.0) xs) d)
    (x.1 d le) (few_arms xs d le)

few_if : (arms other : List Depths) (d : ℕ) → d ≤ 5 → AreFew (in_all arms d) →
    AreFew (in_all other d) → AreFew (if_depths arms other d)
few_if [] other d le p q = q
few_if (arm ∷ arms) [] d le p q = p
few_if (arm ∷ arms) (t ∷ ts) d le p q = few_append (in_all (arm ∷ arms) d)
    (in_all (t ∷ ts) d ++ d ∷ []) p (few_append (in_all (t ∷ ts) d) (d ∷ []) q (le, tt))

few_loop : (tests : ℕ) (body : Depths) (d : ℕ) → d ≤ 5 → AreFew (body (deeper d)) →
    AreFew (loop_depths tests body d)
few_loop tests body d le few =
    let inner = few_deeper d in
    let ts = replicate tests (deeper d) in (
      inner,
      few_append (body (deeper d)) (deeper d ∷ (ts ++ d ∷ [])) few
          (inner, few_append ts (d ∷ []) (few_same tests (deeper d) inner) (le, tt)),
    )

abbrev FormFew : RStmt-F RStmt RArm → Type 0
FormFew y = (d : ℕ) → d ≤ 5 →
    AreFew (stmt_depths (map-RStmt RStmt RArm Depths Depths depths_of depths_of_arm y) d)

rolled : (y : RStmt-F RStmt RArm) → FormFew y → OfStmt (roll-RStmt y)
rolled y of d le = subst (λ (f : Depths). AreFew (f d))
    (sym (fold-roll-RStmt Depths Depths stmt_depths arm_depths y)) (of d le)

form_few : (y : Layer) → FormFew (bare y)
form_few (RStmt-F.Assign v e) d le = few_same ((needs_of_var v).blocks + (needs e).value) d le
form_few (RStmt-F.If arms other) d le =
    few_if (map depths_of_arm (map (λ x. x.0) arms)) (map depths_of (map (λ x. x.0) other)) d le
    (few_arms arms d le) (few_statements other d le)
form_few (RStmt-F.While test body) d le =
    few_loop (needs test).test (depths_of_all (map (λ x. x.0) body)) d le
    (few_statements body (deeper d) (few_deeper d))
form_few (RStmt-F.Repeat body test) d le =
    few_loop (needs test).test (depths_of_all (map (λ x. x.0) body)) d le
    (few_statements body (deeper d) (few_deeper d))
form_few (RStmt-F.Call callee args) d le = few_same (blocks_of_arguments args) d le
form_few (RStmt-F.Read v) d le = few_same (needs_of_var v).blocks d le
form_few (RStmt-F.Write e) d le = few_same (needs e).value d le
form_few RStmt-F.WriteLine d le = tt

arm_few : (test : RExpr) (body : List ((x : RStmt) × OfStmt x)) →
    OfArm (roll-RArm (record { test = test; body = map (λ x. x.0) body }))
arm_few test body d le =
    let ds = depths_of_all (map (λ x. x.0) body) d in
    let tests = replicate (needs test).test d in
    subst (λ (f : Depths). AreFew (f d))
    (sym (fold-roll-RArm Depths Depths stmt_depths arm_depths
    (record { test = test; body = map (λ x. x.0) body })))
    (few_append tests (d ∷ (ds ++ d ∷ [])) (few_same (needs test).test d le)
    (le, few_append ds (d ∷ []) (few_statements body d le) (le, tt)))

few_statement : (x : RStmt) → OfStmt x
few_statement = ind-RStmt OfStmt OfArm
    (λ x y is. subst (λ z. OfStmt (roll-RStmt z)) is (rolled (bare y) (form_few y)))
    (λ x y is. subst (λ z. OfArm (roll-RArm z)) is (arm_few y.test y.body))

pub few_deep : (xs : List RStmt) (d : ℕ) → d ≤ 5 → AreFew (depths_of_all xs d)
few_deep [] d le = tt
few_deep (x ∷ xs) d le = few_append (depths_of x d) (depths_of_all xs d) (few_statement x d le)
    (few_deep xs d le)
