-- Code for targets keeps the rules and a certificate: roots, indexes and words that are loaded.
use Rattle.std.proofs.Common.{◌≡◌, ◌≢◌, ℕ, zero, suc, ◌^◌, ◌<◌, ◌≤◌, Bool, true, false, List, []}
use Rattle.std.proofs.Common.{◌∷◌, length, Option, Some, None, inl, inr, ⊎_elim, ◌⊎◌, refl, sym, ap}
use Rattle.std.proofs.Common.{◌∙◌, subst, arith}
use Rattle.std.specs.Prelude.{ℤ, pos, ◌≤ℤ◌, ◌++◌, slice_get, slice_index_or}
use Rattle.std.specs.List.{list_any}
use Rattle.std.proofs.lemmas.Int.{ints}
use Rattle.pra_list.proofs.Truths.{false_from}
use Rattle.pra_base.specs.Code.{kind_of, cell_of}
use Rattle.pra_base.specs.Operands.{reads, writes, via, index, is_role_of}
use Rattle.pra_base.specs.declared.ids.VarId.{VarId}
use Rattle.pra_base.specs.declared.code.Addr.{Addr}
use Rattle.pra_base.specs.declared.code.Base.{Base}
use Rattle.pra_base.specs.declared.code.Base.TheVariants as base
use Rattle.pra_base.specs.declared.code.VarKind.{VarKind}
use Rattle.pra_base.specs.declared.code.VarKind.TheVariants.{Param, Plain, Constant}
use Rattle.pra_base.specs.declared.code.VInstr.TheVariants.{Check, Load}
use Rattle.pra_base.specs.declared.code.VProc.{VProc}
use Rattle.ob_syntax.specs.declared.checked.CheckedProc.{CheckedProc}
use Rattle.ob_syntax.specs.declared.checked.Root.{Root}
use Rattle.ob_syntax.specs.declared.checked.Root.TheVariants as root
use Rattle.vc_build.specs.Grow.{count, IsOpen, Grows, with_instr, with_variable}
use Rattle.vc_build.proofs.Growth.{declared_kind, declared_count}
use Rattle.vc_expr.specs.Counts.{AddsAtMost}
use Rattle.vc_expr.specs.Readable.{usable, ReadsOperands}
use Rattle.vc_expr.specs.Rules.{Obeys, StaysValid}
use Rattle.vc_expr.proofs.Added.{put_valid, same_valid, plain_valid, constant_valid, valid_on}
use Rattle.vc_expr.proofs.Certificates.{put_written, put_kept, put_certifies, declare_certifies}
use Rattle.vc_expr.proofs.Certificates.{declare_usable}
use Rattle.vc_expr.proofs.Counting.{adds_on, plain_adds, constant_adds, put_adds}
use Rattle.vc_expr.proofs.Obeys.{is_first, is_either, plain_constant}
use Rattle.vc_expr.proofs.Published.{new_constant}
use Rattle.vc_relation.specs.declared.home.Home.{Home}
use Rattle.vc_relation.specs.declared.home.Home.TheVariants as home
use Rattle.vc_select.specs.declared.target.Setting.{Setting}
use Rattle.vc_select.specs.declared.target.Target.{Target}
use Rattle.vc_select.specs.declared.target.Target.TheVariants.{Var, Memory}
use Rattle.vc_select.specs.Targets.{home_target, home_in, by_var_of, param_target, root_target}
use Rattle.vc_select.specs.Targets.{shifted, above_base, above_index, above_target, above_setting}
use Rattle.vc_select.specs.Certified.{AddsNoParam, IsHome, IsFresh, StaysReady, IsAnswer, InBase}
use Rattle.vc_select.specs.Certified.{InIndex, InTarget, CellOfBase, CellOf, StaysReadyFrom}
use Rattle.vc_select.specs.Certified.{ReadsIndex, ReadsTarget, ReadsWord}
use Rattle.vc_select.proofs.Nodes.{operation_most}
use Rattle.vc_select.proofs.Ready.{ready_on, continues_at, continues_on, continues_same}
use Rattle.vc_select.proofs.Walking.{above_root}

-- ---- the variables of a target

in_base_below : (b : Base) (v : ℕ) → InBase b v → v < above_base b
in_base_below (base.Via u) v e = omega (arith, e)
in_base_below (base.Global n) v e = absurd e
in_base_below (base.Frame n) v e = absurd e
in_base_below (base.Cell n) v e = absurd e

in_index_below : (i : Option VarId) (v : ℕ) → InIndex i v → v < above_index i
in_index_below (Some u) v e = omega (arith, e)
in_index_below None v e = absurd e

pub in_target_below : (t : Target) (v : ℕ) → InTarget t v → v < above_target t
in_target_below (Var u) v e = omega (arith, e)
in_target_below (Memory a) v e = ⊎_elim
    (λ (b : InBase a.base v). omega (arith, in_base_below a.base v b))
    (λ (i : InIndex a.index v). omega (arith, in_index_below a.index v i))
    e

pub in_shifted : (n : ℕ) (t : Target) (v : ℕ) → InTarget (shifted n t) v → InTarget t v
in_shifted n (Var u) v e = e
in_shifted n (Memory a) v e = e

pub cell_of_shifted : (n : ℕ) (t : Target) (k : ℕ) → CellOf (shifted n t) k → CellOf t k
cell_of_shifted n (Var u) k e = e
cell_of_shifted n (Memory a) k e = e

-- ---- roots

is_var : (b : Bool) (h : Home) (v : ℕ) → InTarget (home_target b h) v →
    Some h ≡ Some (home.Var (record { 0 = v }))
is_var true (home.Var u) v e =
    ⊎_elim (λ (s : v ≡ u.0). ap (λ n. Some (home.Var (record { 0 = n }))) (sym s))
    (λ (n : ⊥). absurd n) e
is_var false (home.Var u) v e = ap (λ n. Some (home.Var (record { 0 = n }))) (sym e)
is_var true (home.Cell k) v e = ⊎_elim (λ (n : ⊥). absurd n) (λ (n : ⊥). absurd n) e
is_var false (home.Cell k) v e = ⊎_elim (λ (n : ⊥). absurd n) (λ (n : ⊥). absurd n) e
is_var true (home.Frame k) v e = ⊎_elim (λ (n : ⊥). absurd n) (λ (n : ⊥). absurd n) e
is_var false (home.Frame k) v e = ⊎_elim (λ (n : ⊥). absurd n) (λ (n : ⊥). absurd n) e

is_cell : (b : Bool) (h : Home) (k : ℕ) → CellOf (home_target b h) k → Some h ≡ Some (home.Cell k)
is_cell true (home.Var u) k e = absurd e
is_cell false (home.Var u) k e = absurd e
is_cell true (home.Cell n) k e = ap (λ m. Some (home.Cell m)) (sym e)
is_cell false (home.Cell n) k e = ap (λ m. Some (home.Cell m)) (sym e)
is_cell true (home.Frame n) k e = absurd e
is_cell false (home.Frame n) k e = absurd e

no_var : (b : Bool) (v : ℕ) → InTarget (home_target b (home.Frame 0)) v → ⊥
no_var true v e = ⊎_elim (λ (n : ⊥). n) (λ (n : ⊥). n) e
no_var false v e = ⊎_elim (λ (n : ⊥). n) (λ (n : ⊥). n) e

no_cell : (b : Bool) (k : ℕ) → CellOf (home_target b (home.Frame 0)) k → ⊥
no_cell true k e = e
no_cell false k e = e

var_of_homes : (homes : List Home) (b : Bool) (k v : ℕ) → InTarget (home_target b (home_in homes k))
    v → slice_get homes k ≡ Some (home.Var (record { 0 = v }))
var_of_homes [] b k v e = absurd (no_var b v e)
var_of_homes (h ∷ hs) b zero v e = is_var b h v e
var_of_homes (h ∷ hs) b (suc k) v e = var_of_homes hs b k v e

cell_of_homes : (homes : List Home) (b : Bool) (n k : ℕ) →
    CellOf (home_target b (home_in homes n)) k → slice_get homes n ≡ Some (home.Cell k)
cell_of_homes [] b n k e = absurd (no_cell b k e)
cell_of_homes (h ∷ hs) b zero k e = is_cell b h k e
cell_of_homes (h ∷ hs) b (suc n) k e = cell_of_homes hs b n k e

var_of_params : (homes : List Home) (proc : Option CheckedProc) (k v : ℕ) →
    InTarget (param_target homes proc k) v → slice_get homes k ≡ Some (home.Var (record { 0 = v }))
var_of_params homes None k v e = var_of_homes homes false k v e
var_of_params homes (Some proc) k v e = var_of_homes homes (by_var_of (slice_get proc.params k)) k v
    e

cell_of_params : (homes : List Home) (proc : Option CheckedProc) (n k : ℕ) →
    CellOf (param_target homes proc n) k → slice_get homes n ≡ Some (home.Cell k)
cell_of_params homes None n k e = cell_of_homes homes false n k e
cell_of_params homes (Some proc) n k e = cell_of_homes homes (by_var_of (slice_get proc.params n)) n
    k e

module _ (g : Setting) where
  abbrev root_of : Root → Target
  root_of r = root_target g.program.now g.params.now g.locals.now g.id.0 r

  pub root_home : (r : Root) (v : ℕ) → InTarget (root_of r) v →
      IsHome g (home.Var (record { 0 = v }))
  root_home (root.Module n) v e = ⊎_elim (λ (z : ⊥). absurd z) (λ (z : ⊥). absurd z) e
  root_home (root.Param k) v e =
      (k, inl (var_of_params g.params.now (slice_get g.program.now.procs g.id.0) k v e))
  root_home (root.Local k) v e = (k, inr (var_of_homes g.locals.now false k v e))

  pub root_cell : (r : Root) (k : ℕ) → CellOf (root_of r) k → IsHome g (home.Cell k)
  root_cell (root.Module n) k e = absurd e
  root_cell (root.Param n) k e =
      (n, inl (cell_of_params g.params.now (slice_get g.program.now.procs g.id.0) n k e))
  root_cell (root.Local n) k e = (n, inr (cell_of_homes g.locals.now false n k e))

  -- ---- targets one after the other

  pub from_same : (first : ℕ) (old : VProc) (at : ℕ) (begin end : Target) →
      ((v : ℕ) → InTarget end v → InTarget begin v) → ((k : ℕ) → CellOf end k → CellOf begin k) →
      StaysReadyFrom g first old old at at begin end
  from_same first old at begin end vars cells = record {
    stays = λ counts known r is. continues_same g counts known first old at (InTarget end) r
        (λ v e. is v (vars v e));
    fresh = λ v e. inl (vars v e);
    cells = cells;
  }

  pub from_on : (first : ℕ) (old mid new : VProc) (from between to : ℕ) (a b c : Target) →
      count old ≤ count mid → StaysReadyFrom g first old mid from between a b →
      StaysReadyFrom g first mid new between to b c → StaysReadyFrom g first old new from to a c
  from_on first old mid new from between to a b c wide p q = record {
    stays = λ counts known r is.
        let one = p.stays counts known r is in
        continues_on g counts known first first old mid new from between to (InTarget b)
        (InTarget c) one (omega arith) wide (q.stays counts one.next one.ready one.answer);
    fresh = λ v e. ⊎_elim
        (λ (in_b : InTarget b v). p.fresh v in_b)
        (λ (f : IsFresh g first v). inr f)
        (q.fresh v e);
    cells = λ k e. p.cells k (q.cells k e);
  }

  -- from where the variable begins
  pub variable_ready : (first : ℕ) (old new : VProc) (from to : ℕ) (r : Root) (end : Target) →
      StaysReadyFrom g first old new from to (root_of r) end → StaysReady g first old new from to
      (InTarget end)
  variable_ready first old new from to r end p = record {
    stays = λ counts known ready. p.stays counts known ready
        (λ v e. ready.homes (record { 0 = v }) (root_home r v e));
    fresh = λ v e. ⊎_elim
        (λ (in_root : InTarget (root_of r) v). inl
        (omega (
          arith,
          in_target_below (root_of r) v in_root,
          above_root g.program.now g.params.now g.locals.now g.id.0 r,
        )))
        (λ (f : IsFresh g first v). f)
        (p.fresh v e);
  }

  pub variable_cells : (first : ℕ) (old new : VProc) (from to : ℕ) (r : Root) (end : Target) →
      StaysReadyFrom g first old new from to (root_of r) end → (k : ℕ) → CellOf end k →
      IsHome g (home.Cell k)
  variable_cells first old new from to r end p k e = root_cell r k (p.cells k e)

  -- ---- elements

  module _ (first : ℕ) (old mid new : VProc) (from to v : ℕ) (begin end : Target)
      (low : above_setting g ≤ first) (first_low : first ≤ length old.vars)
      (named : above_target begin ≤ length old.vars)
      (p : StaysReady g (length old.vars) old mid from to (IsAnswer v)) (grows : Grows old mid)
      (more : Grows mid new) (params : AddsNoParam mid new) (valid : StaysValid mid new)
      (t : ReadsTarget first to mid new begin v end) where
    pub element_ready : StaysReadyFrom g first old new from to begin end
    element_ready = record {
      stays = λ counts known r is.
          let c = p.stays counts known r in
          let q = t.reads c.next c.ready.certifies
          (λ u e. c.others u (omega (arith, in_target_below begin u e, named)) (is u e))
          (c.answer v refl) in
          record {
            next = c.next;
            same = c.same;
            ready = ready_on g counts c.next c.next first mid new to to low more.args params c.ready
                (valid.stays counts c.ready.rules) q.certifies q.others;
            answer = q.answer;
            others = λ u lt e. q.others u lt (c.others u (omega (arith, lt, first_low)) e);
          };
      fresh = λ u e. ⊎_elim
          (λ (b : InTarget begin u). inl b)
          (λ (x : (u ≡ v) ⊎ (first ≤ u)). inr (⊎_elim
          (λ (s : u ≡ v). ⊎_elim (λ (h : u < above_setting g). inl h)
          (λ (n : length old.vars ≤ u). inr (omega (arith, n, first_low))) (p.fresh u s))
          (λ (n : first ≤ u). inr n)
          x))
          (t.fresh u e);
      cells = t.cells;
    }

  -- ---- a word that is loaded

  pub word_ready : (old mid new : VProc) (from to v : ℕ) (target : Target) → above_setting g ≤
      length old.vars → StaysReady g (length old.vars) old mid from to (InTarget target) →
      ((k : ℕ) → CellOf target k → IsHome g (home.Cell k)) → Grows old mid → Grows mid new →
      AddsNoParam mid new → ReadsWord to mid new target v →
      StaysReady g (length old.vars) old new from to (IsAnswer v)
  word_ready old mid new from to v target low p cells grows more params t = record {
    stays = λ counts known r.
        let c = p.stays counts known r in
        let valid : StaysValid mid new = t.valid (λ k e. c.ready.cells k (cells k e)) in
        continues_on g counts known (length old.vars) (length mid.vars) old mid new from to to
        (InTarget target) (IsAnswer v) c grows.vars grows.blocks
        (continues_at g counts c.next (length mid.vars) mid new to v
        (omega (arith, low, grows.vars)) more params valid c.ready
        (t.reads c.next c.ready.certifies c.answer));
    fresh = λ u e. ⊎_elim
        (λ (i : InTarget target v). p.fresh u (subst (InTarget target) (sym e) i))
        (λ (n : length mid.vars ≤ v). inr (omega (arith, e, n, grows.vars)))
        t.fresh;
  }

-- ---- the instructions

in_address : (u : ℕ) (b : Base) (i : Option VarId) → list_any (is_role_of u) (via b ++ index i) ≡
    true → InBase b u ⊎ InIndex i u
in_address u (base.Via v) None e = inl (is_first v.0 u e)
in_address u (base.Via v) (Some w) e = is_either v.0 w.0 u e
in_address u (base.Global n) None e = absurd (cc)
in_address u (base.Global n) (Some w) e = inr (is_first w.0 u e)
in_address u (base.Frame n) None e = absurd (cc)
in_address u (base.Frame n) (Some w) e = inr (is_first w.0 u e)
in_address u (base.Cell n) None e = absurd (cc)
in_address u (base.Cell n) (Some w) e = inr (is_first w.0 u e)

pub cell_named : (b : Base) (k : ℕ) → cell_of b ≡ Some k → CellOfBase b k
cell_named (base.Cell n) k e = cc
cell_named (base.Via v) k e = absurd (cc)
cell_named (base.Global n) k e = absurd (cc)
cell_named (base.Frame n) k e = absurd (cc)

module _ (args : ℕ) (vars : List VarKind) where
  abbrev kind : ℕ → VarKind
  kind v = slice_index_or vars v Plain

  pub obeys_load : (t : VarId) (a : Addr) → kind t.0 ≡ Plain → t.0 < length vars →
      ((v : ℕ) → InTarget (Memory a) v → v < t.0) →
      ((k : ℕ) → CellOfBase a.base k → (k < args) × ((v : ℕ) → slice_get vars v ≢ Some (Param k))) →
      Obeys args vars (Load t a)
  obeys_load t a plain there below cells = record {
    named = λ v n. ⊎_elim (λ r. omega (arith, below v (in_address v a.base a.index r), there))
        (λ w. omega (arith, is_first t.0 v w, there)) n;
    roles_apart = λ v e. false_from (reads (Load t a) v)
        (λ r. omega (arith, is_first t.0 v e, below v (in_address v a.base a.index r)));
    division_apart = λ q r x d e. absurd (cc);
    constants_kept = λ v n e. record {
      unwritten = false_from (writes (Load t a) v)
          (λ w. plain_constant n (sym plain ∙ ap kind (sym (is_first t.0 v w)) ∙ e));
      uncopied = λ x y z. absurd (cc);
    };
    check_range = λ v n e. absurd (cc);
    shift_range = λ op v n e. absurd (cc);
    cells = λ k e. cells k (cell_named a.base k e);
  }

  pub obeys_check : (i : VarId) (m : ℤ) → i.0 < length vars → (pos 0 ≤ℤ m) × (m ≤ℤ pos 2147483647) →
      Obeys args vars (Check i m)
  obeys_check i m there range = record {
    named = λ v n. ⊎_elim (λ r. omega (arith, is_first i.0 v r, there)) (λ w. absurd (cc)) n;
    roles_apart = λ v e. absurd (cc);
    division_apart = λ q r a d e. absurd (cc);
    constants_kept = λ v n e. record { unwritten = refl; uncopied = λ x y z. absurd (cc) };
    check_range = λ v n e. subst (λ z. (pos 0 ≤ℤ z) × (z ≤ℤ pos 2147483647)) (bound v n e) range;
    shift_range = λ op v n e. absurd (cc);
    cells = λ n e. absurd (cc);
  }
    where
      bound : (v : VarId) (n : ℤ) → Check i m ≡ Check v n → m ≡ n
      bound v n e = cc

-- ---- words that are loaded

pub word_of_variable : (at : ℕ) (old : VProc) (u : VarId) → ReadsWord at old old (Var u) u.0
word_of_variable at old u = record {
  reads = λ known c is. record { certifies = c; result = is u.0 refl; others = λ x lt e. e };
  valid = λ cells. same_valid old;
  fresh = inl refl;
}

module _ (at : ℕ) (old : VProc) (t : VarId) (a : Addr) (o : IsOpen old at)
    (is_new : t.0 ≡ length old.vars) (named : above_target (Memory a) ≤ length old.vars) where
  abbrev declared : VProc
  declared = with_variable Plain old

  abbrev loaded : VProc
  loaded = with_instr at (Load t a) declared

  declared_open : IsOpen declared at
  declared_open = o

  plain : kind_of declared t.0 ≡ Plain
  plain = ap (kind_of declared) is_new ∙ declared_kind Plain old

  there : t.0 < length declared.vars
  there = omega (arith, is_new, declared_count Plain old)

  below : (v : ℕ) → InTarget (Memory a) v → v < t.0
  below v e = omega (arith, in_target_below (Memory a) v e, named, is_new)

  writes_it : writes (Load t a) t.0 ≡ true
  writes_it = grind (arith, Rattle.std.proofs.lemmas.Bool.Decides.nat_tests)

  pub word_loaded : ReadsWord at old loaded (Memory a) t.0
  word_loaded = record {
    reads = λ known c is. record {
      certifies = put_certifies known at (Load t a) declared declared_open
          (declare_certifies known Plain old c)
          (λ v r. declare_usable known Plain old at v (is v (in_address v a.base a.index r)));
      result = put_written known at (Load t a) declared declared_open t.0 writes_it;
      others = λ v lt e. put_kept known at (Load t a) declared declared_open v refl
          (declare_usable known Plain old at v e);
    };
    valid = λ cells.
        put_valid at (Load t a) old declared declared_open (plain_valid old old (same_valid old))
        (obeys_load declared.args declared.vars t a plain there below
        (λ k e. let c = cells k e in (c.0, λ v is. c.1 v ((plain_adds old).params v k is))))
        refl;
    fresh = inr (omega (arith, is_new));
  }

  pub word_adds : AddsAtMost 1 1 0 0 old loaded
  word_adds = adds_on 0 1 0 0 1 0 0 0 old declared loaded (plain_adds old)
      (put_adds at (Load t a) declared declared_open)

-- ---- indexes

pub count_in_range : (n : ℕ) → n < 2 ^ 31 → (pos 0 ≤ℤ pos n) × (pos n ≤ℤ pos 2147483647)
count_in_range n lt = (grind (arith, ints), grind (arith, ints))

module _ (at : ℕ) (old : VProc) (i : VarId) (m : ℤ) (o : IsOpen old at) where
  abbrev checked : VProc
  checked = with_instr at (Check i m) old

  pub check_valid : i.0 < length old.vars → (pos 0 ≤ℤ m) × (m ≤ℤ pos 2147483647) →
      StaysValid old checked
  check_valid named range = put_valid at (Check i m) old old o (same_valid old)
      (obeys_check old.args old.vars i m named range) refl

  pub check_reads : ReadsOperands (length old.vars) at old checked i.0 i.0 i.0
  check_reads = record {
    reads = λ known c one two. record {
      certifies = put_certifies known at (Check i m) old o c
          (λ v r. ap (usable known old at) (is_first i.0 v r) ∙ one);
      result = put_kept known at (Check i m) old o i.0 refl one;
      others = λ v lt e. put_kept known at (Check i m) old o v refl e;
    };
  }

-- a product by a constant that is new
pub product_reads : (first at : ℕ) (old new : VProc) (m : ℤ) (index factor v : ℕ) →
    factor ≡ length old.vars → first ≤ length old.vars →
    ReadsOperands first at (with_variable (Constant m) old) new index factor v →
    ReadsOperands first at old new index index v
product_reads first at old new m index factor v is_new low p = record {
  reads = λ known c one two.
      let q = p.reads known (declare_certifies known (Constant m) old c)
      (declare_usable known (Constant m) old at index one)
      (new_constant known m at factor old is_new) in
      record {
        certifies = q.certifies;
        result = q.result;
        others =
            λ u lt e. q.others u lt (declare_usable known (Constant m) old at u e);
      };
}

pub product_valid : (old new : VProc) (m : ℤ) → StaysValid (with_variable (Constant m) old) new →
    StaysValid old new
product_valid old new m p = valid_on old (with_variable (Constant m) old) new
    (constant_valid m old old (same_valid old)) p

pub product_adds : (m : ℤ) (old new : VProc) (first index : ℕ) →
    Rattle.vc_expr.specs.Counts.OperationAdds 1 0 0 first index (with_variable (Constant m) old)
    new → AddsAtMost 2 1 1 0 old new
product_adds m old new first index p = adds_on 0 0 1 0 2 1 0 0 old (with_variable (Constant m) old)
    new (constant_adds m old)
    (operation_most 1 0 0 first index (with_variable (Constant m) old) new p)

pub no_operand : (first at : ℕ) (old : VProc) (v : ℕ) → ReadsOperands first at old old v v v
no_operand first at old v =
    record {
      reads = λ known c one two. record { certifies = c; result = one; others = λ u lt e. e };
    }

-- the sum with the index so far
pub sum_none : (first at : ℕ) (old : VProc) (v : ℕ) → ReadsIndex first at old old None v v
sum_none first at old v =
    record {
      reads = λ known c so_far is. record
          { certifies = c; result = is; others = λ u lt e. e };
      fresh = inl refl;
    }

pub sum_some : (first at : ℕ) (old new : VProc) (so_far : VarId) (index v : ℕ) → first ≤ v →
    ReadsOperands first at old new so_far.0 index v → ReadsIndex first at old new (Some so_far)
    index v
sum_some first at old new so_far index v above p =
    record { reads = λ known c so is. p.reads known c (so so_far.0 refl) is; fresh = inr above }

-- test, product and sum
pub index_reads : (first before at : ℕ) (old one two new : VProc) (so_far : Option VarId)
    (index scaled v : ℕ) → first ≤ before → above_index so_far ≤ before → before ≤ length old.vars →
    index < length old.vars → ReadsOperands (length old.vars) at old one index index index →
    ReadsOperands before at one two index index scaled → (scaled ≡ index) ⊎ (before ≤ scaled) →
    ReadsIndex first at two new so_far scaled v → ReadsIndex first at old new so_far index v
index_reads first before at old one two new so_far index scaled v low so_low within named p q fresh
    r = record {
      reads = λ known c so is.
          let a = p.reads known c is is in
          let b = q.reads known a.certifies a.result a.result in
          let d = r.reads known b.certifies
          (λ u e. b.others u (omega (arith, in_index_below so_far u e, so_low))
          (a.others u (omega (arith, in_index_below so_far u e, so_low, within)) (so u e)))
          b.result in
          record {
            certifies = d.certifies;
            result = d.result;
            others =
                λ u lt e. d.others u lt (b.others u (omega (arith, lt, low))
                (a.others u (omega (arith, lt, low, within)) e));
          };
      fresh = ⊎_elim
          (λ (e : v ≡ scaled). ⊎_elim (λ (s : scaled ≡ index). inl (e ∙ s))
          (λ (n : before ≤ scaled). inr (omega (arith, e, n, low))) fresh)
          (λ (n : first ≤ v). inr n)
          r.fresh;
    }

-- ---- targets by an index

pub target_variable : (first at : ℕ) (old : VProc) (u : VarId) (index : ℕ) →
    ReadsTarget first at old old (Var u) index (Var u)
target_variable first at old u index = record {
  reads = λ known c is here. record { certifies = c; answer = is; others = λ v lt e. e };
  fresh = λ v e. inl e;
  cells = λ k e. e;
}

pub target_indexed : (first at : ℕ) (old new : VProc) (a : Addr) (offset : ℤ) (index : ℕ)
    (u : VarId) → above_base a.base ≤ first → ReadsIndex first at old new a.index index u.0 →
    ReadsTarget first at old new (Memory a) index
    (Memory (record { base = a.base; offset = offset; index = Some u }))
target_indexed first at old new a offset index u low p = record {
  reads = λ known c is here.
      let q = p.reads known c (λ v e. is v (inr e)) here in
      record {
        certifies = q.certifies;
        answer = λ v e. ⊎_elim
            (λ (b : InBase a.base v). q.others v (omega (arith, in_base_below a.base v b, low))
            (is v (inl b)))
            (λ (s : v ≡ u.0). subst (λ z. usable known new at z ≡ true) (sym s) q.result)
            e;
        others = q.others;
      };
  fresh = λ v e. ⊎_elim
      (λ (b : InBase a.base v). inl (inl b))
      (λ (s : v ≡ u.0). inr (⊎_elim (λ (i : u.0 ≡ index). inl (s ∙ i))
      (λ (n : first ≤ u.0). inr (omega (arith, s, n))) p.fresh))
      e;
  cells = λ k e. e;
}
