-- Code that gives a word to a variable of the source, or writes one, keeps the rules and a
-- certificate.
use Rattle.std.proofs.Common.{◌≡◌, ◌≢◌, ℕ, ◌<◌, ◌≤◌, Bool, true, false, length, ⊎_elim, refl, sym}
use Rattle.std.proofs.Common.{ap, ◌∙◌, subst, arith}
use Rattle.std.specs.Prelude.{ℤ, ◌||◌}
use Rattle.std.proofs.lemmas.Bool.Decides.{nat_tests}
use Rattle.pra_base.specs.Code.{kind_of}
use Rattle.pra_base.specs.Operands.{reads, writes}
use Rattle.pra_base.specs.declared.ids.VarId.{VarId}
use Rattle.pra_base.specs.declared.code.Addr.{Addr}
use Rattle.pra_base.specs.declared.code.Block.{Block}
use Rattle.pra_base.specs.declared.code.VarKind.{VarKind}
use Rattle.pra_base.specs.declared.code.VarKind.TheVariants.{Param, Plain, Constant}
use Rattle.pra_base.specs.declared.code.VInstr.{VInstr}
use Rattle.pra_base.specs.declared.code.VInstr.TheVariants.{Store, Read, Write, Line}
use Rattle.pra_base.specs.declared.code.VProc.{VProc}
use Rattle.vc_build.specs.Grow.{IsOpen, with_instr, with_variable, GrowsAt}
use Rattle.vc_build.proofs.Growth.{grows_at_on, put_open, put_grows, declared_kind, declared_count}
use Rattle.vc_expr.specs.Counts.{AddsAtMost}
use Rattle.vc_expr.specs.Operators.{first_of}
use Rattle.vc_expr.specs.Readable.{is_constant, divides, readable, usable}
use Rattle.vc_expr.specs.Rules.{is_simple}
use Rattle.vc_expr.proofs.Certificates.{put_written}
use Rattle.vc_expr.proofs.Counting.{adds_none, adds_more, adds_on, plain_adds, put_adds}
use Rattle.vc_expr.proofs.Obeys.{is_first}
use Rattle.vc_relation.specs.declared.home.Home.TheVariants as home
use Rattle.vc_select.specs.declared.target.Setting.{Setting}
use Rattle.vc_select.specs.declared.target.Target.{Target}
use Rattle.vc_select.specs.declared.target.Target.TheVariants.{Var, Memory}
use Rattle.vc_select.specs.Selects.{Extends}
use Rattle.vc_select.specs.Targets.{above_target, above_setting}
use Rattle.vc_select.specs.Certified.{AddsNoParam, IsHome, IsCell, Continues, StaysReady, IsAnswer}
use Rattle.vc_select.specs.Certified.{InTarget, CellOf}
use Rattle.vc_select.proofs.Keeping.{extends_on}
use Rattle.vc_select.proofs.ReadyTargets.{in_target_below}
use Rattle.vc_stmt.specs.Ready.{KeepsReady, Keeps, GivesReady, StoresReady}
use Rattle.vc_stmt.proofs.Obeying.{store_reads, write_reads, obeys_store, obeys_read, obeys_write}
use Rattle.vc_stmt.proofs.Obeying.{obeys_line, obeys_first}
use Rattle.vc_stmt.proofs.Proceeding.{keeps_same, keeps_on, keeps_put, keeps_plain, proceeds_put}

-- ---- a variable that is no constant is given a variable's value

first_simple : (kind : VarKind) (target v : VarId) → is_simple (first_of kind target v) ≡ true
first_simple (Constant n) target v = refl
first_simple Plain target v = refl
first_simple (Param k) target v = refl

first_whole : (kind : VarKind) (target v : VarId) (u : ℕ) → divides (first_of kind target v) u ≡
    false
first_whole (Constant n) target v u = refl
first_whole Plain target v u = refl
first_whole (Param k) target v u = refl

first_reads : (kind : VarKind) (target v : VarId) (u : ℕ) → reads (first_of kind target v) u ≡
    true → u ≡ v.0
first_reads (Constant n) target v u r = absurd (cc)
first_reads Plain target v u r = is_first v.0 u r
first_reads (Param k) target v u r = is_first v.0 u r

constant_is : (k : VarKind) (n : ℤ) → is_constant k ≡ false → k ≢ Constant n
constant_is k n fails e = not_both (is_constant k) fails (ap is_constant e)
  where
    not_both : (b : Bool) → b ≡ false → b ≡ true → ⊥
    not_both b f t = cc

pub one_put : (at : ℕ) (i : VInstr) (old new : VProc) → IsOpen old at → new ≡ with_instr at i old →
    AddsAtMost 1 0 0 0 old new
one_put at i old new o is = subst (AddsAtMost 1 0 0 0 old) (sym is) (put_adds at i old o)

pub put_at : (at : ℕ) (i : VInstr) (old new : VProc) → IsOpen old at → new ≡ with_instr at i old →
    GrowsAt at old new
put_at at i old new o is = subst (λ (z : VProc). GrowsAt at old z) (sym is) (put_grows at i old o)

pub nothing_put : (n v : ℕ) (old : VProc) → AddsAtMost n v 0 0 old old
nothing_put n v old = adds_more 0 0 0 0 n v 0 0 old old (omega arith) (omega arith) (omega arith)
    (omega arith) (adds_none old)

pub two_put : (n v : ℕ) (at : ℕ) (i : VInstr) (old new : VProc) → 0 < n → IsOpen old at →
    new ≡ with_instr at i old → AddsAtMost n v 0 0 old new
two_put n v at i old new some o is = adds_more 1 0 0 0 n v 0 0 old new (omega (arith, some))
    (omega arith) (omega arith) (omega arith) (one_put at i old new o is)

module _ (g : Setting) where
  pub stores_nothing : (at : ℕ) (old : VProc) (target : Target) (v : ℕ) →
      StoresReady g at old old target v
  stores_nothing at old target v =
      record {
        stays = λ counts known r above in_target cells is. keeps_same counts known at old
            r.rules r.certifies;
      }

  pub gives_nothing : (at : ℕ) (old : VProc) (target : Target) → GivesReady g at old old target
  gives_nothing at old target =
      record {
        stays = λ counts known r above in_target cells. keeps_same counts known at old
            r.rules r.certifies;
      }

  pub stores_first : (at : ℕ) (old new : VProc) (u v : VarId) (kind : VarKind) (i : VInstr) →
      IsOpen old at → v.0 < length old.vars → u.0 ≢ v.0 → is_constant (kind_of old u.0) ≡ false →
      kind_of old v.0 ≡ kind → i ≡ first_of kind u v → new ≡ with_instr at i old →
      StoresReady g at old new (Var u) v.0
  stores_first at old new u v kind i o named apart varies kind_is i_is is =
      subst (λ (z : VProc). StoresReady g at old z (Var u) v.0)
      (sym (is ∙ ap (λ j. with_instr at j old) i_is)) (record {
        stays = λ counts known r above in_target cells may.
            keeps_put counts known at (first_of kind u v) old o r.rules r.certifies
            (obeys_first old.args old.vars kind u v kind_is (omega (arith, above)) named apart
            (λ n. constant_is (kind_of old u.0) n varies))
            (first_simple kind u v) (first_whole kind u v)
            (λ x e. ap (usable known old at) (first_reads kind u v x e) ∙ may);
      })

  pub stores_memory : (at : ℕ) (old new : VProc) (target : Target) (a : Addr) (v : VarId) →
      target ≡ Memory a → IsOpen old at → v.0 < length old.vars →
      new ≡ with_instr at (Store a v) old → StoresReady g at old new target v.0
  stores_memory at old new target a v target_is o named is =
      subst (λ (t : Target). StoresReady g at old new t v.0) (sym target_is)
      (subst (λ (z : VProc). StoresReady g at old z (Memory a) v.0) (sym is) (record {
        stays = λ counts known r above in_target cells may.
            keeps_put counts known at (Store a v) old o r.rules r.certifies
            (obeys_store old.args old.vars a v named
            (λ x e. omega (arith, in_target_below (Memory a) x e, above))
            (λ k e. r.cells k (cells k e)))
            refl (λ x. refl) (λ x e. ⊎_elim (λ (b : InTarget (Memory a) x). in_target x b)
            (λ (s : x ≡ v.0). ap (usable known old at) s ∙ may) (store_reads a v x e));
      }))

  -- ---- a word of the input

  pub gives_variable : (at : ℕ) (old new : VProc) (target : Target) (u : VarId) → target ≡ Var u →
      IsOpen old at → is_constant (kind_of old u.0) ≡ false → new ≡ with_instr at (Read u) old →
      GivesReady g at old new target
  gives_variable at old new target u target_is o varies is =
      subst (λ (t : Target). GivesReady g at old new t) (sym target_is)
      (subst (λ (z : VProc). GivesReady g at old z (Var u)) (sym is) (record {
        stays = λ counts known r above in_target cells.
            keeps_put counts known at (Read u) old o r.rules r.certifies
            (obeys_read old.args old.vars u (omega (arith, above))
            (λ n. constant_is (kind_of old u.0) n varies)) refl (λ x. refl)
            (λ x e. absurd (cc));
      }))

  module _ (at : ℕ) (old : VProc) (a : Addr) (t : VarId) (o : IsOpen old at)
      (number : t.0 ≡ length old.vars) where
    abbrev mid : VProc
    mid = with_variable Plain old

    abbrev taken : VProc
    taken = with_instr at (Read t) mid

    abbrev put : VProc
    put = with_instr at (Store a t) taken

    mid_open : IsOpen mid at
    mid_open = o

    there : t.0 < length mid.vars
    there = omega (arith, number, declared_count Plain old)

    varies_there : is_constant (kind_of mid t.0) ≡ false
    varies_there = ap is_constant (ap (kind_of mid) number ∙ declared_kind Plain old)

    writes_it : writes (Read t) t.0 ≡ true
    writes_it = grind (arith, nat_tests)

    cell_there : (k : ℕ) → IsCell old k → IsCell mid k
    cell_there k c = (c.0, λ v is. c.1 v ((plain_adds old).params v k is))

    word_given : GivesReady g at old put (Memory a)
    word_given = record {
      stays = λ counts known r above in_target cells.
          let one = keeps_plain counts known at old r.rules r.certifies in
          let two : Keeps counts known at mid taken =
          keeps_put counts known at (Read t) mid mid_open one.rules one.certifies
          (obeys_read mid.args mid.vars t there
          (λ n. constant_is (kind_of mid t.0) n varies_there)) refl (λ x. refl)
          (λ x e. absurd (cc)) in
          let three : Keeps counts known at taken put =
          keeps_put counts known at (Store a t) taken (put_open at (Read t) mid mid_open) two.rules
          two.certifies
          (obeys_store mid.args mid.vars a t there
          (λ x e. omega (
            arith,
            in_target_below (Memory a) x e,
            above,
            declared_count Plain old,
          )) (λ k e. cell_there k (r.cells k (cells k e))))
          refl (λ x. refl)
          (λ x e. ⊎_elim
          (λ (b : InTarget (Memory a) x). two.others x (one.others x (in_target x b)))
          (λ (s : x ≡ t.0). ap (usable known taken at) s ∙ put_written known at
          (Read t) mid mid_open t.0 writes_it)
          (store_reads a t x e)) in
          keeps_on counts known at old taken put (keeps_on counts known at old mid taken one two)
          three;
    }

    word_adds : AddsAtMost 2 1 0 0 old put
    word_adds = adds_on 1 1 0 0 1 0 0 0 old taken put
        (adds_on 0 1 0 0 1 0 0 0 old mid taken (plain_adds old) (put_adds at (Read t) mid mid_open))
        (put_adds at (Store a t) taken (put_open at (Read t) mid mid_open))

  pub word_counts : (at : ℕ) (old new : VProc) (a : Addr) (t : VarId) → IsOpen old at →
      t.0 ≡ length old.vars → new ≡ with_instr at (Store a t)
      (with_instr at (Read t) (with_variable Plain old)) → AddsAtMost 2 1 0 0 old new
  word_counts at old new a t o number is = subst (AddsAtMost 2 1 0 0 old) (sym is)
      (word_adds at old a t o number)

  pub gives_word : (at : ℕ) (old new : VProc) (target : Target) (a : Addr) (t : VarId) →
      target ≡ Memory a → IsOpen old at → t.0 ≡ length old.vars → new ≡ with_instr at (Store a t)
      (with_instr at (Read t) (with_variable Plain old)) → GivesReady g at old new target
  gives_word at old new target a t target_is o number is =
      subst (λ (x : Target). GivesReady g at old new x) (sym target_is)
      (subst (λ (z : VProc). GivesReady g at old z (Memory a)) (sym is)
      (word_given at old a t o number))

  -- ---- statements

  module _ (old mid new : VProc) (from to : ℕ) (low : above_setting g ≤ length old.vars)
      (e : Extends from to old mid) (grows : GrowsAt to mid new) (params : AddsNoParam old mid)
      (more : AddsNoParam mid new) (sound : Bool) where
    all : GrowsAt from old new
    all = grows_at_on old mid new from to e.grows grows e.apart

    pub read_ready : (target : Target) → StaysReady g (length old.vars) old mid from to
        (InTarget target) → ((k : ℕ) → CellOf target k → IsHome g (home.Cell k)) →
        above_target target ≤ length mid.vars → GivesReady g to mid new target →
        KeepsReady g old new from to sound
    read_ready target p cells named q = record {
      stays = λ counts known is good r.
          let c = p.stays counts known r in
          proceeds_put g counts known old mid new from to (InTarget target) low c
          (q.stays counts c.next c.ready named c.answer cells) all grows.grows params more
          e.grows.grows.vars;
    }

    pub write_ready : (v : VarId) → StaysReady g (length old.vars) old mid from to (IsAnswer v.0) →
        v.0 < length mid.vars → new ≡ with_instr to (Write v) mid →
        KeepsReady g old new from to sound
    write_ready v p named is = record {
      stays = λ counts known counts_are good r.
          let c = p.stays counts known r in
          let k : Keeps counts c.next to mid (with_instr to (Write v) mid) =
          keeps_put counts c.next to (Write v) mid e.is_open c.ready.rules c.ready.certifies
          (obeys_write mid.args mid.vars v named) refl (λ x. refl)
          (λ x r. ap (usable c.next mid to) (write_reads v x r) ∙ c.answer v.0 refl) in
          proceeds_put g counts known old mid new from to (IsAnswer v.0) low c
          (subst (λ (z : VProc). Keeps counts c.next to mid z) (sym is) k) all grows.grows
          params more e.grows.grows.vars;
    }

  -- no variable is added: each block may read what it might
  pub line_ready : (old new : VProc) (at : ℕ) (sound : Bool) → IsOpen old at →
      new ≡ with_instr at Line old → KeepsReady g old new at at sound
  line_ready old new at sound o is = subst (λ (z : VProc). KeepsReady g old z at at sound) (sym is)
      (record {
        stays = λ counts known counts_are good r.
            let k = keeps_put counts known at Line old o r.rules r.certifies
            (obeys_line old.args old.vars) refl (λ x. refl) (λ x e. absurd (cc)) in
            record {
              closes = record {
                next = known;
                same = λ b v lt. refl;
                rules = k.rules;
                certifies = k.certifies;
                waiting = λ b lt off x. record {
                  rules = k.rules;
                  certifies = k.certifies;
                  homes = λ v h. ap (λ (y : Block). is_constant (kind_of old v.0) || readable
                      (known b v.0) y.code v.0) ((put_grows at Line old o).others b lt off)
                      ∙ x.homes v h;
                  cells = x.cells;
                };
              };
              ready = record {
                rules = k.rules;
                certifies = k.certifies;
                homes =
                    λ v h. k.others v.0 (r.homes v h);
                cells = r.cells;
              };
            };
      })

  module _ (old one two new : VProc) (from between to : ℕ) (low : above_setting g ≤ length old.vars)
      (e : Extends from between old one) (f : Extends between to one two)
      (grows : GrowsAt to two new) (params1 : AddsNoParam old one) (params2 : AddsNoParam one two)
      (params3 : AddsNoParam two new)
      (target : Target) (t : StaysReady g (length old.vars) old one from between (InTarget target))
      (cells : (k : ℕ) → CellOf target k → IsHome g (home.Cell k))
      (named : above_target target ≤ length one.vars) (v : ℕ)
      (q : StaysReady g (length one.vars) one two between to (IsAnswer v))
      (s : StoresReady g to two new target v) where
    both_extend : Extends from to old two
    both_extend = extends_on from between to old one two e f

    pub assign_ready : (sound : Bool) → KeepsReady g old new from to sound
    assign_ready sound = record {
      stays = λ counts known counts_are good r.
          let c = t.stays counts known r in
          let d = q.stays counts c.next c.ready in
          let both : Continues g counts known (length old.vars) old two from to (IsAnswer v) =
          record {
            next = d.next;
            same = λ b u lt. d.same b u (omega (arith, lt, e.grows.grows.blocks)) ∙ c.same b u lt;
            ready = d.ready;
            answer = d.answer;
            others = λ u lt x. d.others u (omega (arith, lt, e.grows.grows.vars)) (c.others u lt x);
          } in
          proceeds_put g counts known old two new from to (IsAnswer v) low both
          (s.stays counts d.next d.ready (omega (arith, named, f.grows.grows.vars))
          (λ u x. d.others u (omega (arith, in_target_below target u x, named)) (c.answer u x))
          cells (d.answer v refl))
          (grows_at_on old two new from to both_extend.grows grows both_extend.apart) grows.grows
          (λ u k is. params1 u k (params2 u k is)) params3
          (omega (arith, e.grows.grows.vars, f.grows.grows.vars));
    }
