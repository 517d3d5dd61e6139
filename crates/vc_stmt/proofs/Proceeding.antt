-- Code that is ready for more, statement after statement, and what is put at the end of a block.
use Rattle.std.proofs.Common.{◌≡◌, ℕ, ◌<◌, ◌≤◌, Bool, true, false, List, length, refl, arith}
use Rattle.pra_base.specs.Operands.{reads}
use Rattle.pra_base.specs.declared.code.VarKind.TheVariants.{Plain}
use Rattle.pra_base.specs.declared.code.VInstr.{VInstr}
use Rattle.pra_base.specs.declared.code.VProc.{VProc}
use Rattle.vc_build.specs.Grow.{count, IsOpen, with_instr, with_variable, Grows, GrowsAt}
use Rattle.vc_expr.specs.Readable.{divides, Entries, usable, Certifies}
use Rattle.vc_expr.specs.Rules.{Obeys, is_simple, KeepsRules}
use Rattle.vc_expr.proofs.Added.{no_param}
use Rattle.vc_expr.proofs.Certificates.{put_kept, put_certifies, declare_certifies, declare_usable}
use Rattle.vc_expr.proofs.Rules.{put_rules, declare_rules}
use Rattle.vc_select.specs.declared.target.Setting.{Setting}
use Rattle.vc_select.specs.Selects.{Extends}
use Rattle.vc_select.specs.Targets.{above_setting}
use Rattle.vc_select.specs.Certified.{AddsNoParam, IsReady, Continues, Closes}
use Rattle.vc_select.proofs.Ready.{ready_on}
use Rattle.vc_select.proofs.ReadyTests.{waits}
use Rattle.vc_stmt.specs.Ready.{Proceeds, KeepsReady, KeepsReadyBeside, Keeps}
use Rattle.vc_stmt.proofs.Entering.{reads_on, closes_on}

-- ---- statements one after the other

pub keeps_as : (g : Setting) (old new : VProc) (from to : ℕ) (one other : Bool) →
    (other ≡ true → one ≡ true) → KeepsReady g old new from to one →
    KeepsReady g old new from to other
keeps_as g old new from to one other goods p =
    record { stays = λ counts known is good r. p.stays counts known is (goods good) r }

abbrev closes_nothing : (g : Setting) (counts : List ℕ) (known : Entries) (old : VProc) (at : ℕ) →
    IsReady g counts known old at → Closes g counts known old old at
closes_nothing g counts known old at r =
    record {
      next = known;
      same = λ b v lt. refl;
      rules = r.rules;
      certifies = r.certifies;
      waiting = λ b lt off x. x;
    }

proceeds_nothing : (g : Setting) (counts : List ℕ) (known : Entries) (old : VProc) (at : ℕ) →
    IsReady g counts known old at → Proceeds g counts known old old at at
proceeds_nothing g counts known old at r =
    record { closes = closes_nothing g counts known old at r; ready = r }

pub keeps_nothing : (g : Setting) (old : VProc) (at : ℕ) (sound : Bool) →
    KeepsReady g old old at at sound
keeps_nothing g old at sound =
    record { stays = λ counts known is good r. proceeds_nothing g counts known old at r }

pub beside_nothing : (g : Setting) (old : VProc) (at behind : ℕ) (sound : Bool) →
    KeepsReadyBeside g old old at at behind sound
beside_nothing g old at behind sound =
    record { stays = λ counts known is good r reads. proceeds_nothing g counts known old at r }

module _ (g : Setting) (old mid new : VProc) (from between to : ℕ)
    (e : Extends from between old mid) where
  pub proceeds_on : (counts : List ℕ) (known : Entries)
      (p : Proceeds g counts known old mid from between) →
      Proceeds g counts p.closes.next mid new between to → Proceeds g counts known old new from to
  proceeds_on counts known p q =
      record {
        closes = closes_on g counts known old mid new from between p.closes q.closes e.apart
            e.grows.grows.blocks;
        ready = q.ready;
      }

  pub keeps_then : (one two both : Bool) → (both ≡ true → (one ≡ true) × (two ≡ true)) →
      KeepsReady g old mid from between one → KeepsReady g mid new between to two →
      KeepsReady g old new from to both
  keeps_then one two both goods p q = record {
    stays = λ counts known is good r.
        let first = p.stays counts known is (goods good).0 r in
        proceeds_on counts known first
        (q.stays counts first.closes.next is (goods good).1 first.ready);
  }

  pub beside_then : (behind : ℕ) (one two both : Bool) → behind < count old →
      (both ≡ true → (one ≡ true) × (two ≡ true)) → KeepsReadyBeside g old mid from between behind
      one → KeepsReadyBeside g mid new between to behind two →
      KeepsReadyBeside g old new from to behind both
  beside_then behind one two both there goods p q = record {
    stays = λ counts known is good r reads.
        let first = p.stays counts known is (goods good).0 r reads in
        proceeds_on counts known first
        (q.stays counts first.closes.next is (goods good).1 first.ready
        (reads_on g known first.closes.next old behind first.closes.same there reads));
  }

-- ---- what is put at the end of a block

module _ (counts : List ℕ) (known : Entries) (at : ℕ) where
  pub keeps_same : (old : VProc) → KeepsRules counts old → Certifies known old →
      Keeps counts known at old old
  keeps_same old k c = record { rules = k; certifies = c; others = λ v is. is }

  pub keeps_on : (a b c : VProc) → Keeps counts known at a b → Keeps counts known at b c →
      Keeps counts known at a c
  keeps_on a b c p q = record {
    rules = q.rules;
    certifies = q.certifies;
    others =
        λ v is. q.others v (p.others v is);
  }

  pub keeps_put : (i : VInstr) (old : VProc) → IsOpen old at → KeepsRules counts old →
      Certifies known old → Obeys old.args old.vars i → is_simple i ≡ true →
      ((v : ℕ) → divides i v ≡ false) →
      ((v : ℕ) → reads i v ≡ true → usable known old at v ≡ true) →
      Keeps counts known at old (with_instr at i old)
  keeps_put i old o k c obeys simple whole may = record {
    rules = put_rules counts at i old o k obeys simple;
    certifies = put_certifies known at i old o c may;
    others = λ v is. put_kept known at i old o v (whole v) is;
  }

  pub keeps_plain : (old : VProc) → KeepsRules counts old → Certifies known old →
      Keeps counts known at old (with_variable Plain old)
  keeps_plain old k c = record {
    rules = declare_rules counts Plain old no_param k;
    certifies =
        declare_certifies known Plain old c;
    others = λ v is. declare_usable known Plain old at v is;
  }

-- behind code that leads on, and over its certificate
module _ (g : Setting) (counts : List ℕ) (known : Entries) (old mid new : VProc) (from to : ℕ)
    (A : ℕ → Type 0) (low : above_setting g ≤ length old.vars)
    (c : Continues g counts known (length old.vars) old mid from to A)
    (k : Keeps counts c.next to mid new)
    (all : GrowsAt from old new) (grows : Grows mid new) (first_params : AddsNoParam old mid)
    (params : AddsNoParam mid new) where
  pub proceeds_put : length old.vars ≤ length mid.vars → Proceeds g counts known old new from to
  proceeds_put vars = record {
    closes = record {
      next = c.next;
      same = c.same;
      rules = k.rules;
      certifies = k.certifies;
      waiting = waits g counts known c.next old new from low c.same all
          (λ v n is. first_params v n (params v n is)) k.rules k.certifies;
    };
    ready = ready_on g counts c.next c.next (length mid.vars) mid new to to
        (omega (arith, low, vars)) grows.args params c.ready k.rules k.certifies
        (λ v lt is. k.others v is);
  }
