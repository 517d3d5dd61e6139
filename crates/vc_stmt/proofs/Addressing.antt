-- The address of what is lent, in a variable of the code.
use Rattle.std.proofs.Common.{◌≡◌, ℕ, ◌+◌, ◌*◌, ◌^◌, ◌%◌, ◌<◌, length, Some, None, refl, sym, ap}
use Rattle.std.proofs.Common.{◌∙◌, arith}
use Rattle.std.specs.Prelude.{pos}
use Rattle.std.proofs.Math.Nat.{mod-eq_of_lt}
use Rattle.pra_list.specs.Options.{◌>>=◌}
use Rattle.pra_list.proofs.Options.{some_same}
use Rattle.pra_base.specs.Code.{kind_of}
use Rattle.pra_base.specs.Words.{word}
use Rattle.pra_base.specs.declared.ids.VarId.{VarId}
use Rattle.pra_base.specs.declared.code.Addr.{Addr}
use Rattle.pra_base.specs.declared.code.Base.TheVariants.{Via}
use Rattle.pra_base.specs.declared.code.VarKind.TheVariants.{Plain}
use Rattle.pra_base.specs.declared.code.VInstr.{VInstr}
use Rattle.pra_base.specs.declared.code.VInstr.TheVariants as instr
use Rattle.pra_base.specs.declared.code.VProc.{VProc}
use Rattle.vc_code.specs.declared.action.Action.TheVariants.{Give}
use Rattle.vc_code.specs.declared.value.Object.{Object}
use Rattle.vc_code.specs.declared.value.Value.TheVariants.{Num, At}
use Rattle.vc_code.specs.Value.{Held}
use Rattle.vc_code.specs.Machine.{here}
use Rattle.vc_code.specs.Operation as operation
use Rattle.vc_code.specs.Operation.{indexed, base_count, address}
use Rattle.vc_code.specs.Selected.{read, code_of, shape}
use Rattle.vc_build.specs.Grow.{IsOpen, with_instr, with_variable}
use Rattle.vc_build.proofs.Growth.{grows_at_again, grows_at_same, put_open, put_grows}
use Rattle.vc_build.proofs.Growth.{declared_kind, declared_count, declared_grows}
use Rattle.vc_build.proofs.Steps.{same_self, rests, gives}
use Rattle.vc_select.specs.declared.target.Setting.{Setting}
use Rattle.vc_select.specs.declared.target.Target.TheVariants.{Var, Memory}
use Rattle.vc_select.specs.Targets.{held_for}
use Rattle.vc_select.proofs.Placing.{word_bound}
use Rattle.vc_stmt.specs.Passes.{Lends}

-- a variable of the code is never lent
pub lends_variable : (g : Setting) (old : VProc) (at : ℕ) (u : VarId) → IsOpen old at →
    Lends g at old old (Var u) u.0
lends_variable g old at u o = record {
  grows = grows_at_same old at;
  is_open = o;
  means = λ w calls store s l type_id starts named never.
      absurd (never (length calls) u.0 type_id named.place);
}

address_is : (h : Held) (x : Object) (o : ℕ) → address h ≡ Some (x, o) → h ≡ Some (At x o)
address_is None x o e = cc
address_is (Some (Num n)) x o e = cc
address_is (Some (At y k)) x o e = let same : (y, k) ≡ (x, o) = some_same (y, k) (x, o) e in
    ap (λ (z : Object × ℕ). Some (At z.0 z.1)) same

-- the variable of a VAR parameter has the address already
pub lends_itself : (g : Setting) (old : VProc) (at : ℕ) (u : VarId) → IsOpen old at →
    Lends g at old old (Memory (record { base = Via u; offset = pos 0; index = None })) u.0
lends_itself g old at u o = record {
  grows = grows_at_same old at;
  is_open = o;
  means = λ w calls store s l type_id starts named never.
      let begin_is : named.begin ≡ 4 * named.word = begins named.begin named.offset 0 named.index
      named.word refl named.offset_is named.index_is named.sum in
      rests w s _ starts.runs.compared (
        starts.stands,
        same_self (length old.vars) s.top,
        record {
          object = named.object;
          word = named.word;
          place = named.place;
          address =
              ap (λ p. read (kind_of (code_of w.procs p)) s.top.home.held u.0)
              (sym starts.runs.proc)
              ∙ address_is (read (kind_of (code_of w.procs s.top.proc)) s.top.home.held u.0)
              named.object named.begin named.base_is
              ∙ ap (λ n. Some (At named.object n)) begin_is;
        },
      );
}
  where
    begins : (begin offset none index words : ℕ) → none ≡ 0 → pos 0 ≡ pos offset → Some none ≡
        Some index → begin + offset + 4 * index ≡ 4 * words → begin ≡ 4 * words
    begins begin offset none index words is e f sum =
        let at_first : 0 ≡ offset = cc in
        let no_index : none ≡ index = cc in
        omega (arith, is, at_first, no_index, sum)

module _ (g : Setting) (old : VProc) (at : ℕ) (a : Addr) (t : VarId) (o : IsOpen old at)
    (is_new : t.0 ≡ length old.vars) where
  abbrev mid : VProc
  mid = with_variable Plain old

  abbrev i : VInstr
  i = instr.Addr t a

  abbrev made : VProc
  made = with_instr at i mid

  mid_open : IsOpen mid at
  mid_open = o

  declared : t.0 < length made.vars
  declared = omega (arith, is_new, declared_count Plain old)

  plain : kind_of made t.0 ≡ Plain
  plain = ap (kind_of mid) is_new ∙ declared_kind Plain old

  pub lends_address : Lends g at old made (Memory a) t.0
  lends_address = record {
    grows = grows_at_again old mid made at (declared_grows Plain old at)
        (put_grows at i mid mid_open);
    is_open = put_open at i mid mid_open;
    means = λ w calls store s l type_id starts named never.
        let small : 4 * named.word < 2 ^ 32 =
        omega (
          arith,
          word_bound g.program.now w.frames calls starts.set.laid l named.object
              named.word type_id named.place,
        ) in
        let placed_is : operation.placed (here (shape w.procs w.frames) s) a (held_for w s a) ≡
        Some (named.object, 4 * named.word) =
        ap (λ o. o >>= λ z. indexed a.index (held_for w s a) (base_count a.base) >>= λ i. Some
        (z.0, (z.1 + word a.offset + 4 * i) % 2 ^ 32)) named.base_is
        ∙ ap (λ o. o >>= λ i. Some (named.object, (named.begin + word a.offset + 4 * i) % 2 ^ 32))
        named.index_is
        ∙ ap (λ z. Some (named.object, (named.begin + word z + 4 * named.index) % 2 ^ 32))
        named.offset_is
        ∙ ap (λ n. Some (named.object, n % 2 ^ 32)) named.sum
        ∙ ap (λ n. Some (named.object, n)) (mod-eq_of_lt small) in
        let y = gives w g.id.0 at mid s mid_open
        (record { block = starts.stands.block; index = starts.stands.index }) i starts.runs t.0
        (length old.vars) (At named.object (4 * named.word)) refl
        (ap (λ z. z >>= λ p. Some (Give (At p.0 p.1))) placed_is) (omega (arith, is_new))
        (starts.runs.holds.kinds t.0 declared ∙ plain)
        (omega (arith, declared, starts.runs.holds.vars)) in
        record {
          steps = y.steps;
          call = y.call;
          there = y.there;
          good = (
            y.good.stands,
            y.good.same,
            record {
              object = named.object;
              word = named.word;
              place = named.place;
              address =
                  y.good.value;
            },
          );
        };
  }
