-- What other names do to the operands of an instruction, and that they do nothing to its action.
use Rattle.std.proofs.Common.{◌≡◌, ℕ, ◌+◌, ◌*◌, ◌%◌, ◌^◌, true, List, [], ◌∷◌, ◌++◌, map, Option}
use Rattle.std.proofs.Common.{Some, None, refl, sym, ap, ap₂, subst, ◌∙◌}
use Rattle.pra_base.proofs.Roles.{roles_among, among_roles, reads_among, among_reads, writes_among}
use Rattle.pra_base.proofs.Roles.{among_writes}
use Rattle.pra_list.specs.Among.{Among}
use Rattle.pra_list.specs.Options.{◌>>=◌}
use Rattle.pra_list.proofs.Among.{in_map, of_map}
use Rattle.pra_base.specs.declared.ids.VarId.{VarId}
use Rattle.pra_base.specs.declared.code.Base.{Base}
use Rattle.pra_base.specs.declared.code.Base.TheVariants as base
use Rattle.pra_base.specs.declared.code.Addr.{Addr}
use Rattle.pra_base.specs.declared.code.VInstr.{VInstr}
use Rattle.pra_base.specs.declared.code.VInstr.TheVariants as instr
use Rattle.pra_base.specs.Words.{word}
use Rattle.pra_base.specs.Operands.{Role, table, reads, writes, only_writes, read_by, written_by}
use Rattle.pra_base.specs.Operands.{var_of, via, index, role, R, K}
use Rattle.pra_base.specs.Places.{◌∪◌}
use Rattle.vc_code.specs.declared.value.Object.{Object}
use Rattle.vc_code.specs.declared.value.Value.TheVariants.{At}
use Rattle.vc_code.specs.declared.action.Here.{Here}
use Rattle.vc_code.specs.declared.action.Action.TheVariants as action
use Rattle.vc_code.specs.Value.{Held}
use Rattle.vc_code.specs.Operation.{operate, placed, based, indexed, base_count, index_count}
use Rattle.vc_code.specs.Operation.{number_at}
use Rattle.vc_same.specs.Renaming.{Names, var, base_of, index_of, address, renamed}

-- ---- the tests of the table

-- ---- the operands

module _ (to : Names) where
  address_names : (b : Base) (o : Option VarId) (xs ys : List Role) → map var_of ys ≡
      map to (map var_of xs) →
      map var_of ((via (base_of to b) ++ index (index_of to o)) ++ ys) ≡
      map to (map var_of ((via b ++ index o) ++ xs))
  address_names (base.Via v) (Some w) xs ys e = ap (λ (l : List ℕ). to v.0 ∷ to w.0 ∷ l) e
  address_names (base.Via v) None xs ys e = ap (λ (l : List ℕ). to v.0 ∷ l) e
  address_names (base.Global n) (Some w) xs ys e = ap (λ (l : List ℕ). to w.0 ∷ l) e
  address_names (base.Global n) None xs ys e = e
  address_names (base.Frame n) (Some w) xs ys e = ap (λ (l : List ℕ). to w.0 ∷ l) e
  address_names (base.Frame n) None xs ys e = e
  address_names (base.Cell n) (Some w) xs ys e = ap (λ (l : List ℕ). to w.0 ∷ l) e
  address_names (base.Cell n) None xs ys e = e

  alone : (b : Base) (o : Option VarId) → map var_of (via (base_of to b) ++ index (index_of to o)) ≡
      map to (map var_of (via b ++ index o))
  alone (base.Via v) (Some w) = refl
  alone (base.Via v) None = refl
  alone (base.Global n) (Some w) = refl
  alone (base.Global n) None = refl
  alone (base.Frame n) (Some w) = refl
  alone (base.Frame n) None = refl
  alone (base.Cell n) (Some w) = refl
  alone (base.Cell n) None = refl

  pub read_by_renamed : (i : VInstr) → read_by (renamed to i) ≡ map to (read_by i)
  read_by_renamed (instr.Set v n) = refl
  read_by_renamed (instr.Copy v s) = refl
  read_by_renamed (instr.Add v s) = refl
  read_by_renamed (instr.Sub v s) = refl
  read_by_renamed (instr.And v s) = refl
  read_by_renamed (instr.Or v s) = refl
  read_by_renamed (instr.Xor v s) = refl
  read_by_renamed (instr.Mul v s) = refl
  read_by_renamed (instr.Neg v) = refl
  read_by_renamed (instr.Shift op v n) = refl
  read_by_renamed (instr.Cmp a b) = refl
  read_by_renamed (instr.CmpSet c v a b) = refl
  read_by_renamed (instr.DivMod q r a d) = refl
  read_by_renamed (instr.Check v n) = refl
  read_by_renamed (instr.CheckPos v) = refl
  read_by_renamed (instr.Load v a) = alone a.base a.index
  read_by_renamed (instr.Store a s) = address_names a.base a.index (role s (R ∪ K) ∷ [])
      (role (var to s) (R ∪ K) ∷ []) refl
  read_by_renamed (instr.Addr v a) = alone a.base a.index
  read_by_renamed (instr.Push s) = refl
  read_by_renamed (instr.Call p) = refl
  read_by_renamed (instr.Read v) = refl
  read_by_renamed (instr.Write s) = refl
  read_by_renamed instr.Line = refl
  read_by_renamed instr.Clear = refl

  pub written_by_renamed : (i : VInstr) → written_by (renamed to i) ≡ map to (written_by i)
  written_by_renamed (instr.Set v n) = refl
  written_by_renamed (instr.Copy v s) = refl
  written_by_renamed (instr.Add v s) = refl
  written_by_renamed (instr.Sub v s) = refl
  written_by_renamed (instr.And v s) = refl
  written_by_renamed (instr.Or v s) = refl
  written_by_renamed (instr.Xor v s) = refl
  written_by_renamed (instr.Mul v s) = refl
  written_by_renamed (instr.Neg v) = refl
  written_by_renamed (instr.Shift op v n) = refl
  written_by_renamed (instr.Cmp a b) = refl
  written_by_renamed (instr.CmpSet c v a b) = refl
  written_by_renamed (instr.DivMod q r a d) = refl
  written_by_renamed (instr.Check v n) = refl
  written_by_renamed (instr.CheckPos v) = refl
  written_by_renamed (instr.Load v a) = refl
  written_by_renamed (instr.Store a s) = refl
  written_by_renamed (instr.Addr v a) = refl
  written_by_renamed (instr.Push s) = refl
  written_by_renamed (instr.Call p) = refl
  written_by_renamed (instr.Read v) = refl
  written_by_renamed (instr.Write s) = refl
  written_by_renamed instr.Line = refl
  written_by_renamed instr.Clear = refl

  pub only_written_renamed : (i : VInstr) → map var_of (table (renamed to i)).writes ≡
      map to (map var_of (table i).writes)
  only_written_renamed (instr.Set v n) = refl
  only_written_renamed (instr.Copy v s) = refl
  only_written_renamed (instr.Add v s) = refl
  only_written_renamed (instr.Sub v s) = refl
  only_written_renamed (instr.And v s) = refl
  only_written_renamed (instr.Or v s) = refl
  only_written_renamed (instr.Xor v s) = refl
  only_written_renamed (instr.Mul v s) = refl
  only_written_renamed (instr.Neg v) = refl
  only_written_renamed (instr.Shift op v n) = refl
  only_written_renamed (instr.Cmp a b) = refl
  only_written_renamed (instr.CmpSet c v a b) = refl
  only_written_renamed (instr.DivMod q r a d) = refl
  only_written_renamed (instr.Check v n) = refl
  only_written_renamed (instr.CheckPos v) = refl
  only_written_renamed (instr.Load v a) = refl
  only_written_renamed (instr.Store a s) = refl
  only_written_renamed (instr.Addr v a) = refl
  only_written_renamed (instr.Push s) = refl
  only_written_renamed (instr.Call p) = refl
  only_written_renamed (instr.Read v) = refl
  only_written_renamed (instr.Write s) = refl
  only_written_renamed instr.Line = refl
  only_written_renamed instr.Clear = refl

  pub reads_renamed : (i : VInstr) (v : ℕ) → reads i v ≡ true → reads (renamed to i) (to v) ≡ true
  reads_renamed i v e = among_reads (renamed to i) (to v)
      (subst (λ l. Among (to v) l) (sym (read_by_renamed i))
      (in_map to (read_by i) v (reads_among i v e)))

  pub writes_renamed : (i : VInstr) (v : ℕ) → writes i v ≡ true → writes (renamed to i) (to v) ≡
      true
  writes_renamed i v e = among_writes (renamed to i) (to v)
      (subst (λ l. Among (to v) l) (sym (written_by_renamed i))
      (in_map to (written_by i) v (writes_among i v e)))

  -- a variable of the renamed instruction is the new name of one of the instruction
  pub reads_from : (i : VInstr) (w : ℕ) → reads (renamed to i) w ≡ true → (v : ℕ) ×
      (reads i v ≡ true) × (w ≡ to v)
  reads_from i w e = let m =
      of_map to (read_by i) w (subst (λ l. Among w l) (read_by_renamed i)
      (reads_among (renamed to i) w e)) in (m.0, among_reads i m.0 m.1, m.2)

  pub writes_from : (i : VInstr) (w : ℕ) → writes (renamed to i) w ≡ true → (v : ℕ) ×
      (writes i v ≡ true) × (w ≡ to v)
  writes_from i w e = let m =
      of_map to (written_by i) w
      (subst (λ l. Among w l) (written_by_renamed i) (writes_among (renamed to i) w e)) in
      (m.0, among_writes i m.0 m.1, m.2)

  pub only_writes_from : (i : VInstr) (w : ℕ) → only_writes (renamed to i) w ≡ true → (v : ℕ) ×
      (only_writes i v ≡ true) × (w ≡ to v)
  only_writes_from i w e = let m = of_map to (map var_of (table i).writes) w
      (subst (λ l. Among w l) (only_written_renamed i)
      (roles_among (table (renamed to i)).writes w e)) in
      (m.0, among_roles (table i).writes m.0 m.1, m.2)

  -- ---- the action

  module _ (here : Here) (held : List Held) where
    based_same : (b : Base) → based here (base_of to b) held ≡ based here b held
    based_same (base.Via v) = refl
    based_same (base.Global n) = refl
    based_same (base.Frame n) = refl
    based_same (base.Cell n) = refl

    count_same : (b : Base) → base_count (base_of to b) ≡ base_count b
    count_same (base.Via v) = refl
    count_same (base.Global n) = refl
    count_same (base.Frame n) = refl
    count_same (base.Cell n) = refl

    index_same : (o : Option VarId) → index_count (index_of to o) ≡ index_count o
    index_same (Some v) = refl
    index_same None = refl

    indexed_same : (o : Option VarId) (k : ℕ) → indexed (index_of to o) held k ≡ indexed o held k
    indexed_same (Some v) k = refl
    indexed_same None k = refl

    placed_same : (a : Addr) → placed here (address to a) held ≡ placed here a held
    placed_same a =
        ap₂ (λ (s : Option (Object × ℕ)) (i : Option ℕ). s >>=
        (λ start. i >>= (λ n. Some (start.0, (start.1 + word a.offset + 4 * n) % 2 ^ 32))))
        (based_same a.base)
        (indexed_same a.index (base_count (base_of to a.base)) ∙ ap (λ k. indexed a.index held k)
        (count_same a.base))

    pub operate_renamed : (i : VInstr) → operate here (renamed to i) held ≡ operate here i held
    operate_renamed (instr.Set v n) = refl
    operate_renamed (instr.Copy v s) = refl
    operate_renamed (instr.Add v s) = refl
    operate_renamed (instr.Sub v s) = refl
    operate_renamed (instr.And v s) = refl
    operate_renamed (instr.Or v s) = refl
    operate_renamed (instr.Xor v s) = refl
    operate_renamed (instr.Mul v s) = refl
    operate_renamed (instr.Neg v) = refl
    operate_renamed (instr.Shift op v n) = refl
    operate_renamed (instr.Cmp a b) = refl
    operate_renamed (instr.CmpSet c v a b) = refl
    operate_renamed (instr.DivMod q r a d) = refl
    operate_renamed (instr.Check v n) = refl
    operate_renamed (instr.CheckPos v) = refl
    operate_renamed (instr.Load v a) =
        ap (λ (o : Option (Object × ℕ)). o >>= (λ at. Some (action.Load at.0 at.1))) (placed_same a)
    operate_renamed (instr.Store a s) =
        ap₂ (λ (o : Option (Object × ℕ)) (k : ℕ). o >>=
        (λ at. number_at held k >>= (λ n. Some (action.Store at.0 at.1 n)))) (placed_same a)
        (ap₂ (λ x y. x + y) (count_same a.base) (index_same a.index))
    operate_renamed (instr.Addr v a) =
        ap (λ (o : Option (Object × ℕ)). o >>= (λ at. Some (action.Give (At at.0 at.1))))
        (placed_same a)
    operate_renamed (instr.Push s) = refl
    operate_renamed (instr.Call p) = refl
    operate_renamed (instr.Read v) = refl
    operate_renamed (instr.Write s) = refl
    operate_renamed instr.Line = refl
    operate_renamed instr.Clear = refl

-- names that change nothing
same_base : (b : Base) → base_of (λ v. v) b ≡ b
same_base (base.Via v) = refl
same_base (base.Global n) = refl
same_base (base.Frame n) = refl
same_base (base.Cell n) = refl

same_index : (o : Option VarId) → index_of (λ v. v) o ≡ o
same_index (Some v) = refl
same_index None = refl

same_address : (a : Addr) → address (λ v. v) a ≡ a
same_address a = ap₂ (λ (b : Base) (o : Option VarId). record
    { base = b; offset = a.offset; index = o }) (same_base a.base) (same_index a.index)

pub same_names : (i : VInstr) → renamed (λ v. v) i ≡ i
same_names (instr.Set v n) = refl
same_names (instr.Copy v s) = refl
same_names (instr.Add v s) = refl
same_names (instr.Sub v s) = refl
same_names (instr.And v s) = refl
same_names (instr.Or v s) = refl
same_names (instr.Xor v s) = refl
same_names (instr.Mul v s) = refl
same_names (instr.Neg v) = refl
same_names (instr.Shift op v n) = refl
same_names (instr.Cmp a b) = refl
same_names (instr.CmpSet c v a b) = refl
same_names (instr.DivMod q r a d) = refl
same_names (instr.Check v n) = refl
same_names (instr.CheckPos v) = refl
same_names (instr.Load v a) = ap (λ b. instr.Load v b) (same_address a)
same_names (instr.Store a s) = ap (λ b. instr.Store b s) (same_address a)
same_names (instr.Addr v a) = ap (λ b. instr.Addr v b) (same_address a)
same_names (instr.Push s) = refl
same_names (instr.Call p) = refl
same_names (instr.Read v) = refl
same_names (instr.Write s) = refl
same_names instr.Line = refl
same_names instr.Clear = refl
