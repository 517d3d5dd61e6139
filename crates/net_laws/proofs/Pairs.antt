-- What the memory pairs of the network of valid code are: two operands of one instruction, of two
-- variables.
use Rattle.std.proofs.Common.{ℕ, ◌≡◌, ◌≢◌, ◌+◌, ◌*◌, ◌<◌, Bool, true, false, ◌&&◌, cond, eqb, leb}
use Rattle.std.proofs.Common.{List, [], ◌∷◌, length, get_or, map, filter, All, refl, sym, ap, ◌∙◌}
use Rattle.std.proofs.Common.{subst, arith, inl, inr, Option, Some, None, slice_get}
use Rattle.std.specs.Prelude.{IfSome}
use Rattle.std.specs.List.{list_any, range_with_len, filter_map, enumerate_from}
use Rattle.std.proofs.lemmas.Bool.{cases_Bool, and_parts, and_from, eqb-true, eqb-false, eq-eqb}
use Rattle.std.proofs.lemmas.List.Elements.{All-append, All-map, All-filter, All-head, All-tail}
use Rattle.std.proofs.lemmas.List.Elements.{All-weaker}
use Rattle.std.proofs.lemmas.List.FromFn.{get_or-enumerate_from, length-enumerate_from}
use Rattle.std.proofs.lemmas.List.Folds.{list_any_at}
use Rattle.std.proofs.lemmas.Option.{slice_get-get_or}
use Rattle.pra_list.proofs.Comprehensions.{All-filter_map, All-flat_map, All-range}
use Rattle.pra_base.specs.declared.code.VInstr.{VInstr}
use Rattle.pra_base.specs.declared.code.VInstr.TheVariants as instr
use Rattle.pra_base.specs.declared.code.VProc.{VProc}
use Rattle.pra_base.specs.Code.{code_of, instr_at}
use Rattle.pra_base.specs.Operands.{Role, is_role_of, operands}
use Rattle.pra_base.specs.Valid.{IsValid, IsSized}
use Rattle.net_form.specs.declared.net.Strand.{Strand}
use Rattle.net_form.specs.declared.net.MemPair.{MemPair}
use Rattle.net_form.specs.declared.net.Tie.{Tie}
use Rattle.net_form.specs.Tables.{all_tables}
use Rattle.net_form.specs.Strands.{Lives, IsLive, is_present, roles_beside, layer_count, strands}
use Rattle.net_form.specs.Network.{grouped, strand_of, marked, marked_roles, pair_of, pairs}
use Rattle.net_form.specs.Admitted.{no_strand}
use Rattle.net_laws.specs.Homes.{is_there}
use Rattle.net_laws.proofs.Sides.{side}
use Rattle.net_laws.proofs.Rows.{read_roles, written_roles}
use Rattle.net_laws.proofs.Present.{instr_within, read_present, written_present}
use Rattle.net_laws.proofs.Found.{found}

-- every element of an enumeration stands at its number
enumerated : {X : Type 0} (xs : List X) (d : X) → All (λ (x : ℕ × X). slice_get xs x.0 ≡ Some x.1)
    (enumerate_from 0 xs)
enumerated {X} xs d k e lt =
    let same = length-enumerate_from 0 xs in
    let small : k < length xs = omega (arith, same, lt) in
    subst (λ (x : ℕ × X). slice_get xs x.0 ≡ Some x.1) (sym (get_or-enumerate_from 0 xs k e small))
    (subst (λ n. slice_get xs n ≡ Some (get_or xs k e.1)) (let z : k ≡ 0 + k = omega arith in z)
    (slice_get-get_or xs k e.1 small))

-- variable v has a role of the instruction k at layer l
pub record IsOperand (k : ℕ) (i : VInstr) (v l : ℕ) : Type 0 where
  pub before : Bool
  pub layer : l ≡ side k before
  pub role : list_any (is_role_of v) (roles_beside before operands (Some i)) ≡ true

marked_operands : (k : ℕ) (i : VInstr) → All (λ (x : ℕ × ℕ). IsOperand k i x.0 x.1)
    (marked k (operands i))
marked_operands k i = All-append P (marked_roles (2 * k + 1) (operands i).reads)
    (marked_roles (2 * k + 2) (operands i).writes) (of true) (of false)
  where
    P : ℕ × ℕ → Type 0
    P x = IsOperand k i x.0 x.1

    of : (b : Bool) → All P (marked_roles (side k b) (roles_beside b operands (Some i)))
    of b = All-map P (λ (r : Role). (r.var, side k b))
        (filter (λ (r : Role). r.memory) (roles_beside b operands (Some i)))
        (All-filter (λ (r : Role). r.memory) (λ (r : Role). P (r.var, side k b))
        (roles_beside b operands (Some i))
        (λ j d lt. record {
          before = b;
          layer = refl;
          role = let r : Role = get_or (roles_beside b operands (Some i)) j d in
              list_any_at (is_role_of r.var) (roles_beside b operands (Some i)) j d lt
              (eq-eqb r.var r.var refl);
        }))

module _ (code : VProc) (live : Lives) (is_live : IsLive code live) (valid : IsValid code)
    (sized : IsSized code) (ts : List Tie) (least : ℕ → ℕ) where
  abbrev pub all : List Strand
  all = map (grouped ts least) (enumerate_from 0 (strands all_tables code live))

  abbrev pub at : ℕ → Strand
  at s = get_or all s no_strand

  -- strand s is there at layer l, for the variable
  pub record IsStrandFor (b s l v : ℕ) : Type 0 where
    pub within : s < length all
    pub var : (at s).var.0 ≡ v
    pub block : (at s).block.0 ≡ b
    pub there : is_there (at s) l ≡ true

  pub record IsPair (m : MemPair) : Type 0 where
    pub block : ℕ
    pub index : ℕ
    pub instr : VInstr
    pub in_code : block < length code.blocks
    pub is : instr_at code block index ≡ Some instr
    pub left_var : ℕ
    pub right_var : ℕ
    pub apart : left_var ≢ right_var
    pub left : IsOperand index instr left_var m.left_layer
    pub right : IsOperand index instr right_var m.right_layer
    pub left_strand : IsStrandFor block m.left m.left_layer left_var
    pub right_strand : IsStrandFor block m.right m.right_layer right_var
    pub made : pair_of (strands all_tables code live) block (marked index (operands instr)) ≡ Some m

  -- a pair of instruction k of block b
  pub record IsPairAt (b k : ℕ) (m : MemPair) : Type 0 where
    pub pair : IsPair m
    pub in_block : pair.block ≡ b
    pub at_index : pair.index ≡ k

  -- the pair of one instruction
  abbrev pub pair_at : ℕ → ℕ × VInstr → Option MemPair
  pair_at b i = pair_of (strands all_tables code live) b (marked i.0 (operands i.1))

  module _ (b k : ℕ) (in_code : b < length code.blocks) (i : VInstr)
      (is : instr_at code b k ≡ Some i) where
    pub names : (v : ℕ) (before : Bool) →
        list_any (is_role_of v) (roles_beside before operands (Some i)) ≡ true →
        v < length code.vars
    names v true role = sized.variables_in_range b k i is v (inl (sym (read_roles v i) ∙ role))
    names v false role = sized.variables_in_range b k i is v (inr (sym (written_roles v i) ∙ role))

    pub role_present : (v : ℕ) (before : Bool) →
        list_any (is_role_of v) (roles_beside before operands (Some i)) ≡ true →
        is_present all_tables code live v b (side k before) ≡ true
    role_present v true role = read_present code live is_live valid v b k i is (names v true role)
        in_code (sym (read_roles v i) ∙ role)
    role_present v false role = written_present code live is_live valid v b k i is
        (sym (written_roles v i) ∙ role)

    side_small : (before : Bool) → side k before < layer_count code b
    side_small true = let lt = instr_within code b k i is in omega (arith, lt)
    side_small false = let lt = instr_within code b k i is in omega (arith, lt)

    strand_for : (v l : ℕ) → IsOperand k i v l →
        IsStrandFor b (strand_of (strands all_tables code live) v b l) l v
    strand_for v l op = subst (λ l. IsStrandFor b (strand_of (strands all_tables code live) v b l) l
        v) (sym op.layer)
        (let l = side k op.before in
        let s = strand_of (strands all_tables code live) v b l in
        let f = found code live v b l (names v op.before op.role) in_code (side_small op.before)
        (role_present v op.before op.role) ts least in
        let t = at s in
        let last = and_parts (eqb t.var.0 v && eqb t.block.0 b && leb t.first l) (leb l t.last)
        f.1 in
        let first = and_parts (eqb t.var.0 v && eqb t.block.0 b) (leb t.first l) last.0 in
        let names = and_parts (eqb t.var.0 v) (eqb t.block.0 b) first.0 in
        record {
          within = f.0;
          var = eqb-true t.var.0 v names.0;
          block = eqb-true t.block.0 b names.1;
          there = and_from (leb t.first l) (leb l t.last) first.1 last.1;
        })

    pub pair_is : (ms : List (ℕ × ℕ)) → ms ≡ marked k (operands i) →
        All (λ (x : ℕ × ℕ). IsOperand k i x.0 x.1) ms →
        IfSome (pair_of (strands all_tables code live) b ms) (IsPairAt b k)
    pair_is [] same ops = tt
    pair_is (x ∷ []) same ops = tt
    pair_is (x ∷ y ∷ more) same ops =
        elim (cases_Bool (eqb x.0 y.0))
        as (λ _. IfSome (pair_of (strands all_tables code live) b (x ∷ y ∷ more)) (IsPairAt b k)) [
          | inl one_var ↦ subst (λ t. IfSome (cond t None (Some pair)) (IsPairAt b k)) (sym one_var)
              tt
          | inr other ↦ subst (λ t. IfSome (cond t None (Some pair)) (IsPairAt b k)) (sym other)
              (record {
                in_block = refl;
                at_index = refl;
                pair = record {
                  block = b;
                  index = k;
                  instr = i;
                  in_code = in_code;
                  is = is;
                  left_var = x.0;
                  right_var = y.0;
                  apart = eqb-false x.0 y.0 other;
                  left = one;
                  right = two;
                  left_strand = strand_for x.0 x.1 one;
                  right_strand = strand_for y.0 y.1 two;
                  made = sym (ap (pair_of (strands all_tables code live) b) same)
                      ∙ ap (λ t. cond t None (Some pair)) other;
                };
              })
        ]
      where
        P : ℕ × ℕ → Type 0
        P z = IsOperand k i z.0 z.1

        one : IsOperand k i x.0 x.1
        one = All-head P x (y ∷ more) ops

        two : IsOperand k i y.0 y.1
        two = All-head P y more (All-tail P x (y ∷ more) ops)

        pair : MemPair
        pair = record {
          left = strand_of (strands all_tables code live) x.0 b x.1;
          left_layer = x.1;
          right = strand_of (strands all_tables code live) y.0 b y.1;
          right_layer = y.1;
        }

  -- the pairs of a block
  pub pairs_of : (b : ℕ) → b < length code.blocks
      → All (λ (i : ℕ × VInstr). IfSome (pair_at b i) (IsPairAt b i.0))
      (enumerate_from 0 (code_of code b))
  pairs_of b b_lt = All-weaker (λ (i : ℕ × VInstr). instr_at code b i.0 ≡ Some i.1)
      (λ (i : ℕ × VInstr). IfSome (pair_at b i) (IsPairAt b i.0))
      (λ i is. pair_is b i.0 b_lt i.1 is (marked i.0 (operands i.1)) refl (marked_operands i.0 i.1))
      (enumerate_from 0 (code_of code b)) (enumerated (code_of code b) instr.Line)

  pub all_pairs : All IsPair (pairs all_tables code (strands all_tables code live))
  all_pairs =
      All-flat_map IsPair (λ b. filter_map (pair_at b) (enumerate_from 0 (code_of code b)))
      (range_with_len 0 (length code.blocks))
      (All-range (λ b. All IsPair (filter_map (pair_at b) (enumerate_from 0 (code_of code b)))) 0
      (length code.blocks) (λ b _ b_lt.
      All-filter_map IsPair (pair_at b) (enumerate_from 0 (code_of code b))
      (All-weaker (λ (i : ℕ × VInstr). IfSome (pair_at b i) (IsPairAt b i.0))
      (λ (i : ℕ × VInstr). IfSome (pair_at b i) IsPair)
      (λ i is. IfSome-weaker (IsPairAt b i.0) IsPair (λ m at. at.pair) (pair_at b i) is)
      (enumerate_from 0 (code_of code b)) (pairs_of b (omega (arith, b_lt))))))
    where
      IfSome-weaker : {X : Type 0} (P Q : X → Type 0) → ((x : X) → P x → Q x) → (o : Option X) →
          IfSome o P → IfSome o Q
      IfSome-weaker P Q gives None is = tt
      IfSome-weaker P Q gives (Some x) is = gives x is
