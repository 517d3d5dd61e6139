-- Of the operands of a memory pair one at most is in memory.
use Rattle.std.proofs.Common.{◌≡◌, ℕ, zero, suc, ◌+◌, ◌≤◌, ◌<◌, inl, inr, Bool, true, false, ◌&&◌}
use Rattle.std.proofs.Common.{◌||◌, nat_eq, nat_le, nat_lt, cond, if◌then◌else◌, List, [], ◌∷◌}
use Rattle.std.proofs.Common.{◌++◌, length, map, slice_get, Some, None, refl, sym, ap, ap₂, subst}
use Rattle.std.proofs.Common.{◌∙◌, arith, count_by}
use Rattle.std.specs.List.{filter_map, range_with_len, enumerate_from}
use Rattle.std.proofs.lemmas.Bool.Decides.{nat_tests}
use Rattle.std.proofs.lemmas.List.Sums.{sum_by-append}
use Rattle.pra_list.proofs.Truths.{false_from, nat_is}
use Rattle.pra_list.specs.Among.{Among}
use Rattle.pra_list.proofs.Options.{some_same}
use Rattle.pra_list.proofs.Counts.{bit, count-cons}
use Rattle.pra_base.specs.declared.code.VInstr.{VInstr}
use Rattle.pra_base.specs.declared.code.VProc.{VProc}
use Rattle.pra_base.specs.Code.{code_of, instr_at}
use Rattle.pra_base.specs.Places.{number, allows, is_mem}
use Rattle.pra_base.specs.Operands.{Role, Line, table, operands, is_star_of, mask_of, but_memory}
use Rattle.pra_base.specs.Operands.{common, all_roles, settled, rewritten}
use Rattle.net_form.specs.declared.net.Strand.{Strand}
use Rattle.net_form.specs.declared.net.MemPair.{MemPair}
use Rattle.net_form.specs.declared.net.Tie.{Tie}
use Rattle.net_form.specs.declared.net.Net.{Net}
use Rattle.net_form.specs.declared.routes.Routes.{Routes}
use Rattle.net_form.specs.Tables.{all_tables}
use Rattle.net_form.specs.Strands.{Lives, strands}
use Rattle.net_form.specs.Network.{grouped, ties, stands_for, strand_of, marked, pair_of, IsNet}
use Rattle.net_form.specs.Flow.{Edge, is_at, flow, AreRoutes}
use Rattle.net_form.specs.Admitted.{strand_at, uses_memory, IsAdmitted}
use Rattle.pl_place.specs.Valid.{roles}
use Rattle.pra_list.proofs.Among.{in_all, in_flat, in_filter_map, in_range, one_passes}
use Rattle.pl_routed.proofs.Edges.{path_after}
use Rattle.pl_routed.proofs.Strands.{Covers, one_strand}
use Rattle.pl_routed.proofs.Present.{live as live_of, its_strand, in_the_flow}
use Rattle.pl_routed.proofs.Masks.{both_allow}
use Rattle.pl_routed.proofs.Transferred.{At}
use Rattle.pl_made.proofs.Marked.{prefix_is}

same_nat : (a c : ℕ) → a ≡ c → nat_eq a c ≡ true
same_nat a c e = grind (arith, nat_tests)

-- ---- two marked roles of one variable

count_append : (p : Role → Bool) (xs ys : List Role) → count_by p (xs ++ ys) ≡
    count_by p xs + count_by p ys
count_append p xs ys = sum_by-append (λ x. cond (p x) 1 0) xs ys

count_settled : (l : Line) (v : ℕ) (rs : List Role) → count_by (is_star_of v) (map (settled l) rs) ≡
    count_by (is_star_of v) rs
count_settled l v [] = refl
count_settled l v (x ∷ rs) =
    let a = count-cons (is_star_of v) (settled l x) (map (settled l) rs) in
    let c = count-cons (is_star_of v) x rs in
    let ih = count_settled l v rs in
    omega (arith, a, c, ih)

star_none : (v w : ℕ) → (nat_eq w v && false) ≡ false
star_none v w = by (nat_eq w v)
  where
    by : (b : Bool) → (b && false) ≡ false
    by true = refl
    by false = refl

count_rewritten : (l : Line) (v : ℕ) (ws : List ℕ) →
    count_by (is_star_of v) (map (rewritten l) ws) ≡ 0
count_rewritten l v [] = refl
count_rewritten l v (w ∷ ws) =
    let a = count-cons (is_star_of v) (rewritten l w) (map (rewritten l) ws) in
    let none = ap bit (star_none v w) in
    let ih = count_rewritten l v ws in
    omega (arith, a, none, ih)

pub stars : (i : VInstr) (v : ℕ) → count_by (is_star_of v) (roles i) ≡ count_by (is_star_of v)
    ((table i).reads ++ (table i).writes)
stars i v =
    let l = table i in
    let a = count_append (is_star_of v) (map (settled l) l.reads)
    (map (rewritten l) l.in_place ++ map (settled l) l.writes) in
    let c = count_append (is_star_of v) (map (rewritten l) l.in_place) (map (settled l) l.writes) in
    let d = count_settled l v l.reads in
    let e = count_settled l v l.writes in
    let f = count_rewritten l v l.in_place in
    let g = count_append (is_star_of v) l.reads l.writes in
    omega (arith, a, c, d, e, f, g)

pub no_memory : (i : VInstr) (v : ℕ) → 1 < count_by (is_star_of v)
    ((table i).reads ++ (table i).writes) → allows (mask_of (table i) v) 6 ≡ true → ⊥
no_memory i v lt e =
    let yes : nat_lt 1 (count_by (is_star_of v) ((table i).reads ++ (table i).writes)) ≡ true =
    grind (arith, nat_tests) in
    let m = common (all_roles (table i)) v in
    let ok : allows (but_memory m) 6 ≡ true = ap (λ t. allows (if t then but_memory m else m) 6)
    (sym yes) ∙ e in
    refused (both_allow m _ 6 ok).1
  where
    refused : false ≡ true → ⊥
    refused e = cc

-- the mask of a marked role
mask_settled : (l : Line) (rs : List Role) (n : ℕ) (x : Role) → slice_get (map (settled l) rs) n ≡
    Some x → x.mask ≡ mask_of l x.var
mask_settled l [] n x e = cc
mask_settled l (y ∷ rs) zero x e = subst (λ (z : Role). z.mask ≡ mask_of l z.var)
    (some_same (settled l y) x e) refl
mask_settled l (y ∷ rs) (suc n) x e = mask_settled l rs n x e

mask_written : (l : Line) (ws : List ℕ) (rs : List Role) (n : ℕ) (x : Role) →
    slice_get (map (rewritten l) ws ++ map (settled l) rs) n ≡ Some x → x.mask ≡ mask_of l x.var
mask_written l [] rs n x e = mask_settled l rs n x e
mask_written l (w ∷ ws) rs zero x e = subst (λ (z : Role). z.mask ≡ mask_of l z.var)
    (some_same (rewritten l w) x e) refl
mask_written l (w ∷ ws) rs (suc n) x e = mask_written l ws rs n x e

pub mask_either : (l : Line) (rs : List Role) (ws : List ℕ) (qs : List Role) (n : ℕ) (x : Role) →
    slice_get (map (settled l) rs ++ (map (rewritten l) ws ++ map (settled l) qs)) n ≡ Some x →
    x.mask ≡ mask_of l x.var
mask_either l [] ws qs n x e = mask_written l ws qs n x e
mask_either l (y ∷ rs) ws qs zero x e = subst (λ (z : Role). z.mask ≡ mask_of l z.var)
    (some_same (settled l y) x e) refl
mask_either l (y ∷ rs) ws qs (suc n) x e = mask_either l rs ws qs n x e

-- ---- the network's pair

in_enumerate : (n : ℕ) (xs : List VInstr) (k : ℕ) (t : VInstr) → slice_get xs k ≡ Some t →
    Among (n + k, t) (enumerate_from n xs)
in_enumerate n [] k t e = cc
in_enumerate n (x ∷ xs) zero t e =
    let same : x ≡ t = some_same x t e in
    let zero_more : n + 0 ≡ n = omega arith in
    inl (ap₂ (λ (m : ℕ) (y : VInstr). (m, y)) zero_more (sym same))
in_enumerate n (x ∷ xs) (suc k) t e =
    let more : n + 1 + k ≡ n + suc k = omega arith in
    inr (subst (λ m. Among (m, t) (enumerate_from (n + 1) xs)) more (in_enumerate (n + 1) xs k t e))

in_numbers : (xs : List VInstr) (k : ℕ) (t : VInstr) → slice_get xs k ≡ Some t →
    Among (k, t) (enumerate_from 0 xs)
in_numbers xs k t e = let same : 0 + k ≡ k = omega arith in
    subst (λ m. Among (m, t) (enumerate_from 0 xs)) same (in_enumerate 0 xs k t e)

record Plain (u t : Strand) : Type 0 where
  var : u.var ≡ t.var
  block : u.block ≡ t.block
  first : u.first ≡ t.first
  last : u.last ≡ t.last

of_numbered : (ts : List Tie) (least : ℕ → ℕ) (n : ℕ) (ss : List Strand) (i : ℕ) (u : Strand) →
    slice_get (map (grouped ts least) (enumerate_from n ss)) i ≡ Some u → (t : Strand) ×
    (slice_get ss i ≡ Some t) × Plain u t
of_numbered ts least n [] i u e = cc
of_numbered ts least n (t ∷ ss) zero u e =
    let same : grouped ts least (n, t) ≡ u = some_same (grouped ts least (n, t)) u e in (
      t,
      refl,
      subst (λ x. Plain x t) same
          (record { var = refl; block = refl; first = refl; last = refl }),
    )
of_numbered ts least n (t ∷ ss) (suc i) u e = of_numbered ts least (n + 1) ss i u e

module _ (code : VProc) (net : Net) (routes : Routes) (is : IsNet net code)
    (has : AreRoutes net routes) (admitted : IsAdmitted net (flow net routes)) (b k : ℕ)
    (i : VInstr) (here : instr_at code b k ≡ Some i) (b_in : b < length code.blocks) where
  abbrev EdgeIs : ℕ → ℕ → Edge → Type 0
  EdgeIs l v e = At code net is routes has admitted b l v e

  abbrev live : Lives
  live = live_of all_tables code net is

  abbrev ss : List Strand
  ss = strands all_tables code live

  -- ---- the number of a strand

  four : (a c d e : Bool) → a ≡ true → c ≡ true → d ≡ true → e ≡ true → (a && c && d && e) ≡ true
  four a c d e f g h j = rw (f, g, h, j) refl

  of_four : (a c d e : Bool) → (a && c && d && e) ≡ true → (a ≡ true) × (c ≡ true) × (d ≡ true) ×
      (e ≡ true)
  of_four true true true true e = (refl, refl, refl, refl)
  of_four true true true false e = cc
  of_four true true false e f = cc
  of_four true false d e f = cc
  of_four false c d e f = cc

  le_is : (a c : ℕ) → a ≤ c → nat_le a c ≡ true
  le_is a c e = grind (arith, nat_tests)

  is_le : (a c : ℕ) → nat_le a c ≡ true → a ≤ c
  is_le a c e = grind (arith, nat_tests)

  strand_number : (l v : ℕ) (e : Edge) → (at : EdgeIs l v e) → strand_of ss v b l ≡ at.route.number
  strand_number l v e at =
      let t = of_numbered (ties code ss) is.least 0 ss at.route.number at.route.strand
      (sym (ap (λ (n : Net). slice_get n.strands at.route.number) is.is) ∙ at.route.is_strand)
      in
      let first = t.2.first in
      let last = t.2.last in
      let after = at.covers.after in
      let before = at.covers.before in
      let covers : Covers all_tables code live t.0 v b l =
      record {
        var = ap (λ (x : _). x.0) (sym t.2.var) ∙ at.covers.var;
        block =
            ap (λ (x : _). x.0) (sym t.2.block) ∙ at.covers.block;
        after =
            omega (arith, first, after);
        before = omega (arith, last, before);
      } in
      let stands : stands_for v b l t.0 ≡ true = four (nat_eq t.0.var.0 v) (nat_eq t.0.block.0 b)
      (nat_le t.0.first l) (nat_le l t.0.last) (same_nat _ v covers.var)
      (same_nat _ b covers.block) (le_is _ l covers.after) (le_is l _ covers.before) in
      prefix_is (stands_for v b l) ss at.route.number t.0 t.1 stands
      (λ m y f u.
      let x = of_four (nat_eq y.var.0 v) (nat_eq y.block.0 b) (nat_le y.first l) (nat_le l y.last)
      u in
      one_strand all_tables code live m at.route.number y t.0 f t.1 v b l
      (record {
        var = nat_is _ v x.0;
        block = nat_is _ b x.1;
        after = is_le _ l x.2;
        before =
            is_le l _ x.3;
      }) covers)

  -- ---- the pair of two marked roles

  abbrev pair : ℕ × ℕ → ℕ × ℕ → MemPair
  pair x y = record {
    left = strand_of ss x.0 b x.1;
    left_layer = x.1;
    right =
        strand_of ss y.0 b y.1;
    right_layer = y.1;
  }

  pair_there : (x y : ℕ × ℕ) → marked k (operands i) ≡ x ∷ y ∷ [] → (x.0 ≡ y.0 → ⊥) →
      Among (pair x y) net.pairs
  pair_there x y e ne =
      let other : nat_eq x.0 y.0 ≡ false = false_from (nat_eq x.0 y.0)
      (λ t. ne (nat_is x.0 y.0 t)) in
      let made : pair_of ss b (marked k (operands i)) ≡ Some (pair x y) = ap (pair_of ss b) e
      ∙ ap (λ t. if t then None else Some (pair x y)) other in
      subst (Among (pair x y)) (sym (ap (λ (n : Net). n.pairs) is.is))
      (in_flat (λ c. filter_map (λ (j : ℕ × VInstr). pair_of ss c (marked j.0 (operands j.1)))
      (enumerate_from 0 (code_of code c))) (range_with_len 0 (length code.blocks)) b (pair x y)
      (in_range 0 (length code.blocks) b (omega arith) (omega (arith, b_in)))
      (in_filter_map (λ (j : ℕ × VInstr). pair_of ss b (marked j.0 (operands j.1)))
      (enumerate_from 0 (code_of code b)) (k, i) (pair x y)
      (in_numbers (code_of code b) k i here) made))

  its_number : (l v : ℕ) (e : Edge) → (at : EdgeIs l v e) → e.strand ≡ at.route.number
  its_number l v e at = let a =
      (path_after (0 + at.route.number) at.route.strand.first None at.route.path e
      at.route.in_path).0 in omega (arith, a)

  its_var : (l m v w : ℕ) (e d : Edge) → EdgeIs l v e → EdgeIs m w d → e ≡ d → v ≡ w
  its_var l m v w e d a c same =
      sym a.covers.var ∙ sym (ap (λ (t : Strand). t.var.0)
      (its_strand all_tables code net is routes has admitted e a.route))
      ∙ ap (λ (x : Edge). (strand_at net x.strand).var.0) same ∙ ap (λ (t : Strand). t.var.0)
      (its_strand all_tables code net is routes has admitted d c.route) ∙ c.covers.var

  at_true : (l v : ℕ) (e : Edge) → (at : EdgeIs l v e) → is_at (strand_of ss v b l) l e ≡ true
  at_true l v e at =
      let a : nat_eq e.strand (strand_of ss v b l) ≡ true =
      same_nat _ _ (its_number l v e at ∙ sym (strand_number l v e at)) in
      let c : nat_eq e.layer l ≡ true = same_nat _ _ at.layer in
      rw (a, c) refl

  left_true : (a c d : Bool) → a ≡ true → d ≡ true → ((a || c) && d) ≡ true
  left_true true c d e f = f
  left_true false c d e f = cc

  right_true : (a c d : Bool) → c ≡ true → d ≡ true → ((a || c) && d) ≡ true
  right_true true c d e f = f
  right_true false c d e f = rw (e, f) refl

  -- not both in memory
  pub not_both : (x y : ℕ × ℕ) (e d : Edge) → marked k (operands i) ≡ x ∷ y ∷ [] → (x.0 ≡ y.0 → ⊥) →
      EdgeIs x.1 x.0 e → EdgeIs y.1 y.0 d → is_mem (number e.to) ≡ true → is_mem (number d.to) ≡
      true → ⊥
  not_both x y e d m ne at to f g =
      let one = in_all (λ z. count_by (uses_memory z) (flow net routes) ≤ 1) net.pairs
      admitted.pairs (pair x y) (pair_there x y m ne) in
      let a : uses_memory (pair x y) e ≡ true = left_true (is_at (strand_of ss x.0 b x.1) x.1 e)
      (is_at (strand_of ss y.0 b y.1) y.1 e) (is_mem (number e.to)) (at_true x.1 x.0 e at) f in
      let c : uses_memory (pair x y) d ≡ true = right_true (is_at (strand_of ss x.0 b x.1) x.1 d)
      (is_at (strand_of ss y.0 b y.1) y.1 d) (is_mem (number d.to)) (at_true y.1 y.0 d to) g in
      let same = one_passes (uses_memory (pair x y)) (flow net routes) one e d
      (in_the_flow all_tables code net is routes has admitted b x.1 x.0 e at) a
      (in_the_flow all_tables code net is routes has admitted b y.1 y.0 d to) c in
      ne (its_var x.1 y.1 x.0 y.0 e d at to same)
