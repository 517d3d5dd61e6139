-- The pairs of a layer before an instruction, or before an end, can be moved at once.
use Rattle.std.proofs.Common.{◌≡◌, ℕ, suc, ◌+◌, ◌*◌, inl, inr, Bool, true, false, not, ◌&&◌, nat_eq}
use Rattle.std.proofs.Common.{List, [], ◌∷◌, map, filter, refl, sym, ap, ap₂, subst, ◌∙◌, arith}
use Rattle.std.specs.List.{list_all}
use Rattle.std.proofs.lemmas.Bool.Decides.{nat_tests}
use Rattle.pra_list.proofs.Truths.{true_false, false_from, both_true, nat_is}
use Rattle.pra_list.specs.Among.{Among}
use Rattle.pra_base.specs.declared.ids.Place.{Place}
use Rattle.pra_base.specs.declared.ids.Place.TheVariants.{Const}
use Rattle.pra_base.specs.declared.code.VarKind.{VarKind}
use Rattle.pra_base.specs.declared.code.VarKind.TheVariants.{Param, Plain, Constant}
use Rattle.pra_base.specs.declared.code.VProc.{VProc}
use Rattle.pra_base.specs.Code.{kind_of}
use Rattle.pra_base.specs.Places.{number, has_register, register_of}
use Rattle.net_form.specs.declared.net.Net.{Net}
use Rattle.net_form.specs.declared.routes.Routes.{Routes}
use Rattle.net_form.specs.Tables.{all_tables}
use Rattle.net_form.specs.Network.{IsNet}
use Rattle.net_form.specs.Flow.{Edge, flow, AreRoutes}
use Rattle.net_form.specs.Admitted.{in_register, IsAdmitted}
use Rattle.pl_moves.specs.declared.transfer.Pair.{Pair}
use Rattle.pl_moves.specs.Assignment.{suits, suits_pair, share_register, are_apart, can_move}
use Rattle.pl_place.specs.Behind.{Routed, strand_by, comes_at, constant, from_place, pair_of}
use Rattle.pl_place.specs.Behind.{pairs_at}
use Rattle.pl_routed.specs.Routed.{routed}
use Rattle.pra_list.proofs.Among.{of_filter}
use Rattle.pl_routed.proofs.Present.{live as live_of, brings_edge, one_edge, edge_inside, edge_from}
use Rattle.pl_routed.proofs.Present.{From, edge_apart}
use Rattle.pl_routed.proofs.Present.From.{Begins, Goes}
use Rattle.pl_routed.proofs.Lives.{changes, begins_constant}
use Rattle.pl_routed.proofs.Transferred.{At, edge_suits}
use Rattle.pl_made.proofs.Apart.{EachTwo, Differ, flow_apart, two_filter, two_weaker}

is_itself : (a : ℕ) → nat_eq a a ≡ true
is_itself a = grind (arith, nat_tests)

is_nat : (a b : ℕ) → a ≡ b → nat_eq a b ≡ true
is_nat a b e = grind (arith, nat_tests)

number_suits : (kind : VarKind) → changes kind ≡ false → suits (constant kind) (number Const) ≡ true
number_suits (Param i) e = cc
number_suits Plain e = cc
number_suits (Constant n) e = refl

-- ---- a test of pairs, over the edges that they are of

module _ {X : Type 0} (f : X → Pair) where
  all_apart : (x : X) (xs : List X) → ((y : X) → Among y xs → are_apart (f x) (f y) ≡ true) →
      list_all (are_apart (f x)) (map f xs) ≡ true
  all_apart x [] h = refl
  all_apart x (y ∷ ys) h = both_true (are_apart (f x) (f y)) (list_all (are_apart (f x)) (map f ys))
      (h y (inl refl)) (all_apart x ys (λ z i. h z (inr i)))

  three_true : (a b c : Bool) → a ≡ true → b ≡ true → c ≡ true → (a && b && c) ≡ true
  three_true a b c e g h = rw (e, g, h) refl

  pub can_move_by : (xs : List X) → ((x : X) → Among x xs → suits_pair (f x) ≡ true) →
      EachTwo (λ x y. are_apart (f x) (f y) ≡ true) xs → can_move (map f xs) ≡ true
  can_move_by [] g h = refl
  can_move_by (x ∷ xs) g h = three_true (suits_pair (f x)) (list_all (are_apart (f x)) (map f xs))
      (can_move (map f xs)) (g x (inl refl)) (all_apart x xs h.0)
      (can_move_by xs (λ y i. g y (inr i)) h.1)

module _ (code : VProc) (net : Net) (routes : Routes) (is : IsNet net code)
    (has : AreRoutes net routes) (admitted : IsAdmitted net (flow net routes)) (b k : ℕ) where
  abbrev r : Routed
  r = routed code net routes

  abbrev l : ℕ
  l = 2 * k + 1

  abbrev EdgeIs : ℕ → ℕ → Edge → Type 0
  EdgeIs m v e = At code net is routes has admitted b m v e

  abbrev var : Edge → ℕ
  var e = (strand_by r e).var.0

  edge_in : (e : Edge) → Among e (filter (comes_at r b l) (flow net routes)) → EdgeIs l (var e) e
  edge_in e i =
      let f = of_filter (comes_at r b l) (flow net routes) e i in
      brings_edge all_tables code net is routes has admitted b l (var e) e f.0
      (both_true (nat_eq (var e) (var e)) (comes_at r b l e) (is_itself (var e)) f.1)

  -- where its variable was: at a place of the layer before, or nowhere
  data Was (v : ℕ) (e : Edge) : Type 0 where
    Nowhere : from_place e.from ≡ Const → changes (kind_of code v) ≡ false → Was v e
    There : (d : Edge) → EdgeIs (2 * k) v d → from_place e.from ≡ d.to → Was v e

  was : (v : ℕ) (e : Edge) → EdgeIs l v e → Was v e
  was v e at = by_from (edge_from all_tables code net is routes has admitted b l v e at)
    where
      by_from : From all_tables code net is routes has admitted b l v e → Was v e
      by_from (Begins none before) =
          let inside = edge_inside all_tables code net is routes has admitted b l v e at in
          let one : suc (2 * k) ≡ 2 * k + 1 = omega arith in
          Nowhere (ap from_place none)
          (begins_constant code (live_of all_tables code net is) is.is_live v b k inside.var
          inside.block inside.layer inside.present (before (2 * k) one))
      by_from (Goes m d one there same) =
          let layer : m ≡ 2 * k = omega (arith, one) in
          There d (subst (λ n. EdgeIs n v d) layer there) (ap from_place same)

  -- ---- places that suit

  suits_it : (e : Edge) → Among e (filter (comes_at r b l) (flow net routes)) →
      suits_pair (pair_of r e) ≡ true
  suits_it e i =
      let at = edge_in e i in
      both_true (suits (constant (kind_of code (var e))) (number (from_place e.from)))
      (suits (constant (kind_of code (var e))) (number e.to)) (suits_from (was (var e) e at))
      (edge_suits code net is routes has admitted b l (var e) e at)
    where
      suits_from : Was (var e) e → suits (constant (kind_of code (var e)))
          (number (from_place e.from)) ≡ true
      suits_from (Nowhere same is_constant) =
          ap (λ (q : Place). suits (constant (kind_of code (var e))) (number q)) same
          ∙ number_suits (kind_of code (var e)) is_constant
      suits_from (There d at same) =
          ap (λ (q : Place). suits (constant (kind_of code (var e))) (number q)) same
          ∙ edge_suits code net is routes has admitted b (2 * k) (var e) d at

  -- ---- two edges

  shared : (p q : Place) → share_register p q ≡ true → (has_register (number p) ≡ true) ×
      (has_register (number q) ≡ true) × (register_of (number p) ≡ register_of (number q))
  shared p q e =
      let s = split (has_register (number p)) (has_register (number q))
      (nat_eq (register_of (number p)) (register_of (number q))) e in
      (s.0, s.1, nat_is (register_of (number p)) (register_of (number q)) s.2)
    where
      split : (a c d : Bool) → (a && c && d) ≡ true → (a ≡ true) × (c ≡ true) × (d ≡ true)
      split true true true e = (refl, refl, refl)
      split true true false e = cc
      split true false d e = cc
      split false c d e = cc

  uses : (q : Place) (m : ℕ) → has_register (number q) ≡ true → register_of (number q) ≡ m →
      in_register m q ≡ true
  uses q m h same = both_true (has_register (number q)) (nat_eq (register_of (number q)) m) h
      (is_nat (register_of (number q)) m same)

  -- one register is one variable's
  one_variable : (m v w : ℕ) (e d : Edge) → EdgeIs m v e → EdgeIs m w d → share_register e.to d.to ≡
      true → v ≡ w
  one_variable m v w e d at other t =
      let s = shared e.to d.to t in
      edge_apart all_tables code net is routes has admitted b m v w (register_of (number d.to)) e d
      at other (uses e.to (register_of (number d.to)) s.0 s.2)
      (uses d.to (register_of (number d.to)) s.1 refl)

  from_apart : (v w : ℕ) (e d : Edge) → Was v e → Was w d → (v ≡ w → ⊥) →
      share_register (from_place e.from) (from_place d.from) ≡ true → ⊥
  from_apart v w e d (Nowhere same c) other ne t = true_false (has_register (number Const))
      (ap (λ (q : Place). has_register (number q)) (sym same)
      ∙ (shared (from_place e.from) (from_place d.from) t).0) refl
  from_apart v w e d (There x at same) (Nowhere there c) ne t =
      true_false (has_register (number Const))
      (ap (λ (q : Place). has_register (number q)) (sym there)
      ∙ (shared (from_place e.from) (from_place d.from) t).1) refl
  from_apart v w e d (There x at same) (There y other there) ne t =
      ne (one_variable (2 * k) v w x y at other (ap₂ share_register (sym same) (sym there) ∙ t))

  not_all : (a c d : Bool) → a ≡ false → c ≡ false → d ≡ false → (not a && not c && not d) ≡ true
  not_all a c d e f g = rw (e, f, g) refl

  apart : (e d : Edge) → Among e (filter (comes_at r b l) (flow net routes)) →
      Among d (filter (comes_at r b l) (flow net routes)) → Differ e d →
      are_apart (pair_of r e) (pair_of r d) ≡ true
  apart e d i j differ =
      let at = edge_in e i in
      let other = edge_in d j in
      let ne : var e ≡ var d → ⊥ = λ same.
      let one : e ≡ d = one_edge all_tables code net is routes has admitted b l (var d) e d
      (subst (λ w. EdgeIs l w e) same at) other in
      differ (ap (λ (x : Edge). x.strand) one) (ap (λ (x : Edge). x.layer) one) in
      not_all (nat_eq (var e) (var d)) (share_register (from_place e.from) (from_place d.from))
      (share_register e.to d.to)
      (false_from (nat_eq (var e) (var d)) (λ t. ne (nat_is (var e) (var d) t)))
      (false_from (share_register (from_place e.from) (from_place d.from))
      (λ t. from_apart (var e) (var d) e d (was (var e) e at) (was (var d) d other) ne t))
      (false_from (share_register e.to d.to)
      (λ t. ne (one_variable l (var e) (var d) e d at other t)))

  -- the edges of the layer
  abbrev pub layer_edges : List Edge
  layer_edges = filter (comes_at r b l) (flow net routes)

  pub edges_suit : (e : Edge) → Among e layer_edges → suits_pair (pair_of r e) ≡ true
  edges_suit e i = suits_it e i

  pub edges_apart : EachTwo (λ e d. are_apart (pair_of r e) (pair_of r d) ≡ true) layer_edges
  edges_apart = two_weaker Differ (λ e d. are_apart (pair_of r e) (pair_of r d) ≡ true) layer_edges
      apart (two_filter Differ (comes_at r b l) (flow net routes)
      (flow_apart 0 net.strands routes.places))

  pub can_move_at : can_move (pairs_at r b l) ≡ true
  can_move_at = can_move_by (pair_of r) layer_edges edges_suit edges_apart
