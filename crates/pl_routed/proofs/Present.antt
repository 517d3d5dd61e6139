-- A variable that is present at a layer is brought to one place there by one edge of the routes.
use Rattle.std.proofs.Common.{◌≡◌, ℕ, zero, suc, ◌+◌, ◌-◌, ◌%◌, ◌<◌, inl, inr, ⊎_elim, Bool, true}
use Rattle.std.proofs.Common.{false, not, ◌&&◌, ◌||◌, nat_eq, if◌then◌else◌, List, [], ◌∷◌, length}
use Rattle.std.proofs.Common.{map, slice_get, slice_index_or, Option, Some, None, refl, sym, ap}
use Rattle.std.proofs.Common.{ap₂, subst, ◌∙◌, arith, count_by, IsTrue}
use Rattle.std.specs.Prelude.{option_map, find}
use Rattle.std.specs.List.{enumerate_from}
use Rattle.std.proofs.lemmas.Bool.Decides.{nat_tests}
use Rattle.std.proofs.lemmas.List.FromFn.{get_or-map-range_with_len}
use Rattle.std.proofs.lemmas.Option.{get_or_from_slice_get}
use Rattle.pra_list.specs.Among.{Among}
use Rattle.pra_list.proofs.Counts.{count-no}
use Rattle.pra_list.proofs.Options.{some_same}
use Rattle.pra_base.specs.declared.ids.Place.{Place}
use Rattle.pra_base.specs.declared.code.VProc.{VProc}
use Rattle.pra_base.specs.Places.{number, allows}
use Rattle.net_form.specs.declared.net.Strand.{Strand}
use Rattle.net_form.specs.declared.net.Tie.{Tie}
use Rattle.net_form.specs.declared.net.Net.{Net}
use Rattle.net_form.specs.declared.routes.Routes.{Routes}
use Rattle.net_form.specs.Tables.{PlaceTables}
use Rattle.net_form.specs.Strands.{Lives, layer_count, exit_layer, is_present, run_from, mask_at}
use Rattle.net_form.specs.Strands.{strands}
use Rattle.pra_base.specs.declared.code.End.{End}
use Rattle.pra_base.specs.declared.code.End.TheVariants.{Jump, Branch, Return}
use Rattle.pra_base.specs.Code.{end_of, IsTarget}
use Rattle.net_form.specs.Network.{grouped, ties, ties_from, leads_to, is_joined, IsNetBy}
use Rattle.net_form.specs.Flow.{Edge, same_place, edges, flow, AreRoutes}
use Rattle.net_form.specs.Admitted.{no_strand, strand_at, layer_of, mask_of, in_mask, is_across}
use Rattle.net_form.specs.Admitted.{stays_from, stays_across, in_register, uses_bundle, exits_at}
use Rattle.net_form.specs.Admitted.{enters_at, KeepsTie, IsAdmitted}
use Rattle.net_form.specs.Index.{first_layer}
use Rattle.net_form.proofs.PlaceEquality.{same_place-true, same_place-refl}
use Rattle.pl_place.specs.Behind.{Routed, strand_by, brings, where_is}
use Rattle.pra_list.proofs.Among.{in_all, in_at, at_in, in_flat, in_filter_map, some_counted, finds}
use Rattle.pra_list.proofs.Among.{found_in, one_passes}
use Rattle.pl_routed.proofs.Edges.{path_after, path_one, path_from, path_at, Behind, OfRoute}
use Rattle.pl_routed.proofs.Edges.{of_flow, in_flow, route_of}
use Rattle.pl_routed.proofs.Strands.{IsStrand, Covers, are_strands, covered, fresh, last_inside}
use Rattle.pl_routed.proofs.Strands.{run_some, one_strand, strand_of as strand_there}

if_yes : {X : Type 0} (b : Bool) (x : X) → b ≡ true → (if b then Some x else None) ≡ Some x
if_yes true x e = refl
if_yes false x e = cc

-- ---- strands of the network

abbrev numbered : List Tie → (ℕ → ℕ) → ℕ → List Strand → List Strand
numbered ts least n ss = map (grouped ts least) (enumerate_from n ss)

-- what the groups change nothing of
pub record Plainly (u t : Strand) : Type 0 where
  pub var : u.var ≡ t.var
  pub block : u.block ≡ t.block
  pub first : u.first ≡ t.first
  pub last : u.last ≡ t.last
  pub masks : u.masks ≡ t.masks

of_numbered : (ts : List Tie) (least : ℕ → ℕ) (n : ℕ) (ss : List Strand) (i : ℕ) (u : Strand) →
    slice_get (numbered ts least n ss) i ≡ Some u → (t : Strand) × (slice_get ss i ≡ Some t) ×
    Plainly u t
of_numbered ts least n [] i u e = cc
of_numbered ts least n (t ∷ ss) zero u e =
    let same : grouped ts least (n, t) ≡ u = some_same (grouped ts least (n, t)) u e in (
      t,
      refl,
      subst (λ x. Plainly x t) same
          (record { var = refl; block = refl; first = refl; last = refl; masks = refl }),
    )
of_numbered ts least n (t ∷ ss) (suc i) u e = of_numbered ts least (n + 1) ss i u e

in_numbered : (ts : List Tie) (least : ℕ → ℕ) (n : ℕ) (ss : List Strand) (i : ℕ) (t : Strand) →
    slice_get ss i ≡ Some t → (u : Strand) × (slice_get (numbered ts least n ss) i ≡ Some u) ×
    Plainly u t
in_numbered ts least n [] i t e = cc
in_numbered ts least n (s ∷ ss) zero t e = let same : s ≡ t = some_same s t e in (
  grouped ts least (n, s),
  refl,
  subst (Plainly (grouped ts least (n, s))) same
      (record { var = refl; block = refl; first = refl; last = refl; masks = refl }),
)
in_numbered ts least n (s ∷ ss) (suc i) t e = in_numbered ts least (n + 1) ss i t e

module _ (tables : PlaceTables) (code : VProc) (net : Net) (is : IsNetBy tables code net) where
  abbrev pub live : Lives
  live = is.live

  abbrev ss : List Strand
  ss = strands tables code live

  abbrev present : ℕ → ℕ → ℕ → Bool
  present v b l = is_present tables code live v b l

  are_numbered : net.strands ≡ numbered (ties code ss) is.least 0 ss
  are_numbered = ap (λ (n : Net). n.strands) is.is

  plain_is : (u t : Strand) → Plainly u t → IsStrand tables code live t →
      IsStrand tables code live u
  plain_is u t p s =
      let var = p.var in
      let block = p.block in
      let first = p.first in
      let last = p.last in
      let masks = p.masks in
      rw (var, block, first, last, masks)
      (record {
        var = s.var;
        block = s.block;
        inside = s.inside;
        begins = s.begins;
        last =
            s.last;
        masks = s.masks;
      })

  pub net_strand : (i : ℕ) (u : Strand) → slice_get net.strands i ≡ Some u →
      IsStrand tables code live u
  net_strand i u e =
      let t = of_numbered (ties code ss) is.least 0 ss i u
      (sym (ap (λ xs. slice_get xs i) are_numbered) ∙ e) in
      plain_is u t.0 t.2 (in_all (IsStrand tables code live) ss (are_strands tables code live) t.0
      (in_at ss i t.0 t.1))

  plain_covers : (u t : Strand) → Plainly u t → (v b l : ℕ) → Covers tables code live u v b l →
      Covers tables code live t v b l
  plain_covers u t p v b l c =
      let first = p.first in
      let last = p.last in
      let after = c.after in
      let before = c.before in
      record {
        var = ap (λ (x : _). x.0) (sym p.var) ∙ c.var;
        block =
            ap (λ (x : _). x.0) (sym p.block) ∙ c.block;
        after = omega (arith, first, after);
        before =
            omega (arith, last, before);
      }

  pub net_one : (i j : ℕ) (u w : Strand) → slice_get net.strands i ≡ Some u →
      slice_get net.strands j ≡ Some w → (v b l : ℕ) → Covers tables code live u v b l →
      Covers tables code live w v b l → i ≡ j
  net_one i j u w e f v b l c d =
      let t = of_numbered (ties code ss) is.least 0 ss i u
      (sym (ap (λ xs. slice_get xs i) are_numbered) ∙ e) in
      let s = of_numbered (ties code ss) is.least 0 ss j w
      (sym (ap (λ xs. slice_get xs j) are_numbered) ∙ f) in
      one_strand tables code live i j t.0 s.0 t.1 s.1 v b l (plain_covers u t.0 t.2 v b l c)
      (plain_covers w s.0 s.2 v b l d)

  -- ---- edges

  module _ (routes : Routes) (has : AreRoutes net routes)
      (admitted : IsAdmitted net (flow net routes)) where
    abbrev pub r : Routed
    r = record { code = code; net = net; flow = flow net routes }

    -- the edge brings the variable to a place at the layer of the block
    pub record EdgeAt (b l v : ℕ) (e : Edge) : Type 0 where
      pub route : OfRoute 0 net.strands routes.places e
      pub layer : e.layer ≡ l
      pub covers : Covers tables code live route.strand v b l

    pub in_the_flow : (b l v : ℕ) (e : Edge) → EdgeAt b l v e → Among e (flow net routes)
    in_the_flow b l v e at = in_flow 0 net.strands routes.places e at.route

    its_number : (e : Edge) (o : OfRoute 0 net.strands routes.places e) → e.strand ≡ o.number
    its_number e o = let same = (path_after (0 + o.number) o.strand.first None o.path e o.in_path).0
        in omega (arith, same)

    pub its_strand : (e : Edge) (o : OfRoute 0 net.strands routes.places e) →
        strand_at net e.strand ≡ o.strand
    its_strand e o = ap (strand_at net) (its_number e o) ∙ get_or_from_slice_get net.strands
        o.number o.strand no_strand o.is_strand

    its_length : (e : Edge) (o : OfRoute 0 net.strands routes.places e) →
        o.strand.first + length o.path ≡ o.strand.last + 1
    its_length e o =
        let p = route_of net.strands routes.places has o.number o.strand o.is_strand in
        subst (λ ps. o.strand.first + length ps ≡ o.strand.last + 1)
        (some_same p.0 o.path (sym p.1 ∙ o.is_path)) p.2

    both_true : (a c d : Bool) → (a && (c && d)) ≡ true → (a ≡ true) × (c ≡ true) × (d ≡ true)
    both_true true true true e = (refl, refl, refl)
    both_true true true false e = cc
    both_true true false d e = cc
    both_true false c d e = cc

    all_true : (a c d : Bool) → a ≡ true → c ≡ true → d ≡ true → (a && (c && d)) ≡ true
    all_true a c d e f g = rw (e, f, g) refl

    pub nat_is : (x y : ℕ) → nat_eq x y ≡ true → x ≡ y
    nat_is x y e = grind (arith, nat_tests)

    pub is_nat : (x y : ℕ) → x ≡ y → nat_eq x y ≡ true
    is_nat x y e = grind (arith, nat_tests)

    edge_brings : (b l v : ℕ) (e : Edge) → EdgeAt b l v e → brings r b l v e ≡ true
    edge_brings b l v e at =
        let same = its_strand e at.route in
        all_true (nat_eq (strand_by r e).var.0 v) (nat_eq (strand_by r e).block.0 b)
        (nat_eq e.layer l)
        (is_nat _ v (ap (λ (t : Strand). t.var.0) same ∙ at.covers.var))
        (is_nat _ b (ap (λ (t : Strand). t.block.0) same ∙ at.covers.block))
        (is_nat e.layer l at.layer)

    pub brings_edge : (b l v : ℕ) (e : Edge) → Among e (flow net routes) → brings r b l v e ≡ true →
        EdgeAt b l v e
    brings_edge b l v e i t =
        let o = of_flow 0 net.strands routes.places e i in
        let same = its_strand e o in
        let x = both_true (nat_eq (strand_by r e).var.0 v) (nat_eq (strand_by r e).block.0 b)
        (nat_eq e.layer l) t in
        let at : e.layer ≡ l = nat_is e.layer l x.2 in
        let p = path_after (0 + o.number) o.strand.first None o.path e o.in_path in
        let le = p.1 in
        let lt = p.2 in
        let many = its_length e o in
        record {
          route = o;
          layer = at;
          covers = record {
            var = sym (ap (λ (t : Strand). t.var.0) same) ∙ nat_is _ v x.0;
            block = sym (ap (λ (t : Strand). t.block.0) same) ∙ nat_is _ b x.1;
            after = omega (arith, le, at);
            before = omega (arith, lt, many, at);
          };
        }

    -- the same strand, and so the same path
    same_route : (e d : Edge) (o : OfRoute 0 net.strands routes.places e)
        (u : OfRoute 0 net.strands routes.places d) → o.number ≡ u.number →
        Among d (edges (0 + o.number) o.strand.first None o.path)
    same_route e d o u same =
        let strand : u.strand ≡ o.strand = some_same u.strand o.strand
        (sym u.is_strand ∙ ap (slice_get net.strands) (sym same) ∙ o.is_strand) in
        let path : u.path ≡ o.path =
        some_same u.path o.path (sym u.is_path ∙ ap (slice_get routes.places) (sym same)
        ∙ o.is_path) in
        subst (λ n. Among d (edges (0 + n) o.strand.first None o.path)) (sym same)
        (subst (λ t. Among d (edges (0 + u.number) t.first None o.path)) strand
        (subst (λ ps. Among d (edges (0 + u.number) u.strand.first None ps)) path u.in_path))

    pub one_edge : (b l v : ℕ) (e d : Edge) → EdgeAt b l v e → EdgeAt b l v d → e ≡ d
    one_edge b l v e d a c =
        let n = net_one a.route.number c.route.number a.route.strand c.route.strand
        a.route.is_strand c.route.is_strand v b l a.covers c.covers in
        path_one (0 + a.route.number) a.route.strand.first None a.route.path e d a.route.in_path
        (same_route e d a.route c.route n) (a.layer ∙ sym c.layer)

    pub place_of_edge : (b l v : ℕ) (e : Edge) → EdgeAt b l v e → where_is r b l v ≡ Some e.to
    place_of_edge b l v e at =
        let f = finds (brings r b l v) (flow net routes) e (in_the_flow b l v e at)
        (edge_brings b l v e at) in
        let g = found_in (brings r b l v) (flow net routes) f.0 f.1 in
        let same : f.0 ≡ e = one_edge b l v f.0 e (brings_edge b l v f.0 g.0 g.1) at in
        ap (option_map (λ (x : Edge). x.to)) f.1 ∙ ap (λ (x : Edge). Some x.to) same

    pub edge_of_place : (b l v : ℕ) (q : Place) → where_is r b l v ≡ Some q → (e : Edge) ×
        EdgeAt b l v e × (e.to ≡ q)
    edge_of_place b l v q is = of_found (find (brings r b l v) (flow net routes)) refl is
      where
        of_found : (o : Option Edge) → find (brings r b l v) (flow net routes) ≡ o →
            option_map (λ (x : Edge). x.to) o ≡ Some q → (e : Edge) × EdgeAt b l v e × (e.to ≡ q)
        of_found None f e = cc
        of_found (Some x) f e = let g = found_in (brings r b l v) (flow net routes) x f in
            (x, brings_edge b l v x g.0 g.1, some_same x.to q e)

    pub edge_there : (b l v : ℕ) → present v b l ≡ true → v < length code.vars →
        b < length code.blocks → l < layer_count code b → (e : Edge) × EdgeAt b l v e
    edge_there b l v now v_in b_in l_in =
        let s = strand_there tables code live v b l now v_in b_in l_in in
        let u = in_numbered (ties code ss) is.least 0 ss s.0 s.1 s.2 in
        let at_net : slice_get net.strands s.0 ≡ Some u.0 = ap (λ xs. slice_get xs s.0) are_numbered
        ∙ u.1 in
        let p = route_of net.strands routes.places has s.0 u.0 at_net in
        let first = u.2.first in
        let last = u.2.last in
        let after = s.3.after in
        let before = s.3.before in
        let many = p.2 in
        let e = path_at (0 + s.0) u.0.first None p.0 l (omega (arith, first, after))
        (omega (arith, first, last, after, before, many)) in (
          e.0,
          record {
            route = record {
              number = s.0;
              strand = u.0;
              path = p.0;
              is_strand = at_net;
              is_path =
                  p.1;
              in_path = e.1;
            };
            layer = e.2;
            covers = record {
              var = ap (λ (x : _). x.0) u.2.var ∙ s.3.var;
              block = ap (λ (x : _). x.0) u.2.block ∙ s.3.block;
              after = omega (arith, first, after);
              before = omega (arith, last, before);
            };
          },
        )

    -- ---- where an edge is

    pub record Inside (b l v : ℕ) : Type 0 where
      pub var : v < length code.vars
      pub block : b < length code.blocks
      pub layer : l < layer_count code b
      pub present : is_present tables code live v b l ≡ true

    pub edge_inside : (b l v : ℕ) (e : Edge) → EdgeAt b l v e → Inside b l v
    edge_inside b l v e at =
        let t = at.route.strand in
        let s = net_strand at.route.number t at.route.is_strand in
        let var : t.var.0 ≡ v = at.covers.var in
        let block : t.block.0 ≡ b = at.covers.block in
        let a = s.var in
        let c = s.block in
        let last = last_inside tables code live t s in
        let before = at.covers.before in
        let layers : layer_count code t.block.0 ≡ layer_count code b =
        ap (layer_count code) block in
        record {
          var = omega (arith, a, var);
          block = omega (arith, c, block);
          layer = omega (arith, last, before, layers);
          present = ap₂ (λ x y. is_present tables code live x y l) (sym var) (sym block)
              ∙ covered tables code live t s l at.covers.after before;
        }

    pub edge_mask : (b l v : ℕ) (e : Edge) → EdgeAt b l v e →
        allows (mask_at tables code live v b l) (number e.to) ≡ true
    edge_mask b l v e at =
        let t = at.route.strand in
        let s = net_strand at.route.number t at.route.is_strand in
        let ok = in_all (λ x. IsTrue (in_mask net x)) (flow net routes) admitted.masks e
        (in_the_flow b l v e at) in
        let var : t.var.0 ≡ v = at.covers.var in
        let block : t.block.0 ≡ b = at.covers.block in
        let many = its_length e at.route in
        let n = run_from tables code live t.var.0 t.block.0 t.first in
        let last = s.last in
        let after = at.covers.after in
        let before = at.covers.before in
        let some = run_some tables code live t s in
        let layer = at.layer in
        let mask : mask_of net e ≡ mask_at tables code live v b l =
        ap (λ (x : Strand). slice_index_or x.masks (e.layer - x.first) 0) (its_strand e at.route)
        ∙ ap (λ ms. slice_index_or ms (e.layer - t.first) 0) s.masks
        ∙ get_or-map-range_with_len (mask_at tables code live t.var.0 t.block.0) t.first n
        (e.layer - t.first) l 0 (omega (arith, last, after, before, some, layer))
        (omega (arith, after, layer))
        ∙ ap₂ (λ x y. mask_at tables code live x y l) var block in
        ap (λ m. allows m (number e.to)) (sym mask) ∙ ok

    -- ---- where an edge comes from

    -- its variable is not present at the layer before, or the edge comes from where it was there
    pub data From (b l v : ℕ) (e : Edge) : Type 0 where
      Begins : e.from ≡ None → ((m : ℕ) → suc m ≡ l → is_present tables code live v b m ≡ false) →
          From b l v e
      Goes : (m : ℕ) (d : Edge) → suc m ≡ l → EdgeAt b m v d → e.from ≡ Some d.to → From b l v e

    pub edge_from : (b l v : ℕ) (e : Edge) → EdgeAt b l v e → From b l v e
    edge_from b l v e at =
        let t = at.route.strand in
        let s = net_strand at.route.number t at.route.is_strand in
        let var : t.var.0 ≡ v = at.covers.var in
        let block : t.block.0 ≡ b = at.covers.block in
        ⊎_elim
        (λ (first : (e.layer ≡ t.first) × (e.from ≡ None)).
        Begins first.1
        (λ m same. ap₂ (λ x y. is_present tables code live x y m) (sym var) (sym block)
        ∙ fresh tables code live t s m (same ∙ sym at.layer ∙ first.0)))
        (λ (d : Behind e (edges (0 + at.route.number) t.first None at.route.path)).
        let p = path_after (0 + at.route.number) t.first None at.route.path d.edge d.in_path in
        let after = p.1 in
        let layer = d.layer in
        let here = at.layer in
        let before = at.covers.before in
        Goes d.edge.layer d.edge (layer ∙ here)
        (record {
          route = record {
            number = at.route.number;
            strand = t;
            path = at.route.path;
            is_strand =
                at.route.is_strand;
            is_path = at.route.is_path;
            in_path = d.in_path;
          };
          layer = refl;
          covers = record {
            var = var;
            block = block;
            after = after;
            before =
                omega (arith, layer, here, before);
          };
        })
        d.from)
        (path_from (0 + at.route.number) t.first None at.route.path e at.route.in_path)

    -- ---- what is admitted

    negated : (a c : Bool) → a ≡ true → (not a || c) ≡ true → c ≡ true
    negated true c e f = f
    negated false c e f = cc

    -- across an instruction it stays
    pub edge_stays : (b l v : ℕ) (e : Edge) (p : Place) → EdgeAt b l v e → l % 2 ≡ 0 →
        e.from ≡ Some p → p ≡ e.to
    edge_stays b l v e p at even from =
        let ok = in_all (λ x. IsTrue (stays_across x)) (flow net routes) admitted.across e
        (in_the_flow b l v e at) in
        let across : is_across e ≡ true =
        is_nat (e.layer % 2) 0 (ap (λ k. k % 2) at.layer ∙ even) in
        let stays : stays_from e.from e.to ≡ true = negated (is_across e) (stays_from e.from e.to)
        across ok in
        same_place-true p e.to (ap (λ o. stays_from o e.to) (sym from) ∙ stays)

    edge_uses : (b l v k : ℕ) (e : Edge) → EdgeAt b l v e → in_register k e.to ≡ true →
        uses_bundle net (first_layer net.blocks b + l) k e ≡ true
    edge_uses b l v k e at is =
        let layer : layer_of net e ≡ first_layer net.blocks b + l =
        ap₂ (λ x y. first_layer net.blocks x + y)
        (ap (λ (t : Strand). t.block.0) (its_strand e at.route) ∙ at.covers.block) at.layer in
        let a : nat_eq (layer_of net e) (first_layer net.blocks b + l) ≡ true = is_nat _ _ layer in
        rw (a, is) refl

    its_var : (b l v w : ℕ) (e d : Edge) → EdgeAt b l v e → EdgeAt b l w d → e ≡ d → v ≡ w
    its_var b l v w e d a c same =
        sym a.covers.var ∙ sym (ap (λ (t : Strand). t.var.0) (its_strand e a.route))
        ∙ ap (λ (x : Edge). (strand_at net x.strand).var.0) same ∙ ap (λ (t : Strand). t.var.0)
        (its_strand d c.route) ∙ c.covers.var

    -- a register is one variable's
    pub edge_apart : (b l v w k : ℕ) (e d : Edge) → EdgeAt b l v e → EdgeAt b l w d →
        in_register k e.to ≡ true → in_register k d.to ≡ true → v ≡ w
    edge_apart b l v w k e d a c f g =
        let n = first_layer net.blocks b + l in
        let same : e ≡ d = one_passes (uses_bundle net n k) (flow net routes) (admitted.bundles n k)
        e d (in_the_flow b l v e a) (edge_uses b l v k e a f) (in_the_flow b l w d c)
        (edge_uses b l w k d c g) in
        its_var b l v w e d a c same

    -- ---- ties

    in_enumerate : (n : ℕ) (xs : List Strand) (i : ℕ) (t : Strand) → slice_get xs i ≡ Some t →
        Among (n + i, t) (enumerate_from n xs)
    in_enumerate n [] i t e = cc
    in_enumerate n (x ∷ xs) zero t e =
        let same : x ≡ t = some_same x t e in
        let zero_more : n + 0 ≡ n = omega arith in
        inl (ap₂ (λ (k : ℕ) (y : Strand). (k, y)) zero_more (sym same))
    in_enumerate n (x ∷ xs) (suc i) t e =
        let more : n + 1 + i ≡ n + suc i = omega arith in
        inr (subst (λ k. Among (k, t) (enumerate_from (n + 1) xs)) more
        (in_enumerate (n + 1) xs i t e))

    in_numbers : (xs : List Strand) (i : ℕ) (t : Strand) → slice_get xs i ≡ Some t →
        Among (i, t) (enumerate_from 0 xs)
    in_numbers xs i t e = let same : 0 + i ≡ i = omega arith in
        subst (λ k. Among (k, t) (enumerate_from 0 xs)) same (in_enumerate 0 xs i t e)

    led : (end : End) (t : ℕ) → IsTarget end t → leads_to end t ≡ true
    led (Jump b) t e = is_nat b.0 t e
    led (Branch k one other) t e = ⊎_elim (λ (a : one.0 ≡ t). let x = is_nat one.0 t a in rw x refl)
        (λ (a : other.0 ≡ t). or_right (nat_eq one.0 t) (nat_eq other.0 t) (is_nat other.0 t a)) e
      where
        or_right : (a c : Bool) → c ≡ true → (a || c) ≡ true
        or_right true c e = refl
        or_right false c e = e
    led Return t e = absurd e

    four_true : (a b c d : Bool) → a ≡ true → b ≡ true → c ≡ true → d ≡ true → (a && b && c && d) ≡
        true
    four_true a b c d e f g h = rw (e, f, g, h) refl

    three_true : (a b c : Bool) → a ≡ true → b ≡ true → c ≡ true → ((a && b) && c) ≡ true
    three_true a b c e f g = rw (e, f, g) refl

    of_three : (a b c : Bool) → ((a && b) && c) ≡ true → (a ≡ true) × (b ≡ true) × (c ≡ true)
    of_three true true true e = (refl, refl, refl)
    of_three true true false e = cc
    of_three true false c e = cc
    of_three false b c e = cc

    counted_in : {X : Type 0} (p : X → Bool) (xs : List X) → 0 < count_by p xs → (x : X) ×
        Among x xs × (p x ≡ true)
    counted_in p [] lt = absurd (omega (arith, lt))
    counted_in p (x ∷ xs) lt = by_test (p x) refl (λ more. counted_in p xs more)
      where
        by_test : (b : Bool) → p x ≡ b → (0 < count_by p xs → (y : _) × Among y xs × (p y ≡ true)) →
            (y : _) × Among y (x ∷ xs) × (p y ≡ true)
        by_test true e ih = (x, inl refl, e)
        by_test false e ih = let no = count-no p x xs e in let a = ih (omega (arith, no, lt)) in
            (a.0, inr a.1, a.2)

    -- where control goes from a block to another, the variable keeps its place
    pub edge_tied : (b t v : ℕ) (e d : Edge) → EdgeAt b (exit_layer code b) v e → EdgeAt t 0 v d →
        IsTarget (end_of code b) t → e.to ≡ d.to
    edge_tied b t v e d a c target =
        let s = of_numbered (ties code ss) is.least 0 ss a.route.number a.route.strand
        (sym (ap (λ xs. slice_get xs a.route.number) are_numbered) ∙ a.route.is_strand) in
        let u = of_numbered (ties code ss) is.least 0 ss c.route.number c.route.strand
        (sym (ap (λ xs. slice_get xs c.route.number) are_numbered) ∙ c.route.is_strand) in
        let from = plain_covers a.route.strand s.0 s.2 v b (exit_layer code b) a.covers in
        let to = plain_covers c.route.strand u.0 u.2 v t 0 c.covers in
        let s_is = in_all (IsStrand tables code live) ss (are_strands tables code live) s.0
        (in_at ss a.route.number s.0 s.1) in
        let inside = last_inside tables code live s.0 s_is in
        let block : s.0.block.0 ≡ b = from.block in
        let layers : layer_count code s.0.block.0 ≡ layer_count code b =
        ap (layer_count code) block in
        let before = from.before in
        let exit : s.0.last ≡ exit_layer code b = omega (arith, inside, layers, before) in
        let first = to.after in
        let joined : is_joined code s.0 u.0 ≡ true =
        four_true (nat_eq s.0.last (exit_layer code s.0.block.0)) (nat_eq u.0.first 0)
        (nat_eq s.0.var.0 u.0.var.0) (leads_to (end_of code s.0.block.0) u.0.block.0)
        (is_nat _ _ (exit ∙ sym (ap (exit_layer code) block)))
        (is_nat _ _ (omega (arith, first)))
        (is_nat _ _ (from.var ∙ sym to.var))
        (ap₂ (λ x y. leads_to (end_of code x) y) block to.block ∙ led (end_of code b) t target) in
        let tie : Tie = record { from = a.route.number; to = c.route.number } in
        let in_ties : Among tie (ties code ss) =
        in_flat (ties_from code ss) (enumerate_from 0 ss) (a.route.number, s.0) tie
        (in_numbers ss a.route.number s.0 s.1)
        (in_filter_map (λ x. if is_joined code s.0 x.1 then Some
        (record { from = a.route.number; to = x.0 }) else None) (enumerate_from 0 ss)
        (c.route.number, u.0) tie (in_numbers ss c.route.number u.0 u.1)
        (if_yes (is_joined code s.0 u.0) tie joined)) in
        let in_net : Among tie net.ties = subst (Among tie) (sym (ap (λ (n : Net). n.ties) is.is))
        in_ties in
        let keeps = in_all (KeepsTie net (flow net routes)) net.ties admitted.ties tie in_net
        e.to in
        let first_strand : strand_at net a.route.number ≡ a.route.strand =
        get_or_from_slice_get net.strands a.route.number a.route.strand no_strand
        a.route.is_strand in
        let second_strand : strand_at net c.route.number ≡ c.route.strand =
        get_or_from_slice_get net.strands c.route.number c.route.strand no_strand
        c.route.is_strand in
        let leaves : exits_at net tie e.to e ≡ true =
        three_true (nat_eq e.strand a.route.number)
        (nat_eq e.layer (strand_at net a.route.number).last) (same_place e.to e.to)
        (is_nat _ _ (its_number e a.route))
        (is_nat _ _ (a.layer ∙ sym exit ∙ sym s.2.last
        ∙ sym (ap (λ (x : Strand). x.last) first_strand)))
        (same_place-refl e.to) in
        let e_at = at_in (flow net routes) e (in_the_flow b (exit_layer code b) v e a) in
        let some = some_counted (exits_at net tie e.to) (flow net routes) e_at.0 e e_at.1 leaves in
        let entering = counted_in (enters_at net tie e.to) (flow net routes)
        (omega (arith, some, keeps)) in
        let x = entering.0 in
        let parts = of_three (nat_eq x.strand c.route.number)
        (nat_eq x.layer (strand_at net c.route.number).first) (same_place x.to e.to)
        entering.2 in
        let strand : strand_at net x.strand ≡ c.route.strand =
        ap (strand_at net) (nat_is _ _ parts.0) ∙ second_strand in
        let starts : c.route.strand.first ≡ 0 = (let f = c.covers.after in omega (arith, f)) in
        let layer : x.layer ≡ 0 = nat_is _ _ parts.1 ∙ ap (λ (y : Strand). y.first) second_strand
        ∙ starts in
        let there : brings r t 0 v x ≡ true =
        all_true (nat_eq (strand_by r x).var.0 v) (nat_eq (strand_by r x).block.0 t)
        (nat_eq x.layer 0)
        (is_nat _ _ (ap (λ (y : Strand). y.var.0) strand ∙ c.covers.var))
        (is_nat _ _ (ap (λ (y : Strand). y.block.0) strand ∙ c.covers.block))
        (is_nat _ _ layer) in
        let same : x ≡ d = one_edge t 0 v x d (brings_edge t 0 v x entering.1 there) c in
        sym (same_place-true x.to e.to parts.2) ∙ ap (λ (y : Edge). y.to) same
