-- What a row says of the paths from each of its places.
use Rattle.std.proofs.Common.{ℕ, suc, ◌≡◌, ◌<◌, ◌≤◌, ◌+◌, ◌-◌, ◌^◌, Bool, true, false, ℤ, pos, ◌+ℤ◌}
use Rattle.std.proofs.Common.{◌≤ℤ◌, ◌<ℤ◌, List, [], ◌∷◌, length, slice_get, Option, Some, None}
use Rattle.std.proofs.Common.{◌||◌, not, IsTrue, refl, sym, subst, ap, arith, inl, inr}
use Rattle.std.proofs.lemmas.Int.{ints}
use Rattle.std.proofs.lemmas.Bool.{false≢true}
use Rattle.pra_list.proofs.Options.{none_some, some_same}
use Rattle.pra_base.specs.declared.ids.Place.{Place}
use Rattle.pra_base.specs.Places.{number}
use Rattle.net_cost.specs.declared.weights.Weights.{Weights}
use Rattle.net_cost.specs.Weights.{IsValid}
use Rattle.net_form.specs.declared.net.Net.{Net}
use Rattle.net_form.specs.declared.prices.Prices.{Prices}
use Rattle.net_form.specs.declared.routes.Ends.{Ends}
use Rattle.net_form.specs.declared.taken.Taken.{Taken}
use Rattle.net_form.specs.Admitted.{strand_at}
use Rattle.net_form.specs.InUse.{UsesNothing}
use Rattle.net_laws.specs.Built.{IsBuilt}
use Rattle.net_dual.specs.Priced.{edge_price, AreInRange}
use Rattle.net_dual.specs.Paths.{MayGo, IsLeastCost, path_price}
use Rattle.net_dual.proofs.Small.{path_is_small}
use Rattle.net_form.specs.Admitted.{is_across}
use Rattle.net_path.specs.Choices.{IsStart}
use Rattle.net_path.specs.Grounds.{terrain, is_free, edge, layer}
use Rattle.net_path.specs.Rests.{Terrain, Passes, rest_price, IsFrom, IsPaidThere, AreRows}
use Rattle.net_path.specs.Rows.{slack_at}
use Rattle.net_path.specs.Starts.{starting, IsCostFrom}
use Rattle.net_path.specs.Ways.{at}
use Rattle.net_path.proofs.LeastPath.{order, few, passes, price_of, goes_of}

-- a path that begins at a place, as one with a head
head_is : (p : Place) (ps : List Place) → slice_get ps 0 ≡ Some p
    → (qs : List Place) × (ps ≡ p ∷ qs)
head_is p [] e = absurd (none_some e)
head_is p (q ∷ qs) e = (qs, ap (λ (r : Place). r ∷ qs) (some_same q p e))

module _ (net : Net) (built : IsBuilt net)
    (prices : Prices) (range : AreInRange net prices) (w : Weights) (valid : IsValid w)
    (last : Option Place) (taken : Taken) (s n : ℕ) (lt : s < length net.strands)
    (long : (strand_at net s).first + n ≡ (strand_at net s).last + 1) (row : ℕ → List ℤ) where
  abbrev ends : Ends
  ends = record { first = None; last = last }

  abbrev t : Terrain
  t = terrain net w prices ends (is_free net taken) s

  module _ (rows : AreRows t row (slack_at n) n 0) (p : Place) where
    abbrev z : ℤ
    z = t.way 0 None p +ℤ at (row 0) (number p)

    -- with the beginning free it may go the same way
    freed : (ps : List Place) → MayGo net (starting last p) (UsesNothing net taken) s ps
        → MayGo net ends (UsesNothing net taken) s ps
    freed ps goes = record {
      path = goes.path;
      has_ends = record { first = tt; last = goes.has_ends.last };
      is_clear = goes.is_clear;
    }

    bound : (qs : List Place) → MayGo net ends (UsesNothing net taken) s (p ∷ qs)
        → (length (p ∷ qs) ≡ n) × Passes t 0 None (p ∷ qs)
    bound qs goes =
        passes net built prices range w valid ends taken s n lt long (p ∷ qs) goes

    order_ : (strand_at net s).first ≤ (strand_at net s).last
    order_ = order net built prices range w valid ends taken s n lt long

    few_ : n ≤ 24838
    few_ = few net built prices range w valid ends taken s n lt long

    from_row : IsFrom (t.is_open 0 p) t (n - 1) 0 p (slack_at n 1) (at (row 0) (number p))
    from_row = rows.rows (n - 1) 0 (omega arith)
        (let o = order_ in omega (arith, long, o)) p

    opened : (b : Bool) → t.is_open 0 p ≡ b → IsTrue b
        → IsPaidThere t (n - 1) 0 p (slack_at n 1) (at (row 0) (number p))
    opened true e h = subst (λ (b : Bool). IsFrom b t (n - 1) 0 p (slack_at n 1)
        (at (row 0) (number p))) e from_row
    opened false e h = absurd (false≢true h)

    -- no path costs less
    least_from : (ps : List Place) → MayGo net (starting last p) (UsesNothing net taken) s ps
        → z ≤ℤ path_price net (edge_price net w prices) s ps
    least_from ps goes =
        let head = head_is p ps goes.has_ends.first in
        let qs = head.0 in
        let goes2 : MayGo net ends (UsesNothing net taken) s (p ∷ qs) =
        subst (λ (xs : List Place). MayGo net ends (UsesNothing net taken) s xs) head.1
        (freed ps goes) in
        let b = bound qs goes2 in
        let there = opened (t.is_open 0 p) refl b.1.0 in
        let is = there.is in
        let rest = there.least.least qs (omega (arith, b.0)) b.1.2 in
        let price = price_of net built prices range w valid ends taken s n lt long (p ∷ qs) in
        subst (λ (xs : List Place). z ≤ℤ path_price net (edge_price net w prices) s xs)
        (sym head.1) (omega (arith, ints, is, rest, price))

    pub none_from : pos (2 ^ 61) ≤ℤ z → (ps : List Place)
        → MayGo net (starting last p) (UsesNothing net taken) s ps → ⊥
    none_from far ps goes =
        let le = least_from ps goes in
        let small = (path_is_small net w prices s ps built valid range lt goes.path).high in
        absurd (omega (arith, ints, far, le, small))

    abbrev IsIt : Type 0
    IsIt = IsLeastCost net (edge_price net w prices) (starting last p) (UsesNothing net taken) s z

    found : (qs : List Place) → length (p ∷ qs) ≡ n → Passes t 0 None (p ∷ qs)
        → rest_price t 0 None (p ∷ qs) ≤ℤ z → IsIt
    found qs size all le =
        let goes = goes_of net built prices range w valid ends taken s n lt long (p ∷ qs) size
        all in
        let price = price_of net built prices range w valid ends taken s n lt long (p ∷ qs) in
        let goes2 : MayGo net (starting last p) (UsesNothing net taken) s (p ∷ qs) = record {
          path = goes.path;
          has_ends = record { first = refl; last = goes.has_ends.last };
          is_clear = goes.is_clear;
        } in
        let above = least_from (p ∷ qs) goes2 in record {
          way = p ∷ qs;
          is_least = record {
            goes = goes2;
            least = λ rs other. let b = least_from rs other in omega (arith, ints, le, price, b);
          };
          is = omega (arith, ints, le, price, above);
        }

    comes : (b : Bool) → IsTrue (not b || true)
    comes true = refl
    comes false = refl

    start_comes : IsTrue (t.may_come 0 None p)
    start_comes = comes (is_across (edge s (layer net s 0) None p))

    pub some_from : z <ℤ pos (2 ^ 61) → IsIt
    some_from near = by (t.is_open 0 p) refl where
      by : (b : Bool) → t.is_open 0 p ≡ b → IsIt
      by true e =
          let there = opened true e refl in
          let is = there.is in
          let slack = rows.slacks 0 (omega arith) (let o = order_ in omega (arith, long, o)) in
          let way = slack.way_low None p in
          let cell = slack.low p (subst IsTrue (sym e) refl) in
          let f = few_ in
          let size : suc (n - 1) ≡ n = let o = order_ in omega (arith, long, o) in
          elim there.least.met as (λ _. IsIt) [
            | inl path ↦
                let m = path.3 in
                let many = path.1 in
                found path.0 (omega (arith, many, size))
                (subst IsTrue (sym e) refl, start_comes, path.2)
                (omega (arith, ints, is, m))
            | inr far ↦ absurd (omega (arith, ints, far, is, near, way, cell, f))
          ]
      by false e =
          let shut = subst (λ (b : Bool). IsFrom b t (n - 1) 0 p (slack_at n 1)
          (at (row 0) (number p))) e from_row in
          let slack = rows.slacks 0 (omega arith) (let o = order_ in omega (arith, long, o)) in
          let way = slack.way_low None p in
          absurd (omega (arith, ints, shut, near, way))

    -- what the code found of the place
    pub cost_from : (way : ℕ → ℤ) → t.way 0 None p ≡ way (number p) → (o : Option ℤ)
        → IsStart way (row 0) (number p) o → IsCostFrom net w prices taken s last p o
    cost_from way is None far = none_from (subst (λ (x : ℤ). pos (2 ^ 61)
        ≤ℤ (x +ℤ at (row 0) (number p))) (sym is) far)
    cost_from way is (Some x) near = subst (λ (x : ℤ). IsLeastCost net
        (edge_price net w prices) (starting last p) (UsesNothing net taken) s x)
        (let e = near.0 in omega (arith, ints, e, is))
        (some_from (let e = near.0 in let l = near.1 in omega (arith, ints, e, l, is)))
