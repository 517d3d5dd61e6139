-- What a row of the terrain read against its order says of the paths to each of its places.
use Rattle.std.proofs.Common.{ℕ, suc, ◌≡◌, ◌<◌, ◌≤◌, ◌+◌, ◌-◌, ◌^◌, Bool, true, false, ℤ, pos, ◌+ℤ◌}
use Rattle.std.proofs.Common.{◌≤ℤ◌, ◌<ℤ◌, List, [], ◌∷◌, length, slice_get, Option, Some, None}
use Rattle.std.proofs.Common.{◌||◌, not, IsTrue, refl, sym, subst, ap, ◌∙◌, arith, inl, inr}
use mathlib.Core.List.{reverse}
use Rattle.std.proofs.lemmas.Int.{ints}
use Rattle.std.proofs.lemmas.Bool.{false≢true}
use Rattle.std.proofs.lemmas.List.{length-reverse, reverse-reverse}
use Rattle.pra_list.proofs.Options.{none_some, some_same}
use Rattle.pra_base.specs.declared.ids.Place.{Place}
use Rattle.pra_base.specs.Places.{number}
use Rattle.net_cost.specs.declared.weights.Weights.{Weights}
use Rattle.net_cost.specs.Weights.{IsValid}
use Rattle.net_form.specs.declared.net.Net.{Net}
use Rattle.net_form.specs.declared.prices.Prices.{Prices}
use Rattle.net_form.specs.declared.routes.Ends.{Ends}
use Rattle.net_form.specs.declared.taken.Taken.{Taken}
use Rattle.net_form.specs.Admitted.{strand_at, is_across}
use Rattle.net_form.specs.InUse.{UsesNothing}
use Rattle.net_laws.specs.Built.{IsBuilt}
use Rattle.net_dual.specs.Priced.{edge_price, AreInRange}
use Rattle.net_dual.specs.Paths.{MayGo, IsLeastCost, path_price}
use Rattle.net_dual.proofs.Small.{path_is_small}
use Rattle.net_path.specs.Choices.{IsStart}
use Rattle.net_path.specs.Grounds.{terrain, is_free, edge, layer}
use Rattle.net_path.specs.Rests.{Terrain, Passes, rest_price, IsFrom, IsPaidThere, AreRows}
use Rattle.net_path.specs.Rows.{slack_at}
use Rattle.net_path.specs.Starts.{stopping, IsCostTo}
use Rattle.net_path.specs.Ways.{at, start_price}
use Rattle.net_path.specs.declared.crossbar.Ways.{Ways}
use Rattle.net_path.proofs.LeastPath.{order, few, passes, price_of, goes_of}
use Rattle.net_path.proofs.Turned.{turned, price_back, passes_back, passes_forth, last_is_first}

-- a path that ends at a place, as one with a head when it is turned
head_is : (p : Place) (ps : List Place) → slice_get ps 0 ≡ Some p
    → (qs : List Place) × (ps ≡ p ∷ qs)
head_is p [] e = absurd (none_some e)
head_is p (q ∷ qs) e = (qs, ap (λ (r : Place). r ∷ qs) (some_same q p e))

module _ (net : Net) (built : IsBuilt net)
    (prices : Prices) (range : AreInRange net prices) (w : Weights) (valid : IsValid w)
    (first : Option Place) (taken : Taken) (s n : ℕ) (lt : s < length net.strands)
    (long : (strand_at net s).first + n ≡ (strand_at net s).last + 1) (row : ℕ → List ℤ) where
  abbrev ends : Ends
  ends = record { first = first; last = None }

  abbrev t : Terrain
  t = terrain net w prices ends (is_free net taken) s

  abbrev u : Terrain
  u = turned t n

  module _ (free : (q : Place) → t.way 0 None q ≡ pos 0) (rows : AreRows u row (slack_at n) n 0)
      (p : Place) where
    abbrev z : ℤ
    z = at (row 0) (number p)

    -- with the end free it may go the same way
    freed : (ps : List Place) → MayGo net (stopping first p) (UsesNothing net taken) s ps
        → MayGo net ends (UsesNothing net taken) s ps
    freed ps goes = record {
      path = goes.path;
      has_ends = record { first = goes.has_ends.first; last = tt };
      is_clear = goes.is_clear;
    }

    order_ : (strand_at net s).first ≤ (strand_at net s).last
    order_ = order net built prices range w valid ends taken s n lt long

    few_ : n ≤ 24838
    few_ = few net built prices range w valid ends taken s n lt long

    from_row : IsFrom (u.is_open 0 p) u (n - 1) 0 p (slack_at n 1) (at (row 0) (number p))
    from_row = rows.rows (n - 1) 0 (omega arith)
        (let o = order_ in omega (arith, long, o)) p

    opened : (b : Bool) → u.is_open 0 p ≡ b → IsTrue b
        → IsPaidThere u (n - 1) 0 p (slack_at n 1) (at (row 0) (number p))
    opened true e h = subst (λ (b : Bool). IsFrom b u (n - 1) 0 p (slack_at n 1)
        (at (row 0) (number p))) e from_row
    opened false e h = absurd (false≢true h)

    price_at : (ps : List Place) → length ps ≡ n
        → rest_price u 0 None (reverse ps) ≡ path_price net (edge_price net w prices) s ps
    price_at ps size = price_back t n ps size free
        ∙ price_of net built prices range w valid ends taken s n lt long ps

    -- no path costs less
    least_to : (ps : List Place) → MayGo net (stopping first p) (UsesNothing net taken) s ps
        → z ≤ℤ path_price net (edge_price net w prices) s ps
    least_to ps goes =
        let head = head_is p (reverse ps) (sym (last_is_first ps) ∙ goes.has_ends.last) in
        let qs = head.0 in
        let b = passes net built prices range w valid ends taken s n lt long ps (freed ps goes) in
        let back : Passes u 0 None (p ∷ qs) = subst (λ (xs : List Place). Passes u 0 None xs)
        head.1 (passes_back t n ps b.0 b.1) in
        let size : length (p ∷ qs) ≡ n = ap (λ (xs : List Place). length xs) (sym head.1)
        ∙ length-reverse ps ∙ b.0 in
        let there = opened (u.is_open 0 p) refl back.0 in
        let is = there.is in
        let rest = there.least.least qs (omega (arith, size)) back.2 in
        let price = price_at ps b.0 in
        let same = ap (λ (xs : List Place). rest_price u 0 None xs) head.1 in
        omega (arith, ints, is, rest, price, same)

    pub none_to : pos (2 ^ 61) ≤ℤ z → (ps : List Place)
        → MayGo net (stopping first p) (UsesNothing net taken) s ps → ⊥
    none_to far ps goes =
        let le = least_to ps goes in
        let small = (path_is_small net w prices s ps built valid range lt goes.path).high in
        absurd (omega (arith, ints, far, le, small))

    abbrev IsIt : Type 0
    IsIt = IsLeastCost net (edge_price net w prices) (stopping first p) (UsesNothing net taken) s z

    comes : (b : Bool) → IsTrue (not b || true)
    comes true = refl
    comes false = refl

    start_comes : (q : Place) → IsTrue (t.may_come 0 None q)
    start_comes q = comes (is_across (edge s (layer net s 0) None q))

    found : (qs : List Place) → length (p ∷ qs) ≡ n → Passes u 0 None (p ∷ qs)
        → rest_price u 0 None (p ∷ qs) ≤ℤ z → IsIt
    found qs size all le =
        let ps = reverse (p ∷ qs) in
        let back : reverse ps ≡ p ∷ qs = reverse-reverse (p ∷ qs) in
        let many : length ps ≡ n = length-reverse (p ∷ qs) ∙ size in
        let there : Passes t 0 None ps = passes_forth t n ps many start_comes
        (subst (λ (xs : List Place). Passes u 0 None xs) (sym back) all) in
        let goes = goes_of net built prices range w valid ends taken s n lt long ps many there in
        let price = price_at ps many in
        let same = ap (λ (xs : List Place). rest_price u 0 None xs) back in
        let goes2 : MayGo net (stopping first p) (UsesNothing net taken) s ps = record {
          path = goes.path;
          has_ends = record {
            first = goes.has_ends.first;
            last = last_is_first ps ∙ ap (λ (xs : List Place). slice_get xs 0) back;
          };
          is_clear = goes.is_clear;
        } in
        let above = least_to ps goes2 in record {
          way = ps;
          is_least = record {
            goes = goes2;
            least = λ rs other.
                let b = least_to rs other in omega (arith, ints, le, price, same, b);
          };
          is = omega (arith, ints, le, price, same, above);
        }

    pub some_to : z <ℤ pos (2 ^ 61) → IsIt
    some_to near = by (u.is_open 0 p) refl where
      by : (b : Bool) → u.is_open 0 p ≡ b → IsIt
      by true e =
          let there = opened true e refl in
          let is = there.is in
          let slack = rows.slacks 0 (omega arith) (let o = order_ in omega (arith, long, o)) in
          let cell = slack.low p (subst IsTrue (sym e) refl) in
          let f = few_ in
          let size : suc (n - 1) ≡ n = let o = order_ in omega (arith, long, o) in
          elim there.least.met as (λ _. IsIt) [
            | inl path ↦
                let m = path.3 in
                let many = path.1 in
                found path.0 (omega (arith, many, size))
                (subst IsTrue (sym e) refl, refl, path.2)
                (omega (arith, ints, is, m))
            | inr far ↦ absurd (omega (arith, ints, far, is, near, cell, f))
          ]
      by false e =
          let shut = subst (λ (b : Bool). IsFrom b u (n - 1) 0 p (slack_at n 1)
          (at (row 0) (number p))) e from_row in
          absurd (omega (arith, ints, shut, near))

    -- what the code found of the place
    pub cost_to : (ways : Ways) (o : Option ℤ)
        → IsStart (start_price ways false) (row 0) (number p) o
        → IsCostTo net w prices taken s first p o
    cost_to ways None far = none_to (let f : pos (2 ^ 61) ≤ℤ (pos 0 +ℤ z) = far in
        omega (arith, ints, f))
    cost_to ways (Some x) near = subst (λ (x : ℤ). IsLeastCost net
        (edge_price net w prices) (stopping first p) (UsesNothing net taken) s x)
        (let e = near.0 in omega (arith, ints, e))
        (some_to (let e = near.0 in let l = near.1 in omega (arith, ints, e, l)))
