-- Paths that a strand may take, and edges that are good.
use Rattle.std.proofs.Common.{ℕ, suc, ◌≡◌, ◌<◌, ◌≤◌, ◌+◌, ◌-◌, Bool, true, false, ◌&&◌, ◌||◌, not}
use Rattle.std.proofs.Common.{eqb, List, [], ◌∷◌, length, Option, Some, None, All, IsTrue, IfSome}
use Rattle.std.proofs.Common.{refl, sym, subst, ap, arith, slice_get}
use Rattle.std.proofs.lemmas.Bool.{eqb-true, eq-eqb, false≢true}
use Rattle.std.proofs.lemmas.List.Elements.{All-nil, All-cons, All-head, All-tail}
use Rattle.pra_base.specs.declared.ids.Place.{Place}
use Rattle.net_form.specs.declared.net.Strand.{Strand}
use Rattle.net_form.specs.declared.net.Net.{Net}
use Rattle.net_form.specs.declared.routes.Ends.{Ends}
use Rattle.net_form.specs.Flow.{Edge, edges, same_place}
use Rattle.net_form.specs.Admitted.{strand_at, stays_across}
use Rattle.net_form.proofs.PlaceEquality.{same_place-true, same_place-refl}
use Rattle.net_dual.specs.Paths.{IsPath, HasEnds, path_edges}
use Rattle.net_path.specs.Grounds.{edge, wants, suits_ends, is_open}

implied : (b c : Bool) → (b ≡ true → c ≡ true) → (not b || c) ≡ true
implied true c h = h refl
implied false c h = refl

implies : (b c : Bool) → (not b || c) ≡ true → b ≡ true → c ≡ true
implies true c h e = h
implies false c h e = absurd (false≢true e)

both : (a b : Bool) → a ≡ true → b ≡ true → (a && b) ≡ true
both true b ea eb = eb
both false b ea eb = absurd (false≢true ea)

first_of : (a b : Bool) → (a && b) ≡ true → a ≡ true
first_of true b h = refl
first_of false b h = h

second_of : (a b : Bool) → (a && b) ≡ true → b ≡ true
second_of true b h = h
second_of false b h = absurd (false≢true h)

suits_of : (o : Option Place) (q : Place) → IfSome o (λ p. Some q ≡ Some p) → wants o q ≡ true
suits_of None q h = refl
suits_of (Some p) q h = let e : q ≡ p = (cc) in
    subst (λ (r : Place). same_place p r ≡ true) (sym e) (same_place-refl p)

suits_to : (o : Option Place) (q : Place) → wants o q ≡ true → IfSome o (λ p. Some q ≡ Some p)
suits_to None q h = tt
suits_to (Some p) q h = ap (λ (r : Place). Some r) (sym (same_place-true p q h))

last_get : (q : Place) (r : Place) (rs : List Place)
    → slice_get (q ∷ (r ∷ rs)) (length (q ∷ (r ∷ rs)) - 1)
    ≡ slice_get (r ∷ rs) (length (r ∷ rs) - 1)
last_get q r rs = ap (λ (k : ℕ). slice_get (q ∷ (r ∷ rs)) k) (index (length rs)) where
  index : (n : ℕ) → suc (suc n) - 1 ≡ suc (suc n - 1)
  index n = omega arith

module _ (ends : Ends) (t : Strand) (s : ℕ) where
  Suits : Edge → Type 0
  Suits e = suits_ends ends t e ≡ true

  suits_head : (l : ℕ) (p : Option Place) (q : Place) → (l ≡ t.first → wants ends.first q ≡ true)
      → (l ≡ t.last → wants ends.last q ≡ true) → suits_ends ends t (edge s l p q) ≡ true
  suits_head l p q first last =
      both (not (eqb l t.first) || wants ends.first q) (not (eqb l t.last) || wants ends.last q)
      (implied (eqb l t.first) (wants ends.first q) (λ e. first (eqb-true l t.first e)))
      (implied (eqb l t.last) (wants ends.last q) (λ e. last (eqb-true l t.last e)))

  pub all_suit : (l : ℕ) (p : Option Place) (qs : List Place) → l + length qs ≡ t.last + 1
      → t.first ≤ l → (l ≡ t.first → IfSome ends.first (λ p. slice_get qs 0 ≡ Some p))
      → IfSome ends.last (λ p. slice_get qs (length qs - 1) ≡ Some p)
      → All (λ e. suits_ends ends t e ≡ true) (edges s l p qs)
  all_suit l p [] long le first last = All-nil (λ e. suits_ends ends t e ≡ true)
  all_suit l p (q ∷ []) long le first last =
      All-cons (λ e. suits_ends ends t e ≡ true) (edge s l p q) []
      (suits_head l p q (λ e. suits_of ends.first q (first e)) (λ e. suits_of ends.last q last))
      (All-nil (λ e. suits_ends ends t e ≡ true))
  all_suit l p (q ∷ (r ∷ rs)) long le first last =
      All-cons (λ e. suits_ends ends t e ≡ true) (edge s l p q) (edges s (suc l) (Some q) (r ∷ rs))
      (suits_head l p q (λ e. suits_of ends.first q (first e))
      (λ e. absurd (omega (arith, e, long))))
      (all_suit (suc l) (Some q)
      (r ∷ rs) (omega (arith, long)) (omega arith) (λ e. absurd (omega (arith, e, le)))
      (subst (λ (o : Option Place). IfSome ends.last (λ p. o ≡ Some p)) (last_get q r rs) last))

  -- and back
  suits_first : (l : ℕ) (p : Option Place) (q : Place) → suits_ends ends t (edge s l p q) ≡ true
      → l ≡ t.first → wants ends.first q ≡ true
  suits_first l p q h e = implies (eqb l t.first) (wants ends.first q)
      (first_of (not (eqb l t.first) || wants ends.first q)
      (not (eqb l t.last) || wants ends.last q) h) (eq-eqb l t.first e)

  suits_last : (l : ℕ) (p : Option Place) (q : Place) → suits_ends ends t (edge s l p q) ≡ true
      → l ≡ t.last → wants ends.last q ≡ true
  suits_last l p q h e = implies (eqb l t.last) (wants ends.last q)
      (second_of (not (eqb l t.first) || wants ends.first q)
      (not (eqb l t.last) || wants ends.last q) h) (eq-eqb l t.last e)

  pub begins_right : (l : ℕ) (p : Option Place) (qs : List Place)
      → 0 < length qs → l ≡ t.first → All (λ e. suits_ends ends t e ≡ true) (edges s l p qs)
      → IfSome ends.first (λ p. slice_get qs 0 ≡ Some p)
  begins_right l p [] some e all = absurd (omega (arith, some))
  begins_right l p (q ∷ qs) some e all = suits_to ends.first q (suits_first l p q (All-head
      (λ e. suits_ends ends t e ≡ true) (edge s l p q) (edges s (suc l) (Some q) qs) all) e)

  pub ends_right : (l : ℕ) (p : Option Place) (qs : List Place) → 0 < length qs
      → l + length qs ≡ t.last + 1 → All (λ e. suits_ends ends t e ≡ true) (edges s l p qs)
      → IfSome ends.last (λ p. slice_get qs (length qs - 1) ≡ Some p)
  ends_right l p [] some long all = absurd (omega (arith, some))
  ends_right l p (q ∷ []) some long all = suits_to ends.last q (suits_last l p q
      (All-head (λ e. suits_ends ends t e ≡ true) (edge s l p q) [] all) (omega (arith, long)))
  ends_right l p (q ∷ (r ∷ rs)) some long all =
      subst (λ (o : Option Place). IfSome ends.last (λ p. o ≡ Some p)) (sym (last_get q r rs))
      (ends_right (suc l) (Some q) (r ∷ rs) (omega arith) (omega (arith, long)) (All-tail
      (λ e. suits_ends ends t e ≡ true) (edge s l p q) (edges s (suc l) (Some q) (r ∷ rs)) all))

-- a path of good edges is one that may be taken, and each such path has good edges
module _ (net : Net) (ends : Ends) (free : Edge → Bool) (s : ℕ)
    (order : (strand_at net s).first ≤ (strand_at net s).last) where
  abbrev IsGood : Edge → Type 0
  IsGood e = IsTrue (is_open net ends free s e) × IsTrue (stays_across e)

  pub good_of : (ps : List Place) → IsPath net s ps → HasEnds ends ps
      → All (λ e. free e ≡ true) (path_edges net s ps) → All IsGood (path_edges net s ps)
  good_of ps path has_ends clear =
      let t = strand_at net s in
      let suit = all_suit ends t s t.first None ps path.long (omega arith) (λ e. has_ends.first)
      has_ends.last in
      λ k d lt. (
        both _ _ (both _ _ (path.masks k d lt) (suit k d lt)) (clear k d lt),
        path.across k d lt,
      )

  pub path_of : (ps : List Place) → (strand_at net s).first + length ps ≡ (strand_at net s).last + 1
      → All IsGood (path_edges net s ps)
      → IsPath net s ps × HasEnds ends ps × All (λ e. free e ≡ true) (path_edges net s ps)
  path_of ps long good =
      let t = strand_at net s in
      let suit : All (λ e. suits_ends ends t e ≡ true) (path_edges net s ps) =
      λ k d lt. second_of _ _ (first_of _ _ (good k d lt).0) in (
        record {
          long = long;
          masks = λ k d lt. first_of _ _ (first_of _ _ (good k d lt).0);
          across = λ k d lt. (good k d lt).1;
        },
        record {
          first = begins_right ends t s t.first None ps (omega (arith, long)) refl suit;
          last = ends_right ends t s t.first None ps (omega (arith, long)) long suit;
        },
        λ k d lt. second_of _ _ (good k d lt).0,
      )
