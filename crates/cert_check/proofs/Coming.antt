-- Paths that come to a place of a layer, longer by a layer.
use Rattle.std.proofs.Common.{◌≡◌, ℕ, suc, ◌+◌, ◌≤◌, ℤ, ◌+ℤ◌, List, [], ◌∷◌, ◌++◌, length}
use Rattle.std.proofs.Common.{All, Option, Some, None, refl, sym, ap, ◌∙◌, subst, arith}
use Rattle.std.proofs.Common.{length-append}
use Rattle.std.specs.Prelude.{IsTrue}
use Rattle.std.proofs.lemmas.Int.{ints}
use Rattle.std.proofs.lemmas.List.Elements.{All-head, All-tail, All-cons, All-nil, All-push}
use Rattle.pra_base.specs.declared.ids.Place.{Place}
use Rattle.net_form.specs.declared.net.Net.{Net}
use Rattle.net_form.specs.Admitted.{strand_at, in_mask, stays_across}
use Rattle.net_form.specs.Flow.{Edge, edges}
use Rattle.net_dual.specs.Priced.{total}
use Rattle.net_dual.specs.Paths.{path_edges, path_price}
use Rattle.net_dual.proofs.Totals.{total-append}
use Rattle.cert_check.specs.Tolls.{edge}
use Rattle.cert_check.specs.Pass.{way_to, LeadsTo}

-- the last place, or the one before all
abbrev last_of : Option Place → List Place → Option Place
last_of p [] = p
last_of p (q ∷ qs) = last_of (Some q) qs

last_of_coming : (o : Option Place) (before : List Place) (p : Place)
    → last_of o (way_to before p) ≡ Some p
last_of_coming o [] p = refl
last_of_coming o (x ∷ xs) p = last_of_coming (Some x) xs p

edges_more : (s l : ℕ) (p : Option Place) (ps : List Place) (q : Place)
    → edges s l p (way_to ps q)
    ≡ edges s l p ps ++ edge s (l + length ps) (last_of p ps) q ∷ []
edges_more s l p [] q = let e : l ≡ l + 0 = omega arith in ap (λ n. edge s n p q ∷ []) e
edges_more s l p (x ∷ ps) q =
    let e : suc l + length ps ≡ l + suc (length ps) = omega arith in
    ap (λ es. edge s l p x ∷ es) (edges_more s (suc l) (Some x) ps q
    ∙ ap (λ n. edges s (suc l) (Some x) ps ++ edge s n (last_of (Some x) ps) q ∷ []) e)

All-left : {X : Type 0} (P : X → Type 0) → (xs ys : List X) → All P (xs ++ ys) → All P xs
All-left P [] ys h = All-nil P
All-left P (x ∷ xs) ys h = All-cons P x xs (All-head P x (xs ++ ys) h)
    (All-left P xs ys (All-tail P x (xs ++ ys) h))

All-last : {X : Type 0} (P : X → Type 0) → (xs : List X) (y : X) → All P (xs ++ y ∷ []) → P y
All-last P [] y h = All-head P y [] h
All-last P (x ∷ xs) y h = All-last P xs y (All-tail P x (xs ++ y ∷ []) h)

pub All-one : {X : Type 0} (P : X → Type 0) → (x : X) → P x → All P (x ∷ [])
All-one P x h = All-cons P x [] h (All-nil P)

-- a path that is not empty comes to a place
pub record Comes (ps : List Place) : Type 0 where
  pub before : List Place
  pub to : Place
  pub is : ps ≡ way_to before to

pub comes : (x : Place) (xs : List Place) → Comes (x ∷ xs)
comes x [] = record { before = []; to = x; is = refl }
comes x (y ∷ ys) =
    let rest = comes y ys in
    record { before = x ∷ rest.before; to = rest.to; is = ap (λ zs. x ∷ zs) rest.is }

module _ (net : Net) (s : ℕ) where
  edges_at : (l : ℕ) (front : List Place) (p q : Place) → (strand_at net s).first + length front ≡ l
      → path_edges net s (way_to (way_to front p) q)
      ≡ path_edges net s (way_to front p) ++ edge s (suc l) (Some p) q ∷ []
  edges_at l front p q long =
      let first = (strand_at net s).first in
      let two = length-append front (p ∷ []) in
      let at : first + length (way_to front p) ≡ suc l = omega arith in
      edges_more s first None (way_to front p) q
      ∙ (λ i. path_edges net s (way_to front p)
      ++ edge s (at i) (last_of_coming None front p i) q ∷ [])

  pub price_on : (price : Edge → ℤ) (l : ℕ) (front : List Place) (p q : Place)
      → (strand_at net s).first + length front ≡ l
      → path_price net price s (way_to (way_to front p) q)
      ≡ path_price net price s (way_to front p) +ℤ price (edge s (suc l) (Some p) q)
  price_on price l front p q long =
      let es = path_edges net s (way_to front p) in
      let e = edge s (suc l) (Some p) q in
      omega (
        arith,
        ints,
        ap (total price) (edges_at l front p q long),
        total-append price es (e ∷ []),
      )

  pub comes_on : (l : ℕ) (front : List Place) (p q : Place) → LeadsTo net s l p front
      → IsTrue (in_mask net (edge s (suc l) (Some p) q))
      → IsTrue (stays_across (edge s (suc l) (Some p) q)) → LeadsTo net s (suc l) q (way_to front p)
  comes_on l front p q leads mask stays =
      let es = path_edges net s (way_to front p) in
      let e = edge s (suc l) (Some p) q in
      let two = length-append front (p ∷ []) in
      let is = edges_at l front p q leads.long in
      record {
        long = omega arith;
        masks = subst (All (λ e. IsTrue (in_mask net e))) (sym is)
            (All-push (λ e. IsTrue (in_mask net e)) es e leads.masks mask);
        across = subst (All (λ e. IsTrue (stays_across e))) (sym is)
            (All-push (λ e. IsTrue (stays_across e)) es e leads.across stays);
      }

  -- where it came from
  pub record Came (l : ℕ) (q : Place) (before : List Place) : Type 0 where
    pub front : List Place
    pub from : Place
    pub is : before ≡ way_to front from
    pub leads : LeadsTo net s l from front
    pub mask : IsTrue (in_mask net (edge s (suc l) (Some from) q))
    pub stays : IsTrue (stays_across (edge s (suc l) (Some from) q))

  came_from : (l : ℕ) (q p : Place) (front : List Place) → LeadsTo net s (suc l) q (way_to front p)
      → Came l q (way_to front p)
  came_from l q p front leads =
      let es = path_edges net s (way_to front p) in
      let e = edge s (suc l) (Some p) q in
      let two = length-append front (p ∷ []) in
      let long : (strand_at net s).first + length front ≡ l = omega arith in
      let is = edges_at l front p q long in
      let masks = subst (All (λ e. IsTrue (in_mask net e))) is leads.masks in
      let across = subst (All (λ e. IsTrue (stays_across e))) is leads.across in
      record {
        front = front;
        from = p;
        is = refl;
        leads = record {
          long = long;
          masks = All-left (λ e. IsTrue (in_mask net e)) es (e ∷ []) masks;
          across = All-left (λ e. IsTrue (stays_across e)) es (e ∷ []) across;
        };
        mask = All-last (λ e. IsTrue (in_mask net e)) es e masks;
        stays = All-last (λ e. IsTrue (stays_across e)) es e across;
      }

  pub came_on : (l : ℕ) (q : Place) (before : List Place) → (strand_at net s).first ≤ l
      → LeadsTo net s (suc l) q before → Came l q before
  came_on l q [] after leads = absurd (omega arith)
  came_on l q (x ∷ xs) after leads =
      let way = comes x xs in
      subst (Came l q) (sym way.is)
      (came_from l q way.to way.before (subst (LeadsTo net s (suc l) q) way.is leads))

  -- at the first layer there is nothing before
  pub nothing_before : (q : Place) (before : List Place)
      → LeadsTo net s (strand_at net s).first q before → before ≡ []
  nothing_before q [] leads = refl
  nothing_before q (x ∷ xs) leads = absurd (omega arith)
