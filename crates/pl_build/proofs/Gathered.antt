-- What paths bring into each layer, edge by edge and strand by strand.
use Rattle.std.proofs.Common.{◌≡◌, ℕ, suc, ◌+◌, ◌-◌, ◌<◌, inl, inr, true, false, cond, List, []}
use Rattle.std.proofs.Common.{◌∷◌, ◌++◌, length, get_or, take, drop, map, filter, Some, None}
use Rattle.std.proofs.Common.{Option, refl, sym, ap, ◌∙◌, arith, append_assoc}
use Rattle.std.specs.Prelude.{slice_set}
use Rattle.std.proofs.lemmas.Bool.{cases_eq, eq-eqb, ne_eqb}
use Rattle.std.proofs.lemmas.List.{get_or-set_same, get_or-set_other, map-append, take_all}
use Rattle.std.proofs.lemmas.List.Elements.{filter-append}
use Rattle.pra_base.specs.declared.ids.Place.{Place}
use Rattle.pra_base.specs.declared.code.VProc.{VProc}
use Rattle.net_form.specs.declared.net.Strand.{Strand}
use Rattle.net_form.specs.declared.net.Net.{Net}
use Rattle.net_form.specs.Admitted.{layer_of, no_strand}
use Rattle.net_form.specs.Flow.{Edge, edges, flow_from}
use Rattle.net_gate.proofs.Paths.{flow_drop}
use Rattle.pl_moves.specs.declared.transfer.Pair.{Pair}
use Rattle.pl_place.specs.Behind.{pair_of}
use Rattle.pl_build.specs.Layers.{unrouted, comes_into, pairs_into, layer}

module _ (code : VProc) (net : Net) where
  abbrev pub into : ℕ → List Edge → List Pair
  into n es = pairs_into code net n es

  abbrev pub pair : Edge → Pair
  pair e = pair_of (unrouted code net) e

  into_yes : (n : ℕ) (e : Edge) (es : List Edge) → comes_into net n e ≡ true → into n (e ∷ es) ≡
      pair e ∷ into n es
  into_yes n e es t = ap (λ b. map pair
      (cond b (e ∷ filter (comes_into net n) es) (filter (comes_into net n) es))) t

  into_no : (n : ℕ) (e : Edge) (es : List Edge) → comes_into net n e ≡ false → into n (e ∷ es) ≡
      into n es
  into_no n e es t = ap (λ b. map pair
      (cond b (e ∷ filter (comes_into net n) es) (filter (comes_into net n) es))) t

  pub into_append : (n : ℕ) (es ds : List Edge) → into n (es ++ ds) ≡ into n es ++ into n ds
  into_append n es ds = ap (map pair) (filter-append (comes_into net n) es ds) ∙ map-append pair
      (filter (comes_into net n) es) (filter (comes_into net n) ds)

  -- the pair of the first edge is put to its layer
  pub put_first : (layers : List (List Pair)) (at : ℕ) (e : Edge) (x : Pair) (es : List Edge) →
      at < length layers → layer_of net e ≡ at → x ≡ pair e
      → (n : ℕ) → layer (slice_set layers at (layer layers at ++ x ∷ [])) n ++ into n es ≡
      layer layers n ++ into n (e ∷ es)
  put_first layers at e x es lt is same n =
      elim (cases_eq n at) as (λ _. layer (slice_set layers at (layer layers at ++ x ∷ [])) n
      ++ into n es ≡ layer layers n ++ into n (e ∷ es)) [
        | inl here ↦
            let old = ap (layer layers) here in
            let new : layer (slice_set layers at (layer layers at ++ x ∷ [])) n ≡ layer layers at
            ++ x ∷ [] =
            ap (layer (slice_set layers at (layer layers at ++ x ∷ []))) here
            ∙ get_or-set_same layers at (layer layers at ++ x ∷ []) [] lt in
            ap (λ (ps : List Pair). ps ++ into n es) new
            ∙ append_assoc (layer layers at) (x ∷ []) (into n es)
            ∙ ap (λ (y : Pair). layer layers at ++ y ∷ into n es) same
            ∙ ap (λ (ps : List Pair). layer layers at ++ ps)
            (sym (into_yes n e es (eq-eqb (layer_of net e) n (is ∙ sym here))))
            ∙ ap (λ (ps : List Pair). ps ++ into n (e ∷ es)) (sym old)
        | inr apart ↦
            ap (λ (ps : List Pair). ps ++ into n es)
            (get_or-set_other layers at n (layer layers at ++ x ∷ []) [] apart)
            ∙ ap (λ (ps : List Pair). layer layers n ++ ps)
            (sym (into_no n e es (ne_eqb (layer_of net e) n
            (λ same_layer. apart (sym same_layer ∙ is)))))
      ]

  -- the first place of a path, and the others
  pub path_step : (s k n : ℕ) (from : Option Place) (xs : List Place) (d : Place) → 0 < length xs
      → into n (edges s k from xs) ≡
      into n (record { strand = s; layer = k; from = from; to = get_or xs 0 d } ∷ edges s
      (suc k) (Some (get_or xs 0 d)) (take (length xs - 1) (drop 1 xs)))
  path_step s k n from [] d some = absurd (omega (arith, some))
  path_step s k n from (x ∷ xs) d some =
      ap (λ (ys : List Place). into n
      (record { strand = s; layer = k; from = from; to = x } ∷ edges s (suc k) (Some x) ys))
      (sym (take_all (suc (length xs) - 1) xs (omega arith)))

  pub path_done : (s k n : ℕ) (from : Option Place) (xs : List Place) → length xs < 1 →
      into n (edges s k from xs) ≡ []
  path_done s k n from [] none = refl
  path_done s k n from (x ∷ xs) none = absurd (omega (arith, none))

  -- one path more
  pub strand_step : (ts : List Strand) (rs : List (List Place)) (i n : ℕ) (old new : List Pair) →
      i < length ts → i < length rs
      → new ≡ old ++ into n (edges i (get_or ts i no_strand).first None (get_or rs i []))
      → new ++ into n (flow_from (i + 1) (drop (i + 1) ts) (drop (i + 1) rs)) ≡ old
      ++ into n (flow_from i (drop i ts) (drop i rs))
  strand_step ts rs i n old new one two is =
      let path = edges i (get_or ts i no_strand).first None (get_or rs i []) in
      let more = flow_from (i + 1) (drop (i + 1) ts) (drop (i + 1) rs) in
      ap (λ (ps : List Pair). ps ++ into n more) is
      ∙ append_assoc old (into n path) (into n more)
      ∙ ap (λ (ps : List Pair). old ++ ps)
      (sym (into_append n path more)
      ∙ ap (into n) (sym (flow_drop ts rs i no_strand [] one two)))
