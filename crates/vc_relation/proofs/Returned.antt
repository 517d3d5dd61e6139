-- A return keeps the relation of the calls below, and VAR parameters name what was lent.
use Rattle.std.proofs.Common.{◌≡◌, ℕ, suc, ◌*◌, ◌<◌, Bool, true, false, List, ◌∷◌, length, map}
use Rattle.std.proofs.Common.{Option, Some, None, refl, sym, ap, ◌∙◌, subst, arith}
use Rattle.std.specs.Prelude.{slice_get, nat_eq, if◌then◌else◌, ◌&&◌, unwrap_or}
use Rattle.std.proofs.lemmas.Bool.{ne_eqb, eq-eqb}
use Rattle.std.proofs.lemmas.List.{length-map}
use Rattle.ob_syntax.specs.declared.checked.CheckedProc.{CheckedProc}
use Rattle.ob_syntax.specs.declared.checked.Param.{Param}
use Rattle.ob_syntax.specs.declared.checked.Root.TheVariants as root
use Rattle.ob_mean.specs.declared.store.LiveCall.{LiveCall}
use Rattle.ob_mean.specs.declared.store.Location.{Location}
use Rattle.ob_mean.specs.declared.store.Object.TheVariants as mean
use Rattle.ob_mean.specs.Designators.{root_location}
use Rattle.ob_mean.specs.Store.{Store, whole}
use Rattle.vc_code.specs.declared.value.Object.{Object}
use Rattle.vc_code.specs.declared.value.Object.TheVariants.{Data, Aggregates, Cell}
use Rattle.vc_code.specs.declared.value.Value.TheVariants.{At}
use Rattle.vc_code.specs.Value.{Held}
use Rattle.vc_code.specs.Machine.{Activation, State, depth, cell, words_of, joined, live_in}
use Rattle.vc_code.specs.Machine.{returned}
use Rattle.vc_code.specs.Selected.{Vars}
use Rattle.vc_relation.specs.Layout.{IsLaidOut}
use Rattle.vc_relation.specs.Homes.{param_variable}
use Rattle.vc_relation.specs.Spots.{Spot, InVariable, InWord, IsBelow, placed_at, call_at, param_of}
use Rattle.vc_relation.specs.Relation.{SelectedModule, shapes_of, variable_in, content, number_at}
use Rattle.vc_relation.specs.Relation.{IsAddressOf, IsGiven, lent_in, Represents, held_at}
use Rattle.vc_relation.proofs.Apart.{call_depth}
use Rattle.vc_relation.proofs.Lives.{call_within, not_top, call_deeper, placed_deeper, IsAmong}
use Rattle.vc_relation.proofs.Lives.{spot_among}
use Rattle.vc_relation.proofs.Represented.{given_on, kept_on}

-- ---- a return

module _ (t : SelectedModule) (s : State Vars) (c : Activation Vars) (rest : List (Activation Vars))
    (below : s.below ≡ c ∷ rest) where
  abbrev after : State Vars
  after = returned s (c ∷ rest)

  not_own : (m : ℕ) (b : Bool) (n : ℕ) → m < n → (nat_eq m n && b) ≡ false
  not_own m b n lt = ap (λ a. a && b) (ne_eqb m n (λ e. omega (arith, e, lt)))

  count : length s.below ≡ suc (length rest)
  count = ap (λ cs. length cs) below

  content_back : (spot : Spot) → IsAmong (suc (length rest)) spot → content t after spot ≡
      content t s spot
  content_back (InVariable d v) among =
      sym (ap (λ o. variable_in o v) (not_top s.top s.below d (omega (arith, among, count))
      ∙ ap (λ cs. call_at cs d) below))
  content_back (InWord Data w) among = refl
  content_back (InWord (Aggregates m sum) w) among =
      sym (ap (λ ws. joined (slice_get ws w))
      (ap (λ b. if b then s.top.aggregates else words_of (shapes_of t) s.below (Aggregates m sum))
      (not_own m (nat_eq sum (depth (shapes_of t) (s.top ∷ s.below))) (length s.below)
      (omega (arith, among, count)))
      ∙ ap (λ cs. words_of (shapes_of t) cs (Aggregates m sum)) below))
  content_back (InWord (Cell m bytes k) w) among =
      sym (ap (λ ws. joined (slice_get ws w))
      (ap (λ b. if b then cell (shapes_of t) s.top k else words_of (shapes_of t) s.below
      (Cell m bytes k))
      (not_own m (nat_eq bytes (depth (shapes_of t) s.below)) (length s.below)
      (omega (arith, among, count)))
      ∙ ap (λ cs. words_of (shapes_of t) cs (Cell m bytes k)) below))

  module _ (call : LiveCall) (calls : List LiveCall) (store : Store) (laid : IsLaidOut t.program)
      (represents : Represents t (call ∷ calls) store s) where
    procs_below : map (λ p. p.proc) s.below ≡ map (λ p. p.proc.0) calls
    procs_below = tails s.top.proc call.proc.0 (map (λ p. p.proc) s.below)
        (map (λ p. p.proc.0) calls) represents.same_calls
      where
        tails : (a b : ℕ) (xs ys : List ℕ) → (a ∷ xs) ≡ (b ∷ ys) → xs ≡ ys
        tails a b xs ys e = cc

    lengths : length calls ≡ suc (length rest)
    lengths =
        sym (length-map calls (λ p. p.proc.0)) ∙ sym (ap (λ ps. length ps) procs_below)
        ∙ length-map s.below (λ p. p.proc) ∙ count

    pub returned_represents : Represents t calls store after
    returned_represents = record {
      same_calls = sym (ap (map (λ p. p.proc)) below) ∙ procs_below;
      values = λ l spot type_id at scalar.
          kept_on type_id (number_at store l) (number_at store l) (content t s spot)
          (content t after spot) refl
          (content_back spot (subst (λ n. IsAmong n spot) lengths
          (spot_among t.program t.frames calls l (placed_at spot type_id) at)))
          (represents.values l spot type_id
          (placed_deeper t.program t.frames call calls l (placed_at spot type_id) at) scalar);
      params = λ d k other lower proc param at has.
          given_on t lower param (lent_in other k)
          (content t s (InVariable d (param_variable proc k)))
          (content t after (InVariable d (param_variable proc k)))
          (content_back (InVariable d (param_variable proc k))
          (omega (
            arith,
            lengths,
            call_depth calls d (other, lower) at,
            call_within calls d (other, lower) at,
          )))
          (represents.params d k other lower proc param (call_deeper call calls d (other, lower) at)
          has);
    }

-- ---- VAR parameters

module _ (t : SelectedModule) (call : LiveCall) (below : List LiveCall) (store : Store)
    (s : State Vars) (represents : Represents t (call ∷ below) store s)
    (k : ℕ) (proc : CheckedProc) (param : Param)
    (has : param_of t.program call k ≡ Some (proc, param)) (by_var : param.by_var ≡ true) where
  top_call : call_at (call ∷ below) (suc (length below)) ≡ Some (call, below)
  top_call = ap (λ b. if b then Some (call, below) else call_at below (suc (length below)))
      (eq-eqb (suc (length below)) (suc (length below)) refl)

  lengths_are : length s.below ≡ length below
  lengths_are =
      let e : length (map (λ p. p.proc) (live_in s)) ≡ length (map (λ p. p.proc.0) (call ∷ below)) =
      ap (λ ps. length ps) represents.same_calls in
      omega (arith, e, length-map s.below (λ p. p.proc), length-map below (λ p. p.proc.0))

  held_there : content t s (InVariable (suc (length below)) (param_variable proc k)) ≡
      held_at s (param_variable proc k)
  held_there = ap (λ b. variable_in
      (if b then Some (s.top, s.below) else call_at s.below (suc (length below)))
      (param_variable proc k))
      (eq-eqb (suc (length below)) (suc (length s.below)) (omega (arith, lengths_are)))

  by_lent : (lent : Option Location) (held other : Held) → held ≡ other →
      IsGiven t below param lent held → IsAddressOf t (call ∷ below)
      (unwrap_or lent (whole (mean.Param (suc (length below)) k))) param.type_id other
  by_lent None held other e g = absurd (differ (sym by_var ∙ g))
    where
      differ : true ≡ false → ⊥
      differ d = cc
  by_lent (Some l) held other e g = record {
    object = g.1.object;
    word = g.1.word;
    place = placed_deeper t.program t.frames call below l
        (placed_at (InWord g.1.object g.1.word) param.type_id) g.1.place;
    address = sym e ∙ g.1.address;
  }

  pub names_address : IsAddressOf t (call ∷ below) (root_location (call ∷ below) (root.Param k))
      param.type_id (held_at s (param_variable proc k))
  names_address =
      by_lent (lent_in call k)
      (content t s (InVariable (suc (length below)) (param_variable proc k)))
      (held_at s (param_variable proc k)) held_there
      (represents.params (suc (length below)) k call below proc param top_call has)

  -- what was lent is of the module's data, or of a call below
  lent_below : (lent : Option Location) (held : Held) (x : Object) (byte : ℕ) →
      IsGiven t below param lent held → held ≡ Some (At x byte) → IsBelow (length below) x
  lent_below None held x byte g at = absurd (differ (sym by_var ∙ g))
    where
      differ : true ≡ false → ⊥
      differ d = cc
  lent_below (Some l) held x byte g at =
      subst (IsBelow (length below)) (same g.1.object x (4 * g.1.word) byte (sym g.1.address ∙ at))
      (spot_among t.program t.frames below l (placed_at (InWord g.1.object g.1.word) param.type_id)
      g.1.place)
    where
      same : (y z : Object) (m n : ℕ) → (let h : Held = Some (At y m) in h ≡ Some (At z n)) → y ≡ z
      same y z m n e = cc

  pub address_below : (x : Object) (byte : ℕ) → held_at s (param_variable proc k) ≡
      Some (At x byte) → IsBelow (length below) x
  address_below x byte at =
      lent_below (lent_in call k)
      (content t s (InVariable (suc (length below)) (param_variable proc k))) x byte
      (represents.params (suc (length below)) k call below proc param top_call has)
      (held_there ∙ at)
