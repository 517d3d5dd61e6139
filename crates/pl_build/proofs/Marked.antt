-- Which variables come to memory, strand by strand, and which have a slot.
use Rattle.std.proofs.Common.{◌≡◌, ℕ, suc, ◌+◌, ◌<◌, inl, inr, Bool, true, false, ◌&&◌, ◌||◌}
use Rattle.std.proofs.Common.{List, [], ◌∷◌, ◌++◌, length, get_or, drop, filter, Option, Some, None}
use Rattle.std.proofs.Common.{refl, sym, ap, ap₂, ◌∙◌}
use Rattle.std.specs.Prelude.{nat_eq, slice_set}
use Rattle.std.specs.List.{list_any, range_with_len}
use Rattle.std.proofs.lemmas.Bool.{cases_eq, eq-eqb, ne_eqb}
use Rattle.std.proofs.lemmas.List.{get_or-set_same, get_or-set_other}
use Rattle.std.proofs.lemmas.List.Elements.{filter-append}
use Rattle.pra_list.proofs.Growing.{range_next}
use Rattle.pra_base.specs.declared.ids.Place.{Place}
use Rattle.pra_base.specs.Places.{number, needs_slot}
use Rattle.net_form.specs.declared.net.Net.{Net}
use Rattle.net_form.specs.Admitted.{strand_at, no_strand}
use Rattle.net_form.specs.Flow.{Edge, edges, flow_from}
use Rattle.net_gate.proofs.Paths.{flow_drop}
use Rattle.pl_build.specs.Slots.{marked, comes_to_memory, only_if}

-- some of the edges brings the variable to memory
abbrev pub any_comes : Net → ℕ → List Edge → Bool
any_comes net v es = list_any
    (λ (e : Edge). nat_eq (strand_at net e.strand).var.0 v && needs_slot (number e.to)) es

any_append : {X : Type 0} (p : X → Bool) (xs ys : List X) → list_any p (xs ++ ys) ≡
    (list_any p xs || list_any p ys)
any_append p [] ys = refl
any_append p (x ∷ xs) ys = or_next (p x) (list_any p (xs ++ ys)) (list_any p xs) (list_any p ys)
    (any_append p xs ys)
  where
    or_next : (a b c d : Bool) → b ≡ (c || d) → (a || b) ≡ ((a || c) || d)
    or_next true b c d e = refl
    or_next false b c d e = e

path_comes : (net : Net) (v s k : ℕ) (from : Option Place) (ps : List Place) →
    any_comes net v (edges s k from ps) ≡ (nat_eq (strand_at net s).var.0 v && comes_to_memory ps)
path_comes net v s k from [] = no_more (nat_eq (strand_at net s).var.0 v)
  where
    no_more : (a : Bool) → false ≡ (a && false)
    no_more true = refl
    no_more false = refl
path_comes net v s k from (q ∷ ps) =
    spread (nat_eq (strand_at net s).var.0 v) (needs_slot (number q))
    (any_comes net v (edges s (suc k) (Some q) ps)) (comes_to_memory ps)
    (path_comes net v s (suc k) (Some q) ps)
  where
    spread : (a b c d : Bool) → c ≡ (a && d) → ((a && b) || c) ≡ (a && (b || d))
    spread true b c d e = ap (λ x. b || x) e
    spread false b c d e = e

or_moved : (m a b c : Bool) → ((m || a) || b) ≡ (m || (a || b))
or_moved true a b c = refl
or_moved false a b c = refl

-- the variables that are marked once strand i is taken too
pub strand_comes : (net : Net) (rs : List (List Place)) (i v : ℕ) (old new : Bool) →
    i < length net.strands → i < length rs
    → new ≡ (old || (nat_eq (strand_at net i).var.0 v && comes_to_memory (get_or rs i [])))
    → (new || any_comes net v (flow_from (i + 1) (drop (i + 1) net.strands) (drop (i + 1) rs))) ≡
    (old || any_comes net v (flow_from i (drop i net.strands) (drop i rs)))
strand_comes net rs i v old new one two is =
    let path = edges i (strand_at net i).first None (get_or rs i []) in
    let more = flow_from (i + 1) (drop (i + 1) net.strands) (drop (i + 1) rs) in
    let here = nat_eq (strand_at net i).var.0 v && comes_to_memory (get_or rs i []) in
    ap (λ b. b || any_comes net v more) is
    ∙ or_moved old here (any_comes net v more) false
    ∙ ap (λ b. old || b)
    (ap (λ b. b || any_comes net v more)
    (sym (path_comes net v i (strand_at net i).first None (get_or rs i [])))
    ∙ sym (any_append (λ (e : Edge). nat_eq (strand_at net e.strand).var.0 v && needs_slot
    (number e.to)) path more)
    ∙ ap (any_comes net v) (sym (flow_drop net.strands rs i no_strand [] one two)))

-- a mark that is set
pub set_mark : (marks : List Bool) (u v : ℕ) (comes : Bool) → u < length marks → comes ≡ true →
    marked (slice_set marks u true) v ≡ (marked marks v || (nat_eq u v && comes))
set_mark marks u v comes lt is =
    elim (cases_eq v u) as (λ _. marked (slice_set marks u true) v ≡
    (marked marks v || (nat_eq u v && comes))) [
      | inl same ↦
          ap (marked (slice_set marks u true)) same ∙ get_or-set_same marks u true false lt
          ∙ sym (or_yes (marked marks v) (nat_eq u v && comes)
          (ap₂ (λ a b. a && b) (eq-eqb u v (sym same)) is))
      | inr apart ↦ get_or-set_other marks u v true false apart
          ∙ sym (or_no (marked marks v) (nat_eq u v && comes)
          (ap (λ a. a && comes) (ne_eqb u v (λ e. apart (sym e)))))
    ]
  where
    or_yes : (a b : Bool) → b ≡ true → (a || b) ≡ true
    or_yes true b e = refl
    or_yes false b e = e

    or_no : (a b : Bool) → b ≡ false → (a || b) ≡ a
    or_no true b e = refl
    or_no false b e = e

-- and one that stays
pub keep_mark : (old : Bool) (a comes : Bool) → comes ≡ false → old ≡ (old || (a && comes))
keep_mark true a comes none = refl
keep_mark false true comes none = sym none
keep_mark false false comes none = refl

-- ---- slots

-- one number more that passes, or not
pub filter_next : (p : ℕ → Bool) (v : ℕ) → filter p (range_with_len 0 (v + 1)) ≡
    filter p (range_with_len 0 v) ++ only_if (p v) v
filter_next p v =
    ap (filter p) (range_next v) ∙ filter-append p (range_with_len 0 v) (v ∷ [])
