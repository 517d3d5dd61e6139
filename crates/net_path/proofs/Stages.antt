-- Cells, stage by stage: registers and extras, memory pairs, exits, entries.
use Rattle.std.proofs.Common.{ℕ, ◌≡◌, ◌≢◌, ◌+◌, ◌-◌, ◌^◌, ◌<◌, ◌≤◌, ◌∙◌, Bool, true, false, ◌&&◌, ℤ}
use Rattle.std.proofs.Common.{pos, ◌+ℤ◌, ◌-ℤ◌, length, get_or, None, refl, sym, subst, ap, inl, inr}
use Rattle.std.proofs.Common.{arith}
use Rattle.std.specs.List.{range_with_len}
use Rattle.std.proofs.lemmas.Int.{ints}
use Rattle.std.proofs.lemmas.Bool.{cases_eq, eq-eqb, ne_eqb, eqb-true, false≢true}
use Rattle.std.proofs.lemmas.List.FromFn.{length-range_with_len}
use Rattle.pra_base.specs.declared.ids.Place.{Place}
use Rattle.pra_base.specs.declared.ids.Place.TheVariants.{Mem}
use Rattle.pra_base.specs.Places.{number, is_mem}
use Rattle.net_cost.specs.declared.weights.Weights.{Weights}
use Rattle.net_cost.specs.Weights.{IsValid}
use Rattle.net_form.specs.declared.net.Net.{Net}
use Rattle.net_form.specs.declared.prices.Prices.{Prices}
use Rattle.net_form.specs.declared.routes.Ends.{Ends}
use Rattle.net_form.specs.declared.taken.Taken.{Taken}
use Rattle.net_form.specs.Admitted.{strand_at, in_mask}
use Rattle.net_form.specs.Flow.{Edge}
use Rattle.net_form.proofs.PlaceEquality.{number-injective}
use Rattle.net_laws.specs.Built.{IsBuilt}
use Rattle.net_dual.specs.Priced.{total, mem_part, exit_part, entry_part, tie_price, AreInRange}
use Rattle.net_dual.proofs.Small.{mem_small, tie_small}
use Rattle.net_path.specs.Cells.{alone_price, is_open_alone}
use Rattle.net_path.specs.Ends.{mem_number, IsMemory, strand_ends}
use Rattle.net_path.specs.Grounds.{edge, suits_ends, register_free, pairs_free, pairs_in_use}
use Rattle.net_path.specs.Grounds.{is_free, is_open, there_price}
use Rattle.net_path.specs.Rests.{unreached}
use Rattle.net_path.specs.Rows.{IsAbout, IsCell}
use Rattle.net_path.specs.Ties.{IsSumMore, HasTieRoom, exit_ties, entry_ties, tie_pay}
use Rattle.net_path.proofs.EndSums.{ends_between, ends_few}
use Rattle.net_path.proofs.ExitTies.{exit_sum, exits_few}
use Rattle.net_path.proofs.EntryTies.{entry_sum}
use Rattle.net_path.proofs.TieSums.{about_sum, pay_about, total_pay}
use Rattle.net_path.proofs.WholeCells.{mem_sum, busy_sum, no_mem_part, no_pair_in_use, no_exit}
use Rattle.net_path.proofs.WholeCells.{alone_about}

regroup : (a b c : Bool) → (a && (b && c)) ≡ ((a && b) && c)
regroup true b c = refl
regroup false b c = refl

pub cell_true : (b : Bool) (c z : ℤ) → IsCell b c z → b ≡ true → z ≡ c
cell_true true c z is e = is
cell_true false c z is e = absurd (false≢true e)

pub cell_false : (b : Bool) (c z : ℤ) → IsCell b c z → b ≡ false → z ≡ unreached
cell_false true c z is e = absurd (false≢true (sym e))
cell_false false c z is e = is

cell_of : (b p : Bool) (c z : ℤ) → (b ≡ true → p ≡ true → z ≡ c)
    → (b ≡ true → p ≡ false → z ≡ unreached) → (b ≡ false → z ≡ unreached) → IsCell (b && p) c z
cell_of true true c z yes_ shut closed = yes_ refl refl
cell_of true false c z yes_ shut closed = shut refl refl
cell_of false p c z yes_ shut closed = closed refl

pub cell_more : (b : Bool) (c x z z' : ℤ) → IsCell b c z → IsAbout (2 ^ 58) c → IsSumMore z x z'
    → IsCell b (c +ℤ x) z'
cell_more true c x z z' is about more = let e : z ≡ c = is in
    let s = more.opened (omega (arith, ints, e, about), omega (arith, ints, e, about)) in
    omega (arith, ints, e, s)
cell_more false c x z z' is about more = more.shut is

pub cell_same : (b : Bool) (c d z : ℤ) → c ≡ d → IsCell b c z → IsCell b d z
cell_same b c d z e is = subst (λ (x : ℤ). IsCell b x z) e is

pub room_of : (b : Bool) (c z : ℤ) → IsCell b c z → IsAbout (2 ^ 58) c → HasTieRoom z
room_of true c z is about = let e : z ≡ c = is in
    inr (omega (arith, ints, e, about), omega (arith, ints, e, about))
room_of false c z is about = inl is

module _ (net : Net) (built : IsBuilt net) (prices : Prices) (range : AreInRange net prices)
    (w : Weights) (valid : IsValid w) (s : ℕ) (lt : s < length net.strands) where
  module _ (ends : Ends) (taken : Taken) (l : ℕ) (first : (strand_at net s).first ≤ l)
      (last : l < (strand_at net s).first + length (strand_at net s).masks) where
    abbrev open_ : Place → Bool
    open_ q = is_open net ends (is_free net taken) s (edge s l None q)

    in_memory : (z z' : ℤ) → IsCell (is_open_alone net ends taken (edge s l None Mem))
        (alone_price net w prices (edge s l None Mem)) z
        → IsMemory prices taken l (strand_ends net s) z z' → IsCell (open_ Mem)
        (alone_price net w prices (edge s l None Mem) +ℤ mem_part net prices (edge s l None Mem)) z'
    in_memory z z' is memory =
        let e = edge s l None Mem in
        let mem = mem_sum net s l first last prices in
        let used = busy_sum net s l first last taken in
        let about = alone_about net built prices range w valid e in
        let a = is_open_alone net ends taken e in
        subst (λ (b : Bool). IsCell b (alone_price net w prices e +ℤ mem_part net prices e) z')
        (sym (regroup (in_mask net e && suits_ends ends (strand_at net s) e)
        (register_free net taken e) (pairs_free net taken e)))
        (cell_of a (pairs_free net taken e) (alone_price net w prices e +ℤ mem_part net prices e) z'
        (λ opened free.
        let z_is = cell_true a (alone_price net w prices e) z is opened in
        let none = eqb-true (pairs_in_use net taken e) 0 free in
        let paid = memory.free (omega (arith, ints, z_is, about), omega (arith, ints, z_is, about))
        (omega (arith, ints, used, none)) in
        omega (arith, ints, paid, z_is, mem))
        (λ opened taken_. elim (cases_eq (pairs_in_use net taken e) 0) as (λ _. z' ≡ unreached) [
          | inl none ↦ absurd (false≢true (sym taken_ ∙ eq-eqb (pairs_in_use net taken e) 0 none))
          | inr some ↦ memory.in_use (omega (arith, ints, used, some))
        ])
        (λ closed. memory.shut (cell_false a (alone_price net w prices e) z is closed)))

    elsewhere : (q : Place) (z : ℤ)
        → is_mem (number q) ≡ false → IsCell (is_open_alone net ends taken (edge s l None q))
        (alone_price net w prices (edge s l None q)) z → IsCell (open_ q)
        (alone_price net w prices (edge s l None q) +ℤ mem_part net prices (edge s l None q)) z
    elsewhere q z other is =
        let e = edge s l None q in
        let none = no_mem_part net prices e other in
        let free = eq-eqb (pairs_in_use net taken e) 0 (no_pair_in_use net taken e other) in
        let a = is_open_alone net ends taken e in
        subst (λ (b : Bool). IsCell b (alone_price net w prices e +ℤ mem_part net prices e) z)
        (sym (regroup (in_mask net e && suits_ends ends (strand_at net s) e)
        (register_free net taken e) (pairs_free net taken e)))
        (cell_of a (pairs_free net taken e) (alone_price net w prices e +ℤ mem_part net prices e) z
        (λ opened _. let z_is = cell_true a (alone_price net w prices e) z is opened in
        omega (arith, ints, z_is, none))
        (λ opened taken_. absurd (false≢true (sym taken_ ∙ free)))
        (λ closed. cell_false a (alone_price net w prices e) z is closed))

    -- after memory pairs
    pub with_pairs : (q : Place) (z z' : ℤ)
        → IsCell (is_open_alone net ends taken (edge s l None q))
        (alone_price net w prices (edge s l None q)) z → (number q ≢ 6 → z' ≡ z)
        → (number q ≡ 6 → IsMemory prices taken l (strand_ends net s) z z') → IsCell (open_ q)
        (alone_price net w prices (edge s l None q) +ℤ mem_part net prices (edge s l None q)) z'
    with_pairs q z z' is others memory = elim (cases_eq (number q) 6) as (λ _. IsCell (open_ q)
        (alone_price net w prices (edge s l None q) +ℤ mem_part net prices (edge s l None q)) z') [
          | inl here ↦
              let same : q ≡ Mem = number-injective q Mem here in
              let is2 =
              subst (λ (q : Place). IsCell (is_open_alone net ends taken (edge s l None q))
              (alone_price net w prices (edge s l None q)) z) same is in
              subst (λ (q : Place). IsCell (open_ q)
              (alone_price net w prices (edge s l None q) +ℤ mem_part net prices (edge s l None q))
              z') (sym same) (in_memory z z' is2 (memory here))
          | inr other ↦
              subst (λ (x : ℤ). IsCell (open_ q)
              (alone_price net w prices (edge s l None q) +ℤ mem_part net prices (edge s l None q))
              x) (sym (others other)) (elsewhere q z (ne_eqb (number q) 6 other) is)
        ]

    pub mem_about : (q : Place) → length (strand_at net s).masks ≤ 2 ^ 15
        → IsAbout (2 ^ 55) (mem_part net prices (edge s l None q))
    mem_about q few = elim (cases_eq (number q) 6)
        as (λ _. IsAbout (2 ^ 55) (mem_part net prices (edge s l None q))) [
          | inl here ↦
              let same : q ≡ Mem = number-injective q Mem here in
              let mem = mem_sum net s l first last prices in
              let sum = ends_between (mem_number prices) (2 ^ 40) l (strand_ends net s)
              (λ k. let small = mem_small net built prices range k in
              (omega (arith, ints), omega (arith, ints, small))) in
              let many = ends_few net.pairs s (strand_at net s).first
              (length (strand_at net s).masks) (built.one_end s) in
              subst (λ (q : Place). IsAbout (2 ^ 55) (mem_part net prices (edge s l None q)))
              (sym same)
              (omega (arith, ints, mem, sum, many, few), omega (arith, ints, mem, sum, many, few))
          | inr other ↦
              let none = no_mem_part net prices (edge s l None q) (ne_eqb (number q) 6 other) in
              (omega (arith, ints, none), omega (arith, ints, none))
        ]

  -- what exits pay
  pub exit_about : (l : ℕ) (q : Place) → IsAbout (2 ^ 42) (exit_part net prices (edge s l None q))
  exit_about l q = elim (cases_eq l (strand_at net s).last)
      as (λ _. IsAbout (2 ^ 42) (exit_part net prices (edge s l None q))) [
        | inl same ↦
            let sum = exit_sum net built.formed built.in_order.ties s q prices lt in
            let a = get_or net.index.exits s 0 in
            let n = get_or net.index.exits (s + 1) 0 - a in
            let about = about_sum (λ i. tie_price prices i q) (range_with_len a n)
            (λ i. pay_about prices true i q (tie_small net built prices range i q)) in
            let size = length-range_with_len a n in
            let few = exits_few net built.formed built.in_order.ties s lt in
            let two = built.exits s in
            subst (λ (l : ℕ). IsAbout (2 ^ 42) (exit_part net prices (edge s l None q)))
            (sym same) (
              omega (arith, ints, sum, about, size, few, two),
              omega (arith, ints, sum, about, size, few, two),
            )
        | inr other ↦ let none = no_exit net prices s l q other in
            (omega (arith, ints, none), omega (arith, ints, none))
      ]

  pub exits_pay : (q : Place) → total (λ i. tie_pay prices true i q) (exit_ties net s)
      ≡ exit_part net prices (edge s (strand_at net s).last None q)
  exits_pay q = exit_sum net built.formed built.in_order.ties s q prices lt

  pub entries_pay : (q : Place) → total (λ i. tie_pay prices false i q) (entry_ties net s)
      ≡ pos 0 -ℤ entry_part net prices (edge s (strand_at net s).first None q)
  entries_pay q = total_pay prices q (entry_ties net s)
      ∙ ap (λ (z : ℤ). pos 0 -ℤ z) (entry_sum net built.formed prices s q)

-- all together
pub whole_price : (net : Net) (w : Weights) (prices : Prices) (e : Edge)
    → ((alone_price net w prices e +ℤ mem_part net prices e) +ℤ exit_part net prices e)
    +ℤ (pos 0 -ℤ entry_part net prices e) ≡ there_price net w prices e
whole_price net w prices e = omega (arith, ints)
