-- While strands are given places one after the other, there is a free register for each that needs
-- one.
use Rattle.std.proofs.Common.{ℕ, zero, suc, ◌≡◌, ◌+◌, ◌-◌, ◌<◌, ◌≤◌, Bool, true, false, not, ◌&&◌}
use Rattle.std.proofs.Common.{◌||◌, cond, eqb, ltb, leb, List, [], ◌∷◌, length, get_or, count_by}
use Rattle.std.proofs.Common.{filter, bit_or, refl, sym, ap, ◌∙◌, subst, arith, inl, inr, ◌⊎◌, None}
use Rattle.std.proofs.Common.{slice_index}
use Rattle.std.specs.Prelude.{nat_lt}
use Rattle.std.specs.Int.{bit_at}
use Rattle.std.specs.List.{list_any, range_with_len, prefix_len}
use Rattle.std.proofs.lemmas.Bool.{cases_Bool, cases_eq, cases_lt, and_parts, and_from, or_cases}
use Rattle.std.proofs.lemmas.Bool.{or_left, or_right, eqb-true, eq-eqb, ne_eqb, ltb-true, lt-ltb}
use Rattle.std.proofs.lemmas.Bool.{leb-true, le-leb, both_ways, false_from_ne_true}
use Rattle.std.proofs.lemmas.List.FromFn.{length-range_with_len, get_or-range_with_len}
use Rattle.std.proofs.lemmas.List.Folds.{list_any_at}
use Rattle.std.proofs.lemmas.List.Sums.{length-filter}
use Rattle.std.proofs.lemmas.Nat.Bits.{bit_at_or, bit_at-lt}
use Rattle.pra_base.specs.declared.ids.Place.{Place}
use Rattle.pra_base.specs.declared.ids.Place.TheVariants.{Mem, Const}
use Rattle.pra_base.specs.Places.{number, allows, has_register, register_of, is_register}
use Rattle.net_form.specs.declared.net.Strand.{Strand}
use Rattle.net_form.specs.declared.net.Net.{Net}
use Rattle.net_form.specs.Flow.{edges, flow_from}
use Rattle.net_form.specs.Strands.{across}
use Rattle.net_form.specs.Admitted.{strand_at, no_strand, in_register, uses_bundle}
use Rattle.net_form.specs.Formed.{IsFormed, no_block}
use Rattle.net_form.specs.Index.{first_layer}
use Rattle.net_form.specs.InUse.{mark}
use Rattle.net_form.proofs.PathUses.{uses}
use Rattle.net_laws.specs.Homes.{HasRoom, is_there, passes, allowed, home_of, needs_register}
use Rattle.net_laws.specs.Homes.{registers, shares, contends, is_rival}
use Rattle.net_laws.proofs.Few.{few}
use Rattle.net_laws.proofs.Found.{first_that}
use Rattle.al_laws.specs.Parts.{layer_at}
use Rattle.al_edge.specs.Choice.{busy_at}
use Rattle.al_edge.specs.HomePaths.{IsHomePath}
use Rattle.al_edge.proofs.Uses.{held_is, uses_at, uses_below, counted, one_layer}

in_filter : (p : ℕ → Bool) (a n x : ℕ) → a ≤ x → x < a + n → p x ≡ true →
    list_any (eqb x) (filter p (range_with_len a n)) ≡ true
in_filter p a zero x le lt is = absurd (omega (arith, le, lt))
in_filter p a (suc n) x le lt is =
    elim (cases_eq x a) as (λ _. list_any (eqb x) (filter p (range_with_len a (suc n))) ≡ true) [
      | inl same ↦ ap (λ t. list_any (eqb x)
          (cond t (a ∷ filter p (range_with_len (a + 1) n)) (filter p (range_with_len (a + 1) n))))
          (ap p (sym same) ∙ is)
          ∙ or_left (eqb x a) (list_any (eqb x) (filter p (range_with_len (a + 1) n)))
          (eq-eqb x a same)
      | inr other ↦ by (p a) (in_filter p (a + 1) n x (omega (arith, le, other)) (omega (arith, lt))
          is)
    ]
  where
    by : (t : Bool) → list_any (eqb x) (filter p (range_with_len (a + 1) n)) ≡ true →
        list_any (eqb x) (cond t (a ∷ filter p (range_with_len (a + 1) n))
        (filter p (range_with_len (a + 1) n))) ≡ true
    by true h = or_right (eqb x a) (list_any (eqb x) (filter p (range_with_len (a + 1) n))) h
    by false h = h

pub home_apart : (t : Strand) → has_register (number (home_of t)) ≡ false
home_apart t = by t.constant
  where
    by : (c : Bool) → has_register (number (cond c Const Mem)) ≡ false
    by true = refl
    by false = refl

pub register_number : (n : ℕ) → is_register n ≡ true → register_of n ≡ n
register_number n is = ap (λ t. cond t (n - 8) n)
    (false_from_ne_true (leb 8 n) (λ le. let a = leb-true 8 n le in let b = ltb-true n 6 is in
    omega (arith, a, b)))

module _ (net : Net) (formed : IsFormed net) (room : HasRoom net) (rs : List (List Place))
    (regs : List ℕ)
    (marks : (n r : ℕ) → mark regs n r ≡ count_by (uses_bundle net n r)
    (flow_from 0 net.strands rs))
    (placed : (x : ℕ) → x < length rs → IsHomePath net x (get_or rs x [])) (s l : ℕ)
    (s_lt : s < length net.strands) (later : length rs ≤ s)
    (there : is_there (strand_at net s) l ≡ true) (need : needs_register net s l ≡ true) where
  abbrev t : ℕ → Strand
  t x = strand_at net x

  abbrev path : ℕ → List Place
  path x = get_or rs x []

  -- strand x is in register r at layer m of the block of s
  record Holds (r m x : ℕ) : Type 0 where
    block : (t x).block.0 ≡ (t s).block.0
    is_at : is_there (t x) m ≡ true
    is : in_register r (get_or (path x) (m - (t x).first) Mem) ≡ true

  abbrev holds : ℕ → ℕ → ℕ → Bool
  holds r m x = ltb 0 (uses net (layer_at net s m) r x (t x).first None (path x))

  bounds : (x m : ℕ) → is_there (t x) m ≡ true → ((t x).first ≤ m) × (m ≤ (t x).last)
  bounds x m at = let p = and_parts (leb (t x).first m) (leb m (t x).last) at in
      (leb-true (t x).first m p.0, leb-true m (t x).last p.1)

  it_holds : (r m x : ℕ) → x < length rs → is_there (t s) m ≡ true → holds r m x ≡ true →
      Holds r m x
  it_holds r m x x_lt at_s some =
      let more = ltb-true 0 (uses net (layer_at net s m) r x (t x).first None (path x)) some in
      let base = first_layer net.blocks (t x).block.0 in
      elim (cases_lt (layer_at net s m) base) as (λ _. Holds r m x) [
        | inl below ↦ absurd (let none = uses_below net x r None (path x) (layer_at net s m)
            (t x).first below in omega (arith, none, more))
        | inr from ↦
            let l' = layer_at net s m - base in
            let e : layer_at net s m ≡ base + l' = omega (arith, from) in
            let count = sym (ap (λ n. uses net n r x (t x).first None (path x)) e) in
            let is_held = uses_at net x r None (path x) l' (t x).first in
            let h = held_is (in_register r) (path x) (t x).first l'
            (omega (arith, count, is_held, more)) in
            let long = (placed x x_lt).long in
            let after = h.after in
            let before = h.before in
            let fx = formed.strands x no_strand (omega (arith, x_lt, later, s_lt)) in
            let fs = formed.strands s no_strand s_lt in
            let in_x = fx.within in
            let in_s = fs.within in
            let m_last = (bounds s m at_s).1 in
            let same = one_layer net.blocks (t x).block.0 (t s).block.0 l' m no_block fx.block
            fs.block (omega (arith, before, long, in_x)) (omega (arith, m_last, in_s))
            (sym e) in record {
              block = same.0;
              is_at = subst (λ n. is_there (t x) n ≡ true) same.1
                  (and_from (leb (t x).first l') (leb l' (t x).last) (le-leb (t x).first l' after)
                  (le-leb l' (t x).last (omega (arith, before, long))));
              is = subst (λ n. in_register r (get_or (path x) (n - (t x).first) Mem) ≡ true) same.1
                  h.is;
            }
      ]

  abbrev holder : ℕ → ℕ → Bool
  holder r x = holds r l x || (passes (t s) l && holds r (across l) x)

  -- at l, or on the other side
  Holder : ℕ → ℕ → Type 0
  Holder r x = Holds r l x ⊎ ((passes (t s) l ≡ true) × Holds r (across l) x)

  it_is : (r x : ℕ) → x < length rs → holder r x ≡ true → Holds r l x ⊎
      ((passes (t s) l ≡ true) × Holds r (across l) x)
  it_is r x x_lt h = elim (or_cases (holds r l x) (passes (t s) l && holds r (across l) x) h)
      as (λ _. Holds r l x ⊎ ((passes (t s) l ≡ true) × Holds r (across l) x)) [
        | inl here ↦ inl (it_holds r l x x_lt there here)
        | inr beyond ↦
            let p = and_parts (passes (t s) l) (holds r (across l) x) beyond in
            inr (
              p.0,
              it_holds r (across l) x x_lt
                  (and_parts (nat_lt 0 l) (is_there (t s) (across l)) p.0).1 p.1,
            )
      ]

  -- one strand is in one register there
  one_register : (p : Place) (r q : ℕ) → in_register r p ≡ true → in_register q p ≡ true → r ≡ q
  one_register p r q a b =
      sym (eqb-true (register_of (number p)) r
      (and_parts (has_register (number p)) (eqb (register_of (number p)) r) a).1)
      ∙ eqb-true (register_of (number p)) q
      (and_parts (has_register (number p)) (eqb (register_of (number p)) q) b).1

  moved_in : (x r q : ℕ) → x < length rs → passes (t s) l ≡ true → Holds r l x →
      Holds q (across l) x → r ≡ q
  moved_in x r q x_lt pass a b =
      let through : passes (t x) l ≡ true = and_from (nat_lt 0 l) (is_there (t x) (across l))
      (and_parts (nat_lt 0 l) (is_there (t s) (across l)) pass).0 b.is_at in
      one_register (get_or (path x) (across l - (t x).first) Mem) r q
      (sym (ap (in_register r) ((placed x x_lt).stays l a.is_at through)) ∙ a.is) b.is

  same_register : (x r q : ℕ) → x < length rs → Holds r l x ⊎
      ((passes (t s) l ≡ true) × Holds r (across l) x) → Holds q l x ⊎
      ((passes (t s) l ≡ true) × Holds q (across l) x) → r ≡ q
  same_register x r q x_lt (inl a) (inl b) = one_register (get_or (path x) (l - (t x).first) Mem) r
      q a.is b.is
  same_register x r q x_lt (inl a) (inr b) = moved_in x r q x_lt b.0 a b.1
  same_register x r q x_lt (inr a) (inl b) = sym (moved_in x q r x_lt a.0 b a.1)
  same_register x r q x_lt (inr a) (inr b) =
      one_register (get_or (path x) (across l - (t x).first) Mem) r q a.1.is b.1.is

  -- and it is a rival
  competes : (r m x : ℕ) → r < 6 → x < length rs → allows (allowed (t s) l) r ≡ true → Holds r m x →
      contends net (t s).block.0 m (allowed (t s) l) x ≡ true
  competes r m x small x_lt has h =
      let p = get_or (path x) (m - (t x).first) Mem in
      let g = (placed x x_lt).good m h.is_at in
      let parts = and_parts (has_register (number p)) (eqb (register_of (number p)) r) h.is in
      let needs : needs_register net x m ≡ true =
      elim (cases_Bool (needs_register net x m)) as (λ _. needs_register net x m ≡ true) [
        | inl is ↦ is
        | inr no_ ↦ absurd (both_ways (has_register (number p))
            (ap (λ q. has_register (number q)) (g.kept no_) ∙ home_apart (t x)) parts.0)
      ] in
      let at_r : number p ≡ r = sym (register_number (number p) (g.moved needs))
      ∙ eqb-true (register_of (number p)) r parts.1 in
      let mine = subst (λ n. allows (allowed (t x) m) n ≡ true) at_r g.inside in
      let range_at : get_or registers r 0 ≡ r = get_or-range_with_len 0 6 r 0 small
      ∙ (let e : 0 + r ≡ r = omega arith in e) in
      let shared : shares (allowed (t s) l) (allowed (t x) m) ≡ true =
      list_any_at (λ r. allows (allowed (t s) l) r && allows (allowed (t x) m) r) registers r 0
      small
      (ap (λ n. allows (allowed (t s) l) n && allows (allowed (t x) m) n) range_at
      ∙ and_from (allows (allowed (t s) l) r) (allows (allowed (t x) m) r) has mine) in
      and_from (eqb (t x).block.0 (t s).block.0 && is_there (t x) m && needs_register net x m)
      (shares (allowed (t s) l) (allowed (t x) m))
      (and_from (eqb (t x).block.0 (t s).block.0 && is_there (t x) m) (needs_register net x m)
      (and_from (eqb (t x).block.0 (t s).block.0) (is_there (t x) m)
      (eq-eqb (t x).block.0 (t s).block.0 h.block) h.is_at) needs) shared

  rival : (r x : ℕ) → r < 6 → x < length rs → allows (allowed (t s) l) r ≡ true → Holds r l x ⊎
      ((passes (t s) l ≡ true) × Holds r (across l) x) → is_rival net s l x ≡ true
  rival r x small x_lt has h =
      let b = (t s).block.0 in
      let mask = allowed (t s) l in
      and_from (not (eqb x s))
      (contends net b l mask x || (passes (t s) l && contends net b (across l) mask x))
      (ap not (ne_eqb x s (λ e. omega (arith, e, x_lt, later)))) (by h)
    where
      by : Holds r l x ⊎ ((passes (t s) l ≡ true) × Holds r (across l) x)
          → (contends net (t s).block.0 l (allowed (t s) l) x ||
          (passes (t s) l && contends net (t s).block.0 (across l) (allowed (t s) l) x)) ≡ true
      by (inl here) = or_left (contends net (t s).block.0 l (allowed (t s) l) x)
          (passes (t s) l && contends net (t s).block.0 (across l) (allowed (t s) l) x)
          (competes r l x small x_lt has here)
      by (inr beyond) = or_right (contends net (t s).block.0 l (allowed (t s) l) x)
          (passes (t s) l && contends net (t s).block.0 (across l) (allowed (t s) l) x)
          (and_from (passes (t s) l) (contends net (t s).block.0 (across l) (allowed (t s) l) x)
          beyond.0 (competes r (across l) x small x_lt has beyond.1))

  -- ---- where all registers are busy, each has its holder

  some_holds : (r m : ℕ) → mark regs (layer_at net s m) r ≡ 1 →
      list_any (holds r m) (range_with_len 0 (length rs)) ≡ true
  some_holds r m used =
      let count = marks (layer_at net s m) r in
      let c = counted (uses_bundle net (layer_at net s m) r) 0 net.strands rs
      (omega (arith, count, used)) in
      let n = length-range_with_len 0 (length rs) in
      let x_lt = c.within in
      let is : get_or (range_with_len 0 (length rs)) c.at 0 ≡ c.at =
      get_or-range_with_len 0 (length rs) c.at 0 x_lt
      ∙ (let e : 0 + c.at ≡ c.at = omega arith in e) in
      list_any_at (holds r m) (range_with_len 0 (length rs)) c.at 0 (omega (arith, n, x_lt))
      (ap (holds r m) is ∙ lt-ltb 0
      (uses net (layer_at net s m) r c.at (t c.at).first None (path c.at))
      (subst (λ k. 0 < count_by (uses_bundle net (layer_at net s m) r)
      (edges k (t c.at).first None (path c.at))) (let e : 0 + c.at ≡ c.at = omega arith in e)
      c.some))

  any_weaker : (f g : ℕ → Bool) (xs : List ℕ) → ((x : ℕ) → f x ≡ true → g x ≡ true) →
      list_any f xs ≡ true → list_any g xs ≡ true
  any_weaker f g [] h any = any
  any_weaker f g (x ∷ xs) h any =
      elim (or_cases (f x) (list_any f xs) any) as (λ _. list_any g (x ∷ xs) ≡ true) [
        | inl is ↦ or_left (g x) (list_any g xs) (h x is)
        | inr more ↦ or_right (g x) (list_any g xs) (any_weaker f g xs h more)
      ]

  some_holder : (r : ℕ) → bit_at (busy_at net regs s l) r ≡ 1 →
      list_any (holder r) (range_with_len 0 (length rs)) ≡ true
  some_holder r busy = elim (cases_Bool (passes (t s) l))
      as (λ _. list_any (holder r) (range_with_len 0 (length rs)) ≡ true) [
        | inl pass ↦
            let one = slice_index regs (layer_at net s l) in
            let two = slice_index regs (layer_at net s (across l)) in
            let both : bit_at (bit_or one two) r ≡ 1 =
            sym (ap (λ b. bit_at (cond b (bit_or one two) one) r) pass) ∙ busy in
            let most = bit_at_or one two r in
            elim (cases_eq (bit_at one r) 1)
            as (λ _. list_any (holder r) (range_with_len 0 (length rs)) ≡ true) [
              | inl here ↦ any_weaker (holds r l) (holder r) (range_with_len 0 (length rs))
                  (λ x h. or_left (holds r l x) (passes (t s) l && holds r (across l) x) h)
                  (some_holds r l here)
              | inr other ↦ any_weaker (holds r (across l)) (holder r)
                  (range_with_len 0 (length rs))
                  (λ x h. or_right (holds r l x) (passes (t s) l && holds r (across l) x)
                  (and_from (passes (t s) l) (holds r (across l) x) pass h))
                  (some_holds r (across l) (let a = bit_at-lt one r in let d = bit_at-lt two r in
                  omega (arith, both, most, other, a, d)))
            ]
        | inr alone ↦ any_weaker (holds r l) (holder r) (range_with_len 0 (length rs))
            (λ x h. or_left (holds r l x) (passes (t s) l && holds r (across l) x) h)
            (some_holds r l (sym (ap
            (λ b. bit_at (cond b (bit_or (slice_index regs (layer_at net s l))
            (slice_index regs (layer_at net s (across l)))) (slice_index regs (layer_at net s l)))
            r) alone) ∙ busy))
      ]

  abbrev key : ℕ → ℕ
  key r = prefix_len (λ x. not (holder r x)) (range_with_len 0 (length rs))

  holder_is : (r : ℕ) → bit_at (busy_at net regs s l) r ≡ 1 → (key r < length rs) ×
      (holder r (key r) ≡ true)
  holder_is r busy =
      let f = first_that (holder r) (range_with_len 0 (length rs)) 0 (some_holder r busy) in
      let n = length-range_with_len 0 (length rs) in
      let lt = f.0 in
      let small : key r < length rs = omega (arith, n, lt) in (
        small,
        sym (ap (holder r)
            (get_or-range_with_len 0 (length rs) (key r) 0 small
            ∙ (let e : 0 + key r ≡ key r = omega arith in e))) ∙ f.1,
      )

  pub not_full : ((r : ℕ) → r < 6 → allows (allowed (t s) l) r ≡ true →
      bit_at (busy_at net regs s l) r ≡ 1) → ⊥
  not_full full =
      let n = length net.strands in
      let most = few key (allows (allowed (t s) l)) 0 6
      (filter (is_rival net s l) (range_with_len 0 n))
      (λ r _ lt has.
      let h = holder_is r (full r (omega (arith, lt)) has) in
      let small = h.0 in
      in_filter (is_rival net s l) 0 n (key r) (omega arith) (omega (arith, small, later, s_lt))
      (rival r (key r) (omega (arith, lt)) small has (it_is r (key r) small h.1)))
      (λ r q _ less lt a b same.
      let h = holder_is r (full r (omega (arith, less, lt)) a) in
      let k = holder_is q (full q (omega (arith, lt)) b) in
      let small = h.0 in
      let e = same_register (key r) r q small (it_is r (key r) small h.1)
      (it_is q (key r) small (ap (holder q) same ∙ k.1)) in
      omega (arith, e, less)) in
      let long = length-filter (is_rival net s l) (range_with_len 0 n) in
      let roomy = room.registers s l s_lt there need in
      omega (arith, most, long, roomy)
