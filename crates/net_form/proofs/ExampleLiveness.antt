-- What is live in the two examples, and that their networks are as written.
use Rattle.std.proofs.Common.{ℕ, zero, suc, ◌≡◌, ◌<◌, ◌≤◌, ◌/◌, ◌⊎◌, true, ◌&&◌, ◌||◌, [], IsTrue}
use Rattle.std.proofs.Common.{Contains, is_some, refl, sym, ap, ◌∙◌, subst, arith, inl, inr}
use Rattle.std.specs.Prelude.{nat_eq, nat_lt, nat_le}
use Rattle.std.proofs.lemmas.Bool.{false≢true, and_parts, and_from, eqb-true, eq-eqb, ltb-true}
use Rattle.std.proofs.lemmas.Bool.{lt-ltb, cases_eq, leb-true, le-leb, or_cases, or_left, or_right}
use Rattle.pra_base.specs.Code.{end_of, IsTarget}
use Rattle.pra_base.specs.Live.Path.{stays, then}
use Rattle.pra_base.specs.Live.Goes.{over, leaves}
use Rattle.pra_base.specs.Live.{Point, instr, reads_at, writes_at, Path, ReadBeforeWritten}
use Rattle.pra_base.specs.Live.{BetweenReads, Live}
use Rattle.net_form.specs.declared.net.Tie.{Tie}
use Rattle.net_form.specs.Strands.{IsLive, is_within, layer_count}
use Rattle.net_form.specs.Groups.Joined.{here, on}
use Rattle.net_form.specs.Groups.{Joined, IsLeastEnd}
use Rattle.net_form.specs.Network.{IsNet}
use Rattle.net_form.specs.Examples.{write_constant, write_constant_live, write_constant_net}
use Rattle.net_form.specs.Examples.{set_add_write, set_add_write_live, set_add_write_net}

-- ---- where there are no ties each end is alone

not_in_nil : (t : Tie) → Contains [] t → ⊥
not_in_nil t h = let lt = h.1 in omega (arith, lt)

alone : (e f : ℕ) → Joined [] e f → e ≤ f
alone e f here = omega arith
alone e f (on g f' t before has is) = absurd (not_in_nil t has)

pub least_alone : (e : ℕ) → IsLeastEnd [] e e
least_alone e = record { joined = here; least = alone e }

-- ---- Write k; Line

reads_first : (k : ℕ) → reads_at write_constant 0 (record { block = 0; index = k }) ≡ true → k ≡ 0
reads_first zero h = refl
reads_first (suc zero) h = absurd (false≢true h)
reads_first (suc (suc k)) h = absurd (false≢true h)

write_constant-between : (l : ℕ) → BetweenReads write_constant 0 0 l → l ≡ 1
write_constant-between l b =
    let first = reads_first b.first b.reads_first in
    let last = reads_first b.last b.reads_last in
    let from = b.from in
    let to = b.to in
    omega (arith, first, last, from, to)

pub write_constant-is_live : IsLive write_constant write_constant_live
write_constant-is_live v b l = (forth, back)
  where
    forth : IsTrue (write_constant_live v b l) → IsTrue (is_within write_constant v b l) ×
        Live write_constant v b l
    forth h =
        let parts = and_parts (nat_eq v 0 && nat_eq b 0) (nat_eq l 1) h in
        let more = and_parts (nat_eq v 0) (nat_eq b 0) parts.0 in
        subst (λ (v : ℕ). IsTrue (is_within write_constant v b l) × Live write_constant v b l)
        (sym (eqb-true v 0 more.0))
        (subst (λ (b : ℕ). IsTrue (is_within write_constant 0 b l) × Live write_constant 0 b l)
        (sym (eqb-true b 0 more.1))
        (subst (λ (l : ℕ). IsTrue (is_within write_constant 0 0 l) × Live write_constant 0 0 l)
        (sym (eqb-true l 1 parts.1)) (
          refl,
          record {
            first = 0;
            last = 0;
            reads_first = refl;
            reads_last = refl;
            from =
                omega arith;
            to = omega arith;
          },
        )))

    back : IsTrue (is_within write_constant v b l) × Live write_constant v b l →
        IsTrue (write_constant_live v b l)
    back h =
        let parts = and_parts (nat_lt v 1 && nat_lt b 1) (nat_lt l (layer_count write_constant b))
        h.0 in
        let more = and_parts (nat_lt v 1) (nat_lt b 1) parts.0 in
        let v_lt = ltb-true v 1 more.0 in
        let b_lt = ltb-true b 1 more.1 in
        let v_is : v ≡ 0 = omega (arith, v_lt) in
        let b_is : b ≡ 0 = omega (arith, b_lt) in
        let live : Live write_constant 0 0 l = subst (λ (b : ℕ). Live write_constant 0 b l) b_is
        (subst (λ (v : ℕ). Live write_constant v b l) v_is h.1) in
        and_from (nat_eq v 0 && nat_eq b 0) (nat_eq l 1)
        (and_from (nat_eq v 0) (nat_eq b 0) (eq-eqb v 0 v_is) (eq-eqb b 0 b_is))
        (eq-eqb l 1 (write_constant-between l live))

pub write_constant-is_net : IsNet write_constant_net write_constant
write_constant-is_net = record {
  live = write_constant_live;
  is_live = write_constant-is_live;
  least = λ e. e;
  are_least = least_alone;
  is = refl;
}

-- ---- Set v, 3; Add v, k; Write v

-- nothing reads v before it is written where nothing is left, nor where v is set
nothing_left : {p q : Point} → p ≡ record { block = 0; index = 3 } → Path set_add_write 0 p q →
    reads_at set_add_write 0 q ≡ true → ⊥
nothing_left {p} {q} at stays read = false≢true (ap (reads_at set_add_write 0) (sym at) ∙ read)
nothing_left {p} {q} at (then kept (over is) more) read =
    false≢true (ap is_some (ap (instr set_add_write) (sym at) ∙ is))
nothing_left {p} {q} at (then kept (leaves {b = b} is target) more) read =
    subst (λ (p : Point). IsTarget (end_of set_add_write p.block) b → ⊥) (sym at) (λ t. t) target

set_before : {p q : Point} → p ≡ record { block = 0; index = 0 } → Path set_add_write 0 p q →
    reads_at set_add_write 0 q ≡ true → ⊥
set_before {p} {q} at stays read = false≢true (ap (reads_at set_add_write 0) (sym at) ∙ read)
set_before {p} {q} at (then kept goes more) read =
    false≢true (sym kept ∙ ap (writes_at set_add_write 0) at)

-- v is read at instructions 1 and 2
variable-lives : (k : ℕ) → k ≤ 3 → ReadBeforeWritten set_add_write 0
    (record { block = 0; index = k }) → (1 ≤ k) × (k ≤ 2)
variable-lives zero le r = absurd (set_before refl r.path r.read)
variable-lives (suc zero) le r = (omega arith, omega arith)
variable-lives (suc (suc zero)) le r = (omega arith, omega arith)
variable-lives (suc (suc (suc zero))) le r = absurd (nothing_left refl r.path r.read)
variable-lives (suc (suc (suc (suc k)))) le r = absurd (omega (arith, le))

variable-read : (k : ℕ) → 1 ≤ k → k ≤ 2 → ReadBeforeWritten set_add_write 0
    (record { block = 0; index = k })
variable-read zero one two = absurd (omega (arith, one))
variable-read (suc zero) one two =
    record { to = record { block = 0; index = 1 }; path = stays; read = refl }
variable-read (suc (suc zero)) one two =
    record { to = record { block = 0; index = 2 }; path = stays; read = refl }
variable-read (suc (suc (suc k))) one two = absurd (omega (arith, two))

-- k is read at instruction 1
constant-read : (k : ℕ) → reads_at set_add_write 1 (record { block = 0; index = k }) ≡ true → k ≡ 1
constant-read zero h = absurd (false≢true h)
constant-read (suc zero) h = refl
constant-read (suc (suc zero)) h = absurd (false≢true h)
constant-read (suc (suc (suc k))) h = absurd (false≢true h)

abbrev Here : ℕ → ℕ → ℕ → Type 0
Here v b l = IsTrue (is_within set_add_write v b l) × Live set_add_write v b l

within : (v l : ℕ) → v < 2 → l < 8 → IsTrue (is_within set_add_write v 0 l)
within v l one two = and_from (nat_lt v 2 && nat_lt 0 1) (nat_lt l 8)
    (and_from (nat_lt v 2) (nat_lt 0 1) (lt-ltb v 2 one) refl) (lt-ltb l 8 two)

variable-here : (l : ℕ) → 2 ≤ l → l ≤ 5 → Here 0 0 l
variable-here l two five =
    (within 0 l (omega arith) (omega arith), variable-read (l / 2) (omega arith) (omega arith))

constant-here : Here 1 0 3
constant-here = (
  refl,
  record {
    first = 1;
    last = 1;
    reads_first = refl;
    reads_last = refl;
    from =
        omega arith;
    to = omega arith;
  },
)

pub set_add_write-is_live : IsLive set_add_write set_add_write_live
set_add_write-is_live v b l = (forth, back)
  where
    of_either : (b ≡ 0) → ((nat_eq v 0 && nat_le 2 l && nat_le l 5) ≡ true) ⊎
        ((nat_eq v 1 && nat_eq l 3) ≡ true) → Here v b l
    of_either b_is (inl h) =
        let parts = and_parts (nat_eq v 0 && nat_le 2 l) (nat_le l 5) h in
        let more = and_parts (nat_eq v 0) (nat_le 2 l) parts.0 in
        subst (λ (b : ℕ). Here v b l) (sym b_is)
        (subst (λ (v : ℕ). Here v 0 l) (sym (eqb-true v 0 more.0))
        (variable-here l (leb-true 2 l more.1) (leb-true l 5 parts.1)))
    of_either b_is (inr h) =
        let parts = and_parts (nat_eq v 1) (nat_eq l 3) h in
        subst (λ (b : ℕ). Here v b l) (sym b_is)
        (subst (λ (v : ℕ). Here v 0 l) (sym (eqb-true v 1 parts.0))
        (subst (λ (l : ℕ). Here 1 0 l) (sym (eqb-true l 3 parts.1)) constant-here))

    forth : IsTrue (set_add_write_live v b l) → Here v b l
    forth h =
        let parts = and_parts (nat_eq b 0)
        ((nat_eq v 0 && nat_le 2 l && nat_le l 5) || (nat_eq v 1 && nat_eq l 3)) h in
        of_either (eqb-true b 0 parts.0)
        (or_cases (nat_eq v 0 && nat_le 2 l && nat_le l 5) (nat_eq v 1 && nat_eq l 3) parts.1)

    back_0 : (b ≡ 0) → (v ≡ 0) → l < 8 → Live set_add_write v b l →
        IsTrue (set_add_write_live v b l)
    back_0 b_is v_is lt live =
        let lives = variable-lives (l / 2) (omega (arith, lt))
        (subst (λ (b : ℕ). Live set_add_write 0 b l) b_is
        (subst (λ (v : ℕ). Live set_add_write v b l) v_is live)) in
        let one = lives.0 in
        let two = lives.1 in
        and_from (nat_eq b 0) _ (eq-eqb b 0 b_is)
        (or_left (nat_eq v 0 && nat_le 2 l && nat_le l 5) (nat_eq v 1 && nat_eq l 3)
        (and_from (nat_eq v 0 && nat_le 2 l) (nat_le l 5)
        (and_from (nat_eq v 0) (nat_le 2 l) (eq-eqb v 0 v_is) (le-leb 2 l (omega (arith, one))))
        (le-leb l 5 (omega (arith, two)))))

    back_1 : (b ≡ 0) → (v ≡ 1) → Live set_add_write v b l → IsTrue (set_add_write_live v b l)
    back_1 b_is v_is live =
        let r : BetweenReads set_add_write 1 0 l = subst (λ (b : ℕ). Live set_add_write 1 b l) b_is
        (subst (λ (v : ℕ). Live set_add_write v b l) v_is live) in
        let first = constant-read r.first r.reads_first in
        let last = constant-read r.last r.reads_last in
        let from = r.from in
        let to = r.to in
        and_from (nat_eq b 0) _ (eq-eqb b 0 b_is)
        (or_right (nat_eq v 0 && nat_le 2 l && nat_le l 5) (nat_eq v 1 && nat_eq l 3)
        (and_from (nat_eq v 1) (nat_eq l 3) (eq-eqb v 1 v_is)
        (eq-eqb l 3 (omega (arith, first, last, from, to)))))

    back : Here v b l → IsTrue (set_add_write_live v b l)
    back h =
        let parts = and_parts (nat_lt v 2 && nat_lt b 1) (nat_lt l (layer_count set_add_write b))
        h.0 in
        let more = and_parts (nat_lt v 2) (nat_lt b 1) parts.0 in
        let v_lt = ltb-true v 2 more.0 in
        let b_lt = ltb-true b 1 more.1 in
        let b_is : b ≡ 0 = omega (arith, b_lt) in
        elim (cases_eq v 0) as (λ _. IsTrue (set_add_write_live v b l)) [
          | inl is ↦ back_0 b_is is
              (ltb-true l 8 (subst (λ (b : ℕ). nat_lt l (layer_count set_add_write b) ≡ true) b_is
              parts.1)) h.1
          | inr other ↦ back_1 b_is (omega (arith, v_lt, other)) h.1
        ]

pub set_add_write-is_net : IsNet set_add_write_net set_add_write
set_add_write-is_net = record {
  live = set_add_write_live;
  is_live = set_add_write-is_live;
  least = λ e. e;
  are_least = least_alone;
  is = refl;
}
