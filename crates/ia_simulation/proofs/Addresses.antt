-- The machine's address of an object's word is the one that placed code computes.
use Rattle.std.proofs.Common.{◌≡◌, ℕ, suc, ◌+◌, ◌-◌, ◌*◌, ◌%◌, ◌^◌, ◌≤◌, ◌<◌, List, ◌∷◌, length}
use Rattle.std.proofs.Common.{Option, Some, None, refl, ap, ◌∙◌, arith, ⊎_elim}
use Rattle.std.specs.Prelude.{ℤ, pos, negsuc, ◌+ℤ◌, ◌-ℤ◌, slice_index_or, option_map}
use Rattle.std.specs.Int.{w32, int_wrap}
use Rattle.std.specs.Int.RustNames.{FitsSigned}
use Rattle.std.proofs.lemmas.Bool.{cases_lt}
use Rattle.std.proofs.lemmas.Bool.Decides.{nat_tests}
use Rattle.std.proofs.lemmas.Int.{ints}
use Rattle.pra_list.proofs.Options.{bind_some, some_same}
use Rattle.ia_code.specs.Regions.{data_base, stack_top}
use Rattle.ia_emit.specs.Emission.{address, via_count}
use Rattle.ia_emit.specs.Operands.{register_at, object_word, locals}
use Rattle.ia_step.specs.Registers.{get, address_of, scaled_index_of}
use Rattle.ia_step.specs.State.{State}
use Rattle.pl_place.specs.declared.placed.LProc.{LProc}
use Rattle.pl_place.specs.Machine.{Cells, proc_of, shape}
use Rattle.pl_place.specs.Placed.{place_in}
use Rattle.pra_base.specs.declared.code.Addr.{Addr}
use Rattle.pra_base.specs.declared.code.Base.{Base}
use Rattle.pra_base.specs.declared.code.Base.TheVariants as base
use Rattle.pra_base.specs.declared.ids.Place.{Place}
use Rattle.pra_base.specs.declared.ids.VarId.{VarId}
use Rattle.pra_base.specs.Words.{word}
use Rattle.vc_code.specs.declared.action.Here.{Here}
use Rattle.vc_code.specs.declared.value.Object.{Object}
use Rattle.vc_code.specs.declared.value.Value.{Value}
use Rattle.vc_code.specs.declared.value.Value.TheVariants.{Num, At}
use Rattle.vc_code.specs.Operation.{base_count, based, indexed, placed, address as address_held}
use Rattle.vc_code.specs.Value.{Held, Words}
use Rattle.vc_code.specs.Machine.{Activation, depth}
use Rattle.ia_simulation.specs.Frames.{Means, base_of}
use Rattle.ia_simulation.specs.Realizes.{Lies}
use Rattle.ia_simulation.proofs.Ops.{number_is}

-- ---- displacements of 32 bits

wrapped_up : (n : ℕ) → word (int_wrap w32 (pos n)) ≡ n % 2 ^ 32
unfolding int_wrap
wrapped_up n = grind (arith, ints, nat_tests)

wrapped_down : (n : ℕ) → word (int_wrap w32 (negsuc n)) ≡ 2 ^ 32 - 1 - n % 2 ^ 32
unfolding int_wrap
wrapped_down n = grind (arith, ints, nat_tests)

-- a sum that wraps, added to a number below 2^32
up : (c : ℕ) (off : ℤ) (x : ℕ) → FitsSigned w32 off → (x + word (int_wrap w32 (pos c +ℤ off))) % 2 ^
    32 ≡ (x + c + word off) % 2 ^ 32
up c (pos k) x f =
    let w : word (int_wrap w32 (pos c +ℤ pos k)) ≡ (c + k) % 2 ^ 32 = wrapped_up (c + k) in
    let o : word (pos k) ≡ k = omega (arith, ints) in
    omega (arith, w, o)
up c (negsuc k) x f =
    let o : word (negsuc k) ≡ 2 ^ 32 - 1 - k = omega (arith, ints) in
    let l : k < 2 ^ 31 = f.sfits in
    ⊎_elim
    (λ (lt : k < c).
    let z : pos c +ℤ negsuc k ≡ pos (c - suc k) = omega (arith, ints, lt) in
    let w : word (int_wrap w32 (pos c +ℤ negsuc k)) ≡ (c - suc k) % 2 ^ 32 =
    ap (λ z. word (int_wrap w32 z)) z ∙ wrapped_up (c - suc k) in
    omega (arith, w, o, lt, l))
    (λ (le : c ≤ k).
    let z : pos c +ℤ negsuc k ≡ negsuc (k - c) = omega (arith, ints, le) in
    let w : word (int_wrap w32 (pos c +ℤ negsuc k)) ≡ 2 ^ 32 - 1 - (k - c) % 2 ^ 32 =
    ap (λ z. word (int_wrap w32 z)) z ∙ wrapped_down (k - c) in
    omega (arith, w, o, le, l))
    (cases_lt k c)

-- the same from a number below 0 on
under : (b : ℕ) (off : ℤ) (x : ℕ) → FitsSigned w32 off → suc b ≤ x →
    (x + word (int_wrap w32 (negsuc b +ℤ off))) % 2 ^ 32 ≡ (x - suc b + word off) % 2 ^ 32
under b (pos k) x f l =
    let o : word (pos k) ≡ k = omega (arith, ints) in
    ⊎_elim
    (λ (lt : b < k).
    let z : negsuc b +ℤ pos k ≡ pos (k - suc b) = omega (arith, ints, lt) in
    let w : word (int_wrap w32 (negsuc b +ℤ pos k)) ≡ (k - suc b) % 2 ^ 32 =
    ap (λ z. word (int_wrap w32 z)) z ∙ wrapped_up (k - suc b) in
    omega (arith, w, o, lt, l))
    (λ (le : k ≤ b).
    let z : negsuc b +ℤ pos k ≡ negsuc (b - k) = omega (arith, ints, le) in
    let w : word (int_wrap w32 (negsuc b +ℤ pos k)) ≡ 2 ^ 32 - 1 - (b - k) % 2 ^ 32 =
    ap (λ z. word (int_wrap w32 z)) z ∙ wrapped_down (b - k) in
    omega (arith, w, o, le, l))
    (cases_lt b k)
under b (negsuc k) x f l =
    let o : word (negsuc k) ≡ 2 ^ 32 - 1 - k = omega (arith, ints) in
    let small : k < 2 ^ 31 = f.sfits in
    let z : negsuc b +ℤ negsuc k ≡ negsuc (suc (b + k)) = omega (arith, ints) in
    let w : word (int_wrap w32 (negsuc b +ℤ negsuc k)) ≡ 2 ^ 32 - 1 - suc (b + k) % 2 ^ 32 =
    ap (λ z. word (int_wrap w32 z)) z ∙ wrapped_down (suc (b + k)) in
    omega (arith, w, o, l, small)

between : (c k : ℕ) (off : ℤ) (x : ℕ) → FitsSigned w32 off → k ≤ x →
    (x + word (int_wrap w32 (pos c -ℤ pos k +ℤ off))) % 2 ^ 32 ≡ (x - k + c + word off) % 2 ^ 32
between c k off x f l =
    ⊎_elim
    (λ (lt : c < k).
    let z : pos c -ℤ pos k ≡ negsuc (k - suc c) = omega (arith, ints, lt) in
    let u = under (k - suc c) off x f (omega (arith, lt, l)) in
    let same : x - suc (k - suc c) + word off ≡ x - k + c + word off = omega (arith, lt, l) in
    ap (λ z. (x + word (int_wrap w32 (z +ℤ off))) % 2 ^ 32) z ∙ u ∙ ap (λ n. n % 2 ^ 32) same)
    (λ (le : k ≤ c).
    let z : pos c -ℤ pos k ≡ pos (c - k) = omega (arith, ints, le) in
    let u = up (c - k) off x f in
    let same : x + (c - k) + word off ≡ x - k + c + word off = omega (arith, le, l) in
    ap (λ z. (x + word (int_wrap w32 (z +ℤ off))) % 2 ^ 32) z ∙ u ∙ ap (λ n. n % 2 ^ 32) same)
    (cases_lt c k)

-- ---- the address of a word

wrapped_twice : (x : ℕ) (n : ℕ) → (x + n) % 2 ^ 32 ≡ (x + n % 2 ^ 32) % 2 ^ 32
wrapped_twice x n = omega arith

held_address : (h : Held) (x : Object) (o : ℕ) → address_held h ≡ Some (x, o) → h ≡ Some (At x o)
held_address None x o e = cc
held_address (Some (Num n)) x o e = cc
held_address (Some (At z k)) x o e = ap (λ t. Some (At t.0 t.1)) (some_same (z, k) (x, o) e)

module _ (procs : List LProc) (backs : List ℕ) (pushed : Words) (top : Activation Cells)
    (below : List (Activation Cells)) (globals : Words) (m : State)
    (y : Lies procs backs pushed top below globals m.regs m.stack m.storage) where
  abbrev p : LProc
  p = proc_of procs top.proc

  abbrev pub here_is : Here
  here_is = record {
    calls = length below;
    sum = depth (shape procs) (top ∷ below);
    below =
        depth (shape procs) below;
  }

  -- the variables of an address are in registers
  pub record InRegisters (b : Base) (x : Option VarId) (l : List Place) (held : List Held) : Type 0
    where
      pub via : (v : VarId) → b ≡ base.Via v → (value : Value) → slice_index_or held 0 None ≡
          Some value → Means value (get m.regs (register_at (place_in l 0)))
      pub index : (v : VarId) → x ≡ Some v → (value : Value) →
          slice_index_or held (base_count b) None ≡ Some value →
          Means value (get m.regs (register_at (place_in l (via_count b))))
      pub cell : (k : ℕ) → b ≡ base.Cell k → k < p.args

  module _ (b : Base) (off : ℤ) (x : Option VarId) (l : List Place) (held : List Held)
      (fits : FitsSigned w32 off) (are : InRegisters b x l held) where
    abbrev a : Addr
    a = record { base = b; offset = off; index = x }

    abbrev scaled : ℕ
    scaled = scaled_index_of m.regs
        (option_map (λ (v : VarId). (register_at (place_in l (via_count b)), 4)) x)

    scaled_is : (i : ℕ) → indexed x held (base_count b) ≡ Some i → scaled ≡ i * 4
    scaled_is i e = one x refl e
      where
        one : (z : Option VarId) → x ≡ z → indexed z held (base_count b) ≡ Some i →
            scaled_index_of m.regs (option_map
            (λ (v : VarId). (register_at (place_in l (via_count b)), 4)) z) ≡ i * 4
        one None is e = let none : 0 ≡ i = some_same 0 i e in omega (arith, none)
        one (Some v) is e =
            let means = are.index v is (Num i) (number_is _ i e) in
            ap (λ n. n * 4) means.0

    based_is : (i : ℕ) → scaled ≡ i * 4 → (z : Object) (o : ℕ) → based here_is b held ≡
        Some (z, o) →
        address_of m.regs (address p a l) ≡ (base_of z + (o + word off + 4 * i) % 2 ^ 32) % 2 ^ 32
    based_is i s z o e = one b refl e
      where
        one : (c : Base) → b ≡ c → based here_is c held ≡ Some (z, o) →
            address_of m.regs (object_word p c (register_at (place_in l 0)) off
            (option_map (λ (v : VarId). (register_at (place_in l (via_count b)), 4)) x)) ≡
            (base_of z + (o + word off + 4 * i) % 2 ^ 32) % 2 ^ 32
        one (base.Global g) is e =
            let c = data_base + 4 * g in
            let u = up c off (0 + scaled) fits in
            let same : 0 + scaled + c + word off ≡ data_base + (4 * g + word off + 4 * i) =
            omega (arith, s) in
            u ∙ ap (λ n. n % 2 ^ 32) same ∙ wrapped_twice data_base (4 * g + word off + 4 * i)
            ∙ ap (λ t. (base_of t.0 + (t.1 + word off + 4 * i) % 2 ^ 32) % 2 ^ 32)
            (some_same _ (z, o) e)
        one (base.Frame w) is e =
            let k = 12 + 4 * locals p in
            let high : k ≤ m.regs.ebp + scaled = omega (arith, y.ebp, y.deep, y.sizes.args_long) in
            let u = between (4 * w) k off (m.regs.ebp + scaled) fits high in
            let start = stack_top - depth (shape procs) (top ∷ below) in
            let same : m.regs.ebp + scaled - k + 4 * w + word off ≡
            start + (4 * w + word off + 4 * i) =
            omega (arith, s, y.ebp, y.deep, y.sizes.args_long) in
            u ∙ ap (λ n. n % 2 ^ 32) same ∙ wrapped_twice start (4 * w + word off + 4 * i)
            ∙ ap (λ t. (base_of t.0 + (t.1 + word off + 4 * i) % 2 ^ 32) % 2 ^ 32)
            (some_same _ (z, o) e)
        one (base.Cell k) is e =
            let c = 8 + 4 * (p.args - 1 - k) in
            let u = up c off (m.regs.ebp + scaled) fits in
            let start = stack_top - (depth (shape procs) below + 4 * (k + 1)) in
            let inside = are.cell k is in
            let same : m.regs.ebp + scaled + c + word off ≡ start + (0 + word off + 4 * i) =
            omega (arith, s, y.ebp, y.deep, y.sizes.args_long, inside) in
            u ∙ ap (λ n. n % 2 ^ 32) same ∙ wrapped_twice start (0 + word off + 4 * i)
            ∙ ap (λ t. (base_of t.0 + (t.1 + word off + 4 * i) % 2 ^ 32) % 2 ^ 32)
            (some_same _ (z, o) e)
        one (base.Via v) is e =
            let means = are.via v is (At z o) (held_address _ z o e) in
            omega (arith, means, s)

    pub address_is : (z : Object) (o : ℕ) → placed here_is a held ≡ Some (z, o) →
        address_of m.regs (address p a l) ≡ (base_of z + o) % 2 ^ 32
    address_is z o e =
        let one = bind_some (based here_is b held) _ (z, o) e in
        let two = bind_some (indexed x held (base_count b)) _ (z, o) one.2 in
        based_is two.0 (scaled_is two.0 two.1) one.0.0 one.0.1 one.1
        ∙ ap (λ t. (base_of t.0 + t.1) % 2 ^ 32) (some_same _ (z, o) two.2)
