-- What stands at EIP is executed. Bytes are spoken of here, and not above.
use Rattle.std.proofs.Common.{◌≡◌, ℕ, ◌+◌, ◌-◌, ◌^◌, ◌≤◌, ◌<◌, false, List, ◌++◌, length, drop, sym}
use Rattle.std.proofs.Common.{ap, ◌∙◌, arith, length-append, append_assoc, nat_lt, nat_le}
use Rattle.std.proofs.lemmas.Bool.{le-ltb}
use Rattle.std.proofs.Math.Seq.{drop-append_seam}
use Rattle.std.proofs.lemmas.Bool.Decides.{nat_tests}
use Rattle.std.proofs.lemmas.Int.{ints}
use Rattle.std.specs.Prelude.{pos, ◌-ℤ◌, Ok}
use Rattle.std.specs.Int.{w32, cast_unsigned}
use Rattle.std.specs.Int.RustNames.{FitsSigned}
use Rattle.ia_code.specs.declared.ins.Ins.{Ins}
use Rattle.ia_code.specs.DecodeTable.{bytes_of, IsSound}
use Rattle.ia_code.specs.Listing.{bytes_of_all}
use Rattle.ia_code.specs.Regions.{code_base}
use Rattle.pra_base.specs.Words.{sum32}
use Rattle.ia_code.specs.Reading.{decoded}
use Rattle.ia_code.proofs.ReadingIsTable.{decoded-bytes_of}
use Rattle.ia_code.proofs.Listings.{bytes_of_all-append}
use Rattle.ia_code.proofs.EncodingSize.{code_of}
use Rattle.ia_step.specs.declared.out.Ending.TheVariants.{Going}
use Rattle.ia_step.specs.State.{State, at}
use Rattle.ia_step.specs.Effect.{effect}
use Rattle.pra_list.specs.Results.{◌>>=◌}
use Rattle.ia_step.specs.Step.{next_to, fetch, settled, step_from, step}

-- These bytes stand at a place of the code, with others before them and behind them.
pub record IsAt (code : List ℕ) (place : ℕ) (bytes : List ℕ) : Type 0 where
  pub before : List ℕ
  pub behind : List ℕ
  pub parts : code ≡ before ++ (bytes ++ behind)
  pub counted : place ≡ code_base + length before

-- what stands behind the first of them
pub next : (code : List ℕ) (place : ℕ) (first more : List ℕ) → IsAt code place (first ++ more) →
    IsAt code (place + length first) more
next code place first more is = record {
  before = is.before ++ first;
  behind = is.behind;
  parts =
      is.parts
      ∙ ap (λ l. is.before ++ l) (append_assoc first more is.behind)
      ∙ sym (append_assoc is.before first (more ++ is.behind));
  counted = omega (arith, is.counted, length-append is.before first);
}

-- the first of them alone
pub first_of : (code : List ℕ) (place : ℕ) (first more : List ℕ) → IsAt code place (first ++ more) →
    IsAt code place first
first_of code place first more is = record {
  before = is.before;
  behind = more ++ is.behind;
  parts = is.parts ∙ ap (λ l. is.before ++ l) (append_assoc first more is.behind);
  counted = is.counted;
}

-- they end within the code
pub within : (code : List ℕ) (place : ℕ) (bytes : List ℕ) → IsAt code place bytes →
    place + length bytes ≤ code_base + length code
within code place bytes is =
    omega (
      arith,
      is.counted,
      ap length is.parts,
      length-append is.before (bytes ++ is.behind),
      length-append bytes is.behind,
    )

-- a part of a list of instructions stands behind those before it
pub part_is_at : (all before is behind : List Ins) → all ≡ before ++ (is ++ behind) → (place : ℕ) →
    place ≡ code_base + length (bytes_of_all before) → IsAt (bytes_of_all all) place
    (bytes_of_all is)
part_is_at all before is behind parts place counted = record {
  before = bytes_of_all before;
  behind = bytes_of_all behind;
  parts =
      ap bytes_of_all parts
      ∙ bytes_of_all-append before (is ++ behind)
      ∙ ap (λ l. bytes_of_all before ++ l) (bytes_of_all-append is behind);
  counted = counted;
}

not_le : (a b : ℕ) → b < a → nat_le a b ≡ false
not_le a b h = grind (arith, nat_tests)

-- the instruction i stands at EIP
module _ (s : State) (i : Ins) (more : List ℕ) (sound : IsSound i)
    (is : IsAt s.code s.eip (bytes_of i ++ more)) where
  some : 0 < length (bytes_of i)
  some = omega (arith, (code_of i sound).some)

  inside : s.eip + length (bytes_of i) ≤ code_base + length s.code
  inside = within s.code s.eip (bytes_of i) (first_of s.code s.eip (bytes_of i) more is)

  stands : drop (s.eip - code_base) s.code ≡ bytes_of i ++ (more ++ is.behind)
  stands =
      let k : s.eip - code_base ≡ length is.before = omega (arith, is.counted) in
      ap (λ n. drop n s.code) k
      ∙ ap (drop (length is.before)) is.parts
      ∙ drop-append_seam is.before ((bytes_of i ++ more) ++ is.behind)
      ∙ append_assoc (bytes_of i) more is.behind

  pub fetch_here : fetch s ≡ Ok (i, s.eip + length (bytes_of i))
  unfolding fetch
  fetch_here =
      let low : nat_lt s.eip code_base ≡ false = le-ltb _ _ (omega (arith, is.counted)) in
      let high : nat_le (code_base + length s.code) s.eip ≡ false =
      not_le _ s.eip (omega (arith, inside, some)) in
      rw (low, high) (ap (next_to s.eip)
      (ap decoded stands ∙ decoded-bytes_of i sound (more ++ is.behind)))

  -- a machine that is going on executes it
  pub step_here : s.ending ≡ Going →
      step s ≡ settled s (effect (at s (s.eip + length (bytes_of i))) i)
  unfolding step
  step_here going = ap (step_from s) going ∙ ap (λ r. settled s (r >>= λ x. effect (at s x.1) x.0))
      fetch_here

-- a jump from behind the instruction at n to t
pub jump_to : (n t : ℕ) → n < 2 ^ 31 → t < 2 ^ 31 → sum32 n (cast_unsigned w32 (pos t -ℤ pos n)) ≡ t
jump_to n t f g = omega (arith, ints)

pub jump_fits : (n t : ℕ) → n < 2 ^ 31 → t < 2 ^ 31 → FitsSigned w32 (pos t -ℤ pos n)
jump_fits n t f g = omega (arith, ints)
