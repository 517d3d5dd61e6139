-- A word that is written over a part of the code, and calls that are filled in one by one.
use Rattle.std.proofs.Common.{◌≡◌, ℕ, zero, suc, ◌+◌, ◌-◌, ◌≤◌, ◌<◌, List, [], ◌∷◌, ◌++◌, length}
use Rattle.std.proofs.Common.{get_or, take, drop, sym, ap, ◌∙◌, arith, append_assoc}
use Rattle.std.specs.Prelude.{ℤ}
use Rattle.std.proofs.lemmas.List.{drop-drop, drop_more}
use Rattle.ia_code.specs.DecodeTable.{imm32}
use Rattle.ia_emit.specs.declared.bytes.CallSite.{CallSite}
use Rattle.ia_emit.specs.Code.{distance}
use Rattle.ia_emit.specs.Open.{overwritten, filled, Within}

pub part_is_overwritten : (place k : ℕ) (word new code : List ℕ) → new ≡ word → k ≡ length word →
    take place code ++ (new ++ drop k (drop place code)) ≡ overwritten place word code
part_is_overwritten place k word new code e f =
    ap (λ l. take place code ++ (l ++ drop k (drop place code))) e
    ∙ ap (λ n. take place code ++ (word ++ drop n (drop place code))) f
    ∙ ap (λ l. take place code ++ (word ++ l)) (drop-drop (length word) place code)
    ∙ sym (append_assoc (take place code) word (drop (place + length word) code))

-- a call stands within the code
pub within_at : (from to : ℕ) (calls : List CallSite) (k : ℕ) (d : CallSite) → k < length calls →
    Within from to calls → (get_or calls k d).place + 4 ≤ to
within_at from to [] k d lt w = absurd (omega arith)
within_at from to (c ∷ calls) zero d lt w = w.1
within_at from to (c ∷ calls) (suc k) d lt w = within_at from to calls k d (omega (arith, lt)) w.2

-- one call more is filled
pub filled_one_more : (starts : ℕ → ℕ) (all code new : List ℕ) (calls : List CallSite) (i : ℕ)
    (d : CallSite) (far : ℤ) → i < length calls →
    filled starts 0 (drop i calls) code ≡ all →
    far ≡ distance ((get_or calls i d).place + 4) (starts (get_or calls i d).callee.0) →
    new ≡ overwritten (get_or calls i d).place (imm32 far) code →
    filled starts 0 (drop (i + 1) calls) new ≡ all
filled_one_more starts all code new calls i d far lt so_far is e =
    let site : CallSite = get_or calls i d in
    let word : List ℕ = imm32 (distance (site.place + 4) (starts site.callee.0)) in
    let place : site.place ≡ site.place - 0 = omega arith in
    ap (filled starts 0 (drop (i + 1) calls))
    (e ∙ ap (λ n. overwritten site.place (imm32 n) code) is ∙ ap (λ n. overwritten n word code)
    place)
    ∙ sym (ap (λ l. filled starts 0 l code) (drop_more calls i d lt)) ∙ so_far
