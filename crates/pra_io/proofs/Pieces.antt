-- Bytes of sinks and sources, piece by piece.
use Rattle.std.proofs.Common.{None, Some, IsSome, ℕ, ◌+◌, ◌-◌, ◌≤◌, List, [], ◌++◌, take, drop}
use Rattle.std.proofs.Common.{length, subst, sym, ap, ◌∙◌, ◌≡◌, arith}
use Rattle.std.proofs.Math.Seq.{take-add}
use Rattle.std.proofs.lemmas.List.{take_all, length-drop, length-take, length-append}
use Rattle.std.proofs.lemmas.List.{take-append-drop}
use Rattle.std.proofs.Math.ListN.{drop_of_length-le}
use Rattle.std.proofs.Math.Seq.{drop-drop}
use Rattle.std.specs.declared.option.Option.{Option}
use Rattle.std.specs.Io.KnownBytes.{Appends, Consumes, Keeps}
use Rattle.pra_io.specs.Contents.{Takes, TakesAtMost}
use Rattle.std.proofs.KnownBytes.{Appends-trans, Consumes-trans}

-- the value of `&bytes[at..]`
pub tail_is : (at : ℕ) (bytes : List ℕ) → take (length bytes - at) (drop at bytes) ≡ drop at bytes
tail_is at bytes = take_all _ _ (omega (arith, length-drop at bytes))

-- a front of the bytes was appended, and then a front of `&bytes[at..]`
pub Appends-piece : (a b c : Option (List ℕ)) (bytes : List ℕ) (at n : ℕ)
    → Appends a b (take at bytes) →
    Appends b c (take n (take (length bytes - at) (drop at bytes))) →
    Appends a c (take (at + n) bytes)
Appends-piece a b c bytes at n first second =
    let e : take at bytes ++ take n (take (length bytes - at) (drop at bytes)) ≡
    take (at + n) bytes =
    ap (λ l. take at bytes ++ take n l) (tail_is at bytes) ∙ sym (take-add at n bytes) in
    subst (Appends a c) e (Appends-trans a b c _ _ first second)

-- n bytes were taken of `&seen[at..]`, where seen are these bytes
pub taken : (bytes seen front : List ℕ) (at n : ℕ) → seen ≡ bytes →
    front ≡ take n (take (length seen - at) (drop at seen))
    → drop at bytes ≡ front ++ drop (at + n) bytes
taken bytes seen front at n same e =
    sym (take-append-drop n (drop at bytes)) ∙ ap (λ l. take n l ++ drop n (drop at bytes))
    (sym (tail_is at bytes))
    ∙ ap (λ l. take n (take (length l - at) (drop at l)) ++ drop n (drop at bytes)) (sym same)
    ∙ ap (λ l. l ++ drop n (drop at bytes)) (sym e) ∙ ap (λ l. front ++ l) (drop-drop n at bytes)

-- none was taken, and none is left
pub at_end : (bytes seen : List ℕ) (at n : ℕ) → seen ≡ bytes → n ≡ 0 →
    length (take (length seen - at) (drop at seen)) ≡ 0 → drop (at + n) bytes ≡ []
at_end bytes seen at n same zero none =
    drop_of_length-le bytes (omega (
      arith,
      none,
      ap length same,
      ap length (tail_is at seen),
      length-drop at seen,
    ))

-- n bytes more were taken after a front of them
pub took_more : (a b c : Option (List ℕ)) (front piece : List ℕ) (n most : ℕ) → length front + n ≤
    most
    → Consumes a b front → Consumes b c (take n piece) → TakesAtMost a c most
took_more a b c front piece n most within first second = (
  front ++ take n piece,
  omega (
    arith,
    within,
    length-append front (take n piece),
    length-take n piece,
  ),
  Consumes-trans a b c _ _ first second,
)

-- where it is told what was left, no more bytes were taken than those
pub Takes-none : (old mid new : Option (List ℕ)) (front : List ℕ) (most : ℕ) → IsSome old →
    length front ≤ most
    → Consumes old mid front → Keeps mid new → Takes old new (most + 1) → ⊥
Takes-none None mid new front most told within first same more = cc
Takes-none (Some held) None new front most told within first same more = absurd first
Takes-none (Some held) (Some middle) None front most told within first same more = absurd same
Takes-none (Some held) (Some middle) (Some rest) front most told within first same more =
    omega (
      arith,
      within,
      ap length first,
      length-append front middle,
      ap length same,
      more.1,
      ap length more.2,
      length-append more.0 rest,
    )
