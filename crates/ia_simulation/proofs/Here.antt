-- Items that stand in the code of a module, and that the one at EIP is executed.
use Rattle.std.proofs.Common.{◌≡◌, ℕ, ◌+◌, ◌≤◌, List, [], ◌∷◌, ◌++◌, length, sym, ap, ◌∙◌, subst}
use Rattle.std.proofs.Common.{arith, append_assoc, append-nil, length-append}
use Rattle.ia_code.specs.declared.ins.Ins.{Ins}
use Rattle.ia_code.specs.DecodeTable.{bytes_of, IsSound}
use Rattle.ia_code.specs.Listing.{bytes_of_all, AreSound}
use Rattle.ia_code.specs.Regions.{code_base}
use Rattle.ia_code.proofs.Listings.{bytes_of_all-append, sound_behind}
use Rattle.ia_emit.specs.declared.item.Item.{Item}
use Rattle.ia_emit.specs.declared.item.Target.{Target}
use Rattle.ia_emit.specs.Code.{size_of, size, aimed, all_aimed, entry, code_of}
use Rattle.ia_emit.proofs.Open.{all_aimed-append, length_all}
use Rattle.ia_emit.proofs.Sizes.{size-cons}
use Rattle.ia_step.specs.declared.out.Ending.TheVariants.{Going}
use Rattle.ia_step.specs.Effect.{effect}
use Rattle.ia_step.specs.State.{State, at}
use Rattle.ia_step.specs.Step.{settled, step}
use Rattle.ia_step.proofs.AtEip.{IsAt, part_is_at}
use Rattle.ia_step.proofs.AtEip as eip
use Rattle.pl_place.specs.declared.placed.LProc.{LProc}

-- These items stand so many bytes behind the first byte of the code.
pub record AreAt (procs : List LProc) (target : Target → ℕ) (here : ℕ) (items : List Item) : Type 0
  where
    pub before : List Ins
    pub behind : List Ins
    pub parts : code_of procs ≡ before ++ (all_aimed target (entry procs) here items ++ behind)
    pub place : length (bytes_of_all before) ≡ here

module _ (procs : List LProc) (target : Target → ℕ) (here : ℕ) where
  abbrev list : ℕ → List Item → List Ins
  list at items = all_aimed target (entry procs) at items

  -- a front of them
  pub front : (xs ys : List Item) → AreAt procs target here (xs ++ ys) → AreAt procs target here xs
  front xs ys are = record {
    before = are.before;
    behind = list (here + size xs) ys ++ are.behind;
    parts = are.parts
        ∙ ap (λ l. are.before ++ (l ++ are.behind))
        (all_aimed-append target (entry procs) here xs ys)
        ∙ ap (λ l. are.before ++ l)
        (append_assoc (list here xs) (list (here + size xs) ys) are.behind);
    place = are.place;
  }

  -- what stands behind a front of them
  pub behind : (xs ys : List Item) → AreAt procs target here (xs ++ ys) →
      AreAt procs target (here + size xs) ys
  behind xs ys are = record {
    before = are.before ++ list here xs;
    behind = are.behind;
    parts = are.parts
        ∙ ap (λ l. are.before ++ (l ++ are.behind))
        (all_aimed-append target (entry procs) here xs ys)
        ∙ ap (λ l. are.before ++ l)
        (append_assoc (list here xs) (list (here + size xs) ys) are.behind)
        ∙ sym (append_assoc are.before (list here xs) (list (here + size xs) ys ++ are.behind));
    place =
        let both = ap length (bytes_of_all-append are.before (list here xs)) in
        let one = length-append (bytes_of_all are.before) (bytes_of_all (list here xs)) in
        let more = length_all target (entry procs) here xs in
        omega (arith, both, one, more, are.place);
  }

  -- behind the first
  pub next : (x : Item) (more : List Item) → AreAt procs target here (x ∷ more) →
      AreAt procs target (here + size_of x) more
  next x more are =
      let one : size (x ∷ []) ≡ size_of x = (let c = size-cons x [] in omega (arith, c)) in
      subst (λ n. AreAt procs target (here + n) more) (omega (arith, one))
      (behind (x ∷ []) more are)

  -- the code is as long as what stands in it
  pub within : (items : List Item) → AreAt procs target here items → here + size items ≤
      length (bytes_of_all (code_of procs))
  within items are =
      let all = ap (λ l. length (bytes_of_all l)) are.parts in
      let a = ap length (bytes_of_all-append are.before (list here items ++ are.behind)) in
      let b = length-append (bytes_of_all are.before) (bytes_of_all (list here items ++ are.behind))
      in
      let c = ap length (bytes_of_all-append (list here items) are.behind) in
      let d = length-append (bytes_of_all (list here items)) (bytes_of_all are.behind) in
      let e = length_all target (entry procs) here items in
      omega (arith, all, a, b, c, d, e, are.place)

  -- the table has the first of them
  pub first_sound : (x : Item) (more : List Item) → AreAt procs target here (x ∷ more) →
      AreSound (code_of procs) → IsSound (aimed target (entry procs) (here + size_of x) x)
  first_sound x more are sound =
      (sound_behind are.before (list here (x ∷ more) ++ are.behind)
      (subst AreSound are.parts sound)).0

  -- the first of them stands at EIP
  module _ (s : State) (x : Item) (more : List Item) (are : AreAt procs target here (x ∷ more))
      (code : s.code ≡ bytes_of_all (code_of procs)) (sound : AreSound (code_of procs))
      (place : s.eip ≡ code_base + here) where
    abbrev first : Ins
    first = aimed target (entry procs) (here + size_of x) x

    long : length (bytes_of first) ≡ size_of x
    long =
        let all = length_all target (entry procs) here (x ∷ []) in
        let one : size (x ∷ []) ≡ size_of x = (let c = size-cons x [] in omega (arith, c)) in
        let only = ap length (append-nil (bytes_of first)) in
        omega (arith, all, one, only)

    pub step_here : s.ending ≡ Going → step s ≡ settled s (effect (at s (s.eip + size_of x)) first)
    step_here going =
        let rest = list (here + size_of x) more in
        let placed : s.eip ≡ code_base + length (bytes_of_all are.before) =
        omega (arith, place, are.place) in
        let is : IsAt s.code s.eip (bytes_of first ++ bytes_of_all rest) =
        subst (λ c. IsAt c s.eip (bytes_of_all (first ∷ rest))) (sym code)
        (part_is_at (code_of procs) are.before (first ∷ rest) are.behind are.parts s.eip placed) in
        let own = sound_behind are.before ((first ∷ rest) ++ are.behind)
        (subst AreSound are.parts sound) in
        eip.step_here s first (bytes_of_all rest) own.0 is going
        ∙ ap (λ n. settled s (effect (at s (s.eip + n)) first)) long
