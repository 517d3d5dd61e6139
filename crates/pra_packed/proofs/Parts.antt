-- Lists that lie one behind the other: where each lies, one more, and others written over them.
use Rattle.std.proofs.Common.{◌≡◌, ◌∙◌, ℕ, zero, suc, ◌+◌, ◌-◌, ◌<◌, ◌≤◌, List, [], ◌∷◌}
use Rattle.std.proofs.Common.{◌++◌, length, get_or, set, take, drop, slice_range, refl, ap, sym}
use Rattle.std.proofs.Common.{arith}
use Rattle.std.proofs.Common.{length-drop, length-append, subst}
use Rattle.std.proofs.lemmas.List.{take_all, take-append-le, drop-append-le, length-take-le}
use Rattle.std.proofs.lemmas.List.{drop-take, nil_from_length, append_assoc}
use Rattle.std.proofs.lemmas.Slice.{drop-append-drop}
use Rattle.std.proofs.Math.Seq.{drop-append_seam, take-append_seam}
use Rattle.pra_packed.specs.Parts.{parts, AreEnds}

pub length_parts : {X : Type 0} (from : ℕ) (ends : List ℕ) (items : List X)
    → length (parts from ends items) ≡ length ends
length_parts from [] items = refl
length_parts from (end ∷ ends) items = ap suc (length_parts end ends items)

-- where list k begins and ends
pub get_or_parts : {X : Type 0} (from : ℕ) (ends : List ℕ) (items : List X) (k : ℕ) (d : List X)
    → k < length ends
    → get_or (parts from ends items) k d
    ≡ slice_range items (get_or (from ∷ ends) k 0) (get_or ends k 0)
get_or_parts from [] items k d within = absurd (omega (arith, within))
get_or_parts from (end ∷ ends) items zero d within = refl
get_or_parts from (end ∷ ends) items (suc k) d within =
    get_or_parts end ends items k d (omega (arith, within))

-- the last end
pub ends_below : (from : ℕ) (ends : List ℕ) (total : ℕ) → AreEnds from ends total → from ≤ total
ends_below from [] total are = omega (arith, are)
ends_below from (end ∷ ends) total are =
    let rest = ends_below end ends total are.1 in
    omega (arith, are.0, rest)

pub record Lies (ends : List ℕ) (total k : ℕ) (from : ℕ) : Type 0 where
  pub rises : get_or (from ∷ ends) k 0 ≤ get_or ends k 0
  pub within : get_or ends k 0 ≤ total
  pub behind : from ≤ get_or (from ∷ ends) k 0

pub lies : (from : ℕ) (ends : List ℕ) (total k : ℕ) → AreEnds from ends total → k < length ends
    → Lies ends total k from
lies from [] total k are within = absurd (omega (arith, within))
lies from (end ∷ ends) total zero are within = record {
  rises = are.0;
  within = ends_below end ends total are.1;
  behind = omega arith;
}
lies from (end ∷ ends) total (suc k) are within =
    let rest = lies end ends total k are.1 (omega (arith, within)) in record {
      rises = rest.rises;
      within = rest.within;
      behind =
          let b = rest.behind in
          omega (arith, are.0, b);
    }

-- ---- one list more

pub parts_push : {X : Type 0} (from : ℕ) (ends : List ℕ) (items more : List X)
    → AreEnds from ends (length items)
    → parts from (ends ++ (length items + length more) ∷ []) (items ++ more)
    ≡ parts from ends items ++ more ∷ []
parts_push from [] items more are =
    let long : length items + length more - from ≡ length more = omega (arith, are) in
    let at : from ≤ length items = omega (arith, are) in
    let none : drop from items ≡ [] =
    nil_from_length (drop from items) (length-drop from items ∙ omega (arith, are)) in
    rw (long, drop-append-le from items more at, none)
    (ap (λ (xs : List _). xs ∷ []) (take_all (length more) more (omega arith)))
parts_push from (end ∷ ends) items more are =
    let all = ends_below end ends (length items) are.1 in
    let at : from ≤ length items = omega (arith, are.0, all) in
    let rest = length-drop from items in
    let long : end - from ≤ length (drop from items) = omega (arith, rest, all) in
    rw (drop-append-le from items more at, take-append-le (end - from) (drop from items) more long)
    (ap (λ (xs : List (List _)). slice_range items from end ∷ xs)
    (parts_push end ends items more are.1))

pub ends_push : (from : ℕ) (ends : List ℕ) (total more : ℕ) → AreEnds from ends total
    → AreEnds from (ends ++ (total + more) ∷ []) (total + more)
ends_push from [] total more are = (omega (arith, are), refl)
ends_push from (end ∷ ends) total more are = (are.0, ends_push end ends total more are.1)

-- one list more, by what holds the lists then
pub record IsAdded {X : Type 0} (ends newer : List ℕ) (items longer more : List X) : Type 0 where
  pub lists : parts 0 newer longer ≡ parts 0 ends items ++ more ∷ []
  pub are_ends : AreEnds 0 newer (length longer)

pub added : {X : Type 0} (ends newer : List ℕ) (items longer more : List X) (end : ℕ)
    → AreEnds 0 ends (length items) → newer ≡ ends ++ end ∷ [] → longer ≡ items ++ more
    → end ≡ length items + length more → IsAdded ends newer items longer more
added ends newer items longer more end are grown filled behind = record {
  lists =
      ap (λ (es : List ℕ). parts 0 es longer) grown
      ∙ ap (λ (xs : List _). parts 0 (ends ++ end ∷ []) xs) filled
      ∙ ap (λ (e : ℕ). parts 0 (ends ++ e ∷ []) (items ++ more)) behind
      ∙ parts_push 0 ends items more are;
  are_ends = rw (
    grown,
    filled,
    behind,
    length-append items more,
  ) (ends_push 0 ends (length items) (length more) are);
}

-- ---- others written over a list

-- the items with others in the place of those from b to e
abbrev pub spliced : {X : Type 0} → List X → ℕ → ℕ → List X → List X
spliced items b e more = take b items ++ (more ++ drop e items)

take_take : {X : Type 0} (k n : ℕ) (xs : List X) → k ≤ n → take k (take n xs) ≡ take k xs
take_take zero n xs le = refl
take_take (suc k) zero xs le = absurd (omega (arith, le))
take_take (suc k) (suc n) [] le = refl
take_take (suc k) (suc n) (x ∷ xs) le =
    ap (λ (ys : List _). x ∷ ys) (take_take k n xs (omega (arith, le)))

-- a range that ends before them
range_before : {X : Type 0} (items more : List X) (b e x y : ℕ) → x ≤ y → y ≤ b → b ≤ length items
    → slice_range (spliced items b e more) x y ≡ slice_range items x y
range_before items more b e x y xy yb all =
    let long : length (take b items) ≡ b = length-take-le b items all in
    let rest = length-drop x (take b items) in
    let one : x ≤ length (take b items) = omega (arith, xy, yb, long) in
    let two : y - x ≤ length (drop x (take b items)) = omega (arith, xy, yb, long, rest) in
    let parted : x + (b - x) ≡ b = omega (arith, xy, yb) in
    let meets : drop x (take b items) ≡ take (b - x) (drop x items) =
    ap (λ (n : ℕ). drop x (take n items)) (sym parted) ∙ drop-take x (b - x) items in
    rw (
      drop-append-le x (take b items) (more ++ drop e items) one,
      take-append-le (y - x) (drop x (take b items)) (more ++ drop e items) two,
      meets,
    ) (take_take (y - x) (b - x) (drop x items) (omega (arith, xy, yb)))

-- they themselves
range_there : {X : Type 0} (items more : List X) (b e : ℕ) → b ≤ length items
    → b + length more ≡ e → slice_range (spliced items b e more) b e ≡ more
range_there items more b e all whole =
    let long : length (take b items) ≡ b = length-take-le b items all in
    let many : e - b ≡ length more = omega (arith, whole) in
    let seam : drop b (spliced items b e more) ≡ more ++ drop e items =
    ap (λ (n : ℕ). drop n (spliced items b e more)) (sym long)
    ∙ drop-append_seam (take b items) (more ++ drop e items) in
    rw (seam, many) (take-append_seam more (drop e items))

-- what lies behind them
rest_behind : {X : Type 0} (items more : List X) (b e x : ℕ) → b ≤ length items
    → b + length more ≡ e → e ≤ x → drop x (spliced items b e more) ≡ drop x items
rest_behind items more b e x all whole behind =
    let long : length (take b items) ≡ b = length-take-le b items all in
    let both : length (take b items ++ more) ≡ e =
    length-append (take b items) more ∙ omega (arith, long, whole) in
    ap (drop x) (sym (append_assoc (take b items) more (drop e items)))
    ∙ drop-append-drop e items (take b items ++ more) x behind both

-- lists that all lie behind them
parts_behind : {X : Type 0} (items more : List X) (b e from : ℕ) (ends : List ℕ) (total : ℕ)
    → b ≤ length items → b + length more ≡ e → e ≤ from → AreEnds from ends total
    → parts from ends (spliced items b e more) ≡ parts from ends items
parts_behind items more b e from [] total all whole behind are = refl
parts_behind items more b e from (end ∷ ends) total all whole behind are =
    rw (
      rest_behind items more b e from all whole behind,
      parts_behind items more b e end ends total all whole (omega (arith, behind, are.0)) are.1,
    ) refl

-- list k, and none but that, is what was written over it
pub parts_spliced : {X : Type 0} (from : ℕ) (ends : List ℕ) (items more : List X) (k b e : ℕ)
    → AreEnds from ends (length items) → k < length ends
    → b ≡ get_or (from ∷ ends) k 0 → e ≡ get_or ends k 0 → b + length more ≡ e
    → parts from ends (spliced items b e more) ≡ set (parts from ends items) k more
parts_spliced from [] items more k b e are within begins stops whole =
    absurd (omega (arith, within))
parts_spliced from (end ∷ ends) items more zero b e are within begins stops whole =
    let all = ends_below end ends (length items) are.1 in
    let low : b ≤ length items = omega (arith, begins, are.0, all) in
    let there : slice_range (spliced items b e more) from end ≡ more =
    rw (sym begins, sym stops) (range_there items more b e low whole) in
    let after = parts_behind items more b e end ends (length items) low whole
    (omega (arith, stops)) are.1 in
    rw (there, after) refl
parts_spliced from (end ∷ ends) items more (suc k) b e are within begins stops whole =
    let here : k < length ends = omega (arith, within) in
    let place = lies end ends (length items) k are.1 here in
    let low : b ≤ length items =
    let r = place.rises in
    let w = place.within in
    omega (arith, begins, r, w) in
    let after : end ≤ b = let f = place.behind in omega (arith, begins, f) in
    let before = range_before items more b e from end are.0 after low in
    let rest = parts_spliced end ends items more k b e are.1 here begins stops whole in
    rw (before, rest) refl

-- ---- as many lists, each as long

-- lists each as long have the same ends
pub same_ends : {X Y : Type 0} (from : ℕ) (es fs : List ℕ) (xs : List X) (ys : List Y)
    → AreEnds from es (length xs) → AreEnds from fs (length ys) → length es ≡ length fs
    → ((k : ℕ) → k < length es → length (get_or (parts from es xs) k [])
    ≡ length (get_or (parts from fs ys) k []))
    → es ≡ fs
same_ends from [] [] xs ys are too many long = refl
same_ends from [] (f ∷ fs) xs ys are too many long = absurd (omega (arith, many))
same_ends from (e ∷ es) [] xs ys are too many long = absurd (omega (arith, many))
same_ends from (e ∷ es) (f ∷ fs) xs ys are too many long =
    let some : 0 < length (e ∷ es) = omega arith in
    let one = long 0 some in
    let below = ends_below e es (length xs) are.1 in
    let under = ends_below f fs (length ys) too.1 in
    let left = length-take-le (e - from) (drop from xs)
    (rw (length-drop from xs) (omega (arith, below))) in
    let right = length-take-le (f - from) (drop from ys)
    (rw (length-drop from ys) (omega (arith, under))) in
    let same : e ≡ f = omega (arith, one, left, right, are.0, too.0) in
    let rest : es ≡ fs = same_ends e es fs xs ys are.1
    (subst (λ (n : ℕ). AreEnds n fs (length ys)) (sym same) too.1)
    (omega (arith, many))
    (λ k within. long (suc k) (omega (arith, within))
    ∙ ap (λ (n : ℕ). length (get_or (parts n fs ys) k [])) (sym same)) in
    rw (same, rest) refl

-- lists with the same ends have as many elements
pub same_total : (from : ℕ) (ends : List ℕ) (m n : ℕ) → AreEnds from ends m → AreEnds from ends n
    → m ≡ n
same_total from [] m n one other = sym one ∙ other
same_total from (end ∷ ends) m n one other = same_total end ends m n one.1 other.1

-- what is written over all lists of others that are each as long
pub record AreOver {X : Type 0} (es fs : List ℕ) (xs ys : List X) : Type 0 where
  pub same : es ≡ fs
  pub long : length xs ≡ length ys

pub are_over : {X : Type 0} (es fs : List ℕ) (xs ys : List X) (ls ms : List (List X))
    → AreEnds 0 es (length xs) → AreEnds 0 fs (length ys)
    → parts 0 es xs ≡ ls → parts 0 fs ys ≡ ms → length ms ≡ length ls
    → ((k : ℕ) → k < length ms → length (get_or ms k []) ≡ length (get_or ls k []))
    → AreOver es fs xs ys
are_over es fs xs ys ls ms one other left right many long =
    let count : length es ≡ length fs =
    let l = length_parts 0 es xs in
    let m = length_parts 0 fs ys in
    let p = ap (λ (zs : List (List _)). length zs) left in
    let q = ap (λ (zs : List (List _)). length zs) right in
    omega (arith, l, m, p, q, many) in
    let same : es ≡ fs = same_ends 0 es fs xs ys one other count
    (λ k within.
    let here : k < length ms =
    let m = length_parts 0 fs ys in
    let q = ap (λ (zs : List (List _)). length zs) right in
    omega (arith, within, count, m, q) in
    rw (left, right) (sym (long k here))) in record {
      same = same;
      long = same_total 0 fs (length xs) (length ys)
          (subst (λ (zs : List ℕ). AreEnds 0 zs (length xs)) same one) other;
    }
