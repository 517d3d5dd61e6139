-- The place of a refusal, for the whole.
use Rattle.std.proofs.Common.{◌≡◌, ℕ, suc, ◌+◌, ◌<◌, List, [], ◌∷◌, ◌++◌, length, take, Some, refl}
use Rattle.std.proofs.Common.{ap, ◌∙◌, sym, subst, arith, append_assoc, length-append, add-one}
use Rattle.ob_syntax.specs.declared.token.Kind.{Kind}
use Rattle.ob_syntax.specs.Grammar.{Module}
use Rattle.ob_syntax.specs.ChosenRule.{first}
use Rattle.ob_syntax.specs.Tree.{Tree, tree}
use Rattle.ob_syntax.proofs.OneForm.{one_form}
use Rattle.ob_syntax.proofs.FormsAreChosen.{settled}
use Rattle.ob_syntax.proofs.FormTokens.{spell_whole}
use Rattle.ob_parse.specs.declared.cursor.Parser.{Parser}
use Rattle.ob_parse.specs.declared.cursor.ParseFault.{ParseFault}
use Rattle.ob_parse.specs.declared.cursor.ParseFault.TheVariants.{Grammar, TooDeep, OutOfMemory}
use Rattle.ob_parse.specs.Reading.{left, place, IsRead, IsStuck, GoesOn, Fails}
use Rattle.ob_syntax.specs.Whole.{IsModule, IsTreeOf, IsFront, IsPlace}

take_all : (a b : List Kind) → take (length a) (a ++ b) ≡ a
take_all [] b = refl
take_all (k ∷ a) b = ap (λ ks. k ∷ ks) (take_all a b)

take_more : (a b : List Kind) (k : Kind) → take (suc (length a)) (a ++ (k ∷ b)) ≡ a ++ k ∷ []
take_more [] b k = refl
take_more (j ∷ a) b k = ap (λ ks. j ∷ ks) (take_more a b k)

abbrev IsStuckWhole : ℕ → List Kind → List Kind → Type 0
IsStuckWhole room read rest = (next : List Kind) → first next ≡ first rest →
    IsModule room (read ++ next) → ⊥

stuck_whole : (room : ℕ) (read rest : List Kind) → IsStuck Module room read rest →
    IsStuckWhole room read rest
stuck_whole room read rest stuck next same (f, eq, deep) =
    stuck next same f [] deep (settled Module f) (eq ∙ sym (spell_whole Module f))

-- the whole was read, and more tokens stand behind it
stuck_behind : (room inner : ℕ) (t : Tree Module) (old new : Parser) (k : Kind)
    (r : IsRead Module inner t old new) → first (left new) ≡ Some k →
    IsStuckWhole room r.read (left new)
stuck_behind room inner t old new k r is [] same m = let i = same ∙ is in cc
stuck_behind room inner t old new k r is (j ∷ next) same (f, eq, deep) =
    let one = one_form Module r.form f (j ∷ next) [] (r.follow (j ∷ next) same) (settled Module f)
    (r.spelled (j ∷ next) ∙ eq ∙ sym (spell_whole Module f)) in
    let no-way : j ∷ next ≡ [] = one.1 in cc

no_more : (room : ℕ) (read rest : List Kind) (k : Kind) → IsStuckWhole room read (k ∷ rest) →
    IsFront room (read ++ k ∷ []) → ⊥
no_more room read rest k stuck (more, whole) =
    stuck (k ∷ more) refl (subst (IsModule room) (append_assoc read (k ∷ []) more) whole)

longest_is : (room : ℕ) (read rest : List Kind) → IsStuckWhole room read rest → length read <
    length (read ++ rest) → IsFront room (take (suc (length read)) (read ++ rest)) → ⊥
longest_is room read [] stuck lt h = omega (arith, length-append read [])
longest_is room read (k ∷ rest) stuck lt h = no_more room read rest k stuck
    (subst (IsFront room) (take_more read rest k) h)

goes_on : (room : ℕ) (read : List Kind) → GoesOn Module room read → IsFront room read
goes_on room read (f, deep, more, is) = (more ++ [], (f, sym (is []) ∙ spell_whole Module f, deep))

read_goes : (room : ℕ) (t : Tree Module) (old new : Parser) (r : IsRead Module room t old new) →
    IsFront room r.read
read_goes room t old new r = ([], (r.form, sym (r.spelled []) ∙ spell_whole Module r.form, r.deep))

place_is : (room : ℕ) (ks read rest : List Kind) (k : ℕ) → ks ≡ read ++ rest → k ≡ length read →
    IsFront room read → IsStuckWhole room read rest → IsPlace room ks k
place_is room ks read rest k is count f stuck =
    let whole : IsPlace room (read ++ rest) (length read) = record {
      within = omega (arith, length-append read rest);
      front = subst (IsFront room) (sym (take_all read rest)) f;
      longest = λ lt h. longest_is room read rest stuck lt (rw add-one at h);
      no_module = λ all m. stuck rest refl m;
    } in
    rw (is, count) whole

no_front : (d : ℕ) (read ks rest : List Kind) (k : ℕ) → ks ≡ read ++ rest → k ≡ length read →
    IsStuckWhole d read rest → k < length ks → IsFront d (take (k + 1) ks) → ⊥
no_front d read ks rest k is count stuck =
    let whole : length read < length (read ++ rest) →
    IsFront d (take (length read + 1) (read ++ rest)) → ⊥ =
    λ lt h. longest_is d read rest stuck lt (rw add-one at h) in
    rw (is, count) whole

next_whole : (d : ℕ) (read rest : List Kind) (k : Kind) → first rest ≡ Some k →
    IsFront d (read ++ k ∷ []) → (length read < length (read ++ rest)) ×
    IsFront d (take (suc (length read)) (read ++ rest))
next_whole d read [] k is h = cc
next_whole d read (j ∷ rest) k is h =
    let i : k ≡ j = cc in (
      omega (arith, length-append read (j ∷ rest)),
      subst (IsFront d) (ap (λ x. read ++ x ∷ []) i ∙ sym (take_more read rest j)) h,
    )

next_front : (d : ℕ) (read ks rest : List Kind) (next : Kind) (k : ℕ) → ks ≡ read ++ rest →
    k ≡ length read → first rest ≡ Some next → IsFront d (read ++ next ∷ []) → (k < length ks) ×
    IsFront d (take (k + 1) ks)
next_front d read ks rest next k is count at h =
    let whole = next_whole d read rest next at h in
    rw (is, count, add-one) whole

-- all clauses, from what the reader of modules says; old is at token 0
module _ (room : ℕ) (ks : List Kind) (old new : Parser) (from : left old ≡ ks) (at : place old ≡ 0)
  where
    pub found_tree : (t : Tree Module) → IsRead Module room t old new → left new ≡ [] →
        IsTreeOf room ks t
    found_tree t r none = (
      r.form,
      sym from ∙ r.from ∙ ap (λ us. r.read ++ us) none ∙ sym (r.spelled [])
          ∙ spell_whole Module r.form,
      r.deep,
      r.tree_is ∙ ap (λ i. tree Module i r.form) at,
    )

    pub refused_only : (e : ParseFault) → Fails Module room old new e → (e ≡ OutOfMemory → ⊥) →
        IsModule room ks → ⊥
    refused_only (Grammar k) h m whole = let r = h.1 in stuck_whole room r.read (left new)
        (r.stuck room) (left new) refl (subst (IsModule room) (sym from ∙ r.from) whole)
    refused_only (TooDeep k) h m whole = let r = h.1 in stuck_whole room r.read (left new) r.stuck
        (left new) refl (subst (IsModule room) (sym from ∙ r.from) whole)
    refused_only OutOfMemory h m whole = m refl

    pub refused_place : (k : ℕ) → Fails Module room old new (Grammar k) → IsPlace room ks k ×
        ((d : ℕ) → k < length ks → IsFront d (take (k + 1) ks) → ⊥)
    refused_place k h =
        let r = h.1 in
        let is : ks ≡ r.read ++ left new = sym from ∙ r.from in
        let count : k ≡ length r.read = omega (arith, h.0, r.count) in (
          place_is room ks r.read (left new) k is count (goes_on room r.read r.goes)
              (stuck_whole room r.read (left new) (r.stuck room)),
          λ d. no_front d r.read ks (left new) k is count
              (stuck_whole d r.read (left new) (r.stuck d)),
        )

    pub deep_place : (k : ℕ) → Fails Module room old new (TooDeep k) → IsPlace room ks k ×
        (k < length ks) × ((d : ℕ) × IsFront d (take (k + 1) ks))
    deep_place k h =
        let r = h.1 in
        let is : ks ≡ r.read ++ left new = sym from ∙ r.from in
        let count : k ≡ length r.read = omega (arith, h.0, r.count) in
        let more = next_front r.deeper.0 r.read ks (left new) r.next k is count r.next_is
        (goes_on r.deeper.0 (r.read ++ r.next ∷ []) r.deeper.1) in (
          place_is room ks r.read (left new) k is count (goes_on room r.read r.goes)
              (stuck_whole room r.read (left new) r.stuck),
          more.0,
          (r.deeper.0, more.1),
        )

    pub behind_place : (t : Tree Module) (k : Kind) → (r : IsRead Module room t old new) →
        first (left new) ≡ Some k → IsPlace room ks (place new) ×
        ((d : ℕ) → place new < length ks → IsFront d (take (place new + 1) ks) → ⊥)
    behind_place t k r at-k =
        let is : ks ≡ r.read ++ left new = sym from ∙ r.from in
        let count : place new ≡ length r.read = omega (arith, r.count) in (
          place_is room ks r.read (left new) (place new) is count (read_goes room t old new r)
              (stuck_behind room room t old new k r at-k),
          λ d. no_front d r.read ks (left new) (place new) is count
              (stuck_behind d room t old new k r at-k),
        )

    pub behind_only : (t : Tree Module) (k : Kind) → (r : IsRead Module room t old new) →
        first (left new) ≡ Some k → IsModule room ks → ⊥
    behind_only t k r at-k whole = stuck_behind room room t old new k r at-k (left new) refl
        (subst (IsModule room) (sym from ∙ r.from) whole)
