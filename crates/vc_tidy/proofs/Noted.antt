-- Lists of places, while they are filled.
use Rattle.std.proofs.Common.{◌≡◌, ◌≢◌, ℕ, ◌+◌, ◌<◌, ⊎_elim, true, nat_eq, List, [], ◌∷◌, ◌++◌}
use Rattle.std.proofs.Common.{take, length, get_or, Contains, slice_get, slice_set, Some, sym, ap}
use Rattle.std.proofs.Common.{subst, ◌∙◌, arith}
use Rattle.std.proofs.lemmas.Bool.{cases_eq}
use Rattle.std.proofs.lemmas.List.{get_or-set_same, get_or-set_other}
use Rattle.std.proofs.lemmas.List.Elements.{Contains-append_left, Contains-push}
use Rattle.std.proofs.lemmas.Option.{slice_get-get_or}
use Rattle.pra_list.proofs.Truths.{or_cases, nat_is}
use Rattle.pra_list.proofs.Options.{some_same}
use Rattle.pra_base.specs.declared.code.Block.{Block}
use Rattle.pra_base.specs.declared.code.VInstr.{VInstr}
use Rattle.pra_base.specs.declared.code.VProc.{VProc}
use Rattle.pra_base.specs.Code.{block_in, instr_at, no_block}
use Rattle.pra_base.specs.Valid.{Names, IsSized}
use Rattle.vc_code.specs.declared.row.Role.{Role}
use Rattle.vc_live.specs.Equations.{named_in}
use Rattle.vc_live.proofs.Steps.{no_role, named_more}
use Rattle.vc_tidy.specs.declared.places.Place.{Place}
use Rattle.vc_tidy.specs.Joined.{places_of}
use Rattle.vc_tidy.specs.Places.{Keep, FitAll, Notes, NotesBlock}

pub keeps_itself : (lists : List (List Place)) → Keep lists lists
keeps_itself lists v p c = c

pub keeps_on : (a b c : List (List Place)) → Keep a b → Keep b c → Keep a c
keeps_on a b c k l v p m = l v p (k v p m)

pub keeps_added : (lists : List (List Place)) (at : ℕ) (place : Place) → at < length lists →
    Keep lists (slice_set lists at (places_of lists at ++ place ∷ []))
keeps_added lists at place lt v p c =
    ⊎_elim
    (λ (e : v ≡ at).
    subst (λ u. Contains (places_of (slice_set lists at (places_of lists at ++ place ∷ [])) u) p)
    (sym e)
    (subst (λ (xs : List Place). Contains xs p)
    (sym (get_or-set_same lists at (places_of lists at ++ place ∷ []) [] lt))
    (Contains-append_left (places_of lists at) (place ∷ []) p
    (subst (λ u. Contains (places_of lists u) p) e c))))
    (λ (ne : v ≢ at). subst (λ (xs : List Place). Contains xs p)
    (sym (get_or-set_other lists at v (places_of lists at ++ place ∷ []) [] ne)) c)
    (cases_eq v at)

pub added : (lists : List (List Place)) (at : ℕ) (place : Place) → at < length lists →
    Contains (places_of (slice_set lists at (places_of lists at ++ place ∷ [])) at) place
added lists at place lt = subst (λ (xs : List Place). Contains xs place)
    (sym (get_or-set_same lists at (places_of lists at ++ place ∷ []) [] lt))
    (Contains-push (places_of lists at) place)

-- one more role
pub noted_more : (roles : List Role) (k : ℕ) (old new : List (List Place)) (place : Place) →
    k < length roles → Keep old new → Contains (places_of new (get_or roles k no_role).var.0)
    place →
    ((v : ℕ) → named_in (take k roles) v ≡ true → Contains (places_of old v) place) → (v : ℕ) →
    named_in (take (k + 1) roles) v ≡ true → Contains (places_of new v) place
noted_more roles k old new place lt keep here was v named =
    ⊎_elim
    (λ (m : named_in (take k roles) v ≡ true). keep v place (was v m))
    (λ (m : nat_eq (get_or roles k no_role).var.0 v ≡ true).
    subst (λ u. Contains (places_of new u) place) (nat_is (get_or roles k no_role).var.0 v m)
    here)
    (or_cases (named_in (take k roles) v) (nat_eq (get_or roles k no_role).var.0 v)
    (sym (named_more roles k no_role lt v) ∙ named))

-- one more instruction
pub noted_on : (code : List VInstr) (b n : ℕ) (d : VInstr) (old new : List (List Place)) →
    n < length code → Keep old new → Notes new (get_or code n d) (record { block = b; index = n }) →
    NotesBlock old code b n → NotesBlock new code b (n + 1)
noted_on code b n d old new lt keep here was k i less is v named =
    ⊎_elim
    (λ (e : k ≡ n).
    let same : get_or code n d ≡ i =
    some_same _ _ (sym (slice_get-get_or code n d lt) ∙ ap (λ m. slice_get code m) (sym e) ∙ is)
    in
    subst (λ m. Contains (places_of new v) (record { block = b; index = m })) (sym e)
    (here v (subst (λ (j : VInstr). Names j v) (sym same) named)))
    (λ (ne : k ≢ n). keep v (record { block = b; index = k })
    (was k i (omega (arith, less, ne)) is v named))
    (cases_eq k n)

-- the places of the first so many blocks are in the lists
abbrev pub NotesBlocks : List (List Place) → VProc → ℕ → Type 0
NotesBlocks lists code n = (b k : ℕ) (i : VInstr) → b < n → instr_at code b k ≡ Some i →
    Notes lists i (record { block = b; index = k })

pub noted_block : (code : VProc) (n : ℕ) (x : Block) (xs : List VInstr)
    (old new : List (List Place)) → n < length code.blocks → x ≡ get_or code.blocks n x →
    xs ≡ x.code → Keep old new →
    ((k : ℕ) (i : VInstr) → slice_get xs k ≡ Some i → Notes new i (record { block = n; index = k }))
    → NotesBlocks old code n → NotesBlocks new code (n + 1)
noted_block code n x xs old new lt x_is xs_is keep here was b k i less is v named =
    ⊎_elim
    (λ (e : b ≡ n).
    let same : x ≡ block_in code.blocks n =
    x_is ∙ some_same _ _ (sym (slice_get-get_or code.blocks n x lt)
    ∙ slice_get-get_or code.blocks n no_block lt) in
    let there : slice_get xs k ≡ Some i = ap (λ (ys : List VInstr). slice_get ys k)
    (xs_is ∙ ap (λ (y : Block). y.code) same) ∙ ap (λ m. instr_at code m k) (sym e) ∙ is in
    subst (λ m. Contains (places_of new v) (record { block = m; index = k })) (sym e)
    (here k i there v named))
    (λ (ne : b ≢ n). keep v (record { block = b; index = k })
    (was b k i (omega (arith, less, ne)) is v named))
    (cases_eq b n)

-- a block of sized code has only variables for which there is a list
pub fits_block : (code : VProc) (lists : List (List Place)) (b : ℕ) (x : Block) (xs : List VInstr) →
    IsSized code → length lists ≡ length code.vars → b < length code.blocks →
    x ≡ get_or code.blocks b x → xs ≡ x.code → FitAll lists xs
fits_block code lists b x xs sized count lt x_is xs_is k i is v named =
    let same : x ≡ block_in code.blocks b =
    x_is ∙ some_same _ _ (sym (slice_get-get_or code.blocks b x lt)
    ∙ slice_get-get_or code.blocks b no_block lt) in
    let there : instr_at code b k ≡ Some i = ap (λ (ys : List VInstr). slice_get ys k)
    (sym (xs_is ∙ ap (λ (y : Block). y.code) same)) ∙ is in
    let inside : v < length code.vars = sized.variables_in_range b k i there v named in
    omega (arith, inside, count)
