-- What breaks a rule by itself: a phrase that is tested, a name, one of several parts.
use Rattle.std.specs.Prelude.{◌≡◌, ℕ, ◌⊎◌, List, Some, Ok, Err}
use Rattle.pra_list.specs.Among.{Among}
use Rattle.ob_syntax.specs.declared.checked.Meaning.{Meaning}
use Rattle.ob_syntax.specs.Names.{Fault, Judged, Place, meaning, name_at, used}

-- A phrase that has a reading is tested, and the test finds f broken. What has no reading is not
-- tested.
abbrev pub Fails : {A B : Type 0} → Judged A → (A → Judged B) → Fault → Type 0
Fails {A} reading test f = (x : A) × (reading ≡ Ok x) × (test x ≡ Err f)

-- the same of two phrases that are tested together
abbrev pub BothFail : {A B C : Type 0} → Judged A → Judged B → (A → B → Judged C) → Fault → Type 0
BothFail {A} {B} left right test f =
    (x : A) × (y : B) × (left ≡ Ok x) × (right ≡ Ok y) × (test x y ≡ Err f)

-- The name at token k: no visible scope declares it, or it is out of reach; and whatever it means,
-- it is not what may stand there.
abbrev pub NameFails : {A : Type 0} → Place → ℕ → (Meaning → Judged A) → Fault → Type 0
NameFails p k kind f =
    (used p k ≡ Err f) ⊎
    ((m : Meaning) × (meaning p (name_at p k) ≡ Some m) × (kind m ≡ Err f))

-- one of the elements breaks a rule
abbrev pub AnyOf : {A : Type 0} → (A → Fault → Type 0) → List A → Fault → Type 0
AnyOf {A} B xs f = (x : A) × Among x xs × B x f

-- What breaks a rule behind what has a reading, which makes its scope. Where that has none, there
-- is no scope in which the rest could be looked at.
abbrev pub Behind : {A : Type 0} → Judged A → (A → Fault → Type 0) → Fault → Type 0
Behind {A} reading B f = (x : A) × (reading ≡ Ok x) × B x f

-- what a reading gives, or another value in its place
abbrev pub value_or : {A : Type 0} → A → Judged A → A
value_or other (Ok x) = x
value_or other (Err f) = other
