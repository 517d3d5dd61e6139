-- What scopes show: names of types that are there, and in a checked module variables and procedures
-- that it has.
use Rattle.std.proofs.Common.{◌≡◌, ℕ, ◌<◌, ◌≤◌, true, false, List, [], ◌∷◌, ◌++◌, length, Option}
use Rattle.std.proofs.Common.{Some, None, refl, ap, sym, ◌∙◌, subst, arith, length-append}
use Rattle.std.specs.Prelude.{slice_get, bytes_eq, codes}
use Rattle.std.proofs.lemmas.List.{append-nil, append_assoc}
use Rattle.std.proofs.lemmas.Option.{slice_get_within}
use Rattle.pra_list.proofs.Choices.{by_test, either}
use Rattle.pra_list.proofs.Options.{some_same, none_some}
use Rattle.ob_syntax.specs.declared.checked.Checked.{Checked}
use Rattle.ob_syntax.specs.declared.checked.Meaning.{Meaning}
use Rattle.ob_syntax.specs.declared.checked.Meaning.TheVariants as meaning
use Rattle.ob_syntax.specs.declared.checked.Param.{Param}
use Rattle.ob_syntax.specs.declared.checked.Shape.TheVariants.{Boolean}
use Rattle.ob_syntax.specs.declared.checked.Shape.{Shape}
use Rattle.ob_syntax.specs.declared.checked.Standard.TheVariants.{Read, Write, WriteLine}
use Rattle.ob_syntax.specs.declared.checked.Value.TheVariants.{Truth}
use Rattle.ob_syntax.specs.Declarations.{shown, entered, last_scope, left}
use Rattle.ob_syntax.specs.Names.{Place, Scope, name_at, visible, with_name, standard, or_else}
use Rattle.ob_syntax.specs.Names.{innermost}
use Rattle.ob_syntax.specs.Source.{Name}
use Rattle.vc_typed.specs.Fitting.{IsThere, AllThere, EachThere, HasProcedure, Fits}
use Rattle.vc_typed.proofs.TypeTrees.{Formed, Ready, Extends}

-- a name of a type means one of so many
abbrev IsBelow : ℕ → Meaning → Type 0
IsBelow n (meaning.TypeName t) = t < n
IsBelow n _ = Unit {0}

abbrev pub AllMean : ℕ → Scope → Type 0
AllMean n [] = Unit {0}
AllMean n (d ∷ ds) = ((m : Meaning) → d.1 ≡ Some m → IsBelow n m) × AllMean n ds

abbrev pub EachMean : ℕ → List Scope → Type 0
EachMean n [] = Unit {0}
EachMean n (s ∷ ss) = AllMean n s × EachMean n ss

-- A place whose types are formed, all whose names of types mean one of them, and where the module
-- has its heading.
pub record Sound (p : Place) : Type 0 where
  pub formed : Formed p.types p.fields p.lengths
  pub scope : AllMean (length p.types) p.scope
  pub outer : EachMean (length p.types) p.outer
  pub begun : 0 < length p.headings

-- ---- more types

below_more : (a b : ℕ) → a ≤ b → (m : Meaning) → IsBelow a m → IsBelow b m
below_more a b le (meaning.TypeName t) lt = omega (arith, le, lt)
below_more a b le (meaning.Constant v) lt = tt
below_more a b le (meaning.Variable o r t) lt = tt
below_more a b le (meaning.Procedure v) lt = tt
below_more a b le (meaning.Standard v) lt = tt

pub mean_more : (a b : ℕ) → a ≤ b → (s : Scope) → AllMean a s → AllMean b s
mean_more a b le [] all = tt
mean_more a b le (d ∷ ds) (one, rest) =
    ((λ m is. below_more a b le m (one m is)), mean_more a b le ds rest)

pub each_more : (a b : ℕ) → a ≤ b → (ss : List Scope) → EachMean a ss → EachMean b ss
each_more a b le [] all = tt
each_more a b le (s ∷ ss) (one, rest) = (mean_more a b le s one, each_more a b le ss rest)

-- ---- what is visible

mean_visible : (n : ℕ) (name : Name) (s : Scope) → AllMean n s → (m : Meaning) → visible name s ≡
    Some m → IsBelow n m
mean_visible n name [] all m is = absurd (none_some is)
mean_visible n name (d ∷ ds) (one, rest) m is = by_test (bytes_eq name d.0) d.1 (visible name ds)
    (Some m) (λ b same. one m same) (λ b same. mean_visible n name ds rest m same) is

mean_or : (n : ℕ) (a b : Option Meaning) → ((m : Meaning) → a ≡ Some m → IsBelow n m) →
    ((m : Meaning) → b ≡ Some m → IsBelow n m) → (m : Meaning) → or_else a b ≡ Some m → IsBelow n m
mean_or n (Some x) b first second m is = first m is
mean_or n None b first second m is = second m is

mean_innermost : (n : ℕ) (name : Name) (found : Option Meaning) (ss : List Scope) →
    ((m : Meaning) → found ≡ Some m → IsBelow n m) → EachMean n ss → (m : Meaning) →
    innermost name found ss ≡ Some m → IsBelow n m
mean_innermost n name found [] there all m is = there m is
mean_innermost n name found (s ∷ ss) there (one, rest) m is =
    mean_innermost n name (or_else (visible name s) found) ss
    (mean_or n (visible name s) found (mean_visible n name s one) there) rest m is

below_is : (n : ℕ) (m x : Meaning) → IsBelow n m → ◌≡◌ {A = Option Meaning} (Some m) (Some x) →
    IsBelow n x
below_is n m x lt is = subst (IsBelow n) (some_same m x is) lt

mean_standard : (n : ℕ) → 1 < n → (name : Name) (m : Meaning) → standard name ≡ Some m → IsBelow n m
mean_standard n two name m is =
    by_test (bytes_eq name (codes "INTEGER")) _ _ (Some m)
    (λ b same. below_is n (meaning.TypeName 0) m (omega (arith, two)) same) (λ b is.
    by_test (bytes_eq name (codes "BOOLEAN")) _ _ (Some m)
    (λ b same. below_is n (meaning.TypeName 1) m two same) (λ b is.
    by_test (bytes_eq name (codes "TRUE")) _ _ (Some m)
    (λ b same. below_is n (meaning.Constant (Truth true)) m tt same) (λ b is.
    by_test (bytes_eq name (codes "FALSE")) _ _ (Some m)
    (λ b same. below_is n (meaning.Constant (Truth false)) m tt same) (λ b is.
    by_test (bytes_eq name (codes "Read")) _ _ (Some m)
    (λ b same. below_is n (meaning.Standard Read) m tt same) (λ b is.
    by_test (bytes_eq name (codes "Write")) _ _ (Some m)
    (λ b same. below_is n (meaning.Standard Write) m tt same) (λ b is.
    by_test (bytes_eq name (codes "WriteLn")) _ _ (Some m)
    (λ b same. below_is n (meaning.Standard WriteLine) m tt same) (λ b is.
    absurd (none_some is)) is) is) is) is) is) is) is

pub ready : (p : Place) → Sound p → Ready p
ready p sound = record {
  formed = sound.formed;
  names = λ name t is.
      let n = length p.types in
      mean_or n (visible name p.scope) (innermost name (standard name) p.outer)
      (mean_visible n name p.scope sound.scope)
      (mean_innermost n name (standard name) p.outer
      (mean_standard n (slice_get_within p.types 1 Boolean sound.formed.ordered.second) name)
      sound.outer) (meaning.TypeName t) is;
}

-- ---- what is behind a declaration

-- A place behind another one has its types and more, and the same tokens, headings and nodes.
pub record Onward (p q : Place) : Type 0 where
  pub more : List Shape
  pub grown : q.types ≡ p.types ++ more
  pub here : q.here ≡ p.here
  pub tokens : q.tokens ≡ p.tokens
  pub headings : q.headings ≡ p.headings
  pub nodes : q.nodes ≡ p.nodes
  pub sound : Sound q

pub longer : {A : Type 0} (xs ys more : List A) → ys ≡ xs ++ more → length xs ≤ length ys
longer xs ys more grown = let count = ap length grown in omega (arith, count, length-append xs more)

pub few_types : (p q : Place) → Onward p q → length p.types ≤ length q.types
few_types p q a = longer p.types q.types a.more a.grown

pub onward_stays : (p : Place) → Sound p → Onward p p
onward_stays p sound = record {
  more = [];
  grown = sym (append-nil p.types);
  here = refl;
  tokens =
      refl;
  headings = refl;
  nodes = refl;
  sound = sound;
}

pub onward_on : (p q r : Place) → Onward p q → Onward q r → Onward p r
onward_on p q r a b = record {
  more = a.more ++ b.more;
  grown = b.grown ∙ ap (λ ts. ts ++ b.more) a.grown ∙ append_assoc p.types a.more b.more;
  here = b.here ∙ a.here;
  tokens = b.tokens ∙ a.tokens;
  headings = b.headings ∙ a.headings;
  nodes = b.nodes ∙ a.nodes;
  sound = b.sound;
}

pub mean_with_name : (n : ℕ) (name : Name) (found : Option Meaning) (s : Scope) →
    ((m : Meaning) → found ≡ Some m → IsBelow n m) → AllMean n s →
    AllMean n (with_name name found s)
mean_with_name n name found [] new all = (new, tt)
mean_with_name n name found (d ∷ ds) new (one, rest) =
    either (AllMean n) (bytes_eq name d.0) ((d.0, found) ∷ ds) (d ∷ with_name name found ds)
    (λ b. (new, rest)) (λ b. (one, mean_with_name n name found ds new rest))

-- another scope in its place
pub onward_scope : (p : Place) (s : Scope) → Sound p → AllMean (length p.types) s →
    Onward p (record p { scope = s })
onward_scope p s sound all = record {
  more = [];
  grown = sym (append-nil p.types);
  here = refl;
  tokens = refl;
  headings = refl;
  nodes = refl;
  sound = record { formed = sound.formed; scope = all; outer = sound.outer; begun = sound.begun };
}

pub onward_shown : (p : Place) (k : ℕ) (m : Meaning) → Sound p → IsBelow (length p.types) m →
    Onward p (shown p k m)
onward_shown p k m sound lt =
    onward_scope p (with_name (name_at p k) (Some m) p.scope) sound
    (mean_with_name (length p.types) (name_at p k) (Some m) p.scope
    (λ x is. subst (IsBelow (length p.types)) (some_same m x is) lt) sound.scope)

pub onward_type : (p q : Place) → Sound p → Extends p q → Onward p q
onward_type p q sound e =
    let few = longer p.types e.types e.more e.grown in
    subst (Onward p) (sym e.is) (record {
      more = e.more;
      grown = e.grown;
      here = refl;
      tokens = refl;
      headings = refl;
      nodes = refl;
      sound = record {
        formed = e.formed;
        scope = mean_more (length p.types) (length e.types) few p.scope sound.scope;
        outer = each_more (length p.types) (length e.types) few p.outer sound.outer;
        begun = sound.begun;
      };
    })

-- ---- scopes that are left and entered

each_last : (n : ℕ) (ss : List Scope) (s : Scope) → EachMean n ss → AllMean n s →
    EachMean n (ss ++ s ∷ [])
each_last n [] s all one = (one, tt)
each_last n (x ∷ ss) s (first, rest) one = (first, each_last n ss s rest one)

last_mean : (n : ℕ) (ss : List Scope) → EachMean n ss → AllMean n (last_scope ss).0 ×
    EachMean n (last_scope ss).1
last_mean n [] all = (tt, tt)
last_mean n (s ∷ []) (one, rest) = (one, tt)
last_mean n (s ∷ t ∷ ss) (one, rest) = let behind = last_mean n (t ∷ ss) rest in
    (behind.0, (one, behind.1))

pub left_sound : (p : Place) (here : ℕ) → Sound p → Sound (left p here)
left_sound p here sound =
    let parts = last_mean (length p.types) p.outer sound.outer in
    record { formed = sound.formed; scope = parts.0; outer = parts.1; begun = sound.begun }

pub entered_sound : (p : Place) (id : ℕ) (s : Scope) → Sound p → AllMean (length p.types) s →
    Sound (entered p id s)
entered_sound p id s sound all =
    record {
      formed = sound.formed;
      scope = all;
      outer = each_last (length p.types) p.outer p.scope
          sound.outer sound.scope;
      begun = sound.begun;
    }

-- ---- what scopes show of a checked module

-- Procedures so far are the module's, and what the scopes show is there.
pub record Shows (program : Checked) (p : Place) : Type 0 where
  pub headings : (id : ℕ) (params : List Param) → slice_get p.headings id ≡ Some params →
      HasProcedure program id params
  pub scope : AllThere program (length p.types) (length p.headings) p.scope
  pub outer : EachThere program (length p.types) (length p.headings) p.outer

abbrev pub TypesIn : Checked → List Shape → Type 0
TypesIn program types = (k : ℕ) (shape : Shape) → slice_get types k ≡ Some shape →
    slice_get program.types k ≡ Some shape

module _ (program : Checked) where
  there_more : (a b c d : ℕ) → a ≤ b → c ≤ d → (m : Meaning) → IsThere program a c m →
      IsThere program b d m
  there_more a b c d types procs (meaning.TypeName t) lt = omega (arith, types, lt)
  there_more a b c d types procs (meaning.Procedure v) lt = omega (arith, procs, lt)
  there_more a b c d types procs (meaning.Variable o r t) is = is
  there_more a b c d types procs (meaning.Constant v) is = tt
  there_more a b c d types procs (meaning.Standard v) is = tt

  pub all_there_more : (a b c d : ℕ) → a ≤ b → c ≤ d → (s : Scope) → AllThere program a c s →
      AllThere program b d s
  all_there_more a b c d types procs [] all = tt
  all_there_more a b c d types procs (x ∷ xs) (one, rest) = (
    (λ m is. there_more a b c d types procs m (one m is)),
    all_there_more a b c d types procs xs rest,
  )

  pub each_there_more : (a b c d : ℕ) → a ≤ b → c ≤ d → (ss : List Scope) →
      EachThere program a c ss → EachThere program b d ss
  each_there_more a b c d types procs [] all = tt
  each_there_more a b c d types procs (s ∷ ss) (one, rest) =
      (all_there_more a b c d types procs s one, each_there_more a b c d types procs ss rest)

  there_with_name : (a c : ℕ) (name : Name) (found : Option Meaning) (s : Scope) →
      ((m : Meaning) → found ≡ Some m → IsThere program a c m) → AllThere program a c s →
      AllThere program a c (with_name name found s)
  there_with_name a c name found [] new all = (new, tt)
  there_with_name a c name found (d ∷ ds) new (one, rest) =
      either (AllThere program a c) (bytes_eq name d.0) ((d.0, found) ∷ ds)
      (d ∷ with_name name found ds) (λ b. (new, rest))
      (λ b. (one, there_with_name a c name found ds new rest))

  -- a name that is not visible yet
  pub announced_there : (a c : ℕ) (name : Name) (s : Scope) → AllThere program a c s →
      AllThere program a c (with_name name None s)
  announced_there a c name s all = there_with_name a c name None s (λ m is. absurd (none_some is))
      all

  pub named_there : (a c : ℕ) (name : Name) (m : Meaning) (s : Scope) → IsThere program a c m →
      AllThere program a c s → AllThere program a c (with_name name (Some m) s)
  named_there a c name m s there all = there_with_name a c name (Some m) s
      (λ x is. subst (IsThere program a c) (some_same m x is) there) all

  pub shows_scope : (p : Place) (s : Scope) → Shows program p → AllThere program (length p.types)
      (length p.headings) s → Shows program (record p { scope = s })
  shows_scope p s shows all = record { headings = shows.headings; scope = all; outer = shows.outer }

  pub shows_shown : (p : Place) (k : ℕ) (m : Meaning) → Shows program p →
      IsThere program (length p.types) (length p.headings) m → Shows program (shown p k m)
  shows_shown p k m shows there =
      shows_scope p (with_name (name_at p k) (Some m) p.scope) shows
      (named_there (length p.types) (length p.headings) (name_at p k) m p.scope there
      shows.scope)

  pub shows_type : (p q : Place) → Extends p q → Shows program p → Shows program q
  shows_type p q e shows =
      let few = longer p.types e.types e.more e.grown in
      subst (Shows program) (sym e.is) (record {
        headings = shows.headings;
        scope = all_there_more (length p.types) (length e.types) (length p.headings)
            (length p.headings) few (omega arith) p.scope shows.scope;
        outer = each_there_more (length p.types) (length e.types) (length p.headings)
            (length p.headings) few (omega arith) p.outer shows.outer;
      })

  there_last : (a c : ℕ) (ss : List Scope) (s : Scope) → EachThere program a c ss →
      AllThere program a c s → EachThere program a c (ss ++ s ∷ [])
  there_last a c [] s all one = (one, tt)
  there_last a c (x ∷ ss) s (first, rest) one = (first, there_last a c ss s rest one)

  last_there : (a c : ℕ) (ss : List Scope) → EachThere program a c ss →
      AllThere program a c (last_scope ss).0 × EachThere program a c (last_scope ss).1
  last_there a c [] all = (tt, tt)
  last_there a c (s ∷ []) (one, rest) = (one, tt)
  last_there a c (s ∷ t ∷ ss) (one, rest) = let behind = last_there a c (t ∷ ss) rest in
      (behind.0, (one, behind.1))

  pub left_shows : (p : Place) (here : ℕ) → Shows program p → Shows program (left p here)
  left_shows p here shows =
      let parts = last_there (length p.types) (length p.headings) p.outer shows.outer in
      record { headings = shows.headings; scope = parts.0; outer = parts.1 }

  pub entered_shows : (p : Place) (id : ℕ) (s : Scope) → Shows program p →
      AllThere program (length p.types) (length p.headings) s → Shows program (entered p id s)
  entered_shows p id s shows all =
      record {
        headings = shows.headings;
        scope = all;
        outer = there_last (length p.types)
            (length p.headings) p.outer p.scope shows.outer shows.scope;
      }

  pub fitting : (p : Place) → Sound p → TypesIn program p.types → Shows program p → Fits program p
  fitting p sound types shows = record {
    types = types;
    ordered = sound.formed.ordered;
    parallel = sound.formed.parallel;
    named = sound.formed.named;
    headings = shows.headings;
    scope = shows.scope;
    outer = shows.outer;
  }
