-- Of a reading within the limits no quantity is above its maximum.
use Rattle.std.proofs.Common.{◌≡◌, ℕ, zero, suc, ◌≤◌, List, [], ◌∷◌, length, map, Option, Some}
use Rattle.std.proofs.Common.{None, refl, arith, ltb-false}
use Rattle.std.specs.Prelude.{slice_get, nat_lt, ◌-◌}
use Rattle.pra_list.proofs.Choices.{by_test}
use Rattle.pra_list.proofs.Options.{some_same, none_some}
use Rattle.pra_base.specs.Limits.{limit_maximum}
use Rattle.pra_base.specs.declared.limit.LimitKind.{LimitKind}
use Rattle.pra_base.specs.declared.limit.LimitKind.TheVariants.{ArrayLength, TypeWords, Procedures}
use Rattle.pra_base.specs.declared.limit.LimitKind.TheVariants.{Parameters, Scalars, AggregateWords}
use Rattle.pra_base.specs.declared.limit.LimitKind.TheVariants.{ModuleWords, Nodes}
use Rattle.ob_syntax.specs.Declarations.{Reading}
use Rattle.ob_syntax.specs.Storage.{all_words}
use Rattle.ob_syntax.specs.WellFormed.{aggregate_words, data_words, Excess, first_above, or_then}
use Rattle.ob_syntax.specs.WellFormed.{scalars, IsWithin}

first_of : (a b : Option Excess) → or_then a b ≡ None → (a ≡ None) × (b ≡ None)
first_of (Some e) b is = absurd (cc)
first_of None b is = (refl, is)

none_above : (kind : LimitKind) (ns : List ℕ) → first_above kind ns ≡ None → (k n : ℕ) →
    slice_get ns k ≡ Some n → n ≤ limit_maximum kind
none_above kind [] is k n at = absurd (none_some at)
none_above kind (x ∷ ns) is zero n at =
    by_test (nat_lt (limit_maximum kind) x) (Some (kind, x)) (first_above kind ns) None
    (λ b same. absurd (cc)) (λ b same. let le = ltb-false (limit_maximum kind) x b in
    let there = some_same x n at in omega (arith, le, there)) is
none_above kind (x ∷ ns) is (suc k) n at =
    by_test (nat_lt (limit_maximum kind) x) (Some (kind, x)) (first_above kind ns) None
    (λ b same. absurd (cc)) (λ b same. none_above kind ns same k n at) is

abbrev AllFew : LimitKind → List ℕ → Type 0
AllFew kind ns = (k n : ℕ) → slice_get ns k ≡ Some n → n ≤ limit_maximum kind

pub record Few (r : Reading) : Type 0 where
  pub lengths : AllFew ArrayLength r.place.lengths
  pub words : AllFew TypeWords (all_words r.place.types)
  pub procs : length r.procs - 1 ≤ limit_maximum Procedures
  pub params : AllFew Parameters (map (λ d. length d.params) r.procs)
  pub scalars : AllFew Scalars (map scalars r.procs)
  pub aggregates : AllFew AggregateWords (map (aggregate_words r.place.types) r.procs)
  pub vars : data_words r.place.types r.vars ≤ limit_maximum ModuleWords
  pub nodes : AllFew Nodes r.place.nodes

pub few : (r : Reading) → IsWithin r → Few r
few r within =
    let a = first_of (first_above ArrayLength r.place.lengths) _ within in
    let b = first_of (first_above TypeWords (all_words r.place.types)) _ a.1 in
    let c = first_of (first_above Procedures ((length r.procs - 1) ∷ [])) _ b.1 in
    let d = first_of (first_above Parameters (map (λ d. length d.params) r.procs)) _ c.1 in
    let e = first_of (first_above Scalars (map scalars r.procs)) _ d.1 in
    let f = first_of (first_above AggregateWords (map (aggregate_words r.place.types) r.procs)) _
    e.1 in
    let g = first_of (first_above ModuleWords (data_words r.place.types r.vars ∷ [])) _ f.1 in
    record {
      lengths = none_above ArrayLength r.place.lengths a.0;
      words = none_above TypeWords (all_words r.place.types) b.0;
      procs = none_above Procedures ((length r.procs - 1) ∷ []) c.0 0 (length r.procs - 1) refl;
      params = none_above Parameters (map (λ d. length d.params) r.procs) d.0;
      scalars = none_above Scalars (map scalars r.procs) e.0;
      aggregates = none_above AggregateWords (map (aggregate_words r.place.types) r.procs) f.0;
      vars = none_above ModuleWords (data_words r.place.types r.vars ∷ []) g.0 0
          (data_words r.place.types r.vars) refl;
      nodes = none_above Nodes r.place.nodes g.1;
    }
