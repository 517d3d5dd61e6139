-- Nothing of a checked module is above its maximum.
use Rattle.std.proofs.Common.{◌≡◌, ℕ, zero, suc, ◌+◌, ◌≤◌, List, [], ◌∷◌, length, map, Some, refl}
use Rattle.std.proofs.Common.{ap, ◌∙◌, subst, arith}
use Rattle.std.specs.Prelude.{slice_get, count_by, if◌then◌else◌, option_map}
use Rattle.std.proofs.lemmas.List.Sums.{sum_by-cons}
use Rattle.std.proofs.lemmas.Option.{slice_get-map}
use Rattle.pra_list.proofs.Options.{some_same, none_some}
use Rattle.pra_base.specs.Limits.{limit_maximum}
use Rattle.pra_base.specs.declared.limit.LimitKind.TheVariants.{Parameters, Scalars}
use Rattle.ob_syntax.specs.declared.checked.CheckedProc.{CheckedProc}
use Rattle.ob_syntax.specs.declared.checked.Draft.{Draft}
use Rattle.ob_syntax.specs.declared.checked.Local.{Local}
use Rattle.ob_syntax.specs.declared.checked.Param.{Param}
use Rattle.ob_syntax.specs.declared.checked.Root.{Root}
use Rattle.ob_syntax.specs.declared.checked.Root.TheVariants as root
use Rattle.ob_syntax.specs.declared.checked.Shape.{Shape}
use Rattle.ob_syntax.specs.declared.tree.Module.{Module}
use Rattle.ob_syntax.specs.Declarations.{Reading}
use Rattle.ob_syntax.specs.Names.{Place}
use Rattle.ob_syntax.specs.WellFormed.{is_scalar, is_addressed, is_aggregate, local_words}
use Rattle.ob_syntax.specs.WellFormed.{lent_in_body, marked_params, locals_from, scalars, IsWithin}
use Rattle.ob_syntax.specs.WellFormed.{checked_proc, resolved}
use Rattle.vc_typed.specs.TypedModules.{IsLimitedProc, IsLimited}
use Rattle.vc_typed.proofs.Limits.{Few, few}
use Rattle.vc_typed.proofs.Lists.{IsAmong}
use Rattle.vc_typed.proofs.ProcedureTrees.{AllCounted, ReadingSound}

marked_count : (lent : List Root) (number : ℕ) (params : List Param) →
    length (marked_params lent number params) ≡ length params
marked_count lent number [] = refl
marked_count lent number (x ∷ params) = ap suc (marked_count lent (number + 1) params)

-- the scalars among variables, as the limit counts them
abbrev scalars_of : List ℕ → ℕ
scalars_of vars = scalars
    (record { id = 0; name = 0; params = []; vars = vars; nodes = 0; body = [] })

scalars_are : (d : Draft) → scalars d ≡ length d.params + scalars_of d.vars
scalars_are d = omega arith

locals_count : (shapes : List Shape) (lent : List Root) (number word : ℕ) (vars : List ℕ) →
    count_by (λ (l : Local). is_scalar l.type_id) (locals_from shapes lent number word vars) ≡
    scalars_of vars
locals_count shapes lent number word [] = refl
locals_count shapes lent number word (x ∷ vars) =
    let next = word + local_words shapes lent number x in
    let l : Local = record {
      type_id = x;
      addressed = is_addressed lent (root.Local number) x;
      word = if is_aggregate lent number x then word else 0;
    } in
    let more = locals_from shapes lent (number + 1) next vars in
    let first = sum_by-cons (λ (l : Local). if is_scalar l.type_id then 1 else 0) l more in
    let rest = locals_count shapes lent (number + 1) next vars in omega (arith, first, rest)

pub draft_of : (p : Place) (ds : List Draft) (k : ℕ) (proc : CheckedProc) →
    slice_get (map (checked_proc p) ds) k ≡ Some proc → (d : Draft) × (slice_get ds k ≡ Some d) ×
    (checked_proc p d ≡ proc)
draft_of p [] k proc at = absurd (none_some at)
draft_of p (d ∷ ds) zero proc at = (d, refl, some_same (checked_proc p d) proc at)
draft_of p (d ∷ ds) (suc k) proc at = draft_of p ds k proc at

counted_at : (nodes : List ℕ) (ds : List Draft) → AllCounted nodes ds → (k : ℕ) (d : Draft) →
    slice_get ds k ≡ Some d → IsAmong d.nodes nodes
counted_at nodes [] all k d at = absurd (none_some at)
counted_at nodes (x ∷ ds) (one, rest) zero d at = subst (λ (z : Draft). IsAmong z.nodes nodes)
    (some_same x d at) one
counted_at nodes (x ∷ ds) (one, rest) (suc k) d at = counted_at nodes ds rest k d at

few_at : {A : Type 0} (f : A → ℕ) (xs : List A) (most k : ℕ) (x : A) →
    ((k n : ℕ) → slice_get (map f xs) k ≡ Some n → n ≤ most) → slice_get xs k ≡ Some x → f x ≤ most
few_at f xs most k x all at = all k (f x) (slice_get-map f xs k ∙ ap (option_map f) at)

proc_limited : (r : Reading) → ReadingSound r → Few r → (k : ℕ) (d : Draft) → slice_get r.procs k ≡
    Some d → IsLimitedProc (checked_proc r.place d)
proc_limited r sound few k d at =
    let lent = lent_in_body d in
    let params = marked_count lent 0 d.params in
    let locals = locals_count r.place.types lent 0 0 d.vars in
    let a = few_at (λ d. length d.params) r.procs (limit_maximum Parameters) k d few.params at in
    let b = few_at scalars r.procs (limit_maximum Scalars) k d few.scalars at in
    let c = counted_at r.place.nodes r.procs sound.counted k d at in
    record {
      params = omega (arith, a, params);
      scalars = omega (arith, b, params, locals, scalars_are d);
      nodes = few.nodes c.index d.nodes c.at;
    }

length_map : {A B : Type 0} (f : A → B) (xs : List A) → length (map f xs) ≡ length xs
length_map f [] = refl
length_map f (x ∷ xs) = ap suc (length_map f xs)

pub module_limited : (m : Module) (r : Reading) → ReadingSound r → IsWithin r →
    IsLimited (resolved m r)
module_limited m r sound within =
    let all = few r within in
    let count = all.procs in
    let same = length_map (checked_proc r.place) r.procs in
    record {
      lengths = λ k count element at. let of = sound.arrays k count element at in
          all.lengths of.index count of.at;
      words = all.words;
      count = omega (arith, count, same);
      procs = λ number proc at.
          let of = draft_of r.place r.procs number proc at in
          subst IsLimitedProc of.2 (proc_limited r sound all number of.0 of.1);
    }
