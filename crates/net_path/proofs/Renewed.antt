-- A least path that may use anything.
use Rattle.std.proofs.Common.{ℕ, ℤ, ◌≡◌, ◌≢◌, ◌<◌, List, [], length, get_or, set, sym, subst, ap}
use Rattle.std.proofs.Common.{◌∙◌, arith, inl, inr, get_or-set_same, get_or-set_other, length-set}
use Rattle.std.proofs.lemmas.Bool.{cases_eq}
use Rattle.pra_base.specs.declared.ids.Place.{Place}
use Rattle.net_form.specs.declared.net.Net.{Net}
use Rattle.net_form.specs.declared.routes.Routes.{Routes}
use Rattle.net_form.specs.declared.taken.Taken.{Taken}
use Rattle.net_form.specs.Admitted.{strand_at}
use Rattle.net_form.specs.Flow.{Edge}
use Rattle.net_form.specs.InUse.{UsesNothing, StandsFor}
use Rattle.net_laws.specs.Built.{IsBuilt}
use Rattle.net_dual.specs.Paths.{MayGo, IsLeast, Anywhere, any_ends, path_edges, path_in}
use Rattle.net_path.specs.Desk.{HasSizes}
use Rattle.net_path.proofs.SomePath.{some_path}

module _ (net : Net) (taken : Taken) (free : StandsFor net taken []) where
  unused : (f : List Edge) → UsesNothing net taken f
  unused f = record {
    registers = λ k d lt has. free.registers _ _;
    pairs = λ j in_ k d lt uses. free.pairs j in_;
  }

  pub least_anywhere : (price : Edge → ℤ) (s : ℕ) (ps : List Place)
      → IsLeast net price any_ends (UsesNothing net taken) s ps
      → IsLeast net price any_ends Anywhere s ps
  least_anywhere price s ps least = record {
    goes = record { path = least.goes.path; has_ends = least.goes.has_ends; is_clear = tt };
    least = λ qs goes. least.least qs (record {
      path = goes.path;
      has_ends = goes.has_ends;
      is_clear = unused (path_edges net s qs);
    });
  }

  pub never_none : IsBuilt net → (s : ℕ) → s < length net.strands
      → ((ps : List Place) → MayGo net any_ends (UsesNothing net taken) s ps → ⊥) → ⊥
  never_none built s lt none =
      let some = some_path net built s lt in
      none some.0 (record {
        path = some.1;
        has_ends = record {
          first = tt;
          last = tt;
        };
        is_clear = unused (path_edges net s some.0);
      })

-- a family in which one path is another
module _ (net : Net) (old new : Routes) (s : ℕ) (path : List Place) (sizes : HasSizes net old)
    (in_ : s < length net.strands) (size : length path ≡ length (strand_at net s).masks)
    (is : new.places ≡ set old.places s path) where
  pub renewed_at : path_in new s ≡ path
  renewed_at = ap (λ (rs : List (List Place)). get_or rs s []) is
      ∙ get_or-set_same old.places s path [] (let m = sizes.many in omega (arith, m, in_))

  pub renewed_other : (k : ℕ) → k ≢ s → path_in new k ≡ path_in old k
  renewed_other k other = ap (λ (rs : List (List Place)). get_or rs k []) is
      ∙ get_or-set_other old.places s k path [] other

  pub renewed_sizes : HasSizes net new
  renewed_sizes = record {
    many = ap length is ∙ length-set old.places s path ∙ sizes.many;
    each = λ k lt. elim (cases_eq k s)
        as (λ _. length (path_in new k) ≡ length (strand_at net k).masks) [
          | inl here ↦ subst (λ (k : ℕ). length (path_in new k) ≡ length (strand_at net k).masks)
              (sym here) (ap length renewed_at ∙ size)
          | inr other ↦ ap length (renewed_other k other) ∙ sizes.each k lt
        ];
  }
