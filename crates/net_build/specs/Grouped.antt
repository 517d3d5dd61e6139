-- Groups of ends, as they are found, and strands with them.
use Rattle.std.specs.Prelude.{◌≡◌, ℕ, ◌+◌, Bool, false, ◌&&◌, ◌||◌, nat_eq, if◌then◌else◌, List}
use Rattle.std.specs.Prelude.{map, length, slice_index_or, count_by, Option, Some, None}
use Rattle.std.specs.List.{range_with_len}
use Rattle.net_form.specs.declared.net.Strand.{Strand}
use Rattle.net_form.specs.declared.net.Tie.{Tie}
use Rattle.net_form.specs.Groups.{IsLeastEnd, is_tied, entry_end, exit_end}
use Rattle.net_build.specs.declared.groups.Groups.{Groups}
use Rattle.net_build.specs.Labels.{parent, GoDown}

-- it is one of the tie's ends
abbrev pub joins : Tie → ℕ → Bool
joins t e = nat_eq e (exit_end t.from) || nat_eq e (entry_end t.to)

-- a tie joins the end, and it stands under itself
abbrev pub leading : List Bool → List ℕ → ℕ → Bool
leading tied least e = slice_index_or tied e false && nat_eq (parent least e) e

-- for each end, and behind the last one, how many of those before it lead
abbrev pub numbers_of : List Bool → List ℕ → List ℕ
numbers_of tied least =
    map (λ e. count_by (leading tied least) (range_with_len 0 e))
    (range_with_len 0 (length least + 1))

pub record AreGroupNumbers (g : Groups) : Type 0 where
  pub down : GoDown g.least
  pub count : length g.tied ≡ length g.least
  pub numbers : g.numbers ≡ numbers_of g.tied g.least

pub record AreGroups (ties : List Tie) (ends : ℕ) (g : Groups) : Type 0 where
  pub tied : (e : ℕ) → slice_index_or g.tied e false ≡ is_tied ties e
  pub least : (e : ℕ) → IsLeastEnd ties e (parent g.least e)
  pub count : length g.least ≡ ends

abbrev pub group_in : Groups → ℕ → Option ℕ
group_in g e =
    if slice_index_or g.tied e false then Some (slice_index_or g.numbers (parent g.least e) 0)
    else None

abbrev pub grouped_in : Groups → (ℕ × Strand) → Strand
grouped_in g s = record s.1 {
  entry_group = group_in g (entry_end s.0);
  exit_group = group_in g (exit_end s.0);
}
