-- Ends of strands that ties join, and their groups.
use Rattle.std.specs.Prelude.{◌≡◌, ◌⊎◌, ℕ, ◌+◌, ◌*◌, ◌≤◌, Bool, ◌&&◌, ◌||◌, nat_eq, if◌then◌else◌}
use Rattle.std.specs.Prelude.{List, Option, Some, None, Contains, count_by}
use Rattle.std.specs.List.{range_with_len, list_any}
use Rattle.net_form.specs.declared.net.Tie.{Tie}

-- a number for each end: of strand s the entry end is 2 * s, the exit end 2 * s + 1
abbrev pub entry_end : ℕ → ℕ
entry_end s = 2 * s

abbrev pub exit_end : ℕ → ℕ
exit_end s = 2 * s + 1

-- the tie joins the two ends
abbrev pub Ties : Tie → ℕ → ℕ → Type 0
Ties t e f =
    ((e ≡ exit_end t.from) × (f ≡ entry_end t.to)) ⊎ ((f ≡ exit_end t.from) × (e ≡ entry_end t.to))

-- ties join the two ends, directly or through others
pub data Joined (ties : List Tie) (e : ℕ) : ℕ → Type 0 where
  here : Joined ties e e
  on : (f g : ℕ) (t : Tie) → Joined ties e f → Contains ties t → Ties t f g → Joined ties e g

-- the least end that is joined with e
pub record IsLeastEnd (ties : List Tie) (e r : ℕ) : Type 0 where
  pub joined : Joined ties e r
  pub least : (f : ℕ) → Joined ties e f → r ≤ f

-- some tie joins it
abbrev pub is_tied : List Tie → ℕ → Bool
is_tied ties e = list_any (λ t. nat_eq e (exit_end t.from) || nat_eq e (entry_end t.to)) ties

-- it is the least of a group
abbrev pub leads : List Tie → (ℕ → ℕ) → ℕ → Bool
leads ties least e = is_tied ties e && nat_eq (least e) e

-- how many groups have their least end below this one
abbrev pub groups_below : List Tie → (ℕ → ℕ) → ℕ → ℕ
groups_below ties least e = count_by (leads ties least) (range_with_len 0 e)

-- the group of an end, where groups are numbered by their least ends
abbrev pub group_of : List Tie → (ℕ → ℕ) → ℕ → Option ℕ
group_of ties least e = if is_tied ties e then Some (groups_below ties least (least e)) else None
