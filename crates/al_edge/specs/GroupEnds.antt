-- The ends of the strands that are in a tie group.
use Rattle.std.specs.Prelude.{ℕ, Bool, true, not, List}
use Rattle.net_form.specs.declared.net.BlockEnd.{BlockEnd}
use Rattle.net_form.specs.declared.net.BlockEnd.TheVariants.{Entry, Exit}
use Rattle.net_form.specs.declared.net.Net.{Net}
use Rattle.net_form.specs.declared.net.Strand.{Strand}
use Rattle.net_form.specs.declared.net.TieEnd.{TieEnd}
use Rattle.net_form.specs.Admitted.{strand_at}
use Rattle.net_form.specs.Index.{ends_in, members}
use Rattle.al_laws.specs.Greedy.{is_group}

-- by strand, and of a strand the entry first
abbrev pub ends_of : Net → ℕ → List TieEnd
ends_of net g = ends_in (members net.strands) g

abbrev pub layer_at_end : Strand → BlockEnd → ℕ
layer_at_end t Entry = t.first
layer_at_end t Exit = t.last

-- the layer of the end, within its block
abbrev pub end_layer : Net → TieEnd → ℕ
end_layer net e = layer_at_end (strand_at net e.strand) e.end

-- it is the first end of its strand that is in the group
abbrev pub is_first : ℕ → Strand → BlockEnd → Bool
is_first g t Entry = true
is_first g t Exit = not (is_group g t.entry_group)

abbrev pub counts : Net → ℕ → TieEnd → Bool
counts net g e = is_first g (strand_at net e.strand) e.end
