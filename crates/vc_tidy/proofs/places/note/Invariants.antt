use Rattle.std.proofs.Common.{◌≡◌, ℕ, true, length, take, Contains}
use Rattle.vc_live.specs.Equations.{named_in}
use Rattle.vc_tidy.specs.Joined.{places_of}
use Rattle.vc_tidy.specs.Places.{Keep}
use Rattle.vc_tidy.proofs.places.note.Given as goal

abbrev pub invariant-loop-role : goal.invariant-loop-role
invariant-loop-role l = record {
  count : length l.lists.items ≡ length l.initial.lists.items;
  kept : Keep l.initial.lists.items l.lists.items;
  noted : (v : ℕ) → named_in (take l.role-index l.roles) v ≡ true →
      Contains (places_of l.lists.items v) l.place;
}
