-- Code whose calls are not filled in yet: where the distance of each call stands is noted, and whom
-- it calls.
use Rattle.std.specs.Prelude.{◌≡◌, ℕ, ◌+◌, ◌-◌, ◌≤◌, List, [], ◌∷◌, ◌++◌, length, take, drop}
use Rattle.ia_code.specs.DecodeTable.{imm32}
use Rattle.ia_code.specs.Listing.{bytes_of_all, AreSound}
use Rattle.ia_emit.specs.declared.bytes.CallSite.{CallSite}
use Rattle.ia_emit.specs.declared.item.Item.{Item}
use Rattle.ia_emit.specs.declared.item.Target.{Target}
use Rattle.ia_emit.specs.Code.{distance, all_aimed}

-- the bytes, where these stand from number k on
abbrev pub overwritten : ℕ → List ℕ → List ℕ → List ℕ
overwritten k word bytes = take k bytes ++ word ++ drop (k + length word) bytes

-- the bytes that stand from this place on, where each call has its distance
abbrev pub filled : (ℕ → ℕ) → ℕ → List CallSite → List ℕ → List ℕ
filled entry from [] bytes = bytes
filled entry from (c ∷ calls) bytes =
    let word = imm32 (distance (c.place + 4) (entry c.callee.0)) in
    filled entry from calls (overwritten (c.place - from) word bytes)

-- the distance of each call stands between two places
abbrev pub Within : ℕ → ℕ → List CallSite → Type 0
Within from to [] = Unit {0}
Within from to (c ∷ calls) = (from ≤ c.place) × (c.place + 4 ≤ to) × Within from to calls

-- The bytes of items that stand from a place on: wherever the procedures begin, filling the calls
-- gives the bytes of the items' instructions.
pub record IsOpen (target : Target → ℕ) (from : ℕ) (items : List Item) (bytes : List ℕ)
    (calls : List CallSite) : Type 0 where
  pub within : Within from (from + length bytes) calls
  pub sound : (entry : ℕ → ℕ) → AreSound (all_aimed target entry from items)
  pub filled_is : (entry : ℕ → ℕ) →
      filled entry from calls bytes ≡ bytes_of_all (all_aimed target entry from items)
