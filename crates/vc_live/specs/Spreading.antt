-- How entries come to the least solution of the equations: what a block makes live by itself, what
-- does not pass it, and what has come of the entries where blocks were asked for a word.
use Rattle.std.specs.Prelude.{◌≡◌, ◌≢◌, ℕ, ◌+◌, ◌/◌, ◌^◌, ◌<◌, ◌≤◌, ◌⊎◌, if◌then◌else◌, Bool, true}
use Rattle.std.specs.Prelude.{false, not, ◌||◌, ◌&&◌, nat_eq, List, [], length, slice_index_or}
use Rattle.std.specs.List.{list_any}
use Rattle.pra_base.specs.declared.code.VInstr.{VInstr}
use Rattle.pra_base.specs.declared.code.VProc.{VProc}
use Rattle.pra_base.specs.Operands.{writes}
use Rattle.pra_base.specs.Code.{code_of, end_of, IsTarget}
use Rattle.vc_live.specs.declared.solve.Flow.{Flow}
use Rattle.vc_live.specs.Sets.{contains}
use Rattle.vc_live.specs.Equations.{through, entry, at_targets, total_room, InRange, HaveWords}
use Rattle.vc_live.specs.Equations.{Shape, IsSound}

-- ---- what is known before any block is asked

-- live before instructions, at whose end nothing is
unfoldable pub makes : (ℕ → Bool) → List VInstr → ℕ → Bool
makes constants instrs v = through constants instrs (λ u. false) v

-- what is live at the end of instructions is not so before them for that
unfoldable pub stops_at : (ℕ → Bool) → List VInstr → ℕ → Bool
stops_at constants instrs v = constants v || list_any (λ i. writes i v) instrs

-- sets of so many words for the first so many blocks
pub record AreSets (words : ℕ) (sets : List (List ℕ)) (member : ℕ → ℕ → Bool)
    (count : ℕ) : Type 0 where
  pub same_count : length sets ≡ count
  pub long : HaveWords words sets
  pub members : (b v : ℕ) → b < count → contains (entry sets b) v ≡ member b v

abbrev pub AreMade : ℕ → VProc → (ℕ → Bool) → List (List ℕ) → ℕ → Type 0
AreMade words code constants sets count =
    AreSets words sets (λ b v. makes constants (code_of code b) v) count

abbrev pub AreStops : ℕ → VProc → (ℕ → Bool) → List (List ℕ) → ℕ → Type 0
AreStops words code constants sets count =
    AreSets words sets (λ b v. stops_at constants (code_of code b) v) count

-- block b is on the list of block t
abbrev pub is_among : List (List ℕ) → ℕ → ℕ → Bool
is_among lists t b = list_any (nat_eq b) (slice_index_or lists t [])

-- block b came to the lists of some blocks, and no other block to any
pub record HasAdded (old new : List (List ℕ)) (b : ℕ) (IsNew : ℕ → Type 0) : Type 0 where
  pub count : length new ≡ length old
  pub kept : (t c : ℕ) → is_among old t c ≡ true → is_among new t c ≡ true
  pub added : (t : ℕ) → IsNew t → is_among new t b ≡ true
  pub only : (t c : ℕ) → is_among new t c ≡ true → (is_among old t c ≡ true) ⊎ (c ≡ b)

-- the first so many blocks are on the lists of the targets of their ends
pub record LeadTo (code : VProc) (sources : List (List ℕ)) (count : ℕ) : Type 0 where
  pub same_count : length sources ≡ length code.blocks
  pub all : (b t : ℕ) → b < count → IsTarget (end_of code b) t → is_among sources t b ≡ true
  pub within : (t b : ℕ) → is_among sources t b ≡ true → b < count

pub record IsFlow (code : VProc) (flow : Flow) : Type 0 where
  pub range : InRange (length flow.constants) code
  pub few : length code.blocks < 2 ^ 32
  pub stops : AreStops (length flow.constants) code (contains flow.constants) flow.stops
      (length code.blocks)
  pub sources : LeadTo code flow.sources (length code.blocks)

-- ---- a block is asked

-- live at the end of a block, and it passes the block
abbrev pub passes : VProc → List (List ℕ) → List (List ℕ) → ℕ → ℕ → Bool
passes code stops entries b v =
    at_targets entries (end_of code b) v && not (contains (entry stops b) v)

-- the entry of block b has taken in, of one word, what passes the block; and it has grown, or all
-- is as it was
pub record HasAsked (code : VProc) (stops old new : List (List ℕ)) (b word : ℕ)
    (grown : Bool) : Type 0 where
  pub count : length new ≡ length old
  pub words : length (entry new b) ≡ length (entry old b)
  pub members : (v : ℕ) → contains (entry new b) v ≡
      (contains (entry old b) v || (nat_eq (v / 64) word && passes code stops old b v))
  pub others : (c : ℕ) → c ≢ b → entry new c ≡ entry old c
  pub same : grown ≡ false → new ≡ old
  pub room : total_room new + (if grown then 1 else 0) ≤ total_room old

-- what has come of entries where blocks were asked for a word
pub record HasSpread (words : ℕ) (code : VProc) (constants : ℕ → Bool) (word : ℕ)
    (start now : List (List ℕ)) : Type 0 where
  pub shape : Shape words code now
  pub sound : IsSound code constants start → IsSound code constants now
  pub kept : (b v : ℕ) → contains (entry start b) v ≡ true → contains (entry now b) v ≡ true
  pub others : (b v : ℕ) → v / 64 ≢ word →
      contains (entry now b) v ≡ contains (entry start b) v

-- ---- what is left to do

abbrev pub is_left : List ℕ → ℕ → Bool
is_left left b = list_any (nat_eq b) left

abbrev pub AreWithin : List ℕ → ℕ → Type 0
AreWithin left count = (b : ℕ) → is_left left b ≡ true → b < count

-- In one word, what is live where block t begins and passes block b, which leads there, is live
-- where b begins, unless b owes it to t.
abbrev pub IsPassed : VProc → List (List ℕ) → List (List ℕ) → ℕ → (ℕ → ℕ → Type 0) → Type 0
IsPassed code stops entries word Owes =
    (b t v : ℕ) → b < length code.blocks → IsTarget (end_of code b) t → v / 64 ≡ word →
    contains (entry entries t) v ≡ true → contains (entry stops b) v ≡ false →
    (contains (entry entries b) v ≡ true) ⊎ Owes b t
