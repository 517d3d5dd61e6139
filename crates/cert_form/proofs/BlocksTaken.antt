-- What is taken of a block.
use Rattle.std.proofs.Common.{◌≡◌, ℕ, List, [], ◌∷◌, Option, Some, None, Result, Ok, Err, ap}
use Rattle.std.proofs.Common.{◌∙◌, subst}
use Rattle.json.specs.Token.{Token}
use Rattle.json.specs.Json.{parse_map}
use Rattle.serde_json.specs.Data.{Data, array, Items, no_items, item}
use Rattle.pra_list.specs.Each.{Each, EachAt}
use Rattle.pra_base.specs.declared.code.VInstr.{VInstr}
use Rattle.pra_base.specs.declared.code.End.{End}
use Rattle.pra_base.specs.declared.code.Block.{Block}
use Rattle.cert_form.specs.declared.passing.Unread.{Unread}
use Rattle.cert_form.specs.Form.{natural, list, instruction_data, end_data, block_data}
use Rattle.cert_form.specs.Whole.{IsNatural, InstructionFits, EndFits, BlockFits}
use Rattle.cert_form.proofs.Gathered.{items_in}
use Rattle.cert_form.proofs.Tooks.{unread}
use Rattle.cert_form.specs.Streams.{rests, Took, IsListAnswer, AreFew, TookItem}

-- each of all, and each at its place

pub each_there : {A : Type 0} (P : A → Type 0) (xs : List A) → Each P xs → EachAt (λ n x. P x) xs
each_there P [] h = tt
each_there P (x ∷ xs) h = (h.0, each_there P xs h.1)

pub each_alone : {A : Type 0} (P : A → Type 0) (xs : List A) → EachAt (λ n x. P x) xs → Each P xs
each_alone P [] h = tt
each_alone P (x ∷ xs) h = (h.0, each_alone P xs h.1)

abbrev but_first : Items → Items
but_first no_items = no_items
but_first (item d ds) = ds

abbrev pub Code : List VInstr → Type 0
Code = AreFew (λ n i. InstructionFits i) None

abbrev pub IsBlock : Option Block → Items → Type 0
IsBlock = IsListAnswer block_data BlockFits

pub no_depth : (ds : Items) →
    ((x : ℕ) (more : Items) → IsNatural x → ds ≡ item (natural x) more → ⊥) → IsBlock None ds
no_depth ds none b h e = none b.depth _ h.0 (ap items_in e)

module _ (depth : ℕ) where
  pub no_code : (ds : Items) → ((x : List VInstr) (more : Items) → Code x →
      ds ≡ item (list instruction_data x) more → ⊥) → IsBlock None (item (natural depth) ds)
  no_code ds none b h e =
      none b.code _ (each_there InstructionFits b.code h.1, tt)
      (ap (λ d. but_first (items_in d)) e)

  module _ (code : List VInstr) where
    pub no_end : (ds : Items) →
        ((x : End) (more : Items) → EndFits x → ds ≡ item (end_data x) more → ⊥) →
        IsBlock None (item (natural depth) (item (list instruction_data code) ds))
    no_end ds none b h e =
        none b.end _ h.2 (ap (λ d. but_first (but_first (items_in d))) e)

    pub no_more : (end : End) (ds : Items) → (ds ≡ no_items → ⊥) → IsBlock None
        (item (natural depth) (item (list instruction_data code) (item (end_data end) ds)))
    no_more end ds none b h e =
        none (ap (λ d. but_first (but_first (but_first (items_in d)))) e)

    pub whole_block : (end : End) (ds : Items) → ds ≡ no_items → IsNatural depth → Code code →
        EndFits end → IsBlock (Some (record { depth = depth; code = code; end = end }))
        (item (natural depth) (item (list instruction_data code) (item (end_data end) ds)))
    whole_block end ds none h k l = (
      ap (λ more. array (item (natural depth) (item (list instruction_data code)
          (item (end_data end) more)))) none,
      (h, each_alone InstructionFits code k.0, l),
    )

-- where the next item is none, or is not read

pub other_items : {A B : Type 0} (P : B → Items → Type 0) (form : A → Data) (fits : A → Type 0)
    (depth : ℕ) (whole : Option (Items × List Token)) (f : Items → Items) (ts left : List Token)
    (found : B) → whole ≡ parse_map f (rests depth ts) →
    TookItem form fits depth ts (Ok None) left →
    ((ds : Items) → ((x : A) (more : Items) → fits x → ds ≡ item (form x) more → ⊥) →
    P found (f ds)) → Took P whole (Ok found) left
other_items P form fits depth whole f ts left found is h told =
    (f h.0, is ∙ ap (parse_map f) h.1, told h.0 h.2)

pub item_failed : {A B : Type 0} (P : B → Items → Type 0) (form : A → Data) (fits : A → Type 0)
    (depth : ℕ) (whole : Option (Items × List Token)) (f : Items → Items)
    (ts left rest : List Token) (e : Unread) (r : Result B Unread) →
    whole ≡ parse_map f (rests depth ts) → r ≡ Err e →
    TookItem form fits depth ts (Err e) rest → Took P whole r left
item_failed P form fits depth whole f ts left rest e r is same h =
    unread (λ x. Took P whole x left) e r same
    (λ k. is ∙ ap (parse_map f) (subst (λ x. TookItem form fits depth ts (Err x) rest) k h)) tt

-- an item that was told, or not

pub item_told : {A : Type 0} (form : A → Data) (fits : A → Type 0) (depth : ℕ)
    (old mid : List Token) (found : Option A) (x : A) → found ≡ Some x →
    TookItem form fits depth old (Ok found) mid →
    (rests depth old ≡ parse_map (item (form x)) (rests depth mid)) × fits x
item_told form fits depth old mid found x is h = rw is at h

pub no_item_told : {A : Type 0} (form : A → Data) (fits : A → Type 0) (depth : ℕ)
    (old mid : List Token) (found : Option A) → found ≡ None →
    TookItem form fits depth old (Ok found) mid → TookItem form fits depth old (Ok None) mid
no_item_told form fits depth old mid found is h = rw is at h
