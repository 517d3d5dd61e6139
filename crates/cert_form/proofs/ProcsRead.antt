-- Code and numbered procedures that are written are read again.
use Rattle.std.proofs.Common.{◌≡◌, ℕ, suc, List, [], ◌∷◌, map, Option, Some, None, refl}
use Rattle.std.proofs.Common.{sym, ap, ◌∙◌, nat_lt, codes}
use Rattle.std.proofs.lemmas.Bool.{lt-ltb}
use Rattle.serde_json.specs.Data.{Data}
use Rattle.serde_json.specs.Find.{get}
use Rattle.serde_json.specs.View.{items_of}
use Rattle.pra_list.specs.Each.{Each}
use Rattle.pra_list.proofs.Truths.{if_true}
use Rattle.pra_base.specs.declared.ids.ProcId.{ProcId}
use Rattle.pra_base.specs.declared.code.VProc.{VProc}
use Rattle.cert_form.specs.Form.{natural, list, kind_data, block_data}
use Rattle.cert_form.specs.Reading.{natural_of, natural_under, list_of, list_under, kind_of}
use Rattle.cert_form.specs.Reading.{block_of, code_of, numbered, each_numbered}
use Rattle.cert_form.specs.Whole.{IsNatural, KindFits, BlockFits, CodeFits, CodesAreNumbered}
use Rattle.cert_form.proofs.PartsRead.{one, two, four, natural_read, each_read, kind_read}
use Rattle.cert_form.proofs.PartsRead.{block_read}

pub number_under : (key : List ℕ) (d : Data) (n : ℕ) → get key d ≡ Some (natural n) →
    IsNatural n → natural_under key d ≡ Some n
number_under key d n e h = one (get key d) (natural n) natural_of e ∙ natural_read n h

parts_under : {A : Type 0} (f : Data → Option A) (g : A → Data) (P : A → Type 0) →
    ((x : A) → P x → f (g x) ≡ Some x) → (key : List ℕ) (d : Data) (xs : List A) →
    get key d ≡ Some (list g xs) → Each P xs → list_under f key d ≡ Some xs
parts_under f g P back key d xs e h =
    one (get key d) (list g xs) (list_of f) e ∙ each_read f g P back xs h

-- the members of code among those of an object
abbrev pub HoldsCode : VProc → Data → Type 0
HoldsCode c d =
    (get (codes "aggregates") d ≡ Some (natural c.aggregates))
    × (get (codes "args") d ≡ Some (natural c.args))
    × (get (codes "vars") d ≡ Some (list kind_data c.vars))
    × (get (codes "blocks") d ≡ Some (list block_data c.blocks))

pub code_read : (c : VProc) (d : Data) → HoldsCode c d → CodeFits c → code_of c.id.0 d ≡ Some c
code_read c d e h =
    four (natural_under (codes "aggregates") d) (natural_under (codes "args") d)
    (list_under kind_of (codes "vars") d) (list_under block_of (codes "blocks") d)
    c.aggregates c.args c.vars c.blocks
    (λ g a v b. let i : ProcId = record { 0 = c.id.0 } in
    let made : VProc = record { id = i; args = a; aggregates = g; vars = v; blocks = b } in
    Some made)
    (number_under (codes "aggregates") d c.aggregates e.0 h.aggregates)
    (number_under (codes "args") d c.args e.1 h.args)
    (parts_under kind_of kind_data KindFits kind_read (codes "vars") d c.vars e.2 h.vars)
    (parts_under block_of block_data BlockFits block_read (codes "blocks") d c.blocks e.3
    h.blocks)

module _ {A : Type 0} (code : A → VProc) (Fits : A → Type 0) (f : ℕ → Data → Option A)
    (data_of : A → Data)
    (back : (x : A) → Fits x → f (code x).id.0 (data_of x) ≡ Some x) where
  numbered_back : (n : ℕ) (x : A) → (code x).id.0 ≡ n → IsNatural n → Fits x →
      numbered f n (data_of x) ≡ Some x
  numbered_back n x e h fits =
      if_true (nat_lt n 4294967296) (f n (data_of x)) None (lt-ltb n 4294967296 h)
      ∙ ap (λ k. f k (data_of x)) (sym e) ∙ back x fits

  pub procs_back : (n : ℕ) (xs : List A) → CodesAreNumbered code n xs → Each Fits xs →
      each_numbered f n (items_of (map data_of xs)) ≡ Some xs
  procs_back n [] h fits = refl
  procs_back n (x ∷ xs) h fits =
      two (numbered f n (data_of x)) (each_numbered f (suc n) (items_of (map data_of xs))) x xs
      (λ y ys. Some (y ∷ ys)) (numbered_back n x h.0 h.1 fits.0)
      (procs_back (suc n) xs h.2 fits.1)
