-- What is found of certificates and code files, key by key.
use Rattle.std.specs.Prelude.{◌≡◌, ℕ, List, [], ◌∷◌, Option, None, Result, Ok, Err, IsTrue, ⊤, codes}
use Rattle.serde_json.specs.Data.{Data, string}
use Rattle.pra_base.specs.declared.ids.Place.{Place}
use Rattle.pra_base.specs.declared.code.VProc.{VProc}
use Rattle.cert_form.specs.declared.certificate.Cert.{Cert}
use Rattle.cert_form.specs.declared.codes.NamedCode.{NamedCode}
use Rattle.cert_form.specs.declared.certs.CertFound.{CertFound}
use Rattle.cert_form.specs.declared.certs.CertificateFound.{CertificateFound}
use Rattle.cert_form.specs.declared.code_reading.CodeFound.{CodeFound}
use Rattle.cert_form.specs.declared.code_reading.FileFound.{FileFound}
use Rattle.cert_form.specs.Form.{natural, list, block_data, kind_data, cap_data, tie_data, path_data}
use Rattle.cert_form.specs.Form.{cert_data, cost_name}
use Rattle.cert_form.specs.CodeForm.{is_name, name_data, code_data}
use Rattle.cert_form.specs.Whole.{IsNatural, IsLong, KindFits, BlockFits, CapFits, TieFits}
use Rattle.cert_form.specs.Whole.{CertFits}
use Rattle.cert_form.specs.CodeWhole.{HasName, NamedFits}
use Rattle.cert_form.specs.declared.code_reading.Name.{Name}
use Rattle.cert_form.specs.declared.passing.Unread.{Unread}
use Rattle.cert_form.specs.declared.passing.Unread.TheVariants.{NotJson, OutOfMemory}
use Rattle.cert_form.specs.Streams.{IsAnswer, IsHeld, AreFew}

-- a procedure that stands at its id, one of 32 bits
pub record FitsAt {A : Type 0} (code : A → VProc) (Fits : A → Type 0) (n : ℕ) (x : A) : Type 0 where
  pub id : (code x).id.0 ≡ n
  pub natural : IsNatural n
  pub fits : Fits x

abbrev pub CertFitsAt : ℕ → Cert → Type 0
CertFitsAt = FitsAt (λ c. c.code) CertFits

abbrev pub CodeFitsAt : ℕ → NamedCode → Type 0
CodeFitsAt = FitsAt (λ p. p.code) (λ p. HasName p × NamedFits p)

-- the places of a path, and paths, fit always
abbrev pub ArePaths : List (List Place) → Type 0
ArePaths = AreFew (λ n p. AreFew (λ k q. ⊤) None p) None

abbrev pub cert_keys : List (List ℕ)
cert_keys =
    codes "aggregates" ∷ codes "args" ∷ codes "blocks" ∷ codes "bound" ∷ codes "caps"
    ∷ codes "mems" ∷ codes "routes" ∷ codes "ties" ∷ codes "total" ∷ codes "vars" ∷ []

-- what was found of it stands under its keys
abbrev pub CertHeld : CertFound → (ℕ → Option Data) → Type 0
CertHeld f os =
    IsHeld natural IsNatural f.aggregates (os 0)
    × IsHeld natural IsNatural f.args (os 1)
    × IsHeld (list block_data) (AreFew (λ n x. BlockFits x) None) f.blocks (os 2)
    × IsHeld natural IsLong f.bound (os 3)
    × IsHeld (list cap_data) (AreFew (λ n x. CapFits x) None) f.caps (os 4)
    × IsHeld (list cap_data) (AreFew (λ n x. CapFits x) None) f.mems (os 5)
    × IsHeld (list path_data) ArePaths f.routes (os 6)
    × IsHeld (list tie_data) (AreFew (λ n x. TieFits x) None) f.ties (os 7)
    × IsHeld natural IsLong f.total (os 8)
    × IsHeld (list kind_data) (AreFew (λ n x. KindFits x) None) f.vars (os 9)

abbrev pub certificate_keys : List (List ℕ)
certificate_keys = codes "cost" ∷ codes "kind" ∷ codes "procs" ∷ codes "version" ∷ []

-- what was found of it stands under its keys
abbrev pub CertificateHeld : CertificateFound → (ℕ → Option Data) → Type 0
CertificateHeld f os =
    IsHeld (λ c. string (cost_name c)) (λ x. ⊤) f.cost (os 0)
    × IsHeld (λ k. string (codes "pra-certificate")) (λ x. ⊤) f.kind (os 1)
    × IsHeld (list cert_data) (AreFew CertFitsAt None) f.procs (os 2)
    × IsHeld (λ v. natural 1) (λ x. ⊤) f.version (os 3)

abbrev pub code_keys : List (List ℕ)
code_keys =
    codes "aggregates" ∷ codes "args" ∷ codes "blocks" ∷ codes "name" ∷ codes "vars" ∷ []

-- what was found of it stands under its keys
abbrev pub CodeHeld : CodeFound → (ℕ → Option Data) → Type 0
CodeHeld f os =
    IsHeld natural IsNatural f.aggregates (os 0)
    × IsHeld natural IsNatural f.args (os 1)
    × IsHeld (list block_data) (AreFew (λ n x. BlockFits x) None) f.blocks (os 2)
    × IsHeld (λ x. name_data x.0) (λ x. IsTrue (is_name x.0)) f.name (os 3)
    × IsHeld (list kind_data) (AreFew (λ n x. KindFits x) None) f.vars (os 4)

abbrev pub file_keys : List (List ℕ)
file_keys = codes "data_words" ∷ codes "kind" ∷ codes "procs" ∷ codes "version" ∷ []

-- what was found of it stands under its keys
abbrev pub FileHeld : FileFound → (ℕ → Option Data) → Type 0
FileHeld f os =
    IsHeld natural IsNatural f.data_words (os 0)
    × IsHeld (λ k. string (codes "pra-code")) (λ x. ⊤) f.kind (os 1)
    × IsHeld (list code_data) (AreFew CodeFitsAt None) f.procs (os 2)
    × IsHeld (λ v. natural 1) (λ x. ⊤) f.version (os 3)

-- the name that a text is, or that it is none
abbrev pub IsNameTold : List ℕ → Result (Option Name) Unread → Type 0
IsNameTold word (Ok found) =
    IsAnswer (λ x. name_data x.0) (λ x. IsTrue (is_name x.0)) found (string word)
IsNameTold word (Err NotJson) = ⊥
IsNameTold word (Err OutOfMemory) = ⊤
