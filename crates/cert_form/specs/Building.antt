-- Objects under construction: members that are added to others, and which of their numbers are in
-- their types.
use Rattle.std.specs.Prelude.{ℕ, List, codes}
use Rattle.serde_json.specs.Data.{Data, Members, string, put}
use Rattle.pra_list.specs.Each.{Each}
use Rattle.pra_base.specs.declared.code.VProc.{VProc}
use Rattle.cert_form.specs.declared.certificate.Cert.{Cert}
use Rattle.cert_form.specs.Form.{natural, list, block_data, path_data, kind_data, cap_data}
use Rattle.cert_form.specs.Form.{tie_data}
use Rattle.cert_form.specs.Whole.{IsLong, CapFits, TieFits}

abbrev pub with_code : VProc → Members → Members
with_code code ms =
    put (codes "vars") (list kind_data code.vars)
    (put (codes "blocks") (list block_data code.blocks)
    (put (codes "args") (natural code.args)
    (put (codes "aggregates") (natural code.aggregates) ms)))

abbrev pub with_claims : Cert → Members → Members
with_claims c ms =
    put (codes "total") (natural c.total)
    (put (codes "routes") (list path_data c.routes.places)
    (put (codes "bound") (natural c.bound) ms))

abbrev pub with_prices : Cert → Members → Members
with_prices c ms =
    put (codes "ties") (list tie_data c.ties)
    (put (codes "mems") (list cap_data c.mems)
    (put (codes "caps") (list cap_data c.caps) ms))

abbrev pub with_file : {A : Type 0} → List ℕ → (A → Data) → List A → Members → Members
with_file kind proc_data procs ms =
    put (codes "version") (natural 1)
    (put (codes "procs") (list proc_data procs)
    (put (codes "kind") (string kind) ms))

abbrev pub ClaimsFit : Cert → Type 0
ClaimsFit c = IsLong c.total × IsLong c.bound

abbrev pub PricesFit : Cert → Type 0
PricesFit c = Each CapFits c.caps × Each CapFits c.mems × Each TieFits c.ties
