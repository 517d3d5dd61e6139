-- A whole certificate that is written is read again.
use Rattle.std.proofs.Common.{◌≡◌, ℕ, List, map, Some, refl, ◌∙◌}
use Rattle.serde_json.specs.View.{items_of}
use Rattle.pra_list.specs.Options.{◌>>=◌}
use Rattle.pra_base.specs.declared.ids.Place.{Place}
use Rattle.pra_base.specs.declared.code.VProc.{VProc}
use Rattle.cert_form.specs.declared.certificate.CostWord.{CostWord}
use Rattle.cert_form.specs.declared.certificate.CostWord.TheVariants.{Size, Speed}
use Rattle.cert_form.specs.declared.certificate.CapAt.{CapAt}
use Rattle.cert_form.specs.declared.certificate.TieAt.{TieAt}
use Rattle.cert_form.specs.declared.certificate.Cert.{Cert}
use Rattle.cert_form.specs.declared.certificate.Certificate.{Certificate}
use Rattle.cert_form.specs.Form.{natural, list, path_data, cap_data, tie_data, cert_data, cost_name}
use Rattle.cert_form.specs.Form.{certificate_data}
use Rattle.cert_form.specs.Reading.{long_natural, list_of, path_of, cap_of, tie_of, code_of}
use Rattle.cert_form.specs.Reading.{cert_of, each_numbered, cost_word_of, certificate_of}
use Rattle.cert_form.specs.Whole.{CapFits, TieFits, CertFits, IsWhole}
use Rattle.cert_form.proofs.PartsRead.{two, three, four, long_natural_read, each_read, paths_read}
use Rattle.cert_form.proofs.PartsRead.{cap_read, tie_read}
use Rattle.cert_form.proofs.ProcsRead.{code_read, procs_back}

abbrev certified : VProc → List (List Place) → List CapAt → List CapAt → List TieAt → ℕ → ℕ → Cert
certified code places caps mems ties total bound = record {
  code = code;
  routes = record { places = places };
  caps = caps;
  mems = mems;
  ties = ties;
  total = total;
  bound = bound;
}

cert_back : (c : Cert) → CertFits c → cert_of c.code.id.0 (cert_data c) ≡ Some c
cert_back c h =
    let ties = list_of tie_of (list tie_data c.ties) in
    let total = long_natural (natural c.total) in
    let bound = long_natural (natural c.bound) in
    four (code_of c.code.id.0 (cert_data c)) (list_of path_of (list path_data c.routes.places))
    (list_of cap_of (list cap_data c.caps)) (list_of cap_of (list cap_data c.mems))
    c.code c.routes.places c.caps c.mems
    (λ code places caps mems. ties >>= (λ ts. total >>= (λ t. bound >>= (λ b.
    Some (certified code places caps mems ts t b)))))
    (code_read c.code (cert_data c) (refl, refl, refl, refl) h.code)
    (paths_read c.routes.places)
    (each_read cap_of cap_data CapFits cap_read c.caps h.caps)
    (each_read cap_of cap_data CapFits cap_read c.mems h.mems)
    ∙ three ties total bound c.ties c.total c.bound
    (λ ts t b. Some (certified c.code c.routes.places c.caps c.mems ts t b))
    (each_read tie_of tie_data TieFits tie_read c.ties h.ties)
    (long_natural_read c.total h.total) (long_natural_read c.bound h.bound)

cost_back : (c : CostWord) → cost_word_of (cost_name c) ≡ Some c
cost_back Size = refl
cost_back Speed = refl

-- the law of reading
pub certificate_back : (c : Certificate) → IsWhole c →
    certificate_of (certificate_data c) ≡ Some c
certificate_back c h =
    two (cost_word_of (cost_name c.cost))
    (each_numbered cert_of 0 (items_of (map cert_data c.procs))) c.cost c.procs
    (λ w ps. let made : Certificate = record { cost = w; procs = ps } in Some made)
    (cost_back c.cost)
    (procs_back (λ (p : Cert). p.code) CertFits cert_of cert_data cert_back 0 c.procs h.numbered
    h.fits)
