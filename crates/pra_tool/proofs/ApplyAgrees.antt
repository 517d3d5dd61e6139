-- What is applied carries the certificate's routes at its costs, and of a certificate that was
-- printed those beside which it was made.
use Rattle.std.proofs.Common.{◌≡◌, ◌≤◌, ⊎_elim, ℕ, List, [], Some, Ok, sym, ap}
use Rattle.std.proofs.Common.{◌∙◌, subst, arith}
use Rattle.std.specs.Prelude.{slice_get}
use Rattle.pra_base.specs.declared.code.VProc.{VProc}
use Rattle.net_form.specs.declared.net.Net.{Net}
use Rattle.net_form.specs.declared.routes.Routes.{Routes}
use Rattle.net_form.specs.Admitted.{IsAdmitted}
use Rattle.net_form.specs.Cost.{cost_of}
use Rattle.net_form.specs.Flow.{flow}
use Rattle.net_form.specs.Network.{IsNet}
use Rattle.net_form.specs.Tables.{all_tables}
use Rattle.net_form.proofs.OneNetwork.{one_network}
use Rattle.cert_check.specs.Reasons.{weights_by, IsBounded}
use Rattle.cert_form.specs.declared.certificate.Cert.{Cert}
use Rattle.cert_form.specs.declared.certificate.Certificate.{Certificate}
use Rattle.cert_form.specs.declared.codes.CodeFile.{CodeFile}
use Rattle.cert_form.specs.declared.codes.NamedCode.{NamedCode}
use Rattle.ob_read.specs.Source.{ReadText}
use Rattle.ob_read.proofs.Reading.{one_reading}
use Rattle.pl_place.specs.Behind.{Routed, flow_frame}
use Rattle.pra_compile.specs.declared.output.Compiled.{Compiled}
use Rattle.std.proofs.lemmas.Option.{slice_get_within}
use Rattle.pra_compile.specs.Compiled.{IsProcBy, granted}
use Rattle.pra_compile.specs.Tidied.{name_of}
use Rattle.pra_compile.specs.Leaving.{Leaving}
use Rattle.pra_follow.specs.Codes.{Carriage, IsCarriage, behind}
use Rattle.pra_compile.specs.Given.{given_by}
use Rattle.pra_report.specs.declared.report.ProcOut.{ProcOut}
use Rattle.pra_report.specs.Report.{last_cost, last_bound}
use Rattle.pra_compile.proofs.Done.{there_is}
use Rattle.pra_list.proofs.Options.{some_same}
use Rattle.pra_words.specs.declared.words.FileKind.{FileKind}
use Rattle.pra_words.specs.declared.words.FileKind.TheVariants as a_file
use Rattle.pra_words.specs.Words.{Asked}
use Rattle.pra_tool.specs.declared.source.Sourced.{Sourced}
use Rattle.pra_tool.specs.declared.status.Status.{Status}
use Rattle.pra_tool.specs.Certified.{CertMakes, IsCertified, IsTextOfCert}
use Rattle.pra_tool.specs.Compiling.{wanted_by}
use Rattle.pra_tool.specs.Sources.{IsSourced}
use Rattle.pra_tool.specs.Writes.{Writes}
use Rattle.pra_tool.specs.Applied.{routes_of, routes_in, IsApplied, CarriesCert, AreSameButRounds}
use Rattle.pra_tool.specs.Applied.{ApplyMakes}
use Rattle.pra_compile.proofs.GivenLines.{cost_given, bound_given}
use Rattle.pra_tool.proofs.AppliedCerts.{routes_at, carried_code, carried_routes}
use Rattle.pra_tool.proofs.SourceKinds.{one_file_read}

-- code with the flow of routes through its network
abbrev with_flow : VProc → Net → Routes → Routed
with_flow code net routes = record { code = code; net = net; flow = flow net routes }

-- the flow that the image carries is the one that the certificate bounds
same_flow : (code other : VProc) (net own : Net) (routes ways : Routes) → IsNet net code →
    IsNet own other → code ≡ other → routes ≡ ways →
    with_flow code net routes ≡ with_flow other own ways
same_flow code other net own routes ways is_net is_own same ways_same =
    let nets : net ≡ own = one_network all_tables other net own
    (subst (λ (x : VProc). IsNet net x) same is_net) is_own in cc

module _ (file : CodeFile) (c : Certificate) (compiled : Compiled)
    (is : IsApplied file c compiled) (p : ℕ) (cert : Cert) (out : ProcOut) (x : Carriage)
    (at : slice_get c.procs p ≡ Some cert) (there : slice_get compiled.procs p ≡ Some out)
    (carried : slice_get is.built.placement.carriages p ≡ Some x) where
  named : (n : NamedCode) × (slice_get file.procs p ≡ Some n)
  named =
      let lt = slice_get_within compiled.procs p out there in
      let count = is.built.placement.count in
      there_is file.procs p (omega (arith, lt, count))

  by : IsProcBy (given_by (routes_in c)) p named.0 out x
  by = is.built.placement.each p named.0 out x named.1 there carried

  bounds : IsBounded (weights_by c.cost) cert
  bounds = is.bounded p cert at

  code_is : out.code ≡ cert.code
  code_is = carried_code file c compiled is p cert out at there

  routes_is : out.routes ≡ cert.routes
  routes_is = carried_routes file c compiled is p cert out at there by.allocated

  flow_is : behind x ≡ with_flow cert.code bounds.net cert.routes
  flow_is = same_flow x.code cert.code x.net bounds.net x.routes cert.routes
      (is.built.placement.are p x carried).routes.is_net bounds.is_net
      (by.carried ∙ code_is) (by.routes ∙ routes_is)

  pub carries : CarriesCert (weights_by c.cost) cert out (behind x)
  carries = record {
    code = code_is;
    routes = routes_is;
    cost = ap (λ (x : Routed). cost_of x.net (weights_by c.cost) x.flow) flow_is ∙ bounds.cost;
    least = λ f admitted. subst (λ (x : Routed). cert.bound ≤ cost_of x.net (weights_by c.cost) f)
        (sym flow_is)
        (bounds.least f (subst (λ (x : Routed). IsAdmitted x.net f) flow_is admitted));
    told_cost = cost_given (routes_in c) p named.0 out x by (routes_of cert)
        (routes_at c p cert at);
    told_bound = bound_given (routes_in c) p named.0 out x by (routes_of cert)
        (routes_at c p cert at);
  }

-- ---- the certificate that `cert` printed

-- the text that was printed is that of no other certificate
printed : (kind : FileKind) (asked : Asked) (source text : List ℕ)
    (is : IsCertified kind asked source text) (c : Certificate) → IsTextOfCert text c →
    c ≡ is.certificate
printed kind asked source text is c read =
    ⊎_elim (λ e. cc) (λ e. absurd cc) (is.read_again (Ok c) read)

-- what is kept of a procedure that was compiled by rounds and by routes
kept_alike : (one other : Leaving) (p : ℕ) (m n : NamedCode) (cert : Cert) (a b : ProcOut)
    (x y : Carriage) → IsCarriage x → IsCarriage y → m.name ≡ n.name →
    IsProcBy one p m a x → IsProcBy other p n b y →
    a.code ≡ cert.code → a.routes ≡ cert.routes → cert.total ≡ last_cost a.lines →
    cert.bound ≡ last_bound a.lines → b.code ≡ cert.code → b.routes ≡ cert.routes →
    last_cost b.lines ≡ cert.total → last_bound b.lines ≡ cert.bound → AreSameButRounds a b
kept_alike one other p m n cert a b x y is_x is_y names first second code routes total bound own
    ways cost least =
    let flows : behind y ≡ behind x = same_flow y.code x.code y.net x.net y.routes x.routes
    is_y.routes.is_net is_x.routes.is_net
    (second.carried ∙ own ∙ sym code ∙ sym first.carried)
    (second.routes ∙ ways ∙ sym routes ∙ sym first.routes) in
    record {
      name = second.name ∙ sym names ∙ sym first.name;
      frame = second.frame ∙ ap flow_frame flows ∙ sym first.frame;
      code = own ∙ sym code;
      routes = ways ∙ sym routes;
      cost = cost ∙ total;
      bound = least ∙ bound;
    }

-- a procedure of one source has one name
same_names : (kind : FileKind) (source : List ℕ) (one other : Sourced) →
    IsSourced kind source one → IsSourced kind source other → (p : ℕ) (m n : NamedCode) →
    slice_get one.file.procs p ≡ Some m → slice_get other.file.procs p ≡ Some n →
    m.name ≡ n.name
same_names a_file.Module source one other is too p m n at there =
    let texts : is.text ≡ too.text =
    one_reading.one_way source is.text too.text is.read too.read in
    (is.code.procs.each p m at).name
    ∙ ap (λ (x : ReadText). name_of x.checked p) texts
    ∙ sym (too.code.procs.each p n there).name
same_names a_file.Code source one other is too p m n at there =
    let files : one.file ≡ other.file =
    one_file_read source one.file other.file is.text.read too.text.read in
    ap (λ (x : NamedCode). x.name) (some_same m n (sym at
    ∙ ap (λ (f : CodeFile). slice_get f.procs p) files ∙ there))

pub apply_repeats_cert : (kind : FileKind) (asked other : Asked) (source : List ℕ) (v w : Writes)
    (s t : Status) (cert : CertMakes kind asked source [] v s)
    (applied : ApplyMakes kind other source v.out w t) (p : ℕ) (a b : ProcOut) →
    slice_get cert.certified.made.compiled.procs p ≡ Some a →
    slice_get applied.compiled.procs p ≡ Some b → AreSameButRounds a b
apply_repeats_cert kind asked other source v w s t cert applied p a b at there =
    let made = cert.certified in
    let compiled = made.made.compiled in
    let file = applied.sourced.file in
    let c = applied.certificate in
    let is = applied.applied in
    let same : c ≡ made.certificate = printed kind asked source cert.text made c
    (subst (λ (x : List ℕ). IsTextOfCert x c) (ap (λ (x : Writes). x.out) cert.writes)
    applied.given.read) in
    let of = made.made_of in
    let one = of.built.placement in
    let two = is.built.placement in
    let lt = slice_get_within compiled.procs p a at in
    let count = one.count in
    let carried = one.carriage_count in
    let more = slice_get_within applied.compiled.procs p b there in
    let other_count = two.count in
    let other_carried = two.carriage_count in
    let certs_count = made.certifies.count in
    let m = there_is of.sourced.file.procs p (omega (arith, lt, count)) in
    let n = there_is file.procs p (omega (arith, more, other_count)) in
    let x = there_is one.carriages p (omega (arith, lt, carried)) in
    let y = there_is two.carriages p (omega (arith, more, other_carried)) in
    let entry = there_is made.certificate.procs p (omega (arith, lt, certs_count)) in
    let has : slice_get c.procs p ≡ Some entry.0 =
    ap (λ (x : Certificate). slice_get x.procs p) same ∙ entry.1 in
    let made_by = made.certifies.each p a entry.0 at entry.1 in
    let by_routes = two.each p n.0 b y.0 n.1 there y.1 in
    let names : m.0.name ≡ n.0.name =
    same_names kind source of.sourced applied.sourced of.is applied.is p m.0 n.0 m.1 n.1 in
    kept_alike (granted (wanted_by asked)) (given_by (routes_in c)) p m.0 n.0 entry.0 a b x.0 y.0
    (one.are p x.0 x.1) (two.are p y.0 y.1) names
    (one.each p m.0 a x.0 m.1 at x.1) by_routes (sym made_by.code) (sym made_by.routes)
    made_by.total made_by.bound
    (carried_code file c applied.compiled is p entry.0 b has there)
    (carried_routes file c applied.compiled is p entry.0 b has there by_routes.allocated)
    (cost_given (routes_in c) p n.0 b y.0 by_routes (routes_of entry.0)
    (routes_at c p entry.0 has))
    (bound_given (routes_in c) p n.0 b y.0 by_routes (routes_of entry.0)
    (routes_at c p entry.0 has))
