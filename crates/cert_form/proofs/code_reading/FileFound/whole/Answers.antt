use Rattle.std.proofs.Common.{◌≡◌, ◌≤◌, true, arith, rules}
use Rattle.ia_code.specs.Image.{max_data_words}
use Rattle.cert_form.proofs.CodesHeld.{file_found}
use Rattle.cert_form.proofs.code_reading.FileFound.whole.Goals as goal

pub returns : goal.returns
returns c = λ os h.
    let few : c.in_ok-data_words.data_words ≤ max_data_words = omega arith in
    let on : c.begins_a_run.result ≡ true = search rules in
    let same : c.as_slice.result.now ≡ c.in_ok-procs.procs = search rules in
    file_found c.args.self os h c.in_ok-data_words.data_words c.in_ok-_kind._kind
    c.in_ok-procs.procs c.in_ok-_version._version c.in_ok-data_words.was c.in_ok-_kind.was
    c.in_ok-procs.was c.in_ok-_version.was few (rw same at (c.begins_a_run.ensures.0 on))
