-- Bytes of a code file have one answer.
use Rattle.std.proofs.Common.{◌≡◌, ℕ, List, Some, Ok, Err, inl, inr, refl, ap, subst}
use Rattle.pra_list.specs.Each.{Each}
use Rattle.cert_form.specs.declared.codes.CodeFile.{CodeFile}
use Rattle.cert_form.specs.declared.code_files.CodeFault.TheVariants.{NotJson, NotCode, OutOfMemory}
use Rattle.cert_form.specs.CodeForm.{file_data}
use Rattle.cert_form.specs.CodeReading.{file_of}
use Rattle.cert_form.specs.CodeWhole.{NamedFits, IsCodeFile, IsWholeCode, ReadsCode}
use Rattle.cert_form.specs.CodeWhole.{IsCodeReadAgain}
use Rattle.cert_form.specs.Streams.{IsPartRead}
use Rattle.cert_form.specs.Whole.{IsReadAs}
use Rattle.cert_form.proofs.CodesRead.{file_back}
use Rattle.cert_form.proofs.Forms.{one_reading, one}

-- what is read is the answer

pub code_found_is : (bytes : List ℕ) (f : CodeFile) →
    IsPartRead file_data IsWholeCode bytes (Ok (Some f)) → ReadsCode bytes (Ok f)
code_found_is bytes f h = (subst (λ x. IsReadAs bytes x) h.2.0 h.1, h.2.1)

pub only_one_code : (a b : CodeFile) → IsWholeCode a → IsWholeCode b →
    file_data a ≡ file_data b → a ≡ b
only_one_code = one IsWholeCode file_data file_of file_back

pub is_code_read : (f : CodeFile) (bytes : List ℕ) → IsWholeCode f →
    IsReadAs bytes (file_data f) → IsCodeReadAgain f bytes
is_code_read f bytes h r (Ok o) k =
    inl (ap (λ x. Ok x) (only_one_code o f k.1 h
    (one_reading bytes (file_data o) (file_data f) k.0 r)))
is_code_read f bytes h r (Err NotJson) k = absurd (k (file_data f) r)
is_code_read f bytes h r (Err NotCode) k =
    absurd (k.2 f h (one_reading bytes k.0 (file_data f) k.1 r))
is_code_read f bytes h r (Err OutOfMemory) k = inr refl

pub is_code_read_again : (f : CodeFile) (bytes : List ℕ) → Each NamedFits f.procs →
    IsReadAs bytes (file_data f) → IsCodeFile f → IsCodeReadAgain f bytes
is_code_read_again f bytes fits r file =
    is_code_read f bytes (record { file = file; fits = fits }) r
