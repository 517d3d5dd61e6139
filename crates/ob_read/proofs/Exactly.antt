-- An answer that tells what is, or a fault that there is, excludes all others.
use Rattle.std.proofs.Common.{◌≡◌, ◌≢◌, inl, inr, ℕ, List, Result, Ok, Err, IfOk, IfErr, refl, ap}
use Rattle.std.specs.Prelude.{IsOkUnless}
use Rattle.ob_syntax.specs.declared.checked.Checked.{Checked}
use Rattle.ob_syntax.specs.declared.token.Token.{Token}
use Rattle.ob_syntax.specs.declared.tree.Module.{Module}
use Rattle.ob_syntax.specs.Source.{IsParsed}
use Rattle.ob_check.specs.Checking.{IsChecked}
use Rattle.ob_read.specs.declared.fault.ReadFault.{ReadFault}
use Rattle.ob_read.specs.declared.fault.ReadFault.TheVariants.{OutOfMemory}
use Rattle.ob_read.specs.declared.reader.Parsed.{Parsed}
use Rattle.ob_read.specs.Ladder.{IsRung}
use Rattle.ob_read.specs.Source.{ParsedText, HasText, ReadText, IsRead, IsUnparsed, IsUnreadable}
use Rattle.ob_read.specs.Source.{IsErrUnlessMemory}
use Rattle.ob_read.proofs.Causes.{unread}

module _ {A B : Type 0} (Climb : A → B → Type 0) (Stop : A → ReadFault → Type 0)
    (rung : IsRung Climb Stop) (a : A) where
  only_memory : (b : B) (f : ReadFault) → Climb a b → (f ≢ OutOfMemory → Stop a f)
      → f ≡ OutOfMemory
  only_memory b OutOfMemory climbs h = refl
  only_memory b f climbs h = absurd (rung.never_both a b f climbs (h (λ e. cc e)))

  pub ok_where : {T : Type 0} (r : Result T ReadFault)
      → IfErr r (λ f. f ≢ OutOfMemory → Stop a f) → (b : B) → Climb a b
      → IsOkUnless r OutOfMemory
  ok_where (Ok x) h b climbs = tt
  ok_where (Err f) h b climbs = only_memory b f climbs h

  this_or_memory : {T : Type 0} (f g : ReadFault) → Stop a f → (g ≢ OutOfMemory → Stop a g)
      → IsErrUnlessMemory {T = T} (Err g) f
  this_or_memory f OutOfMemory stops h = inr refl
  this_or_memory f g stops h =
      inl (ap (λ y. Err y) (rung.one_fault a g f (h (λ e. cc e)) stops))

  pub fault_where : {T : Type 0} (r : Result T ReadFault) → IfOk r (λ x. (b : B) × Climb a b)
      → IfErr r (λ f. f ≢ OutOfMemory → Stop a f) → (f : ReadFault) → Stop a f
      → IsErrUnlessMemory r f
  fault_where (Ok x) (b, climbs) h f stops = absurd (rung.never_both a b f climbs stops)
  fault_where (Err g) none h f stops = this_or_memory f g stops h

-- ---- what was answered is what a rung climbs to

pub text_in : (bytes : List ℕ) (r : Result Parsed ReadFault)
    → IfOk r (λ p. IsParsed bytes p.tokens.items p.tree)
    → IfOk r (λ p. (t : ParsedText) × HasText bytes t)
text_in bytes (Ok p) h =
    (record { bytes = bytes; tokens = p.tokens.items; tree = p.tree }, (refl, h))
text_in bytes (Err f) h = tt

pub unread_in : {T : Type 0} (bytes : List ℕ) (r : Result T ReadFault)
    → IfErr r (λ f. f ≢ OutOfMemory → IsUnparsed bytes f)
    → IfErr r (λ f. f ≢ OutOfMemory → IsUnreadable bytes f)
unread_in bytes (Ok p) h = tt
unread_in bytes (Err f) h = λ other. unread bytes f (h other)

pub read_in : (bytes : List ℕ) (tokens : List Token) (tree : Module) (r : Result Checked ReadFault)
    → IsParsed bytes tokens tree → IfOk r (IsChecked bytes tokens tree)
    → IfOk r (λ c. (t : ReadText) × IsRead bytes t)
read_in bytes tokens tree (Ok c) parsed h = (
  record { text = record { bytes = bytes; tokens = tokens; tree = tree }; checked = c },
  (refl, parsed, h),
)
read_in bytes tokens tree (Err f) parsed h = tt
