use Rattle.std.proofs.Common.{◌≡◌, ◌≤◌, ℕ, List, length, refl, sym, ap, ◌∙◌, subst}
use Rattle.std.proofs.lemmas.List.{take_at}
use Rattle.ia_code.specs.Image.{max_code_bytes}
use Rattle.ia_code.specs.Listing.{IsListing}
use Rattle.ia_emit.specs.Code.{code_of}
use Rattle.ia_emit.specs.Open.{Within, filled}
use Rattle.ia_emit.specs.declared.bytes.CallSite.{CallSite}
use Rattle.ia_asm.specs.Assembly.{entry_in}
use Rattle.ia_asm.proofs.Assembling.{finished, finished_is_image}
use Rattle.ia_asm.proofs.assembly.Assembly.finish.Goals as goal

pub fill-requires : goal.fill-requires
fill-requires c =
    let is = c.requires.2 in
    let code = sym c.deref_mut.ensures.value in
    record {
      within = subst (λ l. Within 0 (length l) c.deref.result.now) code
          (subst (Within 0 (length c.args.self.code.items)) (sym c.deref.ensures.value) is.within);
      short = subst (λ l. length l ≤ max_code_bytes) code is.short;
    }

-- of equal lists the same is filled
same_filled : (code code' : List ℕ) (calls calls' : List CallSite) (entries entries' : List ℕ) →
    code ≡ code' → calls ≡ calls' → entries ≡ entries' →
    filled (entry_in entries (length code)) 0 calls code ≡ filled (entry_in entries' (length code'))
    0 calls' code'
same_filled code code' calls calls' entries entries' e f g =
    ap (λ l. filled (entry_in entries (length l)) 0 calls l) e
    ∙ ap (λ l. filled (entry_in entries (length code')) 0 l code') f
    ∙ ap (λ l. filled (entry_in l (length code')) 0 calls' code') g

pub returns-clause-valid : goal.returns-clause-valid
returns-clause-valid c =
    let self = c.args.self in
    let filled_in = c.fill.ensures ∙ same_filled _ self.code.items _ self.calls.items _
    self.entries.items c.deref_mut.ensures.value c.deref.ensures.value c.deref-2.ensures.value
    in
    let code : c.from_vec.result ≡ c.fill.new.code = c.from_vec.ensures
    ∙ take_at c.fill.new.code _ self.code.len (c.fill.auto.code ∙ c.deref_mut.ensures.len) in
    finished_is_image c.requires.0 c.requires.1 self c.requires.2 c.fill.new.code filled_in _ code
    refl

pub returns-clause-image : goal.returns-clause-image
returns-clause-image c = λ procs words is.
    let self = c.args.self in
    let filled_in = c.fill.ensures ∙ same_filled _ self.code.items _ self.calls.items _
    self.entries.items c.deref_mut.ensures.value c.deref.ensures.value c.deref-2.ensures.value
    in
    let code : c.from_vec.result ≡ c.fill.new.code = c.from_vec.ensures
    ∙ take_at c.fill.new.code _ self.code.len (c.fill.auto.code ∙ c.deref_mut.ensures.len) in
    record {
      valid = finished_is_image procs words self is c.fill.new.code filled_in _ code refl;
      listing = subst (λ l. IsListing l (code_of procs)) (sym code)
          (finished procs words self is c.fill.new.code filled_in);
      words_are = is.words_are;
      offsets = is.offsets;
    }
