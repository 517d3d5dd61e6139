-- What the functions of the checker promise.
use Rattle.std.specs.Prelude.{◌≡◌, ◌≢◌, ◌++◌, ℕ, List, Vec, Result, Ok, Err, MatchResult}
use Rattle.std.specs.declared.alloc.Global.{Global}
use Rattle.ob_syntax.specs.declared.checked.Draft.{Draft}
use Rattle.ob_syntax.specs.Declarations.{Declared, Reading as KnownModule}
use Rattle.ob_syntax.specs.Names.{Fault, Judged, Place as Known}
use Rattle.ob_syntax.specs.Source.{Name}
use Rattle.ob_syntax.specs.Types.{Fields}
use Rattle.ob_check.specs.declared.place.Place.{Place}
use Rattle.ob_check.specs.declared.reading.Reading.{Reading}
use Rattle.ob_check.specs.declared.refusal.Refusal.{Refusal}
use Rattle.ob_check.specs.declared.refusal.Refusal.TheVariants.{Broken, OutOfMemory}
use Rattle.ob_check.specs.Rules.{rule_number}

-- what is known at a place
abbrev pub known_at : Place → Known
known_at p = record {
  bytes = p.bytes.now;
  tokens = p.tokens.now;
  here = p.here;
  scope = p.scope;
  outer = p.outer.items;
  types = p.types.items;
  fields = p.fields.items;
  lengths = p.lengths.items;
  headings = p.headings.items;
  nodes = p.nodes.items;
}

-- the rule and the token that a refusal tells
abbrev pub told : Refusal → Fault
told (Broken rule token) = (rule_number rule, token)
told OutOfMemory = (0, 0)

-- The answer is what a phrase is read as, or the first rule that is broken in it, unless memory is
-- wanting.
abbrev pub Answers : {A : Type 0} → Judged A → Result A Refusal → Type 0
Answers judged answer =
    MatchResult answer (λ x. judged ≡ Ok x) (λ r. r ≢ OutOfMemory → judged ≡ Err (told r))

-- the same, for what changes the place
abbrev pub Gives : {A : Type 0} → Judged (Known × A) → Result A Refusal → Place → Type 0
Gives judged answer new =
    MatchResult answer (λ x. judged ≡ Ok (known_at new, x))
    (λ r. r ≢ OutOfMemory → judged ≡ Err (told r))

-- the same, for what gives nothing but a change of what is known
abbrev pub Widens : {A B : Type 0} → Judged A → Result B Refusal → A → Type 0
Widens judged answer new =
    MatchResult answer (λ _. judged ≡ Ok new) (λ r. r ≢ OutOfMemory → judged ≡ Err (told r))

abbrev pub fields_at : Place → List Name → List ℕ → Fields
fields_at p names types = record { place = known_at p; names = names; types = types }

abbrev pub Moves : {B : Type 0} → Judged Known → Result B Refusal → Place → Type 0
Moves judged answer new = Widens judged answer (known_at new)

abbrev pub GivesItems :
    {A : Type 0} → Judged (Known × List A) → Result (Vec A Global) Refusal → Place → Type 0
GivesItems judged answer new =
    MatchResult answer (λ xs. judged ≡ Ok (known_at new, xs.items))
    (λ r. r ≢ OutOfMemory → judged ≡ Err (told r))

-- the same, for declarations, whose procedures come behind those before
abbrev pub Declares :
    Judged Declared → List Draft → Result (List ℕ) Refusal → Known → List Draft → Type 0
Declares judged before answer place procs =
    MatchResult answer
    (λ vars. (more : List Draft)
    × (judged ≡ Ok (record { place = place; vars = vars; procs = more }))
    × (procs ≡ before ++ more))
    (λ r. r ≢ OutOfMemory → judged ≡ Err (told r))

-- the same, for a procedure, which comes with those that it declares behind those before
abbrev pub Drafts :
    {B : Type 0} → Judged (Known × List Draft) → List Draft → Result B Refusal → Known
    → List Draft → Type 0
Drafts judged before answer place procs =
    MatchResult answer
    (λ _. (more : List Draft) × (judged ≡ Ok (place, more)) × (procs ≡ before ++ more))
    (λ r. r ≢ OutOfMemory → judged ≡ Err (told r))

-- what is known of a module that is read
abbrev pub read_as : Reading → KnownModule
read_as r = record { place = known_at r.place; vars = r.vars; procs = r.procs.items }

-- the same, for a whole module
abbrev pub Reads : Judged KnownModule → Result Reading Refusal → Type 0
Reads judged answer =
    MatchResult answer (λ r. judged ≡ Ok (read_as r))
    (λ r. r ≢ OutOfMemory → judged ≡ Err (told r))
