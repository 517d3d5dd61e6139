-- What procedures and whole modules are read as: variables of types that are there, value
-- parameters
-- that are scalars, numbers in the order of the headings, and, in a checked module that has these
-- procedures, typed bodies.
use Rattle.std.proofs.Common.{◌≡◌, ℕ, zero, suc, ◌+◌, ◌<◌, ◌≤◌, true, List, [], ◌∷◌, ◌++◌, length}
use Rattle.std.proofs.Common.{map, Some, refl, ap, sym, ◌∙◌, subst, arith, length-append, lt-ltb}
use Rattle.std.proofs.Common.{ne_eqb}
use Rattle.std.specs.Prelude.{Ok, Err, slice_get, bytes_eq, if◌then◌else◌}
use Rattle.std.proofs.lemmas.List.{append-nil, append_assoc}
use Rattle.pra_list.proofs.Results.{came_of}
use Rattle.pra_list.proofs.Elements.{got_front}
use Rattle.pra_list.proofs.Choices.{by_test}
use Rattle.pra_list.proofs.Options.{some_same, none_some}
use Rattle.pra_list.specs.Results.{◌>>=◌}
use Rattle.ob_syntax.specs.declared.checked.Checked.{Checked}
use Rattle.ob_syntax.specs.declared.checked.CheckedProc.{CheckedProc}
use Rattle.ob_syntax.specs.declared.checked.Draft.{Draft}
use Rattle.ob_syntax.specs.declared.checked.Local.{Local}
use Rattle.ob_syntax.specs.declared.checked.Param.{Param}
use Rattle.ob_syntax.specs.declared.checked.RStmt.{RStmt}
use Rattle.ob_syntax.specs.declared.checked.Root.TheVariants as root
use Rattle.ob_syntax.specs.declared.checked.Shape.{Shape}
use Rattle.ob_syntax.specs.declared.checked.Shape.TheVariants.{Integer, Boolean, Array, Record}
use Rattle.ob_syntax.specs.declared.token.Token.{Token}
use Rattle.ob_syntax.specs.declared.tree.ConstDecl.{ConstDecl}
use Rattle.ob_syntax.specs.declared.tree.Decls.{Decls, Decls-F, roll-Decls, fold-roll-Decls}
use Rattle.ob_syntax.specs.declared.tree.Decls.{ind-Decls}
use Rattle.ob_syntax.specs.declared.tree.Module.{Module}
use Rattle.ob_syntax.specs.declared.tree.NameList.{NameList}
use Rattle.ob_syntax.specs.declared.tree.Proc.{Proc, Proc-F, roll-Proc, fold-roll-Proc}
use Rattle.ob_syntax.specs.declared.tree.Section.{Section}
use Rattle.ob_syntax.specs.declared.tree.Span.{Span}
use Rattle.ob_syntax.specs.declared.tree.Stmt.{Stmt}
use Rattle.ob_syntax.specs.declared.tree.TypeDecl.{TypeDecl}
use Rattle.ob_syntax.specs.Declarations.{own_root, all_constants, all_type_declarations}
use Rattle.ob_syntax.specs.Declarations.{all_variables, left, nodes_of, with_nodes, Declared}
use Rattle.ob_syntax.specs.Declarations.{ProcResult, DeclsResult, all_procedures, decls_step}
use Rattle.ob_syntax.specs.Declarations.{closed, drafted, heading, proc_step, declarations}
use Rattle.ob_syntax.specs.Declarations.{procedure, beginning, Reading, reading}
use Rattle.ob_syntax.specs.Names.{Place, name_at}
use Rattle.ob_syntax.specs.Statements.{each, statement}
use Rattle.ob_syntax.specs.WellFormed.{joined}
use Rattle.ob_mean.specs.Designators.{type_at, type_in}
use Rattle.vc_relation.specs.Layout.{NamesBelow, TypesInOrder}
use Rattle.vc_typed.specs.Fitting.{AreAlike, ValuesAreScalars, HasProcedure}
use Rattle.vc_typed.specs.TypedStatements.{are_typed}
use Rattle.vc_typed.specs.Typing.{root_typing, is_declared_in}
use Rattle.vc_typed.specs.Typing as typing
use Rattle.vc_typed.proofs.Bindings.{ok_same, ok_err}
use Rattle.vc_typed.proofs.DeclarationTrees.{constants_behind, types_behind, Behind, all_more}
use Rattle.vc_typed.proofs.DeclarationTrees.{VarsIn, VarsBehind, variables_behind, HeadingBehind}
use Rattle.vc_typed.proofs.DeclarationTrees.{heading_behind}
use Rattle.vc_typed.proofs.Lists.{IsAmong, among_last, among_longer}
use Rattle.vc_typed.proofs.Scopes.{Sound, longer, Shows, TypesIn, left_sound, left_shows, fitting}
use Rattle.vc_typed.proofs.StatementTrees.{body_typed}
use Rattle.vc_typed.proofs.TreeBodies.{decls_bodies, proc_bodies, bodies_in, bodies_of, ReadFrom}
use Rattle.vc_typed.proofs.TreeBodies.{read_append}
use Rattle.vc_typed.proofs.TypeTrees.{AllBelow}

-- ---- drafts

-- variables of so many types, and value parameters that are scalars
abbrev pub AllDrafts : ℕ → List Draft → Type 0
AllDrafts n [] = Unit {0}
AllDrafts n (d ∷ ds) = (AllBelow n d.vars × ValuesAreScalars d.params) × AllDrafts n ds

drafts_more : (a b : ℕ) → a ≤ b → (ds : List Draft) → AllDrafts a ds → AllDrafts b ds
drafts_more a b le [] all = tt
drafts_more a b le (d ∷ ds) ((vars, scalars), rest) =
    ((all_more a b le d.vars vars, scalars), drafts_more a b le ds rest)

drafts_append : (n : ℕ) (xs ys : List Draft) → AllDrafts n xs → AllDrafts n ys →
    AllDrafts n (xs ++ ys)
drafts_append n [] ys all more = more
drafts_append n (x ∷ xs) ys (one, rest) more = (one, drafts_append n xs ys rest more)

-- numbers one after the other, from this one on
abbrev pub Numbered : ℕ → List Draft → Type 0
Numbered n [] = Unit {0}
Numbered n (d ∷ ds) = (d.id ≡ n) × Numbered (suc n) ds

numbered_append : (n : ℕ) (xs ys : List Draft) → Numbered n xs → Numbered (n + length xs) ys →
    Numbered n (xs ++ ys)
numbered_append n [] ys all more = subst (λ k. Numbered k ys) (omega arith) more
numbered_append n (x ∷ xs) ys (one, rest) more =
    (one, numbered_append (suc n) xs ys rest (subst (λ k. Numbered k ys) (omega arith) more))

-- the module has the procedure
pub record DraftIn (program : Checked) (d : Draft) : Type 0 where
  pub proc : CheckedProc
  pub there : slice_get program.procs d.id ≡ Some proc
  pub params : AreAlike d.params proc.params
  pub locals : map (λ l. l.type_id) proc.locals ≡ d.vars

abbrev pub AllIn : Checked → List Draft → Type 0
AllIn program [] = Unit {0}
AllIn program (d ∷ ds) = DraftIn program d × AllIn program ds

abbrev pub AllTyped : Checked → List Draft → Type 0
AllTyped program [] = Unit {0}
AllTyped program (d ∷ ds) = (are_typed program d.id d.body ≡ true) × AllTyped program ds

first_in : (program : Checked) (xs ys : List Draft) → AllIn program (xs ++ ys) → AllIn program xs ×
    AllIn program ys
first_in program [] ys all = (tt, all)
first_in program (x ∷ xs) ys (one, rest) = let both = first_in program xs ys rest in
    ((one, both.0), both.1)

typed_append : (program : Checked) (xs ys : List Draft) → AllTyped program xs →
    AllTyped program ys → AllTyped program (xs ++ ys)
typed_append program [] ys all more = more
typed_append program (x ∷ xs) ys (one, rest) more = (one, typed_append program xs ys rest more)

-- the nodes of each are among these
abbrev pub AllCounted : List ℕ → List Draft → Type 0
AllCounted nodes [] = Unit {0}
AllCounted nodes (d ∷ ds) = IsAmong d.nodes nodes × AllCounted nodes ds

counted_more : (old more new : List ℕ) (ds : List Draft) → new ≡ old ++ more → AllCounted old ds →
    AllCounted new ds
counted_more old more new [] is all = tt
counted_more old more new (d ∷ ds) is (one, rest) =
    (among_longer d.nodes old more new is one, counted_more old more new ds is rest)

counted_append : (nodes : List ℕ) (xs ys : List Draft) → AllCounted nodes xs → AllCounted nodes ys →
    AllCounted nodes (xs ++ ys)
counted_append nodes [] ys all more = more
counted_append nodes (x ∷ xs) ys (one, rest) more = (one, counted_append nodes xs ys rest more)

types_before : (program : Checked) (xs ys more : List Shape) → ys ≡ xs ++ more →
    TypesIn program ys → TypesIn program xs
types_before program xs ys more grown inside k shape at =
    inside k shape (ap (λ z. slice_get z k) grown ∙ got_front xs more k shape at)

-- ---- procedures behind a place

-- A place behind procedures, which come in the order of their headings and are read from these
-- bodies. In a module that has them, and all that is given besides, they are typed.
pub record ProcsBehind (p q : Place) (bs : List (List Stmt)) (ds : List Draft)
    (Given : Checked → Type 0) : Type 0 where
  pub more : List Shape
  pub grown : q.types ≡ p.types ++ more
  pub here : q.here ≡ p.here
  pub tokens : q.tokens ≡ p.tokens
  pub read : ReadFrom p.tokens bs ds
  pub count : length q.headings ≡ length p.headings + length ds
  pub more_nodes : List ℕ
  pub nodes : q.nodes ≡ p.nodes ++ more_nodes
  pub counted : AllCounted q.nodes ds
  pub sound : Sound q
  pub drafts : AllDrafts (length q.types) ds
  pub numbered : Numbered (length p.headings) ds
  pub typed : (program : Checked) → TypesIn program q.types → AllIn program ds → Given program →
      Shows program p → Shows program q × AllTyped program ds

abbrev Nothing : Checked → Type 0
Nothing program = Unit {0}

none_behind : (p : Place) → Sound p → ProcsBehind p p [] [] Nothing
none_behind p sound = record {
  more = [];
  grown = sym (append-nil p.types);
  here = refl;
  tokens = refl;
  read = tt;
  count = omega arith;
  more_nodes = [];
  nodes = sym (append-nil p.nodes);
  counted = tt;
  sound = sound;
  drafts = tt;
  numbered = tt;
  typed = λ program types all given shows. (shows, tt);
}

procs_on : (p q r : Place) (bs cs : List (List Stmt)) (xs ys : List Draft)
    (Given : Checked → Type 0) → ProcsBehind p q bs xs Given → ProcsBehind q r cs ys Nothing →
    ProcsBehind p r (bs ++ cs) (xs ++ ys) Given
procs_on p q r bs cs xs ys Given a b =
    let first = a.count in
    let second = b.count in
    record {
      more = a.more ++ b.more;
      grown = b.grown ∙ ap (λ ts. ts ++ b.more) a.grown ∙ append_assoc p.types a.more b.more;
      here = b.here ∙ a.here;
      tokens = b.tokens ∙ a.tokens;
      read = read_append p.tokens bs cs xs ys a.read
          (subst (λ ts. ReadFrom ts cs ys) a.tokens b.read);
      count = omega (arith, first, second, length-append xs ys);
      more_nodes = a.more_nodes ++ b.more_nodes;
      nodes = b.nodes ∙ ap (λ ns. ns ++ b.more_nodes) a.nodes ∙ append_assoc p.nodes a.more_nodes
          b.more_nodes;
      counted = counted_append r.nodes xs ys
          (counted_more q.nodes b.more_nodes r.nodes xs b.nodes a.counted) b.counted;
      sound = b.sound;
      drafts = drafts_append (length r.types) xs ys
          (drafts_more (length q.types) (length r.types) (longer q.types r.types b.more b.grown) xs
          a.drafts) b.drafts;
      numbered = numbered_append (length p.headings) xs ys a.numbered
          (subst (λ n. Numbered n ys) first b.numbered);
      typed = λ program types all given shows.
          let both = first_in program xs ys all in
          let one = a.typed program (types_before program q.types r.types b.more b.grown types)
          both.0 given shows in
          let two = b.typed program types both.1 tt one.0 in
          (two.0, typed_append program xs ys one.1 two.1);
    }

pub record DeclsBehind (p : Place) (bs : List (List Stmt)) (d : Declared) : Type 0 where
  pub behind : ProcsBehind p d.place bs d.procs (λ program. VarsIn program p.here d.vars)
  pub vars : AllBelow (length d.place.types) d.vars

record GoodProc (bs : List (List Stmt)) (f : ProcResult) : Type 0 where
  gives : (p : Place) → Sound p → (r : Place × List Draft) → f p ≡ Ok r →
      ProcsBehind p r.0 bs r.1 Nothing

record GoodDecls (bs : List (List Stmt)) (f : DeclsResult) : Type 0 where
  gives : (p : Place) → Sound p → (d : Declared) → f p ≡ Ok d → DeclsBehind p bs d

abbrev AllProcs : List (List (List Stmt)) → List ProcResult → Type 0
AllProcs [] [] = Unit {0}
AllProcs (b ∷ bs) (f ∷ fs) = GoodProc b f × AllProcs bs fs
AllProcs _ _ = ⊥

-- procedures that come behind those that are done
record Appended (p q : Place) (bs : List (List Stmt)) (done out : List Draft) : Type 0 where
  later : List Draft
  is : out ≡ done ++ later
  behind : ProcsBehind p q bs later Nothing

procedures_behind : (bs : List (List (List Stmt))) (fs : List ProcResult) → AllProcs bs fs →
    (p : Place) (done : List Draft) (r : Place × List Draft) → Sound p → all_procedures p done fs ≡
    Ok r → Appended p r.0 (joined bs) done r.1
procedures_behind [] [] good p done r sound is =
    subst (λ (z : Place × List Draft). Appended p z.0 [] done z.1) (ok_same (p, done) r is)
    (record { later = []; is = sym (append-nil done); behind = none_behind p sound })
procedures_behind [] (f ∷ fs) good p done r sound is = absurd good
procedures_behind (b ∷ bs) [] good p done r sound is = absurd good
procedures_behind (b ∷ bs) (f ∷ fs) (good, rest) p done r sound is =
    let of = came_of (f p) (λ more. all_procedures more.0 (done ++ more.1) fs) r is in
    let one = good.gives p sound of.0 of.1 in
    let more = procedures_behind bs fs rest of.0.0 (done ++ of.0.1) r one.sound of.2 in
    record {
      later = of.0.1 ++ more.later;
      is = more.is ∙ append_assoc done of.0.1 more.later;
      behind = procs_on p of.0.0 r.0 b (joined bs) of.0.1 more.later Nothing one more.behind;
    }

-- ---- declarations

no_vars : (n : ℕ) → AllBelow n []
no_vars n k t is = absurd (none_some is)

abbrev declared : List ℕ → Place × List Draft → Declared
declared vars procs = record { place = procs.0; vars = vars; procs = procs.1 }

-- constants, types and variables
opened : (p q r : Place) (vs : Place × List ℕ) → Behind p q → Behind q r → VarsBehind r [] vs →
    ProcsBehind p vs.0 [] [] (λ program. VarsIn program p.here vs.1)
opened p q r vs a b c = record {
  more = a.onward.more ++ (b.onward.more ++ c.onward.more);
  grown = c.onward.grown ∙ ap (λ ts. ts ++ c.onward.more)
      (b.onward.grown ∙ ap (λ ts. ts ++ b.onward.more) a.onward.grown)
      ∙ append_assoc (p.types ++ a.onward.more) b.onward.more c.onward.more
      ∙ append_assoc p.types a.onward.more (b.onward.more ++ c.onward.more);
  here = c.onward.here ∙ b.onward.here ∙ a.onward.here;
  tokens = c.onward.tokens ∙ b.onward.tokens ∙ a.onward.tokens;
  read = tt;
  count = let same = ap length (c.onward.headings ∙ b.onward.headings ∙ a.onward.headings) in
      omega (arith, same);
  more_nodes = [];
  nodes = c.onward.nodes ∙ b.onward.nodes ∙ a.onward.nodes ∙ sym (append-nil p.nodes);
  counted = tt;
  sound = c.onward.sound;
  drafts = tt;
  numbered = tt;
  typed = λ program types all given shows. (
    c.shows program (subst (λ h. VarsIn program h vs.1) (sym (b.onward.here ∙ a.onward.here))
        given) (b.shows program (a.shows program shows)),
    tt,
  );
}

decls_behind : (cs : List ConstDecl) (ts : List TypeDecl) (vs : List NameList)
    (bs : List (List (List Stmt))) (fs : List ProcResult) → AllProcs bs fs → (p : Place) → Sound p →
    (d : Declared)
    → (all_constants p cs >>= λ constants. all_type_declarations constants ts >>= λ types.
    all_variables types [] vs >>= λ vars. all_procedures vars.0 [] fs >>= λ procs. Ok
    (declared vars.1 procs)) ≡ Ok d
    → DeclsBehind p (joined bs) d
decls_behind cs ts vs bs fs good p sound d is =
    let one = came_of (all_constants p cs)
    (λ constants. all_type_declarations constants ts >>= λ types. all_variables types
    [] vs >>= λ vars. all_procedures vars.0 [] fs >>= λ procs. Ok (declared vars.1 procs)) d
    is in
    let two = came_of (all_type_declarations one.0 ts)
    (λ types. all_variables types [] vs >>= λ vars. all_procedures vars.0 [] fs >>= λ procs. Ok
    (declared vars.1 procs)) d one.2 in
    let three = came_of (all_variables two.0 [] vs)
    (λ vars. all_procedures vars.0 [] fs >>= λ procs. Ok (declared vars.1 procs)) d two.2 in
    let four = came_of (all_procedures three.0.0 [] fs) (λ procs. Ok (declared three.0.1 procs)) d
    three.2 in
    let a = constants_behind p one.0 cs sound one.1 in
    let b = types_behind one.0 two.0 ts a.onward.sound two.1 in
    let c = variables_behind two.0 [] vs three.0 b.onward.sound (no_vars (length two.0.types))
    three.1 in
    let e = procedures_behind bs fs good three.0.0 [] four.0 c.onward.sound four.1 in
    let procs : ProcsBehind three.0.0 four.0.0 (joined bs) four.0.1 Nothing =
    subst (λ ds. ProcsBehind three.0.0 four.0.0 (joined bs) ds Nothing) (sym e.is) e.behind in
    subst (DeclsBehind p (joined bs)) (ok_same (declared three.0.1 four.0) d four.2) (record {
      behind = procs_on p three.0.0 four.0.0 [] (joined bs) [] four.0.1
          (λ program. VarsIn program p.here three.0.1) (opened p one.0 two.0 three.0 a b c) procs;
      vars = all_more (length three.0.0.types) (length four.0.0.types)
          (longer three.0.0.types four.0.0.types procs.more procs.grown) three.0.1 c.below;
    })

-- ---- a procedure

pub closed_is : (rule : ℕ) (p : Place) (name close : ℕ) (q : Place) → closed rule p name close ≡
    Ok q → p ≡ q
closed_is rule p name close q is = by_test (bytes_eq (name_at p close) (name_at p name)) (Ok p)
    (Err (rule, close)) (Ok q) (λ b same. ok_same p q same) (λ b same. absurd (ok_err same)) is

abbrev proc_read : ℕ → List Stmt → ℕ → Place × List Param → Declared → List RStmt → Place → Place ×
    List Draft
proc_read name body here inside d done end = (
  with_nodes (left end here) (nodes_of end.tokens body),
  drafted end.here name inside.1 d.vars (nodes_of end.tokens body) done ∷ d.procs,
)

local_at : (locals : List Local) (vars : List ℕ) (k type_id : ℕ) → map (λ l. l.type_id) locals ≡
    vars → slice_get vars k ≡ Some type_id → (k < length locals) ×
    (type_at (λ (l : Local). l.type_id) locals k ≡ type_id)
local_at [] vars k type_id same at = absurd (none_some (ap (λ z. slice_get z k) same ∙ at))
local_at (l ∷ ls) vars zero type_id same at =
    (omega arith, some_same l.type_id type_id (ap (λ z. slice_get z 0) same ∙ at))
local_at (l ∷ ls) vars (suc k) type_id same at =
    let rest = local_at ls (map (λ l. l.type_id) ls) k type_id refl
    (ap (λ z. slice_get z (suc k)) same ∙ at) in let lt = rest.0 in (omega (arith, lt), rest.1)

own_is_local : (here k : ℕ) → 0 < here → own_root here k ≡ root.Local k
own_is_local here k lt = ap (λ b. if b then root.Module k else root.Local k)
    (ne_eqb here 0 (λ is. omega (arith, lt, is)))

-- a procedure of the module has its variables
vars_in : (program : Checked) (d : Draft) → 0 < d.id → DraftIn program d →
    VarsIn program d.id d.vars
vars_in program d lt has k type_id at =
    let of = local_at has.proc.locals d.vars k type_id has.locals at in
    ap (root_typing program d.id) (own_is_local d.id k lt)
    ∙ ap (λ o. typing.typed (is_declared_in o (root.Local k)) (type_in o (root.Local k))) has.there
    ∙ ap (λ b. typing.typed b (type_at (λ (l : Local). l.type_id) has.proc.locals k))
    (lt-ltb k (length has.proc.locals) of.0) ∙ ap (typing.typed true) of.1

procedure_there : (program : Checked) (d : Draft) → ValuesAreScalars d.params → DraftIn program d →
    HasProcedure program d.id d.params
procedure_there program d scalars has =
    record { proc = has.proc; there = has.there; alike = has.params; scalars = scalars }

record ProcRead (p : Place) (name : ℕ) (body : List Stmt) (bs : List (List Stmt))
    (inside : Place × List Param) (d : Declared) (done : List RStmt) : Type 0 where
  head : HeadingBehind p inside
  decls : DeclsBehind inside.0 bs d
  read : each d.place [] (map statement body) ≡ Ok done

proc_good : (p : Place) (name : ℕ) (body : List Stmt) (bs : List (List Stmt))
    (inside : Place × List Param) (d : Declared) (done : List RStmt) → Sound p →
    ProcRead p name body bs inside d done
    → ProcsBehind p (proc_read name body p.here inside d done d.place).0 (body ∷ bs)
    (proc_read name body p.here inside d done d.place).1 Nothing
proc_good p name body bs inside d done sound of =
    let head = of.head in
    let behind = of.decls.behind in
    let n = nodes_of d.place.tokens body in
    let draft = drafted d.place.here name inside.1 d.vars n done in
    let end = left_sound d.place p.here behind.sound in
    let id : d.place.here ≡ length p.headings = behind.here ∙ head.here in
    let tokens = behind.tokens ∙ head.tokens in
    let one = ap length head.headings in
    let more = behind.count in
    let some = sound.begun in
    let positive : 0 < d.place.here = omega (arith, some, id) in
    let headings : length inside.0.headings ≡ suc (length p.headings) =
    omega (arith, one, length-append p.headings (inside.1 ∷ [])) in
    record {
      more = head.more ++ behind.more;
      grown = behind.grown ∙ ap (λ ts. ts ++ behind.more) head.grown
          ∙ append_assoc p.types head.more behind.more;
      here = refl;
      tokens = tokens;
      read = (
        record {
          place = d.place;
          read = of.read;
          nodes =
              ap (λ ts. nodes_of ts body) tokens;
        },
        subst (λ ts. ReadFrom ts bs d.procs) head.tokens
            behind.read,
      );
      count = omega (arith, headings, more);
      more_nodes = behind.more_nodes ++ n ∷ [];
      nodes = ap (λ ns. ns ++ n ∷ []) (behind.nodes ∙ ap (λ ns. ns ++ behind.more_nodes) head.nodes)
          ∙ append_assoc p.nodes behind.more_nodes (n ∷ []);
      counted = (
        among_last d.place.nodes n,
        counted_more d.place.nodes (n ∷ [])
            (d.place.nodes ++ n ∷ []) d.procs refl behind.counted,
      );
      sound = record {
        formed = end.formed;
        scope = end.scope;
        outer = end.outer;
        begun =
            end.begun;
      };
      drafts = ((of.decls.vars, head.scalars), behind.drafts);
      numbered = (id, subst (λ n. Numbered n d.procs) headings behind.numbered);
      typed = λ program types all given shows.
          let has = subst (λ n. HasProcedure program n inside.1) id
          (procedure_there program draft head.scalars all.0) in
          let vars = subst (λ h. VarsIn program h d.vars) behind.here
          (vars_in program draft positive all.0) in
          let both = behind.typed program types all.1 vars (head.shows program has shows) in
          let around = left_shows program d.place p.here both.0 in
          let fits = fitting program d.place behind.sound types both.0 in (
            record { headings = around.headings; scope = around.scope; outer = around.outer },
            (body_typed program d.place fits body done of.read, both.1),
          );
    }

proc_behind : (name close : ℕ) (ss : List Section) (bs : List (List Stmt)) (f : DeclsResult) →
    GoodDecls bs f → (body : List Stmt) → (p : Place) → Sound p → (r : Place × List Draft)
    → (heading p name ss >>= λ inside. f inside.0 >>= λ d. each d.place [] (map statement body) >>=
    λ done. closed 2 d.place name close >>= λ end.
    Ok (proc_read name body p.here inside d done end)) ≡ Ok r →
    ProcsBehind p r.0 (body ∷ bs) r.1 Nothing
proc_behind name close ss bs f good body p sound r is =
    let result = proc_read name body p.here in
    let one = came_of (heading p name ss)
    (λ inside. f inside.0 >>= λ d. each d.place [] (map statement body) >>= λ done. closed 2
    d.place name close >>= λ end. Ok (result inside d done end)) r is in
    let two = came_of (f one.0.0)
    (λ d. each d.place [] (map statement body) >>= λ done. closed 2 d.place name close >>=
    λ end. Ok (result one.0 d done end)) r one.2 in
    let three = came_of (each two.0.place [] (map statement body))
    (λ done. closed 2 two.0.place name close >>= λ end. Ok (result one.0 two.0 done end)) r
    two.2 in
    let four = came_of (closed 2 two.0.place name close)
    (λ end. Ok (result one.0 two.0 three.0 end)) r three.2 in
    let head = heading_behind p name ss one.0 sound one.1 in
    let decls = good.gives one.0.0 head.sound two.0 two.1 in
    let same = closed_is 2 two.0.place name close four.0 four.1 in
    subst (λ (z : Place × List Draft). ProcsBehind p z.0 (body ∷ bs) z.1 Nothing)
    (ap (result one.0 two.0 three.0) same ∙ ok_same (result one.0 two.0 three.0 four.0) r
    four.2)
    (proc_good p name body bs one.0 two.0 three.0 sound
    (record { head = head; decls = decls; read = three.1 }))

-- ---- trees

abbrev OfDecls : Decls → Type 0
OfDecls x = GoodDecls (bodies_in x) (declarations x)

abbrev OfProc : Proc → Type 0
OfProc x = GoodProc (bodies_of x) (procedure x)

procs_good : (xs : List ((x : Proc) × OfProc x)) → AllProcs (map bodies_of (map (λ x. x.0) xs))
    (map procedure (map (λ x. x.0) xs))
procs_good [] = tt
procs_good (x ∷ xs) = (x.1, procs_good xs)

decls_from : (x : Decls) (bs : List (List Stmt)) (f : DeclsResult) → bodies_in x ≡ bs →
    declarations x ≡ f → GoodDecls bs f → OfDecls x
decls_from x bs f bodies is good = subst (λ b. GoodDecls b (declarations x)) (sym bodies)
    (subst (GoodDecls bs) (sym is) good)

proc_from : (x : Proc) (bs : List (List Stmt)) (f : ProcResult) → bodies_of x ≡ bs → procedure x ≡
    f → GoodProc bs f → OfProc x
proc_from x bs f bodies is good = subst (λ b. GoodProc b (procedure x)) (sym bodies)
    (subst (GoodProc bs) (sym is) good)

decls_case : (cs : List ConstDecl) (ts : List TypeDecl) (vs : List NameList)
    (xs : List ((x : Proc) × OfProc x)) →
    OfDecls (roll-Decls (record { consts = cs; types = ts; vars = vs; procs = map (λ x. x.0) xs }))
decls_case cs ts vs xs =
    let procs = map (λ x. x.0) xs in
    let y : Decls-F Decls Proc = record { consts = cs; types = ts; vars = vs; procs = procs } in
    decls_from (roll-Decls y) _ _
    (fold-roll-Decls (List (List Stmt)) (List (List Stmt)) decls_bodies proc_bodies y)
    (fold-roll-Decls DeclsResult ProcResult decls_step proc_step y)
    (record {
      gives = λ p sound d is. decls_behind cs ts vs (map bodies_of procs)
          (map procedure procs) (procs_good xs) p sound d is;
    })

proc_case : (span : Span) (name close : ℕ) (ss : List Section) (x : (x : Decls) × OfDecls x)
    (body : List Stmt) → OfProc
    (roll-Proc (record {
      span = span;
      name = name;
      params = ss;
      decls = x.0;
      body = body;
      close =
          close;
    }))
proc_case span name close ss x body =
    let y : Proc-F Decls Proc =
    record { span = span; name = name; params = ss; decls = x.0; body = body; close = close } in
    proc_from (roll-Proc y) _ _
    (fold-roll-Proc (List (List Stmt)) (List (List Stmt)) decls_bodies proc_bodies y)
    (fold-roll-Proc DeclsResult ProcResult decls_step proc_step y)
    (record {
      gives = λ p sound r is. proc_behind name close ss (bodies_in x.0) (declarations x.0)
          x.1 body p sound r is;
    })

declarations_good : (x : Decls) → OfDecls x
declarations_good = ind-Decls OfDecls OfProc
    (λ x y is. subst (λ z. OfDecls (roll-Decls z)) is (decls_case y.consts y.types y.vars y.procs))
    (λ x y is. subst (λ z. OfProc (roll-Proc z)) is
    (proc_case y.span y.name y.close y.params y.decls y.body))

-- ---- modules

pub beginning_sound : (bytes : List ℕ) (tokens : List Token) → Sound (beginning bytes tokens)
beginning_sound bytes tokens = record {
  formed = record {
    ordered = record { first = refl; second = refl; below = λ k shape at. plain k shape at };
    parallel = refl;
    named = λ k fs at. absurd (no_record k fs at);
    counted = λ k count element at. absurd (no_array k count element at);
  };
  scope = tt;
  outer = tt;
  begun = omega arith;
}
  where
    plain : (k : ℕ) (shape : Shape) → slice_get (Integer ∷ Boolean ∷ []) k ≡ Some shape →
        NamesBelow k shape
    plain zero shape at = subst (NamesBelow 0) (some_same Integer shape at) tt
    plain (suc zero) shape at = subst (NamesBelow 1) (some_same Boolean shape at) tt
    plain (suc (suc k)) shape at = absurd (none_some at)

    no_record : (k : ℕ) (fs : List ℕ) → slice_get (Integer ∷ Boolean ∷ []) k ≡ Some (Record fs) → ⊥
    no_record zero fs at = cc
    no_record (suc zero) fs at = cc
    no_record (suc (suc k)) fs at = none_some at

    no_array : (k count element : ℕ) → slice_get (Integer ∷ Boolean ∷ []) k ≡
        Some (Array count element) → ⊥
    no_array zero count element at = cc
    no_array (suc zero) count element at = cc
    no_array (suc (suc k)) count element at = none_some at

pub beginning_shows : (program : Checked) (bytes : List ℕ) (tokens : List Token) →
    HasProcedure program 0 [] → Shows program (beginning bytes tokens)
beginning_shows program bytes tokens body = record { headings = headings; scope = tt; outer = tt }
  where
    headings : (id : ℕ) (params : List Param) → slice_get ([] ∷ []) id ≡ Some params →
        HasProcedure program id params
    headings zero params at = subst (HasProcedure program 0) (some_same [] params at) body
    headings (suc id) params at = absurd (none_some at)

-- What a module is read as: formed types, variables of types that are there, value parameters that
-- are scalars, and procedures by their numbers, whose bodies are typed.
pub record ReadingSound (r : Reading) : Type 0 where
  pub ordered : TypesInOrder r.place.types
  pub vars : AllBelow (length r.place.types) r.vars
  pub drafts : AllDrafts (length r.place.types) r.procs
  -- the body of the module comes first, and has neither parameters nor locals
  pub body : Draft
  pub procs : List Draft
  pub first : r.procs ≡ body ∷ procs
  pub id : body.id ≡ 0
  pub no_params : body.params ≡ []
  pub no_locals : body.vars ≡ []
  pub numbered : Numbered 1 procs
  -- what the limits are tested on has the arrays and the procedures
  pub arrays : (k count element : ℕ) → slice_get r.place.types k ≡ Some (Array count element) →
      IsAmong count r.place.lengths
  pub counted : AllCounted r.place.nodes r.procs
  pub typed : (program : Checked) → TypesIn program r.place.types → AllIn program procs →
      VarsIn program 0 r.vars → HasProcedure program 0 [] → AllTyped program (body ∷ procs)

abbrev module_read : List Token → Module → Declared → List RStmt → Place → Reading
module_read tokens m d done end =
    record {
      place = with_nodes end (nodes_of tokens m.body);
      vars = d.vars;
      procs =
          drafted 0 m.name [] [] (nodes_of tokens m.body) done ∷ d.procs;
    }

pub reading_sound : (bytes : List ℕ) (tokens : List Token) (m : Module) (r : Reading) →
    reading bytes tokens m ≡ Ok r → ReadingSound r
reading_sound bytes tokens m r is =
    let result = module_read tokens m in
    let begin = beginning bytes tokens in
    let one = came_of (declarations m.decls begin)
    (λ d. each d.place [] (map statement m.body) >>= λ done. closed 1 d.place m.name m.close >>=
    λ end. Ok (result d done end)) r is in
    let two = came_of (each one.0.place [] (map statement m.body))
    (λ done. closed 1 one.0.place m.name m.close >>= λ end. Ok (result one.0 done end)) r
    one.2 in
    let three = came_of (closed 1 one.0.place m.name m.close) (λ end. Ok (result one.0 two.0 end)) r
    two.2 in
    let n = nodes_of tokens m.body in
    let decls = (declarations_good m.decls).gives begin (beginning_sound bytes tokens) one.0
    one.1 in
    let behind = decls.behind in
    let same = closed_is 1 one.0.place m.name m.close three.0 three.1 in
    subst ReadingSound (ap (result one.0 two.0) same ∙ ok_same (result one.0 two.0 three.0) r
    three.2) (record {
      ordered = behind.sound.formed.ordered;
      vars = decls.vars;
      drafts = ((no_vars (length one.0.place.types), tt), behind.drafts);
      body = drafted 0 m.name [] [] (nodes_of tokens m.body) two.0;
      procs = one.0.procs;
      first = refl;
      id = refl;
      no_params = refl;
      no_locals = refl;
      numbered = behind.numbered;
      arrays = behind.sound.formed.counted;
      counted = (
        among_last one.0.place.nodes n,
        counted_more one.0.place.nodes (n ∷ [])
            (one.0.place.nodes ++ n ∷ []) one.0.procs refl behind.counted,
      );
      typed = λ program types all vars body.
          let both = behind.typed program types all vars (beginning_shows program bytes tokens body)
          in
          let fits = fitting program one.0.place behind.sound types both.0 in (
            subst (λ h. are_typed program h two.0 ≡ true) behind.here
                (body_typed program one.0.place fits m.body two.0 two.1),
            both.1,
          );
    })

-- Each body is read from one of the tree.
pub reading_read : (bytes : List ℕ) (tokens : List Token) (m : Module) (r : Reading) →
    reading bytes tokens m ≡ Ok r → ReadFrom tokens (m.body ∷ bodies_in m.decls) r.procs
reading_read bytes tokens m r is =
    let result = module_read tokens m in
    let begin = beginning bytes tokens in
    let one = came_of (declarations m.decls begin)
    (λ d. each d.place [] (map statement m.body) >>= λ done. closed 1 d.place m.name m.close >>=
    λ end. Ok (result d done end)) r is in
    let two = came_of (each one.0.place [] (map statement m.body))
    (λ done. closed 1 one.0.place m.name m.close >>= λ end. Ok (result one.0 done end)) r
    one.2 in
    let three = came_of (closed 1 one.0.place m.name m.close) (λ end. Ok (result one.0 two.0 end)) r
    two.2 in
    let decls = (declarations_good m.decls).gives begin (beginning_sound bytes tokens) one.0
    one.1 in
    subst (λ (z : Reading). ReadFrom tokens (m.body ∷ bodies_in m.decls) z.procs)
    (ok_same (result one.0 two.0 three.0) r three.2)
    (record { place = one.0.place; read = two.1; nodes = refl }, decls.behind.read)
