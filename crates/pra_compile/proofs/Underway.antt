-- The procedures of code that are compiled, one after the other.
use Rattle.std.proofs.Common.{◌≡◌, ℕ, ◌+◌, ◌<◌, ◌≤◌, List, [], ◌∷◌, ◌++◌, length, map, Some}
use Rattle.std.proofs.Common.{refl, sym, ap, subst, ◌∙◌, arith}
use Rattle.std.specs.Prelude.{slice_get, option_map}
use Rattle.std.proofs.lemmas.List.{length-map, length_push, map-append}
use Rattle.std.proofs.lemmas.Option.{slice_get-map}
use Rattle.std.proofs.lemmas.Simd.{map-map}
use Rattle.pra_list.proofs.Elements.{got_last}
use Rattle.pra_list.proofs.Options.{some_same}
use Rattle.cert_form.specs.declared.codes.CodeFile.{CodeFile}
use Rattle.cert_form.specs.declared.codes.NamedCode.{NamedCode}
use Rattle.ia_asm.specs.declared.counting.CountedAssembly.{CountedAssembly}
use Rattle.ia_asm.specs.Assembly.{IsCounted}
use Rattle.net_form.specs.declared.net.Net.{Net}
use Rattle.net_form.specs.declared.prices.Prices.{Prices}
use Rattle.pl_place.specs.Behind.{flow_frame}
use Rattle.pl_place.specs.Placed.{frame_size}
use Rattle.pl_routed.specs.Routed.{routed}
use Rattle.vc_typed.proofs.Lists.{got}
use Rattle.pra_follow.specs.Codes.{Carriage, IsCarriage}
use Rattle.pra_follow.proofs.Sides.{same_maps}
use Rattle.pra_report.specs.declared.report.ProcOut.{ProcOut}
use Rattle.pra_compile.specs.declared.compiling.CompiledProc.{CompiledProc}
use Rattle.pra_compile.specs.Compiled.{IsProcBy, ArePlacedBy, codes_in, codes_of, frames_of}
use Rattle.pra_compile.specs.Compiled.{placed_of}
use Rattle.pra_compile.specs.CompiledProcs.{named_of, IsCompiledProc, AreUnderway}
use Rattle.pra_compile.specs.Leaving.{Leaving}

-- ---- lists

mapped_push : {A B : Type 0} (f : A → B) (xs : List A) (x : A) (left : List B) →
    map f (xs ++ x ∷ []) ++ left ≡ map f xs ++ f x ∷ left
mapped_push f [] x left = refl
mapped_push f (y ∷ ys) x left = ap (λ l. f y ∷ l) (mapped_push f ys x left)

none_behind : {A : Type 0} (xs left : List A) → length left ≡ 0 → xs ++ left ≡ xs
none_behind [] [] none = refl
none_behind [] (y ∷ ys) none = absurd (omega (arith, none))
none_behind (x ∷ xs) left none = ap (λ l. x ∷ l) (none_behind xs left none)

-- ---- on the way

pub none_compiled : (file : CodeFile) (leaves : Leaving) (assembly : CountedAssembly) →
    IsCounted [] file.data_words assembly → AreUnderway file leaves [] file.procs assembly
none_compiled file leaves assembly is = record {
  carriages = [];
  are = λ k c e. cc;
  count = refl;
  each = λ p named out c e f g. cc;
  same = refl;
  counted = is;
}

module _ (file : CodeFile) (leaves : Leaving) (procs : List ProcOut) (named : NamedCode)
    (all left : List NamedCode) (old : CountedAssembly)
    (are : AreUnderway file leaves procs all old) (next : all ≡ named ∷ left) where
  here : map named_of procs ++ named ∷ left ≡ file.procs
  here = subst (λ l. map named_of procs ++ l ≡ file.procs) next are.same

  -- the next procedure of the file
  pub next_there : (k : ℕ) → k ≡ length procs → slice_get file.procs k ≡ Some named
  next_there k at =
      subst (λ (l : List NamedCode). slice_get l k ≡ Some named) here
      (subst (λ n. slice_get (map named_of procs ++ named ∷ left) n ≡ Some named)
      (length-map procs named_of ∙ sym at) (got_last (map named_of procs) named left))

  pub next_code : (k : ℕ) → k ≡ length procs → slice_get (codes_in file) k ≡ Some named.code
  next_code k at =
      slice_get-map (λ (n : NamedCode). n.code) file.procs k
      ∙ ap (option_map (λ (n : NamedCode). n.code)) (next_there k at)

  module _ (compiled : CompiledProc) (is : IsCompiledProc leaves (length procs) named compiled)
    where
      is_next : (other : NamedCode) → slice_get file.procs (length procs) ≡ Some other →
          IsProcBy leaves (length procs) other compiled.out is.carriage
      is_next other e = subst (λ n. IsProcBy leaves (length procs) n compiled.out is.carriage)
          (some_same named other (sym (next_there (length procs) refl) ∙ e)) is.kept

      pub one_compiled : (new : CountedAssembly) →
          IsCounted (placed_of are.carriages ++ compiled.placed ∷ []) file.data_words new →
          AreUnderway file leaves (procs ++ compiled.out ∷ []) left new
      one_compiled new counted =
          let cs = are.carriages in
          let long = length_push cs is.carriage in
          let many = length_push procs compiled.out in
          let count = are.count in
          record {
            carriages = cs ++ is.carriage ∷ [];
            are = λ k c e. got cs is.carriage c k e (λ lt there. are.are k c there)
                (λ at same. subst IsCarriage same is.is);
            count = omega (arith, long, many, count);
            each = λ p other out c e f g.
                got procs compiled.out out p f
                (λ lt there.
                got cs is.carriage c p g
                (λ less here. are.each p other out c e there here)
                (λ at same. absurd (omega (arith, lt, at, count))))
                (λ at same.
                got cs is.carriage c p g
                (λ less here. absurd (omega (arith, less, at, count)))
                (λ here carriage. subst (λ k. IsProcBy leaves k other out c) (sym at)
                (subst (λ o. IsProcBy leaves (length procs) other o c) same
                (subst (λ d. IsProcBy leaves (length procs) other compiled.out d) carriage
                (is_next other (subst (λ k. slice_get file.procs k ≡ Some other) at e))))));
            same = mapped_push named_of procs compiled.out left
                ∙ ap (λ n. map named_of procs ++ n ∷ left) same_named ∙ here;
            counted =
                subst (λ l. IsCounted l file.data_words new)
                (ap (λ p. placed_of cs ++ p ∷ []) (sym is.placed)
                ∙ sym (map-append (λ (c : Carriage). c.placed) cs (is.carriage ∷ [])))
                counted;
          }
        where
          same_named : named_of compiled.out ≡ named
          same_named = λ i. record { name = is.kept.name i; code = is.kept.code i }

-- ---- one procedure

pub compiled_so : (leaves : Leaving) (p : ℕ) (named : NamedCode) (net : Net) (prices : Prices)
    (compiled : CompiledProc) → compiled.out.prices ≡ prices →
    IsCarriage (record {
      code = compiled.out.code;
      net = net;
      routes = compiled.out.routes;
      placed = compiled.placed;
    }) → leaves p net compiled.out.routes prices compiled.out.lines →
    compiled.out.name ≡ named.name → compiled.out.code ≡ named.code →
    compiled.out.frame ≡ frame_size compiled.placed →
    frame_size compiled.placed ≡ flow_frame (routed compiled.out.code net compiled.out.routes) →
    IsCompiledProc leaves p named compiled
compiled_so leaves p named net prices compiled same_prices is left name code frame of_flow = record {
  carriage = record {
    code = compiled.out.code;
    net = net;
    routes = compiled.out.routes;
    placed = compiled.placed;
  };
  is = is;
  placed = refl;
  kept = record {
    name = name;
    code = code;
    carried = refl;
    routes = refl;
    allocated = subst (λ (q : Prices). leaves p net compiled.out.routes q compiled.out.lines)
        (sym same_prices) left;
    frame = frame ∙ of_flow;
    placed_frame = frame;
  };
}

-- ---- at the end

module _ (file : CodeFile) (leaves : Leaving) (procs : List ProcOut) (left : List NamedCode)
    (assembly : CountedAssembly) (are : AreUnderway file leaves procs left assembly)
    (none : length left ≡ 0) where
  same_procs : map named_of procs ≡ file.procs
  same_procs = sym (none_behind (map named_of procs) left none) ∙ are.same

  pub count : length procs ≡ length file.procs
  count = sym (length-map procs named_of) ∙ ap length same_procs

  -- the code that is carried is that of the file
  one : (k : ℕ) (out : ProcOut) (c : Carriage) → slice_get procs k ≡ Some out →
      slice_get are.carriages k ≡ Some c → IsProcBy leaves k (named_of out) out c
  one k out c e f = are.each k (named_of out) out c
      (sym (ap (λ (l : List NamedCode). slice_get l k) same_procs)
      ∙ slice_get-map named_of procs k ∙ ap (option_map named_of) e) e f

  pub same_frames : map (λ (c : Carriage). frame_size c.placed) are.carriages ≡ frames_of procs
  same_frames = same_maps (λ (c : Carriage). frame_size c.placed) (λ (out : ProcOut). out.frame)
      are.carriages procs (sym are.count) (λ k c out e f. sym (one k out c f e).placed_frame)

  pub kept_codes : codes_of procs ≡ codes_in file
  kept_codes = sym (map-map (λ (n : NamedCode). n.code) named_of procs)
      ∙ ap (map (λ (n : NamedCode). n.code)) same_procs

  pub carried_codes : map (λ (c : Carriage). c.code) are.carriages ≡ codes_in file
  carried_codes = same_maps (λ (c : Carriage). c.code) (λ (out : ProcOut). out.code) are.carriages
      procs (sym are.count) (λ k c out e f. (one k out c f e).carried) ∙ kept_codes

  abbrev pub are_placed : ArePlacedBy file leaves procs
  are_placed = record {
    carriages = are.carriages;
    are = are.are;
    codes = kept_codes;
    count = count;
    carriage_count = are.count;
    each = are.each;
  }
